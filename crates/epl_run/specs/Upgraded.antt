-- Which upgrade takes what is kept.
use Rattle.std.specs.Prelude.{ℕ, Bool, ◌==◌, ◌&&◌, List, map, Option, slice_get}
use Rattle.eden_value.specs.Datum.{Datum}
use Rattle.epl_syntax.specs.Kinds.{have_shapes}
use Rattle.epl_syntax.specs.Tree.{TypeTree, Upgrade}

-- it is from that version, and its parameters take the values
abbrev pub takes : Upgrade → ℕ → List Datum → Bool
takes u version values = (u.from.n == version) && have_shapes values (map (λ p. p.kind.shape) u.params)

-- the upgrade at a place, if there is one
abbrev pub upgrade_at : TypeTree → ℕ → Option Upgrade
upgrade_at t at = slice_get t.upgrades at
