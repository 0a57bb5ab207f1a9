-- The key at a place of a list of keys.
use Rattle.std.specs.Prelude.{ℕ, zero, suc, List, [], ◌∷◌}
use Rattle.std.specs.declared.ops.ControlFlow.{ControlFlow}
use Rattle.std.specs.declared.ops.ControlFlow.TheVariants.{Continue, Break}
use Rattle.journal.specs.declared.event.Key.{Key}

-- the key at this place, counted from 0, or the places that are left behind all keys
abbrev pub at_place : List Key → ℕ → ControlFlow Key ℕ
at_place [] place = Continue place
at_place (k ∷ ks) zero = Break k
at_place (k ∷ ks) (suc place) = at_place ks place
