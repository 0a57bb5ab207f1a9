use Rattle.std.proofs.Common.{List, ℕ, map, subst}
use Rattle.std.specs.Prelude.{IfOk}
use Rattle.mistakes.specs.Wanted.{IsSifted, MayStand, samples}
use Rattle.mistakes.proofs.find.wanted_at.Goals as goal

pub returns : goal.returns
returns c =
    subst (λ (t : List ℕ). IfOk c.wanted.result (λ v. IsSifted (MayStand t) samples (map (λ w. w.now) v.items)))
    c.before_place-before.ensures.bytes c.wanted.ensures
