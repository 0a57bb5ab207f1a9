use Rattle.std.proofs.Common.{◌≡◌, true, false, Option, None, Some, refl, sym, ◌∙◌}
use Rattle.std.specs.Prelude.{is_some}
use Rattle.node_tests.proofs.ejects_tests.Bench.wake.Goals as goal

none : {X : Type 0} (o : Option X) → is_some o ≡ false → o ≡ None
none None is = refl
none (Some x) is = absurd (let bad : true ≡ false = is in cc bad)

pub wake-requires : goal.wake-requires
wake-requires g c = λ ts. none _ (sym (c.is_active.ensures ts) ∙ c.if-is_active.false)
