use Rattle.std.proofs.Common.{◌≡◌, true, false, refl, sym, ◌∙◌}
use Rattle.std.proofs.lemmas.Bool.{not-true, not-false}
use Rattle.eden_kernel.proofs.Node.may_activate.Goals as goal

pub returns-then-not-is_eject : goal.returns-then-not-is_eject
returns-then-not-is_eject g c ts = (
  λ no. absurd (cc no),
  λ may. absurd (let bad : true ≡ false = sym (c.is_eject.ensures.1 may.own) ∙ c.if-not-is_eject.true in cc bad),
)

pub returns-then-not-may : goal.returns-then-not-may
returns-then-not-may g c ts =
    let stays : c.may.result.wake ≡ false = not-true c.may.result.wake c.if-not-may.true in (
      λ no. absurd (cc no),
      λ may. absurd (let bad : true ≡ false = sym may.wakes ∙ sym (c.may.ensures.wake ts) ∙ stays in cc bad),
    )

pub returns-then-is_worked_on : goal.returns-then-is_worked_on
returns-then-is_worked_on g c ts = (
  λ no. absurd (cc no),
  λ may. absurd (may.free (c.is_worked_on.ensures.same c.if-is_worked_on.true)),
)

pub returns : goal.returns
returns g c ts = (
  λ yes. record {
    own = c.is_eject.ensures.0 c.if-not-is_eject.false;
    wakes = sym (c.may.ensures.wake ts) ∙ not-false c.may.result.wake c.if-not-may.false;
    free = c.is_worked_on.ensures.other c.if-is_worked_on.false;
  },
  λ may. refl,
)
