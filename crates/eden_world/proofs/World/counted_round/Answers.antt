use Rattle.std.proofs.Common.{◌<◌, ◌%◌, ℕ, Option, sym, ◌∙◌, ap, subst}
use Rattle.std.specs.ControlFlow.{break_value}
use Rattle.std.specs.Option.{SomeIff}
use Rattle.journal.specs.Enabled.{enabled}
use Rattle.eden_world.proofs.KeySteps.{item-there, item-none, item-round}
use Rattle.eden_world.proofs.World.counted_round.Goals as goal

pub returns-in-Break : goal.returns-in-Break
returns-in-Break g c = λ more w reached stands.
    item-there (enabled w) c.args.place c.in-Break.key (sym c.in-Break.is ∙ c.enabled_at.ensures more w reached stands)

pub returns-in_err-checked_rem-in-Continue : goal.returns-in_err-checked_rem-in-Continue
returns-in_err-checked_rem-in-Continue g c = λ more w reached stands.
    let number = c.saturating_sub-number.result in
    let none = subst (λ (o : Option ℕ). SomeIff o (0 < number) (c.in-Continue.left % number)) c.in_err-checked_rem-in-Continue.was
    c.checked_rem.ensures in
    c.from_residual.ensures
    ∙ item-none (enabled w) c.args.place c.in-Continue.left (sym c.in-Continue.is ∙ c.enabled_at.ensures more w reached stands)
    (λ some. none (subst (λ (n : ℕ). 0 < n) (sym c.saturating_sub-number.ensures) some))

pub returns-in_ok-checked_rem-in-Continue : goal.returns-in_ok-checked_rem-in-Continue
returns-in_ok-checked_rem-in-Continue g c = λ more w reached stands.
    let number = c.saturating_sub-number.result in
    let round = subst (λ (o : Option ℕ). SomeIff o (0 < number) (c.in-Continue.left % number)) c.in_ok-checked_rem-in-Continue.was
    c.checked_rem.ensures in
    item-round (enabled w) c.args.place c.in-Continue.left c.in_ok-checked_rem-in-Continue.field-0 _
    (sym c.in-Continue.is ∙ c.enabled_at.ensures more w reached stands)
    (subst (λ (n : ℕ). 0 < n) c.saturating_sub-number.ensures round.0)
    (round.1 ∙ ap (λ (n : ℕ). c.in-Continue.left % n) c.saturating_sub-number.ensures)
    (c.break_value.ensures.value ∙ ap break_value (c.enabled_at-in-Continue.ensures more w reached stands))
