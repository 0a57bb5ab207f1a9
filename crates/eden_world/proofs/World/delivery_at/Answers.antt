use Rattle.std.proofs.Common.{[], ◌∷◌, sym, ◌∙◌, ap}
use Rattle.journal.specs.declared.event.Key.{Key}
use Rattle.agenda.specs.Places.{at_place}
use Rattle.eden_world.proofs.KeySteps.{one-at, none-at}
use Rattle.eden_world.proofs.World.delivery_at.Goals as goal

pub returns-then-not-waiting : goal.returns-then-not-waiting
returns-then-not-waiting g c =
    none-at c.args.self.now.calls c.args.to c.args.from c.args.place (sym c.waiting.ensures ∙ c.if-not-waiting.true)

pub returns : goal.returns
returns g c =
    one-at c.args.self.now.calls c.args.to c.args.from c.args.place _ (sym c.waiting.ensures ∙ c.if-not-waiting.false)
    (c.key_or_left.ensures ∙ ap (λ (k : Key). at_place (k ∷ []) c.args.place) c.delivery.ensures)
