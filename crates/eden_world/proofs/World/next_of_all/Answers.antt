use Rattle.std.proofs.Common.{sym, ◌∙◌}
use Rattle.journal.specs.Enabled.{enabled}
use Rattle.eden_world.proofs.KeySteps.{follows-found, follows-first}
use Rattle.eden_world.proofs.World.next_of_all.Goals as goal

pub returns-in-Some : goal.returns-in-Some
returns-in-Some g c = λ more w reached stands.
    follows-found c.args.last (enabled w) c.in-Some.key (sym c.in-Some.is ∙ c.next.ensures more w reached stands)

pub returns-in-None : goal.returns-in-None
returns-in-None g c = λ more w reached stands.
    follows-first c.args.last (enabled w) _ (sym c.in-None.is ∙ c.next.ensures more w reached stands)
    (c.next-in-None.ensures more w reached stands)
