use Rattle.std.proofs.Common.{◌∙◌}
use Rattle.journal.specs.Enabled.{enabled}
use Rattle.eden_world.proofs.Due.{followed-there}
use Rattle.eden_world.proofs.World.key_following.Goals as goal

pub returns-clause-follows : goal.returns-clause-follows
returns-clause-follows g c = λ more w reached stands.
    let is = c.next_of_all.ensures more w reached stands in
    c.with_turn.ensures.same more w reached stands (followed-there c.args.last (enabled w) _ is) ∙ is
