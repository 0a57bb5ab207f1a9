use Rattle.std.proofs.Common.{◌∙◌}
use Rattle.journal.specs.Enabled.{enabled}
use Rattle.eden_world.proofs.Due.{item-there}
use Rattle.eden_world.proofs.World.key_at.Goals as goal

pub returns-clause-chosen : goal.returns-clause-chosen
returns-clause-chosen g c = λ more w reached stands.
    let is = c.counted_round.ensures more w reached stands in
    c.with_turn.ensures.same more w reached stands (item-there c.args.i (enabled w) _ is) ∙ is
