use Rattle.move_world.proofs.Runs.{openings-step}
use Rattle.move_world.proofs.run.openings.Goals as goal

pub loop-n-preserved : goal.loop-n-preserved
loop-n-preserved c =
    openings-step c.loop-n.commands.items c.push.new.self.items c.loop-n.n c.loop-n.invariant c.in_ok-push.ensures.items
