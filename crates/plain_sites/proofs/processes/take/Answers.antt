use Rattle.epl_syntax.specs.Rules.OfTypes.{native_only}
use Rattle.plain_sites.proofs.processes.take.Goals as goal

pub turn-requires : goal.turn-requires
turn-requires c = (c.runs.ensures native_only).0 c.if-runs.true
