use Rattle.eden_world.specs.Seated.{FitsTogether}
use Rattle.world_tests.proofs.eden_world_tests.all_is_so.Given as goal

-- its parts fit together, as each question requires
abbrev pub invariant-asks : goal.invariant-asks
invariant-asks g l = FitsTogether g.St.Store.seen l.run.machine
