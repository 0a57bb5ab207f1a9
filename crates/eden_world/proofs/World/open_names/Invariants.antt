use Rattle.eden_world.proofs.OpenCalls.{Lists}
use Rattle.eden_world.proofs.World.open_names.Given as goal

-- the names so far and those of the calls that are left are all
abbrev pub invariant-loop-asked : goal.invariant-loop-asked
invariant-loop-asked g l = Lists l.names.items l.asked-index l.calls
