use Rattle.std.proofs.Common.{ℕ, ◌<◌, get_or}
use Rattle.active_part.specs.declared.Doing.{Doing}
use Rattle.active_part.proofs.task_list.place_of.Given as goal

abbrev pub invariant-loop-place : goal.invariant-loop-place
invariant-loop-place l = (k : ℕ) (d : ℕ × Doing) → k < l.place → (get_or l.entries k d).0 < l.process
