use Rattle.std.proofs.Common.{true}
use Rattle.eden_move.proofs.Calling.{silent-went}
use Rattle.eden_move.proofs.node.MoveNode.save.Goals.{in-Ok, in-Err}
use Rattle.eden_move.proofs.node.MoveNode.save.Goals as goal

pub returns-clause-carries : goal.returns-clause-carries
returns-clause-carries g c tells fits x up s = elim c.match-carry.branch [
  | in-Ok w ↦ rw w.result-is (silent-went _ _ x _ true _ _ _ (λ e. e) (w.in-Ok.ensures.carries tells fits x up s))
  | in-Err w ↦ rw w.result-is (w.in-Err.ensures.carries tells fits x up s)
]

pub returns-clause-full : goal.returns-clause-full
returns-clause-full g c = elim c.match-carry.branch [
  | in-Ok w ↦ rw w.result-is w.in-Ok.ensures.full
  | in-Err w ↦ rw w.result-is w.in-Err.ensures.full
]
