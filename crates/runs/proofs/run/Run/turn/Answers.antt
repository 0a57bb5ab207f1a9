use Rattle.runs.proofs.Leading.{on-err, shown-left}
use Rattle.runs.proofs.Going.{turn-done, turn-fails}
use Rattle.runs.proofs.run.Run.turn.Goals as goal

pub returns-in_err-_took-clause-part : goal.returns-in_err-_took-clause-part
returns-in_err-_took-clause-part g c = on-err c.from_residual.result _
    (turn-fails g.M.Machine.stands g.M.Machine.did c.args.self.now c.take_turn.new.self c.args.i g.M.Machine.starved
    c.in_err-_took.ensures.fails c.in_err-_took.ensures.history)

pub returns-in_err-_took-clause-shown_part : goal.returns-in_err-_took-clause-shown_part
returns-in_err-_took-clause-shown_part g c = on-err c.from_residual.result _
    (shown-left g.M.Machine.shows g.M.Machine.whole g.M.Machine.leaves c.args.self.now c.take_turn.new.self
    c.in_err-_took.ensures.history c.in_err-_took.ensures.left)

pub returns-clause-done : goal.returns-clause-done
returns-clause-done g c = turn-done g.M.Machine.stands g.M.Machine.did c.args.self.now c.take_turn.new.self c.args.i c.in_ok-_took._took
    c.in_ok-_took.ensures.done
