use Rattle.eden_value.specs.View.{datum}
use Rattle.eden_move.proofs.due.make_due.Goals as goal

pub returns-then-matches-clause-answers : goal.returns-then-matches-clause-answers
returns-then-matches-clause-answers c u = c.put_here.ensures.make u (datum c.args.value)
