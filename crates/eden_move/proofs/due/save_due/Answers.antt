use Rattle.eden_value.specs.View.{datum}
use Rattle.eden_move.proofs.due.save_due.Goals as goal

pub returns-then-active-clause-answers : goal.returns-then-active-clause-answers
returns-then-active-clause-answers c u = c.put_here.ensures.save u (datum c.args.value)
