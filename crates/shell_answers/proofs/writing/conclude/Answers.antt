use Rattle.shell_answers.proofs.Delivered.{either-part}
use Rattle.shell_answers.proofs.writing.conclude.Goals as goal

pub returns-clause-part : goal.returns-clause-part
returns-clause-part g c = either-part c.write_history.result _ _ _ c.write_history.ensures.all c.write_history.ensures.part
