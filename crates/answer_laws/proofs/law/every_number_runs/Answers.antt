use Rattle.answer_laws.proofs.Numbers.{runs}
use Rattle.answer_laws.proofs.law.every_number_runs.Goals as goal

pub returns : goal.returns
returns c = runs c.every_number_has_a_script.ensures.clean
