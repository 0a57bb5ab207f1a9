use Rattle.line_forms.proofs.Fitting.{rows_are_fit}
use Rattle.line_forms.proofs.law.rows_are_fit.Goals as goal

pub returns : goal.returns
returns c = rows_are_fit
