use Rattle.journal.proofs.FitValues.{arguments-are-values, components-are-texts, held-are-ejects}
use Rattle.journal.proofs.fit.a_fit_command_hands_values.Goals as goal

pub returns : goal.returns
returns c = record { arguments = arguments-are-values; path = components-are-texts; held = held-are-ejects }
