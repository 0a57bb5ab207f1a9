use Rattle.std.proofs.Common.{rules}
use Rattle.transput.proofs.rule.Rule.is_over.Goals as goal

pub returns-in-Take : goal.returns-in-Take
returns-in-Take c = search rules
