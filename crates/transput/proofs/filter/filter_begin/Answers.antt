use Rattle.std.proofs.Common.{rules}
use Rattle.transput.proofs.filter.filter_begin.Goals as goal

pub returns-then-is_called : goal.returns-then-is_called
returns-then-is_called c = search rules

pub returns : goal.returns
returns c = search rules
