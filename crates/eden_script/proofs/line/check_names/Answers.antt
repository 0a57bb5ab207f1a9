use Rattle.std.proofs.Common.{rules}
use Rattle.eden_script.proofs.line.check_names.Goals as goal

pub returns-then-is_doubled : goal.returns-then-is_doubled
returns-then-is_doubled c = search rules
