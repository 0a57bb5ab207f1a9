use Rattle.std.proofs.Common.{rules}
use Rattle.script_words.proofs.Rows.{written_givens}
use Rattle.eden_script.proofs.command.call.Goals as goal

pub returns : goal.returns
returns c = rw (written_givens c.in_ok-args-2.args.items) (search rules)
