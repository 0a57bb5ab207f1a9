use Rattle.std.proofs.Common.{rules}
use Rattle.script_words.proofs.Rows.{args_row}
use Rattle.eden_script.proofs.line.uses_known.Goals as goal

pub returns-then-has : goal.returns-then-has
returns-then-has c =
    let row =
    args_row c.in-Call.args c.args-in-Call.inside.args.items c.deref.result.now c.args-in-Call.view_is
    c.deref.ensures.value in
    search (rules, row)
