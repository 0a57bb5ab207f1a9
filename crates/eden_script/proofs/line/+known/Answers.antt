use Rattle.std.proofs.Common.{◌∙◌, ap}
use Rattle.std.specs.List.{list_all}
use Rattle.script_words.specs.Form.{is_among}
use Rattle.script_words.proofs.Rows.{names_in_list}
use Rattle.eden_script.proofs.line.+known.Goals as goal

pub value_known-returns-in-List : goal.value_known-returns-in-List
value_known-returns-in-List t c =
    c.values_known.ensures
    ∙ ap (λ names. list_all (is_among c.args.names.now) names)
    (names_in_list c.args.arg.now c.in-List.items c.items.inside.args.items c.deref.result.now c.in-List.is c.items.view_is
    c.deref.ensures.value)
