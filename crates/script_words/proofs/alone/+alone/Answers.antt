use Rattle.std.proofs.Common.{◌∙◌, ap, List, map}
use Rattle.eden_value.specs.Datum.{Datum, list, data_of}
use Rattle.eden_value.specs.View.{datum}
use Rattle.script_words.proofs.Rows.{value_of_list}
use Rattle.script_words.proofs.alone.+alone.Goals as goal

pub value_of-returns-in_ok-items-in-List : goal.value_of-returns-in_ok-items-in-List
value_of-returns-in_ok-items-in-List t c =
    ap (λ (ds : List Datum). list (data_of ds)) c.in_ok-items-in-List.ensures
    ∙ value_of_list c.args.arg.now c.in-List.items c.items.inside.args.items c.deref.result.now
    (map datum c.in_ok-values-in-List.values.items) c.in-List.is c.items.view_is c.deref.ensures.value c.in_ok-values-in-List.ensures
