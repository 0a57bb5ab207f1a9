use Rattle.std.proofs.Common.{◌≡◌, drop, map}
use Rattle.std.specs.List.{list_all}
use Rattle.script_words.specs.Form.{is_among}
use Rattle.script_words.specs.Tree.{row_of}
use Rattle.script_words.specs.Causes.{names_of}
use Rattle.script_words.specs.View.{written}
use Rattle.eden_script.proofs.line.+known.Given as goal

abbrev pub invariant-values_known-loop-arg : goal.invariant-values_known-loop-arg
invariant-values_known-loop-arg l =
    list_all (is_among l.names) (names_of (row_of (map written (drop l.arg-index l.args)))) ≡ list_all (is_among l.names)
    (names_of (row_of (map written l.args)))
