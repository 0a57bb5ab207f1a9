use Rattle.std.proofs.Common.{◌≡◌, ◌+◌, ◌-◌, None, Some, drop, sym, ap, ◌∙◌}
use Rattle.std.proofs.lemmas.List.{drop_all}
use Rattle.std.specs.Option.{option_map}
use Rattle.eden_value.specs.Datum.{list, data_of}
use Rattle.eden_value.specs.View.{datum, datums}
use Rattle.journal.specs.Argument.{arguments_of}
use Rattle.journal.specs.ArgumentView.{given, givens}
use Rattle.journal.specs.References.{value_of, values_of}
use Rattle.shell_names.specs.Shallow.{shallow, shallow_all}
use Rattle.shell_names.proofs.Depths.{before, list-read, one-more, stopped, next-item, all-read}
use Rattle.shell_names.proofs.arguments.+read.Goals as goal

pub read-returns-in_ok-items-in-Some : goal.read-returns-in_ok-items-in-Some
read-returns-in_ok-items-in-Some t c w h =
    let most = c.args.most in
    let gs = c.in-List.items in
    let found = c.in-Some.values.items in
    let seen : givens c.deref.result.now ≡ gs = ap givens c.deref.ensures.value ∙ c.items.view_is in
    let all : Some (datums found) ≡ shallow_all (most - 1) (values_of w (arguments_of gs)) =
    ap (option_map (λ v. datums v.items)) (sym c.in-Some.is) ∙ c.in_ok-values-in-List.ensures w h
    ∙ ap (λ l. shallow_all (most - 1) (values_of w (arguments_of l))) seen in
    ap (λ ds. Some (list (data_of ds))) c.in_ok-items-in-Some.ensures
    ∙ list-read most (values_of w (arguments_of gs)) (Some (datums found)) c.if-most-eq0.false all
    ∙ ap (λ a. shallow most (value_of w (given a))) (sym c.in-List.is)

pub read_all-returns-in-None : goal.read_all-returns-in-None
read_all-returns-in-None t c w h =
    let most = c.args.most in
    let args = c.args.args.now in
    let i = c.loop-arg.arg-index in
    let x = c.arg-item.result in
    let made = c.loop-arg.made.items in
    let later = values_of w (arguments_of (givens (drop (i + 1) args))) in
    let none : None ≡ shallow most (value_of w (given x)) = ap (option_map datum) (sym c.in-None.is) ∙ c.in_ok-value.ensures w h in
    sym (stopped most made (value_of w (given x)) later none)
    ∙ ap (λ l. before made (shallow_all most (values_of w (arguments_of (givens l)))))
    (sym (next-item args i x c.loop-arg-test.true c.arg-item.is))
    ∙ c.loop-arg.invariant w h

pub read_all-loop-arg-preserved : goal.read_all-loop-arg-preserved
read_all-loop-arg-preserved t c w h =
    let most = c.args.most in
    let args = c.args.args.now in
    let i = c.loop-arg.arg-index in
    let x = c.arg-item.result in
    let made = c.loop-arg.made.items in
    let v = c.in-Some.value in
    let later = values_of w (arguments_of (givens (drop (i + 1) args))) in
    let found : Some (datum v) ≡ shallow most (value_of w (given x)) =
    ap (option_map datum) (sym c.in-Some.is) ∙ c.in_ok-value.ensures w h in
    ap (λ l. before l (shallow_all most later)) c.in_ok-push-in-Some.ensures.items
    ∙ one-more most made v (value_of w (given x)) later found
    ∙ ap (λ l. before made (shallow_all most (values_of w (arguments_of (givens l)))))
    (sym (next-item args i x c.loop-arg-test.true c.arg-item.is))
    ∙ c.loop-arg.invariant w h

pub read_all-returns : goal.read_all-returns
read_all-returns t c w h =
    let most = c.args.most in
    let made = c.loop-arg.made.items in
    sym (all-read most made)
    ∙ ap (λ l. before made (shallow_all most (values_of w (arguments_of (givens l)))))
    (sym (drop_all c.loop-arg.arg-index c.args.args.now c.loop-arg-test.false))
    ∙ c.loop-arg.invariant w h
