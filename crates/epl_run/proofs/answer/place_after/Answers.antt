use Rattle.std.proofs.Common.{◌≡◌, ◌<◌, length, true, false, ap, ◌∙◌, rules, get_or}
use Rattle.eden_value.specs.Shape.{shape}
use Rattle.eden_value.specs.View.{datums}
use Rattle.epl_syntax.specs.Tree.{type_tree}
use Rattle.epl_values.specs.Variables.{memory}
use Rattle.epl_run.proofs.Replies.{one_more}
use Rattle.epl_run.proofs.answer.place_after.Goals as goal

pub returns-then-has_kind : goal.returns-then-has_kind
returns-then-has_kind c names =
    let within : c.args.next < length c.deref.result.now = search (rules, c.in-Some-get.ensures.lookup) in
    let at : c.in-Some-get.value.now ≡ get_or c.deref.result.now c.args.next c.in-Some-get.value.now =
    search (rules, c.in-Some-get.ensures.lookup) in
    one_more c.deref.result.now c.args.results.now c.args.next (memory (type_tree c.args.program.now) c.args.vars.now)
    c.args.name.now.text names
    c.in-Some-get.value.now (shape c.in-Some.kind.now) true (ap datums c.deref.ensures.value ∙ c.results.view_is) c.in-Some.ensures
    within at c.if-has_kind.ensures

pub returns-else-has_kind : goal.returns-else-has_kind
returns-else-has_kind c names =
    let within : c.args.next < length c.deref.result.now = search (rules, c.in-Some-get.ensures.lookup) in
    let at : c.in-Some-get.value.now ≡ get_or c.deref.result.now c.args.next c.in-Some-get.value.now =
    search (rules, c.in-Some-get.ensures.lookup) in
    one_more c.deref.result.now c.args.results.now c.args.next (memory (type_tree c.args.program.now) c.args.vars.now)
    c.args.name.now.text names
    c.in-Some-get.value.now (shape c.in-Some.kind.now) false (ap datums c.deref.ensures.value ∙ c.results.view_is) c.in-Some.ensures
    within at c.if-has_kind.ensures
