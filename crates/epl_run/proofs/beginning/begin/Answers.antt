use Rattle.std.proofs.Common.{◌≡◌, ◌<◌, Some, None, length, map, ap, sym, ◌∙◌}
use Rattle.std.proofs.lemmas.Result.{IfOk-weaker}
use Rattle.epl_syntax.specs.Tree.{type_tree, local_of}
use Rattle.epl_syntax.specs.Turns.{operation_left}
use Rattle.epl_syntax.specs.Bindings.{place_of}
use Rattle.epl_run.specs.Begins.{local_starts}
use Rattle.epl_run.proofs.BeginLaws.{begun_is, none_begun, op_at}
use Rattle.epl_run.proofs.Counted.{place_in}
use Rattle.epl_run.proofs.beginning.begin.Goals as goal

pub returns-in_ok-locals-in-Some : goal.returns-in_ok-locals-in-Some
returns-in_ok-locals-in-Some c =
    let p = c.args.program.now in
    let text = c.args.operation.now in
    let place : place_of (map (λ o. o.name) p.operations.items) text ≡ Some c.in-Some.at =
    sym (c.in-Some.ensures ∙ ap (λ os. place_of (map (λ o. o.name) os) text) c.deref.ensures.value) in
    let within : c.in-Some.at < length p.operations.items = place_in (λ o. o.name) p.operations.items text c.in-Some.at place in
    let there = op_at p.operations.items c.in-Some.at c.index.result.now within c.index.ensures in
    let starts : c.in_ok-locals-in-Some.locals ≡ local_starts (map local_of c.index.result.now.locals.items) =
    c.in_ok-locals-in-Some.ensures ∙ ap (λ vs. local_starts (map local_of vs)) c.deref-in-Some.ensures.value in
    IfOk-weaker c.whole.result _ _ (λ r h. begun_is p text c.in-Some.at c.index.result.now c.in_ok-params.params
    c.in_ok-locals-in-Some.locals r
    place there starts h ∙ ap (operation_left (type_tree p) text) c.in_ok-params.ensures) c.whole.ensures

pub returns-in_ok-locals-in-None : goal.returns-in_ok-locals-in-None
returns-in_ok-locals-in-None c =
    let p = c.args.program.now in
    let text = c.args.operation.now in
    let place : place_of (map (λ o. o.name) p.operations.items) text ≡ None =
    sym (c.in-None.ensures ∙ ap (λ os. place_of (map (λ o. o.name) os) text) c.deref.ensures.value) in
    IfOk-weaker c.whole-in-None.result _ _ (λ r h. none_begun p text c.in_ok-params.params c.in_ok-locals-in-None.locals r place h
    ∙ ap (operation_left (type_tree p) text) c.in_ok-params.ensures) c.whole-in-None.ensures
