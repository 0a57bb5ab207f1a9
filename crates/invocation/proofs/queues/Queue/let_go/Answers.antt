use Rattle.std.proofs.Common.{◌≡◌, ◌<◌, ◌-◌, ◌++◌, ◌∷◌, [], length, take, sym, ◌∙◌, ap, arith}
use Rattle.std.specs.Prelude.{slice_set}
use Rattle.std.proofs.lemmas.List.{take_more}
use Rattle.std.proofs.lemmas.List.Elements.{All-get_or}
use Rattle.eden_model.specs.Crew.{change}
use Rattle.invocation.specs.Mail.{IsGiven, let_go, number_of, spent}
use Rattle.invocation.proofs.Numbers.{change-set}
use Rattle.invocation.proofs.Closed.{read-at}
use Rattle.invocation.proofs.Index.{length-let_go, let_go-append}
use Rattle.invocation.proofs.queues.Queue.let_go.Goals as goal

pub index-requires : goal.index-requires
index-requires c = omega (arith, c.loop-i-test.true, c.len-i-end.ensures)

pub index_mut-call-requires : goal.index_mut-call-requires
index_mut-call-requires c =
    let ms = c.self.inside.messages.items in
    let m = c.index.result.now in
    let cs = c.args.calls.now.items in
    let within : c.loop-i.i < length ms = omega (arith, c.loop-i-test.true, c.len-i-end.ensures) in
    let g : IsGiven cs (number_of m) = rw (← c.index.ensures) at
    (All-get_or (λ x. IsGiven cs (number_of x)) ms c.loop-i.i m within (rw (← c.self.view_is) at c.requires)) in
    let n : length c.loop-i.calls.items ≡ length cs = ap length c.loop-i.invariant ∙ length-let_go (take c.loop-i.i ms) cs in
    omega (arith, c.number-number.ensures, g.0, g.1, n)

pub loop-i-preserved : goal.loop-i-preserved
loop-i-preserved c =
    let ms = c.self.inside.messages.items in
    let m = c.index.result.now in
    let cs = c.args.calls.now.items in
    let k = c.number-number.result - 1 in
    let x = c.index_mut-call.result.now in
    let within : c.loop-i.i < length ms = omega (arith, c.loop-i-test.true, c.len-i-end.ensures) in
    let g : IsGiven cs (number_of m) = rw (← c.index.ensures) at
    (All-get_or (λ y. IsGiven cs (number_of y)) ms c.loop-i.i m within (rw (← c.self.view_is) at c.requires)) in
    let n : length c.loop-i.calls.items ≡ length cs = ap length c.loop-i.invariant ∙ length-let_go (take c.loop-i.i ms) cs in
    ap (slice_set c.loop-i.calls.items k) c.spend.ensures
    ∙ sym (change-set spent c.loop-i.calls.items k x (read-at c.loop-i.calls.items k x (omega (arith, c.number-number.ensures, g.0, g.1, n))
    c.index_mut-call.ensures.value))
    ∙ ap (change k spent) c.loop-i.invariant ∙ ap (λ j. change (j - 1) spent (let_go (take c.loop-i.i ms) cs)) c.number-number.ensures
    ∙ sym (let_go-append (take c.loop-i.i ms) (m ∷ []) cs)
    ∙ ap (λ l. let_go l cs) (sym (take_more ms c.loop-i.i m within ∙ ap (λ y. take c.loop-i.i ms ++ y ∷ []) (sym c.index.ensures)))
