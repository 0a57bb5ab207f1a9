use Rattle.std.proofs.Common.{◌≡◌, suc, [], ◌∷◌, ◌∙◌, ap, subst, drop, get_or, drop-cons, length, arith}
use Rattle.std.proofs.lemmas.List.{drop_all}
use Rattle.active_part.specs.View.{body_of}
use Rattle.ejects.proofs.Joining.{IsJoining, joining-at, joining-end}
use Rattle.ejects.proofs.activations.join_all.Goals as goal

pub join_or_answer-requires : goal.join_or_answer-requires
join_or_answer-requires c =
    let same = c.deref-number-items.ensures.value ∙ c.numbers.view_is in
    omega (arith, ap length same, c.loop-number.invariant.room, c.loop-number-test.true)

pub loop-number-preserved : goal.loop-number-preserved
loop-number-preserved c =
    let items = c.deref-number-items.result.now in
    let i = c.loop-number.number-index in
    let k = get_or items i 0 in
    let same = c.deref-number-items.ensures.value ∙ c.numbers.view_is in
    let ts = c.args.types.now in
    let joining = joining-at c.args.calls.now c.loop-number.calls c.join_or_answer.new.calls (body_of ts c.args.part.now) (body_of ts c.loop-number.part)
    (body_of ts c.join_or_answer.new.part) c.args.numbers.now i k
    (subst (λ l. drop i l ≡ k ∷ drop (suc i) l) same (drop-cons items i 0 c.loop-number-test.true)) c.loop-number.invariant.joining
    c.in_ok-join_or_answer.ensures.joins in
    record {
      joining = joining;
      room = omega (arith, c.loop-number.invariant.room, c.in_ok-join_or_answer.ensures.one);
      asks = c.in_ok-join_or_answer.ensures.asks ∙ c.loop-number.invariant.asks;
    }

pub returns-clause-joins : goal.returns-clause-joins
returns-clause-joins c =
    let items = c.deref-number-items.result.now in
    let i = c.loop-number.number-index in
    let same = c.deref-number-items.ensures.value ∙ c.numbers.view_is in
    let none : drop i c.args.numbers.now ≡ [] = subst (λ l. drop i l ≡ []) same (drop_all i items c.loop-number-test.false) in
    let ts = c.args.types.now in
    let first = body_of ts c.args.part.now in
    let later = body_of ts c.loop-number.part in
    joining-end c.args.calls.now c.loop-number.calls first later c.args.numbers.now
    (subst (IsJoining c.args.calls.now c.loop-number.calls first later c.args.numbers.now) none c.loop-number.invariant.joining)
