use Rattle.std.proofs.Common.{◌∙◌, suc, ap, sym, drop, get_or, drop-cons, arith, add-one}
use Rattle.std.proofs.lemmas.List.{drop_all}
use Rattle.eden_model.specs.Traffic.{Traffic}
use Rattle.active_part.specs.Body.{Body}
use Rattle.active_part.specs.View.{body_of}
use Rattle.plain_calls.specs.View.{traffic_of}
use Rattle.plain_sites.specs.Activations.{joined_all}
use Rattle.plain_sites.proofs.Joins.{joined-next, joined-none}
use Rattle.plain_sites.proofs.wakings.join_all.Goals as goal

pub loop-number-preserved : goal.loop-number-preserved
loop-number-preserved c =
    let ks = c.args.numbers.now in
    let i = c.loop-number.number-index in
    let x : Body × Traffic = (body_of c.args.types.now c.loop-number.part, traffic_of c.loop-number.calls) in
    record {
      joining = rw add-one (ap (joined_all (drop (suc i) ks)) c.in_ok-join_or_answer.ensures.joins
          ∙ (joined-next x (get_or ks i 0) (drop (suc i) ks)
          ∙ (ap (λ l. joined_all l x) (sym (drop-cons ks i 0 c.loop-number-test.true)) ∙ c.loop-number.invariant.joining)));
      room = omega (arith, c.loop-number.invariant.room, c.in_ok-join_or_answer.ensures.one);
    }

pub returns : goal.returns
returns c =
    let ks = c.args.numbers.now in
    let i = c.loop-number.number-index in
    let x : Body × Traffic = (body_of c.args.types.now c.loop-number.part, traffic_of c.loop-number.calls) in
    sym (joined-none x) ∙ (ap (λ l. joined_all l x) (sym (drop_all i ks c.loop-number-test.false)) ∙ c.loop-number.invariant.joining)
