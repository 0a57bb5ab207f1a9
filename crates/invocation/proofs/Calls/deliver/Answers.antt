use Rattle.std.proofs.Common.{◌≡◌, ◌∷◌, [], get_or, sym, ◌∙◌, ap, arith}
use Rattle.std.specs.Prelude.{slice_set}
use Rattle.std.proofs.lemmas.List.{length-set}
use Rattle.std.proofs.lemmas.List.Elements.{All-head, All-tail}
use Rattle.eden_model.specs.Map.{rest}
use Rattle.invocation.specs.Mail.{Mail, IsGiven, number_of, received}
use Rattle.invocation.specs.Queues.{row, with_row}
use Rattle.invocation.specs.Whole.{AllGiven}
use Rattle.invocation.proofs.Mails.{between-received, index-received, length-received, given-more, given-with, first-rest, row-read}
use Rattle.invocation.proofs.Mails.{called-told, mail-taken}
use Rattle.invocation.proofs.Own.{made-received}
use Rattle.invocation.proofs.Carried.{delivery-carried}
use Rattle.invocation.proofs.Calls.deliver.Goals as goal

pub receive-requires : goal.receive-requires
receive-requires c =
    let a = c.self.inside in
    let q = c.index_mut-queue.result.now in
    let at : get_or a.queues.items c.pair.result [] ≡ q = row-read a.queues.items c.pair.result q c.index_mut-queue.ensures.value
    (omega (arith, c.pair.ensures.within, c.self.invariant.pairs)) in
    let all : AllGiven a.calls.items q = rw (← at) (c.self.invariant.given c.pair.result) in
    All-head (λ m. IsGiven a.calls.items (number_of m)) c.in-Some.message (rest q)
    (rw (first-rest q c.in-Some.message c.in-Some.ensures.first) at all)

pub invariant_of-self : goal.invariant_of-self
invariant_of-self c =
    let a = c.self.inside in
    let q = c.index_mut-queue.result.now in
    let m = c.in-Some.message in
    let n = length-received m a.calls.items in
    let at : get_or a.queues.items c.pair.result [] ≡ q = row-read a.queues.items c.pair.result q c.index_mut-queue.ensures.value
    (omega (arith, c.pair.ensures.within, c.self.invariant.pairs)) in
    let all : AllGiven a.calls.items q = rw (← at) (c.self.invariant.given c.pair.result) in
    let left : AllGiven a.calls.items c.take.new.self =
    rw c.take.ensures.rest (All-tail (λ x. IsGiven a.calls.items (number_of x)) m (rest q)
    (rw (first-rest q m c.in-Some.ensures.first) at all)) in
    let now : c.deref.result.now ≡ with_row c.args.from c.args.to c.take.new.self a.queues.items =
    c.deref.ensures.value ∙ ap (λ i. slice_set a.queues.items i c.take.new.self) c.pair.ensures.place in
    record {
      few = rw c.receive.ensures.calls (omega (arith, n, c.self.invariant.few));
      index = rw c.receive.ensures.calls (index-received m a.calls.items a.index c.self.invariant.index);
      made = rw c.receive.ensures.calls (made-received m a.calls.items a.made c.self.invariant.made);
      between = rw c.receive.ensures.calls (between-received m a.calls.items c.self.invariant.between);
      pairs = length-set a.queues.items c.pair.result c.take.new.self ∙ c.self.invariant.pairs;
      given = rw c.receive.ensures.calls (given-more a.calls.items (received m a.calls.items) (omega (arith, n))
          (slice_set a.queues.items c.pair.result c.take.new.self)
          (given-with a.calls.items a.queues.items c.self.invariant.given c.pair.result c.take.new.self
          (omega (arith, c.pair.ensures.within, c.self.invariant.pairs)) left));
      mail = rw c.pair.ensures.place
          (mail-taken a.mail a.queues.items c.self.invariant.mail c.args.from c.args.to c.requires.to c.take.new.self
          c.is_any_to.result (λ empty n n8. sym (ap (row n c.args.to) now) ∙ c.is_any_to.ensures.none empty n n8));
    }

pub returns-in-Some-clause-given : goal.returns-in-Some-clause-given
returns-in-Some-clause-given c =
    let a = c.self.inside in
    let q = c.index_mut-queue.result.now in
    let m = c.in-Some.message in
    let at : get_or a.queues.items c.pair.result [] ≡ q = row-read a.queues.items c.pair.result q c.index_mut-queue.ensures.value
    (omega (arith, c.pair.ensures.within, c.self.invariant.pairs)) in
    let all : AllGiven a.calls.items q = rw (← at) (c.self.invariant.given c.pair.result) in
    rw (c.receive.ensures.told, c.receive.ensures.calls) (rw (called-told m a.calls.items, length-received m a.calls.items)
    (All-head (λ x. IsGiven a.calls.items (number_of x)) m (rest q) (rw (first-rest q m c.in-Some.ensures.first) at all)))

pub returns-in-Some-clause-model : goal.returns-in-Some-clause-model
returns-in-Some-clause-model c t carries =
    let a = c.self.inside in
    let q = c.index_mut-queue.result.now in
    let m = c.in-Some.message in
    let old : Mail = record { calls = a.calls.items; queues = a.queues.items } in
    let at : get_or a.queues.items c.pair.result [] ≡ q = row-read a.queues.items c.pair.result q c.index_mut-queue.ensures.value
    (omega (arith, c.pair.ensures.within, c.self.invariant.pairs)) in
    let is : get_or a.queues.items c.pair.result [] ≡ m ∷ rest q = at ∙ first-rest q m c.in-Some.ensures.first in
    rw (c.receive.ensures.told, c.receive.ensures.calls, c.take.ensures.rest, c.pair.ensures.place)
    (delivery-carried old t (rw (c.self.view_is) carries) c.self.invariant.pairs c.args.from c.args.to c.requires.from c.requires.to m
    (rest q) (rw c.pair.ensures.place at is))
