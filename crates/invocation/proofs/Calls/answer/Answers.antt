use Rattle.std.proofs.Common.{◌≡◌, ◌-◌, None, Some, subst, refl, sym, ◌∙◌, ap, arith}
use Rattle.std.specs.Prelude.{slice_set}
use Rattle.eden_model.specs.Crew.{change}
use Rattle.invocation.specs.declared.call.Message.TheVariants.{Reply}
use Rattle.invocation.specs.Mail.{Mail, IsGiven, spent}
use Rattle.invocation.specs.Numbers.{item_in}
use Rattle.invocation.specs.Whole.{IsBetween}
use Rattle.invocation.specs.Carries.{Carries}
use Rattle.invocation.proofs.Numbers.{change-set}
use Rattle.invocation.proofs.Closed.{read-at}
use Rattle.invocation.proofs.CarriesLaws.{given-call}
use Rattle.invocation.proofs.Mails.{all-item, answered-whole}
use Rattle.invocation.proofs.Sent.{either-carried, never-given}
use Rattle.invocation.proofs.Calls.answer.Goals as goal

pub send_where-requires-clause-from : goal.send_where-requires-clause-from
send_where-requires-clause-from c =
    let is : item_in c.args.call c.self.inside.calls.items ≡ Some c.in-Some.asked.now =
    rw c.deref.ensures.value at (sym c.in-Some.ensures) in
    (all-item IsBetween c.self.inside.calls.items c.args.call c.in-Some.asked.now c.self.invariant.between is).1

pub send_where-requires-clause-to : goal.send_where-requires-clause-to
send_where-requires-clause-to c =
    let is : item_in c.args.call c.self.inside.calls.items ≡ Some c.in-Some.asked.now =
    rw c.deref.ensures.value at (sym c.in-Some.ensures) in
    rw c.station-to.ensures (all-item IsBetween c.self.inside.calls.items c.args.call c.in-Some.asked.now c.self.invariant.between is).0

pub index_mut-asked-requires : goal.index_mut-asked-requires
index_mut-asked-requires c =
    let is : item_in c.args.call c.self.inside.calls.items ≡ Some c.in-Some.asked.now =
    rw c.deref.ensures.value at (sym c.in-Some.ensures) in
    let g = given-call c.self.inside.calls.items c.args.call c.in-Some.asked.now is in
    omega (arith, g.0, g.1)

pub invariant_of-self : goal.invariant_of-self
invariant_of-self c = rw c.in_err-send_where.ensures c.self.invariant

pub invariant_of-self-2 : goal.invariant_of-self-2
invariant_of-self-2 c =
    let a = c.self.inside in
    let x = c.in-Some.asked.now in
    let k = c.args.call - 1 in
    let y = c.index_mut-asked.result.now in
    let is : item_in c.args.call a.calls.items ≡ Some x = rw c.deref.ensures.value at (sym c.in-Some.ensures) in
    let g : IsGiven a.calls.items c.args.call = given-call a.calls.items c.args.call x is in
    let now : slice_set a.calls.items k c.spend.new.self ≡ change k spent a.calls.items =
    ap (slice_set a.calls.items k) c.spend.ensures
    ∙ sym (change-set spent a.calls.items k y (read-at a.calls.items k y (omega (arith, g.0, g.1)) c.index_mut-asked.ensures.value)) in
    rw (now, c.in_ok-send_where.ensures, c.station-to.ensures)
    (answered-whole a.calls.items a.index a.made a.mail a.queues.items c.self.invariant c.args.call x is g
    (Reply c.args.call c.args.status c.args.results) refl)

pub returns-clause-cases : goal.returns-clause-cases
returns-clause-cases c =
    let a = c.self.inside in
    let x = c.in-Some.asked.now in
    let k = c.args.call - 1 in
    let y = c.index_mut-asked.result.now in
    let is : item_in c.args.call a.calls.items ≡ Some x = rw c.deref.ensures.value at (sym c.in-Some.ensures) in
    let g : IsGiven a.calls.items c.args.call = given-call a.calls.items c.args.call x is in
    let now : slice_set a.calls.items k c.spend.new.self ≡ change k spent a.calls.items =
    ap (slice_set a.calls.items k) c.spend.ensures
    ∙ sym (change-set spent a.calls.items k y (read-at a.calls.items k y (omega (arith, g.0, g.1)) c.index_mut-asked.ensures.value)) in
    rw (← c.self.view_is, is, now, c.in_ok-send_where.ensures, c.station-to.ensures) (refl, refl)

pub returns-clause-model : goal.returns-clause-model
returns-clause-model c t carries out =
    let a = c.self.inside in
    let x = c.in-Some.asked.now in
    let k = c.args.call - 1 in
    let y = c.index_mut-asked.result.now in
    let old : Mail = record { calls = a.calls.items; queues = a.queues.items } in
    let before : Carries old t = rw (c.self.view_is) carries in
    let is : item_in c.args.call a.calls.items ≡ Some x = rw c.deref.ensures.value at (sym c.in-Some.ensures) in
    let b : IsBetween x = all-item IsBetween a.calls.items c.args.call x c.self.invariant.between is in
    let g : IsGiven a.calls.items c.args.call = given-call a.calls.items c.args.call x is in
    let now : slice_set a.calls.items k c.spend.new.self ≡ change k spent a.calls.items =
    ap (slice_set a.calls.items k) c.spend.ensures
    ∙ sym (change-set spent a.calls.items k y (read-at a.calls.items k y (omega (arith, g.0, g.1)) c.index_mut-asked.ensures.value)) in
    rw (now, c.in_ok-send_where.ensures, c.station-to.ensures)
    (either-carried old t before c.self.invariant.pairs c.args.call x is out c.args.status c.args.results b.1 b.0)

pub returns-in_default-clause-model : goal.returns-in_default-clause-model
returns-in_default-clause-model c t carries out =
    let a = c.self.inside in
    let old : Mail = record { calls = a.calls.items; queues = a.queues.items } in
    let before : Carries old t = rw (c.self.view_is) carries in
    let none : item_in c.args.call a.calls.items ≡ None = rw c.deref.ensures.value at (sym c.in_default.ensures) in
    rw (← c.self.view_is) (subst (Carries old) (sym (never-given old t before c.args.call none c.args.status c.args.results)) before)
