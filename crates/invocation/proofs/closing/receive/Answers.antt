use Rattle.std.proofs.Common.{◌≡◌, ◌-◌, Some, refl, sym, ◌∙◌, ap, arith}
use Rattle.std.specs.Prelude.{slice_set}
use Rattle.invocation.specs.Mail.{IsGiven, over}
use Rattle.invocation.specs.Numbers.{item_in}
use Rattle.invocation.proofs.Numbers.{change-set}
use Rattle.invocation.proofs.Closed.{read-at, item-read}
use Rattle.invocation.proofs.closing.receive.Goals as goal

pub index_mut-asked-requires : goal.index_mut-asked-requires
index_mut-asked-requires c = let g : IsGiven c.args.calls.now.items c.in-Reply.call = rw c.in-Reply.is at c.requires in
    omega (arith, g.0, g.1)

pub returns-in-Reply-clause-told : goal.returns-in-Reply-clause-told
returns-in-Reply-clause-told c =
    let g : IsGiven c.args.calls.now.items c.in-Reply.call = rw c.in-Reply.is at c.requires in
    let is : item_in c.in-Reply.call c.args.calls.now.items ≡ Some c.index_mut-asked.result.now =
    item-read c.args.calls.now.items c.in-Reply.call c.index_mut-asked.result.now g.0 g.1 c.index_mut-asked.ensures.value in
    rw (c.in-Reply.is, is, c.process-process.ensures) refl

pub returns-in-Reply-clause-calls : goal.returns-in-Reply-clause-calls
returns-in-Reply-clause-calls c =
    let g : IsGiven c.args.calls.now.items c.in-Reply.call = rw c.in-Reply.is at c.requires in
    let k = c.in-Reply.call - 1 in
    rw c.in-Reply.is (ap (slice_set c.args.calls.now.items k) c.finish.ensures
    ∙ sym (change-set over c.args.calls.now.items k c.index_mut-asked.result.now
    (read-at c.args.calls.now.items k c.index_mut-asked.result.now (omega (arith, g.0, g.1)) c.index_mut-asked.ensures.value)))
