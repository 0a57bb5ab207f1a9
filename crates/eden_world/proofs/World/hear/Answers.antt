use Rattle.std.proofs.Common.{◌≡◌, Some, refl, sym, ◌∙◌, ap, subst}
use Rattle.checkpoint.proofs.Activations.{any-err}
use Rattle.passive_store.specs.Seen.{disk_seen}
use Rattle.journal.specs.Enabled.{delivery}
use Rattle.invocation.specs.Carries.{CarriesDelivery}
use Rattle.invocation.specs.Mail.{Delivers}
use Rattle.invocation.specs.declared.call.Delivery.TheVariants as message
use Rattle.eden_world.specs.Breaking.{name_by, waiter_at}
use Rattle.eden_world.proofs.Hearing.{Hears, hears-takes}
use Rattle.eden_world.proofs.Losing.{still-starves}
use Rattle.ejects.proofs.Counting.{delivered-none, none-one}
use Rattle.eden_world.proofs.World.hear.Goals as goal

pub returns-in_err-name-clause-starved : goal.returns-in_err-name-clause-starved
returns-in_err-name-clause-starved g c =
    let look = disk_seen g.St.Device.Disk.counts g.St.Device.Disk.told g.St.Device.Disk.due in
    any-err c.from_residual.result _ (still-starves g.St.Device.Disk.tells g.St.Store.layout g.St.Store.seen look (delivery 0 c.args.from)
    c.args.self.now c.args.self.now refl)

pub returns-in_err-hear-in-Some-Reply-clause-starved : goal.returns-in_err-hear-in-Some-Reply-clause-starved
returns-in_err-hear-in-Some-Reply-clause-starved g c =
    let look = disk_seen g.St.Device.Disk.counts g.St.Device.Disk.told g.St.Device.Disk.due in
    any-err c.from_residual-in_err-hear-in-Some-Reply.result _ (still-starves g.St.Device.Disk.tells g.St.Store.layout g.St.Store.seen look
    (delivery 0 c.args.from) c.args.self.now
    (record c.args.self.now { calls = c.deliver.new.self; names = c.hear.new.self }) refl)

pub returns-clause-taken : goal.returns-clause-taken
returns-clause-taken g c =
    let look = disk_seen g.St.Device.Disk.counts g.St.Device.Disk.told g.St.Device.Disk.due in
    let new = record c.args.self.now { calls = c.deliver.new.self; names = c.hear.new.self } in
    let same : Hears c.args.self.now new = record { types = refl; seats = refl; places = refl } in
    let is : c.deliver.result ≡ Some (message.Reply c.in-Some-Reply.call c.in-Some-Reply.status c.in-Some-Reply.results
    c.in-Some-Reply.was_open c.in-Some-Reply.field-0-4) = c.in-Some-Reply.is ∙ ap (λ d. Some d) c.in-Some-Reply.field-0-is in
    hears-takes g.St.Device.Disk.tells g.St.Store.layout g.St.Store.seen look c.args.self.now new c.entry_of_none.result
    c.in-Some.message.now c.in-Some-Reply.call c.args.from c.in-Some-2.name c.in-Some-Reply.status c.in-Some-Reply.results
    c.in-Some-Reply.was_open c.in-Some-Reply.field-0-4 same c.in-Some.ensures
    (sym c.in-Some-2.is ∙ c.in_ok-name.ensures ∙ ap (λ k. name_by (waiter_at c.args.self.now.calls k)) c.number.ensures)
    (subst (λ r. Delivers c.args.from 0 c.args.self.now.calls r c.deliver.new.self) is c.deliver.ensures.first)
    (λ t carries. subst (λ r. CarriesDelivery c.args.from 0 r c.deliver.new.self t) is (c.deliver.ensures.model t carries))
    c.in_ok-hear-in-Some-Reply.ensures.stands c.entry_of_none.ensures.event c.entry_of_none.ensures.none

pub returns-clause-asks : goal.returns-clause-asks
returns-clause-asks g c = none-one c.args.self.now.calls c.deliver.new.self
    (delivered-none c.args.from 0 c.args.self.now.calls c.deliver.result c.deliver.new.self c.deliver.ensures.first)
