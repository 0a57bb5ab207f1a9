use Rattle.std.proofs.Common.{sym, ◌∙◌}
use Rattle.std.proofs.lemmas.Result.{on_ok_weaker}
use Rattle.passive_store.specs.Seen.{disk_seen}
use Rattle.eden_world.specs.declared.seats.Seat.TheVariants as place
use Rattle.eden_world.proofs.Placing.{was-up, swaps-still}
use Rattle.eden_world.proofs.TellingOne.{both-on_ok, told-whole, told-at, told-agendas}
use Rattle.eden_world.proofs.Counting.{swapped-same}
use Rattle.eden_world.proofs.World.tell.Goals as goal

pub returns-clause-whole : goal.returns-clause-whole
returns-clause-whole g c =
    let look = disk_seen g.St.Device.Disk.counts g.St.Device.Disk.told g.St.Device.Disk.due in
    let swapped = swaps-still c.args.uid.node (place.Up c.in-Up.station) (place.Up c.broken-told.new.self)
    c.args.self.now c.unseat.new.self c.set_seat.new.self (was-up _ _ (sym c.in-Up.is ∙ c.unseat.ensures.old))
    c.unseat.ensures.takes c.set_seat.ensures.takes in
    on_ok_weaker c.broken-told.result (told-whole g.St.Store.layout g.St.Store.seen look c.args.uid c.args.process c.in-Up.station
    c.broken-told.new.self c.args.self.now c.set_seat.new.self swapped c.broken-told.ensures.store c.requires.whole)
    c.broken-told.ensures.whole

pub returns-clause-told : goal.returns-clause-told
returns-clause-told g c = λ so.
    let look = disk_seen g.St.Device.Disk.counts g.St.Device.Disk.told g.St.Device.Disk.due in
    let swapped = swaps-still c.args.uid.node (place.Up c.in-Up.station) (place.Up c.broken-told.new.self)
    c.args.self.now c.unseat.new.self c.set_seat.new.self (was-up _ _ (sym c.in-Up.is ∙ c.unseat.ensures.old))
    c.unseat.ensures.takes c.set_seat.ensures.takes in
    both-on_ok c.broken-told.result (told-at g.St.Store.layout g.St.Store.seen look c.args.uid c.args.process c.in-Up.station
    c.broken-told.new.self c.args.self.now c.set_seat.new.self swapped c.broken-told.ensures.store) c.broken-told.ensures.whole
    (c.broken-told.ensures.stands so)

pub returns-clause-agendas : goal.returns-clause-agendas
returns-clause-agendas g c = λ so.
    let look = disk_seen g.St.Device.Disk.counts g.St.Device.Disk.told g.St.Device.Disk.due in
    let swapped = swaps-still c.args.uid.node (place.Up c.in-Up.station) (place.Up c.broken-told.new.self)
    c.args.self.now c.unseat.new.self c.set_seat.new.self (was-up _ _ (sym c.in-Up.is ∙ c.unseat.ensures.old))
    c.unseat.ensures.takes c.set_seat.ensures.takes in
    on_ok_weaker c.broken-told.result (told-agendas g.St.Store.layout g.St.Store.seen look c.args.uid c.args.process c.in-Up.station
    c.broken-told.new.self c.args.self.now c.set_seat.new.self swapped c.broken-told.ensures.store) (c.broken-told.ensures.told so)

-- the parts of the node that is up there fit together
pub broken-told-requires : goal.broken-told-requires
broken-told-requires g c = record {
  whole = (c.requires.whole.nodes c.args.uid.node c.in-Up.station (was-up _ _ (sym c.in-Up.is ∙ c.unseat.ensures.old))).whole;
}

pub returns-clause-calls : goal.returns-clause-calls
returns-clause-calls g c = swapped-same c.args.uid.node c.args.uid.node (place.Moving) (place.Up c.broken-told.new.self) c.args.self.now
    c.unseat.new.self c.set_seat.new.self c.unseat.ensures.takes c.set_seat.ensures.takes
