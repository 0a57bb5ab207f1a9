use Rattle.std.proofs.lemmas.Result.{on_ok_weaker}
use Rattle.passive_store.specs.Seen.{disk_seen}
use Rattle.checkpoint.proofs.Activations.{any-err}
use Rattle.eden_world.specs.Seated.{heeds}
use Rattle.eden_world.specs.InHand.{place_at}
use Rattle.eden_world.proofs.Created.{any-on-err, creates-in-ok, level-ends, node-fits, node-keeps, node-level, taken-up}
use Rattle.eden_world.specs.declared.seats.Seat.TheVariants as place
use Rattle.eden_world.proofs.Counting.{swapped-same}
use Rattle.eden_world.proofs.World.create_at.Goals as goal

pub create-made-requires : goal.create-made-requires
create-made-requires g c = record {
  whole = (c.requires.whole.nodes c.args.node c.in-Up.station
      (taken-up (place_at c.args.self.now c.args.node) c.unseat.result c.in-Up.station c.unseat.ensures.old c.in-Up.is)).whole;
}

pub returns-clause-whole : goal.returns-clause-whole
returns-clause-whole g c = on_ok_weaker c.create-made.result (node-fits g.St.Store.seen c.args.self.now c.unseat.new.self
    c.set_seat.new.self c.args.node c.in-Up.station c.create-made.new.self
    (taken-up (place_at c.args.self.now c.args.node) c.unseat.result c.in-Up.station c.unseat.ensures.old c.in-Up.is)
    c.unseat.ensures.takes c.set_seat.ensures.takes
    c.create-made.ensures.number c.requires.whole) c.create-made.ensures.whole

pub returns-clause-made : goal.returns-clause-made
returns-clause-made g c name known = creates-in-ok g.St.Device.Disk.tells g.St.Store.layout g.St.Store.seen c.args.node name
    c.args.self.now c.unseat.new.self c.set_seat.new.self c.in-Up.station c.create-made.new.self c.args.kind c.create-made.result
    (taken-up (place_at c.args.self.now c.args.node) c.unseat.result c.in-Up.station c.unseat.ensures.old c.in-Up.is)
    c.unseat.ensures.takes c.set_seat.ensures.takes c.create-made.ensures.store
    known (λ so. c.create-made.ensures.made so)

pub returns-clause-starved : goal.returns-clause-starved
returns-clause-starved g c = any-err c.create-made.result _ (level-ends g.St.Device.Disk.tells g.St.Store.layout g.St.Store.seen
    (disk_seen g.St.Device.Disk.counts g.St.Device.Disk.told g.St.Device.Disk.due) c.args.self.now c.set_seat.new.self
    (node-level g.St.Store.seen (disk_seen g.St.Device.Disk.counts g.St.Device.Disk.told g.St.Device.Disk.due) c.args.self.now
    c.unseat.new.self c.set_seat.new.self c.args.node c.in-Up.station c.create-made.new.self
    (taken-up (place_at c.args.self.now c.args.node) c.unseat.result c.in-Up.station c.unseat.ensures.old c.in-Up.is)
    c.unseat.ensures.takes c.set_seat.ensures.takes
    c.create-made.ensures.store))

pub returns-clause-leaves : goal.returns-clause-leaves
returns-clause-leaves g c = any-on-err c.create-made.result _ (node-keeps (heeds g.St.Device.Disk.tells g.St.Device.Disk.obeys) g.St.Store.seen
    (disk_seen g.St.Device.Disk.counts g.St.Device.Disk.told g.St.Device.Disk.due) c.args.self.now c.unseat.new.self
    c.set_seat.new.self c.args.node c.in-Up.station c.create-made.new.self
    (taken-up (place_at c.args.self.now c.args.node) c.unseat.result c.in-Up.station c.unseat.ensures.old c.in-Up.is)
    c.unseat.ensures.takes c.set_seat.ensures.takes
    c.create-made.ensures.store c.requires.whole)

pub returns-clause-calls : goal.returns-clause-calls
returns-clause-calls g c = swapped-same c.args.node c.args.node (place.Moving) (place.Up c.create-made.new.self) c.args.self.now
    c.unseat.new.self c.set_seat.new.self c.unseat.ensures.takes c.set_seat.ensures.takes
