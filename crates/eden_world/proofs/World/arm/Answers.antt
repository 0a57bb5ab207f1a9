use Rattle.std.proofs.Common.{sym, ◌∙◌}
use Rattle.passive_store.specs.Seen.{disk_seen}
use Rattle.eden_world.specs.InHand.{place_at}
use Rattle.eden_world.specs.Seated.{heeds}
use Rattle.eden_world.proofs.Arming.{arms-carried, arms-place, arms-shows, arms-whole, heeds-obeys}
use Rattle.eden_world.proofs.Placing.{was-up}
use Rattle.eden_world.specs.declared.seats.Seat.TheVariants as place
use Rattle.eden_world.proofs.Counting.{same-one, swapped-same}
use Rattle.eden_world.proofs.World.arm.Goals as goal

pub armed-seat-requires-clause-whole : goal.armed-seat-requires-clause-whole
armed-seat-requires-clause-whole g c = λ s is. (c.requires.whole.nodes c.args.node s
    (was-up (place_at c.args.self.now c.args.node) s (sym is ∙ c.unseat.ensures.old))).whole

pub returns-clause-whole : goal.returns-clause-whole
returns-clause-whole g c =
    let x = arms-place g.St.Device.Disk.tells g.St.Device.Disk.obeys g.St.Store.layout g.St.Store.seen
    (disk_seen g.St.Device.Disk.counts g.St.Device.Disk.told g.St.Device.Disk.due) c.args.what c.args.node c.args.self.now c.unseat.new.self
    c.set_seat.new.self c.unseat.result c.armed-seat.result c.unseat.ensures.takes c.set_seat.ensures.takes c.unseat.ensures.old
    c.armed-seat.ensures in
    arms-whole g.St.Device.Disk.tells g.St.Device.Disk.obeys g.St.Store.layout g.St.Store.seen
    (disk_seen g.St.Device.Disk.counts g.St.Device.Disk.told g.St.Device.Disk.due) c.args.what c.args.node c.args.self.now
    c.set_seat.new.self x
    c.requires.whole

pub returns-clause-carried : goal.returns-clause-carried
returns-clause-carried g c =
    let x = arms-place g.St.Device.Disk.tells g.St.Device.Disk.obeys g.St.Store.layout g.St.Store.seen
    (disk_seen g.St.Device.Disk.counts g.St.Device.Disk.told g.St.Device.Disk.due) c.args.what c.args.node c.args.self.now c.unseat.new.self
    c.set_seat.new.self c.unseat.result c.armed-seat.result c.unseat.ensures.takes c.set_seat.ensures.takes c.unseat.ensures.old
    c.armed-seat.ensures in
    arms-carried g.St.Device.Disk.tells g.St.Device.Disk.obeys g.St.Store.layout g.St.Store.seen
    (disk_seen g.St.Device.Disk.counts g.St.Device.Disk.told g.St.Device.Disk.due) c.args.what c.args.node c.args.self.now
    c.set_seat.new.self
    c.entry.result x (record {
      event = c.entry.ensures.event;
      node = c.entry.ensures.node;
      shown = c.entry.ensures.clock
          ∙ c.clock_at-clock.ensures;
      broken = c.entry.ensures.broken;
    })

pub returns-clause-shows : goal.returns-clause-shows
returns-clause-shows g c =
    let x = arms-place g.St.Device.Disk.tells g.St.Device.Disk.obeys g.St.Store.layout g.St.Store.seen
    (disk_seen g.St.Device.Disk.counts g.St.Device.Disk.told g.St.Device.Disk.due) c.args.what c.args.node c.args.self.now c.unseat.new.self
    c.set_seat.new.self c.unseat.result c.armed-seat.result c.unseat.ensures.takes c.set_seat.ensures.takes c.unseat.ensures.old
    c.armed-seat.ensures in
    arms-shows g.St.Device.Disk.tells g.St.Device.Disk.obeys g.St.Store.layout g.St.Store.seen
    (disk_seen g.St.Device.Disk.counts g.St.Device.Disk.told g.St.Device.Disk.due) c.args.what c.args.node c.args.self.now
    c.set_seat.new.self x
    (heeds g.St.Device.Disk.tells g.St.Device.Disk.obeys) (heeds-obeys g.St.Device.Disk.tells g.St.Device.Disk.obeys) c.entry.result
    (record {
      event = c.entry.ensures.event;
      node = c.entry.ensures.node;
      shown = c.entry.ensures.clock
          ∙ c.clock_at-clock.ensures;
      broken = c.entry.ensures.broken;
    })

pub returns-clause-asks : goal.returns-clause-asks
returns-clause-asks g c = same-one c.args.self.now.calls c.set_seat.new.self.calls (swapped-same c.args.node c.args.node (place.Moving)
    c.armed-seat.result c.args.self.now c.unseat.new.self c.set_seat.new.self c.unseat.ensures.takes c.set_seat.ensures.takes)
