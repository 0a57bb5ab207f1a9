use Rattle.std.proofs.Common.{refl, ◌∙◌, sym}
use Rattle.passive_store.specs.Seen.{disk_seen}
use Rattle.eden_world.specs.InHand.{place_at}
use Rattle.eden_world.proofs.Restarted.{place-number, restart-falls, restart-falls-shows, restart-leaves}
use Rattle.eden_world.proofs.Restarted.{restart-starves, restart-up, restart-up-shows, up-stays, was-down, whole-down, whole-up}
use Rattle.eden_world.specs.declared.seats.Seat.TheVariants as place
use Rattle.eden_world.proofs.Counting.{same-one, swapped-same}
use Rattle.eden_world.proofs.World.restart.Goals as goal

pub boot-requires : goal.boot-requires
boot-requires g c = record {
  node = place-number c.args.self.now c.args.number _ (was-down (place_at c.args.self.now c.args.number) c.unseat.result c.in-Down.disk
      c.in-Down.doubt c.unseat.ensures.old c.in-Down.is) c.requires.whole.places;
}

-- 1. It comes up

pub returns-in-Ok-clause-whole : goal.returns-in-Ok-clause-whole
returns-in-Ok-clause-whole g c = whole-up g.St.Store.seen c.args.self.now c.unseat.new.self c.set_seat.new.self
    c.set_up.new.self c.args.number c.in-Ok.station c.unseat.ensures.takes c.set_seat.ensures.takes c.set_up.ensures.nodes
    c.in-Ok.ensures.whole c.in-Ok.ensures.number c.requires.whole

pub returns-in-Ok-clause-carried : goal.returns-in-Ok-clause-carried
returns-in-Ok-clause-carried g c = restart-up g.St.Device.Disk.tells g.St.Store.layout g.St.Store.seen
    (disk_seen g.St.Device.Disk.counts g.St.Device.Disk.told g.St.Device.Disk.due) c.args.self.now c.unseat.new.self
    c.set_seat.new.self c.set_up.new.self c.args.number c.in-Down.disk c.in-Down.doubt c.in-Ok.note c.in-Ok.station c.entry.result
    (was-down (place_at c.args.self.now c.args.number) c.unseat.result c.in-Down.disk c.in-Down.doubt
    c.unseat.ensures.old c.in-Down.is)
    c.unseat.ensures.takes c.set_seat.ensures.takes c.set_up.ensures.up c.set_up.ensures.joined c.in-Ok.ensures.whole
    c.in-Ok.ensures.number (λ so. c.in-Ok.ensures.up so) (λ so site lays bar stands. c.in-Ok.ensures.barred so site lays bar stands)
    (c.entry.ensures.event ∙ c.boot_event-event.ensures) (record {
      node = c.entry.ensures.node;
      clock = c.entry.ensures.clock ∙ c.clock_at-clock.ensures;
      broken = c.entry.ensures.broken;
    })

pub returns-in-Ok-clause-shows : goal.returns-in-Ok-clause-shows
returns-in-Ok-clause-shows g c = restart-up-shows g.St.Device.Disk.tells g.St.Device.Disk.obeys g.St.Store.seen
    (disk_seen g.St.Device.Disk.counts g.St.Device.Disk.told g.St.Device.Disk.due) c.args.self.now c.unseat.new.self
    c.set_seat.new.self c.set_up.new.self c.args.number c.in-Down.disk c.in-Down.doubt c.in-Ok.note c.in-Ok.station c.entry.result
    (was-down (place_at c.args.self.now c.args.number) c.unseat.result c.in-Down.disk c.in-Down.doubt
    c.unseat.ensures.old c.in-Down.is)
    c.unseat.ensures.takes c.set_seat.ensures.takes (λ so. c.in-Ok.ensures.shows so) c.in-Ok.ensures.calls
    (c.entry.ensures.event ∙ c.boot_event-event.ensures) c.entry.ensures.node (c.entry.ensures.clock ∙ c.clock_at-clock.ensures)

-- 2. It stays down

pub returns-in-Some-clause-whole : goal.returns-in-Some-clause-whole
returns-in-Some-clause-whole g c = whole-down g.St.Store.seen c.args.self.now c.unseat.new.self c.set_seat-in-Err.new.self
    c.args.number c.in-Err.disk c.in-Err.fall.doubt c.unseat.ensures.takes c.set_seat-in-Err.ensures.takes c.requires.whole

pub returns-in-Some-clause-carried : goal.returns-in-Some-clause-carried
returns-in-Some-clause-carried g c = restart-falls g.St.Device.Disk.tells g.St.Store.layout g.St.Store.seen
    (disk_seen g.St.Device.Disk.counts g.St.Device.Disk.told g.St.Device.Disk.due) c.args.self.now c.unseat.new.self
    c.set_seat-in-Err.new.self c.args.number c.in-Down.disk c.in-Err.disk c.in-Down.doubt c.in-Err.fall.doubt c.in-Err.fall.note
    c.in-Some.end c.in-Err.fall.end c.entry-in-Some.result
    (was-down (place_at c.args.self.now c.args.number) c.unseat.result c.in-Down.disk c.in-Down.doubt
    c.unseat.ensures.old c.in-Down.is)
    c.unseat.ensures.takes c.set_seat-in-Err.ensures.takes c.in-Some.is (λ so. c.in-Err.ensures.falls so)
    (λ so. c.in-Err.ensures.barred so) (c.entry-in-Some.ensures.event ∙ c.boot_event.ensures) (record {
      node = c.entry-in-Some.ensures.node;
      clock = c.entry-in-Some.ensures.clock ∙ c.clock_at-clock-in-Err.ensures;
      broken = c.entry-in-Some.ensures.broken;
    })

pub returns-in-Some-clause-shows : goal.returns-in-Some-clause-shows
returns-in-Some-clause-shows g c = restart-falls-shows g.St.Device.Disk.tells g.St.Device.Disk.obeys g.St.Store.seen
    (disk_seen g.St.Device.Disk.counts g.St.Device.Disk.told g.St.Device.Disk.due) c.args.self.now c.unseat.new.self
    c.set_seat-in-Err.new.self c.args.number c.in-Down.disk c.in-Err.disk c.in-Down.doubt c.in-Err.fall.doubt c.in-Err.fall.note
    c.in-Some.end c.in-Err.fall.end c.entry-in-Some.result
    (was-down (place_at c.args.self.now c.args.number) c.unseat.result c.in-Down.disk c.in-Down.doubt
    c.unseat.ensures.old c.in-Down.is)
    c.unseat.ensures.takes c.set_seat-in-Err.ensures.takes c.in-Some.is (λ so. c.in-Err.ensures.shows so) c.in-Err.ensures.calls
    (c.entry-in-Some.ensures.event ∙ c.boot_event.ensures) c.entry-in-Some.ensures.node
    (c.entry-in-Some.ensures.clock ∙ c.clock_at-clock-in-Err.ensures)

-- 3. There was no memory for it

pub returns-in-None-clause-starved : goal.returns-in-None-clause-starved
returns-in-None-clause-starved g c = restart-starves g.St.Device.Disk.tells g.St.Store.layout g.St.Store.seen
    (disk_seen g.St.Device.Disk.counts g.St.Device.Disk.told g.St.Device.Disk.due) c.args.self.now c.unseat.new.self
    c.set_seat-in-Err.new.self c.args.number c.in-Down.disk c.in-Err.disk c.in-Down.doubt c.in-Err.fall.doubt c.in-Err.fall.note
    c.in-Err.fall.end
    (was-down (place_at c.args.self.now c.args.number) c.unseat.result c.in-Down.disk c.in-Down.doubt
    c.unseat.ensures.old c.in-Down.is)
    c.unseat.ensures.takes c.set_seat-in-Err.ensures.takes c.in-None.is (λ so. c.in-Err.ensures.falls so)
    (λ so. c.in-Err.ensures.barred so)

pub returns-in-None-clause-leaves : goal.returns-in-None-clause-leaves
returns-in-None-clause-leaves g c = restart-leaves g.St.Device.Disk.tells g.St.Device.Disk.obeys g.St.Store.seen
    (disk_seen g.St.Device.Disk.counts g.St.Device.Disk.told g.St.Device.Disk.due) c.args.self.now c.unseat.new.self
    c.set_seat-in-Err.new.self c.args.number c.in-Down.disk c.in-Err.disk c.in-Down.doubt c.in-Err.fall.doubt c.in-Err.fall.note
    c.in-Err.fall.end c.in-None.is
    (was-down (place_at c.args.self.now c.args.number) c.unseat.result c.in-Down.disk c.in-Down.doubt
    c.unseat.ensures.old c.in-Down.is)
    c.unseat.ensures.takes c.set_seat-in-Err.ensures.takes c.in-Err.ensures.calls (λ so. c.in-Err.ensures.shows so) c.requires.whole

-- 4. A node is up there, or none stands there

pub returns-then-is_some-clause-carried : goal.returns-then-is_some-clause-carried
returns-then-is_some-clause-carried g c = up-stays g.St.Device.Disk.tells g.St.Store.layout g.St.Store.seen
    (disk_seen g.St.Device.Disk.counts g.St.Device.Disk.told g.St.Device.Disk.due) c.args.self.now c.args.number c.station.result
    c.entry_of_none.result c.station.ensures (sym c.is_some.ensures ∙ c.if-is_some.true) c.entry_of_none.ensures.event
    c.entry_of_none.ensures.none

-- 3. It asks no call

pub returns-then-is_some-clause-asks : goal.returns-then-is_some-clause-asks
returns-then-is_some-clause-asks g c = same-one c.args.self.now.calls c.args.self.now.calls refl

pub returns-in-Ok-clause-asks : goal.returns-in-Ok-clause-asks
returns-in-Ok-clause-asks g c = same-one c.args.self.now.calls c.set_seat.new.self.calls (swapped-same c.args.number c.args.number
    (place.Moving) (place.Up c.in-Ok.station) c.args.self.now c.unseat.new.self c.set_seat.new.self c.unseat.ensures.takes
    c.set_seat.ensures.takes)

pub returns-in-Some-clause-asks : goal.returns-in-Some-clause-asks
returns-in-Some-clause-asks g c = same-one c.args.self.now.calls c.set_seat-in-Err.new.self.calls (swapped-same c.args.number
    c.args.number (place.Moving) (place.Down c.in-Err.disk c.in-Err.fall.doubt) c.args.self.now c.unseat.new.self
    c.set_seat-in-Err.new.self c.unseat.ensures.takes c.set_seat-in-Err.ensures.takes)
