use Rattle.std.proofs.Common.{ap, length, arith}
use Rattle.invocation.specs.Mail.{Mail}
use Rattle.checkpoint.proofs.Activations.{any-err}
use Rattle.passive_store.specs.Seen.{disk_seen}
use Rattle.eden_world.proofs.TurnEnds.{goes-whole, goes-taken, goes-shows}
use Rattle.eden_world.proofs.TurnEnds.{stops-whole, stops-starved, stops-keeps, stops-taken, stops-shows}
use Rattle.eden_world.proofs.World.turn_at.Goals as goal

pub returns-in_err-event-clause-starved : goal.returns-in_err-event-clause-starved
returns-in_err-event-clause-starved g c = any-err c.from_residual.result _ c.in_err-event.ensures.starved

pub returns-in_err-event-clause-leaves : goal.returns-in_err-event-clause-leaves
returns-in_err-event-clause-leaves g c = any-err c.from_residual.result _ c.in_err-event.ensures.leaves

pub returns-in-Up-clause-whole : goal.returns-in-Up-clause-whole
returns-in-Up-clause-whole g c =
    let look = disk_seen g.St.Device.Disk.counts g.St.Device.Disk.told g.St.Device.Disk.due in
    goes-whole g.St.Device.Disk.tells g.St.Device.Disk.obeys g.St.Store.layout g.St.Store.seen look c.args.key c.in_ok-event.field-0
    c.args.self.now c.turn_here.new.self c.in_ok-event.ensures.turns c.requires.whole c.in-Up.is

pub returns-in-Up-clause-taken : goal.returns-in-Up-clause-taken
returns-in-Up-clause-taken g c =
    let look = disk_seen g.St.Device.Disk.counts g.St.Device.Disk.told g.St.Device.Disk.due in
    goes-taken g.St.Device.Disk.tells g.St.Device.Disk.obeys g.St.Store.layout g.St.Store.seen look c.args.key c.in_ok-event.field-0
    c.args.self.now c.turn_here.new.self c.in_ok-event.ensures.turns c.requires.whole c.in-Up.is c.entry_of_turn.result
    c.entry_of_turn.ensures.event c.entry_of_turn.ensures.shows c.entry_of_turn.ensures.broken

pub returns-in-Up-clause-shows : goal.returns-in-Up-clause-shows
returns-in-Up-clause-shows g c =
    let look = disk_seen g.St.Device.Disk.counts g.St.Device.Disk.told g.St.Device.Disk.due in
    goes-shows g.St.Device.Disk.tells g.St.Device.Disk.obeys g.St.Store.layout g.St.Store.seen look c.args.key c.in_ok-event.field-0
    c.args.self.now c.turn_here.new.self c.in_ok-event.ensures.turns c.requires.whole c.in-Up.is c.entry_of_turn.result
    c.entry_of_turn.ensures.event c.entry_of_turn.ensures.shows

pub lose-requires-clause-whole : goal.lose-requires-clause-whole
lose-requires-clause-whole g c =
    let look = disk_seen g.St.Device.Disk.counts g.St.Device.Disk.told g.St.Device.Disk.due in
    stops-whole g.St.Device.Disk.tells g.St.Device.Disk.obeys g.St.Store.layout g.St.Store.seen look c.args.key c.in_ok-event.field-0
    c.args.self.now c.turn_here.new.self c.in_ok-event.ensures.turns c.requires.whole c.in-Down.is c.vacate.new.self c.vacate.ensures.down
    c.vacate.ensures.others c.vacate.ensures.rest

pub returns-in_err-broken-in-Down-clause-starved : goal.returns-in_err-broken-in-Down-clause-starved
returns-in_err-broken-in-Down-clause-starved g c =
    let look = disk_seen g.St.Device.Disk.counts g.St.Device.Disk.told g.St.Device.Disk.due in
    any-err c.from_residual-in_err-broken-in-Down.result _
    (stops-starved g.St.Device.Disk.tells g.St.Device.Disk.obeys g.St.Store.layout g.St.Store.seen look c.args.key c.in_ok-event.field-0
    c.args.self.now c.turn_here.new.self c.in_ok-event.ensures.turns c.requires.whole c.in-Down.is c.vacate.new.self c.vacate.ensures.down
    c.vacate.ensures.others c.vacate.ensures.rest c.lose.new.self c.lose.ensures.disks)

pub returns-in_err-broken-in-Down-clause-leaves : goal.returns-in_err-broken-in-Down-clause-leaves
returns-in_err-broken-in-Down-clause-leaves g c =
    let look = disk_seen g.St.Device.Disk.counts g.St.Device.Disk.told g.St.Device.Disk.due in
    any-err c.from_residual-in_err-broken-in-Down.result _
    (stops-keeps g.St.Device.Disk.tells g.St.Device.Disk.obeys g.St.Store.layout g.St.Store.seen look c.args.key c.in_ok-event.field-0
    c.args.self.now c.turn_here.new.self c.in_ok-event.ensures.turns c.requires.whole c.in-Down.is c.vacate.new.self c.vacate.ensures.down
    c.vacate.ensures.others c.vacate.ensures.rest c.lose.new.self c.lose.ensures.disks c.lose.ensures.seated.places
    c.lose.ensures.seated.seated)

pub returns-in_ok-broken-in-Down-clause-taken : goal.returns-in_ok-broken-in-Down-clause-taken
returns-in_ok-broken-in-Down-clause-taken g c =
    let look = disk_seen g.St.Device.Disk.counts g.St.Device.Disk.told g.St.Device.Disk.due in
    stops-taken g.St.Device.Disk.tells g.St.Device.Disk.obeys g.St.Store.layout g.St.Store.seen look c.args.key c.in_ok-event.field-0
    c.args.self.now c.turn_here.new.self c.in_ok-event.ensures.turns c.requires.whole c.in-Down.is c.vacate.new.self c.vacate.ensures.down
    c.vacate.ensures.others c.vacate.ensures.rest c.lose.new.self c.lose.ensures.disks c.in_ok-broken-in-Down.broken
    c.entry_of_turn-entry.result c.entry_of_turn-entry.ensures.event c.entry_of_turn-entry.ensures.shows c.in_ok-broken-in-Down.ensures.told

pub returns-in_ok-broken-in-Down-clause-shows : goal.returns-in_ok-broken-in-Down-clause-shows
returns-in_ok-broken-in-Down-clause-shows g c =
    let look = disk_seen g.St.Device.Disk.counts g.St.Device.Disk.told g.St.Device.Disk.due in
    stops-shows g.St.Device.Disk.tells g.St.Device.Disk.obeys g.St.Store.layout g.St.Store.seen look c.args.key c.in_ok-event.field-0
    c.args.self.now c.turn_here.new.self c.in_ok-event.ensures.turns c.requires.whole c.in-Down.is c.vacate.new.self c.vacate.ensures.down
    c.vacate.ensures.others c.vacate.ensures.rest c.lose.new.self c.lose.ensures.disks c.in_ok-broken-in-Down.broken
    c.entry_of_turn-entry.result c.entry_of_turn-entry.ensures.event c.entry_of_turn-entry.ensures.shows

pub returns-in_ok-broken-in-Down-clause-asks : goal.returns-in_ok-broken-in-Down-clause-asks
returns-in_ok-broken-in-Down-clause-asks g c = omega (
  arith,
  c.in_ok-event.ensures.asks,
  ap (λ (m : Mail). length m.calls) c.vacate.ensures.rest.calls,
  c.in_ok-broken-in-Down.ensures.asks,
)
