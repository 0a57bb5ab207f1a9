use Rattle.std.proofs.Common.{◌-◌, ap}
use Rattle.passive_store.specs.Seen.{disk_seen}
use Rattle.move_world.specs.Kept.{rows}
use Rattle.move_world.proofs.Placing.{place-sound, place-stands, place-world, place-opened}
use Rattle.move_world.proofs.Placing.{place-counted-ok}
use Rattle.move_world.proofs.world.MoveWorld.restart.Goals as goal

pub open_at-requires-clause-sound : goal.open_at-requires-clause-sound
open_at-requires-clause-sound g c =
    place-sound g.St.Store.seen (disk_seen g.St.Device.Disk.counts g.St.Device.Disk.told g.St.Device.Disk.due) c.args.self.now.seats.items
    (rows c.args.self.now.letters) c.args.n (c.from.result - 1) _ c.index_mut.result.now c.index_mut.result.now
    (ap (λ k. k - 1) c.from.ensures) c.requires.node c.requires.world.seats c.index_mut.ensures.value c.requires.world

pub returns-clause-world : goal.returns-clause-world
returns-clause-world g c =
    place-world g.St.Store.seen (disk_seen g.St.Device.Disk.counts g.St.Device.Disk.told g.St.Device.Disk.due)
    c.args.self.now.seats.items
    (rows c.args.self.now.letters) c.args.n (c.from.result - 1) _ c.index_mut.result.now c.open_at.new.seat
    (ap (λ k. k - 1) c.from.ensures) c.requires.node c.requires.world.seats c.index_mut.ensures.value c.requires.world
    c.open_at.ensures.sound

pub returns-clause-steps : goal.returns-clause-steps
returns-clause-steps g c = λ so w of.
    place-opened g.St.Store.seen (disk_seen g.St.Device.Disk.counts g.St.Device.Disk.told g.St.Device.Disk.due) c.args.self.now.seats.items
    (rows c.args.self.now.letters) c.args.n (c.from.result - 1) _ c.index_mut.result.now c.open_at.new.seat
    (ap (λ k. k - 1) c.from.ensures) c.requires.node c.requires.world.seats c.index_mut.ensures.value g.St.Store.layout c.open_at.result
    w of
    (c.open_at.ensures.opened so w (place-stands g.St.Store.seen (disk_seen g.St.Device.Disk.counts g.St.Device.Disk.told
    g.St.Device.Disk.due) c.args.self.now.seats.items
    (rows c.args.self.now.letters) c.args.n (c.from.result - 1) _ c.index_mut.result.now c.open_at.new.seat
    (ap (λ k. k - 1) c.from.ensures) c.requires.node c.requires.world.seats c.index_mut.ensures.value g.St.Store.layout w of))

pub returns-clause-counted : goal.returns-clause-counted
returns-clause-counted g c =
    place-counted-ok g.St.Store.seen (disk_seen g.St.Device.Disk.counts g.St.Device.Disk.told g.St.Device.Disk.due) c.args.self.now.seats.items
    (rows c.args.self.now.letters) c.args.n (c.from.result - 1) _ c.index_mut.result.now c.open_at.new.seat
    (ap (λ k. k - 1) c.from.ensures) c.requires.node c.requires.world.seats c.index_mut.ensures.value c.open_at.result
    c.open_at.ensures.counted
