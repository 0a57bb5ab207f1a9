use Rattle.std.proofs.Common.{◌-◌, ap}
use Rattle.passive_store.specs.Seen.{disk_seen}
use Rattle.move_world.specs.Kept.{rows}
use Rattle.move_world.specs.View.{answer_of}
use Rattle.move_world.proofs.Placing.{place-sound, place-stands, place-world, place-armed}
use Rattle.move_world.proofs.Placing.{place-counted}
use Rattle.move_world.specs.Counting.{end_in}
use Rattle.move_world.proofs.world.MoveWorld.arm.Goals as goal

pub returns-clause-world : goal.returns-clause-world
returns-clause-world g c =
    place-world g.St.Store.seen (disk_seen g.St.Device.Disk.counts g.St.Device.Disk.told g.St.Device.Disk.due) c.args.self.now.seats.items
    (rows c.args.self.now.letters) c.args.n (c.from.result - 1) _ c.index_mut.result.now c.arm_seat.new.seat
    (ap (λ k. k - 1) c.from.ensures) c.requires.node c.requires.world.seats c.index_mut.ensures.value c.requires.world
    (c.arm_seat.ensures.sound c.args.n (place-sound g.St.Store.seen (disk_seen g.St.Device.Disk.counts g.St.Device.Disk.told
    g.St.Device.Disk.due) c.args.self.now.seats.items
    (rows c.args.self.now.letters) c.args.n (c.from.result - 1) _ c.index_mut.result.now c.arm_seat.new.seat
    (ap (λ k. k - 1) c.from.ensures) c.requires.node c.requires.world.seats c.index_mut.ensures.value c.requires.world))

pub returns-clause-armed : goal.returns-clause-armed
returns-clause-armed g c = λ so w of.
    place-armed g.St.Store.seen (disk_seen g.St.Device.Disk.counts g.St.Device.Disk.told g.St.Device.Disk.due) c.args.self.now.seats.items
    (rows c.args.self.now.letters) c.args.n (c.from.result - 1) _ c.index_mut.result.now c.arm_seat.new.seat
    (ap (λ k. k - 1) c.from.ensures) c.requires.node c.requires.world.seats c.index_mut.ensures.value g.St.Store.layout (answer_of
    c.arm_seat.result) w of
    (c.arm_seat.ensures.armed so c.args.n w (place-stands g.St.Store.seen (disk_seen g.St.Device.Disk.counts g.St.Device.Disk.told
    g.St.Device.Disk.due) c.args.self.now.seats.items
    (rows c.args.self.now.letters) c.args.n (c.from.result - 1) _ c.index_mut.result.now c.arm_seat.new.seat
    (ap (λ k. k - 1) c.from.ensures) c.requires.node c.requires.world.seats c.index_mut.ensures.value g.St.Store.layout w of))

pub returns-clause-counted : goal.returns-clause-counted
returns-clause-counted g c =
    place-counted g.St.Store.seen (disk_seen g.St.Device.Disk.counts g.St.Device.Disk.told g.St.Device.Disk.due) c.args.self.now.seats.items
    (rows c.args.self.now.letters) c.args.n (c.from.result - 1) _ c.index_mut.result.now c.arm_seat.new.seat
    (ap (λ k. k - 1) c.from.ensures) c.requires.node c.requires.world.seats c.index_mut.ensures.value (end_in (answer_of c.arm_seat.result))
    c.arm_seat.ensures.counted
