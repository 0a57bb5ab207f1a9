use Rattle.std.proofs.Common.{◌-◌, ap, sym, subst}
use Rattle.passive_store.specs.Seen.{disk_seen}
use Rattle.twin_world.specs.Commands.{IsNode}
use Rattle.twin_world.specs.View.{meant}
use Rattle.twin_world.proofs.Moving.{place-sound, place-moves, reach-node}
use Rattle.twin_world.proofs.world.TwinWorld.step.Goals as goal

pub act_at-requires-clause-sound : goal.act_at-requires-clause-sound
act_at-requires-clause-sound g c =
    let look = disk_seen g.St.Device.Disk.counts g.St.Device.Disk.told g.St.Device.Disk.due in
    place-sound g.St.Store.seen look c.args.self.now.places.items c.node-n.result (c.from.result - 1) _ c.index_mut.result.now
    c.index_mut.result.now
    (ap (λ k. k - 1) c.from.ensures) (subst IsNode (sym c.node-n.ensures) (reach-node (meant c.args.command.now) c.requires.reach))
    c.requires.world.places c.index_mut.ensures.value c.requires.world

pub returns : goal.returns
returns g c =
    let look = disk_seen g.St.Device.Disk.counts g.St.Device.Disk.told g.St.Device.Disk.due in
    place-moves g.St.Store.seen look c.args.self.now.places.items c.node-n.result (c.from.result - 1) _ c.index_mut.result.now
    c.act_at.new.place
    (ap (λ k. k - 1) c.from.ensures) (subst IsNode (sym c.node-n.ensures) (reach-node (meant c.args.command.now) c.requires.reach))
    c.requires.world.places c.index_mut.ensures.value g.St.Device.Disk.tells g.St.Store.layout (meant c.args.command.now) c.act_at.result
    (sym c.node-n.ensures)
    c.requires.world c.act_at.ensures
