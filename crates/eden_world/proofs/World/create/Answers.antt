use Rattle.passive_store.specs.Seen.{disk_seen}
use Rattle.checkpoint.proofs.Activations.{any-err}
use Rattle.eden_world.specs.Creating.{creates_at}
use Rattle.eden_world.proofs.Created.{level-ends, made-level, made-told}
use Rattle.eden_world.proofs.Counting.{same-one}
use Rattle.eden_world.proofs.World.create.Goals as goal

pub returns-in_err-event-clause-starved : goal.returns-in_err-event-clause-starved
returns-in_err-event-clause-starved g c = any-err c.from_residual-in_err-event.result _ (level-ends g.St.Device.Disk.tells
    g.St.Store.layout g.St.Store.seen (disk_seen g.St.Device.Disk.counts g.St.Device.Disk.told g.St.Device.Disk.due) c.args.self.now
    (record c.create_reached.new.self { names = c.create.new.self })
    (made-level g.St.Device.Disk.tells g.St.Store.layout g.St.Store.seen
    (disk_seen g.St.Device.Disk.counts g.St.Device.Disk.told g.St.Device.Disk.due) c.args.self.now c.create_reached.new.self c.args.node
    c.args.type_name.now (creates_at c.args.self.now c.args.node c.args.type_name.now) c.in_ok-made.made
    c.in_ok-made.ensures.made))

pub returns-clause-carried : goal.returns-clause-carried
returns-clause-carried g c = made-told g.St.Device.Disk.tells g.St.Store.layout g.St.Store.seen
    (disk_seen g.St.Device.Disk.counts g.St.Device.Disk.told g.St.Device.Disk.due) c.args.self.now c.create_reached.new.self
    c.create.new.self c.args.name.now c.args.type_name.now c.args.node c.in_ok-made.made c.ended-status.result.0 c.ended-status.result.1
    c.in_ok-event.event c.entry_of_none.result c.in_ok-made.ensures.whole c.in_ok-made.ensures.made c.ended-status.ensures.status
    c.ended-status.ensures.uid c.in_ok-event.ensures.event (c.in_ok-event.ensures.stands c.args.node c.args.type_name.now)
    c.entry_of_none.ensures.event c.entry_of_none.ensures.none

pub returns-clause-asks : goal.returns-clause-asks
returns-clause-asks g c = same-one c.args.self.now.calls c.create_reached.new.self.calls c.create_reached.ensures.calls
