use Rattle.std.specs.Prelude.{Some}
use Rattle.passive_store.specs.Seen.{disk_seen}
use Rattle.twin_store.specs.Twins.{twin_seen}
use Rattle.twin_world.specs.Logs.{change}
use Rattle.twin_world.proofs.Asking.{changes-as}
use Rattle.twin_world.proofs.ask.put_text.Goals as goal

pub returns-then-second-clause-steps : goal.returns-then-second-clause-steps
returns-then-second-clause-steps g c =
    let of = twin_seen g.St.Store.seen (disk_seen g.St.Device.Disk.counts g.St.Device.Disk.told g.St.Device.Disk.due) in
    changes-as g.St.Device.Disk.tells g.St.Store.layout c.args.n (change c.args.serial (Some c.args.text.now)) c.put-answer.result
    (of c.args.twin.now) (of c.put-answer.new.self) c.requires.serial c.put-answer.ensures.changes

pub returns-else-second-clause-steps : goal.returns-else-second-clause-steps
returns-else-second-clause-steps g c =
    let of = twin_seen g.St.Store.seen (disk_seen g.St.Device.Disk.counts g.St.Device.Disk.told g.St.Device.Disk.due) in
    changes-as g.St.Device.Disk.tells g.St.Store.layout c.args.n (change c.args.serial (Some c.args.text.now)) c.put-answer.result
    (of c.args.twin.now) (of c.put-answer.new.self) c.requires.serial c.put-answer.ensures.changes
