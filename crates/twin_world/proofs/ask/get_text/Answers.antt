use Rattle.passive_store.specs.Seen.{disk_seen}
use Rattle.twin_store.specs.Twins.{twin_seen}
use Rattle.twin_world.proofs.Asking.{looks-as}
use Rattle.twin_world.proofs.ask.get_text.Goals as goal

pub returns-clause-steps : goal.returns-clause-steps
returns-clause-steps g c =
    let of = twin_seen g.St.Store.seen (disk_seen g.St.Device.Disk.counts g.St.Device.Disk.told g.St.Device.Disk.due) in
    looks-as g.St.Device.Disk.tells g.St.Store.layout c.args.n c.args.serial c.get-answer.result
    (of c.args.twin.now) (of c.get-answer.new.self) c.requires.serial c.get-answer.ensures
