use Rattle.std.proofs.Common.{refl}
use Rattle.passive_store.specs.Seen.{disk_seen}
use Rattle.twin_store.specs.Twins.{twin_seen}
use Rattle.twin_world.specs.InHand.{found_by}
use Rattle.twin_world.specs.Places.{standing}
use Rattle.twin_world.proofs.Acting.{goes-ok, goes-err, done-ok, done-err}
use Rattle.twin_world.proofs.place.looked.Goals as goal

pub returns-in-Ok-clause-place : goal.returns-in-Ok-clause-place
returns-in-Ok-clause-place g c =
    let look = disk_seen g.St.Device.Disk.counts g.St.Device.Disk.told g.St.Device.Disk.due in
    goes-ok g.St.Device.Disk.tells c.args.asked.answer c.in-Ok.text (twin_seen g.St.Store.seen look c.args.twin) _ c.in-Ok.is refl

pub returns-in-Ok-clause-done : goal.returns-in-Ok-clause-done
returns-in-Ok-clause-done g c =
    done-ok found_by c.args.asked _ c.in-Ok.text c.in-Ok.is refl refl refl

pub returns-in-Err-clause-place : goal.returns-in-Err-clause-place
returns-in-Err-clause-place g c =
    let look = disk_seen g.St.Device.Disk.counts g.St.Device.Disk.told g.St.Device.Disk.due in
    goes-err g.St.Device.Disk.tells c.args.asked.answer c.in-Err.refusal (twin_seen g.St.Store.seen look c.args.twin)
    (standing g.St.Store.seen look c.shut.result) c.in-Err.is c.shut.ensures

pub returns-in-Err-clause-done : goal.returns-in-Err-clause-done
returns-in-Err-clause-done g c =
    done-err found_by c.args.asked c.in-Err.refusal c.refused.result c.in-Err.is refl c.refused.ensures.answer
    c.refused.ensures.first c.refused.ensures.second c.refused.ensures.memory
