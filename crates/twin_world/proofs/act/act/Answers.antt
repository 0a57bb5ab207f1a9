use Rattle.std.proofs.Common.{sym, subst, ℕ, ◌≤◌, List, length}
use Rattle.passive_store.specs.Seen.{disk_seen}
use Rattle.twin_world.specs.Commands.{puts, gets, deletes}
use Rattle.twin_world.specs.Places.{standing}
use Rattle.twin_world.specs.View.{meant}
use Rattle.twin_world.proofs.Acting.{acts-as, put-reach, get-reach, delete-reach, put-means, get-means, delete-means}
use Rattle.twin_world.proofs.act.act.Goals as goal

pub put_place-requires-clause-serial : goal.put_place-requires-clause-serial
put_place-requires-clause-serial g c =
    (put-reach c.args.command.now c.in-Put.n c.in-Put.serial c.in-Put.text c.in-Put.is c.requires.reach).0

pub put_place-requires-clause-limit : goal.put_place-requires-clause-limit
put_place-requires-clause-limit g c =
    subst (λ (t : List ℕ). length t ≤ 1024) (sym c.as_slice.ensures)
    (put-reach c.args.command.now c.in-Put.n c.in-Put.serial c.in-Put.text c.in-Put.is c.requires.reach).1

pub get_place-requires-clause-serial : goal.get_place-requires-clause-serial
get_place-requires-clause-serial g c =
    get-reach c.args.command.now c.in-Get.n c.in-Get.serial c.in-Get.is c.requires.reach

pub delete_place-requires-clause-serial : goal.delete_place-requires-clause-serial
delete_place-requires-clause-serial g c =
    delete-reach c.args.command.now c.in-Delete.n c.in-Delete.serial c.in-Delete.is c.requires.reach

pub returns-in-Put : goal.returns-in-Put
returns-in-Put g c =
    let look = disk_seen g.St.Device.Disk.counts g.St.Device.Disk.told g.St.Device.Disk.due in
    acts-as g.St.Device.Disk.tells g.St.Store.layout c.args.n (puts c.args.n c.in-Put.serial c.as_slice.result.now)
    (meant c.args.command.now) c.put_place.result.1 (standing g.St.Store.seen look c.args.place)
    (standing g.St.Store.seen look c.put_place.result.0)
    (put-means c.args.command.now c.args.n c.in-Put.n c.in-Put.serial c.in-Put.text c.as_slice.result.now c.in-Put.is c.requires.node
    c.as_slice.ensures)
    c.put_place.ensures

pub returns-in-Get : goal.returns-in-Get
returns-in-Get g c =
    let look = disk_seen g.St.Device.Disk.counts g.St.Device.Disk.told g.St.Device.Disk.due in
    acts-as g.St.Device.Disk.tells g.St.Store.layout c.args.n (gets c.args.n c.in-Get.serial) (meant c.args.command.now)
    c.get_place.result.1 (standing g.St.Store.seen look c.args.place) (standing g.St.Store.seen look c.get_place.result.0)
    (get-means c.args.command.now c.args.n c.in-Get.n c.in-Get.serial c.in-Get.is c.requires.node)
    c.get_place.ensures

pub returns-in-Delete : goal.returns-in-Delete
returns-in-Delete g c =
    let look = disk_seen g.St.Device.Disk.counts g.St.Device.Disk.told g.St.Device.Disk.due in
    acts-as g.St.Device.Disk.tells g.St.Store.layout c.args.n (deletes c.args.n c.in-Delete.serial) (meant c.args.command.now)
    c.delete_place.result.1 (standing g.St.Store.seen look c.args.place) (standing g.St.Store.seen look c.delete_place.result.0)
    (delete-means c.args.command.now c.args.n c.in-Delete.n c.in-Delete.serial c.in-Delete.is c.requires.node)
    c.delete_place.ensures
