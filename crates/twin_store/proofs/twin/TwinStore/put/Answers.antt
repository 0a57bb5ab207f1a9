use Rattle.std.specs.Prelude.{Some, Err}
use Rattle.twin_store.specs.declared.served.TwinRefusal.TheVariants.{Full}
use Rattle.passive_store.specs.Seen.{asked, disk_seen}
use Rattle.twin_store.specs.Twins.{twin_seen}
use Rattle.std.proofs.Common.{refl}
use Rattle.twin_store.proofs.Changing.{changed_both, full_before, refused_first, room_there}
use Rattle.twin_store.proofs.Rooming.{full_exactly}
use Rattle.std.proofs.lemmas.Result.{err_from_is_err_and}
use Rattle.twin_store.proofs.twin.TwinStore.put.Goals as goal

pub returns-clause-changes : goal.returns-clause-changes
returns-clause-changes g c =
    let of = twin_seen g.St.Store.seen (disk_seen g.St.Device.Disk.counts g.St.Device.Disk.told g.St.Device.Disk.due) in
    changed_both g.St.Device.Disk.tells g.St.Store.layout (Some (asked c.args.uid (Some c.args.body.now))) tt c.put_second.result
    (of c.args.self.now) (of c.put_first.new.self) (of c.put_second.new.self) c.in_ok-put_first.ensures c.put_second.ensures

pub returns-then-not-has_room-clause-changes : goal.returns-then-not-has_room-clause-changes
returns-then-not-has_room-clause-changes g c =
    let of = twin_seen g.St.Store.seen (disk_seen g.St.Device.Disk.counts g.St.Device.Disk.told g.St.Device.Disk.due) in
    full_before g.St.Device.Disk.tells g.St.Store.layout c.args.uid c.args.body.now (of c.args.self.now)
    (c.has_room.ensures.no c.if-not-has_room.true)

pub returns-then-not-has_room-clause-short : goal.returns-then-not-has_room-clause-short
returns-then-not-has_room-clause-short g c = λ so lacks. (refl, refl)

pub returns-clause-short : goal.returns-clause-short
returns-clause-short g c = λ so lacks.
    let of = twin_seen g.St.Store.seen (disk_seen g.St.Device.Disk.counts g.St.Device.Disk.told g.St.Device.Disk.due) in
    let has = c.has_room.ensures.yes c.if-not-has_room.false in
    room_there g.St.Device.Disk.tells g.St.Store.layout c.args.body.now (of c.args.self.now) so has.0 has.1 lacks

pub returns-in_err-put_first-clause-short : goal.returns-in_err-put_first-clause-short
returns-in_err-put_first-clause-short g c = λ so lacks.
    let of = twin_seen g.St.Store.seen (disk_seen g.St.Device.Disk.counts g.St.Device.Disk.told g.St.Device.Disk.due) in
    let has = c.has_room.ensures.yes c.if-not-has_room.false in
    room_there g.St.Device.Disk.tells g.St.Store.layout c.args.body.now (of c.args.self.now) so has.0 has.1 lacks

pub returns-in_err-put_first-clause-changes : goal.returns-in_err-put_first-clause-changes
returns-in_err-put_first-clause-changes g c =
    let of = twin_seen g.St.Store.seen (disk_seen g.St.Device.Disk.counts g.St.Device.Disk.told g.St.Device.Disk.due) in
    let p = err_from_is_err_and c.from_residual.result c.from_residual.ensures.1 in
    rw (p.1, p.2) (refused_first g.St.Device.Disk.tells g.St.Store.layout (Some (asked c.args.uid (Some c.args.body.now))) _
    (of c.args.self.now) (of c.put_first.new.self) c.in_err-put_first.ensures)

pub returns-then-not-has_room-clause-exact : goal.returns-then-not-has_room-clause-exact
returns-then-not-has_room-clause-exact g c = λ so law all.
    let of = twin_seen g.St.Store.seen (disk_seen g.St.Device.Disk.counts g.St.Device.Disk.told g.St.Device.Disk.due) in
    full_exactly g.St.Device.Disk.tells g.St.Store.layout c.args.uid c.args.body.now (Err Full) (of c.args.self.now) (of c.args.self.now)
    so law c.requires.own all
    (full_before {U = Unit {0}} g.St.Device.Disk.tells g.St.Store.layout c.args.uid c.args.body.now (of c.args.self.now)
    (c.has_room.ensures.no c.if-not-has_room.true)).full
    (λ lacks. (refl, refl))

pub returns-in_err-put_first-clause-exact : goal.returns-in_err-put_first-clause-exact
returns-in_err-put_first-clause-exact g c = λ so law all.
    let of = twin_seen g.St.Store.seen (disk_seen g.St.Device.Disk.counts g.St.Device.Disk.told g.St.Device.Disk.due) in
    let has = c.has_room.ensures.yes c.if-not-has_room.false in
    let p = err_from_is_err_and c.from_residual.result c.from_residual.ensures.1 in
    rw (p.1, p.2) (full_exactly g.St.Device.Disk.tells g.St.Store.layout c.args.uid c.args.body.now _ (of c.args.self.now)
    (of c.put_first.new.self) so law c.requires.own all c.in_err-put_first.ensures.full
    (λ lacks. room_there g.St.Device.Disk.tells g.St.Store.layout c.args.body.now (of c.args.self.now) so has.0 has.1 lacks))

pub returns-clause-exact : goal.returns-clause-exact
returns-clause-exact g c = λ so law all.
    let of = twin_seen g.St.Store.seen (disk_seen g.St.Device.Disk.counts g.St.Device.Disk.told g.St.Device.Disk.due) in
    let has = c.has_room.ensures.yes c.if-not-has_room.false in
    full_exactly g.St.Device.Disk.tells g.St.Store.layout c.args.uid c.args.body.now c.put_second.result (of c.args.self.now)
    (of c.put_second.new.self) so law c.requires.own all
    (changed_both g.St.Device.Disk.tells g.St.Store.layout (Some (asked c.args.uid (Some c.args.body.now))) tt c.put_second.result
    (of c.args.self.now) (of c.put_first.new.self) (of c.put_second.new.self) c.in_ok-put_first.ensures c.put_second.ensures).full
    (λ lacks. room_there g.St.Device.Disk.tells g.St.Store.layout c.args.body.now (of c.args.self.now) so has.0 has.1 lacks)
