use Rattle.std.proofs.lemmas.Result.{err_from_is_err_and}
use Rattle.passive_store.specs.Seen.{disk_seen}
use Rattle.twin_store.specs.Twins.{twin_seen}
use Rattle.twin_store.proofs.Agreeing.{agrees_on, agrees_refused}
use Rattle.twin_store.proofs.Aloning.{agrees_alone, alone_by, agrees_early, unopened_spent}
use Rattle.twin_store.proofs.twin.TwinStore.agree.Goals as goal

pub returns-in_err-copy_right-clause-agrees : goal.returns-in_err-copy_right-clause-agrees
returns-in_err-copy_right-clause-agrees g c = λ so rest.
    let of = twin_seen g.St.Store.seen (disk_seen g.St.Device.Disk.counts g.St.Device.Disk.told g.St.Device.Disk.due) in
    let p = err_from_is_err_and c.from_residual.result c.from_residual.ensures.1 in
    rw (p.1, p.2) (agrees_refused g.St.Store.layout _ (of c.args.self.now) (of c.copy_right.new.self)
    (c.in_err-copy_right.ensures.levels so rest))

pub returns-clause-agrees : goal.returns-clause-agrees
returns-clause-agrees g c = λ so rest.
    let of = twin_seen g.St.Store.seen (disk_seen g.St.Device.Disk.counts g.St.Device.Disk.told g.St.Device.Disk.due) in
    let l = c.in_ok-copy_right.ensures.levels so rest in
    let moves = c.leave_one.ensures.moves in
    agrees_on g.St.Store.layout c.leave_one.result (of c.args.self.now) (of c.copy_right.new.self) (of c.leave_one.new.self)
    moves.node moves.first moves.second l (c.leave_one.ensures.agrees so l.level)

pub returns-in_err-copy_right-clause-alone : goal.returns-in_err-copy_right-clause-alone
returns-in_err-copy_right-clause-alone g c =
    let p = err_from_is_err_and c.from_residual.result c.from_residual.ensures.1 in
    rw (p.1, p.2) (λ is. unopened_spent _ c.in_err-copy_right.ensures.moves.only is)

pub returns-in_err-copy_right-clause-greatest : goal.returns-in_err-copy_right-clause-greatest
returns-in_err-copy_right-clause-greatest g c = λ so rest.
    let of = twin_seen g.St.Store.seen (disk_seen g.St.Device.Disk.counts g.St.Device.Disk.told g.St.Device.Disk.due) in
    let p = err_from_is_err_and c.from_residual.result c.from_residual.ensures.1 in
    rw (p.1, p.2) (agrees_early _ (of c.args.self.now) (of c.copy_right.new.self)
    c.in_err-copy_right.ensures.moves)

pub returns-clause-alone : goal.returns-clause-alone
returns-clause-alone g c =
    let of = twin_seen g.St.Store.seen (disk_seen g.St.Device.Disk.counts g.St.Device.Disk.told g.St.Device.Disk.due) in
    alone_by c.leave_one.result (of c.copy_right.new.self) (of c.leave_one.new.self) c.leave_one.ensures.raises

pub returns-clause-greatest : goal.returns-clause-greatest
returns-clause-greatest g c = λ so rest.
    let of = twin_seen g.St.Store.seen (disk_seen g.St.Device.Disk.counts g.St.Device.Disk.told g.St.Device.Disk.due) in
    agrees_alone c.leave_one.result (of c.args.self.now) (of c.copy_right.new.self) (of c.leave_one.new.self)
    (c.in_ok-copy_right.ensures.gathers so rest) c.leave_one.ensures.raises c.leave_one.ensures.moves.first
    c.leave_one.ensures.moves.second
