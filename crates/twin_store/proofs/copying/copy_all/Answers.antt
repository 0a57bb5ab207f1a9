use Rattle.std.proofs.lemmas.Result.{err_from_is_err_and}
use Rattle.passive_store.specs.Seen.{disk_seen}
use Rattle.twin_store.specs.Sides.{side_seen}
use Rattle.twin_store.proofs.Filling.{filling_first, filling_more, copies_refused, copies_whole, both_refused, at_uid, at_end}
use Rattle.twin_store.proofs.copying.copy_all.Goals as goal

pub loop-next-init : goal.loop-next-init
loop-next-init g c =
    let of = side_seen g.St.Store.seen (disk_seen g.St.Device.Disk.counts g.St.Device.Disk.told g.St.Device.Disk.due) in
    let first = c.next_to_copy-next.ensures in
    filling_first g.St.Device.Disk.tells g.St.Store.layout c.args.node (of c.args.source.now) (of c.args.target.now)
    c.next_to_copy-next.result
    c.requires.source c.requires.target first.own first.fits first.next first.some

pub loop-next-preserved : goal.loop-next-preserved
loop-next-preserved g c =
    let of = side_seen g.St.Store.seen (disk_seen g.St.Device.Disk.counts g.St.Device.Disk.told g.St.Device.Disk.due) in
    let more = c.next_to_copy-next-in-Some.ensures in
    filling_more g.St.Device.Disk.tells g.St.Store.layout c.args.node (of c.args.source.now) (of c.loop-next.source)
    (of c.copy_one.new.source) (of c.args.target.now)
    (of c.loop-next.target) (of c.copy_one.new.target) c.in-Some.uid c.next_to_copy-next-in-Some.result
    (at_uid g.St.Device.Disk.tells g.St.Store.layout c.args.node (of c.args.source.now) (of c.loop-next.source) (of c.args.target.now)
    (of c.loop-next.target)
    c.loop-next.next c.in-Some.uid c.in-Some.is c.loop-next.invariant)
    c.in_ok-copy_one.ensures.both c.in_ok-copy_one.ensures.takes more.own more.fits more.next more.some

pub returns-in_err-copy_one-clause-both : goal.returns-in_err-copy_one-clause-both
returns-in_err-copy_one-clause-both g c =
    let of = side_seen g.St.Store.seen (disk_seen g.St.Device.Disk.counts g.St.Device.Disk.told g.St.Device.Disk.due) in
    let p = err_from_is_err_and c.from_residual.result c.from_residual.ensures.1 in
    rw (p.1, p.2) (both_refused g.St.Device.Disk.tells g.St.Store.layout c.args.node (of c.args.source.now) (of c.loop-next.source)
    (of c.copy_one.new.source)
    (of c.args.target.now) (of c.loop-next.target) (of c.copy_one.new.target) c.in-Some.uid _
    (at_uid g.St.Device.Disk.tells g.St.Store.layout c.args.node (of c.args.source.now) (of c.loop-next.source) (of c.args.target.now)
    (of c.loop-next.target)
    c.loop-next.next c.in-Some.uid c.in-Some.is c.loop-next.invariant)
    c.in_err-copy_one.ensures.both)

pub returns-in_err-copy_one-clause-copies : goal.returns-in_err-copy_one-clause-copies
returns-in_err-copy_one-clause-copies g c = λ so.
    let of = side_seen g.St.Store.seen (disk_seen g.St.Device.Disk.counts g.St.Device.Disk.told g.St.Device.Disk.due) in
    let p = err_from_is_err_and c.from_residual.result c.from_residual.ensures.1 in
    rw (p.1, p.2) (copies_refused g.St.Device.Disk.tells g.St.Store.layout c.args.node (of c.args.source.now) (of c.loop-next.source)
    (of c.copy_one.new.source)
    (of c.args.target.now) (of c.loop-next.target) (of c.copy_one.new.target) c.in-Some.uid _
    (at_uid g.St.Device.Disk.tells g.St.Store.layout c.args.node (of c.args.source.now) (of c.loop-next.source) (of c.args.target.now)
    (of c.loop-next.target)
    c.loop-next.next c.in-Some.uid c.in-Some.is c.loop-next.invariant)
    c.in_err-copy_one.ensures.both so (c.in_err-copy_one.ensures.takes so))

pub returns-clause-copies : goal.returns-clause-copies
returns-clause-copies g c = λ so.
    let of = side_seen g.St.Store.seen (disk_seen g.St.Device.Disk.counts g.St.Device.Disk.told g.St.Device.Disk.due) in
    copies_whole g.St.Device.Disk.tells g.St.Store.layout c.args.node (of c.args.source.now) (of c.loop-next.source) (of c.args.target.now)
    (of c.loop-next.target)
    (at_end g.St.Device.Disk.tells g.St.Store.layout c.args.node (of c.args.source.now) (of c.loop-next.source) (of c.args.target.now)
    (of c.loop-next.target)
    c.loop-next.next c.in_default.not-Some c.loop-next.invariant)
    so
