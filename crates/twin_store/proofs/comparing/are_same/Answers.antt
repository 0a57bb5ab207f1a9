use Rattle.std.proofs.lemmas.Result.{err_from_is_err_and}
use Rattle.passive_store.specs.Seen.{disk_seen}
use Rattle.twin_store.specs.Sides.{side_seen}
use Rattle.twin_store.proofs.Alike.{comparing_first, comparing_more, compared_refused, compared_moves_refused, compared, compared_moves}
use Rattle.twin_store.proofs.Alike.{at_this, at_last}
use Rattle.twin_store.proofs.comparing.are_same.Goals as goal

pub loop-next-init : goal.loop-next-init
loop-next-init g c =
    let of = side_seen g.St.Store.seen (disk_seen g.St.Device.Disk.counts g.St.Device.Disk.told g.St.Device.Disk.due) in
    let first = c.next_of_both-first.ensures in
    comparing_first g.St.Device.Disk.tells g.St.Store.layout c.args.node (of c.args.source.now) (of c.args.target.now)
    c.next_of_both-first.result.0 c.next_of_both-first.result.1 c.requires.source c.requires.target first.own first.fits first.some
    first.next first.none

pub loop-next-preserved : goal.loop-next-preserved
loop-next-preserved g c =
    let of = side_seen g.St.Store.seen (disk_seen g.St.Device.Disk.counts g.St.Device.Disk.told g.St.Device.Disk.due) in
    let more = c.next_of_both-step.ensures in
    comparing_more g.St.Device.Disk.tells g.St.Store.layout c.args.node (of c.args.source.now) (of c.loop-next.source)
    (of c.has_same.new.source) (of c.args.target.now) (of c.loop-next.target) (of c.has_same.new.target) c.in-Some.uid c.loop-next.alike
    (at_this g.St.Device.Disk.tells g.St.Store.layout c.args.node (of c.args.source.now) (of c.loop-next.source) (of c.args.target.now)
    (of c.loop-next.target) c.loop-next.next c.loop-next.alike c.in-Some.uid c.in-Some.is c.loop-next.invariant)
    c.in_ok-same.same c.next_of_both-step.result.0 c.next_of_both-step.result.1
    c.in_ok-same.ensures.both c.in_ok-same.ensures.looks more.own more.fits more.some more.alike more.next more.none

pub returns-in_err-same-clause-both : goal.returns-in_err-same-clause-both
returns-in_err-same-clause-both g c =
    let of = side_seen g.St.Store.seen (disk_seen g.St.Device.Disk.counts g.St.Device.Disk.told g.St.Device.Disk.due) in
    let p = err_from_is_err_and c.from_residual.result c.from_residual.ensures.1 in
    rw (p.1, p.2) (compared_moves_refused g.St.Device.Disk.tells g.St.Store.layout c.args.node (of c.args.source.now)
    (of c.loop-next.source) (of c.has_same.new.source) (of c.args.target.now) (of c.loop-next.target) (of c.has_same.new.target)
    c.in-Some.uid c.loop-next.alike
    (at_this g.St.Device.Disk.tells g.St.Store.layout c.args.node (of c.args.source.now) (of c.loop-next.source) (of c.args.target.now)
    (of c.loop-next.target) c.loop-next.next c.loop-next.alike c.in-Some.uid c.in-Some.is c.loop-next.invariant)
    _ c.in_err-same.ensures.both)

pub returns-in_err-same-clause-compares : goal.returns-in_err-same-clause-compares
returns-in_err-same-clause-compares g c = λ so rest target_rest.
    let of = side_seen g.St.Store.seen (disk_seen g.St.Device.Disk.counts g.St.Device.Disk.told g.St.Device.Disk.due) in
    let p = err_from_is_err_and c.from_residual.result c.from_residual.ensures.1 in
    rw (p.1, p.2) (compared_refused g.St.Device.Disk.tells g.St.Store.layout c.args.node (of c.args.source.now)
    (of c.loop-next.source) (of c.has_same.new.source) (of c.args.target.now) (of c.loop-next.target) (of c.has_same.new.target)
    c.in-Some.uid c.loop-next.alike
    (at_this g.St.Device.Disk.tells g.St.Store.layout c.args.node (of c.args.source.now) (of c.loop-next.source) (of c.args.target.now)
    (of c.loop-next.target) c.loop-next.next c.loop-next.alike c.in-Some.uid c.in-Some.is c.loop-next.invariant)
    _ c.in_err-same.ensures.both so (c.in_err-same.ensures.looks so) rest target_rest)

pub returns-clause-both : goal.returns-clause-both
returns-clause-both g c =
    let of = side_seen g.St.Store.seen (disk_seen g.St.Device.Disk.counts g.St.Device.Disk.told g.St.Device.Disk.due) in
    compared_moves g.St.Device.Disk.tells g.St.Store.layout c.args.node (of c.args.source.now) (of c.loop-next.source)
    (of c.args.target.now) (of c.loop-next.target) c.loop-next.alike
    (at_last g.St.Device.Disk.tells g.St.Store.layout c.args.node (of c.args.source.now) (of c.loop-next.source) (of c.args.target.now)
    (of c.loop-next.target) c.loop-next.next c.loop-next.alike c.in_default.not-Some c.loop-next.invariant)

pub returns-clause-compares : goal.returns-clause-compares
returns-clause-compares g c = λ so rest target_rest.
    let of = side_seen g.St.Store.seen (disk_seen g.St.Device.Disk.counts g.St.Device.Disk.told g.St.Device.Disk.due) in
    compared g.St.Device.Disk.tells g.St.Store.layout c.args.node (of c.args.source.now) (of c.loop-next.source)
    (of c.args.target.now) (of c.loop-next.target) c.loop-next.alike
    (at_last g.St.Device.Disk.tells g.St.Store.layout c.args.node (of c.args.source.now) (of c.loop-next.source) (of c.args.target.now)
    (of c.loop-next.target) c.loop-next.next c.loop-next.alike c.in_default.not-Some c.loop-next.invariant)
    so rest target_rest
