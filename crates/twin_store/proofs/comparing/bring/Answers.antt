use Rattle.std.proofs.lemmas.Result.{err_from_is_err_and}
use Rattle.passive_store.specs.Seen.{disk_seen}
use Rattle.twin_store.specs.Sides.{side_seen, bodies_on}
use Rattle.twin_store.proofs.Alike.{uncompared, uncompared_moves, brought_already, moved_already, moved_then, brought_then, rests_then}
use Rattle.twin_store.proofs.Reading.{same_sound}
use Rattle.twin_store.proofs.comparing.bring.Goals as goal

pub returns-in_err-same-clause-both : goal.returns-in_err-same-clause-both
returns-in_err-same-clause-both g c =
    let of = side_seen g.St.Store.seen (disk_seen g.St.Device.Disk.counts g.St.Device.Disk.told g.St.Device.Disk.due) in
    let p = err_from_is_err_and c.from_residual.result c.from_residual.ensures.1 in
    rw (p.1, p.2) (uncompared_moves c.args.node _ (of c.args.source.now) (of c.args.target.now) (of c.are_same.new.source)
    (of c.are_same.new.target) c.in_err-same.ensures.both)

pub returns-in_err-same-clause-copied : goal.returns-in_err-same-clause-copied
returns-in_err-same-clause-copied g c = λ so rest target_rest sound.
    let of = side_seen g.St.Store.seen (disk_seen g.St.Device.Disk.counts g.St.Device.Disk.told g.St.Device.Disk.due) in
    let p = err_from_is_err_and c.from_residual.result c.from_residual.ensures.1 in
    rw (p.1, p.2) (uncompared g.St.Store.layout c.args.node _ (of c.args.source.now) (of c.args.target.now) (of c.are_same.new.source)
    (of c.are_same.new.target) (c.in_err-same.ensures.compares so rest target_rest))

pub returns-then-is_done-clause-both : goal.returns-then-is_done-clause-both
returns-then-is_done-clause-both g c =
    let of = side_seen g.St.Store.seen (disk_seen g.St.Device.Disk.counts g.St.Device.Disk.told g.St.Device.Disk.due) in
    moved_already c.args.node c.in_ok-same.same (of c.args.source.now) (of c.args.target.now) (of c.are_same.new.source)
    (of c.are_same.new.target) c.in_ok-same.ensures.both

pub returns-then-is_done-clause-copied : goal.returns-then-is_done-clause-copied
returns-then-is_done-clause-copied g c = λ so rest target_rest sound.
    let of = side_seen g.St.Store.seen (disk_seen g.St.Device.Disk.counts g.St.Device.Disk.told g.St.Device.Disk.due) in
    brought_already g.St.Store.layout c.args.node c.in_ok-same.same (of c.args.source.now) (of c.args.target.now)
    (of c.are_same.new.source) (of c.are_same.new.target) (c.in_ok-same.ensures.compares so rest target_rest)
    (c.is_done.ensures.done c.if-is_done.true)

pub returns-clause-both : goal.returns-clause-both
returns-clause-both g c =
    let of = side_seen g.St.Store.seen (disk_seen g.St.Device.Disk.counts g.St.Device.Disk.told g.St.Device.Disk.due) in
    moved_then c.args.node c.in_ok-same.same c.copy.result (of c.args.source.now) (of c.args.target.now) (of c.are_same.new.source)
    (of c.are_same.new.target) (of c.copy.new.source) (of c.copy.new.target) c.in_ok-same.ensures.both c.copy.ensures.both

pub returns-clause-copied : goal.returns-clause-copied
returns-clause-copied g c = λ so rest target_rest sound.
    let of = side_seen g.St.Store.seen (disk_seen g.St.Device.Disk.counts g.St.Device.Disk.told g.St.Device.Disk.due) in
    let k = c.in_ok-same.ensures.compares so rest target_rest in
    let on = c.is_done.ensures.source c.if-is_done.false in
    let used = c.is_done.ensures.target c.if-is_done.false in
    let rests = rests_then g.St.Store.layout c.args.node c.in_ok-same.same (of c.args.source.now) (of c.args.target.now)
    (of c.are_same.new.source) (of c.are_same.new.target) k on used in
    brought_then g.St.Store.layout c.args.node c.in_ok-same.same c.copy.result (of c.args.source.now) (of c.args.target.now)
    (of c.are_same.new.source) (of c.are_same.new.target) (of c.copy.new.source) (of c.copy.new.target) k on used
    (c.copy.ensures.copied so rests.0 rests.1
    (same_sound c.args.node (bodies_on (of c.args.source.now)) (bodies_on (of c.are_same.new.source)) (k.source_stays.bears.has on) sound))
