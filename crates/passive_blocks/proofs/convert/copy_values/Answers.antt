use Rattle.std.proofs.Common.{List, arith}
use Rattle.std.proofs.lemmas.Result.{err_from_is_err_and}
use Rattle.passive_store.specs.Seen.{DiskSeen, disk_seen}
use Rattle.passive_blocks.specs.declared.convert.Moved.{Moved}
use Rattle.passive_blocks.proofs.Running.{ends_early}
use Rattle.passive_blocks.proofs.CopyingValues.{copied_on, copy_refused}
use Rattle.passive_blocks.proofs.convert.copy_values.Goals as goal

pub returns-in_err-copy_value-clause-runs : goal.returns-in_err-copy_value-clause-runs
returns-in_err-copy_value-clause-runs g c =
    let start : DiskSeen = disk_seen g.D.Disk.counts g.D.Disk.told g.D.Disk.due c.args.disk.now in
    let here : DiskSeen = disk_seen g.D.Disk.counts g.D.Disk.told g.D.Disk.due c.loop-value.disk in
    let next : DiskSeen = disk_seen g.D.Disk.counts g.D.Disk.told g.D.Disk.due c.copy_value.new.disk in
    let ms : List Moved = c.args.moved.now.items in
    let p = err_from_is_err_and c.from_residual.result c.from_residual.ensures.1 in
    let e = c.in_err-copy_value.ensures in
    rw (p.1, p.2) (copy_refused g.D.Disk.tells g.D.Disk.obeys ms c.deref-value-items.result.now c.loop-value.value-index _ start here
    next _ c.deref-value-items.ensures.value (omega (arith, c.loop-value-test.true, c.deref-value-items.ensures.len)) c.requires.movable
    (ends_early _ e.only) c.loop-value.invariant e.runs)

pub loop-value-preserved : goal.loop-value-preserved
loop-value-preserved g c =
    let start : DiskSeen = disk_seen g.D.Disk.counts g.D.Disk.told g.D.Disk.due c.args.disk.now in
    let here : DiskSeen = disk_seen g.D.Disk.counts g.D.Disk.told g.D.Disk.due c.loop-value.disk in
    let next : DiskSeen = disk_seen g.D.Disk.counts g.D.Disk.told g.D.Disk.due c.copy_value.new.disk in
    let ms : List Moved = c.args.moved.now.items in
    copied_on g.D.Disk.tells g.D.Disk.obeys ms c.deref-value-items.result.now c.loop-value.value-index _ start here next
    c.deref-value-items.ensures.value (omega (arith, c.loop-value-test.true, c.deref-value-items.ensures.len)) c.requires.movable
    c.loop-value.invariant c.in_ok-copy_value.ensures.runs
