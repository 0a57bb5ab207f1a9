use Rattle.std.proofs.Common.{List, Err}
use Rattle.std.proofs.lemmas.Result.{err_from_is_err_and}
use Rattle.eden_disk.specs.Calls.{Fine, end_of}
use Rattle.passive_store.specs.Seen.{DiskSeen, disk_seen}
use Rattle.block_tables.specs.Blocks.{Head}
use Rattle.passive_blocks.specs.Converting.{heads_planned}
use Rattle.passive_blocks.proofs.Moving.{staging_begun, staged_write, staging_on, staging_refused, staged_whole}
use Rattle.passive_blocks.proofs.convert.stage_heads.Goals as goal

pub loop-block-init : goal.loop-block-init
loop-block-init g c = staging_begun g.D.Disk.tells g.D.Disk.obeys (heads_planned c.args.moved.now.items)
    (disk_seen g.D.Disk.counts g.D.Disk.told g.D.Disk.due c.args.disk.now) c.requires.size c.requires.power

pub returns-in_err-write : goal.returns-in_err-write
returns-in_err-write g c =
    let start : DiskSeen = disk_seen g.D.Disk.counts g.D.Disk.told g.D.Disk.due c.args.disk.now in
    let here : DiskSeen = disk_seen g.D.Disk.counts g.D.Disk.told g.D.Disk.due c.loop-block.disk in
    let next : DiskSeen = disk_seen g.D.Disk.counts g.D.Disk.told g.D.Disk.due c.write.new.self in
    let heads : List Head = heads_planned c.args.moved.now.items in
    let p = err_from_is_err_and c.from_residual.result c.from_residual.ensures.1 in
    let e = c.in_err-write.ensures in
    rw (p.1, p.2) (staging_refused (Unit {0}) (Unit {0}) g.D.Disk.tells g.D.Disk.obeys heads c.loop-block.block start here next
    c.in_err-write.field-0.0 c.loop-block-test.true c.loop-block.invariant
    (staged_write g.D.Disk.tells g.D.Disk.obeys heads c.loop-block.block c.block_bytes.result here next
    (end_of {T = Unit {0}} (Err c.in_err-write.field-0.0)) c.block_bytes.ensures e.counts e.obeys e.spent e.told))

pub loop-block-preserved : goal.loop-block-preserved
loop-block-preserved g c =
    let start : DiskSeen = disk_seen g.D.Disk.counts g.D.Disk.told g.D.Disk.due c.args.disk.now in
    let here : DiskSeen = disk_seen g.D.Disk.counts g.D.Disk.told g.D.Disk.due c.loop-block.disk in
    let next : DiskSeen = disk_seen g.D.Disk.counts g.D.Disk.told g.D.Disk.due c.write.new.self in
    let heads : List Head = heads_planned c.args.moved.now.items in
    let o = c.in_ok-write.ensures in
    staging_on g.D.Disk.tells g.D.Disk.obeys heads c.loop-block.block start here next c.loop-block.invariant
    (staged_write g.D.Disk.tells g.D.Disk.obeys heads c.loop-block.block c.block_bytes.result here next Fine c.block_bytes.ensures o.counts
    o.obeys o.spent o.told)

pub returns : goal.returns
returns g c =
    staged_whole g.D.Disk.tells g.D.Disk.obeys (heads_planned c.args.moved.now.items) c.loop-block.block
    (disk_seen g.D.Disk.counts g.D.Disk.told g.D.Disk.due c.args.disk.now)
    (disk_seen g.D.Disk.counts g.D.Disk.told g.D.Disk.due c.loop-block.disk)
    (disk_seen g.D.Disk.counts g.D.Disk.told g.D.Disk.due c.write_byte_through.new.disk) (end_of c.write_byte_through.result)
    c.loop-block-test.false c.loop-block.auto.block-end c.loop-block.invariant c.write_byte_through.ensures
