use Rattle.std.proofs.Common.{◌≡◌, ◌+◌, ◌*◌, ℕ, IsTrue, Err, slice_range}
use Rattle.std.proofs.lemmas.Result.{err_from_is_err_and}
use Rattle.eden_disk.specs.Told.{contents}
use Rattle.eden_disk.specs.Calls.{Fine, end_of}
use Rattle.passive_store.specs.Seen.{DiskSeen, disk_seen}
use Rattle.passive_blocks.proofs.Making.{makes_read, makes_write}
use Rattle.passive_blocks.proofs.Moving.{moving_begun, read_part, read_long, moved_on, read_refused, write_refused, moved_whole}
use Rattle.passive_blocks.proofs.convert.move_heads.Goals as goal

pub loop-block-init : goal.loop-block-init
loop-block-init g c = moving_begun g.D.Disk.tells g.D.Disk.obeys
    (disk_seen g.D.Disk.counts g.D.Disk.told g.D.Disk.due c.args.disk.now) c.requires.size c.requires.power c.requires.whole

pub returns-in_err-read : goal.returns-in_err-read
returns-in_err-read g c =
    let start : DiskSeen = disk_seen g.D.Disk.counts g.D.Disk.told g.D.Disk.due c.args.disk.now in
    let here : DiskSeen = disk_seen g.D.Disk.counts g.D.Disk.told g.D.Disk.due c.loop-block.disk in
    let next : DiskSeen = disk_seen g.D.Disk.counts g.D.Disk.told g.D.Disk.due c.read.new.self in
    let p = err_from_is_err_and c.from_residual.result c.from_residual.ensures.1 in
    let e = c.in_err-read.ensures in
    rw (p.1, p.2) (read_refused (Unit {0}) (Unit {0}) g.D.Disk.tells g.D.Disk.obeys c.loop-block.block start here next
    c.in_err-read.field-0.0 c.loop-block-test.true c.loop-block.invariant
    (makes_read g.D.Disk.tells g.D.Disk.obeys here next (end_of {T = Unit {0}} (Err c.in_err-read.field-0.0)) e.counts e.obeys e.told))

pub returns-in_err-write : goal.returns-in_err-write
returns-in_err-write g c =
    let start : DiskSeen = disk_seen g.D.Disk.counts g.D.Disk.told g.D.Disk.due c.args.disk.now in
    let here : DiskSeen = disk_seen g.D.Disk.counts g.D.Disk.told g.D.Disk.due c.loop-block.disk in
    let mid : DiskSeen = disk_seen g.D.Disk.counts g.D.Disk.told g.D.Disk.due c.read.new.self in
    let next : DiskSeen = disk_seen g.D.Disk.counts g.D.Disk.told g.D.Disk.due c.write.new.self in
    let at : ℕ = (3968 + c.loop-block.block) * 1024 in
    let p = err_from_is_err_and c.from_residual-in_err-write.result c.from_residual-in_err-write.ensures.1 in
    let o = c.in_ok-read.ensures in
    let e = c.in_err-write.ensures in
    let bytes : IsTrue g.D.Disk.tells → c.read.new.out ≡ slice_range (contents (g.D.Disk.told c.loop-block.disk)).now at (at + 1024) =
    λ so. o.bytes so in
    rw (p.1, p.2) (write_refused (Unit {0}) (Unit {0}) g.D.Disk.tells g.D.Disk.obeys c.loop-block.block start here mid next c.read.new.out
    c.in_err-write.field-0.0 c.loop-block-test.true c.loop-block.invariant
    (makes_read g.D.Disk.tells g.D.Disk.obeys here mid Fine o.counts o.obeys o.told)
    (read_part g.D.Disk.tells g.D.Disk.obeys c.loop-block.block start here c.read.new.out c.loop-block-test.true c.loop-block.invariant
    bytes)
    (makes_write g.D.Disk.tells g.D.Disk.obeys ((1 + c.loop-block.block) * 1024) c.read.new.out mid next
    (end_of {T = Unit {0}} (Err c.in_err-write.field-0.0)) e.counts e.obeys e.spent e.told))

pub loop-block-preserved : goal.loop-block-preserved
loop-block-preserved g c =
    let start : DiskSeen = disk_seen g.D.Disk.counts g.D.Disk.told g.D.Disk.due c.args.disk.now in
    let here : DiskSeen = disk_seen g.D.Disk.counts g.D.Disk.told g.D.Disk.due c.loop-block.disk in
    let mid : DiskSeen = disk_seen g.D.Disk.counts g.D.Disk.told g.D.Disk.due c.read.new.self in
    let next : DiskSeen = disk_seen g.D.Disk.counts g.D.Disk.told g.D.Disk.due c.write.new.self in
    let at : ℕ = (3968 + c.loop-block.block) * 1024 in
    let o = c.in_ok-read.ensures in
    let w = c.in_ok-write.ensures in
    let bytes : IsTrue g.D.Disk.tells → c.read.new.out ≡ slice_range (contents (g.D.Disk.told c.loop-block.disk)).now at (at + 1024) =
    λ so. o.bytes so in
    moved_on g.D.Disk.tells g.D.Disk.obeys c.loop-block.block (g.D.Disk.counts c.write.new.self).clock start here mid next c.read.new.out
    c.loop-block-test.true
    (read_long g.D.Disk.tells g.D.Disk.obeys c.loop-block.block start here c.read.new.out c.loop-block-test.true c.loop-block.invariant
    bytes)
    c.loop-block.invariant
    (makes_read g.D.Disk.tells g.D.Disk.obeys here mid Fine o.counts o.obeys o.told)
    o.told
    (read_part g.D.Disk.tells g.D.Disk.obeys c.loop-block.block start here c.read.new.out c.loop-block-test.true c.loop-block.invariant
    bytes)
    (makes_write g.D.Disk.tells g.D.Disk.obeys
    ((1 + c.loop-block.block) * 1024) c.read.new.out mid next Fine w.counts w.obeys w.spent w.told)
    w.told

pub returns : goal.returns
returns g c =
    moved_whole g.D.Disk.tells g.D.Disk.obeys c.loop-block.block (disk_seen g.D.Disk.counts g.D.Disk.told g.D.Disk.due c.args.disk.now)
    (disk_seen g.D.Disk.counts g.D.Disk.told g.D.Disk.due c.loop-block.disk)
    (disk_seen g.D.Disk.counts g.D.Disk.told g.D.Disk.due c.write_byte_through.new.disk) (end_of c.write_byte_through.result)
    c.loop-block-test.false c.loop-block.auto.block-end c.loop-block.invariant c.write_byte_through.ensures
