use Rattle.std.proofs.Common.{[], ◌∷◌, Err}
use Rattle.std.proofs.lemmas.Result.{err_from_is_err_and}
use Rattle.eden_disk.specs.Calls.{Fine, end_of}
use Rattle.passive_store.specs.Acts.{Write, Sync}
use Rattle.passive_store.specs.Seen.{DiskSeen, disk_seen}
use Rattle.passive_blocks.proofs.Making.{makes_sync, makes_write, makes_join, makes_refused}
use Rattle.passive_blocks.proofs.convert.write_byte_through.Goals as goal

pub returns-in_err-sync : goal.returns-in_err-sync
returns-in_err-sync g c =
    let old : DiskSeen = disk_seen g.D.Disk.counts g.D.Disk.told g.D.Disk.due c.args.disk.now in
    let new : DiskSeen = disk_seen g.D.Disk.counts g.D.Disk.told g.D.Disk.due c.sync.new.self in
    let p = err_from_is_err_and c.from_residual.result c.from_residual.ensures.1 in
    let e = c.in_err-sync.ensures in
    rw (p.1, p.2) (makes_refused (Unit {0}) (Unit {0}) g.D.Disk.tells g.D.Disk.obeys (Sync ∷ [])
    (Write c.args.place (c.args.byte ∷ []) ∷ Sync ∷ []) old new c.in_err-sync.field-0.0
    (makes_sync g.D.Disk.tells g.D.Disk.obeys old new (end_of {T = Unit {0}}
    (Err c.in_err-sync.field-0.0)) e.counts e.obeys e.spent e.told))

pub returns-in_err-write : goal.returns-in_err-write
returns-in_err-write g c =
    let old : DiskSeen = disk_seen g.D.Disk.counts g.D.Disk.told g.D.Disk.due c.args.disk.now in
    let mid : DiskSeen = disk_seen g.D.Disk.counts g.D.Disk.told g.D.Disk.due c.sync.new.self in
    let new : DiskSeen = disk_seen g.D.Disk.counts g.D.Disk.told g.D.Disk.due c.write.new.self in
    let p = err_from_is_err_and c.from_residual-in_err-write.result c.from_residual-in_err-write.ensures.1 in
    let s = c.in_ok-sync.ensures in
    let e = c.in_err-write.ensures in
    rw (p.1, p.2) (makes_refused (Unit {0}) (Unit {0}) g.D.Disk.tells g.D.Disk.obeys (Sync ∷ Write c.args.place (c.args.byte ∷ []) ∷ [])
    (Sync ∷ []) old new c.in_err-write.field-0.0
    (makes_join g.D.Disk.tells g.D.Disk.obeys (Sync ∷ []) (Write c.args.place (c.args.byte ∷ []) ∷ []) old mid new
    (end_of {T = Unit {0}} (Err c.in_err-write.field-0.0))
    (makes_sync g.D.Disk.tells g.D.Disk.obeys old mid Fine s.counts s.obeys s.spent s.told)
    (makes_write g.D.Disk.tells g.D.Disk.obeys c.args.place (c.args.byte ∷ []) mid new
    (end_of {T = Unit {0}} (Err c.in_err-write.field-0.0)) e.counts e.obeys e.spent e.told)))

pub returns : goal.returns
returns g c =
    let old : DiskSeen = disk_seen g.D.Disk.counts g.D.Disk.told g.D.Disk.due c.args.disk.now in
    let one : DiskSeen = disk_seen g.D.Disk.counts g.D.Disk.told g.D.Disk.due c.sync.new.self in
    let two : DiskSeen = disk_seen g.D.Disk.counts g.D.Disk.told g.D.Disk.due c.write.new.self in
    let new : DiskSeen = disk_seen g.D.Disk.counts g.D.Disk.told g.D.Disk.due c.sync-2.new.self in
    let s = c.in_ok-sync.ensures in
    let w = c.in_ok-write.ensures in
    let t = c.sync-2.ensures in
    makes_join g.D.Disk.tells g.D.Disk.obeys (Sync ∷ []) (Write c.args.place (c.args.byte ∷ []) ∷ Sync ∷ []) old one new _
    (makes_sync g.D.Disk.tells g.D.Disk.obeys old one Fine s.counts s.obeys s.spent s.told)
    (makes_join g.D.Disk.tells g.D.Disk.obeys (Write c.args.place (c.args.byte ∷ []) ∷ []) (Sync ∷ []) one two new _
    (makes_write g.D.Disk.tells g.D.Disk.obeys c.args.place (c.args.byte ∷ []) one two Fine w.counts w.obeys w.spent w.told)
    (makes_sync g.D.Disk.tells g.D.Disk.obeys two new _ t.counts t.obeys t.spent t.told))
