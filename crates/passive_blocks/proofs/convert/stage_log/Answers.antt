use Rattle.std.proofs.Common.{ℕ, List, IsTrue, Ok, Err}
use Rattle.std.proofs.lemmas.Result.{err_from_is_err_and}
use Rattle.eden_disk.specs.Told.{contents}
use Rattle.passive_store.specs.declared.opening.Found.{Found}
use Rattle.passive_store.specs.Seen.{DiskSeen, disk_seen}
use Rattle.passive_blocks.specs.BlockLayout.{walk_reads}
use Rattle.passive_blocks.specs.Conversion.{old_log}
use Rattle.passive_blocks.specs.Making.{Runs}
use Rattle.passive_blocks.proofs.Running.{ends_early}
use Rattle.passive_blocks.proofs.PlannedLog.{IsIndexed, indexed_by, walked, planned_for, plan_refused}
use Rattle.passive_blocks.proofs.StagingLog.{ArePlannedFor, walk_runs, walk_refused, copying_refused, stage_refused, staged_whole}
use Rattle.passive_blocks.proofs.convert.stage_log.Goals as goal

pub returns-in_err-found : goal.returns-in_err-found
returns-in_err-found g c =
    let old : DiskSeen = disk_seen g.D.Disk.counts g.D.Disk.told g.D.Disk.due c.args.disk.now in
    let new : DiskSeen = disk_seen g.D.Disk.counts g.D.Disk.told g.D.Disk.due c.read_records.new.disk in
    let p = err_from_is_err_and c.from_residual.result c.from_residual.ensures.1 in
    let e = c.in_err-found.ensures in
    let s = walk_refused g.D.Disk.tells g.D.Disk.obeys c.args.node new.counts.clock old new c.in_err-found.field-0.0 e.never_full
    (walk_runs g.D.Disk.tells g.D.Disk.obeys c.args.node e.ran.0 old new (Err c.in_err-found.field-0.0) e.ran.1.0 e.ran.1.1 e.obeyed e.timed
    e.told e.never_full e.damaged) e.damaged e.told in
    rw (p.1, p.2) (record { runs = s.runs; damaged = s.damaged; full = s.full; staged = s.staged; says = s.says })

pub returns-in_err-moved : goal.returns-in_err-moved
returns-in_err-moved g c =
    let p = err_from_is_err_and c.from_residual-in_err-moved.result c.from_residual-in_err-moved.ensures.1 in
    let old : DiskSeen = disk_seen g.D.Disk.counts g.D.Disk.told g.D.Disk.due c.args.disk.now in
    let mid : DiskSeen = disk_seen g.D.Disk.counts g.D.Disk.told g.D.Disk.due c.read_records.new.disk in
    let image : List ℕ = (contents (g.D.Disk.told c.args.disk.now)).now in
    let f : Found = c.in_ok-found.found in
    let h = c.in_ok-found.ensures in
    let walk : Runs g.D.Disk.tells g.D.Disk.obeys (walk_reads c.args.node (old_log image)) old mid (Ok f) =
    walked g.D.Disk.tells g.D.Disk.obeys c.args.node h.ran.0 f old mid h.ran.1.0 h.ran.1.1 h.obeyed h.timed h.told h.size h.placed h.walk
    h.shut in
    let indexed : IsTrue g.D.Disk.tells → IsIndexed c.args.node image f.tail f.index =
    λ so. indexed_by c.args.node image f (c.requires.whole so) h.size h.placed (h.walk so) (h.shut so) c.in_err-moved.ensures.ordered in
    let s = plan_refused g.D.Disk.tells g.D.Disk.obeys c.args.node f old mid c.in_err-moved.field-0.0 c.in_err-moved.ensures.only walk
    h.told
    indexed in
    rw (p.1, p.2) (record { runs = s.runs; damaged = s.damaged; full = s.full; staged = s.staged; says = s.says })

pub returns-in_err-copy_values : goal.returns-in_err-copy_values
returns-in_err-copy_values g c =
    let p = err_from_is_err_and c.from_residual-in_err-copy_values.result c.from_residual-in_err-copy_values.ensures.1 in
    let old : DiskSeen = disk_seen g.D.Disk.counts g.D.Disk.told g.D.Disk.due c.args.disk.now in
    let mid : DiskSeen = disk_seen g.D.Disk.counts g.D.Disk.told g.D.Disk.due c.read_records.new.disk in
    let image : List ℕ = (contents (g.D.Disk.told c.args.disk.now)).now in
    let f : Found = c.in_ok-found.found in
    let h = c.in_ok-found.ensures in
    let walk : Runs g.D.Disk.tells g.D.Disk.obeys (walk_reads c.args.node (old_log image)) old mid (Ok f) =
    walked g.D.Disk.tells g.D.Disk.obeys c.args.node h.ran.0 f old mid h.ran.1.0 h.ran.1.1 h.obeyed h.timed h.told h.size h.placed h.walk
    h.shut in
    let indexed : IsTrue g.D.Disk.tells → IsIndexed c.args.node image f.tail f.index =
    λ so. indexed_by c.args.node image f (c.requires.whole so) h.size h.placed (h.walk so) (h.shut so) c.in_ok-moved.ensures.ordered in
    let q = c.in_ok-moved.ensures in
    let planned : IsTrue g.D.Disk.tells → ArePlannedFor c.args.node image c.in_ok-moved.moved.items =
    λ so. planned_for c.args.node f.tail image f.index c.in_ok-moved.moved.items c.log_layout_is_a_layout.ensures (indexed so) q.planned
    q.movable q.fits in
    let new : DiskSeen = disk_seen g.D.Disk.counts g.D.Disk.told g.D.Disk.due c.copy_values.new.disk in
    let e = c.in_err-copy_values.ensures in
    let s = copying_refused g.D.Disk.tells g.D.Disk.obeys c.args.node mid.counts.clock f c.in_ok-moved.moved.items old mid new
    c.in_err-copy_values.field-0.0 (ends_early c.in_err-copy_values.field-0.0 e.only) c.requires.whole walk h.told planned e.runs in
    rw (p.1, p.2) (record { runs = s.runs; damaged = s.damaged; full = s.full; staged = s.staged; says = s.says })

pub returns-in_err-stage_heads : goal.returns-in_err-stage_heads
returns-in_err-stage_heads g c =
    let p = err_from_is_err_and c.from_residual-in_err-stage_heads.result c.from_residual-in_err-stage_heads.ensures.1 in
    let old : DiskSeen = disk_seen g.D.Disk.counts g.D.Disk.told g.D.Disk.due c.args.disk.now in
    let mid : DiskSeen = disk_seen g.D.Disk.counts g.D.Disk.told g.D.Disk.due c.read_records.new.disk in
    let image : List ℕ = (contents (g.D.Disk.told c.args.disk.now)).now in
    let f : Found = c.in_ok-found.found in
    let h = c.in_ok-found.ensures in
    let walk : Runs g.D.Disk.tells g.D.Disk.obeys (walk_reads c.args.node (old_log image)) old mid (Ok f) =
    walked g.D.Disk.tells g.D.Disk.obeys c.args.node h.ran.0 f old mid h.ran.1.0 h.ran.1.1 h.obeyed h.timed h.told h.size h.placed h.walk
    h.shut in
    let indexed : IsTrue g.D.Disk.tells → IsIndexed c.args.node image f.tail f.index =
    λ so. indexed_by c.args.node image f (c.requires.whole so) h.size h.placed (h.walk so) (h.shut so) c.in_ok-moved.ensures.ordered in
    let q = c.in_ok-moved.ensures in
    let planned : IsTrue g.D.Disk.tells → ArePlannedFor c.args.node image c.in_ok-moved.moved.items =
    λ so. planned_for c.args.node f.tail image f.index c.in_ok-moved.moved.items c.log_layout_is_a_layout.ensures (indexed so) q.planned
    q.movable q.fits in
    let here : DiskSeen = disk_seen g.D.Disk.counts g.D.Disk.told g.D.Disk.due c.copy_values.new.disk in
    let new : DiskSeen = disk_seen g.D.Disk.counts g.D.Disk.told g.D.Disk.due c.stage_heads.new.disk in
    let s = stage_refused (Unit {0}) g.D.Disk.tells g.D.Disk.obeys c.args.node mid.counts.clock f c.in_ok-moved.moved.items old mid here new
    c.in_err-stage_heads.field-0.0 c.requires.whole walk h.told planned c.in_ok-copy_values.ensures.runs c.in_err-stage_heads.ensures in
    rw (p.1, p.2) (record { runs = s.runs; damaged = s.damaged; full = s.full; staged = s.staged; says = s.says })

pub returns : goal.returns
returns g c =
    let old : DiskSeen = disk_seen g.D.Disk.counts g.D.Disk.told g.D.Disk.due c.args.disk.now in
    let mid : DiskSeen = disk_seen g.D.Disk.counts g.D.Disk.told g.D.Disk.due c.read_records.new.disk in
    let image : List ℕ = (contents (g.D.Disk.told c.args.disk.now)).now in
    let f : Found = c.in_ok-found.found in
    let h = c.in_ok-found.ensures in
    let walk : Runs g.D.Disk.tells g.D.Disk.obeys (walk_reads c.args.node (old_log image)) old mid (Ok f) =
    walked g.D.Disk.tells g.D.Disk.obeys c.args.node h.ran.0 f old mid h.ran.1.0 h.ran.1.1 h.obeyed h.timed h.told h.size h.placed h.walk
    h.shut in
    let indexed : IsTrue g.D.Disk.tells → IsIndexed c.args.node image f.tail f.index =
    λ so. indexed_by c.args.node image f (c.requires.whole so) h.size h.placed (h.walk so) (h.shut so) c.in_ok-moved.ensures.ordered in
    let q = c.in_ok-moved.ensures in
    let planned : IsTrue g.D.Disk.tells → ArePlannedFor c.args.node image c.in_ok-moved.moved.items =
    λ so. planned_for c.args.node f.tail image f.index c.in_ok-moved.moved.items c.log_layout_is_a_layout.ensures (indexed so) q.planned
    q.movable q.fits in
    let here : DiskSeen = disk_seen g.D.Disk.counts g.D.Disk.told g.D.Disk.due c.copy_values.new.disk in
    let new : DiskSeen = disk_seen g.D.Disk.counts g.D.Disk.told g.D.Disk.due c.stage_heads.new.disk in
    let s = staged_whole g.D.Disk.tells g.D.Disk.obeys c.args.node mid.counts.clock f c.in_ok-moved.moved.items old mid here new
    c.requires.whole walk h.told planned c.in_ok-copy_values.ensures.runs c.in_ok-stage_heads.ensures in
    record { runs = s.runs; damaged = s.damaged; full = s.full; staged = s.staged; says = s.says }
