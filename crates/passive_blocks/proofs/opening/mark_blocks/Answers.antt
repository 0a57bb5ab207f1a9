use Rattle.std.proofs.Common.{[], ◌∷◌, refl}
use Rattle.std.proofs.lemmas.Result.{err_from_is_err_and}
use Rattle.eden_disk.specs.Calls.{Fine}
use Rattle.eden_disk.proofs.Held.{calls_one, calls_more}
use Rattle.eden_disk.proofs.Timed.{timed_write, timed_sync, timed_join}
use Rattle.passive_blocks.proofs.OpeningFormat.{sync_passes, always_ok, marked_first, marked_second, marked_third}
use Rattle.passive_blocks.proofs.OpeningFormat.{mark_empty_write}
use Rattle.passive_blocks.proofs.OpeningFormat.{mark_empty, mark_new}
use Rattle.passive_blocks.proofs.opening.mark_blocks.Goals as goal

pub returns-clause-ran : goal.returns-clause-ran
returns-clause-ran g c = (
  3,
  (
    calls_more 1 2 _ _ _ _ (calls_one _ _ _ c.in_ok-sync.ensures.counts)
        (calls_more 1 1 _ _ _ _ (calls_one _ _ _ c.in_ok-write.ensures.counts) (calls_one _ _ _ c.sync-2.ensures.counts)),
    always_ok c.sync-2.result refl,
  ),
)

pub returns-in_err-sync-clause-timed : goal.returns-in_err-sync-clause-timed
returns-in_err-sync-clause-timed g c = λ tells.
    let e = c.sync.ensures in
    timed_sync (g.D.Disk.counts c.args.disk.now) (g.D.Disk.counts c.sync.new.self) (g.D.Disk.told c.args.disk.now)
    (g.D.Disk.told c.sync.new.self) _ e.counts.clock (e.spent tells) (e.told tells)

pub returns-in_err-sync-clause-order : goal.returns-in_err-sync-clause-order
returns-in_err-sync-clause-order g c =
    let p = err_from_is_err_and c.from_residual.result c.from_residual.ensures.1 in
    rw (p.1, p.2) (λ tells. marked_first _ (g.D.Disk.told c.args.disk.now) (g.D.Disk.told c.sync.new.self) _
    (c.in_err-sync.ensures.told tells))

pub returns-in_err-sync-clause-empty : goal.returns-in_err-sync-clause-empty
returns-in_err-sync-clause-empty g c = λ tells cleared. sync_passes _ _ _ _ _ cleared.holds (c.sync.ensures.told tells)

pub returns-in_err-write-clause-timed : goal.returns-in_err-write-clause-timed
returns-in_err-write-clause-timed g c = λ tells.
    let s = c.in_ok-sync.ensures in
    let w = c.write.ensures in
    timed_join _ _ _ _ _ _
    (timed_sync (g.D.Disk.counts c.args.disk.now) (g.D.Disk.counts c.sync.new.self) (g.D.Disk.told c.args.disk.now)
    (g.D.Disk.told c.sync.new.self) Fine s.counts.clock (s.spent tells) (s.told tells))
    (timed_write 1 (235 ∷ []) (g.D.Disk.counts c.sync.new.self) (g.D.Disk.counts c.write.new.self) (g.D.Disk.told c.sync.new.self)
    (g.D.Disk.told c.write.new.self) _ w.counts.clock (w.spent tells) (w.told tells))

pub returns-in_err-write-clause-order : goal.returns-in_err-write-clause-order
returns-in_err-write-clause-order g c =
    let p = err_from_is_err_and c.from_residual-in_err-write.result c.from_residual-in_err-write.ensures.1 in
    rw (p.1, p.2) (λ tells. marked_second _ _ (g.D.Disk.told c.args.disk.now) (g.D.Disk.told c.sync.new.self)
    (g.D.Disk.told c.write.new.self) _
    (c.in_ok-sync.ensures.told tells) (c.in_err-write.ensures.told tells))

pub returns-in_err-write-clause-empty : goal.returns-in_err-write-clause-empty
returns-in_err-write-clause-empty g c = λ tells cleared.
    (mark_empty_write _ _ _ _ _ _ _ c.requires.allowed cleared (c.in_ok-sync.ensures.told tells) (c.write.ensures.told tells)).0

pub returns-clause-timed : goal.returns-clause-timed
returns-clause-timed g c = λ tells.
    let s = c.in_ok-sync.ensures in
    let w = c.in_ok-write.ensures in
    let l = c.sync-2.ensures in
    timed_join _ _ _ _ _ _
    (timed_sync (g.D.Disk.counts c.args.disk.now) (g.D.Disk.counts c.sync.new.self) (g.D.Disk.told c.args.disk.now)
    (g.D.Disk.told c.sync.new.self) Fine s.counts.clock (s.spent tells) (s.told tells))
    (timed_join _ _ _ _ _ _
    (timed_write 1 (235 ∷ []) (g.D.Disk.counts c.sync.new.self) (g.D.Disk.counts c.write.new.self) (g.D.Disk.told c.sync.new.self)
    (g.D.Disk.told c.write.new.self) Fine w.counts.clock (w.spent tells) (w.told tells))
    (timed_sync (g.D.Disk.counts c.write.new.self) (g.D.Disk.counts c.sync-2.new.self) (g.D.Disk.told c.write.new.self)
    (g.D.Disk.told c.sync-2.new.self) _ l.counts.clock (l.spent tells) (l.told tells)))

pub returns-clause-order : goal.returns-clause-order
returns-clause-order g c = λ tells.
    marked_third _ _ _ (g.D.Disk.told c.args.disk.now) (g.D.Disk.told c.sync.new.self) (g.D.Disk.told c.write.new.self)
    (g.D.Disk.told c.sync-2.new.self) _ (c.in_ok-sync.ensures.told tells) (c.in_ok-write.ensures.told tells) (c.sync-2.ensures.told tells)

pub returns-clause-empty : goal.returns-clause-empty
returns-clause-empty g c = λ tells cleared.
    mark_empty _ _ _ _ (g.D.Disk.told c.args.disk.now) (g.D.Disk.told c.sync.new.self) (g.D.Disk.told c.write.new.self)
    (g.D.Disk.told c.sync-2.new.self) _ c.requires.allowed cleared (c.in_ok-sync.ensures.told tells) (c.in_ok-write.ensures.told tells)
    (c.sync-2.ensures.told tells)

pub returns-clause-new : goal.returns-clause-new
returns-clause-new g c = λ tells cleared.
    mark_new _ _ _ _ (g.D.Disk.told c.args.disk.now) (g.D.Disk.told c.sync.new.self) (g.D.Disk.told c.write.new.self)
    (g.D.Disk.told c.sync-2.new.self) c.sync-2.result c.requires.allowed cleared (c.in_ok-sync.ensures.told tells)
    (c.in_ok-write.ensures.told tells) (c.sync-2.ensures.told tells)

pub returns-in_err-write-clause-ran : goal.returns-in_err-write-clause-ran
returns-in_err-write-clause-ran g c =
    let p = err_from_is_err_and c.from_residual-in_err-write.result c.from_residual-in_err-write.ensures.1 in
    rw (p.1, p.2) (
      2,
      (calls_more 1 1 _ _ _ _ (calls_one _ _ _ c.in_ok-sync.ensures.counts) (calls_one _ _ _ c.in_err-write.ensures.counts), tt),
    )
