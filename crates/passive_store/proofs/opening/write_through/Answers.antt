use Rattle.std.proofs.Common.{[], ◌∷◌, refl}
use Rattle.eden_disk.proofs.Timed.{timed_write, timed_sync, timed_join}
use Rattle.eden_disk.proofs.Held.{calls_one, calls_more}
use Rattle.std.proofs.lemmas.Result.{err_from_is_err_and}
use Rattle.passive_store.specs.Acts.{Write, Sync}
use Rattle.passive_store.proofs.Joining.{disk_refused_more, call_ended, call_done, calls_told_more}
use Rattle.passive_store.proofs.Openings.{always_ok}
use Rattle.passive_store.proofs.opening.write_through.Goals as goal

pub returns-clause-ran : goal.returns-clause-ran
returns-clause-ran g c = (
  2,
  (
    calls_more 1 1 _ _ _ _ (calls_one _ _ _ c.in_ok-write.ensures.counts)
        (calls_one _ _ _ c.sync.ensures.counts),
    always_ok c.sync.result refl,
  ),
)

pub returns-in_err-write-clause-timed : goal.returns-in_err-write-clause-timed
returns-in_err-write-clause-timed g c = λ tells. timed_write c.args.at c.args.bytes.now (g.D.Disk.counts c.args.disk.now)
    (g.D.Disk.counts c.write.new.self) (g.D.Disk.told c.args.disk.now) (g.D.Disk.told c.write.new.self) _ c.write.ensures.counts.clock
    (c.write.ensures.spent tells) (c.write.ensures.told tells)

pub returns-clause-timed : goal.returns-clause-timed
returns-clause-timed g c = λ tells.
    timed_join _ _ _ _ _ _
    (timed_write c.args.at c.args.bytes.now (g.D.Disk.counts c.args.disk.now) (g.D.Disk.counts c.write.new.self)
    (g.D.Disk.told c.args.disk.now) (g.D.Disk.told c.write.new.self) _ c.write.ensures.counts.clock (c.write.ensures.spent tells)
    (c.write.ensures.told tells))
    (timed_sync (g.D.Disk.counts c.write.new.self) (g.D.Disk.counts c.sync.new.self) (g.D.Disk.told c.write.new.self)
    (g.D.Disk.told c.sync.new.self) _ c.sync.ensures.counts.clock (c.sync.ensures.spent tells) (c.sync.ensures.told tells))

pub returns-in_err-write-clause-order : goal.returns-in_err-write-clause-order
returns-in_err-write-clause-order g c =
    let p = err_from_is_err_and c.from_residual.result c.from_residual.ensures.1 in
    rw (p.1, p.2) (λ tells. disk_refused_more (Unit {0}) (Unit {0}) (Write c.args.at c.args.bytes.now ∷ []) (Sync ∷ [])
    (g.D.Disk.told c.args.disk.now) (g.D.Disk.told c.write.new.self) _
    (call_ended (Write c.args.at c.args.bytes.now) _ (g.D.Disk.told c.args.disk.now) (g.D.Disk.told c.write.new.self) _
    (c.in_err-write.ensures.told tells)))

pub returns-clause-order : goal.returns-clause-order
returns-clause-order g c = λ tells.
    calls_told_more (Write c.args.at c.args.bytes.now ∷ []) (Sync ∷ []) (g.D.Disk.told c.args.disk.now) (g.D.Disk.told c.write.new.self)
    (g.D.Disk.told c.sync.new.self) _
    (call_done (Write c.args.at c.args.bytes.now) _ (g.D.Disk.told c.args.disk.now) (g.D.Disk.told c.write.new.self)
    (c.in_ok-write.ensures.told tells))
    (call_ended Sync _ (g.D.Disk.told c.write.new.self) (g.D.Disk.told c.sync.new.self) _ (c.sync.ensures.told tells))
