use Rattle.std.proofs.Common.{[], ◌∷◌, replicate, subst}
use Rattle.eden_disk.proofs.Timed.{timed_join}
use Rattle.eden_disk.specs.Calls.{Fine, DeviceCalls}
use Rattle.eden_disk.proofs.Held.{passes_join}
use Rattle.passive_store.specs.Opening.{IsEmptyImage}
use Rattle.std.proofs.lemmas.Result.{err_from_is_err_and}
use Rattle.passive_store.specs.Acts.{Write, Sync}
use Rattle.passive_store.proofs.Joining.{disk_refused_more, calls_told_more}
use Rattle.passive_store.proofs.Openings.{first_passes, first_done, second_passes, second_log, ran_more}
use Rattle.passive_store.proofs.opening.format.Goals as goal

pub returns-in_err-write_through-clause-empty : goal.returns-in_err-write_through-clause-empty
returns-in_err-write_through-clause-empty g c = λ tells blank. first_passes _ _ _ blank (c.write_through.ensures.told tells)

pub returns-clause-ran : goal.returns-clause-ran
returns-clause-ran g c =
    let first = c.in_ok-write_through.ensures.ran in
    ran_more (Unit {0}) 2 2 _ _ _ c.write_through-2.result
    (subst (λ n. DeviceCalls n (g.D.Disk.counts c.args.disk.now) (g.D.Disk.counts c.write_through.new.disk) Fine) first.1.1 first.1.0)
    c.write_through-2.ensures.ran

pub returns-clause-empty : goal.returns-clause-empty
returns-clause-empty g c = λ tells blank.
    let told = c.in_ok-write_through.ensures.told tells in
    passes_join IsEmptyImage _ _ _ (first_passes (g.D.Disk.told c.args.disk.now) (g.D.Disk.told c.write_through.new.disk) Fine blank told)
    (second_passes (g.D.Disk.told c.write_through.new.disk) (g.D.Disk.told c.write_through-2.new.disk) _
    (first_done (g.D.Disk.told c.args.disk.now) (g.D.Disk.told c.write_through.new.disk) blank told)
    (c.write_through-2.ensures.told tells))

pub returns-clause-log : goal.returns-clause-log
returns-clause-log g c = λ tells blank.
    second_log (g.D.Disk.told c.write_through.new.disk) (g.D.Disk.told c.write_through-2.new.disk) c.write_through-2.result
    (first_done (g.D.Disk.told c.args.disk.now) (g.D.Disk.told c.write_through.new.disk) blank (c.in_ok-write_through.ensures.told tells))
    (c.write_through-2.ensures.told tells)

pub returns-clause-timed : goal.returns-clause-timed
returns-clause-timed g c = λ tells. timed_join _ _ _ _ _ _ (c.in_ok-write_through.ensures.timed tells)
    (c.write_through-2.ensures.timed tells)

pub returns-in_err-write_through-clause-order : goal.returns-in_err-write_through-clause-order
returns-in_err-write_through-clause-order g c =
    let p = err_from_is_err_and c.from_residual.result c.from_residual.ensures.1 in
    rw (p.1, p.2) (λ tells. disk_refused_more (Unit {0}) (Unit {0}) (Write 1 (replicate 16 0) ∷ Sync ∷ [])
    (Write 0 (237 ∷ []) ∷ Sync ∷ []) (g.D.Disk.told c.args.disk.now) (g.D.Disk.told c.write_through.new.disk) _
    (c.in_err-write_through.ensures.order tells))

pub returns-clause-order : goal.returns-clause-order
returns-clause-order g c = λ tells.
    calls_told_more (Write 1 (replicate 16 0) ∷ Sync ∷ []) (Write 0 (237 ∷ []) ∷ Sync ∷ []) (g.D.Disk.told c.args.disk.now)
    (g.D.Disk.told c.write_through.new.disk) (g.D.Disk.told c.write_through-2.new.disk) _
    (c.in_ok-write_through.ensures.order tells) (c.write_through-2.ensures.order tells)
