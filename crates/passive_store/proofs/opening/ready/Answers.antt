use Rattle.std.proofs.Common.{◌≡◌, ◌+◌, [], ◌∷◌, sym, ap, subst, ◌∙◌, arith}
use Rattle.eden_disk.proofs.Timed.{timed_join}
use Rattle.std.specs.Prelude.{if◌then◌else◌, slice_index, ◌==◌}
use Rattle.eden_disk.specs.Told.{contents}
use Rattle.eden_disk.specs.Calls.{end_of}
use Rattle.passive_store.specs.Acts.{Read, AllTold, CallsTold}
use Rattle.passive_store.specs.LogLayout.{looks, log_format}
use Rattle.passive_store.proofs.Joining.{call_done, calls_told_more}
use Rattle.std.proofs.lemmas.Result.{err_from_is_err_and, on_ok_weaker}
use Rattle.eden_disk.proofs.Held.{calls_more}
use Rattle.passive_store.proofs.Openings.{look_refused, look_told}
use Rattle.passive_store.proofs.opening.ready.Goals as goal

pub returns-in_err-has_log-clause-readied : goal.returns-in_err-has_log-clause-readied
returns-in_err-has_log-clause-readied g c =
    let p = err_from_is_err_and c.from_residual.result c.from_residual.ensures.1 in
    rw (p.1, p.2) (λ tells rest long. look_refused _ _ _ _ rest long (c.in_err-has_log.ensures.told tells))

pub returns-clause-ran : goal.returns-clause-ran
returns-clause-ran g c =
    let ran = c.format.ensures.ran in (
      1 + ran.0,
      (
        calls_more 1 ran.0 _ _ _ _ c.in_ok-has_log.ensures.counts ran.1.0,
        omega arith,
        λ tells. on_ok_weaker c.format.result
            (λ (four : ran.0 ≡ 4). ap (λ n. 1 + n) four ∙ sym
            (ap (λ b. if b then 1 else 5) (sym (c.in_ok-has_log.ensures.found tells) ∙ c.if-branch.false))) ran.1.1,
      ),
    )

pub returns-clause-timed : goal.returns-clause-timed
returns-clause-timed g c = λ tells. timed_join _ _ _ _ _ _ (c.in_ok-has_log.ensures.timed tells) (c.format.ensures.timed tells)

pub returns-in_err-has_log-clause-order : goal.returns-in_err-has_log-clause-order
returns-in_err-has_log-clause-order g c =
    let p = err_from_is_err_and c.from_residual.result c.from_residual.ensures.1 in
    rw (p.1, p.2) (λ tells. look_told (slice_index (contents (g.D.Disk.told c.args.disk.now)).now 0 == 237) _
    (g.D.Disk.told c.args.disk.now) (g.D.Disk.told c.has_log.new.disk) _ (c.in_err-has_log.ensures.told tells))

pub returns-then-branch-clause-order : goal.returns-then-branch-clause-order
returns-then-branch-clause-order g c = λ tells.
    subst (λ b. AllTold (looks b) (g.D.Disk.told c.args.disk.now) (g.D.Disk.told c.has_log.new.disk))
    (sym (sym (c.in_ok-has_log.ensures.found tells) ∙ c.if-branch.true))
    (call_done Read (g.D.Disk.counts c.has_log.new.disk).clock (g.D.Disk.told c.args.disk.now) (g.D.Disk.told c.has_log.new.disk)
    (c.in_ok-has_log.ensures.told tells))

pub returns-clause-order : goal.returns-clause-order
returns-clause-order g c = λ tells.
    subst (λ b. CallsTold (looks b) (g.D.Disk.told c.args.disk.now) (g.D.Disk.told c.format.new.disk) (end_of c.format.result))
    (sym (sym (c.in_ok-has_log.ensures.found tells) ∙ c.if-branch.false))
    (calls_told_more (Read ∷ []) log_format (g.D.Disk.told c.args.disk.now) (g.D.Disk.told c.has_log.new.disk)
    (g.D.Disk.told c.format.new.disk) (end_of c.format.result)
    (call_done Read (g.D.Disk.counts c.has_log.new.disk).clock (g.D.Disk.told c.args.disk.now) (g.D.Disk.told c.has_log.new.disk)
    (c.in_ok-has_log.ensures.told tells)) (c.format.ensures.order tells))
