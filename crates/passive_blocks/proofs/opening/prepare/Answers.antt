use Rattle.std.proofs.Common.{◌≡◌, ◌+◌, ℕ, false, sym, ap, subst, ◌∙◌, arith, Err}
use Rattle.std.specs.Prelude.{slice_index, ◌==◌}
use Rattle.std.proofs.lemmas.Result.{err_from_is_err_and}
use Rattle.eden_disk.specs.Told.{contents}
use Rattle.eden_disk.specs.Calls.{Fine, end_of}
use Rattle.eden_disk.specs.Held.{Passes}
use Rattle.passive_store.specs.Acts.{AllTold, CallsTold}
use Rattle.passive_blocks.specs.BlockLayout.{format_calls}
use Rattle.eden_disk.proofs.Held.{calls_more, obeyed_more}
use Rattle.eden_disk.proofs.Timed.{timed_join}
use Rattle.block_tables.specs.Blocks.{is_block_size}
use Rattle.passive_blocks.specs.BlockLayout.{format_of, overfull_by}
use Rattle.passive_blocks.specs.Preparing.{AreReady, IsSynced, IsLogDisk}
use Rattle.std.specs.Prelude.{OnOk, IfErr}
use Rattle.passive_store.specs.declared.store.StoreRefusal.TheVariants.{Damaged}
use Rattle.passive_blocks.specs.BlockLayout.{block_map}
use Rattle.passive_blocks.specs.Preparing.{BringingMade, BringingTold}
use Rattle.passive_store.specs.Kept.{IsOverfullBy}
use Rattle.passive_blocks.specs.declared.opening.Format.{Format}
use Rattle.passive_blocks.specs.NewBlocks.{IsBlankDisk, IsEmptyImage, IsNewBlocks}
use Rattle.passive_blocks.proofs.OpeningRead.{refused_calls, refused_obeyed}
use Rattle.passive_blocks.proofs.OpeningEmpty.{keeps_read, keeps_join}
use Rattle.passive_blocks.proofs.OpeningPrepare.{blocks_there, blank_there, log_there, ready_blocks, blocks_made, blocks_told, blocks_fit}
use Rattle.passive_blocks.proofs.OpeningPrepare.{blank_fit}
use Rattle.passive_blocks.proofs.OpeningPrepare.{blank_made, blank_told, blank_refused, look_refused, refused_made, refused_undamaged}
use Rattle.passive_blocks.proofs.OpeningPrepare.{refused_fits}
use Rattle.passive_blocks.proofs.OpeningPrepare.{bringing_made, bringing_told, ready_blank, blank_disk, keeps_blank}
use Rattle.passive_blocks.proofs.opening.prepare.Goals as goal

pub returns-in_err-look-clause-ran : goal.returns-in_err-look-clause-ran
returns-in_err-look-clause-ran g c =
    let p = err_from_is_err_and c.from_residual.result c.from_residual.ensures.1 in
    rw (p.1, p.2) (
      1,
      (
        refused_calls Format (Unit {0}) _ 1 _ _ c.in_err-look.ensures.counts,
        λ tells s. refused_made (Unit {0}) _ 1 _
            (omega arith),
      ),
    )

pub returns-in_err-look-clause-order : goal.returns-in_err-look-clause-order
returns-in_err-look-clause-order g c =
    let p = err_from_is_err_and c.from_residual.result c.from_residual.ensures.1 in
    rw (p.1, p.2) (λ tells s. look_refused _ _ (g.D.Disk.told c.args.disk.now) (g.D.Disk.told c.look.new.disk) _
    (c.in_err-look.ensures.told tells))

pub returns-in_err-look-clause-damaged : goal.returns-in_err-look-clause-damaged
returns-in_err-look-clause-damaged g c =
    let p = err_from_is_err_and c.from_residual.result c.from_residual.ensures.1 in
    rw (p.1, p.2) (λ tells s place is. absurd (refused_undamaged _ place is))

pub returns-in_err-look-clause-full : goal.returns-in_err-look-clause-full
returns-in_err-look-clause-full g c =
    let p = err_from_is_err_and c.from_residual.result c.from_residual.ensures.1 in
    rw (p.1, p.2) (λ tells s. refused_fits (Unit {0}) _ _)

pub returns-in_err-look-clause-keeps : goal.returns-in_err-look-clause-keeps
returns-in_err-look-clause-keeps g c = λ tells s. keeps_read c.args.node _ _ _ _ (c.look.ensures.told tells)

pub returns-in-Blocks-clause-ran : goal.returns-in-Blocks-clause-ran
returns-in-Blocks-clause-ran g c = (
  1,
  (
    c.in_ok-look.ensures.counts,
    λ tells s. blocks_made c.args.node (contents (g.D.Disk.told c.args.disk.now)).now
        (blocks_there (contents (g.D.Disk.told c.args.disk.now)).now c.in_ok-look.field-0
        (c.in_ok-look.ensures.found tells) c.in-Blocks.is),
  ),
)

pub returns-in-Blocks-clause-order : goal.returns-in-Blocks-clause-order
returns-in-Blocks-clause-order g c = λ tells s.
    blocks_told c.args.node (g.D.Disk.counts c.look.new.disk).clock (contents (g.D.Disk.told c.args.disk.now)).now _ _
    (blocks_there (contents (g.D.Disk.told c.args.disk.now)).now c.in_ok-look.field-0 (c.in_ok-look.ensures.found tells) c.in-Blocks.is)
    (c.in_ok-look.ensures.told tells)

pub returns-in-Blocks-clause-ready : goal.returns-in-Blocks-clause-ready
returns-in-Blocks-clause-ready g c = λ tells s.
    subst (λ t. AreReady c.args.node (contents (g.D.Disk.told c.args.disk.now)).now (contents t)) (sym (c.in_ok-look.ensures.told tells))
    (ready_blocks c.args.node (contents (g.D.Disk.told c.args.disk.now)) s.rest
    (blocks_there (contents (g.D.Disk.told c.args.disk.now)).now c.in_ok-look.field-0 (c.in_ok-look.ensures.found tells) c.in-Blocks.is))

pub returns-in-Blocks-clause-full : goal.returns-in-Blocks-clause-full
returns-in-Blocks-clause-full g c = λ tells s.
    blocks_fit c.args.node (contents (g.D.Disk.told c.args.disk.now)).now
    (blocks_there (contents (g.D.Disk.told c.args.disk.now)).now c.in_ok-look.field-0 (c.in_ok-look.ensures.found tells) c.in-Blocks.is)

pub returns-in-Blocks-clause-keeps : goal.returns-in-Blocks-clause-keeps
returns-in-Blocks-clause-keeps g c = λ tells s. keeps_read c.args.node (g.D.Disk.counts c.look.new.disk).clock _ _ Fine
    (c.in_ok-look.ensures.told tells)

pub make_blocks-requires-clause-allowed : goal.make_blocks-requires-clause-allowed
make_blocks-requires-clause-allowed g c = ap is_block_size c.in_ok-look.ensures.counts.size ∙ c.requires.allowed

pub returns-in_err-make_blocks-in-Blank-clause-ran : goal.returns-in_err-make_blocks-in-Blank-clause-ran
returns-in_err-make_blocks-in-Blank-clause-ran g c =
    let p = err_from_is_err_and c.from_residual-in_err-make_blocks-in-Blank.result c.from_residual-in_err-make_blocks-in-Blank.ensures.1 in
    let e = c.in_err-make_blocks-in-Blank.ensures in
    rw (p.1, p.2) (
      1 + e.ran.0,
      (
        calls_more 1 e.ran.0 _ _ _ _ c.in_ok-look.ensures.counts (refused_calls (Unit {0}) (Unit {0}) _ e.ran.0 _ _ e.ran.1.0),
        λ tells s. refused_made (Unit {0}) _ (1 + e.ran.0) _ (omega arith),
      ),
    )

pub returns-in_err-make_blocks-in-Blank-clause-obeyed : goal.returns-in_err-make_blocks-in-Blank-clause-obeyed
returns-in_err-make_blocks-in-Blank-clause-obeyed g c =
    let p = err_from_is_err_and c.from_residual-in_err-make_blocks-in-Blank.result c.from_residual-in_err-make_blocks-in-Blank.ensures.1 in
    let l = c.in_ok-look.ensures in
    let e = c.in_err-make_blocks-in-Blank.ensures in
    rw (p.1, p.2) (λ so. obeyed_more 1 e.ran.0 _ _ _ _ _ _ _ l.counts (refused_calls (Unit {0}) (Unit {0}) _ e.ran.0 _ _ e.ran.1.0)
    (l.obeyed so)
    (refused_obeyed (Unit {0}) (Unit {0}) _ _ _ _ _ (e.obeyed so)))

pub returns-in_err-make_blocks-in-Blank-clause-timed : goal.returns-in_err-make_blocks-in-Blank-clause-timed
returns-in_err-make_blocks-in-Blank-clause-timed g c = λ tells.
    timed_join _ _ _ _ _ _ (c.in_ok-look.ensures.timed tells) (c.in_err-make_blocks-in-Blank.ensures.timed tells)

pub returns-in_err-make_blocks-in-Blank-clause-order : goal.returns-in_err-make_blocks-in-Blank-clause-order
returns-in_err-make_blocks-in-Blank-clause-order g c =
    let p = err_from_is_err_and c.from_residual-in_err-make_blocks-in-Blank.result c.from_residual-in_err-make_blocks-in-Blank.ensures.1 in
    rw (p.1, p.2) (λ tells s.
    let b = blank_there (contents (g.D.Disk.told c.args.disk.now)).now c.in_ok-look.field-0
    (c.in_ok-look.ensures.found tells) c.in-Blank.is in
    blank_refused c.args.node (g.D.Disk.counts c.args.disk.now).size (g.D.Disk.counts c.look.new.disk).clock
    (contents (g.D.Disk.told c.args.disk.now)).now (g.D.Disk.told c.args.disk.now) (g.D.Disk.told c.look.new.disk)
    (g.D.Disk.told c.make_blocks.new.disk) _ s.long b.0 b.1 (c.in_ok-look.ensures.told tells)
    (subst (λ n. CallsTold (format_calls n) (g.D.Disk.told c.look.new.disk) (g.D.Disk.told c.make_blocks.new.disk)
    (end_of {T = Unit {0}} (Err c.in_err-make_blocks-in-Blank.field-0.0))) c.in_ok-look.ensures.counts.size
    (c.in_err-make_blocks-in-Blank.ensures.order tells)))

pub returns-in_err-make_blocks-in-Blank-clause-damaged : goal.returns-in_err-make_blocks-in-Blank-clause-damaged
returns-in_err-make_blocks-in-Blank-clause-damaged g c =
    let p = err_from_is_err_and c.from_residual-in_err-make_blocks-in-Blank.result c.from_residual-in_err-make_blocks-in-Blank.ensures.1 in
    rw (p.1, p.2) (λ tells s place is. absurd (refused_undamaged _ place is))

pub returns-in_err-make_blocks-in-Blank-clause-full : goal.returns-in_err-make_blocks-in-Blank-clause-full
returns-in_err-make_blocks-in-Blank-clause-full g c =
    let p = err_from_is_err_and c.from_residual-in_err-make_blocks-in-Blank.result c.from_residual-in_err-make_blocks-in-Blank.ensures.1 in
    rw (p.1, p.2) (λ tells s. refused_fits (Unit {0}) _ _)

pub returns-in_err-make_blocks-in-Blank-clause-keeps : goal.returns-in_err-make_blocks-in-Blank-clause-keeps
returns-in_err-make_blocks-in-Blank-clause-keeps g c = λ tells s.
    let size : ℕ = (g.D.Disk.counts c.args.disk.now).size in
    let b = blank_there (contents (g.D.Disk.told c.args.disk.now)).now c.in_ok-look.field-0
    (c.in_ok-look.ensures.found tells) c.in-Blank.is in
    let disk : IsBlankDisk size (contents (g.D.Disk.told c.args.disk.now)) = blank_disk size (contents
    (g.D.Disk.told c.args.disk.now)) s b.0 b.1 in
    keeps_blank c.args.node size (g.D.Disk.counts c.look.new.disk).clock (g.D.Disk.told c.args.disk.now) (g.D.Disk.told c.look.new.disk)
    (g.D.Disk.told c.make_blocks.new.disk) c.requires.allowed disk (c.in_ok-look.ensures.told tells)
    (subst (λ n. Passes (IsEmptyImage n) (g.D.Disk.told c.look.new.disk)
    (g.D.Disk.told c.make_blocks.new.disk)) c.in_ok-look.ensures.counts.size
    (c.make_blocks.ensures.empty tells (subst (λ n. IsBlankDisk n (contents (g.D.Disk.told c.look.new.disk)))
    (sym c.in_ok-look.ensures.counts.size)
    (subst (λ t. IsBlankDisk size (contents t)) (sym (c.in_ok-look.ensures.told tells)) disk))))

pub returns-in_ok-make_blocks-in-Blank-clause-ran : goal.returns-in_ok-make_blocks-in-Blank-clause-ran
returns-in_ok-make_blocks-in-Blank-clause-ran g c =
    let e = c.in_ok-make_blocks-in-Blank.ensures in (
      1 + e.ran.0,
      (
        calls_more 1 e.ran.0 _ _ _ Fine c.in_ok-look.ensures.counts e.ran.1.0,
        λ tells s.
            let b = blank_there (contents (g.D.Disk.told c.args.disk.now)).now c.in_ok-look.field-0 (c.in_ok-look.ensures.found tells)
            c.in-Blank.is in
            blank_made c.args.node (g.D.Disk.counts c.args.disk.now).size e.ran.0 (contents
            (g.D.Disk.told c.args.disk.now)).now s.long b.0 b.1
            (omega (arith, e.ran.1.2, c.in_ok-look.ensures.counts.size)),
      ),
    )

pub returns-in_ok-make_blocks-in-Blank-clause-timed : goal.returns-in_ok-make_blocks-in-Blank-clause-timed
returns-in_ok-make_blocks-in-Blank-clause-timed g c = λ tells.
    timed_join _ _ _ _ _ _ (c.in_ok-look.ensures.timed tells) (c.in_ok-make_blocks-in-Blank.ensures.timed tells)

pub returns-in_ok-make_blocks-in-Blank-clause-order : goal.returns-in_ok-make_blocks-in-Blank-clause-order
returns-in_ok-make_blocks-in-Blank-clause-order g c = λ tells s.
    let b = blank_there (contents (g.D.Disk.told c.args.disk.now)).now c.in_ok-look.field-0
    (c.in_ok-look.ensures.found tells) c.in-Blank.is in
    blank_told c.args.node (g.D.Disk.counts c.args.disk.now).size (g.D.Disk.counts c.look.new.disk).clock
    (contents (g.D.Disk.told c.args.disk.now)).now (g.D.Disk.told c.args.disk.now) (g.D.Disk.told c.look.new.disk)
    (g.D.Disk.told c.make_blocks.new.disk) s.long b.0 b.1 (c.in_ok-look.ensures.told tells)
    (subst (λ n. AllTold (format_calls n) (g.D.Disk.told c.look.new.disk)
    (g.D.Disk.told c.make_blocks.new.disk)) c.in_ok-look.ensures.counts.size
    (c.in_ok-make_blocks-in-Blank.ensures.order tells))

-- what make_blocks requires and leaves of a blank disk
pub returns-in_ok-make_blocks-in-Blank-clause-ready : goal.returns-in_ok-make_blocks-in-Blank-clause-ready
returns-in_ok-make_blocks-in-Blank-clause-ready g c = λ tells s.
    let size : ℕ = (g.D.Disk.counts c.args.disk.now).size in
    let told = c.in_ok-look.ensures.told tells in
    let same = c.in_ok-look.ensures.counts.size in
    let b = blank_there (contents (g.D.Disk.told c.args.disk.now)).now c.in_ok-look.field-0
    (c.in_ok-look.ensures.found tells) c.in-Blank.is in
    let disk : IsBlankDisk (g.D.Disk.counts c.look.new.disk).size (contents (g.D.Disk.told c.look.new.disk)) =
    subst (λ n. IsBlankDisk n (contents (g.D.Disk.told c.look.new.disk))) (sym same)
    (subst (λ t. IsBlankDisk size (contents t)) (sym told) (blank_disk size (contents (g.D.Disk.told c.args.disk.now)) s b.0 b.1)) in
    subst (λ t. AreReady c.args.node (contents t).now (contents (g.D.Disk.told c.make_blocks.new.disk))) told
    (ready_blank c.args.node size (g.D.Disk.told c.look.new.disk) (g.D.Disk.told c.make_blocks.new.disk) c.requires.allowed
    (subst (λ t. IsSynced size (contents t)) (sym told) s)
    (subst (λ t. (slice_index (contents t).now 1 == 235) ≡ false) (sym told) b.0)
    (subst (λ t. (slice_index (contents t).now 0 == 237) ≡ false) (sym told) b.1)
    (subst (λ n. Passes (IsEmptyImage n) (g.D.Disk.told c.look.new.disk) (g.D.Disk.told c.make_blocks.new.disk)) same
    (c.in_ok-make_blocks-in-Blank.ensures.empty tells disk))
    (subst (λ n. IsNewBlocks n (contents (g.D.Disk.told c.make_blocks.new.disk))) same
    (c.in_ok-make_blocks-in-Blank.ensures.new tells disk)))

pub returns-in_ok-make_blocks-in-Blank-clause-full : goal.returns-in_ok-make_blocks-in-Blank-clause-full
returns-in_ok-make_blocks-in-Blank-clause-full g c = λ tells s.
    let b = blank_there (contents (g.D.Disk.told c.args.disk.now)).now c.in_ok-look.field-0
    (c.in_ok-look.ensures.found tells) c.in-Blank.is in
    blank_fit c.args.node (contents (g.D.Disk.told c.args.disk.now)).now b.0 b.1

pub returns-in_ok-make_blocks-in-Blank-clause-keeps : goal.returns-in_ok-make_blocks-in-Blank-clause-keeps
returns-in_ok-make_blocks-in-Blank-clause-keeps g c = λ tells s.
    let size : ℕ = (g.D.Disk.counts c.args.disk.now).size in
    let b = blank_there (contents (g.D.Disk.told c.args.disk.now)).now c.in_ok-look.field-0
    (c.in_ok-look.ensures.found tells) c.in-Blank.is in
    let disk : IsBlankDisk size (contents (g.D.Disk.told c.args.disk.now)) = blank_disk size (contents
    (g.D.Disk.told c.args.disk.now)) s b.0 b.1 in
    keeps_blank c.args.node size (g.D.Disk.counts c.look.new.disk).clock (g.D.Disk.told c.args.disk.now) (g.D.Disk.told c.look.new.disk)
    (g.D.Disk.told c.make_blocks.new.disk) c.requires.allowed disk (c.in_ok-look.ensures.told tells)
    (subst (λ n. Passes (IsEmptyImage n) (g.D.Disk.told c.look.new.disk)
    (g.D.Disk.told c.make_blocks.new.disk)) c.in_ok-look.ensures.counts.size
    (c.make_blocks.ensures.empty tells (subst (λ n. IsBlankDisk n (contents (g.D.Disk.told c.look.new.disk)))
    (sym c.in_ok-look.ensures.counts.size)
    (subst (λ t. IsBlankDisk size (contents t)) (sym (c.in_ok-look.ensures.told tells)) disk))))

-- a log is brought over behind the look
pub returns-in-Log-clause-ran : goal.returns-in-Log-clause-ran
returns-in-Log-clause-ran g c =
    let e = c.bring_over.ensures in (
      1 + e.ran.0,
      (
        calls_more 1 e.ran.0 _ _ _ _ c.in_ok-look.ensures.counts e.ran.1.0,
        λ tells s.
            let log = subst (λ t. IsLogDisk c.in-Log.staged (contents t)) (sym (c.in_ok-look.ensures.told tells))
            (log_there (g.D.Disk.counts c.args.disk.now).size (contents
            (g.D.Disk.told c.args.disk.now)) c.in_ok-look.field-0 c.in-Log.staged s
            (c.in_ok-look.ensures.found tells) c.in-Log.is) in
            bringing_made c.args.node e.ran.0 (contents (g.D.Disk.told c.args.disk.now)).now c.bring_over.result
            (subst (λ t. BringingMade c.args.node (contents t).now c.bring_over.result e.ran.0) (c.in_ok-look.ensures.told tells)
            (e.ran.1.1 tells log)),
      ),
    )

pub returns-in-Log-clause-obeyed : goal.returns-in-Log-clause-obeyed
returns-in-Log-clause-obeyed g c =
    let l = c.in_ok-look.ensures in
    let e = c.bring_over.ensures in
    λ so. obeyed_more 1 e.ran.0 _ _ _ _ _ _ _ l.counts e.ran.1.0 (l.obeyed so) (e.obeyed so)

pub returns-in-Log-clause-timed : goal.returns-in-Log-clause-timed
returns-in-Log-clause-timed g c =
    λ tells. timed_join _ _ _ _ _ _ (c.in_ok-look.ensures.timed tells) (c.bring_over.ensures.timed tells)

pub returns-in-Log-clause-order : goal.returns-in-Log-clause-order
returns-in-Log-clause-order g c =
    λ tells s.
    let log = subst (λ t. IsLogDisk c.in-Log.staged (contents t)) (sym (c.in_ok-look.ensures.told tells))
    (log_there (g.D.Disk.counts c.args.disk.now).size (contents (g.D.Disk.told c.args.disk.now)) c.in_ok-look.field-0 c.in-Log.staged s
    (c.in_ok-look.ensures.found tells) c.in-Log.is) in
    bringing_told c.args.node (g.D.Disk.counts c.look.new.disk).clock (contents (g.D.Disk.told c.args.disk.now)).now
    (g.D.Disk.told c.args.disk.now) (g.D.Disk.told c.look.new.disk) (g.D.Disk.told c.bring_over.new.disk) c.bring_over.result
    (c.in_ok-look.ensures.told tells)
    (subst (λ t. BringingTold c.args.node (contents t).now (g.D.Disk.told c.look.new.disk) (g.D.Disk.told c.bring_over.new.disk)
    c.bring_over.result) (c.in_ok-look.ensures.told tells) (c.bring_over.ensures.order tells log))

pub returns-in-Log-clause-ready : goal.returns-in-Log-clause-ready
returns-in-Log-clause-ready g c =
    λ tells s.
    let log = subst (λ t. IsLogDisk c.in-Log.staged (contents t)) (sym (c.in_ok-look.ensures.told tells))
    (log_there (g.D.Disk.counts c.args.disk.now).size (contents (g.D.Disk.told c.args.disk.now)) c.in_ok-look.field-0 c.in-Log.staged s
    (c.in_ok-look.ensures.found tells) c.in-Log.is) in
    subst (λ t. OnOk c.bring_over.result (AreReady c.args.node (contents t).now (contents (g.D.Disk.told c.bring_over.new.disk))))
    (c.in_ok-look.ensures.told tells) (c.bring_over.ensures.ready tells log)

pub returns-in-Log-clause-damaged : goal.returns-in-Log-clause-damaged
returns-in-Log-clause-damaged g c =
    λ tells s.
    let log = subst (λ t. IsLogDisk c.in-Log.staged (contents t)) (sym (c.in_ok-look.ensures.told tells))
    (log_there (g.D.Disk.counts c.args.disk.now).size (contents (g.D.Disk.told c.args.disk.now)) c.in_ok-look.field-0 c.in-Log.staged s
    (c.in_ok-look.ensures.found tells) c.in-Log.is) in
    subst (λ t. IfErr c.bring_over.result (λ e. (place : ℕ) → e ≡ Damaged place → block_map c.args.node (contents t).now ≡ Err place))
    (c.in_ok-look.ensures.told tells) (c.bring_over.ensures.damaged tells log)

pub returns-in-Log-clause-full : goal.returns-in-Log-clause-full
returns-in-Log-clause-full g c =
    λ tells s.
    let log = subst (λ t. IsLogDisk c.in-Log.staged (contents t)) (sym (c.in_ok-look.ensures.told tells))
    (log_there (g.D.Disk.counts c.args.disk.now).size (contents (g.D.Disk.told c.args.disk.now)) c.in_ok-look.field-0 c.in-Log.staged s
    (c.in_ok-look.ensures.found tells) c.in-Log.is) in
    subst (λ t. IsOverfullBy (overfull_by (format_of (contents t).now) c.args.node (contents t).now) c.bring_over.result)
    (c.in_ok-look.ensures.told tells) (c.bring_over.ensures.full tells log)

pub returns-in-Log-clause-keeps : goal.returns-in-Log-clause-keeps
returns-in-Log-clause-keeps g c =
    λ tells s.
    let log = subst (λ t. IsLogDisk c.in-Log.staged (contents t)) (sym (c.in_ok-look.ensures.told tells))
    (log_there (g.D.Disk.counts c.args.disk.now).size (contents (g.D.Disk.told c.args.disk.now)) c.in_ok-look.field-0 c.in-Log.staged s
    (c.in_ok-look.ensures.found tells) c.in-Log.is) in
    keeps_join c.args.node _ _ _ (keeps_read c.args.node (g.D.Disk.counts c.look.new.disk).clock _ _ Fine
    (c.in_ok-look.ensures.told tells)) (c.bring_over.ensures.keeps tells log)
