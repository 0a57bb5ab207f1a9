use Rattle.std.proofs.Common.{◌≡◌, ◌+◌, ◌/◌, ℕ, sym, ap, subst, ◌∙◌, arith, [], ◌∷◌}
use Rattle.std.proofs.lemmas.Result.{err_from_is_err_and, on_ok_weaker}
use Rattle.eden_disk.proofs.Held.{calls_more, obeyed_more, passes_join, passes_weaker}
use Rattle.eden_disk.proofs.Timed.{timed_join}
use Rattle.passive_store.specs.Acts.{Write, Sync}
use Rattle.passive_store.proofs.Joining.{disk_refused_more, calls_told_more}
use Rattle.passive_blocks.specs.Fits.{Fits}
use Rattle.std.specs.Prelude.{OnOk}
use Rattle.eden_disk.specs.Told.{contents}
use Rattle.eden_disk.specs.Held.{Passes}
use Rattle.block_tables.specs.Blocks.{is_block_size}
use Rattle.passive_blocks.specs.NewBlocks.{MayBlank, IsEmptyImage, IsClearedDisk, IsNewBlocks, clearing_calls}
use Rattle.passive_blocks.proofs.OpeningFormat.{blank_fits, blank_is_empty, cleared_disk}
use Rattle.passive_blocks.proofs.opening.make_blocks.Goals as goal

pub mark_blocks-requires-clause-allowed : goal.mark_blocks-requires-clause-allowed
mark_blocks-requires-clause-allowed g c = ap is_block_size c.in_ok-clear_heads.ensures.ran.1.0.size ∙ c.requires.allowed

pub returns-in_err-clear_heads-clause-order : goal.returns-in_err-clear_heads-clause-order
returns-in_err-clear_heads-clause-order g c =
    let p = err_from_is_err_and c.from_residual.result c.from_residual.ensures.1 in
    rw (p.1, p.2) (λ tells. disk_refused_more (Unit {0}) (Unit {0}) (clearing_calls ((g.D.Disk.counts c.args.disk.now).size / 32768))
    (Sync ∷ Write 1 (235 ∷ []) ∷ Sync ∷ []) _ _ _ (c.in_err-clear_heads.ensures.order tells))

pub returns-in_err-clear_heads-clause-empty : goal.returns-in_err-clear_heads-clause-empty
returns-in_err-clear_heads-clause-empty g c = λ tells blank.
    let size : ℕ = (g.D.Disk.counts c.args.disk.now).size in
    passes_weaker (Fits MayBlank size) (IsEmptyImage size) _ _ (blank_is_empty size)
    (c.clear_heads.ensures.blank tells (blank_fits size _ blank))

pub returns-clause-ran : goal.returns-clause-ran
returns-clause-ran g c =
    let first = c.in_ok-clear_heads.ensures.ran in
    let second = c.mark_blocks.ensures.ran in (
      first.0 + second.0,
      (
        calls_more first.0 second.0 _ _ _ _ first.1.0 second.1.0,
        omega (arith, first.1.1),
        on_ok_weaker c.mark_blocks.result (λ (n : second.0 ≡ 3). let sum : first.0 + second.0 ≡
            (g.D.Disk.counts c.args.disk.now).size / 32768 + 3 =
            omega (arith, n, first.1.2) in sum) second.1.1,
      ),
    )

pub returns-clause-obeyed : goal.returns-clause-obeyed
returns-clause-obeyed g c =
    let first = c.in_ok-clear_heads.ensures.ran in
    let second = c.mark_blocks.ensures.ran in
    λ so. obeyed_more first.0 second.0 _ _ _ _ _ _ _ first.1.0 second.1.0 (c.in_ok-clear_heads.ensures.obeyed so)
    (c.mark_blocks.ensures.obeyed so)

pub returns-clause-timed : goal.returns-clause-timed
returns-clause-timed g c = λ tells. timed_join _ _ _ _ _ _ (c.in_ok-clear_heads.ensures.timed tells) (c.mark_blocks.ensures.timed tells)

pub returns-clause-order : goal.returns-clause-order
returns-clause-order g c = λ tells.
    calls_told_more (clearing_calls ((g.D.Disk.counts c.args.disk.now).size / 32768)) (Sync ∷ Write 1 (235 ∷ []) ∷ Sync ∷ []) _ _ _ _
    (c.in_ok-clear_heads.ensures.order tells) (c.mark_blocks.ensures.order tells)

pub returns-clause-empty : goal.returns-clause-empty
returns-clause-empty g c = λ tells blank.
    let e = c.in_ok-clear_heads.ensures in
    let size : ℕ = (g.D.Disk.counts c.args.disk.now).size in
    let both = cleared_disk size _ _ blank (e.blank tells) (e.cleared tells) in
    let same : (g.D.Disk.counts c.clear_heads.new.disk).size ≡ size = e.ran.1.0.size in
    passes_join (IsEmptyImage size) _ _ _ both.1
    (subst (λ n. Passes (IsEmptyImage n) (g.D.Disk.told c.clear_heads.new.disk) (g.D.Disk.told c.mark_blocks.new.disk)) same
    (c.mark_blocks.ensures.empty tells (subst (λ n. IsClearedDisk n (contents (g.D.Disk.told c.clear_heads.new.disk))) (sym same) both.0)))

pub returns-clause-new : goal.returns-clause-new
returns-clause-new g c = λ tells blank.
    let e = c.in_ok-clear_heads.ensures in
    let size : ℕ = (g.D.Disk.counts c.args.disk.now).size in
    let both = cleared_disk size _ _ blank (e.blank tells) (e.cleared tells) in
    let same : (g.D.Disk.counts c.clear_heads.new.disk).size ≡ size = e.ran.1.0.size in
    subst (λ n. OnOk c.mark_blocks.result (IsNewBlocks n (contents (g.D.Disk.told c.mark_blocks.new.disk)))) same
    (c.mark_blocks.ensures.new tells (subst (λ n. IsClearedDisk n (contents (g.D.Disk.told c.clear_heads.new.disk))) (sym same) both.0))
