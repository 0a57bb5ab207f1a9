use Rattle.std.proofs.Common.{◌≡◌, ◌+◌, ◌*◌, ◌/◌, sym, subst, ◌∙◌, arith, replicate}
use Rattle.std.proofs.lemmas.Result.{err_from_is_err_and}
use Rattle.eden_disk.specs.Calls.{Fine}
use Rattle.eden_disk.specs.Told.{contents}
use Rattle.eden_disk.proofs.Held.{calls_none, calls_one, calls_more, obeyed_none, obeyed_one, obeyed_more}
use Rattle.eden_disk.proofs.Timed.{timed_write, timed_join}
use Rattle.eden_disk.specs.Held.{Holds, Passes}
use Rattle.eden_disk.proofs.Held.{passes_join}
use Rattle.passive_store.specs.Acts.{AllTold}
use Rattle.passive_blocks.specs.Fits.{Fits}
use Rattle.passive_blocks.specs.NewBlocks.{MayBlank, AreCleared, clearing_calls}
use Rattle.passive_blocks.proofs.OpeningFormat.{clearing_none, clearing_more, clearing_refused, blank_write, size_parts}
use Rattle.passive_blocks.proofs.opening.clear_heads.Goals as goal

pub loop-index-init : goal.loop-index-init
loop-index-init g c = clearing_none g.D.Disk.tells g.D.Disk.obeys c.size-size.result (g.D.Disk.told c.args.disk.now)
    (g.D.Disk.counts c.args.disk.now) (g.D.Disk.due c.args.disk.now) (calls_none _ c.requires.power) (obeyed_none _ _)

pub loop-index-preserved : goal.loop-index-preserved
loop-index-preserved g c =
    let e = c.in_ok-write.ensures in
    let whole = size_parts (g.D.Disk.counts c.args.disk.now).size c.requires.allowed in
    clearing_more g.D.Disk.tells g.D.Disk.obeys c.size-size.result (g.D.Disk.told c.args.disk.now) (g.D.Disk.told c.loop-index.disk)
    (g.D.Disk.told c.write.new.self) (g.D.Disk.counts c.args.disk.now) (g.D.Disk.counts c.loop-index.disk)
    (g.D.Disk.counts c.write.new.self)
    (g.D.Disk.due c.args.disk.now) (g.D.Disk.due c.loop-index.disk) (g.D.Disk.due c.write.new.self) c.loop-index.index
    (g.D.Disk.counts c.write.new.self).clock c.loop-index.invariant
    (omega (arith, c.size-size.ensures.size, c.loop-index-test.true, whole.0, whole.2))
    (calls_one _ _ _ e.counts) (λ so. obeyed_one _ _ _ _ _ e.counts (e.obeys so))
    (λ tells. timed_write ((c.loop-index.index + 1) * 1024) (replicate 1024 0) (g.D.Disk.counts c.loop-index.disk)
    (g.D.Disk.counts c.write.new.self) (g.D.Disk.told c.loop-index.disk) (g.D.Disk.told c.write.new.self) Fine e.counts.clock
    (e.spent tells)
    (e.told tells))
    e.told

pub returns-in_err-write-clause-ran : goal.returns-in_err-write-clause-ran
returns-in_err-write-clause-ran g c =
    let p = err_from_is_err_and c.from_residual.result c.from_residual.ensures.1 in
    rw (p.1, p.2) (
      c.loop-index.index + 1,
      (
        calls_more c.loop-index.index 1 _ _ _ _ c.loop-index.invariant.counts
            (calls_one _ _ _ c.in_err-write.ensures.counts),
        omega arith,
        tt,
      ),
    )

pub returns-in_err-write-clause-obeyed : goal.returns-in_err-write-clause-obeyed
returns-in_err-write-clause-obeyed g c =
    let p = err_from_is_err_and c.from_residual.result c.from_residual.ensures.1 in
    let e = c.in_err-write.ensures in
    let inv = c.loop-index.invariant in
    rw (p.1, p.2) (λ so. obeyed_more c.loop-index.index 1 _ _ _ _ _ _ _ inv.counts (calls_one _ _ _ e.counts) (inv.obeyed so)
    (obeyed_one _ _ _ _ _ e.counts (e.obeys so)))

pub returns-in_err-write-clause-timed : goal.returns-in_err-write-clause-timed
returns-in_err-write-clause-timed g c = λ tells.
    let e = c.write.ensures in
    timed_join _ _ _ _ _ _ (c.loop-index.invariant.timed tells)
    (timed_write ((c.loop-index.index + 1) * 1024) (replicate 1024 0) (g.D.Disk.counts c.loop-index.disk)
    (g.D.Disk.counts c.write.new.self) (g.D.Disk.told c.loop-index.disk) (g.D.Disk.told c.write.new.self) _ e.counts.clock (e.spent tells)
    (e.told tells))

pub returns-in_err-write-clause-order : goal.returns-in_err-write-clause-order
returns-in_err-write-clause-order g c =
    let p = err_from_is_err_and c.from_residual.result c.from_residual.ensures.1 in
    rw (p.1, p.2) (λ tells. clearing_refused _ _ c.size-size.result _ _ _ _ _ _ _ c.loop-index.index
    ((g.D.Disk.counts c.args.disk.now).size / 32768) _ _ c.loop-index.invariant
    (omega (arith, c.size-size.ensures.size, c.loop-index-test.true)) tells (c.in_err-write.ensures.told tells))

pub returns-in_err-write-clause-blank : goal.returns-in_err-write-clause-blank
returns-in_err-write-clause-blank g c = λ tells holds.
    let whole = size_parts (g.D.Disk.counts c.args.disk.now).size c.requires.allowed in
    let size : c.size-size.result ≡ (g.D.Disk.counts c.args.disk.now).size = c.size-size.ensures.size in
    let first = c.loop-index.invariant.blank tells (subst (λ n. Holds (Fits MayBlank n) (contents (g.D.Disk.told c.args.disk.now)))
    (sym size) holds) in
    subst (λ n. Passes (Fits MayBlank n) (g.D.Disk.told c.args.disk.now) (g.D.Disk.told c.write.new.self)) size
    (passes_join (Fits MayBlank c.size-size.result) _ _ _ first
    (blank_write c.size-size.result _ c.loop-index.index _ _ _ (omega (arith, size, c.loop-index-test.true, whole.0, whole.2)) first.after
    (c.write.ensures.told tells)))

pub returns-clause-ran : goal.returns-clause-ran
returns-clause-ran g c =
    let whole = size_parts (g.D.Disk.counts c.args.disk.now).size c.requires.allowed in
    let all : c.loop-index.index ≡ (g.D.Disk.counts c.args.disk.now).size / 32768 =
    omega (arith, c.size-size.ensures.size, c.loop-index-test.false, c.loop-index.auto.index-end) in
    (c.loop-index.index, (c.loop-index.invariant.counts, omega (arith, all, whole.0), all))

pub returns-clause-order : goal.returns-clause-order
returns-clause-order g c = λ tells.
    let all : c.loop-index.index ≡ (g.D.Disk.counts c.args.disk.now).size / 32768 =
    omega (arith, c.size-size.ensures.size, c.loop-index-test.false, c.loop-index.auto.index-end) in
    subst (λ n. AllTold (clearing_calls n) (g.D.Disk.told c.args.disk.now) (g.D.Disk.told c.loop-index.disk)) all
    (c.loop-index.invariant.order tells)

pub returns-clause-blank : goal.returns-clause-blank
returns-clause-blank g c = λ tells holds.
    let size : c.size-size.result ≡ (g.D.Disk.counts c.args.disk.now).size = c.size-size.ensures.size in
    subst (λ n. Passes (Fits MayBlank n) (g.D.Disk.told c.args.disk.now) (g.D.Disk.told c.loop-index.disk)) size
    (c.loop-index.invariant.blank tells (subst (λ n. Holds (Fits MayBlank n) (contents (g.D.Disk.told c.args.disk.now))) (sym size) holds))

pub returns-clause-cleared : goal.returns-clause-cleared
returns-clause-cleared g c = λ tells long.
    let size : c.size-size.result ≡ (g.D.Disk.counts c.args.disk.now).size = c.size-size.ensures.size in
    let all : c.loop-index.index ≡ (g.D.Disk.counts c.args.disk.now).size / 32768 =
    omega (arith, c.size-size.ensures.size, c.loop-index-test.false, c.loop-index.auto.index-end) in
    subst (λ n. AreCleared (g.D.Disk.counts c.args.disk.now).size n (contents (g.D.Disk.told c.loop-index.disk)).now) all
    (subst (λ n. AreCleared n c.loop-index.index (contents (g.D.Disk.told c.loop-index.disk)).now) size
    (c.loop-index.invariant.cleared tells (long ∙ sym size)))
