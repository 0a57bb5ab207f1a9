use Rattle.std.proofs.Common.{◌≡◌, ◌+◌, ℕ, false, true, length, refl, sym, ap, subst, ◌∙◌, arith, Err}
use Rattle.std.specs.Prelude.{IfOk, None}
use Rattle.passive_store.specs.Kept.{OpeningMade, IsOverfullBy}
use Rattle.passive_blocks.specs.BlockLayout.{format_of, overfull_by}
use Rattle.passive_blocks.proofs.OpeningWhole.{made_by_length, synced_disk, damaged_read}
use Rattle.std.proofs.Common.{Bool}
use Rattle.std.proofs.lemmas.Bool.{both_ways}
use Rattle.std.proofs.lemmas.Result.{err_from_is_err_and}
use Rattle.eden_disk.specs.Told.{contents}
use Rattle.eden_disk.specs.Calls.{Fine}
use Rattle.eden_disk.proofs.Held.{calls_none, calls_one, calls_more, obeyed_none, obeyed_one, obeyed_more}
use Rattle.eden_disk.proofs.Timed.{timed_sync, timed_join}
use Rattle.passive_store.specs.Acts.{AllTold}
use Rattle.passive_store.specs.Kept.{OpeningTold}
use Rattle.passive_store.proofs.Joining.{timed_still, counts_alike, obeyed_alike}
use Rattle.block_tables.specs.declared.table.Table.{Table}
use Rattle.block_tables.specs.Blocks.{is_block_size}
use Rattle.passive_blocks.specs.BlockLayout.{block_map}
use Rattle.passive_blocks.specs.HeldState.{IsHeld}
use Rattle.passive_blocks.specs.Preparing.{AreReady, calls_to_blocks, calls_behind_sync}
use Rattle.passive_blocks.proofs.OpeningRead.{refused_calls, refused_obeyed}
use Rattle.passive_blocks.proofs.OpeningPrepare.{refused_made, refused_undamaged, refused_fits}
use Rattle.passive_blocks.proofs.OpeningEmpty.{keeps_none, keeps_sync, keeps_read, keeps_join}
use Rattle.passive_blocks.proofs.OpeningWhole.{calls_are, calls_none_there, map_none, fits_none, full_is, sync_refused_all}
use Rattle.passive_blocks.proofs.OpeningWhole.{told_more}
use Rattle.passive_blocks.proofs.OpeningWhole.{whole_told, whole_made, full_read, ready_read, table_read}
use Rattle.passive_blocks.proofs.opening.open_blocks.Goals as goal

-- a size that is not allowed
pub returns-then-not-is_block_size-clause-ran : goal.returns-then-not-is_block_size-clause-ran
returns-then-not-is_block_size-clause-ran g c = (
  0,
  (
    calls_none _ c.requires.power,
    λ tells. sym (ap length (calls_none_there c.args.node (contents (g.D.Disk.told c.args.disk.now)).now (ap is_block_size
        (c.size.ensures.told tells) ∙ sym c.is_block_size.ensures ∙ c.if-not-is_block_size.true))),
  ),
)

pub returns-then-not-is_block_size-clause-order : goal.returns-then-not-is_block_size-clause-order
returns-then-not-is_block_size-clause-order g c = λ tells.
    subst (λ l. AllTold l (g.D.Disk.told c.args.disk.now) (g.D.Disk.told c.args.disk.now))
    (sym (calls_none_there c.args.node (contents (g.D.Disk.told c.args.disk.now)).now (ap is_block_size (c.size.ensures.told tells)
    ∙ sym c.is_block_size.ensures ∙ c.if-not-is_block_size.true))) refl

pub returns-then-not-is_block_size-clause-obeyed : goal.returns-then-not-is_block_size-clause-obeyed
returns-then-not-is_block_size-clause-obeyed g c = λ so. obeyed_none _ _

pub returns-then-not-is_block_size-clause-timed : goal.returns-then-not-is_block_size-clause-timed
returns-then-not-is_block_size-clause-timed g c = λ tells. timed_still _ _ _ _ (omega arith) refl

pub returns-then-not-is_block_size-clause-damaged : goal.returns-then-not-is_block_size-clause-damaged
returns-then-not-is_block_size-clause-damaged g c = λ tells place is.
    map_none c.args.node place (contents (g.D.Disk.told c.args.disk.now)).now (ap is_block_size (c.size.ensures.told tells)
    ∙ sym c.is_block_size.ensures ∙ c.if-not-is_block_size.true) is

pub returns-then-not-is_block_size-clause-full : goal.returns-then-not-is_block_size-clause-full
returns-then-not-is_block_size-clause-full g c = λ tells. fits_none c.args.node (contents (g.D.Disk.told c.args.disk.now)).now
    (ap is_block_size (c.size.ensures.told tells) ∙ sym c.is_block_size.ensures ∙ c.if-not-is_block_size.true)

pub returns-then-not-is_block_size-clause-keeps : goal.returns-then-not-is_block_size-clause-keeps
returns-then-not-is_block_size-clause-keeps g c = λ tells. keeps_none c.args.node (g.D.Disk.told c.args.disk.now)

-- the sync was refused
pub returns-in_err-sync-clause-ran : goal.returns-in_err-sync-clause-ran
returns-in_err-sync-clause-ran g c =
    let p = err_from_is_err_and c.from_residual.result c.from_residual.ensures.1 in
    rw (p.1, p.2) (
      1,
      (
        refused_calls (Unit {0}) Table _ 1 _ _ (calls_one _ _ _ c.in_err-sync.ensures.counts),
        λ tells. refused_made Table _ 1 _
            (omega arith),
      ),
    )

pub returns-in_err-sync-clause-order : goal.returns-in_err-sync-clause-order
returns-in_err-sync-clause-order g c =
    let p = err_from_is_err_and c.from_residual.result c.from_residual.ensures.1 in
    rw (p.1, p.2) (λ tells. sync_refused_all c.args.node _ (g.D.Disk.told c.args.disk.now) (g.D.Disk.told c.sync.new.self) _
    (ap is_block_size (c.size.ensures.told tells) ∙ sym c.is_block_size.ensures ∙ c.if-not-is_block_size.false)
    (c.in_err-sync.ensures.told tells))

pub returns-in_err-sync-clause-obeyed : goal.returns-in_err-sync-clause-obeyed
returns-in_err-sync-clause-obeyed g c =
    let p = err_from_is_err_and c.from_residual.result c.from_residual.ensures.1 in
    let e = c.in_err-sync.ensures in
    rw (p.1, p.2) (λ so. refused_obeyed (Unit {0}) Table _ _ _ _ _ (obeyed_one _ _ _ _ _ e.counts (e.obeys so)))

pub returns-in_err-sync-clause-timed : goal.returns-in_err-sync-clause-timed
returns-in_err-sync-clause-timed g c = λ tells.
    let e = c.sync.ensures in
    timed_sync (g.D.Disk.counts c.args.disk.now) (g.D.Disk.counts c.sync.new.self) (g.D.Disk.told c.args.disk.now)
    (g.D.Disk.told c.sync.new.self) _ e.counts.clock (e.spent tells) (e.told tells)

pub returns-in_err-sync-clause-damaged : goal.returns-in_err-sync-clause-damaged
returns-in_err-sync-clause-damaged g c =
    let p = err_from_is_err_and c.from_residual.result c.from_residual.ensures.1 in
    rw (p.1, p.2) (λ tells place is. absurd (refused_undamaged _ place is))

pub returns-in_err-sync-clause-full : goal.returns-in_err-sync-clause-full
returns-in_err-sync-clause-full g c =
    let p = err_from_is_err_and c.from_residual.result c.from_residual.ensures.1 in
    rw (p.1, p.2) (λ tells. refused_fits Table _ _)

pub returns-in_err-sync-clause-keeps : goal.returns-in_err-sync-clause-keeps
returns-in_err-sync-clause-keeps g c = λ tells. keeps_sync c.args.node _ _ _ _ (c.sync.ensures.told tells)

-- what a sync leaves
pub prepare-requires-clause-allowed : goal.prepare-requires-clause-allowed
prepare-requires-clause-allowed g c =
    ap is_block_size (c.in_ok-sync.ensures.counts.size ∙ sym c.size.ensures.size) ∙ (sym c.is_block_size.ensures
    ∙ c.if-not-is_block_size.false)

-- what comes behind it was refused
pub returns-in_err-prepare-clause-ran : goal.returns-in_err-prepare-clause-ran
returns-in_err-prepare-clause-ran g c =
    let p = err_from_is_err_and c.from_residual-in_err-prepare.result c.from_residual-in_err-prepare.ensures.1 in
    let e = c.in_err-prepare.ensures in
    rw (p.1, p.2) (
      1 + e.ran.0,
      (
        calls_more 1 e.ran.0 _ _ _ _ (calls_one _ _ _ c.in_ok-sync.ensures.counts) (counts_alike (Unit {0}) Table _ e.ran.0 _ _ e.ran.1.0),
        λ tells. subst (λ l. OpeningMade {S = Table} (length l) (Err c.in_err-prepare.field-0.0) (1 + e.ran.0))
            (sym (calls_are c.args.node (contents (g.D.Disk.told c.args.disk.now)).now (ap is_block_size (c.size.ensures.told tells)
            ∙ sym c.is_block_size.ensures ∙ c.if-not-is_block_size.false)))
            (made_by_length (calls_behind_sync c.args.node (contents
            (g.D.Disk.told c.args.disk.now)).now) e.ran.0 c.in_err-prepare.field-0.0
            (subst (λ x. OpeningMade {S = Unit {0}} (length (calls_behind_sync c.args.node x)) (Err c.in_err-prepare.field-0.0) e.ran.0)
            (ap (λ t. (contents t).now) (c.in_ok-sync.ensures.told tells)) (e.ran.1.1 tells (synced_disk
            (g.D.Disk.counts c.sync.new.self).size _ (g.D.Disk.told c.args.disk.now) (g.D.Disk.told c.sync.new.self)
            (c.in_ok-sync.ensures.told tells) (c.size.ensures.told tells ∙ c.size.ensures.size ∙ sym c.in_ok-sync.ensures.counts.size))))),
      ),
    )

pub returns-in_err-prepare-clause-order : goal.returns-in_err-prepare-clause-order
returns-in_err-prepare-clause-order g c =
    let p = err_from_is_err_and c.from_residual-in_err-prepare.result c.from_residual-in_err-prepare.ensures.1 in
    rw (p.1, p.2) (λ tells. subst (λ l. OpeningTold {S = Table} l (g.D.Disk.told c.args.disk.now) (g.D.Disk.told c.prepare.new.disk)
    (Err c.in_err-prepare.field-0.0))
    (sym (calls_are c.args.node (contents (g.D.Disk.told c.args.disk.now)).now (ap is_block_size (c.size.ensures.told tells)
    ∙ sym c.is_block_size.ensures ∙ c.if-not-is_block_size.false)))
    (told_more (Unit {0}) Table (calls_behind_sync c.args.node (contents (g.D.Disk.told c.args.disk.now)).now) _ _ _ _ _
    (c.in_ok-sync.ensures.told tells)
    (subst (λ x. OpeningTold {S = Unit {0}} (calls_behind_sync c.args.node x) (g.D.Disk.told c.sync.new.self)
    (g.D.Disk.told c.prepare.new.disk)
    (Err c.in_err-prepare.field-0.0)) (ap (λ t. (contents t).now) (c.in_ok-sync.ensures.told tells))
    (c.in_err-prepare.ensures.order tells (synced_disk (g.D.Disk.counts c.sync.new.self).size _ (g.D.Disk.told c.args.disk.now)
    (g.D.Disk.told c.sync.new.self)
    (c.in_ok-sync.ensures.told tells) (c.size.ensures.told tells ∙ c.size.ensures.size ∙ sym c.in_ok-sync.ensures.counts.size))))))

pub returns-in_err-prepare-clause-obeyed : goal.returns-in_err-prepare-clause-obeyed
returns-in_err-prepare-clause-obeyed g c =
    let p = err_from_is_err_and c.from_residual-in_err-prepare.result c.from_residual-in_err-prepare.ensures.1 in
    let s = c.in_ok-sync.ensures in
    let e = c.in_err-prepare.ensures in
    rw (p.1, p.2) (λ so. obeyed_more 1 e.ran.0 _ _ _ _ _ _ _ (calls_one _ _ _ s.counts) (counts_alike
    (Unit {0}) Table _ e.ran.0 _ _ e.ran.1.0)
    (obeyed_one _ _ _ _ _ s.counts (s.obeys so)) (obeyed_alike (Unit {0}) Table _ _ _ _ _ (e.obeyed so)))

pub returns-in_err-prepare-clause-timed : goal.returns-in_err-prepare-clause-timed
returns-in_err-prepare-clause-timed g c = λ tells.
    let s = c.in_ok-sync.ensures in
    timed_join _ _ _ _ _ _
    (timed_sync (g.D.Disk.counts c.args.disk.now) (g.D.Disk.counts c.sync.new.self) (g.D.Disk.told c.args.disk.now)
    (g.D.Disk.told c.sync.new.self) Fine s.counts.clock (s.spent tells) (s.told tells)) (c.in_err-prepare.ensures.timed tells)

pub returns-in_err-prepare-clause-damaged : goal.returns-in_err-prepare-clause-damaged
returns-in_err-prepare-clause-damaged g c =
    let p = err_from_is_err_and c.from_residual-in_err-prepare.result c.from_residual-in_err-prepare.ensures.1 in
    rw (p.1, p.2) (λ tells place is.
    ap (block_map c.args.node) (sym (ap (λ t. (contents t).now) (c.in_ok-sync.ensures.told tells)))
    ∙ c.in_err-prepare.ensures.damaged tells (synced_disk (g.D.Disk.counts c.sync.new.self).size _ (g.D.Disk.told c.args.disk.now)
    (g.D.Disk.told c.sync.new.self)
    (c.in_ok-sync.ensures.told tells) (c.size.ensures.told tells ∙ c.size.ensures.size ∙ sym c.in_ok-sync.ensures.counts.size)) place is)

pub returns-in_err-prepare-clause-full : goal.returns-in_err-prepare-clause-full
returns-in_err-prepare-clause-full g c =
    let p = err_from_is_err_and c.from_residual-in_err-prepare.result c.from_residual-in_err-prepare.ensures.1 in
    rw (p.1, p.2) (λ tells. full_is (Unit {0}) Table c.args.node (contents (g.D.Disk.told c.args.disk.now)).now _ (ap is_block_size
    (c.size.ensures.told tells) ∙ sym c.is_block_size.ensures ∙ c.if-not-is_block_size.false)
    (subst (λ x. IsOverfullBy {S = Unit {0}} (overfull_by (format_of x) c.args.node x) (Err c.in_err-prepare.field-0.0)) (ap (λ t.
    (contents t).now) (c.in_ok-sync.ensures.told tells))
    (c.in_err-prepare.ensures.full tells (synced_disk (g.D.Disk.counts c.sync.new.self).size _ (g.D.Disk.told c.args.disk.now)
    (g.D.Disk.told c.sync.new.self)
    (c.in_ok-sync.ensures.told tells) (c.size.ensures.told tells ∙ c.size.ensures.size ∙ sym c.in_ok-sync.ensures.counts.size)))))

pub returns-in_err-prepare-clause-keeps : goal.returns-in_err-prepare-clause-keeps
returns-in_err-prepare-clause-keeps g c = λ tells.
    keeps_join c.args.node _ _ _ (keeps_sync c.args.node _ _ _ Fine (c.in_ok-sync.ensures.told tells))
    (c.in_err-prepare.ensures.keeps tells (synced_disk (g.D.Disk.counts c.sync.new.self).size _ (g.D.Disk.told c.args.disk.now)
    (g.D.Disk.told c.sync.new.self)
    (c.in_ok-sync.ensures.told tells) (c.size.ensures.told tells ∙ c.size.ensures.size ∙ sym c.in_ok-sync.ensures.counts.size)))

-- all was read
pub read_blocks-requires-clause-allowed : goal.read_blocks-requires-clause-allowed
read_blocks-requires-clause-allowed g c =
    ap is_block_size (c.in_ok-prepare.ensures.ran.1.0.size ∙ c.in_ok-sync.ensures.counts.size ∙ sym c.size.ensures.size) ∙
    (sym c.is_block_size.ensures ∙ c.if-not-is_block_size.false)

pub returns-clause-ran : goal.returns-clause-ran
returns-clause-ran g c =
    let e = c.in_ok-prepare.ensures in
    let r = c.read_blocks.ensures in (
      1 + (e.ran.0 + r.ran.0),
      (
        calls_more 1 (e.ran.0 + r.ran.0) _ _ _ _ (calls_one _ _ _ c.in_ok-sync.ensures.counts)
            (calls_more e.ran.0 r.ran.0 _ _ _ _ e.ran.1.0 r.ran.1.0),
        λ tells. whole_made c.args.node e.ran.0 r.ran.0 (contents (g.D.Disk.told c.args.disk.now)).now (contents
            (g.D.Disk.told c.prepare.new.disk))
            c.read_blocks.result (ap is_block_size (c.size.ensures.told tells) ∙ sym c.is_block_size.ensures
            ∙ c.if-not-is_block_size.false) (subst (λ x. AreReady c.args.node x (contents (g.D.Disk.told c.prepare.new.disk))) (ap
            (λ t. (contents t).now) (c.in_ok-sync.ensures.told tells))
            (c.in_ok-prepare.ensures.ready tells (synced_disk (g.D.Disk.counts c.sync.new.self).size _ (g.D.Disk.told c.args.disk.now)
            (g.D.Disk.told c.sync.new.self)
            (c.in_ok-sync.ensures.told tells) (c.size.ensures.told tells ∙ c.size.ensures.size ∙ sym c.in_ok-sync.ensures.counts.size))))
            (e.ran.1.1 tells (synced_disk (g.D.Disk.counts c.sync.new.self).size _ (g.D.Disk.told c.args.disk.now)
            (g.D.Disk.told c.sync.new.self)
            (c.in_ok-sync.ensures.told tells) (c.size.ensures.told tells ∙ c.size.ensures.size ∙ sym c.in_ok-sync.ensures.counts.size))
            ∙ ap (λ x. length (calls_to_blocks c.args.node x)) (ap (λ t. (contents t).now) (c.in_ok-sync.ensures.told tells)))
            (r.ran.1.1 tells),
      ),
    )

pub returns-clause-order : goal.returns-clause-order
returns-clause-order g c = λ tells.
    whole_told c.args.node _ _ (g.D.Disk.told c.args.disk.now) (g.D.Disk.told c.sync.new.self) (g.D.Disk.told c.prepare.new.disk)
    (g.D.Disk.told c.read_blocks.new.disk) c.read_blocks.result (ap is_block_size (c.size.ensures.told tells)
    ∙ sym c.is_block_size.ensures ∙ c.if-not-is_block_size.false) (c.in_ok-sync.ensures.told tells)
    (subst (λ x. AllTold (calls_to_blocks c.args.node x) (g.D.Disk.told c.sync.new.self) (g.D.Disk.told c.prepare.new.disk)) (ap (λ t.
    (contents t).now) (c.in_ok-sync.ensures.told tells))
    (c.in_ok-prepare.ensures.order tells (synced_disk (g.D.Disk.counts c.sync.new.self).size _ (g.D.Disk.told c.args.disk.now)
    (g.D.Disk.told c.sync.new.self)
    (c.in_ok-sync.ensures.told tells) (c.size.ensures.told tells ∙ c.size.ensures.size ∙ sym c.in_ok-sync.ensures.counts.size)))) (subst
    (λ x. AreReady c.args.node x (contents (g.D.Disk.told c.prepare.new.disk))) (ap (λ t. (contents t).now)
    (c.in_ok-sync.ensures.told tells))
    (c.in_ok-prepare.ensures.ready tells (synced_disk (g.D.Disk.counts c.sync.new.self).size _ (g.D.Disk.told c.args.disk.now)
    (g.D.Disk.told c.sync.new.self)
    (c.in_ok-sync.ensures.told tells) (c.size.ensures.told tells ∙ c.size.ensures.size ∙ sym c.in_ok-sync.ensures.counts.size))))
    (c.read_blocks.ensures.told tells)

pub returns-clause-obeyed : goal.returns-clause-obeyed
returns-clause-obeyed g c =
    let s = c.in_ok-sync.ensures in
    let e = c.in_ok-prepare.ensures in
    let r = c.read_blocks.ensures in
    λ so. obeyed_more 1 (e.ran.0 + r.ran.0) _ _ _ _ _ _ _ (calls_one _ _ _ s.counts)
    (calls_more e.ran.0 r.ran.0 _ _ _ _ e.ran.1.0 r.ran.1.0)
    (obeyed_one _ _ _ _ _ s.counts (s.obeys so)) (obeyed_more e.ran.0 r.ran.0 _ _ _ _ _ _ _ e.ran.1.0 r.ran.1.0 (e.obeyed so) (r.obeyed so))

pub returns-clause-timed : goal.returns-clause-timed
returns-clause-timed g c = λ tells.
    let s = c.in_ok-sync.ensures in
    timed_join _ _ _ _ _ _
    (timed_sync (g.D.Disk.counts c.args.disk.now) (g.D.Disk.counts c.sync.new.self) (g.D.Disk.told c.args.disk.now)
    (g.D.Disk.told c.sync.new.self) Fine s.counts.clock (s.spent tells) (s.told tells))
    (timed_join _ _ _ _ _ _ (c.in_ok-prepare.ensures.timed tells) (c.read_blocks.ensures.timed tells))

pub returns-clause-held : goal.returns-clause-held
returns-clause-held g c =
    let size : (g.D.Disk.counts c.prepare.new.disk).size ≡ (g.D.Disk.counts c.args.disk.now).size =
    c.in_ok-prepare.ensures.ran.1.0.size ∙ c.in_ok-sync.ensures.counts.size in
    subst (λ n. IfOk c.read_blocks.result (λ t. IsHeld n (g.D.Disk.counts c.read_blocks.new.disk) t None)) size c.read_blocks.ensures.held

pub returns-clause-table : goal.returns-clause-table
returns-clause-table g c = λ tells.
    table_read c.args.node _ (g.D.Disk.told c.prepare.new.disk) (g.D.Disk.told c.read_blocks.new.disk) c.read_blocks.result
    (c.read_blocks.ensures.table tells (subst (λ x. AreReady c.args.node x (contents (g.D.Disk.told c.prepare.new.disk))) (ap (λ t.
    (contents t).now) (c.in_ok-sync.ensures.told tells))
    (c.in_ok-prepare.ensures.ready tells (synced_disk (g.D.Disk.counts c.sync.new.self).size _ (g.D.Disk.told c.args.disk.now)
    (g.D.Disk.told c.sync.new.self)
    (c.in_ok-sync.ensures.told tells) (c.size.ensures.told tells ∙ c.size.ensures.size
    ∙ sym c.in_ok-sync.ensures.counts.size)))).prepared.format) (c.read_blocks.ensures.told tells)

pub returns-clause-ready : goal.returns-clause-ready
returns-clause-ready g c = λ tells.
    ready_read c.args.node _ (contents (g.D.Disk.told c.args.disk.now)).now (g.D.Disk.told c.prepare.new.disk)
    (g.D.Disk.told c.read_blocks.new.disk) c.read_blocks.result (subst (λ x. AreReady c.args.node x (contents
    (g.D.Disk.told c.prepare.new.disk))) (ap (λ t. (contents t).now) (c.in_ok-sync.ensures.told tells))
    (c.in_ok-prepare.ensures.ready tells (synced_disk (g.D.Disk.counts c.sync.new.self).size _ (g.D.Disk.told c.args.disk.now)
    (g.D.Disk.told c.sync.new.self)
    (c.in_ok-sync.ensures.told tells) (c.size.ensures.told tells ∙ c.size.ensures.size ∙ sym c.in_ok-sync.ensures.counts.size))))
    (c.read_blocks.ensures.told tells)

pub returns-clause-damaged : goal.returns-clause-damaged
returns-clause-damaged g c = λ tells.
    damaged_read c.args.node (contents (g.D.Disk.told c.args.disk.now)).now (contents
    (g.D.Disk.told c.prepare.new.disk)) c.read_blocks.result
    (ap is_block_size (c.size.ensures.told tells) ∙ sym c.is_block_size.ensures ∙ c.if-not-is_block_size.false) (subst
    (λ x. AreReady c.args.node x (contents (g.D.Disk.told c.prepare.new.disk))) (ap (λ t. (contents t).now)
    (c.in_ok-sync.ensures.told tells))
    (c.in_ok-prepare.ensures.ready tells (synced_disk (g.D.Disk.counts c.sync.new.self).size _ (g.D.Disk.told c.args.disk.now)
    (g.D.Disk.told c.sync.new.self)
    (c.in_ok-sync.ensures.told tells) (c.size.ensures.told tells ∙ c.size.ensures.size ∙ sym c.in_ok-sync.ensures.counts.size))))
    (c.read_blocks.ensures.damaged tells)

pub returns-clause-full : goal.returns-clause-full
returns-clause-full g c = λ tells.
    full_read c.args.node (contents (g.D.Disk.told c.args.disk.now)).now (contents (g.D.Disk.told c.prepare.new.disk)) c.read_blocks.result
    (ap is_block_size (c.size.ensures.told tells) ∙ sym c.is_block_size.ensures ∙ c.if-not-is_block_size.false) (subst
    (λ x. AreReady c.args.node x (contents (g.D.Disk.told c.prepare.new.disk))) (ap (λ t. (contents t).now)
    (c.in_ok-sync.ensures.told tells))
    (c.in_ok-prepare.ensures.ready tells (synced_disk (g.D.Disk.counts c.sync.new.self).size _ (g.D.Disk.told c.args.disk.now)
    (g.D.Disk.told c.sync.new.self)
    (c.in_ok-sync.ensures.told tells) (c.size.ensures.told tells ∙ c.size.ensures.size
    ∙ sym c.in_ok-sync.ensures.counts.size)))) c.read_blocks.ensures.never_full

pub returns-clause-keeps : goal.returns-clause-keeps
returns-clause-keeps g c = λ tells.
    keeps_join c.args.node _ _ _ (keeps_sync c.args.node _ _ _ Fine (c.in_ok-sync.ensures.told tells))
    (keeps_join c.args.node _ _ _ (c.in_ok-prepare.ensures.keeps tells (synced_disk (g.D.Disk.counts c.sync.new.self).size _
    (g.D.Disk.told c.args.disk.now) (g.D.Disk.told c.sync.new.self)
    (c.in_ok-sync.ensures.told tells) (c.size.ensures.told tells ∙ c.size.ensures.size ∙ sym c.in_ok-sync.ensures.counts.size)))
    (keeps_read c.args.node _ _ _ _ (c.read_blocks.ensures.told tells)))

-- the size is allowed there
allowed_there : (size n : ℕ) (b : Bool) → n ≡ size → b ≡ is_block_size n → b ≡ true → is_block_size size ≡ false → ⊥
allowed_there size n b same is on not_allowed =
    both_ways (is_block_size size) not_allowed (ap is_block_size (sym same) ∙ sym is ∙ on)

pub returns-in_err-sync-clause-small : goal.returns-in_err-sync-clause-small
returns-in_err-sync-clause-small g c = λ not_allowed. absurd (allowed_there _ _ _ c.size.ensures.size c.is_block_size.ensures
    c.if-not-is_block_size.false not_allowed)

pub returns-in_err-prepare-clause-small : goal.returns-in_err-prepare-clause-small
returns-in_err-prepare-clause-small g c = λ not_allowed. absurd (allowed_there _ _ _ c.size.ensures.size c.is_block_size.ensures
    c.if-not-is_block_size.false not_allowed)

pub returns-clause-small : goal.returns-clause-small
returns-clause-small g c = λ not_allowed. absurd (allowed_there _ _ _ c.size.ensures.size c.is_block_size.ensures
    c.if-not-is_block_size.false not_allowed)
