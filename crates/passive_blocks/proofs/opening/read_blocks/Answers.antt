use Rattle.std.proofs.Common.{◌+◌, ◌/◌, length, sym, ap, subst, ◌∙◌, arith, Err}
use Rattle.std.proofs.lemmas.Result.{err_from_is_err_and}
use Rattle.eden_disk.specs.Told.{contents}
use Rattle.eden_disk.specs.Calls.{ReadTold, Fine}
use Rattle.eden_disk.proofs.Held.{calls_more, obeyed_more}
use Rattle.eden_disk.proofs.Timed.{timed_join}
use Rattle.passive_store.specs.Kept.{OpeningMade, end_of_store}
use Rattle.block_tables.specs.declared.head_table.HeadTable.{HeadTable}
use Rattle.passive_store.proofs.Joining.{counts_alike, obeyed_alike, end_alike}
use Rattle.block_tables.specs.declared.table.Table.{Table}
use Rattle.block_tables.specs.Blocks.{chains_of, taken_by, kept_in_blocks}
use Rattle.block_tables.specs.HeadState.{AreHeads, heads_in}
use Rattle.block_tables.specs.Members.{is_member}
use Rattle.passive_blocks.proofs.OpeningFinal.{held_opened}
use Rattle.passive_blocks.proofs.OpeningBlocks.{made_heads, made_all, made_both, table_opened, chains_damaged}
use Rattle.passive_blocks.proofs.opening.read_blocks.Goals as goal

pub read_chains-requires-clause-size : goal.read_chains-requires-clause-size
read_chains-requires-clause-size g c = c.in_ok-table.ensures.size ∙ sym c.in_ok-table.ensures.ran.1.0.size

pub close_lone_removals-requires : goal.close_lone_removals-requires
close_lone_removals-requires g c = subst AreHeads (sym c.in_ok-read_chains.ensures.heads) c.in_ok-table.ensures.counted.table.heads

pub returns-in_err-table-clause-ran : goal.returns-in_err-table-clause-ran
returns-in_err-table-clause-ran g c =
    let p = err_from_is_err_and c.from_residual.result c.from_residual.ensures.1 in
    let e = c.in_err-table.ensures in
    rw (p.1, p.2) (e.ran.0, (e.ran.1.0, λ tells. made_heads Table Table _ _ _ e.ran.0 _ (e.ran.1.1 tells) (e.damaged tells) e.never_full))

pub returns-in_err-table-clause-damaged : goal.returns-in_err-table-clause-damaged
returns-in_err-table-clause-damaged g c =
    let p = err_from_is_err_and c.from_residual.result c.from_residual.ensures.1 in
    rw (p.1, p.2) (λ tells place is. ap (kept_in_blocks (contents (g.D.Disk.told c.args.disk.now)).now)
    (c.in_err-table.ensures.damaged tells place is))

pub returns-in_err-read_chains-clause-ran : goal.returns-in_err-read_chains-clause-ran
returns-in_err-read_chains-clause-ran g c =
    let p = err_from_is_err_and c.from_residual-in_err-read_chains.result c.from_residual-in_err-read_chains.ensures.1 in
    let h = c.in_ok-table.ensures in
    let e = c.in_err-read_chains.ensures in
    rw (p.1, p.2) (
      h.ran.0 + e.ran.0,
      (
        calls_more h.ran.0 e.ran.0 _ _ _ _ h.ran.1.0 (counts_alike (Unit {0}) Table _ e.ran.0 _ _ e.ran.1.0),
        λ tells. made_both (Unit {0}) Table (contents (g.D.Disk.told c.args.disk.now)).now _
            (heads_in c.in_ok-table.table.heads.slots.items)
            ((g.D.Disk.counts c.args.disk.now).size / 1024) h.ran.0 e.ran.0 _ (h.heads tells) (omega (arith, h.long tells, h.size))
            (h.ran.1.1 tells) e.never_full
            (subst (λ t. OpeningMade {S = Unit {0}} (length (taken_by (chains_of (contents t).now
            (heads_in c.in_ok-table.table.heads.slots.items))))
            (Err c.in_err-read_chains.field-0.0) e.ran.0) (h.told tells) (e.ran.1.1 tells)),
      ),
    )

pub returns-in_err-read_chains-clause-obeyed : goal.returns-in_err-read_chains-clause-obeyed
returns-in_err-read_chains-clause-obeyed g c =
    let p = err_from_is_err_and c.from_residual-in_err-read_chains.result c.from_residual-in_err-read_chains.ensures.1 in
    let h = c.in_ok-table.ensures in
    let e = c.in_err-read_chains.ensures in
    rw (p.1, p.2) (λ so. obeyed_more h.ran.0 e.ran.0 _ _ _ _ _ _ _ h.ran.1.0 (counts_alike (Unit {0}) Table _ e.ran.0 _ _ e.ran.1.0)
    (h.obeyed so)
    (obeyed_alike (Unit {0}) Table _ _ _ _ _ (e.obeyed so)))

pub returns-in_err-read_chains-clause-timed : goal.returns-in_err-read_chains-clause-timed
returns-in_err-read_chains-clause-timed g c = λ tells.
    timed_join _ _ _ _ _ _ (c.in_ok-table.ensures.timed tells) (c.in_err-read_chains.ensures.timed tells)

pub returns-in_err-read_chains-clause-told : goal.returns-in_err-read_chains-clause-told
returns-in_err-read_chains-clause-told g c =
    let p = err_from_is_err_and c.from_residual-in_err-read_chains.result c.from_residual-in_err-read_chains.ensures.1 in
    rw (p.1, p.2) (λ tells. subst (ReadTold (g.D.Disk.counts c.read_chains.new.disk).clock (g.D.Disk.told c.args.disk.now)
    (g.D.Disk.told c.read_chains.new.disk)) (end_alike (Unit {0}) Table c.in_err-read_chains.field-0.0)
    (subst (λ t. ReadTold (g.D.Disk.counts c.read_chains.new.disk).clock t (g.D.Disk.told c.read_chains.new.disk)
    (end_of_store {T = Unit {0}} (Err c.in_err-read_chains.field-0.0))) (c.in_ok-table.ensures.told tells)
    (c.in_err-read_chains.ensures.told tells)))

pub returns-in_err-read_chains-clause-damaged : goal.returns-in_err-read_chains-clause-damaged
returns-in_err-read_chains-clause-damaged g c =
    let p = err_from_is_err_and c.from_residual-in_err-read_chains.result c.from_residual-in_err-read_chains.ensures.1 in
    let h = c.in_ok-table.ensures in
    rw (p.1, p.2) (λ tells place is.
    chains_damaged c.args.node place (g.D.Disk.told c.args.disk.now) (g.D.Disk.told c.read_heads.new.disk)
    (heads_in c.in_ok-table.table.heads.slots.items) (h.told tells) (h.heads tells) (c.in_err-read_chains.ensures.damaged tells place is))

pub returns-clause-ran : goal.returns-clause-ran
returns-clause-ran g c =
    let h = c.in_ok-table.ensures in
    let e = c.in_ok-read_chains.ensures in (
      h.ran.0 + e.ran.0,
      (
        calls_more h.ran.0 e.ran.0 _ _ _ Fine h.ran.1.0 e.ran.1.0,
        λ tells. made_all (contents (g.D.Disk.told c.args.disk.now)).now _ (heads_in c.in_ok-table.table.heads.slots.items)
            ((g.D.Disk.counts c.args.disk.now).size / 1024) h.ran.0 e.ran.0 (h.heads tells) (omega (arith, h.long tells, h.size))
            (h.ran.1.1 tells)
            (e.ran.1.1 tells ∙ ap (λ t. length (taken_by (chains_of (contents t).now (heads_in c.in_ok-table.table.heads.slots.items))))
            (h.told tells)),
      ),
    )

pub returns-clause-timed : goal.returns-clause-timed
returns-clause-timed g c = λ tells.
    timed_join _ _ _ _ _ _ (c.in_ok-table.ensures.timed tells) (c.in_ok-read_chains.ensures.timed tells)

pub returns-clause-held : goal.returns-clause-held
returns-clause-held g c =
    let h = c.in_ok-table.ensures in
    let e = c.in_ok-read_chains.ensures in
    let l = c.close_lone_removals.ensures in
    held_opened (g.D.Disk.counts c.args.disk.now).size (g.D.Disk.counts c.read_chains.new.disk) c.in_ok-table.table c.read_chains.new.table
    c.close_lone_removals.new.self h.counted e.heads h.size (e.size ∙ h.size) (e.ran.1.0.size ∙ h.ran.1.0.size) e.linked l.heads l.closing
    l.lone l.index l.slots

pub returns-clause-lone : goal.returns-clause-lone
returns-clause-lone g c = λ k.
    ap (λ x. is_member x k) (c.close_lone_removals.ensures.lone ∙ ap (λ (x : HeadTable). x.lone) c.in_ok-read_chains.ensures.heads)
    ∙ c.in_ok-table.ensures.counted.lone k

pub returns-clause-table : goal.returns-clause-table
returns-clause-table g c = λ tells format.
    let h = c.in_ok-table.ensures in
    let e = c.in_ok-read_chains.ensures in
    table_opened c.args.node (contents (g.D.Disk.told c.args.disk.now)).now c.in_ok-table.table c.read_chains.new.table
    c.close_lone_removals.new.self e.heads c.close_lone_removals.ensures.slots format (h.long tells ∙ sym e.size) (h.heads tells)
    (sym (ap (λ t. chains_of (contents t).now (heads_in c.in_ok-table.table.heads.slots.items)) (h.told tells)) ∙ e.chains tells)
