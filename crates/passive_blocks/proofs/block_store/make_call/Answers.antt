use Rattle.std.proofs.Common.{rules, ◌∷◌, [], sym, subst, Err, Some}
use Rattle.eden_disk.specs.Calls.{Fine, end_of}
use Rattle.eden_disk.proofs.Timed.{timed_sync}
use Rattle.passive_store.specs.Acts.{CallTold, Write}
use Rattle.passive_blocks.specs.declared.block_store.Stage.{Stage}
use Rattle.block_tables.specs.Blocks.{head_place}
use Rattle.passive_blocks.specs.StageState.{stage_call, IsNext, IsClosedBy}
use Rattle.passive_blocks.proofs.StageFirst.{first_is}
use Rattle.passive_blocks.proofs.block_store.make_call.Goals as goal

pub returns-in_err-close_next-in-Close-clause-told : goal.returns-in_err-close_next-in-Close-clause-told
returns-in_err-close_next-in-Close-clause-told g c = λ tells.
    let t0 = g.D.Disk.told c.args.disk.now in
    let t1 = g.D.Disk.told c.close_next.new.disk in
    let k1 = g.D.Disk.counts c.close_next.new.disk in
    let first = first_is c.args.table.now c.in-Some.number c.in-Some.ensures in
    let h : CallTold (stage_call c.args.table.now c.args.pending.now c.args.pending.now.stage) k1.clock t0 t1
    (end_of {T = Stage} (Err c.in_err-close_next-in-Close.field-0.0)) =
    subst (λ s. CallTold (stage_call c.args.table.now c.args.pending.now s) k1.clock t0 t1
    (end_of {T = Stage} (Err c.in_err-close_next-in-Close.field-0.0))) (sym c.in-Close.is)
    (subst (λ n. CallTold (Write (head_place n) (0 ∷ [])) k1.clock t0 t1 (end_of {T = Stage} (Err c.in_err-close_next-in-Close.field-0.0)))
    first
    (c.in_err-close_next-in-Close.ensures.told tells)) in
    search rules

pub returns-in_ok-close_next-in-Close-clause-told : goal.returns-in_ok-close_next-in-Close-clause-told
returns-in_ok-close_next-in-Close-clause-told g c = λ tells.
    let t0 = g.D.Disk.told c.args.disk.now in
    let t1 = g.D.Disk.told c.close_next.new.disk in
    let k1 = g.D.Disk.counts c.close_next.new.disk in
    let first = first_is c.args.table.now c.in-Some.number c.in-Some.ensures in
    subst (λ s. CallTold (stage_call c.args.table.now c.args.pending.now s) k1.clock t0 t1 Fine) (sym c.in-Close.is)
    (subst (λ n. CallTold (Write (head_place n) (0 ∷ [])) k1.clock t0 t1 Fine) first (c.in_ok-close_next-in-Close.ensures.told tells))

pub returns-in_ok-close_next-in-Close-clause-next : goal.returns-in_ok-close_next-in-Close-clause-next
returns-in_ok-close_next-in-Close-clause-next g c =
    let first = first_is c.args.table.now c.in-Some.number c.in-Some.ensures in
    subst (λ s. IsNext c.args.table.now c.close_next.new.table c.args.pending.now s (Some c.in_ok-close_next-in-Close.field-0))
    (sym c.in-Close.is) (
      subst (IsClosedBy c.args.table.now c.close_next.new.table) first c.in_ok-close_next-in-Close.ensures.closed,
      c.in_ok-close_next-in-Close.ensures.stage,
    )

pub returns-in_err-sync-in-SyncHead-clause-timed : goal.returns-in_err-sync-in-SyncHead-clause-timed
returns-in_err-sync-in-SyncHead-clause-timed g c = λ tells. timed_sync (g.D.Disk.counts c.args.disk.now) (g.D.Disk.counts c.sync.new.self)
    (g.D.Disk.told c.args.disk.now) (g.D.Disk.told c.sync.new.self) _ c.sync.ensures.counts.clock (c.sync.ensures.spent tells)
    (c.sync.ensures.told tells)

pub returns-in_ok-sync-in-SyncHead-clause-timed : goal.returns-in_ok-sync-in-SyncHead-clause-timed
returns-in_ok-sync-in-SyncHead-clause-timed g c = λ tells. timed_sync (g.D.Disk.counts c.args.disk.now) (g.D.Disk.counts c.sync.new.self)
    (g.D.Disk.told c.args.disk.now) (g.D.Disk.told c.sync.new.self) _ c.sync.ensures.counts.clock (c.sync.ensures.spent tells)
    (c.sync.ensures.told tells)

pub returns-in_err-sync-in-SyncOpen-clause-timed : goal.returns-in_err-sync-in-SyncOpen-clause-timed
returns-in_err-sync-in-SyncOpen-clause-timed g c = λ tells. timed_sync (g.D.Disk.counts c.args.disk.now)
    (g.D.Disk.counts c.sync-in-SyncOpen.new.self) (g.D.Disk.told c.args.disk.now) (g.D.Disk.told c.sync-in-SyncOpen.new.self) _
    c.sync-in-SyncOpen.ensures.counts.clock (c.sync-in-SyncOpen.ensures.spent tells) (c.sync-in-SyncOpen.ensures.told tells)

pub returns-in_ok-sync-in-SyncOpen-clause-timed : goal.returns-in_ok-sync-in-SyncOpen-clause-timed
returns-in_ok-sync-in-SyncOpen-clause-timed g c = λ tells. timed_sync (g.D.Disk.counts c.args.disk.now)
    (g.D.Disk.counts c.sync-in-SyncOpen.new.self) (g.D.Disk.told c.args.disk.now) (g.D.Disk.told c.sync-in-SyncOpen.new.self) _
    c.sync-in-SyncOpen.ensures.counts.clock (c.sync-in-SyncOpen.ensures.spent tells) (c.sync-in-SyncOpen.ensures.told tells)
