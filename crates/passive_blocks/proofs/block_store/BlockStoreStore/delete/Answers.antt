use Rattle.std.proofs.Common.{IsTrue, length, None, Ok, Err, refl, sym, ap, subst, ◌∙◌, inl}
use Rattle.std.proofs.lemmas.Result.{err_from_is_err_and}
use Rattle.passive_store.specs.declared.store.StoreRefusal.TheVariants.{Full, OutOfMemory}
use Rattle.passive_store.specs.Kept.{IsOwn, is_busy}
use Rattle.passive_store.specs.Seen.{DiskSeen, Seen, Asked, Begins, Deletes, asked}
use Rattle.block_tables.specs.declared.table.Table.{Table}
use Rattle.passive_blocks.specs.BlockLayout.{block_layout}
use Rattle.passive_blocks.specs.StoreState.{block_seen}
use Rattle.passive_blocks.proofs.StoreEntry.{entry_store, entry_seen, waiting_seen}
use Rattle.passive_blocks.proofs.StoreTells.{memory_deletes}
use Rattle.passive_blocks.proofs.StorePuts.{Settling, settling_entry, settling_idle, settling_own}
use Rattle.passive_blocks.proofs.StorePuts.{begun_power, begun_busy, begun_some}
use Rattle.passive_blocks.proofs.StorePuts.{delete_done, delete_refused, delete_full, delete_nothing}
use Rattle.passive_blocks.proofs.block_store.BlockStoreStore.delete.Goals as goal

pub returns-in_err-make_entry : goal.returns-in_err-make_entry
returns-in_err-make_entry g c =
    let s = c.self.inside in
    let d : DiskSeen = record { counts = g.D.Disk.counts s.disk; told = g.D.Disk.told s.disk; due = g.D.Disk.due s.disk } in
    let new : Table = c.make_entry.new.self in
    let e = c.make_entry.ensures in
    let ask : Asked = asked c.args.uid None in
    let power : IsTrue d.counts.power = subst (λ v. IsTrue (g.D.Disk.counts v.device).power) (sym c.self.view_is) c.requires.power in
    let p = err_from_is_err_and c.from_residual.result c.from_residual.ensures.1 in
    rw (p.1, p.2, ← c.self.view_is)
    (subst (λ o. Deletes g.D.Disk.tells g.D.Disk.obeys block_layout ask (Err OutOfMemory) o
    (waiting_seen s.node s.more d new s.pending None))
    (entry_seen s.node s.more d s.table new s.pending s.picked e.slots e.closing e.lone e.blocks)
    (memory_deletes g.D.Disk.tells g.D.Disk.obeys s.node s.size s.more d new s.pending s.picked ask
    (entry_store g.D.Disk.tells s.node s.size s.more d.counts d.told s.table new s.pending c.self.invariant e.table e.slots e.entries e.keys
    e.closing e.lone e.blocks) power))

pub invariant_of-self : goal.invariant_of-self
invariant_of-self g c =
    let s = c.self.inside in
    let e = c.make_entry.ensures in
    entry_store g.D.Disk.tells s.node s.size s.more (g.D.Disk.counts s.disk) (g.D.Disk.told s.disk) s.table c.make_entry.new.self s.pending
    c.self.invariant e.table e.slots e.entries e.keys e.closing e.lone e.blocks

pub invariant_of-self-2 : goal.invariant_of-self-2
invariant_of-self-2 g c =
    let s = c.self.inside in
    let e = c.make_entry.ensures in
    entry_store g.D.Disk.tells s.node s.size s.more (g.D.Disk.counts s.disk) (g.D.Disk.told s.disk) s.table c.make_entry.new.self s.pending
    c.self.invariant e.table e.slots e.entries e.keys e.closing e.lone e.blocks

pub returns-in_err-settle_blocks : goal.returns-in_err-settle_blocks
returns-in_err-settle_blocks g c =
    let s = c.self.inside in
    let d : DiskSeen = record { counts = g.D.Disk.counts s.disk; told = g.D.Disk.told s.disk; due = g.D.Disk.due s.disk } in
    let new : Table = c.make_entry.new.self in
    let e = c.make_entry.ensures in
    let mid : Seen = block_seen g.D.Disk.counts g.D.Disk.told g.D.Disk.due c.settle_blocks.new.self in
    let ask : Asked = asked c.args.uid None in
    let p = err_from_is_err_and c.from_residual-in_err-settle_blocks.result c.from_residual-in_err-settle_blocks.ensures.1 in
    let k : Settling g.D.Disk.tells g.D.Disk.obeys (Err c.in_err-settle_blocks.field-0.0) s.node s.size s.more d new s.pending mid =
    settling_entry g.D.Disk.tells g.D.Disk.obeys (Err c.in_err-settle_blocks.field-0.0) s.node s.size s.more d s.table new s.pending mid
    c.self.invariant e.table e.slots e.entries e.keys e.closing e.lone e.blocks
    (ap (λ v. is_busy v.work) c.self.view_is ∙ c.requires.idle) c.in_err-settle_blocks.ensures.settled in
    rw (p.1, p.2, ← c.self.view_is)
    (subst (λ o. Deletes g.D.Disk.tells g.D.Disk.obeys block_layout ask (Err c.in_err-settle_blocks.field-0.0) o mid)
    (entry_seen s.node s.more d s.table new s.pending s.picked e.slots e.closing e.lone e.blocks)
    (delete_refused g.D.Disk.tells g.D.Disk.obeys s.node s.size s.more d new s.pending s.picked c.args.uid
    c.in_err-settle_blocks.field-0.0 mid k))

pub returns-in_err-start : goal.returns-in_err-start
returns-in_err-start g c =
    let s = c.self.inside in
    let d : DiskSeen = record { counts = g.D.Disk.counts s.disk; told = g.D.Disk.told s.disk; due = g.D.Disk.due s.disk } in
    let new : Table = c.make_entry.new.self in
    let e = c.make_entry.ensures in
    let mid : Seen = block_seen g.D.Disk.counts g.D.Disk.told g.D.Disk.due c.settle_blocks.new.self in
    let last : Seen = block_seen g.D.Disk.counts g.D.Disk.told g.D.Disk.due c.start.new.self in
    let ask : Asked = asked c.args.uid None in
    let p = err_from_is_err_and c.from_residual-in_err-start.result c.from_residual-in_err-start.ensures.1 in
    let k : Settling g.D.Disk.tells g.D.Disk.obeys (Ok tt) s.node s.size s.more d new s.pending mid =
    settling_entry g.D.Disk.tells g.D.Disk.obeys (Ok tt) s.node s.size s.more d s.table new s.pending mid
    c.self.invariant e.table e.slots e.entries e.keys e.closing e.lone e.blocks
    (ap (λ v. is_busy v.work) c.self.view_is ∙ c.requires.idle) c.in_ok-settle_blocks.ensures.settled in
    rw (p.1, p.2, c.in_err-start.ensures.only, ← c.self.view_is)
    (subst (λ o. Deletes g.D.Disk.tells g.D.Disk.obeys block_layout ask (Err Full) o last)
    (entry_seen s.node s.more d s.table new s.pending s.picked e.slots e.closing e.lone e.blocks)
    (delete_full g.D.Disk.tells g.D.Disk.obeys s.node s.size s.more d new s.pending s.picked c.args.uid mid last k
    (λ so. sym (c.is_kept.ensures so) ∙ c.if-not-is_kept.false) refl
    (subst (λ x. Begins g.D.Disk.tells block_layout ask (Err x) mid last) c.in_err-start.ensures.only c.in_err-start.ensures.begins)))

pub returns : goal.returns
returns g c =
    let s = c.self.inside in
    let d : DiskSeen = record { counts = g.D.Disk.counts s.disk; told = g.D.Disk.told s.disk; due = g.D.Disk.due s.disk } in
    let new : Table = c.make_entry.new.self in
    let e = c.make_entry.ensures in
    let mid : Seen = block_seen g.D.Disk.counts g.D.Disk.told g.D.Disk.due c.settle_blocks.new.self in
    let began : Seen = block_seen g.D.Disk.counts g.D.Disk.told g.D.Disk.due c.start.new.self in
    let last : Seen = block_seen g.D.Disk.counts g.D.Disk.told g.D.Disk.due c.finish_job.new.self in
    let ask : Asked = asked c.args.uid None in
    let k : Settling g.D.Disk.tells g.D.Disk.obeys (Ok tt) s.node s.size s.more d new s.pending mid =
    settling_entry g.D.Disk.tells g.D.Disk.obeys (Ok tt) s.node s.size s.more d s.table new s.pending mid
    c.self.invariant e.table e.slots e.entries e.keys e.closing e.lone e.blocks
    (ap (λ v. is_busy v.work) c.self.view_is ∙ c.requires.idle) c.in_ok-settle_blocks.ensures.settled in
    rw (← c.self.view_is)
    (subst (λ o. Deletes g.D.Disk.tells g.D.Disk.obeys block_layout ask c.finish_job.result o last)
    (entry_seen s.node s.more d s.table new s.pending s.picked e.slots e.closing e.lone e.blocks)
    (delete_done g.D.Disk.tells g.D.Disk.obeys s.node s.size s.more d new s.pending s.picked c.args.uid c.finish_job.result mid began last k
    (λ so. sym (c.is_kept.ensures so) ∙ c.if-not-is_kept.false) c.in_ok-start.ensures.fewer refl
    c.in_ok-start.ensures.begins c.finish_job.ensures))

pub returns-then-not-is_kept : goal.returns-then-not-is_kept
returns-then-not-is_kept g c =
    let s = c.self.inside in
    let d : DiskSeen = record { counts = g.D.Disk.counts s.disk; told = g.D.Disk.told s.disk; due = g.D.Disk.due s.disk } in
    let new : Table = c.make_entry.new.self in
    let e = c.make_entry.ensures in
    let mid : Seen = block_seen g.D.Disk.counts g.D.Disk.told g.D.Disk.due c.settle_blocks.new.self in
    let ask : Asked = asked c.args.uid None in
    let k : Settling g.D.Disk.tells g.D.Disk.obeys (Ok tt) s.node s.size s.more d new s.pending mid =
    settling_entry g.D.Disk.tells g.D.Disk.obeys (Ok tt) s.node s.size s.more d s.table new s.pending mid
    c.self.invariant e.table e.slots e.entries e.keys e.closing e.lone e.blocks
    (ap (λ v. is_busy v.work) c.self.view_is ∙ c.requires.idle) c.in_ok-settle_blocks.ensures.settled in
    rw (← c.self.view_is)
    (subst (λ o. Deletes g.D.Disk.tells g.D.Disk.obeys block_layout ask (Ok tt) o mid)
    (entry_seen s.node s.more d s.table new s.pending s.picked e.slots e.closing e.lone e.blocks)
    (delete_nothing g.D.Disk.tells g.D.Disk.obeys s.node s.size s.more d new s.pending s.picked c.args.uid mid c.is_kept.result k
    c.is_kept.ensures c.if-not-is_kept.true))

pub start-requires-clause-idle : goal.start-requires-clause-idle
start-requires-clause-idle g c =
    let s = c.self.inside in
    let d : DiskSeen = record { counts = g.D.Disk.counts s.disk; told = g.D.Disk.told s.disk; due = g.D.Disk.due s.disk } in
    let new : Table = c.make_entry.new.self in
    let e = c.make_entry.ensures in
    let mid : Seen = block_seen g.D.Disk.counts g.D.Disk.told g.D.Disk.due c.settle_blocks.new.self in
    let k : Settling g.D.Disk.tells g.D.Disk.obeys (Ok tt) s.node s.size s.more d new s.pending mid =
    settling_entry g.D.Disk.tells g.D.Disk.obeys (Ok tt) s.node s.size s.more d s.table new s.pending mid
    c.self.invariant e.table e.slots e.entries e.keys e.closing e.lone e.blocks
    (ap (λ v. is_busy v.work) c.self.view_is ∙ c.requires.idle) c.in_ok-settle_blocks.ensures.settled in
    settling_idle g.D.Disk.tells g.D.Disk.obeys s.node s.size s.more d new s.pending mid k

pub start-requires-clause-entry : goal.start-requires-clause-entry
start-requires-clause-entry g c = c.in_ok-settle_blocks.ensures.entries c.args.uid c.in_ok-make_entry.ensures.entry

pub start-requires-clause-own : goal.start-requires-clause-own
start-requires-clause-own g c =
    let s = c.self.inside in
    let d : DiskSeen = record { counts = g.D.Disk.counts s.disk; told = g.D.Disk.told s.disk; due = g.D.Disk.due s.disk } in
    let new : Table = c.make_entry.new.self in
    let e = c.make_entry.ensures in
    let mid : Seen = block_seen g.D.Disk.counts g.D.Disk.told g.D.Disk.due c.settle_blocks.new.self in
    let k : Settling g.D.Disk.tells g.D.Disk.obeys (Ok tt) s.node s.size s.more d new s.pending mid =
    settling_entry g.D.Disk.tells g.D.Disk.obeys (Ok tt) s.node s.size s.more d s.table new s.pending mid
    c.self.invariant e.table e.slots e.entries e.keys e.closing e.lone e.blocks
    (ap (λ v. is_busy v.work) c.self.view_is ∙ c.requires.idle) c.in_ok-settle_blocks.ensures.settled in
    settling_own g.D.Disk.tells g.D.Disk.obeys s.node s.size s.more d new s.pending mid c.args.uid
    (length c.new.result.items) k
    (subst (λ v. IsOwn v.node c.args.uid (length c.new.result.items)) (sym c.self.view_is)
    (c.requires.eject.0, inl (c.requires.eject.1, c.requires.eject.2)))

pub start-requires-clause-kept : goal.start-requires-clause-kept
start-requires-clause-kept g c = λ gone so. sym (c.is_kept.ensures so) ∙ c.if-not-is_kept.false

pub finish_job-requires-clause-power : goal.finish_job-requires-clause-power
finish_job-requires-clause-power g c =
    let s = c.self.inside in
    let d : DiskSeen = record { counts = g.D.Disk.counts s.disk; told = g.D.Disk.told s.disk; due = g.D.Disk.due s.disk } in
    let new : Table = c.make_entry.new.self in
    let e = c.make_entry.ensures in
    let mid : Seen = block_seen g.D.Disk.counts g.D.Disk.told g.D.Disk.due c.settle_blocks.new.self in
    let began : Seen = block_seen g.D.Disk.counts g.D.Disk.told g.D.Disk.due c.start.new.self in
    let k : Settling g.D.Disk.tells g.D.Disk.obeys (Ok tt) s.node s.size s.more d new s.pending mid =
    settling_entry g.D.Disk.tells g.D.Disk.obeys (Ok tt) s.node s.size s.more d s.table new s.pending mid
    c.self.invariant e.table e.slots e.entries e.keys e.closing e.lone e.blocks
    (ap (λ v. is_busy v.work) c.self.view_is ∙ c.requires.idle) c.in_ok-settle_blocks.ensures.settled in
    begun_power g.D.Disk.tells g.D.Disk.obeys s.node s.size s.more d new s.pending mid began (asked c.args.uid None) k
    c.in_ok-start.ensures.begins

pub finish_job-requires-clause-busy : goal.finish_job-requires-clause-busy
finish_job-requires-clause-busy g c =
    begun_busy g.D.Disk.tells (block_seen g.D.Disk.counts g.D.Disk.told g.D.Disk.due c.settle_blocks.new.self)
    (block_seen g.D.Disk.counts g.D.Disk.told g.D.Disk.due c.start.new.self) (asked c.args.uid None)
    c.in_ok-start.ensures.begins

pub finish_job-requires-clause-some : goal.finish_job-requires-clause-some
finish_job-requires-clause-some g c =
    begun_some g.D.Disk.tells (block_seen g.D.Disk.counts g.D.Disk.told g.D.Disk.due c.settle_blocks.new.self)
    (block_seen g.D.Disk.counts g.D.Disk.told g.D.Disk.due c.start.new.self) (asked c.args.uid None)
    c.in_ok-start.ensures.begins
