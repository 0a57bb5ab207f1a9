use Rattle.std.proofs.Common.{◌≡◌, None, Err, refl, ap, subst, ◌∙◌, inr}
use Rattle.std.proofs.lemmas.Result.{err_from_is_err_and}
use Rattle.passive_store.specs.declared.store.StoreRefusal.TheVariants.{OutOfMemory}
use Rattle.passive_store.specs.Seen.{DiskSeen, Begins, asked}
use Rattle.passive_store.proofs.Changing.{memory_is_not_room}
use Rattle.block_tables.specs.declared.table.Table.{Table}
use Rattle.passive_blocks.specs.BlockLayout.{block_layout}
use Rattle.passive_blocks.specs.StoreState.{block_seen, pending_work}
use Rattle.passive_blocks.proofs.StageGoes.{kept_seen}
use Rattle.passive_blocks.proofs.StageBegins.{refused_begins, none_pending}
use Rattle.passive_blocks.proofs.StoreEntry.{entry_store, entry_seen, waiting_seen}
use Rattle.passive_blocks.proofs.block_store.BlockStoreStore.begin_delete.Goals as goal

pub invariant_of-self : goal.invariant_of-self
invariant_of-self g c =
    let s = c.self.inside in
    let d : DiskSeen = record { counts = g.D.Disk.counts s.disk; told = g.D.Disk.told s.disk; due = g.D.Disk.due s.disk } in
    let new : Table = c.make_entry.new.self in
    let e = c.make_entry.ensures in
    entry_store g.D.Disk.tells s.node s.size s.more d.counts d.told s.table new s.pending c.self.invariant e.table e.slots e.entries e.keys
    e.closing e.lone e.blocks

pub invariant_of-self-2 : goal.invariant_of-self-2
invariant_of-self-2 g c =
    let s = c.self.inside in
    let d : DiskSeen = record { counts = g.D.Disk.counts s.disk; told = g.D.Disk.told s.disk; due = g.D.Disk.due s.disk } in
    let new : Table = c.make_entry.new.self in
    let e = c.make_entry.ensures in
    entry_store g.D.Disk.tells s.node s.size s.more d.counts d.told s.table new s.pending c.self.invariant e.table e.slots e.entries e.keys
    e.closing e.lone e.blocks

pub returns-in_err-make_entry : goal.returns-in_err-make_entry
returns-in_err-make_entry g c =
    let s = c.self.inside in
    let d : DiskSeen = record { counts = g.D.Disk.counts s.disk; told = g.D.Disk.told s.disk; due = g.D.Disk.due s.disk } in
    let new : Table = c.make_entry.new.self in
    let idle : s.pending ≡ None = none_pending s.table s.pending (ap (λ v. v.work) c.self.view_is ∙ c.requires.idle) in
    let p = err_from_is_err_and c.from_residual.result c.from_residual.ensures.1 in
    rw (p.1, p.2, ← c.self.view_is)
    (subst (λ o. Begins g.D.Disk.tells block_layout (asked c.args.uid None) (Err OutOfMemory) o
    (waiting_seen s.node s.more d new s.pending s.picked))
    (entry_seen s.node s.more d s.table new s.pending s.picked c.make_entry.ensures.slots c.make_entry.ensures.closing
    c.make_entry.ensures.lone c.make_entry.ensures.blocks)
    (refused_begins g.D.Disk.tells s.node s.more d (kept_seen d.told new) (pending_work new s.pending) (asked c.args.uid None) OutOfMemory
    s.picked (ap (pending_work new) idle) (inr refl) (λ tell some is. absurd (memory_is_not_room is))))

pub returns : goal.returns
returns g c =
    let s = c.self.inside in
    let d : DiskSeen = record { counts = g.D.Disk.counts s.disk; told = g.D.Disk.told s.disk; due = g.D.Disk.due s.disk } in
    let new : Table = c.make_entry.new.self in
    rw (← c.self.view_is)
    (subst (λ o. Begins g.D.Disk.tells block_layout (asked c.args.uid None) c.start.result o
    (block_seen g.D.Disk.counts g.D.Disk.told g.D.Disk.due c.start.new.self))
    (entry_seen s.node s.more d s.table new s.pending s.picked c.make_entry.ensures.slots c.make_entry.ensures.closing
    c.make_entry.ensures.lone c.make_entry.ensures.blocks) c.start.ensures.begins)
