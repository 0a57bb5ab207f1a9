use Rattle.std.proofs.Common.{◌≤◌, sym, subst, refl}
use Rattle.block_tables.specs.declared.index.IndexEntry.{IndexEntry}
use Rattle.block_tables.proofs.Slots.{few_others, heads_join_from}
use Rattle.block_tables.proofs.head_table.HeadTable.count_head.Goals as goal

pub joined_entry-joined-requires : goal.joined_entry-joined-requires
joined_entry-joined-requires c =
    subst (λ (e : IndexEntry). e.others ≤ 65536) (sym c.find_entry-entry.ensures)
    (few_others c.args.self.now c.args.head.uid c.requires.heads)

pub returns-then-late-clause-heads : goal.returns-then-late-clause-heads
returns-then-late-clause-heads c =
    heads_join_from c.args.self.now c.close_later.new.self _ c.args.head c.is_late-late.result c.find_entry-entry.result
    c.joined_entry-joined.result c.close_later.ensures.heads c.close_later.ensures.slots c.close_later.ensures.index c.requires.number
    c.requires.closed c.requires.opened refl c.set.ensures c.remove.ensures.long c.remove.ensures.members refl refl
    c.find_entry-entry.ensures c.is_late-late.ensures c.joined_entry-joined.ensures c.set_entry.ensures.sets

pub returns-else-late-clause-heads : goal.returns-else-late-clause-heads
returns-else-late-clause-heads c =
    heads_join_from c.args.self.now c.close_later.new.self _ c.args.head c.is_late-late.result c.find_entry-entry.result
    c.joined_entry-joined.result c.close_later.ensures.heads c.close_later.ensures.slots c.close_later.ensures.index c.requires.number
    c.requires.closed c.requires.opened refl c.set.ensures c.remove.ensures.long c.remove.ensures.members refl refl
    c.find_entry-entry.ensures c.is_late-late.ensures c.joined_entry-joined.ensures c.set_entry.ensures.sets
