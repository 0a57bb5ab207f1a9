use Rattle.std.proofs.Common.{◌∙◌, ap, refl, ◌||◌}
use Rattle.block_tables.specs.declared.heads.HeadFields.{HeadFields}
use Rattle.block_tables.specs.Members.{is_member}
use Rattle.block_tables.specs.HeadState.{entry_at, closed_entry, lone_in, is_it}
use Rattle.block_tables.proofs.Slots.{heads_close_from, closes_another, closes_entry}
use Rattle.block_tables.proofs.head_table.HeadTable.close_head.Goals as goal

pub closed_entry-closed-requires : goal.closed_entry-closed-requires
closed_entry-closed-requires c = closes_another c.args.self.now c.args.number c.slot.result c.find_entry-entry.result c.requires.heads
    c.requires.number c.requires.opened c.slot.ensures c.find_entry-entry.ensures

pub returns-clause-heads : goal.returns-clause-heads
returns-clause-heads c = heads_close_from c.args.self.now c.close_at_end.new.self _ c.args.number c.slot.result c.closed_slot.result
    c.find_entry-entry.result c.closed_entry-closed.result c.close_at_end.ensures.heads c.close_at_end.ensures.slots
    c.close_at_end.ensures.index c.requires.number c.requires.opened c.requires.alone c.closed_slot.ensures refl c.set.ensures
    c.insert.ensures.long c.insert.ensures.members (c.remove.ensures.long) refl c.slot.ensures c.find_entry-entry.ensures
    c.closed_entry-closed.ensures c.set_entry.ensures.sets

pub returns-clause-lone : goal.returns-clause-lone
returns-clause-lone c = λ k. c.close_at_end.ensures.lone k
    ∙ ap (λ n. is_it k n || is_member c.args.self.now.lone k) (c.lone_in-lone.ensures.lone
    ∙ ap (lone_in c.args.self.now.slots.items) (c.closed_entry-closed.ensures
    ∙ ap (closed_entry c.args.number) (c.find_entry-entry.ensures
    ∙ ap (λ (s : HeadFields). entry_at c.args.self.now.index s.uid) c.slot.ensures)))

pub set_entry-requires : goal.set_entry-requires
set_entry-requires c = closes_entry c.args.self.now c.close_at_end.new.self c.args.number c.slot.result c.requires.heads
    c.close_at_end.ensures.index c.requires.opened c.slot.ensures
