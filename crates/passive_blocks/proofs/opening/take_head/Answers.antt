use Rattle.std.proofs.Common.{inr, ap, sym, ◌∙◌}
use Rattle.passive_store.specs.declared.store.StoreRefusal.TheVariants.{Damaged}
use Rattle.passive_blocks.proofs.OpeningHeads.{in_set, in_more, read_more}
use Rattle.passive_blocks.proofs.opening.take_head.Goals as goal

pub returns-then-contains-clause-only : goal.returns-then-contains-clause-only
returns-then-contains-clause-only c = inr (
  ap Damaged c.head_place.ensures,
  sym (in_set c.args.head.sequence c.args.sequences.now.keys) ∙ sym c.contains.ensures ∙ c.if-contains.true,
)

pub returns-clause-known : goal.returns-clause-known
returns-clause-known c = in_more c.args.sequences.now c.insert.new.self c.args.head.sequence c.in-Ok.ensures.updates

pub returns-clause-read : goal.returns-clause-read
returns-clause-read c =
    read_more c.args.table.now c.make_entry.new.self c.count_head.new.self c.args.sequences.now.keys c.insert.new.self.keys c.args.head
    c.requires.read c.requires.number c.requires.opened
    (sym (in_set c.args.head.sequence c.args.sequences.now.keys) ∙ sym c.contains.ensures
    ∙ c.if-contains.false) c.make_entry.ensures.slots c.make_entry.ensures.entries c.make_entry.ensures.closing
    c.make_entry.ensures.lone
    c.make_entry.ensures.blocks c.count_head.ensures.heads c.count_head.ensures.slots c.count_head.ensures.closing c.count_head.ensures.lone
    (in_more c.args.sequences.now c.insert.new.self c.args.head.sequence c.in-Ok.ensures.updates)
