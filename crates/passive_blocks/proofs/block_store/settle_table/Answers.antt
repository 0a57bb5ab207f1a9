use Rattle.std.proofs.Common.{◌≡◌, true, sym, subst, inl, inr, Some}
use Rattle.std.specs.Prelude.{IsSome}
use Rattle.std.specs.BTreeMap as tree
use Rattle.capability.specs.Uids.{uid_cmp}
use Rattle.block_tables.specs.declared.table.Table.{Table}
use Rattle.block_tables.specs.Members.{is_member}
use Rattle.passive_blocks.proofs.HeldClosing.{held_when_closed}
use Rattle.passive_blocks.proofs.HeldMaking.{held_when_made, held_when_dropped}
use Rattle.passive_blocks.proofs.block_store.settle_table.Goals as goal

pub returns-then-is_open-clause-held : goal.returns-then-is_open-clause-held
returns-then-is_open-clause-held c = λ size counts held.
    held_when_made size counts c.args.table.now c.make_change.new.self c.args.pending.now held c.make_change.ensures.table
    c.make_change.ensures.slots c.make_change.ensures.lone c.make_change.ensures.closing c.make_change.ensures.needed
    c.make_change.ensures.free
    c.make_change.ensures.next c.make_change.ensures.size

pub returns-else-is_open-clause-held : goal.returns-else-is_open-clause-held
returns-else-is_open-clause-held c = λ size counts held.
    held_when_dropped size counts c.args.table.now c.drop_change.new.self c.args.pending.now held c.drop_change.ensures.table
    c.drop_change.ensures.slots c.drop_change.ensures.index c.drop_change.ensures.closing c.drop_change.ensures.lone
    c.drop_change.ensures.free
    c.drop_change.ensures.needed c.drop_change.ensures.next c.drop_change.ensures.size

pub returns-then-is_open-2-clause-held : goal.returns-then-is_open-2-clause-held
returns-then-is_open-2-clause-held c = λ size counts held.
    held_when_dropped size counts c.args.table.now c.drop_change-then-is_open-2.new.self c.args.pending.now held
    c.drop_change-then-is_open-2.ensures.table c.drop_change-then-is_open-2.ensures.slots c.drop_change-then-is_open-2.ensures.index
    c.drop_change-then-is_open-2.ensures.closing c.drop_change-then-is_open-2.ensures.lone c.drop_change-then-is_open-2.ensures.free
    c.drop_change-then-is_open-2.ensures.needed c.drop_change-then-is_open-2.ensures.next c.drop_change-then-is_open-2.ensures.size

pub returns-else-is_open-2-clause-held : goal.returns-else-is_open-2-clause-held
returns-else-is_open-2-clause-held c = λ size counts held.
    let closing : is_member c.args.table.now.heads.closing c.args.gate ≡ true = elim c.requires.gate [
      | inl own ↦ absurd (c.if-gate-head.false own)
      | inr there ↦ there
    ] in
    let closed : Table = record { heads = c.close_head.new.self; blocks = c.args.table.now.blocks } in
    held_when_dropped size counts closed c.drop_change-else-is_open-2.new.self c.args.pending.now
    (held_when_closed size counts c.args.table.now c.close_head.new.self (Some c.args.pending.now) c.args.gate held closing
    c.close_head.ensures.heads c.close_head.ensures.slots c.close_head.ensures.closing c.close_head.ensures.lone c.close_head.ensures.keys)
    c.drop_change-else-is_open-2.ensures.table c.drop_change-else-is_open-2.ensures.slots c.drop_change-else-is_open-2.ensures.index
    c.drop_change-else-is_open-2.ensures.closing c.drop_change-else-is_open-2.ensures.lone c.drop_change-else-is_open-2.ensures.free
    c.drop_change-else-is_open-2.ensures.needed c.drop_change-else-is_open-2.ensures.next c.drop_change-else-is_open-2.ensures.size

pub returns-then-is_open-clause-keys : goal.returns-then-is_open-clause-keys
returns-then-is_open-clause-keys c = λ q here. c.make_change.ensures.keys q here

pub returns-else-is_open-clause-keys : goal.returns-else-is_open-clause-keys
returns-else-is_open-clause-keys c = λ q here. subst (λ i. IsSome (tree.get uid_cmp i q)) (sym c.drop_change.ensures.index) here

pub returns-then-is_open-2-clause-keys : goal.returns-then-is_open-2-clause-keys
returns-then-is_open-2-clause-keys c = λ q here.
    subst (λ i. IsSome (tree.get uid_cmp i q)) (sym c.drop_change-then-is_open-2.ensures.index) here

pub returns-else-is_open-2-clause-keys : goal.returns-else-is_open-2-clause-keys
returns-else-is_open-2-clause-keys c = λ q here.
    subst (λ i. IsSome (tree.get uid_cmp i q)) (sym c.drop_change-else-is_open-2.ensures.index) (c.close_head.ensures.keys q here)
