use Rattle.std.proofs.Common.{◌≡◌, ◌∙◌, ap, arith, replicate, length}
use Rattle.std.specs.Prelude.{nat_lt}
use Rattle.std.specs.BTreeMap.{is_at}
use Rattle.std.specs.Map.{lookup}
use Rattle.capability.specs.Uids.{uid_cmp}
use Rattle.block_tables.specs.Members.{is_member}
use Rattle.block_tables.specs.HeadState.{entry_or_none}
use Rattle.block_tables.proofs.Slots.{heads_fresh}
use Rattle.block_tables.proofs.head_table.HeadTable.new.Goals as goal

pub returns-clause-heads : goal.returns-clause-heads
returns-clause-heads c =
    let all : c.loop-number.number ≡ c.args.count = omega (arith, c.loop-number-test.false, c.loop-number.auto.number-end) in
    heads_fresh _ c.args.count c.requires
    (c.in_ok-vec.ensures.items_if_clones_equal (λ y is. is) ∙ ap (replicate c.args.count) c.closed_slot.ensures)
    c.in_ok-new.ensures (ap length c.free.view_is ∙ c.loop-number.invariant.0)
    (λ k. ap (λ r. is_member r k) c.free.view_is ∙ c.loop-number.invariant.1 k ∙ ap (nat_lt k) all) c.in_ok-new-2.ensures
    c.in_ok-new-3.ensures
    (λ uid. ap (λ es. entry_or_none (lookup (is_at (uid_cmp uid)) es)) c.new-2.ensures.empty)
