use Rattle.std.proofs.Common.{◌≡◌, ◌+◌, ◌-◌, ◌∙◌, sym, ap, subst, Option, if◌then◌else◌}
use Rattle.std.specs.Prelude.{IsSome}
use Rattle.std.specs.BTreeMap as tree
use Rattle.capability.specs.Uids.{uid_cmp}
use Rattle.block_tables.specs.declared.heads.HeadFields.{HeadFields}
use Rattle.block_tables.specs.Blocks as blocks
use Rattle.block_tables.specs.HeadState.{entry_at, kept_slot}
use Rattle.block_tables.specs.TableState.{keeper, blocks_kept}
use Rattle.block_tables.proofs.Slots.{keeper_same}
use Rattle.block_tables.proofs.table.Table.make_change.Goals as goal

pub returns-clause-needed : goal.returns-clause-needed
returns-clause-needed c =
    let uid = c.args.head.uid in
    let same : kept_slot c.count_head-before.new.self.slots.items c.count_head-before.result ≡ keeper c.args.self.now uid =
    ap (λ s. kept_slot s c.count_head-before.result) c.count_head-before.ensures.slots
    ∙ keeper_same c.args.self.now.heads.slots.items c.args.head uid (entry_at c.args.self.now.heads.index uid).latest
    c.count_head-before.result (c.requires.table.heads.entries uid).0 c.requires.closed c.requires.later c.count_head-before.ensures.before
    in
    c.keep.ensures.needed
    ∙ ap (λ m. m + (if c.args.head.removal then 0 else blocks.blocks_of c.args.head.size))
    (c.leave.ensures.needed ∙ ap (λ (s : Option HeadFields). c.args.self.now.blocks.needed - blocks_kept s) same)

pub returns-clause-keys : goal.returns-clause-keys
returns-clause-keys c = λ q here. subst (λ i. IsSome (tree.get uid_cmp i q))
    (sym (c.end_job.ensures.index ∙ (c.keep.ensures.index ∙ ap (λ h. h.index) c.leave.ensures.heads)))
    (c.count_head-before.ensures.keys q here)
