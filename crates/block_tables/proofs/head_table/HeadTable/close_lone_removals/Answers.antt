use Rattle.std.proofs.Common.{◌∙◌, sym, subst, ◌+◌}
use Rattle.block_tables.proofs.Ending.{Joining, one_joined, none_joined, not_joined}
use Rattle.block_tables.proofs.head_table.HeadTable.close_lone_removals.Goals as goal
use Rattle.block_tables.proofs.head_table.HeadTable.close_lone_removals.Goals.{then-is_lone, else-is_lone}

pub loop-number-preserved : goal.loop-number-preserved
loop-number-preserved c = elim c.if-is_lone.branch [
  | then-is_lone w ↦ subst (λ h. Joining c.args.self.now h (c.loop-number.number + 1)) (sym w.self-is)
      (one_joined c.args.self.now c.loop-number.self w.insert.new.self c.loop-number.number c.loop-number.invariant
      (sym c.is_lone.ensures ∙ w.if-is_lone.true) w.insert.ensures.long w.insert.ensures.members)
  | else-is_lone w ↦ subst (λ h. Joining c.args.self.now h (c.loop-number.number + 1)) (sym w.self-is)
      (not_joined c.args.self.now c.loop-number.self c.loop-number.number c.loop-number.invariant
      (sym c.is_lone.ensures ∙ w.if-is_lone.false))
]

pub loop-number-init : goal.loop-number-init
loop-number-init c = none_joined c.args.self.now c.requires
