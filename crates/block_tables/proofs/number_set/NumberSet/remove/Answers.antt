use Rattle.std.proofs.Common.{◌<◌, ◌+◌, ◌*◌, ◌/◌, length, sym, subst, ap, ◌∙◌}
use Rattle.std.specs.Prelude.{slice_range}
use Rattle.block_tables.specs.Members.{IsFirstOf}
use Rattle.block_tables.proofs.Marks.{marks-remove, left_of}
use Rattle.block_tables.proofs.number_set.NumberSet.remove.Goals as goal
use mir.Val.{bool_byte}

pub invariant_of-self : goal.invariant_of-self
invariant_of-self c =
    let within : c.args.number < length c.self.inside.members.items =
    subst (λ xs. c.args.number < length xs) (sym c.self.view_is) c.requires in
    let first = subst (λ xs. IsFirstOf (slice_range xs (c.args.number / 64 * 64) (c.args.number / 64 * 64 + 64)) c.first_in_group.result)
    c.deref.ensures.value c.first_in_group.ensures in
    marks-remove c.self.inside.groups.items c.self.inside.members.items c.args.number c.from.result c.self.invariant within
    (c.from.ensures ∙ ap bool_byte c.is_some-is_left.ensures
    ∙ left_of c.self.inside.groups.items c.self.inside.members.items c.args.number c.first_in_group.result c.self.invariant within first)
