use Rattle.std.proofs.Common.{◌<◌, length, sym, subst}
use Rattle.block_tables.proofs.Marks.{marks-insert}
use Rattle.block_tables.proofs.number_set.NumberSet.insert.Goals as goal

pub invariant_of-self : goal.invariant_of-self
invariant_of-self c =
    marks-insert c.self.inside.groups.items c.self.inside.members.items c.args.number c.self.invariant
    (subst (λ xs. c.args.number < length xs) (sym c.self.view_is) c.requires)
