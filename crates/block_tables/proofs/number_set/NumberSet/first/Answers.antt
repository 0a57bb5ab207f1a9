use Rattle.std.proofs.Common.{◌+◌, ◌*◌, sym, subst}
use Rattle.std.specs.Prelude.{slice_range, None, Some}
use Rattle.block_tables.specs.Members.{IsFirstOf}
use Rattle.block_tables.proofs.Marks.{no_group, not_empty, least}
use Rattle.block_tables.proofs.number_set.NumberSet.first.Goals as goal

pub returns-in_err-group : goal.returns-in_err-group
returns-in_err-group c =
    subst (IsFirstOf c.args.self.now) (sym c.from_residual.ensures)
    (subst (λ xs. IsFirstOf xs None) c.self.view_is
    (no_group c.self.inside.groups.items c.self.inside.members.items c.self.invariant
    (subst (λ xs. IsFirstOf xs None) c.deref.ensures.value c.in_err-group.ensures)))

pub returns-in_err-place : goal.returns-in_err-place
returns-in_err-place c =
    let group = subst (λ xs. IsFirstOf xs (Some c.in_ok-group.group)) c.deref.ensures.value c.in_ok-group.ensures in
    absurd (not_empty c.self.inside.groups.items c.self.inside.members.items c.in_ok-group.group c.self.invariant group.0 group.1
    (subst (λ xs. IsFirstOf (slice_range xs (c.in_ok-group.group * 64) (c.in_ok-group.group * 64 + 64)) None) c.deref-2.ensures.value
    c.in_err-place.ensures))

pub returns : goal.returns
returns c =
    subst (λ xs. IsFirstOf xs (Some (c.in_ok-group.group * 64 + c.in_ok-place.place))) c.self.view_is
    (least c.self.inside.groups.items c.self.inside.members.items c.in_ok-group.group c.in_ok-place.place c.self.invariant
    (subst (λ xs. IsFirstOf xs (Some c.in_ok-group.group)) c.deref.ensures.value c.in_ok-group.ensures)
    (subst (λ xs. IsFirstOf (slice_range xs (c.in_ok-group.group * 64) (c.in_ok-group.group * 64 + 64)) (Some c.in_ok-place.place))
    c.deref-2.ensures.value c.in_ok-place.ensures))
