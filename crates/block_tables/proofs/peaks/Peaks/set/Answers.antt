use Rattle.std.proofs.Common.{◌≡◌, ◌∙◌, ◌*◌, ◌/◌, ◌<◌, ◌≤◌, length, ap, sym, subst, arith}
use Rattle.std.specs.Prelude.{slice_range, slice_index}
use Rattle.std.proofs.lemmas.List.{get_or_read}
use Rattle.block_tables.specs.Greatest.{peak}
use Rattle.block_tables.proofs.Greatest.{peaks-kept, peaks-kept_up, peaks-kept_beside}
use Rattle.block_tables.proofs.peaks.Peaks.set.Goals as goal

pub invariant_of-self : goal.invariant_of-self
invariant_of-self c =
    let within : c.args.place < length c.self.inside.values.items =
    subst (λ xs. c.args.place < length xs) (sym c.self.view_is) c.requires in
    let group : c.args.place / 64 < length c.self.inside.groups.items = omega (arith, c.self.invariant.0, within) in
    let read : c.index.result.now ≡ slice_index c.self.inside.groups.items (c.args.place / 64) =
    get_or_read c.self.inside.groups.items (c.args.place / 64) c.index.result.now group c.index.ensures 0 in
    peaks-kept_up c.self.inside.groups.items c.self.inside.values.items c.args.place c.args.value c.self.invariant within
    (subst (λ n. n ≤ c.args.value) read c.if-value-index.true)

pub invariant_of-self-then-before-index : goal.invariant_of-self-then-before-index
invariant_of-self-then-before-index c =
    peaks-kept c.self.inside.groups.items c.self.inside.values.items c.args.place c.args.value c.min-to.result c.len.result
    c.greatest_of.result c.self.invariant (subst (λ xs. c.args.place < length xs) (sym c.self.view_is) c.requires) c.min-to.ensures
    (c.len.ensures ∙ sym (ap length (sym c.deref.ensures.value) ∙ c.deref.ensures.len))
    (c.greatest_of.ensures ∙ ap (λ xs. peak (slice_range xs (c.args.place / 64 * 64) c.min-to.result)) c.deref.ensures.value)

pub invariant_of-self-else-before-index : goal.invariant_of-self-else-before-index
invariant_of-self-else-before-index c =
    let within : c.args.place < length c.self.inside.values.items =
    subst (λ xs. c.args.place < length xs) (sym c.self.view_is) c.requires in
    let group : c.args.place / 64 < length c.self.inside.groups.items = omega (arith, c.self.invariant.0, within) in
    let before : c.index-before.result.now ≡ slice_index c.self.inside.values.items c.args.place =
    get_or_read c.self.inside.values.items c.args.place c.index-before.result.now within c.index-before.ensures 0 in
    let read : c.index.result.now ≡ slice_index c.self.inside.groups.items (c.args.place / 64) =
    get_or_read c.self.inside.groups.items (c.args.place / 64) c.index.result.now group c.index.ensures 0 in
    let again : c.index-else-value-index.result.now ≡ slice_index c.self.inside.groups.items (c.args.place / 64) =
    get_or_read c.self.inside.groups.items (c.args.place / 64) c.index-else-value-index.result.now group
    c.index-else-value-index.ensures 0 in
    peaks-kept_beside c.self.inside.groups.items c.self.inside.values.items c.args.place c.args.value c.self.invariant within
    (subst (λ n. c.args.value < n) read c.if-value-index.false) (λ same. c.if-before-index.false (before ∙ same ∙ sym again))
