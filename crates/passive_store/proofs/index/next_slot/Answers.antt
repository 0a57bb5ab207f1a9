use Rattle.std.proofs.Common.{◌≡◌, map, List, [], ◌++◌, ◌∷◌, Option, None, Some, sym, ap, subst, ◌∙◌, append-nil}
use Rattle.std.specs.List.{find, filter}
use Rattle.std.specs.Map.Iter.{deref_pair}
use Rattle.std.proofs.lemmas.List.{map-append}
use Rattle.std.proofs.lemmas.Map.Iter.{rest_so_far}
use Rattle.std.specs.BTreeMap.Range.{entries_between, range_contains}
use Rattle.std.specs.declared.ops.Bound.TheVariants.{Unbounded}
use Rattle.capability.specs.declared.Uid.{Uid}
use Rattle.capability.specs.Uids.{uid_cmp}
use Rattle.passive_store.specs.declared.index.Slot.{Slot}
use Rattle.passive_store.proofs.Ordered.{has_slot, bound_of, IsFirstOf, first_of_all, next_of, NonePasses, none_more, found_behind}
use Rattle.passive_store.proofs.Ordered.{found_none}
use Rattle.passive_store.proofs.index.next_slot.Goals.{in-Some, in-None}
use Rattle.passive_store.proofs.index.next_slot.Goals as goal

pub returns : goal.returns
returns c =
    let es : List (Uid × Option Slot) = c.args.index.now.entries in
    let from_is : c.match-from.start ≡ bound_of c.args.from =
    elim c.match-from.branch [
      | in-Some w ↦ w.start-is ∙ sym (ap bound_of w.in-Some.is)
      | in-None w ↦ w.start-is ∙ sym
          (ap bound_of w.in-None.is)
    ] in
    let start : c.into_iter-uid-iterator.result ≡ filter
    (λ (e : Uid × Option Slot). range_contains uid_cmp (bound_of c.args.from) Unbounded e.0) es =
    c.into_iter-uid-iterator.ensures.into_iter_gives ∙ c.range-uid-items.ensures.between tt ∙ ap
    (λ b. entries_between uid_cmp b Unbounded es) from_is in
    let split : c.into_iter-uid-iterator.result ≡ map deref_pair c.loop-uid.yielded =
    rest_so_far deref_pair c.loop-uid.yielded c.into_iter-uid-iterator.result c.loop-uid.uid-iterator c.loop-uid.yielded_by ∙ ap
    (λ t. map deref_pair c.loop-uid.yielded ++ t) c.in-None-2.ensures.steps.0 ∙ append-nil (map deref_pair c.loop-uid.yielded) in
    let nothing : find (has_slot c.args.node)
    (filter (λ (e : Uid × Option Slot). range_contains uid_cmp (bound_of c.args.from) Unbounded e.0) es) ≡ None =
    ap (find (has_slot c.args.node)) (sym start ∙ split) ∙ found_none (has_slot c.args.node)
    (map deref_pair c.loop-uid.yielded) c.loop-uid.invariant in
    next_of c.args.index.now c.args.from c.args.node None
    (subst (IsFirstOf (λ uid. range_contains uid_cmp (bound_of c.args.from) Unbounded uid) (has_slot c.args.node) es) nothing
    (first_of_all (λ uid. range_contains uid_cmp (bound_of c.args.from) Unbounded uid)
    (has_slot c.args.node) es c.range-uid-items.ensures.ordered))

pub returns-then-is_eject_slot : goal.returns-then-is_eject_slot
returns-then-is_eject_slot c =
    let es : List (Uid × Option Slot) = c.args.index.now.entries in
    let e : Uid × Option Slot = (c.in-Some-2.uid.now, c.in-Some-2.slot.now) in
    let from_is : c.match-from.start ≡ bound_of c.args.from =
    elim c.match-from.branch [
      | in-Some w ↦ w.start-is ∙ sym (ap bound_of w.in-Some.is)
      | in-None w ↦ w.start-is ∙ sym
          (ap bound_of w.in-None.is)
    ] in
    let start : c.into_iter-uid-iterator.result ≡ filter
    (λ (x : Uid × Option Slot). range_contains uid_cmp (bound_of c.args.from) Unbounded x.0) es =
    c.into_iter-uid-iterator.ensures.into_iter_gives ∙ c.range-uid-items.ensures.between tt ∙ ap
    (λ b. entries_between uid_cmp b Unbounded es) from_is in
    let split : c.into_iter-uid-iterator.result ≡ map deref_pair c.loop-uid.yielded ++ e ∷ c.next.new.self =
    rest_so_far deref_pair c.loop-uid.yielded c.into_iter-uid-iterator.result c.loop-uid.uid-iterator c.loop-uid.yielded_by ∙ ap
    (λ t. map deref_pair c.loop-uid.yielded ++ t) c.in-Some-2.ensures.steps in
    let first : find (has_slot c.args.node) (filter
    (λ (x : Uid × Option Slot). range_contains uid_cmp (bound_of c.args.from) Unbounded x.0) es) ≡ Some e =
    ap (find (has_slot c.args.node)) (sym start ∙ split)
    ∙ found_behind (has_slot c.args.node) (map deref_pair c.loop-uid.yielded) c.next.new.self e c.loop-uid.invariant
    (sym c.is_eject_slot.ensures ∙ c.if-is_eject_slot.true) in
    next_of c.args.index.now c.args.from c.args.node (Some e)
    (subst (IsFirstOf (λ uid. range_contains uid_cmp (bound_of c.args.from) Unbounded uid) (has_slot c.args.node) es) first
    (first_of_all (λ uid. range_contains uid_cmp (bound_of c.args.from) Unbounded uid)
    (has_slot c.args.node) es c.range-uid-items.ensures.ordered))

pub loop-uid-preserved : goal.loop-uid-preserved
loop-uid-preserved c =
    subst (NonePasses (has_slot c.args.node)) (sym (map-append deref_pair c.loop-uid.yielded ((c.in-Some-2.uid, c.in-Some-2.slot) ∷ [])))
    (none_more (has_slot c.args.node) (map deref_pair c.loop-uid.yielded) (c.in-Some-2.uid.now, c.in-Some-2.slot.now) c.loop-uid.invariant
    (sym c.is_eject_slot.ensures ∙ c.if-is_eject_slot.false))
