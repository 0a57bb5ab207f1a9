use Rattle.std.proofs.Common.{◌≡◌, map, List, [], ◌++◌, ◌∷◌, Bool, None, Some, sym, ap, subst, ◌∙◌, append-nil}
use Rattle.std.specs.Prelude.{is_some}
use Rattle.std.specs.List.{find, filter}
use Rattle.std.specs.Map.Iter.{deref_pair}
use Rattle.std.proofs.lemmas.List.{map-append}
use Rattle.std.proofs.lemmas.Map.Iter.{rest_so_far}
use Rattle.std.specs.BTreeMap.Range.{entries_between, range_contains}
use Rattle.std.specs.declared.ops.Bound.TheVariants.{Unbounded}
use Rattle.capability.specs.declared.Uid.{Uid}
use Rattle.capability.specs.Uids.{uid_cmp}
use Rattle.passive_store.specs.Kept.{reserved_uid}
use Rattle.block_tables.specs.declared.index.IndexEntry.{IndexEntry}
use Rattle.block_tables.specs.HeadState.{entry_at, entry_or_none, IsLatest}
use Rattle.block_tables.specs.TableState.{keeper}
use Rattle.block_tables.proofs.Ordered.{keeps_eject, bound_of, IsFirstOf, first_of_all, next_of, next_eject, NonePasses, none_more}
use Rattle.block_tables.proofs.Ordered.{found_behind}
use Rattle.block_tables.proofs.Ordered.{found_none, in_index}
use Rattle.block_tables.proofs.OpenHeads.{latest_within}
use Rattle.block_tables.proofs.table.Table.after.Goals.{in-Some, in-None}
use Rattle.block_tables.proofs.table.Table.after.Goals as goal

pub returns : goal.returns
returns c =
    let es : List (Uid × IndexEntry) = c.args.self.now.heads.index.entries in
    let test : Uid × IndexEntry → Bool = keeps_eject c.args.self.now.heads.slots.items c.args.node in
    let from_is : c.match-from.start ≡ bound_of c.args.from =
    elim c.match-from.branch [
      | in-Some w ↦ w.start-is ∙ sym (ap bound_of w.in-Some.is)
      | in-None w ↦ w.start-is ∙ sym (ap bound_of w.in-None.is)
    ] in
    let start : c.into_iter-uid-iterator.result ≡ filter
    (λ (x : Uid × IndexEntry). range_contains uid_cmp (bound_of c.args.from) Unbounded x.0) es =
    c.into_iter-uid-iterator.ensures.into_iter_gives ∙ c.range-uid-items.ensures.between tt ∙ ap
    (λ b. entries_between uid_cmp b Unbounded es) from_is in
    let split : c.into_iter-uid-iterator.result ≡ map deref_pair c.loop-uid.yielded =
    rest_so_far deref_pair c.loop-uid.yielded c.into_iter-uid-iterator.result c.loop-uid.uid-iterator c.loop-uid.yielded_by ∙ ap
    (λ t. map deref_pair c.loop-uid.yielded ++ t) c.in-None-2.ensures.steps.0 ∙ append-nil (map deref_pair c.loop-uid.yielded) in
    let nothing : find test (filter (λ (x : Uid × IndexEntry). range_contains uid_cmp (bound_of c.args.from) Unbounded x.0) es) ≡ None =
    ap (find test) (sym start ∙ split) ∙ found_none test (map deref_pair c.loop-uid.yielded) c.loop-uid.invariant in
    record {
      next = next_of c.args.self.now.heads.slots.items c.args.self.now.heads.index c.args.from c.args.node None
          (subst (IsFirstOf (λ uid. range_contains uid_cmp (bound_of c.args.from) Unbounded uid) test es) nothing
          (first_of_all (λ uid. range_contains uid_cmp (bound_of c.args.from) Unbounded uid) test es c.range-uid-items.ensures.ordered));
      own = tt;
    }

pub returns-then-keeps_eject : goal.returns-then-keeps_eject
returns-then-keeps_eject c =
    let es : List (Uid × IndexEntry) = c.args.self.now.heads.index.entries in
    let test : Uid × IndexEntry → Bool = keeps_eject c.args.self.now.heads.slots.items c.args.node in
    let e : Uid × IndexEntry = (c.in-Some-2.uid.now, c.in-Some-2.entry.now) in
    let from_is : c.match-from.start ≡ bound_of c.args.from =
    elim c.match-from.branch [
      | in-Some w ↦ w.start-is ∙ sym (ap bound_of w.in-Some.is)
      | in-None w ↦ w.start-is ∙ sym (ap bound_of w.in-None.is)
    ] in
    let start : c.into_iter-uid-iterator.result ≡ filter
    (λ (x : Uid × IndexEntry). range_contains uid_cmp (bound_of c.args.from) Unbounded x.0) es =
    c.into_iter-uid-iterator.ensures.into_iter_gives ∙ c.range-uid-items.ensures.between tt ∙ ap
    (λ b. entries_between uid_cmp b Unbounded es) from_is in
    let split : c.into_iter-uid-iterator.result ≡ map deref_pair c.loop-uid.yielded ++ e ∷ c.next.new.self =
    rest_so_far deref_pair c.loop-uid.yielded c.into_iter-uid-iterator.result c.loop-uid.uid-iterator c.loop-uid.yielded_by ∙ ap
    (λ t. map deref_pair c.loop-uid.yielded ++ t) c.in-Some-2.ensures.steps in
    let first : find test (filter (λ (x : Uid × IndexEntry). range_contains uid_cmp (bound_of c.args.from) Unbounded x.0) es) ≡ Some e =
    ap (find test) (sym start ∙ split)
    ∙ found_behind test (map deref_pair c.loop-uid.yielded) c.next.new.self e c.loop-uid.invariant
    (sym c.keeps_eject.ensures ∙ c.if-keeps_eject.true) in
    let next = next_of c.args.self.now.heads.slots.items c.args.self.now.heads.index c.args.from c.args.node (Some e)
    (subst (IsFirstOf (λ uid. range_contains uid_cmp (bound_of c.args.from) Unbounded uid) test es) first
    (first_of_all (λ uid. range_contains uid_cmp (bound_of c.args.from) Unbounded uid) test es c.range-uid-items.ensures.ordered)) in
    record {
      next = next;
      own = next_eject (λ uid. is_some (keeper c.args.self.now uid)) c.args.node (reserved_uid c.args.node) c.args.from
          (Some c.in-Some-2.uid.now) next;
    }

pub keeps_eject-requires : goal.keeps_eject-requires
keeps_eject-requires c =
    let es : List (Uid × IndexEntry) = c.args.self.now.heads.index.entries in
    let e : Uid × IndexEntry = (c.in-Some-2.uid.now, c.in-Some-2.entry.now) in
    let from_is : c.match-from.start ≡ bound_of c.args.from =
    elim c.match-from.branch [
      | in-Some w ↦ w.start-is ∙ sym (ap bound_of w.in-Some.is)
      | in-None w ↦ w.start-is ∙ sym (ap bound_of w.in-None.is)
    ] in
    let start : c.into_iter-uid-iterator.result ≡ filter
    (λ (x : Uid × IndexEntry). range_contains uid_cmp (bound_of c.args.from) Unbounded x.0) es =
    c.into_iter-uid-iterator.ensures.into_iter_gives ∙ c.range-uid-items.ensures.between tt ∙ ap
    (λ b. entries_between uid_cmp b Unbounded es) from_is in
    let split : c.into_iter-uid-iterator.result ≡ map deref_pair c.loop-uid.yielded ++ e ∷ c.next.new.self =
    rest_so_far deref_pair c.loop-uid.yielded c.into_iter-uid-iterator.result c.loop-uid.uid-iterator c.loop-uid.yielded_by ∙ ap
    (λ t. map deref_pair c.loop-uid.yielded ++ t) c.in-Some-2.ensures.steps in
    let there : entry_at c.args.self.now.heads.index e.0 ≡ e.1 =
    ap entry_or_none (in_index (λ uid. range_contains uid_cmp (bound_of c.args.from) Unbounded uid) es (map deref_pair c.loop-uid.yielded)
    c.next.new.self e c.range-uid-items.ensures.ordered (sym start ∙ split)) in
    latest_within c.args.self.now.heads.slots.items e.0 e.1.latest
    (subst (λ (x : IndexEntry). IsLatest c.args.self.now.heads.slots.items e.0 x.latest) there (c.requires.heads.entries e.0).0)

pub loop-uid-preserved : goal.loop-uid-preserved
loop-uid-preserved c =
    subst (NonePasses (keeps_eject c.args.self.now.heads.slots.items c.args.node))
    (sym (map-append deref_pair c.loop-uid.yielded ((c.in-Some-2.uid, c.in-Some-2.entry) ∷ [])))
    (none_more (keeps_eject c.args.self.now.heads.slots.items c.args.node) (map deref_pair c.loop-uid.yielded)
    (c.in-Some-2.uid.now, c.in-Some-2.entry.now) c.loop-uid.invariant
    (sym c.keeps_eject.ensures ∙ c.if-keeps_eject.false))
