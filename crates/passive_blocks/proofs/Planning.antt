-- The values of a log, by the index of it: what its map keeps, and what its conversion moves.
use Rattle.std.proofs.Common.{◌≡◌, ℕ, ◌+◌, ◌-◌, ◌≤◌, ◌<◌, ◌^◌, Bool, true, false, cond, List, [], ◌∷◌, length, take, drop, map}
use Rattle.std.proofs.Common.{refl, sym, ap, subst, ◌∙◌, arith, length-take, length-drop}
use Rattle.std.specs.Prelude.{◌&&◌, nat_lt, sum_by, slice_range, All, Option, None, Some, Ok, IfSome, T}
use Rattle.std.specs.List.{AllByRecursion}
use Rattle.std.specs.List.Sorted.{IsStrictlySortedBy}
use Rattle.std.specs.Option.{option_map, option_and_then}
use Rattle.std.specs.FinMap as finite
use Rattle.std.specs.FinMap.Entries.{find, is_sorted, below_all, same_entries}
use Rattle.std.specs.BTreeMap as tree
use Rattle.std.specs.BTreeMap.{BTreeMap, is_at}
use Rattle.std.specs.Map.{keys_of, lookup}
use Rattle.std.specs.Cmp.{tied_itself}
use Rattle.std.specs.Ordering.{eq_by_cmp, is_eq, is_lt}
use Rattle.std.specs.declared.cmp.Ordering.{Ordering}
use Rattle.std.specs.declared.cmp.Ordering.TheVariants.{Less}
use Rattle.std.proofs.lemmas.Bool.Decides.{nat_tests}
use Rattle.std.proofs.lemmas.List.{take-take, length-take-le}
use Rattle.std.proofs.lemmas.List.Elements.{recursion_from_All}
use Rattle.std.proofs.lemmas.List.Sums.{sum_by-cons}
use Rattle.std.proofs.lemmas.Slice.{between_is}
use Rattle.std.proofs.lemmas.Map.Keys.{sorted_head, sorted_tail}
use Rattle.capability.specs.declared.Uid.{Uid}
use Rattle.capability.specs.Uids.{uid_cmp}
use Rattle.capability.proofs.Uids.{uid_cmp_total, uid_cmp-IsAntisymmetric}
use Rattle.passive_store.specs.declared.index.Slot.{Slot}
use Rattle.passive_store.specs.Kept.{Kept, IsOwn}
use Rattle.passive_store.specs.Layout.{IsLayout}
use Rattle.passive_store.specs.Log.{log_map}
use Rattle.passive_store.specs.LogLayout.{log_layout}
use Rattle.passive_store.specs.LogState.{IsIndex, slot_at}
use Rattle.passive_blocks.specs.declared.convert.Moved.{Moved}
use Rattle.block_tables.specs.Blocks.{blocks_of}
use Rattle.passive_blocks.specs.Conversion.{Moved as Value, moved_from, moved, moved_heads, blocks_moved, is_too_much}
use Rattle.block_tables.specs.HeadSeen.{head_of}
use Rattle.passive_blocks.specs.Converting.{heads_planned, moved_in, IsMovable, IsGoodEntry, with_slot, slots_in, planned_at, planned_from}
use Rattle.passive_blocks.specs.Converting.{planned, blocks_together}
use Rattle.passive_blocks.proofs.Keeping.{each_entry, tied}

-- the value of a slot, in the bytes of its log
abbrev pub value_in : List ℕ → Uid × Slot → Uid × List ℕ
value_in bytes s = (s.0, slice_range bytes (s.1.gate + 15) (s.1.gate + 15 + s.1.length))

-- the slots of which each is in a log of so many bytes
abbrev pub AreWithin : ℕ → List (Uid × Slot) → Type 0
AreWithin size slots = AllByRecursion (λ (s : Uid × Slot). s.1.gate + 15 + s.1.length ≤ size) slots

-- the slot that a list of entries has for a uid
abbrev slot_among : Uid → List (Uid × Option Slot) → Option Slot
slot_among q es = option_and_then (λ slot. slot) (lookup (is_at (uid_cmp q)) es)

-- where each uid is above one, that one is not found
none_below : (uid : Uid) (es : List (Uid × Option Slot)) → AllByRecursion (λ y. uid_cmp uid y ≡ Less) (keys_of es)
    → lookup (is_at (uid_cmp uid)) es ≡ None
none_below uid [] below = refl
none_below uid (e ∷ es) below =
    ap (λ o. cond (is_eq o) (Some e.1) (lookup (is_at (uid_cmp uid)) es)) below.0 ∙ none_below uid es below.1

none_behind : (q : Uid) (e : Uid × Option Slot) (es : List (Uid × Option Slot))
    → AllByRecursion (λ y. uid_cmp e.0 y ≡ Less) (keys_of es) → eq_by_cmp uid_cmp q e.0 ≡ true →
    lookup (is_at (uid_cmp q)) es ≡ None
none_behind q e es below is =
    ap (λ u. lookup (is_at (uid_cmp u)) es) (uid_cmp-IsAntisymmetric q e.0 (tied (uid_cmp q e.0) is)) ∙ none_below e.0 es below

body_or_none : List ℕ → Option Slot → Option (List ℕ)
body_or_none bytes slot = option_map (λ (s : Slot). slice_range bytes (s.gate + 15) (s.gate + 15 + s.length)) slot

skipped : (bytes : List ℕ) (here : Bool) (found : Option (Option Slot)) → (here ≡ true → found ≡ None)
    → body_or_none bytes (option_and_then (λ slot. slot) found)
    ≡ body_or_none bytes (option_and_then (λ slot. slot) (cond here (Some None) found))
unfolding body_or_none
skipped bytes true found none = ap (λ f. option_map (λ (s : Slot). slice_range bytes (s.gate + 15) (s.gate + 15 + s.length))
    (option_and_then (λ slot. slot) f)) (none refl)
skipped bytes false found none = refl

taken : (bytes : List ℕ) (here : Bool) (slot : Slot) (left : Option (List ℕ)) (found : Option (Option Slot))
    → left ≡ body_or_none bytes (option_and_then (λ slot. slot) found)
    → cond here (Some (slice_range bytes (slot.gate + 15) (slot.gate + 15 + slot.length))) left
    ≡ body_or_none bytes (option_and_then (λ slot. slot) (cond here (Some (Some slot)) found))
unfolding body_or_none
taken bytes true slot left found same = refl
taken bytes false slot left found same = same

found_with : (bytes : List ℕ) (q uid : Uid) (slot : Option Slot) (es : List (Uid × Option Slot)) →
    (eq_by_cmp uid_cmp q uid ≡ true → lookup (is_at (uid_cmp q)) es ≡ None)
    → find uid_cmp q (map (value_in bytes) (slots_in es)) ≡ body_or_none bytes (slot_among q es)
    → find uid_cmp q (map (value_in bytes) (with_slot uid slot (slots_in es)))
    ≡ body_or_none bytes (option_and_then (λ slot. slot) (cond (eq_by_cmp uid_cmp q uid) (Some slot) (lookup (is_at (uid_cmp q)) es)))
found_with bytes q uid None es none same =
    same ∙ skipped bytes (eq_by_cmp uid_cmp q uid) (lookup (is_at (uid_cmp q)) es) none
found_with bytes q uid (Some slot) es none same =
    taken bytes (eq_by_cmp uid_cmp q uid) slot (find uid_cmp q (map (value_in bytes) (slots_in es))) (lookup (is_at (uid_cmp q)) es) same

-- what is found among the slots is what the index has
found_in : (bytes : List ℕ) (q : Uid) (es : List (Uid × Option Slot)) → IsStrictlySortedBy uid_cmp (keys_of es)
    → find uid_cmp q (map (value_in bytes) (slots_in es)) ≡ body_or_none bytes (slot_among q es)
unfolding body_or_none
found_in bytes q [] sorted = refl
found_in bytes q (e ∷ es) sorted =
    found_with bytes q e.0 e.1 es (none_behind q e es (sorted_head uid_cmp e.0 (keys_of es) sorted))
    (found_in bytes q es (sorted_tail uid_cmp e.0 (keys_of es) sorted))

both : (a b : Bool) → T a → T b → T (a && b)
both true b p q = q
both false b p q = p

is_less : (o : Ordering) → o ≡ Less → T (is_lt o)
is_less o is = subst (λ r. T (is_lt r)) (sym is) tt

below_with : (bytes : List ℕ) (uid other : Uid) (slot : Option Slot) (slots : List (Uid × Slot)) → uid_cmp uid other ≡ Less
    → T (below_all uid_cmp uid (map (value_in bytes) slots)) → T (below_all uid_cmp uid (map (value_in bytes) (with_slot other slot slots)))
below_with bytes uid other None slots less below = below
below_with bytes uid other (Some slot) slots less below =
    both (is_lt (uid_cmp uid other)) (below_all uid_cmp uid (map (value_in bytes) slots)) (is_less (uid_cmp uid other) less) below

below_slots : (bytes : List ℕ) (uid : Uid) (es : List (Uid × Option Slot)) → AllByRecursion (λ y. uid_cmp uid y ≡ Less) (keys_of es)
    → T (below_all uid_cmp uid (map (value_in bytes) (slots_in es)))
below_slots bytes uid [] below = tt
below_slots bytes uid (e ∷ es) below = below_with bytes uid e.0 e.1 (slots_in es) below.0 (below_slots bytes uid es below.1)

sorted_with : (bytes : List ℕ) (uid : Uid) (slot : Option Slot) (slots : List (Uid × Slot))
    → T (below_all uid_cmp uid (map (value_in bytes) slots)) → T (is_sorted uid_cmp (map (value_in bytes) slots)) →
    T (is_sorted uid_cmp (map (value_in bytes) (with_slot uid slot slots)))
sorted_with bytes uid None slots below sorted = sorted
sorted_with bytes uid (Some slot) slots below sorted =
    both (below_all uid_cmp uid (map (value_in bytes) slots)) (is_sorted uid_cmp (map (value_in bytes) slots)) below sorted

sorted_slots : (bytes : List ℕ) (es : List (Uid × Option Slot)) → IsStrictlySortedBy uid_cmp (keys_of es)
    → T (is_sorted uid_cmp (map (value_in bytes) (slots_in es)))
sorted_slots bytes [] sorted = tt
sorted_slots bytes (e ∷ es) sorted =
    sorted_with bytes e.0 e.1 (slots_in es) (below_slots bytes e.0 es (sorted_head uid_cmp e.0 (keys_of es) sorted))
    (sorted_slots bytes es (sorted_tail uid_cmp e.0 (keys_of es) sorted))

as_body : (bytes : List ℕ) (slot : Option Slot)
    → body_or_none bytes slot ≡ option_map (λ (s : Slot). slice_range bytes (s.gate + 15) (s.gate + 15 + s.length)) slot
unfolding body_or_none
as_body bytes slot = refl

-- The log keeps the values of the slots, in their order.
pub entries_are : (index : BTreeMap Uid (Option Slot)) (kept : Kept) (tail : ℕ) (bytes : List ℕ) → tree.IsOrdered uid_cmp index
    → IsIndex index kept tail bytes → finite.entries kept.bodies ≡ map (value_in bytes) (slots_in index.entries)
entries_are index kept tail bytes ordered indexed =
    same_entries uid_cmp uid_cmp_total uid_cmp-IsAntisymmetric (finite.entries kept.bodies) (map (value_in bytes) (slots_in index.entries))
    (finite.entries_sorted kept.bodies) (sorted_slots bytes index.entries ordered)
    (λ q. sym (finite.get-entries kept.bodies q) ∙ indexed.bodies q ∙ sym (as_body bytes (slot_at index q))
    ∙ sym (found_in bytes q index.entries ordered))

-- what holds of the slot that is found under each uid holds of each slot
each_with : (P : Slot → Type 0) (uid : Uid) (slot : Option Slot) (slots : List (Uid × Slot)) → IfSome slot P
    → AllByRecursion (λ (s : Uid × Slot). P s.1) slots → AllByRecursion (λ (s : Uid × Slot). P s.1) (with_slot uid slot slots)
each_with P uid None slots here rest = rest
each_with P uid (Some slot) slots here rest = (here, rest)

behind_too : (P : Slot → Type 0) (here : Bool) (slot : Option Slot) (found : Option (Option Slot)) → (here ≡ true → found ≡ None)
    → IfSome (option_and_then (λ slot. slot) (cond here (Some slot) found)) P → IfSome (option_and_then (λ slot. slot) found) P
behind_too P true slot found none has = subst (λ f. IfSome (option_and_then (λ slot. slot) f) P) (sym (none refl)) tt
behind_too P false slot found none has = has

each_of : (P : Slot → Type 0) (es : List (Uid × Option Slot)) → IsStrictlySortedBy uid_cmp (keys_of es)
    → ((uid : Uid) → IfSome (slot_among uid es) P) → AllByRecursion (λ (s : Uid × Slot). P s.1) (slots_in es)
each_of P [] sorted has = tt
each_of P (e ∷ es) sorted has =
    each_with P e.0 e.1 (slots_in es)
    (subst (λ o. IfSome (option_and_then (λ slot. slot) (cond (is_eq o) (Some e.1) (lookup (is_at (uid_cmp e.0)) es))) P)
    (tied_itself uid_cmp_total e.0) (has e.0))
    (each_of P es (sorted_tail uid_cmp e.0 (keys_of es) sorted) (λ q.
    behind_too P (eq_by_cmp uid_cmp q e.0) e.1 (lookup (is_at (uid_cmp q)) es)
    (none_behind q e es (sorted_head uid_cmp e.0 (keys_of es) sorted)) (has q)))

pub each_slot : (P : Slot → Type 0) (index : BTreeMap Uid (Option Slot)) → tree.IsOrdered uid_cmp index
    → ((uid : Uid) → IfSome (slot_at index uid) P) → AllByRecursion (λ (s : Uid × Slot). P s.1) (slots_in index.entries)
each_slot P index ordered has = each_of P index.entries ordered has

-- a body that stands in these bytes is as long as its slot says
body_long : (bytes : List ℕ) (at n : ℕ) → at + n ≤ length bytes → length (slice_range bytes at (at + n)) ≡ n
body_long bytes at n within = omega (arith, length-take (at + n - at) (drop at bytes), length-drop at bytes, within)

-- the values of the slots, moved, are those of the plan with their bodies
values_moved : (bytes : List ℕ) (number first : ℕ) (ss : List (Uid × Slot)) → AreWithin (length bytes) ss
    → moved_from number first (map (value_in bytes) ss) ≡ map (moved_in bytes) (planned_from number first ss)
unfolding moved_from planned_from
values_moved bytes number first [] within = refl
values_moved bytes number first (s ∷ ss) within =
    let b : List ℕ = slice_range bytes (s.1.gate + 15) (s.1.gate + 15 + s.1.length) in
    let long : length b ≡ s.1.length = body_long bytes (s.1.gate + 15) s.1.length within.0 in
    ap (λ n. record {
      head = record { number = number; uid = s.0; removal = false; sequence = number + 1; size = n; first = first };
      body = b;
    } ∷ moved_from (number + 1) (first + blocks_of n) (map (value_in bytes) ss)) long
    ∙ ap (λ ms. moved_in bytes (planned_at number first s.0 s.1) ∷ ms)
    (values_moved bytes (number + 1) (first + blocks_of s.1.length) ss within.1)

-- What a conversion moves is what is planned, with the bodies of the log.
pub moved_is : (index : BTreeMap Uid (Option Slot)) (kept : Kept) (tail : ℕ) (bytes : List ℕ) → tree.IsOrdered uid_cmp index
    → IsIndex index kept tail bytes → ((uid : Uid) → IfSome (slot_at index uid) (λ (s : Slot). s.gate + 15 + s.length ≤ length bytes))
    → moved kept ≡ map (moved_in bytes) (planned index)
moved_is index kept tail bytes ordered indexed within =
    ap (moved_from 0 1024) (entries_are index kept tail bytes ordered indexed)
    ∙ values_moved bytes 0 1024 (slots_in index.entries)
    (each_slot (λ s. s.gate + 15 + s.length ≤ length bytes) index ordered within)

-- a part of an image that is in its first part
part_of_first : (image : List ℕ) (n i j : ℕ) → j ≤ n → slice_range (take n image) i j ≡ slice_range image i j
part_of_first image n i j within = between_is (take n image) i j ∙ ap (drop i) (take-take j n image within) ∙ sym (between_is image i j)

on_first : (image : List ℕ) (n number first : ℕ) (ss : List (Uid × Slot)) → AreWithin n ss
    → map (moved_in (take n image)) (planned_from number first ss) ≡ map (moved_in image) (planned_from number first ss)
unfolding planned_from
on_first image n number first [] within = refl
on_first image n number first (s ∷ ss) within =
    ap (λ b. record { head = head_of (planned_at number first s.0 s.1).head; body = b }
    ∷ map (moved_in (take n image)) (planned_from (number + 1) (first + blocks_of s.1.length) ss))
    (part_of_first image n (s.1.gate + 15) (s.1.gate + 15 + s.1.length) within.0)
    ∙ ap (λ ms. moved_in image (planned_at number first s.0 s.1) ∷ ms)
    (on_first image n (number + 1) (first + blocks_of s.1.length) ss within.1)

-- The same of an image in whose first part the log stands.
pub moved_on : (index : BTreeMap Uid (Option Slot)) (kept : Kept) (tail n : ℕ) (image : List ℕ) → tree.IsOrdered uid_cmp index
    → IsIndex index kept tail (take n image) → n ≤ length image →
    ((uid : Uid) → IfSome (slot_at index uid) (λ (s : Slot). s.gate + 15 + s.length ≤ n))
    → moved kept ≡ map (moved_in image) (planned index)
moved_on index kept tail n image ordered indexed long within =
    let whole : length (take n image) ≡ n = length-take-le n image long in
    moved_is index kept tail (take n image) ordered indexed
    (subst (λ m. (uid : Uid) → IfSome (slot_at index uid) (λ (s : Slot). s.gate + 15 + s.length ≤ m)) (sym whole) within)
    ∙ on_first image n 0 1024 (slots_in index.entries) (each_slot (λ s. s.gate + 15 + s.length ≤ n) index ordered within)

heads_in : (bytes : List ℕ) (ms : List Moved) → map (λ (m : Value). m.head) (map (moved_in bytes) ms) ≡ heads_planned ms
heads_in bytes [] = refl
heads_in bytes (m ∷ ms) = ap (λ hs. head_of m.head ∷ hs) (heads_in bytes ms)

-- the heads of what is moved are those of the plan
pub heads_moved : (kept : Kept) (bytes : List ℕ) (ms : List Moved) → moved kept ≡ map (moved_in bytes) ms
    → moved_heads kept ≡ heads_planned ms
heads_moved kept bytes ms is = ap (map (λ (m : Value). m.head)) is ∙ heads_in bytes ms

blocks_in : (bytes : List ℕ) (number first : ℕ) (ss : List (Uid × Slot))
    → sum_by (λ (m : Value). blocks_of m.head.size) (map (moved_in bytes) (planned_from number first ss)) ≡ blocks_together ss
unfolding planned_from
blocks_in bytes number first [] = refl
blocks_in bytes number first (s ∷ ss) =
    sum_by-cons (λ (m : Value). blocks_of m.head.size) (moved_in bytes (planned_at number first s.0 s.1))
    (map (moved_in bytes) (planned_from (number + 1) (first + blocks_of s.1.length) ss))
    ∙ ap (λ n. blocks_of s.1.length + n) (blocks_in bytes (number + 1) (first + blocks_of s.1.length) ss)
    ∙ sym (sum_by-cons (λ (t : Uid × Slot). blocks_of t.1.length) s ss)

-- and so are its blocks
pub blocks_are : (index : BTreeMap Uid (Option Slot)) (kept : Kept) (bytes : List ℕ) → moved kept ≡ map (moved_in bytes) (planned index)
    → blocks_moved kept ≡ blocks_together (slots_in index.entries)
blocks_are index kept bytes is =
    ap (sum_by (λ (m : Value). blocks_of m.head.size)) is ∙ blocks_in bytes 0 1024 (slots_in index.entries)

more_than : (n : ℕ) → 2944 < n → nat_lt 2944 n ≡ true
more_than n more = grind (arith, nat_tests)

at_most : (n : ℕ) → n ≤ 2944 → nat_lt 2944 n ≡ false
at_most n few = grind (arith, nat_tests)

-- a log that keeps too much, and one that does not
pub too_much : (index : BTreeMap Uid (Option Slot)) (kept : Kept) (bytes : List ℕ) → moved kept ≡ map (moved_in bytes) (planned index)
    → 2944 < blocks_together (slots_in index.entries) → is_too_much (Ok kept) ≡ true
too_much index kept bytes is more = more_than (blocks_moved kept) (subst (λ n. 2944 < n) (sym (blocks_are index kept bytes is)) more)

pub not_too_much : (index : BTreeMap Uid (Option Slot)) (kept : Kept) (bytes : List ℕ) → moved kept ≡ map (moved_in bytes) (planned index)
    → blocks_together (slots_in index.entries) ≤ 2944 → is_too_much (Ok kept) ≡ false
not_too_much index kept bytes is few = at_most (blocks_moved kept) (subst (λ n. n ≤ 2944) (sym (blocks_are index kept bytes is)) few)

-- of a uid of the node, within the limit
abbrev IsOwnBody : ℕ → Uid → List ℕ → Type 0
IsOwnBody node uid body = IsOwn node uid (length body) × (length body ≤ 262144)

abbrev HasSmallUid : Uid × List ℕ → Type 0
HasSmallUid e = (e.0.epoch < 2 ^ 32) × (e.0.serial < 2 ^ 32)

small_uids : (bytes : List ℕ) (number first : ℕ) (ss : List (Uid × Slot)) → AllByRecursion IsMovable (planned_from number first ss)
    → AllByRecursion HasSmallUid (map (value_in bytes) ss)
unfolding planned_from
small_uids bytes number first [] each = tt
small_uids bytes number first (s ∷ ss) each =
    ((each.0.epoch, each.0.serial), small_uids bytes (number + 1) (first + blocks_of s.1.length) ss each.1)

each_good : (node : ℕ) (es : List (Uid × List ℕ)) → AllByRecursion (λ (e : Uid × List ℕ). IsOwnBody node e.0 e.1) es
    → AllByRecursion HasSmallUid es → AllByRecursion (λ (e : Uid × List ℕ). IsGoodEntry node e.0 (length e.1)) es
each_good node [] own small = tt
each_good node (e ∷ es) own small = (
  record { node_is = own.0.0.0; epoch = small.0.0; serial = small.0.1; limit = own.0.1; own = own.0.0.1 },
  each_good node es own.1 small.1,
)

-- What a log keeps, a head can spell, where its uids are those of a plan.
pub good_entries : (node tail : ℕ) (bytes : List ℕ) (index : BTreeMap Uid (Option Slot)) (kept : Kept) → IsLayout log_layout
    → log_map node bytes ≡ Ok kept → tree.IsOrdered uid_cmp index → IsIndex index kept tail bytes → All IsMovable (planned index) →
    AllByRecursion (λ (e : Uid × List ℕ). IsGoodEntry node e.0 (length e.1)) (finite.entries kept.bodies)
good_entries node tail bytes index kept log there ordered indexed movable =
    each_good node (finite.entries kept.bodies) (each_entry (IsOwnBody node) kept (λ uid body h. log.own node bytes kept there uid body h))
    (subst (AllByRecursion HasSmallUid) (sym (entries_are index kept tail bytes ordered indexed))
    (small_uids bytes 0 1024 (slots_in index.entries) (recursion_from_All IsMovable (planned index) movable)))
