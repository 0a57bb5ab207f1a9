-- The chains of a disk, as an opening follows them one behind the other.
use Rattle.std.proofs.Common.{◌≡◌, ℕ, suc, zero, ◌+◌, ◌-◌, ◌≤◌, ◌<◌, ◌/◌, Bool, true, false, ◌&&◌, not, ◌==◌, List, [], ◌∷◌}
use Rattle.std.proofs.Common.{◌++◌}
use Rattle.std.proofs.Common.{length, map, take, drop, eq-eqb, refl, sym, ap, ◌∙◌, arith, inl, inr, Option, None, Some}
use Rattle.std.specs.Prelude.{slice_index, filter, nat_lt, sum_by, if◌then◌else◌, Ok, Err}
use Rattle.std.proofs.Math.Seq.{drop-cons}
use Rattle.std.proofs.lemmas.Bool.{false≢true, cases_eq, both_ways, and_parts, ne_eqb, lt-ltb, le-ltb}
use Rattle.std.proofs.lemmas.Bool.{ltb-true}
use Rattle.std.proofs.lemmas.List.{append-nil, take_all, map-append}
use Rattle.std.proofs.lemmas.List.Elements.{filter_more, filter_agree}
use Rattle.std.proofs.lemmas.List.Sums.{sum_by-cons}
use Rattle.passive_store.specs.Log.{with_record}
use Rattle.block_tables.specs.declared.heads.HeadFields.{HeadFields}
use Rattle.block_tables.specs.declared.table.Table.{Table}
use Rattle.block_tables.specs.declared.head_table.HeadTable.{HeadTable}
use Rattle.block_tables.specs.declared.block_table.BlockTable.{BlockTable}
use Rattle.block_tables.specs.Members.{is_member}
use Rattle.block_tables.specs.Blocks.{Head, Chain, numbers, has, without, head_place, chain_from, chain_of, chains_among}
use Rattle.block_tables.specs.Blocks.{keeping, counts}
use Rattle.block_tables.specs.Blocks.{blocks_of, is_data, data_blocks, next_block, changes_on, change_on}
use Rattle.block_tables.specs.HeadSeen.{head_of}
use Rattle.block_tables.specs.HeadState.{AreHeads, slot_at, closed_slot, entry_at, is_open, is_open_of, is_it, IsLatest, heads_in}
use Rattle.block_tables.specs.BlockState.{AreBlocks, free_in}
use Rattle.block_tables.specs.BlockState.{AreAllFree}
use Rattle.passive_blocks.specs.HeldState.{AreApart, times, one_if, chain_by}
use Rattle.passive_blocks.specs.OpeningState.{AreTaken, AreCounted, keeps_value, kept_to}
use Rattle.passive_blocks.specs.StoreState.{chain_in}
use Rattle.passive_blocks.specs.OpeningState.{kept_behind}
use Rattle.passive_blocks.proofs.HeldCounts.{some_times, walk_stays, sum_same, sum_two}
use Rattle.passive_blocks.proofs.HeldCounts.{sum_ones, sum_times}
use Rattle.passive_blocks.proofs.HeldSums.{latest_counts, other_counts_not, is_of}

-- as many blocks are left as were free before the others were taken
pub all_counted : (b0 b : BlockTable) (first : ℕ) (taken : List ℕ) → AreBlocks b0 → AreTaken b0 b first taken
    → length (free_in b) + length taken ≡ length (free_in b0)
all_counted b0 b first taken are t =
    let long : length b.free ≡ length b0.free = omega (arith, are.free, t.blocks.free, ap (λ s. s / 1024) t.size) in
    let n : ℕ = length b0.free in
    let inside : (k : ℕ) → 1 ≤ times k taken → k < n =
    λ k some. within k (is_member b0.free k) refl (omega (arith, t.places k, some)) in
    omega (
      arith,
      ap (λ m. length (filter (is_member b.free) (numbers 0 m))) long,
      sum_ones (is_member b.free) (numbers 0 n),
      sum_ones (is_member b0.free) (numbers 0 n),
      sum_times taken n inside,
      sum_two (λ k. one_if (is_member b.free k)) (λ k. times k taken) (numbers 0 n),
      sum_same (λ k. one_if (is_member b.free k) + times k taken) (λ k. one_if (is_member b0.free k)) (numbers 0 n) t.places,
    )
  where
    within : (k : ℕ) (c : Bool) → is_member b0.free k ≡ c → 1 ≤ one_if (is_member b0.free k) → k < length b0.free
    within k true is some =
        let e = and_parts (nat_lt (b0.size / 32768) k) (nat_lt k (b0.size / 1024)) (are.inside k is) in
        omega (arith, ltb-true k (b0.size / 1024) e.1, are.free)
    within k false is some = absurd (omega (arith, some, ap one_if is))

-- A walk over earlier chains stays where the blocks behind theirs stay.
pub chains_map_stay : (next new : List ℕ) (hs : List Head)
    → ((k : ℕ) → 1 ≤ sum_by (λ (h : Head). times k (chain_by next h)) hs → slice_index new k ≡ slice_index next k)
    → map (chain_in new) hs ≡ map (chain_in next) hs
chains_map_stay next new [] same = refl
chains_map_stay next new (h ∷ hs) same =
    let chain : chain_by new h ≡ chain_by next h =
    walk_stays next new h.first (blocks_of h.size) (λ j there.
    same j (omega (arith, sum_by-cons (λ (g : Head). times j (chain_by next g)) h hs, some_times j (chain_by next h) there))) in
    ap (λ bs. record { head = h; blocks = bs; whole = true } ∷ map (chain_in new) hs) chain
    ∙ ap (λ cs. chain_in next h ∷ cs) (chains_map_stay next new hs (λ j some.
    same j (omega (arith, sum_by-cons (λ (g : Head). times j (chain_by next g)) h hs, some))))

-- no more is summed of one of the first heads that keep values than of all of them
kept_step : (w : Head → ℕ) (b : Bool) (s : HeadFields) (rest : List HeadFields)
    → sum_by w (map head_of rest) ≤ sum_by w (map head_of (if b then s ∷ rest else rest))
kept_step w true s rest = omega (arith, sum_by-cons w (head_of s) (map head_of rest))
kept_step w false s rest = omega arith

pub one_of_kept : (w : Head → ℕ) (p : HeadFields → Bool) (slots : List HeadFields) (i k : ℕ) → k < i → p closed_slot ≡ false
    → p (slot_at slots k) ≡ true → w (head_of (slot_at slots k)) ≤ sum_by w (map head_of (filter p (take i slots)))
one_of_kept w p slots zero k below shut is = absurd (omega (arith, below))
one_of_kept w p [] (suc i) k below shut is = absurd (both_ways (p closed_slot) shut is)
one_of_kept w p (s ∷ slots) (suc i) zero below shut is =
    let first : sum_by w (map head_of (filter p (take (suc i) (s ∷ slots)))) ≡ sum_by w (head_of s ∷ map head_of (filter p
    (take i slots))) =
    ap (λ b. sum_by w (map head_of (if b then s ∷ filter p (take i slots) else filter p (take i slots)))) is in
    omega (arith, first, sum_by-cons w (head_of s) (map head_of (filter p (take i slots))))
one_of_kept w p (s ∷ slots) (suc i) (suc k) below shut is =
    omega (arith, one_of_kept w p slots i k (omega (arith, below)) shut is, kept_step w (p s) s (filter p (take i slots)))

-- the heads that keep values, behind some of them
pub behind_one : (p : HeadFields → Bool) (slots : List HeadFields) (i : ℕ) → i < length slots
    → filter p (drop i slots) ≡ (if p (slot_at slots i) then slot_at slots i ∷ filter p (drop (i + 1) slots) else filter p (drop
    (i + 1) slots))
behind_one p slots i within =
    let one : suc i ≡ i + 1 = omega arith in
    ap (filter p) (drop-cons slots i closed_slot within ∙ ap (λ n. slot_at slots i ∷ drop n slots) one)

pub chain_head : (h : Head) (image free : List ℕ) (block count : ℕ) → (chain_from h image free block count).head ≡ h
unfolding chain_from
chain_head h image free block zero = refl
chain_head h image free block (suc more) = go (has block free) refl (chain_head h image (without (block ∷ []) free)
    (next_block image block) more)
  where
    go : (b : Bool) → has block free ≡ b → (chain_from h image (without (block ∷ []) free) (next_block image block) more).head ≡ h
        → (chain_from h image free block (suc more)).head ≡ h
    go true is rest = rw is rest
    go false is rest = rw is refl

-- one chain more, whole
pub chains_more : (image free left : List ℕ) (h : Head) (hs : List Head) (blocks : List ℕ)
    → chain_of image free h ≡ record { head = h; blocks = blocks; whole = true } → left ≡ without blocks free
    → chains_among image free (h ∷ hs) ≡ record { head = h; blocks = blocks; whole = true } ∷ chains_among image left hs
unfolding chains_among
chains_more image free left h hs blocks is left_is =
    ap (λ (c : Chain). c ∷ (if c.whole then chains_among image (without c.blocks free) hs else [])) is
    ∙ ap (λ fr. record { head = h; blocks = blocks; whole = true } ∷ chains_among image fr hs) (sym left_is)

-- or damaged
pub chains_end : (image free : List ℕ) (h : Head) (hs : List Head) → (chain_of image free h).whole ≡ false
    → chains_among image free (h ∷ hs) ≡ chain_of image free h ∷ []
unfolding chains_among
chains_end image free h hs is =
    ap (λ b. chain_of image free h ∷ (if b then chains_among image (without (chain_of image free h).blocks free) hs else [])) is

pub changes_end : (image next : List ℕ) (hs : List Head) (c : Chain) → c.whole ≡ false
    → changes_on image (map (chain_in next) hs ++ c ∷ []) ≡ Err (head_place c.head.number)
changes_end image next [] c is = ap (λ b. if b then with_record (change_on image c) (Ok []) else Err (head_place c.head.number)) is
changes_end image next (h ∷ hs) c is = ap (with_record (change_on image (chain_in next h))) (changes_end image next hs c is)

-- the numbers between two
all_between : (a b from n : ℕ) → a < from → from + n ≡ b → filter (λ k. nat_lt a k && nat_lt k b) (numbers from n) ≡ numbers from n
unfolding numbers
all_between a b from zero above long = refl
all_between a b from (suc n) above long =
    let rest = all_between a b (from + 1) n (omega (arith, above)) (omega (arith, long)) in
    ap (λ c. if c && nat_lt from b then from ∷ filter (λ k. nat_lt a k && nat_lt k b) (numbers (from + 1) n)
    else filter (λ k. nat_lt a k && nat_lt k b) (numbers (from + 1) n)) (lt-ltb a from above)
    ∙ ap (λ c. if c then from ∷ filter (λ k. nat_lt a k && nat_lt k b) (numbers (from + 1) n)
    else filter (λ k. nat_lt a k && nat_lt k b) (numbers (from + 1) n)) (lt-ltb from b (omega (arith, long)))
    ∙ ap (λ ns. from ∷ ns) rest

some_between : (a b from n : ℕ) → from ≤ suc a → suc a ≤ b → from + n ≡ b
    → filter (λ k. nat_lt a k && nat_lt k b) (numbers from n) ≡ numbers (suc a) (b - suc a)
unfolding numbers
some_between a b from zero below within long =
    let none : zero ≡ b - suc a = omega (arith, below, within, long) in ap (numbers (suc a)) none
some_between a b from (suc n) below within long = elim (cases_eq from (suc a)) [
  | inl same ↦
      all_between a b from (suc n) (omega (arith, same)) long
      ∙ ap (λ f. numbers f (suc n)) same
      ∙ (let count : suc n ≡ b - suc a = omega (arith, same, long) in ap (numbers (suc a)) count)
  | inr other ↦
      ap (λ c. if c && nat_lt from b then from ∷ filter (λ k. nat_lt a k && nat_lt k b) (numbers (from + 1) n)
      else filter (λ k. nat_lt a k && nat_lt k b) (numbers (from + 1) n)) (le-ltb a from (omega (arith, below, other)))
      ∙ some_between a b (from + 1) n (omega (arith, below, other)) within (omega (arith, long))
]

-- all blocks for data are free
pub data_free : (b : BlockTable) (size : ℕ) → AreBlocks b → AreAllFree b → b.size ≡ size → 32768 ≤ size → free_in b ≡ data_blocks size
data_free b size are free is least =
    let long : length b.free ≡ size / 1024 = omega (arith, are.free, ap (λ s. s / 1024) is) in
    let first : suc (size / 32768) ≡ 1 + size / 32768 = omega arith in
    filter_agree (is_member b.free) (is_data size) (λ k. free.free k ∙ ap (λ s. is_data s k) is) (numbers 0 (length b.free))
    ∙ ap (λ n. filter (is_data size) (numbers 0 n)) long
    ∙ some_between (size / 32768) (size / 1024) 0 (size / 1024) (omega arith) (omega (arith, least)) (omega arith)
    ∙ ap (λ f. numbers f (size / 1024 - f)) first

-- The heads that keep values, among the open ones and in memory.
kept_by_test : (p : Head → Bool) (q : HeadFields → Bool) (slots : List HeadFields)
    → ((k : ℕ) → q (slot_at slots k) ≡ (is_open (slot_at slots k) && p (head_of (slot_at slots k))))
    → filter p (heads_in slots) ≡ map head_of (filter q slots)
kept_by_test p q [] same = refl
kept_by_test p q (s ∷ slots) same = go (is_open s) refl (kept_by_test p q slots (λ k. same (suc k)))
  where
    keep : (b : Bool) → q s ≡ b → p (head_of s) ≡ b → filter p (heads_in slots) ≡ map head_of (filter q slots)
        → (if p (head_of s) then head_of s ∷ filter p (heads_in slots) else filter p (heads_in slots))
        ≡ map head_of (if q s then s ∷ filter q slots else filter q slots)
    keep true is at rest =
        ap (λ c. if c then head_of s ∷ filter p (heads_in slots) else filter p (heads_in slots)) at ∙ ap (λ hs. head_of s ∷ hs) rest
        ∙ sym (ap (λ c. map head_of (if c then s ∷ filter q slots else filter q slots)) is)
    keep false is at rest =
        ap (λ c. if c then head_of s ∷ filter p (heads_in slots) else filter p (heads_in slots)) at ∙ rest
        ∙ sym (ap (λ c. map head_of (if c then s ∷ filter q slots else filter q slots)) is)

    go : (b : Bool) → is_open s ≡ b → filter p (heads_in slots) ≡ map head_of (filter q slots)
        → filter p (map head_of (if is_open s then s ∷ filter is_open slots else filter is_open slots))
        ≡ map head_of (if q s then s ∷ filter q slots else filter q slots)
    go true opened rest =
        ap (λ b. filter p (map head_of (if b then s ∷ filter is_open slots else filter is_open slots))) opened
        ∙ keep (p (head_of s)) (same zero ∙ ap (λ b. b && p (head_of s)) opened) refl rest
    go false shut rest =
        ap (λ b. filter p (map head_of (if b then s ∷ filter is_open slots else filter is_open slots))) shut
        ∙ rest
        ∙ sym (ap (λ c. map head_of (if c then s ∷ filter q slots else filter q slots)) (same zero ∙ ap (λ b. b && p (head_of s)) shut))

-- the head that counts in memory is the one that counts
counts_at : (h : HeadTable) (k : ℕ) → AreHeads h → AreApart h.slots.items → is_open (slot_at h.slots.items k) ≡ true
    → is_it k (entry_at h.index (slot_at h.slots.items k).uid).latest ≡ counts (heads_in h.slots.items) (head_of (slot_at h.slots.items k))
counts_at h k are apart opened =
    go (entry_at h.index s.uid).latest (are.entries s.uid).0
  where
    s : HeadFields
    s = slot_at h.slots.items k

    there : is_open_of s.uid s ≡ true
    there = is_of s s.uid opened refl

    go : (latest : Option ℕ) → IsLatest h.slots.items s.uid latest → is_it k latest ≡ counts (heads_in h.slots.items) (head_of s)
    go None is = absurd (both_ways (is_open_of s.uid s) (is k) there)
    go (Some m) is = elim (cases_eq k m) [
      | inl same ↦
          ap (λ n. k == n) (sym same) ∙ own k
          ∙ sym (ap (λ n. counts (heads_in h.slots.items) (head_of (slot_at h.slots.items n))) same
          ∙ latest_counts h.slots.items s.uid m is)
      | inr other ↦ apart_from m other ∙ sym (other_counts_not h.slots.items s.uid m k apart is there other)
    ]
      where
        own : (n : ℕ) → (n == n) ≡ true
        own n = eq-eqb n n refl

        apart_from : (m : ℕ) → (k ≡ m → ⊥) → (k == m) ≡ false
        apart_from m other = ne_eqb k m other

pub keeping_is : (t : Table) → AreCounted t → keeping (heads_in t.heads.slots.items) ≡ map head_of (filter
    (keeps_value t.heads) t.heads.slots.items)
keeping_is t counted =
    let slots : List HeadFields = t.heads.slots.items in
    kept_by_test (λ h. counts (heads_in slots) h && not h.removal) (keeps_value t.heads) slots (λ k. test k (is_open
    (slot_at slots k)) refl)
  where
    test : (k : ℕ) (b : Bool) → is_open (slot_at t.heads.slots.items k) ≡ b → keeps_value t.heads (slot_at t.heads.slots.items k)
        ≡ (is_open (slot_at t.heads.slots.items k)
        && (counts (heads_in t.heads.slots.items) (head_of (slot_at t.heads.slots.items k)) && not (slot_at t.heads.slots.items k).removal))
    test k true opened =
        let s : HeadFields = slot_at t.heads.slots.items k in
        ap (λ c. is_open s && (c && not s.removal))
        (ap (λ n. is_it n (entry_at t.heads.index s.uid).latest) (counted.table.heads.numbered k opened)
        ∙ counts_at t.heads k counted.table.heads counted.apart opened)
    test k false shut =
        let s : HeadFields = slot_at t.heads.slots.items k in
        ap (λ b. b && (is_it s.number (entry_at t.heads.index s.uid).latest && not s.removal)) shut
        ∙ sym (ap (λ b. b && (counts (heads_in t.heads.slots.items) (head_of s) && not s.removal)) shut)

-- what stands under a number keeps a value or not
pub value_is : (h : HeadTable) (k : ℕ) → AreHeads h
    → (if (is_open (slot_at h.slots.items k) && is_it k (entry_at h.index (slot_at h.slots.items k).uid).latest) && not
    (slot_at h.slots.items k).removal
    then Some (slot_at h.slots.items k) else None)
    ≡ (if keeps_value h (slot_at h.slots.items k) then Some (slot_at h.slots.items k) else None)
value_is h k are = go (is_open (slot_at h.slots.items k)) refl
  where
    s : HeadFields
    s = slot_at h.slots.items k

    go : (b : Bool) → is_open s ≡ b
        → (if (is_open s && is_it k (entry_at h.index s.uid).latest) && not s.removal then Some s else None)
        ≡ (if keeps_value h s then Some s else None)
    go true opened =
        ap (λ b. if (b && is_it k (entry_at h.index s.uid).latest) && not s.removal then Some s else None) opened
        ∙ ap (λ n. if is_it n (entry_at h.index s.uid).latest && not s.removal then Some s else None) (sym (are.numbered k opened))
        ∙ sym (ap (λ b. if b && (is_it s.number (entry_at h.index s.uid).latest && not s.removal) then Some s else None) opened)
    go false shut =
        ap (λ b. if (b && is_it k (entry_at h.index s.uid).latest) && not s.removal then Some s else None) shut
        ∙ sym (ap (λ b. if b && (is_it s.number (entry_at h.index s.uid).latest && not s.removal) then Some s else None) shut)

value_there : (b : Bool) (s v : HeadFields) → (if b then Some s else None) ≡ Some v → (b ≡ true) × (s ≡ v)
value_there true s v is = (refl, let same : s ≡ v = cc in same)
value_there false s v is = absurd (let bad : None ≡ Some v = is in cc)

none_there : (b : Bool) (s : HeadFields) → (if b then Some s else None) ≡ None → b ≡ false
none_there true s is = absurd (let bad : Some s ≡ None = is in cc)
none_there false s is = refl

pub found_value : (h : HeadTable) (k : ℕ) (found : Option HeadFields) (v : HeadFields) → AreHeads h
    → found ≡ (if (is_open (slot_at h.slots.items k) && is_it k (entry_at h.index (slot_at h.slots.items k).uid).latest)
    && not (slot_at h.slots.items k).removal then Some (slot_at h.slots.items k) else None)
    → found ≡ Some v → (keeps_value h (slot_at h.slots.items k) ≡ true) × (slot_at h.slots.items k ≡ v)
found_value h k found v are is some = value_there (keeps_value h (slot_at h.slots.items k)) (slot_at h.slots.items k) v (sym (is
    ∙ value_is h k are) ∙ some)

pub found_none : (h : HeadTable) (k : ℕ) (found : Option HeadFields) → AreHeads h
    → found ≡ (if (is_open (slot_at h.slots.items k) && is_it k (entry_at h.index (slot_at h.slots.items k).uid).latest)
    && not (slot_at h.slots.items k).removal then Some (slot_at h.slots.items k) else None)
    → found ≡ None → keeps_value h (slot_at h.slots.items k) ≡ false
found_none h k found are is none = none_there (keeps_value h (slot_at h.slots.items k)) (slot_at h.slots.items k) (sym (is
    ∙ value_is h k are) ∙ none)

-- before the first head, and behind the last
pub to_none : (t : Table) → kept_to t 0 ≡ []
to_none t = refl

pub to_all : (t : Table) (i : ℕ) → length t.heads.slots.items ≤ i → kept_to t i ≡ map head_of (filter
    (keeps_value t.heads) t.heads.slots.items)
to_all t i all = ap (λ s. map head_of (filter (keeps_value t.heads) s)) (take_all i t.heads.slots.items all)

-- one more head was passed, which keeps no value
pub to_skip : (t : Table) (i : ℕ) → i < length t.heads.slots.items → keeps_value t.heads (slot_at t.heads.slots.items i) ≡ false
    → (kept_to t (i + 1) ≡ kept_to t i) × (kept_behind t i ≡ kept_behind t (i + 1))
to_skip t i within none =
    let p : HeadFields → Bool = keeps_value t.heads in
    let s : HeadFields = slot_at t.heads.slots.items i in (
      ap (map head_of) (filter_more p t.heads.slots.items i closed_slot within
          ∙ ap (λ b. filter p (take i t.heads.slots.items) ++ (if b then s ∷ [] else [])) none ∙ append-nil (filter p
          (take i t.heads.slots.items))),
      ap (map head_of) (behind_one p t.heads.slots.items i within
          ∙ ap (λ b. if b then s ∷ filter p (drop (i + 1) t.heads.slots.items) else filter p (drop (i + 1) t.heads.slots.items)) none),
    )

-- or which keeps one
pub to_more : (t : Table) (i : ℕ) (v : HeadFields) → i < length t.heads.slots.items → keeps_value t.heads
    (slot_at t.heads.slots.items i) ≡ true
    → slot_at t.heads.slots.items i ≡ v
    → (kept_to t (i + 1) ≡ kept_to t i ++ head_of v ∷ []) × (kept_behind t i ≡ head_of v ∷ kept_behind t (i + 1))
to_more t i v within is v_is =
    let p : HeadFields → Bool = keeps_value t.heads in
    let s : HeadFields = slot_at t.heads.slots.items i in (
      ap (map head_of) (filter_more p t.heads.slots.items i closed_slot within
          ∙ ap (λ b. filter p (take i t.heads.slots.items) ++ (if b then s ∷ [] else [])) is
          ∙ ap (λ x. filter p (take i t.heads.slots.items) ++ x ∷ []) v_is)
          ∙ map-append head_of (filter p (take i t.heads.slots.items)) (v ∷ []),
      ap (map head_of) (behind_one p t.heads.slots.items i within
          ∙ ap (λ b. if b then s ∷ filter p (drop (i + 1) t.heads.slots.items) else filter p (drop (i + 1) t.heads.slots.items)) is
          ∙ ap (λ x. x ∷ filter p (drop (i + 1) t.heads.slots.items)) v_is),
    )

-- a number of a head that was read is short
pub value_few : (h : HeadTable) (k : ℕ) (v : HeadFields) → AreHeads h → keeps_value h (slot_at h.slots.items k) ≡ true
    → slot_at h.slots.items k ≡ v → v.number < 65536
value_few h k v are keeps v_is =
    let s : HeadFields = slot_at h.slots.items k in
    let opened : is_open s ≡ true =
    (and_parts (is_open s) (is_it s.number (entry_at h.index s.uid).latest && not s.removal) keeps).0 in
    omega (arith, ap (λ (x : HeadFields). x.number) v_is, are.numbered k opened, inside h.slots.items k opened, are.long)
  where
    inside : (slots : List HeadFields) (k : ℕ) → is_open (slot_at slots k) ≡ true → k < length slots
    inside [] k there = absurd (false≢true there)
    inside (s ∷ slots) zero there = omega arith
    inside (s ∷ slots) (suc k) there = omega (arith, inside slots k there)
