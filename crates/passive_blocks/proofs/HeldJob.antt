-- The device calls of a change that is chosen are those of the layout, by what memory has.
use Rattle.std.proofs.Common.{◌≡◌, ℕ, suc, zero, ◌+◌, ◌/◌, ◌≤◌, ◌<◌, Bool, true, false, cond, ◌||◌, ◌&&◌, not, ◌==◌}
use Rattle.std.proofs.Common.{List, [], ◌∷◌, ◌++◌, length, map, set, take, refl, sym, ap, subst, ◌∙◌, arith, inl, inr, Option, None}
use Rattle.std.proofs.Common.{Some, eq-eqb}
use Rattle.std.specs.Prelude.{if◌then◌else◌, nat_lt, filter, flat_map, max, Ok}
use Rattle.std.specs.List.{find, list_any, list_all}
use Rattle.std.specs.Ordering.{eq_by_cmp}
use Rattle.std.proofs.lemmas.Bool.{false≢true, cases_eq, cases_Bool, and_parts, both_ways, false_from_ne_true}
use Rattle.std.proofs.lemmas.Bool.{eqb-true, ne_eqb, lt-ltb, le-ltb, ltb-false, not-true}
use Rattle.std.proofs.lemmas.Bool.Decides.{nat_tests}
use Rattle.capability.specs.declared.Uid.{Uid}
use Rattle.capability.specs.Uids.{uid_cmp}
use Rattle.eden_disk.specs.Calls.{Counts}
use Rattle.passive_store.specs.Acts.{Write, Sync}
use Rattle.block_tables.specs.declared.heads.HeadFields.{HeadFields}
use Rattle.block_tables.specs.declared.table.Table.{Table}
use Rattle.block_tables.specs.declared.head_table.HeadTable.{HeadTable}
use Rattle.passive_blocks.specs.declared.block_store.Pending.{Pending}
use Rattle.passive_blocks.specs.declared.block_store.Stage.TheVariants.{Close, Write as WritePart, Head as WriteHead}
use Rattle.block_tables.specs.Members.{is_member}
use Rattle.block_tables.specs.Greatest.{peak}
use Rattle.block_tables.specs.Blocks.{Head, same_uid, counts, is_alone, keeping, closing, greatest, numbers, has, without}
use Rattle.block_tables.specs.Blocks.{taken_by}
use Rattle.block_tables.specs.Blocks.{head_place, data_blocks, data_count, is_data, is_block_size, blocks_of, blocks_for}
use Rattle.block_tables.specs.Blocks.{chains_of, heads_of, heads_or_none}
use Rattle.block_tables.specs.Changes.{is_taken, free_head, free_blocks, number_or_zero, first_or_zero, chain_writes, spelled_head}
use Rattle.block_tables.specs.Changes.{new_head}
use Rattle.block_tables.specs.Changes.{is_removal, size_of, bytes_of, calls_over, blocks_job}
use Rattle.block_tables.specs.HeadSeen.{head_of}
use Rattle.block_tables.specs.HeadState.{heads_in, slot_at, entry_at, is_open, is_open_of, is_it, IsLatest, count_of}
use Rattle.block_tables.specs.HeadState.{one_if_some}
use Rattle.block_tables.specs.HeadState.{closed_slot}
use Rattle.block_tables.specs.BlockState.{walk, free_in}
use Rattle.block_tables.specs.TableState.{IsTable, greatest_in, blocks_chosen}
use Rattle.passive_blocks.specs.StoreState.{members_of, chain_in, last_calls, calls_from, calls_behind, calls_at}
use Rattle.passive_blocks.specs.HeldState.{IsHeld, AreApart, times, one_if, chain_by, times_kept, blocks_planned, closes_next}
use Rattle.passive_blocks.specs.KeptState.{HasChains}
use Rattle.block_tables.proofs.Slots.{own_uid, same_uids, two_of, fewer_of, slot_same, slot_other}
use Rattle.block_tables.proofs.OpenHeads.{open_within}
use Rattle.passive_blocks.proofs.StageChains.{times_flat}
use Rattle.passive_blocks.proofs.HeldSums.{head_step, each_open, of_open, implied, uid_is, is_of, latest_counts}
use Rattle.passive_blocks.proofs.HeldSums.{other_counts_not}
use Rattle.passive_blocks.proofs.HeldCounts.{some_times, no_times}
use Rattle.passive_blocks.proofs.HeldClosing.{it_is}

-- The heads that pass a test, by their numbers.
numbers_passing : (D : ℕ → Bool) (C : Head → Bool) (slots : List HeadFields) (from : ℕ)
    → ((i : ℕ) → i < length slots → D (from + i) ≡ (is_open (slot_at slots i) && C (head_of (slot_at slots i))))
    → ((i : ℕ) → is_open (slot_at slots i) ≡ true → (slot_at slots i).number ≡ from + i)
    → map (λ (h : Head). h.number) (filter C (heads_in slots)) ≡ filter D (numbers from (length slots))
unfolding numbers
numbers_passing D C [] from test numbered = refl
numbers_passing D C (s ∷ slots) from test numbered =
    ap (λ hs. map (λ (h : Head). h.number) (filter C hs)) (head_step (is_open s) s (filter is_open slots))
    ∙ go (is_open s) (C (head_of s)) refl refl (ap D (omega arith) ∙ test zero (omega arith))
    (numbers_passing D C slots (from + 1)
    (λ i within. ap D (omega arith) ∙ test (suc i) (omega (arith, within)))
    (λ i opened. numbered (suc i) opened ∙ omega arith))
  where
    go : (b c : Bool) → is_open s ≡ b → C (head_of s) ≡ c → D from ≡ (is_open s && C (head_of s))
        → map (λ (h : Head). h.number) (filter C (heads_in slots)) ≡ filter D (numbers (from + 1) (length slots))
        → map (λ (h : Head). h.number) (filter C (if b then head_of s ∷ heads_in slots else heads_in slots))
        ≡ (if D from then from ∷ filter D (numbers (from + 1) (length slots)) else filter D (numbers (from + 1) (length slots)))
    go true true opened passes is rest =
        ap (λ x. map (λ (h : Head). h.number) (if x then head_of s ∷ filter C (heads_in slots) else filter C (heads_in slots))) passes
        ∙ ap (λ n. n ∷ map (λ (h : Head). h.number) (filter C (heads_in slots))) (numbered zero opened ∙ omega arith)
        ∙ ap (λ ns. from ∷ ns) rest
        ∙ sym (ap (λ x. if x then from ∷ filter D (numbers (from + 1) (length slots)) else filter D (numbers (from + 1) (length slots)))
        (is ∙ ap (λ x. x && C (head_of s)) opened ∙ passes))
    go true false opened passes is rest =
        ap (λ x. map (λ (h : Head). h.number) (if x then head_of s ∷ filter C (heads_in slots) else filter C (heads_in slots))) passes
        ∙ rest
        ∙ sym (ap (λ x. if x then from ∷ filter D (numbers (from + 1) (length slots)) else filter D (numbers (from + 1) (length slots)))
        (is ∙ ap (λ x. x && C (head_of s)) opened ∙ passes))
    go false c opened passes is rest =
        rest
        ∙ sym (ap (λ x. if x then from ∷ filter D (numbers (from + 1) (length slots)) else filter D (numbers (from + 1) (length slots)))
        (is ∙ ap (λ x. x && C (head_of s)) opened))

-- an open head counts among all where it does in memory
pub counts_is : (slots : List HeadFields) (k : ℕ) (latest : Option ℕ) → AreApart slots → is_open (slot_at slots k) ≡ true
    → IsLatest slots (slot_at slots k).uid latest → counts (heads_in slots) (head_of (slot_at slots k)) ≡ is_it k latest
counts_is slots k None apart opened is =
    absurd (both_ways (is_open_of (slot_at slots k).uid (slot_at slots k)) (is k) (own_uid (slot_at slots k) opened))
counts_is slots k (Some m) apart opened is = elim (cases_eq k m) [
  | inl same ↦
      ap (λ j. counts (heads_in slots) (head_of (slot_at slots j))) same ∙ latest_counts slots (slot_at slots k).uid m is
      ∙ sym (eq-eqb k m same)
  | inr other ↦
      other_counts_not slots (slot_at slots k).uid m k apart is (own_uid (slot_at slots k) opened) other ∙ sym (ne_eqb k m other)
]

pub one_passes : (p : HeadFields → Bool) (slots : List HeadFields) → 1 ≤ length (filter p slots) → (j : ℕ) × (p (slot_at slots j) ≡ true)
one_passes p [] some = absurd (omega (arith, some))
one_passes p (s ∷ slots) some = go (p s) refl some (λ more. one_passes p slots more)
  where
    go : (b : Bool) → p s ≡ b → 1 ≤ length (if b then s ∷ filter p slots else filter p slots)
        → (1 ≤ length (filter p slots) → (j : ℕ) × (p (slot_at slots j) ≡ true)) → (j : ℕ) × (p (slot_at (s ∷ slots) j) ≡ true)
    go true is more rest = (zero, is)
    go false is more rest = let found = rest more in (suc found.0, found.1)

-- the head that counts is alone where no other of its uid is open
alone_is : (slots : List HeadFields) (k others : ℕ) → is_open (slot_at slots k) ≡ true
    → ((j : ℕ) → is_open (slot_at slots j) ≡ true → (slot_at slots j).number ≡ j)
    → others + 1 ≡ count_of slots (slot_at slots k).uid → is_alone (heads_in slots) (head_of (slot_at slots k)) ≡ (others == 0)
alone_is slots k others opened numbered count = elim (cases_eq others 0) [
  | inl none ↦
      each_open (λ g. not (same_uid g (head_of s)) || g.number == s.number) slots (λ j there.
      implied (eq_by_cmp uid_cmp (slot_at slots j).uid s.uid) ((slot_at slots j).number == s.number) (λ same.
      elim (cases_eq j k) [
        | inl e ↦ eq-eqb (slot_at slots j).number s.number (ap (λ i. (slot_at slots i).number) e)
        | inr apart ↦ absurd (two_here others (count_of slots s.uid) none count
            (two_of slots s.uid k j (open_within slots k opened) (own_uid s opened) apart
            (is_of (slot_at slots j) s.uid there (same_uids (slot_at slots j).uid s.uid same))))
      ]))
      ∙ sym (eq-eqb others 0 none)
  | inr some ↦
      false_from_ne_true (is_alone (heads_in slots) (head_of s)) (λ alone.
      let found = one_passes (is_open_of s.uid) (set slots k closed_slot)
      (fewer (length (filter (is_open_of s.uid) (set slots k closed_slot))) others (count_of slots s.uid) some count
      (fewer_of slots s.uid k (open_within slots k opened) (own_uid s opened))) in
      let apart : found.0 ≡ k → ⊥ = λ e. false≢true (sym (ap (is_open_of s.uid) (ap (slot_at (set slots k closed_slot)) e
      ∙ slot_same slots k closed_slot (open_within slots k opened))) ∙ found.1) in
      let at : slot_at (set slots k closed_slot) found.0 ≡ slot_at slots found.0 = slot_other slots k found.0 closed_slot apart in
      let other : is_open_of s.uid (slot_at slots found.0) ≡ true = sym (ap (is_open_of s.uid) at) ∙ found.1 in
      let there : is_open (slot_at slots found.0) ≡ true =
      (and_parts (is_open (slot_at slots found.0)) (eq_by_cmp uid_cmp (slot_at slots found.0).uid s.uid) other).0 in
      apart (sym (numbered found.0 there)
      ∙ eqb-true (slot_at slots found.0).number s.number
      (yes_then (eq_by_cmp uid_cmp (slot_at slots found.0).uid s.uid) ((slot_at slots found.0).number == s.number)
      (of_open (λ g. not (same_uid g (head_of s)) || g.number == s.number) slots found.0 alone there)
      (and_parts (is_open (slot_at slots found.0)) (eq_by_cmp uid_cmp (slot_at slots found.0).uid s.uid) other).1)
      ∙ numbered k opened))
      ∙ sym (ne_eqb others 0 some)
]
  where
    s : HeadFields
    s = slot_at slots k

    two_here : (others count : ℕ) → others ≡ 0 → others + 1 ≡ count → 2 ≤ count → ⊥
    two_here others count none is two = omega (arith, none, is, two)

    fewer : (n others count : ℕ) → (others ≡ 0 → ⊥) → others + 1 ≡ count → n + 1 ≡ count → 1 ≤ n
    fewer n others count some is less = omega (arith, some, is, less)

    yes_then : (b l : Bool) → (not b || l) ≡ true → b ≡ true → l ≡ true
    yes_then true l is e = is
    yes_then false l is e = absurd (false≢true e)

by_latest : (c i r a z : Bool) → c ≡ i → (i ≡ true → a ≡ z) → (not c || (r && a)) ≡ (not i || (r && z))
by_latest c true r a z same alone = ap (λ b. not b || (r && a)) same ∙ ap (λ b. r && b) (alone refl)
by_latest c false r a z same alone = ap (λ b. not b || (r && a)) same

-- The heads that the next change closes, by their numbers.
pub closing_listed : (t : Table) → IsTable t → AreApart t.heads.slots.items
    → map (λ (h : Head). h.number) (closing (heads_in t.heads.slots.items)) ≡ filter (closes_next t) (numbers 0
    (length t.heads.slots.items))
closing_listed t is apart =
    let slots : List HeadFields = t.heads.slots.items in
    let heads : List Head = heads_in slots in
    let C : Head → Bool = λ h. not (counts heads h) || (h.removal && is_alone heads h) in
    numbers_passing (closes_next t) C slots 0 (λ i within. ap (closes_next t) (omega arith)
    ∙ test i) (λ i opened. is.heads.numbered i opened ∙ omega arith)
  where
    test : (i : ℕ) → closes_next t i ≡ (is_open (slot_at t.heads.slots.items i)
        && (not (counts (heads_in t.heads.slots.items) (head_of (slot_at t.heads.slots.items i)))
        || ((slot_at t.heads.slots.items i).removal && is_alone (heads_in t.heads.slots.items) (head_of (slot_at t.heads.slots.items i)))))
    test i = elim (cases_Bool (is_open (slot_at t.heads.slots.items i))) [
      | inr shut ↦
          ap (λ b. b && (not (is_it i (entry_at t.heads.index (slot_at t.heads.slots.items i).uid).latest)
          || ((slot_at t.heads.slots.items i).removal && (entry_at t.heads.index (slot_at t.heads.slots.items i).uid).others == 0))) shut
          ∙ sym (ap (λ b. b && (not (counts (heads_in t.heads.slots.items) (head_of (slot_at t.heads.slots.items i)))
          || ((slot_at t.heads.slots.items i).removal && is_alone (heads_in t.heads.slots.items) (head_of
          (slot_at t.heads.slots.items i))))) shut)
      | inl opened ↦
          ap (λ b. is_open (slot_at t.heads.slots.items i) && b)
          (sym (by_latest (counts (heads_in t.heads.slots.items) (head_of (slot_at t.heads.slots.items i)))
          (is_it i (entry_at t.heads.index (slot_at t.heads.slots.items i).uid).latest) (slot_at t.heads.slots.items i).removal
          (is_alone (heads_in t.heads.slots.items) (head_of (slot_at t.heads.slots.items i)))
          ((entry_at t.heads.index (slot_at t.heads.slots.items i).uid).others == 0)
          (counts_is t.heads.slots.items i (entry_at t.heads.index (slot_at t.heads.slots.items i).uid).latest apart opened
          (is.heads.entries (slot_at t.heads.slots.items i).uid).0)
          (λ latest. alone_is t.heads.slots.items i (entry_at t.heads.index
          (slot_at t.heads.slots.items i).uid).others opened is.heads.numbered
          (subst (λ l. (entry_at t.heads.index (slot_at t.heads.slots.items i).uid).others + one_if_some l
          ≡ count_of t.heads.slots.items (slot_at t.heads.slots.items i).uid)
          (it_is i (entry_at t.heads.index (slot_at t.heads.slots.items i).uid).latest latest)
          (is.heads.entries (slot_at t.heads.slots.items i).uid).1))))
    ]

alike : (p q : ℕ → Bool) (xs : List ℕ) → ((k : ℕ) → p k ≡ q k) → filter p xs ≡ filter q xs
alike p q [] same = refl
alike p q (x ∷ xs) same = ap (λ b. if b then x ∷ filter p xs else filter p xs) (same x) ∙ ap (λ ys. if q x then x ∷ ys
    else ys) (alike p q xs same)

pub closing_members : (size : ℕ) (counts : Counts) (t : Table) (pending : Option Pending) → IsHeld size counts t pending
    → ((k : ℕ) → is_member t.heads.lone k ≡ false)
    → map (λ (h : Head). h.number) (closing (heads_in t.heads.slots.items)) ≡ members_of t.heads.closing
closing_members size counts t pending held none =
    closing_listed t held.table held.apart
    ∙ alike (closes_next t) (is_member t.heads.closing) (numbers 0 (length t.heads.slots.items))
    (λ k. sym (held.all k) ∙ ap (λ b. b || is_member t.heads.closing k) (none k))
    ∙ ap (λ n. filter (is_member t.heads.closing) (numbers 0 n)) (sym held.table.heads.closing_long)

-- numbers that pass on from a place on where nothing passes before it
same_range : (p q : ℕ → Bool) (from m : ℕ) → ((k : ℕ) → from ≤ k → k < from + m → p k ≡ q k) → filter p (numbers from m)
    ≡ filter q (numbers from m)
unfolding numbers
same_range p q from zero same = refl
same_range p q from (suc m) same =
    ap (λ b. if b then from ∷ filter p (numbers (from + 1) m) else filter p (numbers (from + 1) m)) (same from (omega arith) (omega arith))
    ∙ ap (λ ks. if q from then from ∷ ks else ks)
    (same_range p q (from + 1) m (λ k above below. same k (omega (arith, above)) (omega (arith, below))))

passing_behind : (p q : ℕ → Bool) (from m lo n : ℕ) → from ≤ lo → from + m ≡ lo + n → ((k : ℕ) → k < lo → p k ≡ false)
    → ((k : ℕ) → lo ≤ k → k < lo + n → p k ≡ q k) → filter p (numbers from m) ≡ filter q (numbers lo n)
unfolding numbers
passing_behind p q from zero lo n before long low same =
    let none : n ≡ 0 = omega (arith, before, long) in
    sym (ap (λ c. filter q (numbers lo c)) none)
passing_behind p q from (suc m) lo n before long low same = elim (cases_eq from lo) [
  | inl e ↦
      let count : suc m ≡ n = omega (arith, e, long) in
      ap (λ f. filter p (numbers f (suc m))) e ∙ ap (λ c. filter p (numbers lo c)) count ∙ same_range p q lo n same
  | inr other ↦
      ap (λ b. if b then from ∷ filter p (numbers (from + 1) m) else filter p (numbers (from + 1) m)) (low from (omega
      (arith, before, other)))
      ∙ passing_behind p q (from + 1) m lo n (omega (arith, before, other)) (omega (arith, long)) low same
]

taken_chains : (next : List ℕ) (hs : List Head) → taken_by (map (chain_in next) hs) ≡ flat_map (chain_by next) hs
taken_chains next [] = refl
taken_chains next (h ∷ hs) = ap (λ bs. chain_by next h ++ bs) (taken_chains next hs)

free_or_taken : (f h d : Bool) (n : ℕ) → one_if f + n ≡ one_if d → (h ≡ true → 1 ≤ n) → (h ≡ false → n ≡ 0) → f ≡ (d && not h)
free_or_taken true true true n is some none = absurd (omega (arith, is, some refl))
free_or_taken true true false n is some none = absurd (omega (arith, is))
free_or_taken true false true n is some none = refl
free_or_taken true false false n is some none = absurd (omega (arith, is))
free_or_taken false true true n is some none = refl
free_or_taken false true false n is some none = refl
free_or_taken false false true n is some none = absurd (omega (arith, is, none refl))
free_or_taken false false false n is some none = refl

large : (size : ℕ) → is_block_size size ≡ true → 32768 ≤ size
large size sized = grind (arith, nat_tests)

-- The free blocks of an image that has the chains of memory are those that memory has free.
pub free_listed : (size : ℕ) (counts : Counts) (t : Table) (image : List ℕ) → IsHeld size counts t None → length image ≡ size
    → HasChains image t
    → free_blocks image (heads_in t.heads.slots.items) ≡ free_in t.blocks
free_listed size counts t image held long chains =
    let next : List ℕ = t.blocks.next.items in
    let heads : List Head = heads_in t.heads.slots.items in
    let taken : List ℕ = flat_map (chain_by next) (keeping heads) in
    let is_taken : taken_by (chains_of image heads) ≡ taken = ap taken_by chains ∙ taken_chains next (keeping heads) in
    let count : length t.blocks.free ≡ size / 1024 = held.table.blocks.free ∙ ap (λ s. s / 1024) held.same in
    let at = λ (k : ℕ). free_or_taken (is_member t.blocks.free k) (has k taken) (is_data size k) (times k taken)
    (place (one_if (is_member t.blocks.free k)) (times_kept next heads k) (times k taken) (one_if (is_data size k)) (held.places k)
    (times_flat next k (keeping heads))) (some_times k taken) (no_times k taken) in
    ap (λ ts. without ts (data_blocks (length image))) is_taken
    ∙ ap (λ s. without taken (data_blocks s)) long
    ∙ sym (ap (λ n. filter (is_member t.blocks.free) (numbers 0 n)) count
    ∙ passing_behind (is_member t.blocks.free) (λ b. not (has b taken)) 0 (size / 1024) (1 + size / 32768) (data_count size) (omega arith)
    (room size (large size (ap is_block_size (sym held.same) ∙ held.table.blocks.sized)))
    (λ k low. at k ∙ ap (λ b. b && not (has k taken)) (under size k low))
    (λ k above below. at k ∙ ap (λ b. b && not (has k taken))
    (inside size k above below (large size (ap is_block_size (sym held.same) ∙ held.table.blocks.sized)))))
  where
    place : (f kept n d : ℕ) → f + (kept + 0) ≡ d → n ≡ kept → f + n ≡ d
    place f kept n d is same = omega (arith, is, same)

    room : (s : ℕ) → 32768 ≤ s → 0 + s / 1024 ≡ 1 + s / 32768 + data_count s
    room s enough = omega (arith, enough)

    under : (s k : ℕ) → k < 1 + s / 32768 → is_data s k ≡ false
    under s k low = ap (λ b. b && nat_lt k (s / 1024)) (le-ltb (s / 32768) k (omega (arith, low)))

    inside : (s k : ℕ) → 1 + s / 32768 ≤ k → k < 1 + s / 32768 + data_count s → 32768 ≤ s → is_data s k ≡ true
    inside s k above below enough =
        ap (λ b. b && nat_lt k (s / 1024)) (lt-ltb (s / 32768) k (omega (arith, above)))
        ∙ lt-ltb k (s / 1024) (omega (arith, above, below, enough))

none_all : (p : Head → Bool) (hs : List Head) → list_any p hs ≡ not (list_all (λ h. not (p h)) hs)
none_all p [] = refl
none_all p (h ∷ hs) = ap (λ b. p h || b) (none_all p hs) ∙ turn (p h) (list_all (λ g. not (p g)) hs)
  where
    turn : (a b : Bool) → (a || not b) ≡ not (not a && b)
    turn true b = refl
    turn false b = refl

-- a number is taken where a head is open under it
pub taken_is : (slots : List HeadFields) (k : ℕ) → ((j : ℕ) → is_open (slot_at slots j) ≡ true → (slot_at slots j).number ≡ j)
    → is_taken (heads_in slots) k ≡ is_open (slot_at slots k)
taken_is slots k numbered = none_all (λ (h : Head). h.number == k) (heads_in slots) ∙ elim (cases_Bool (is_open (slot_at slots k))) [
  | inl opened ↦
      not_all (list_all (λ (h : Head). not (h.number == k)) (heads_in slots)) (λ all.
      both_ways ((slot_at slots k).number == k)
      (not-true ((slot_at slots k).number == k) (of_open (λ (h : Head). not (h.number == k)) slots k all opened))
      (eq-eqb (slot_at slots k).number k (numbered k opened)))
      ∙ sym opened
  | inr shut ↦
      ap not (each_open (λ (h : Head). not (h.number == k)) slots (λ j there.
      ap not (ne_eqb (slot_at slots j).number k (λ same.
      both_ways (is_open (slot_at slots k)) shut (ap (λ i. is_open (slot_at slots i)) (sym same ∙ numbered j there) ∙ there)))))
      ∙ sym shut
]
  where
    not_all : (b : Bool) → (b ≡ true → ⊥) → not b ≡ true
    not_all true never = absurd (never refl)
    not_all false never = refl

find_least : (p : ℕ → Bool) (n from count : ℕ) → from ≤ n → n < from + count → p n ≡ true → ((k : ℕ) → k < n → p k ≡ false)
    → find p (numbers from count) ≡ Some n
unfolding numbers
find_least p n from zero above below is least = absurd (omega (arith, above, below))
find_least p n from (suc count) above below is least = elim (cases_eq from n) [
  | inl same ↦
      ap (λ b. cond b (Some from) (find p (numbers (from + 1) count))) (ap p same ∙ is) ∙ ap Some same
  | inr other ↦
      ap (λ b. cond b (Some from) (find p (numbers (from + 1) count))) (least from (omega (arith, above, other)))
      ∙ find_least p n (from + 1) count (omega (arith, above, other)) (omega (arith, below)) is least
]

-- The free head that comes first.
pub free_head_is : (size : ℕ) (counts : Counts) (t : Table) (pending : Option Pending) (n : ℕ) → IsHeld size counts t pending
    → n < length t.heads.slots.items → is_open (slot_at t.heads.slots.items n) ≡ false
    → ((k : ℕ) → k < n → is_open (slot_at t.heads.slots.items k) ≡ true) → free_head size (heads_in t.heads.slots.items) ≡ Some n
free_head_is size counts t pending n held within shut least =
    find_least (λ number. not (is_taken (heads_in t.heads.slots.items) number)) n 0 (size / 1024) (omega arith)
    (omega (arith, within, held.table.count ∙ ap (λ s. s / 1024) held.same))
    (ap not (taken_is t.heads.slots.items n held.table.heads.numbered ∙ shut))
    (λ k less. ap not (taken_is t.heads.slots.items k held.table.heads.numbered ∙ least k less))

-- The greatest sequence of the open heads is that of all slots.
pub greatest_is : (slots : List HeadFields) → greatest (heads_in slots) ≡ peak (map (λ (s : HeadFields). s.sequence) slots)
unfolding greatest peak
greatest_is [] = refl
greatest_is (s ∷ slots) =
    ap greatest (head_step (is_open s) s (filter is_open slots)) ∙ go (is_open s) refl (greatest_is slots)
  where
    go : (b : Bool) → is_open s ≡ b → greatest (heads_in slots) ≡ peak (map (λ (x : HeadFields). x.sequence) slots)
        → greatest (if b then head_of s ∷ heads_in slots else heads_in slots)
        ≡ max s.sequence (peak (map (λ (x : HeadFields). x.sequence) slots))
    go true opened rest = ap (max s.sequence) rest
    go false shut rest = rest ∙ omega (arith, ltb-false 0 s.sequence shut)

-- What a job writes behind the closing of heads.
writes_of : (new : Table) (p : Pending) (body : Option (List ℕ)) (blocks : List ℕ) → p.head.removal ≡ is_removal body
    → p.head.size ≡ size_of body → p.body.items ≡ bytes_of body → length p.body.items ≡ p.head.size
    → blocks_planned new.blocks.next.items p.head ≡ blocks
    → calls_behind new.blocks p ≡ chain_writes blocks (bytes_of body) ++ last_calls p.head
unfolding chain_writes
writes_of new p None blocks removal size bytes long planned =
    ap (λ b. if b then last_calls p.head else calls_from new.blocks p.head p.head.first p.body.items) removal
    ∙ ap (λ bs. chain_writes bs [] ++ last_calls p.head)
    (sym (ap (λ b. if b then [] else walk new.blocks.next.items p.head.first (blocks_of p.head.size)) removal) ∙ planned)
writes_of new p (Some body) blocks removal size bytes long planned =
    ap (λ b. if b then last_calls p.head else calls_from new.blocks p.head p.head.first p.body.items) removal
    ∙ ap (λ n. chain_writes (walk new.blocks.next.items p.head.first (blocks_of n)) p.body.items ++ last_calls p.head) long
    ∙ ap (λ bs. chain_writes bs p.body.items ++ last_calls p.head)
    (sym (ap (λ b. if b then [] else walk new.blocks.next.items p.head.first (blocks_of p.head.size)) removal) ∙ planned)
    ∙ ap (λ xs. chain_writes blocks xs ++ last_calls p.head) bytes

-- the blocks that the layout takes for a body
abbrev take_for : Option (List ℕ) → List ℕ → Table → List ℕ
take_for body image t = take (blocks_for body) (free_blocks image (heads_in t.heads.slots.items))

chosen_is : (t : Table) (body : Option (List ℕ)) (image : List ℕ) → free_blocks image (heads_in t.heads.slots.items) ≡ free_in t.blocks
    → take_for body image t ≡ blocks_chosen t.blocks (is_removal body) (size_of body)
chosen_is t None image free = refl
chosen_is t (Some body) image free = ap (take (blocks_of (length body))) free

map_numbers : (hs : List Head)
    → map (λ (c : Head). Write (head_place c.number) (0 ∷ [])) hs
    ≡ map (λ number. Write (head_place number) (0 ∷ [])) (map (λ (h : Head). h.number) hs)
map_numbers [] = refl
map_numbers (h ∷ hs) = ap (λ cs. Write (head_place h.number) (0 ∷ []) ∷ cs) (map_numbers hs)

-- The device calls of a change that is chosen are those of the layout.
pub job_is : (node size : ℕ) (counts : Counts) (t new : Table) (p : Pending) (image : List ℕ) (uid : Uid) (body : Option (List ℕ))
    → IsHeld size counts t None → ((k : ℕ) → is_member t.heads.lone k ≡ false) → length image ≡ size
    → heads_of node image ≡ Ok (heads_in t.heads.slots.items) → HasChains image t
    → p.head.uid ≡ uid → p.head.removal ≡ is_removal body → p.head.size ≡ size_of body → p.body.items ≡ bytes_of body
    → length p.body.items ≡ p.head.size
    → p.head.sequence ≡ greatest_in t + 1 → p.head.number < length t.heads.slots.items
    → is_open (slot_at t.heads.slots.items p.head.number) ≡ false
    → ((k : ℕ) → k < p.head.number → is_open (slot_at t.heads.slots.items k) ≡ true)
    → p.head.first ≡ first_or_zero (blocks_chosen t.blocks (is_removal body) (size_of body)) → new.heads ≡ t.heads
    → blocks_planned new.blocks.next.items p.head ≡ blocks_chosen t.blocks (is_removal body) (size_of body)
    → calls_at new p Close ≡ blocks_job node None image uid body
job_is node size counts t new p image uid body held none long found chains uid_is removal size_is bytes body_long sequence number shut least
    first
    heads planned =
    let listed : List Head = heads_in t.heads.slots.items in
    let chosen : List ℕ = blocks_chosen t.blocks (is_removal body) (size_of body) in
    let taken : take_for body image t ≡ chosen = chosen_is t body image (free_listed size counts t image held long chains) in
    let head : head_of p.head ≡ new_head (length image) listed (take_for body image t) uid body = λ i. record {
      number = (sym (ap number_or_zero (ap (λ s. free_head s listed) long
          ∙ free_head_is size counts t None p.head.number held number shut least))) i;
      uid = uid_is i;
      removal = removal i;
      sequence = (sequence ∙ ap (λ n. n + 1) (sym (greatest_is t.heads.slots.items))) i;
      size = size_is i;
      first = (first ∙ ap first_or_zero (sym taken)) i;
    } in
    let closes : map (λ number. Write (head_place number) (0 ∷ [])) (members_of new.heads.closing)
    ≡ map (λ (c : Head). Write (head_place c.number) (0 ∷ [])) (closing listed) =
    ap (λ (h : HeadTable). map (λ number. Write (head_place number) (0 ∷ [])) (members_of h.closing)) heads
    ∙ ap (map (λ number. Write (head_place number) (0 ∷ []))) (sym (closing_members size counts t None held none))
    ∙ sym (map_numbers (closing listed)) in
    ap (λ cs. cs ++ calls_behind new.blocks p) closes
    ∙ ap (λ cs. map (λ (c : Head). Write (head_place c.number) (0 ∷ [])) (closing listed) ++ cs)
    (writes_of new p body (take_for body image t) removal size_is bytes body_long (planned ∙ sym taken)
    ∙ ap (λ (h : Head). chain_writes (take_for body image t) (bytes_of body)
    ++ (Write (head_place h.number + 1) (spelled_head h) ∷ Sync ∷ Write (head_place h.number) (225 ∷ []) ∷ Sync ∷ [])) head)
    ∙ sym (ap (λ hs. calls_over image hs uid body) (ap heads_or_none found))

-- where no head is to be closed the job begins behind the closing
pub behind_closing : (new : Table) (p : Pending) → ((k : ℕ) → is_member new.heads.closing k ≡ false)
    → calls_at new p Close ≡ calls_at new p (if p.head.removal then WriteHead else WritePart p.head.first 0)
behind_closing new p none =
    ap (λ ns. map (λ number. Write (head_place number) (0 ∷ [])) ns ++ calls_behind new.blocks p)
    (nothing (is_member new.heads.closing) (numbers 0 (length new.heads.closing)) none)
    ∙ go p.head.removal
  where
    nothing : (q : ℕ → Bool) (xs : List ℕ) → ((k : ℕ) → q k ≡ false) → filter q xs ≡ []
    nothing q [] never = refl
    nothing q (x ∷ xs) never = ap (λ b. if b then x ∷ filter q xs else filter q xs) (never x) ∙ nothing q xs never

    go : (b : Bool) → (if b then last_calls p.head else calls_from new.blocks p.head p.head.first p.body.items)
        ≡ calls_at new p (if b then WriteHead else WritePart p.head.first 0)
    go true = refl
    go false = refl
