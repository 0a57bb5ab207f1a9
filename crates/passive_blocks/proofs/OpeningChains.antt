-- A chain of a disk, as an opening follows it block by block.
use Rattle.std.proofs.Common.{◌≡◌, ℕ, suc, zero, ◌+◌, ◌-◌, ◌≤◌, ◌<◌, ◌/◌, Bool, true, false, ◌||◌, ◌&&◌, not, ◌==◌, List, [], ◌∷◌}
use Rattle.std.proofs.Common.{◌++◌}
use Rattle.std.proofs.Common.{length, set, IsTrue, eq-eqb, refl, sym, ap, ◌∙◌, arith, inl, inr, append_assoc}
use Rattle.std.specs.Prelude.{slice_index, filter, if◌then◌else◌}
use Rattle.std.proofs.lemmas.Bool.{false≢true, cases_eq, ne_eqb, eqb-true, or_left, or_right, or_parts, both_ways, false_from_ne_true}
use Rattle.std.proofs.lemmas.List.{get_or-set_same, get_or-set_other, append-nil}
use Rattle.std.proofs.lemmas.List.Folds.{list_any-append}
use Rattle.std.proofs.lemmas.List.Elements.{filter_agree}
use Rattle.eden_disk.specs.Told.{Told, contents}
use Rattle.eden_disk.specs.Calls.{Counts, Due, DeviceCalls, Obeyed, Fine}
use Rattle.eden_disk.proofs.Held.{calls_more, obeyed_more}
use Rattle.block_tables.specs.declared.heads.HeadFields.{HeadFields}
use Rattle.block_tables.specs.declared.block_table.BlockTable.{BlockTable}
use Rattle.block_tables.specs.Members.{is_member}
use Rattle.block_tables.specs.Blocks.{Head, Chain, numbers, has, without, next_block, on_block, chain_from, chain_of, blocks_of}
use Rattle.block_tables.specs.HeadSeen.{head_of}
use Rattle.block_tables.specs.BlockState.{AreBlocks, walk, free_in}
use Rattle.passive_blocks.specs.HeldState.{times, one_if, behind_walk}
use Rattle.passive_blocks.specs.OpeningState.{AreTaken, IsFollowed, IsChainOn}
use Rattle.passive_blocks.proofs.HeldCounts.{times_step, some_times, walk_stays, behind_stays, walk_further}
use Rattle.block_tables.proofs.Listing.{has_number}
use Rattle.block_tables.proofs.Walks.{on_disk}

-- what passes two tests
both_tests : (p q : ℕ → Bool) (xs : List ℕ) → filter p (filter q xs) ≡ filter (λ x. p x && q x) xs
both_tests p q [] = refl
both_tests p q (x ∷ xs) = go (p x) (q x) refl (both_tests p q xs)
  where
    go : (a b : Bool) → p x ≡ a → filter p (filter q xs) ≡ filter (λ y. p y && q y) xs
        → filter p (if b then x ∷ filter q xs else filter q xs)
        ≡ (if a && b then x ∷ filter (λ y. p y && q y) xs else filter (λ y. p y && q y) xs)
    go true true is rest = ap (λ c. if c then x ∷ filter p (filter q xs) else filter p (filter q xs)) is ∙ ap (λ ys. x ∷ ys) rest
    go false true is rest = ap (λ c. if c then x ∷ filter p (filter q xs) else filter p (filter q xs)) is ∙ rest
    go true false is rest = rest
    go false false is rest = rest

turned : (a b : ℕ) → (a == b) ≡ (b == a)
turned a b = elim (cases_eq a b) [
  | inl same ↦ eq-eqb a b same ∙ sym (eq-eqb b a (sym same))
  | inr other ↦ ne_eqb a b other ∙ sym (ne_eqb b a (λ same. other (sym same)))
]

or_none : (b : Bool) → (b || false) ≡ b
or_none true = refl
or_none false = refl

neither : (x y : Bool) → not (x || y) ≡ (not y && not x)
neither true true = refl
neither true false = refl
neither false true = refl
neither false false = refl

-- without some, and without others
pub without_more : (a b free : List ℕ) → without (a ++ b) free ≡ without b (without a free)
without_more a b free =
    filter_agree (λ k. not (has k (a ++ b))) (λ k. not (has k b) && not (has k a))
    (λ k. ap not (list_any-append (λ x. x == k) a b) ∙ neither (has k a) (has k b)) free
    ∙ sym (both_tests (λ k. not (has k b)) (λ k. not (has k a)) free)

pub without_none : (free : List ℕ) → without [] free ≡ free
without_none [] = refl
without_none (x ∷ free) = ap (λ xs. x ∷ xs) (without_none free)

-- whether a number stands among those that pass a test
among : (p : ℕ → Bool) (k : ℕ) (xs : List ℕ) → p k ≡ true → has k xs ≡ true → has k (filter p xs) ≡ true
among p k [] is there = absurd (false≢true there)
among p k (x ∷ xs) is there = elim (cases_eq x k) [
  | inl same ↦
      ap (λ c. has k (if c then x ∷ filter p xs else filter p xs)) (ap p same ∙ is)
      ∙ or_left (x == k) (has k (filter p xs)) (eq-eqb x k same)
  | inr other ↦ keep (p x) (among p k xs is (sym (ap (λ c. c || has k xs) (ne_eqb x k other)) ∙ there))
]
  where
    keep : (c : Bool) → has k (filter p xs) ≡ true → has k (if c then x ∷ filter p xs else filter p xs) ≡ true
    keep true h = or_right (x == k) (has k (filter p xs)) h
    keep false h = h

none_among : (p : ℕ → Bool) (k : ℕ) (xs : List ℕ) → p k ≡ false → has k (filter p xs) ≡ false
none_among p k [] is = refl
none_among p k (x ∷ xs) is = go (p x) refl (none_among p k xs is)
  where
    go : (c : Bool) → p x ≡ c → has k (filter p xs) ≡ false → has k (if c then x ∷ filter p xs else filter p xs) ≡ false
    go true at h = ap (λ d. d || has k (filter p xs)) (ne_eqb x k (λ same. both_ways (p x) (ap p same ∙ is) at)) ∙ h
    go false at h = h

-- a block is among the free ones where memory says so
pub has_free : (b : BlockTable) (k : ℕ) (c : Bool) → AreBlocks b → is_member b.free k ≡ c → has k (free_in b) ≡ c
has_free b k true are is =
    among (is_member b.free) k (numbers 0 (length b.free)) is
    (has_number k 0 (length b.free) (omega arith) (omega (arith, on_disk b.size k (are.inside k is), are.free)))
has_free b k false are is = none_among (is_member b.free) k (numbers 0 (length b.free)) is

one_out : (block k : ℕ) → not (k == block) ≡ not ((block == k) || false)
one_out block k = ap not (turned k block ∙ sym (or_none (block == k)))

-- one block is taken
pub free_less : (old new : BlockTable) (block : ℕ) → AreBlocks old → AreBlocks new → new.size ≡ old.size
    → ((k : ℕ) → is_member new.free k ≡ (not (k == block) && is_member old.free k)) → free_in new ≡ without (block ∷ []) (free_in old)
free_less old new block are_old are_new size free =
    let long : length new.free ≡ length old.free = omega (arith, are_old.free, are_new.free, ap (λ s. s / 1024) size) in
    filter_agree (is_member new.free) (λ k. not (has k (block ∷ [])) && is_member old.free k)
    (λ k. free k ∙ ap (λ b. b && is_member old.free k) (one_out block k)) (numbers 0 (length new.free))
    ∙ ap (λ n. filter (λ k. not (has k (block ∷ [])) && is_member old.free k) (numbers 0 n)) long
    ∙ sym (both_tests (λ k. not (has k (block ∷ []))) (is_member old.free) (numbers 0 (length old.free)))

pub times_behind : (k x : ℕ) (xs : List ℕ) → times k (xs ++ x ∷ []) ≡ times k xs + one_if (x == k)
times_behind k x [] = omega (arith, times_step k x [])
times_behind k x (y ∷ xs) = omega (arith, times_step k y (xs ++ x ∷ []), times_step k y xs, times_behind k x xs)

-- the block behind one more
pub behind_further : (next : List ℕ) (block n : ℕ) → behind_walk next block (suc n) ≡ slice_index next (behind_walk next block n)
unfolding behind_walk
behind_further next block zero = refl
behind_further next block (suc n) = behind_further next (slice_index next block) n

one_longer : (xs : List ℕ) (x : ℕ) → length (xs ++ x ∷ []) ≡ suc (length xs)
one_longer [] x = refl
one_longer (y ∷ xs) x = ap suc (one_longer xs x)

-- no block was taken
pub none_taken : (b : BlockTable) (first : ℕ) → AreBlocks b → AreTaken b b first []
unfolding walk
none_taken b first are = record {
  blocks = are;
  size = refl;
  free = sym (without_none (free_in b));
  places = λ k. omega arith;
  others = λ k none. refl;
  chain = refl;
}

-- where a block is free it was not taken
not_taken : (b0 b : BlockTable) (first block : ℕ) (taken : List ℕ) → AreTaken b0 b first taken → is_member b.free block ≡ true
    → has block taken ≡ false
not_taken b0 b first block taken t is =
    false_from_ne_true (has block taken) (λ there.
    let bound : (c : Bool) → one_if c ≤ 1 = λ c. most c in
    omega (arith, t.places block, ap one_if is, some_times block taken there, bound (is_member b0.free block)))
  where
    most : (c : Bool) → one_if c ≤ 1
    most true = omega arith
    most false = omega arith

-- One more block is taken, and linked to the next.
pub one_taken : (b0 b mid new : BlockTable) (first block behind : ℕ) (taken : List ℕ) → AreTaken b0 b first taken
    → behind_walk b.next.items first (length taken) ≡ block → is_member b.free block ≡ true → AreBlocks mid
    → ((k : ℕ) → is_member mid.free k ≡ (not (k == block) && is_member b.free k)) → mid.size ≡ b.size → mid.next ≡ b.next
    → AreBlocks new → new.next.items ≡ set mid.next.items block behind → new.size ≡ mid.size → new.free ≡ mid.free
    → AreTaken b0 new first (taken ++ block ∷ []) × (behind_walk new.next.items first (suc (length taken)) ≡ behind)
one_taken b0 b mid new first block behind taken t at is are_mid free_mid size_mid next_mid are next size free =
    let n : ℕ = length taken in
    let next_is : new.next.items ≡ set b.next.items block behind = next ∙ ap (λ x. set x.items block behind) next_mid in
    let inside : block < length b.next.items =
    omega (arith, t.blocks.next, on_disk b.size block (t.blocks.inside block is)) in
    let out : has block taken ≡ false = not_taken b0 b first block taken t is in
    let others : (k : ℕ) → (k ≡ block → ⊥) → slice_index new.next.items k ≡ slice_index b.next.items k =
    λ k other. ap (λ x. slice_index x k) next_is ∙ get_or-set_other b.next.items block k behind 0 other in
    let apart : (k : ℕ) → has k (walk b.next.items first n) ≡ true → k ≡ block → ⊥ =
    λ k there same. both_ways (has block taken) out (sym (ap (λ j. has j taken) same) ∙ sym (ap (has k) t.chain) ∙ there) in
    let same : (k : ℕ) → has k (walk b.next.items first n) ≡ true → slice_index new.next.items k ≡ slice_index b.next.items k =
    λ k there. others k (apart k there) in
    let here : behind_walk new.next.items first n ≡ block = behind_stays b.next.items new.next.items first n same ∙ at in
    let free_is : free_in new ≡ without (taken ++ block ∷ []) (free_in b0) =
    free_less b new block t.blocks are (size ∙ size_mid) (λ k. ap (λ f. is_member f k) free ∙ free_mid k)
    ∙ ap (without (block ∷ [])) t.free ∙ sym (without_more taken (block ∷ []) (free_in b0)) in (
      record {
        blocks = are;
        size = size ∙ size_mid ∙ t.size;
        free = free_is;
        places = λ k. placed k;
        others = λ k none.
            let parts = or_parts (has k taken) ((block == k) || false) (sym (list_any-append (λ x. x == k) taken (block ∷ [])) ∙ none) in
            let other : k ≡ block → ⊥ = λ e. both_ways (block == k) (sym (or_none (block == k)) ∙ parts.1) (eq-eqb block k (sym e)) in
            others k other ∙ t.others k parts.0;
        chain =
            ap (walk new.next.items first) (one_longer taken block)
            ∙ walk_further new.next.items first n
            ∙ ap (λ w. w ++ behind_walk new.next.items first n ∷ []) (walk_stays b.next.items new.next.items first n same ∙ t.chain)
            ∙ ap (λ x. taken ++ x ∷ []) here;
      },
      behind_further new.next.items first n ∙ ap (slice_index new.next.items) here
          ∙ ap (λ x. slice_index x block) next_is ∙ get_or-set_same b.next.items block behind 0 inside,
    )
  where
    placed : (k : ℕ) → one_if (is_member new.free k) + times k (taken ++ block ∷ []) ≡ one_if (is_member b0.free k)
    placed k = elim (cases_eq k block) [
      | inl same ↦
          let gone : is_member new.free k ≡ false =
          ap (λ f. is_member f k) free ∙ free_mid k ∙ ap (λ c. not c && is_member b.free k) (eq-eqb k block same) in
          let was : is_member b.free k ≡ true = ap (is_member b.free) same ∙ is in
          omega (arith, ap one_if gone, ap one_if was, times_behind k block taken, ap one_if (eq-eqb block k (sym same)), t.places k)
      | inr other ↦
          let stays : is_member new.free k ≡ is_member b.free k =
          ap (λ f. is_member f k) free ∙ free_mid k ∙ ap (λ c. not c && is_member b.free k) (ne_eqb k block other) in
          omega (arith, ap one_if stays, times_behind k block taken, ap one_if (ne_eqb block k (λ e. other (sym e))), t.places k)
    ]

-- these blocks, and then those of a chain
abbrev pub on_blocks : List ℕ → Chain → Chain
on_blocks taken c = record { head = c.head; blocks = taken ++ c.blocks; whole = c.whole }

-- The first blocks of a chain were followed, so many, with as many device calls, none of which was refused.
pub record Following (tells obeys : Bool) (start here : Told) (before after : Counts) (due_then due_now : Due) (b0 b : BlockTable)
    (value : HeadFields) (block i : ℕ) : Type 0 where
  pub taken : List ℕ
  pub long : length taken ≡ i
  pub counts : DeviceCalls i before after Fine
  pub obeyed : IsTrue obeys → Obeyed due_then due_now before after Fine
  pub same : IsTrue tells → here ≡ start
  pub needed : b.needed ≡ b0.needed
  pub are : AreTaken b0 b value.first taken
  pub behind : behind_walk b.next.items value.first (length taken) ≡ block
  pub chain : IsTrue tells → chain_of (contents start).now (free_in b0) (head_of value)
      ≡ on_blocks taken (chain_from (head_of value) (contents start).now (free_in b) block (blocks_of value.size - i))

pub none_followed : (tells obeys : Bool) (start : Told) (before : Counts) (due : Due) (b : BlockTable) (value : HeadFields)
    → DeviceCalls 0 before before Fine → Obeyed due due before before Fine → AreBlocks b
    → Following tells obeys start start before before due due b b value value.first 0
unfolding behind_walk
none_followed tells obeys start before due b value counts obeyed are = record {
  taken = [];
  long = refl;
  counts = counts;
  obeyed = λ so. obeyed;
  same = λ so. refl;
  needed = refl;
  are = none_taken b value.first are;
  behind = refl;
  chain = λ so. let count : blocks_of value.size ≡ blocks_of value.size - 0 = omega arith in
      ap (chain_from (head_of value) (contents start).now (free_in b) value.first) count;
}

-- one step of a chain, by whether its block is free
step_by : (h : Head) (image free : List ℕ) (block count : ℕ) (b : Bool) → 1 ≤ count → has block free ≡ b
    → chain_from h image free block count
    ≡ (if b then on_block block (chain_from h image (without (block ∷ []) free) (next_block image block) (count - 1))
    else record { head = h; blocks = []; whole = false })
unfolding chain_from
step_by h image free block count b some is =
    let one : count ≡ suc (count - 1) = omega (arith, some) in
    ap (chain_from h image free block) one
    ∙ ap (λ c. if c then on_block block (chain_from h image (without (block ∷ []) free) (next_block image block) (count - 1))
    else record { head = h; blocks = []; whole = false }) is

pub one_followed : (tells obeys : Bool) (start here there : Told) (before between after : Counts) (due_then due_now due_next : Due)
    (b0 b mid new : BlockTable) (value : HeadFields) (block next i : ℕ)
    → Following tells obeys start here before between due_then due_now b0 b value block i → i < blocks_of value.size
    → is_member b.free block ≡ true → AreBlocks mid
    → ((k : ℕ) → is_member mid.free k ≡ (not (k == block) && is_member b.free k)) → mid.size ≡ b.size → mid.next ≡ b.next
    → mid.needed ≡ b.needed → AreBlocks new → new.next.items ≡ set mid.next.items block next → new.size ≡ mid.size
    → new.free ≡ mid.free → new.needed ≡ mid.needed
    → DeviceCalls 1 between after Fine → (IsTrue obeys → Obeyed due_now due_next between after Fine) → (IsTrue tells → there ≡ here)
    → (IsTrue tells → next ≡ next_block (contents here).now block)
    → Following tells obeys start there before after due_then due_next b0 new value next (i + 1)
one_followed tells obeys start here there before between after due_then due_now due_next b0 b mid new value block next i f below is are_mid
    free_mid size_mid next_mid needed_mid are next_new size free needed counts obeyed told found =
    let more = one_taken b0 b mid new value.first block next f.taken f.are f.behind is are_mid free_mid size_mid next_mid are
    next_new size free in
    let free_is : free_in new ≡ without (block ∷ []) (free_in b) =
    free_less b new block f.are.blocks are (size ∙ size_mid) (λ k. ap (λ l. is_member l k) free ∙ free_mid k) in
    record {
      taken = f.taken ++ block ∷ [];
      long = one_longer f.taken block ∙ (let l : suc (length f.taken) ≡ i + 1 = omega (arith, f.long) in l);
      counts = calls_more i 1 before between after Fine f.counts counts;
      obeyed = λ so. obeyed_more i 1 due_then due_now due_next before between after Fine f.counts counts (f.obeyed so) (obeyed so);
      same = λ so. told so ∙ f.same so;
      needed = needed ∙ needed_mid ∙ f.needed;
      are = more.0;
      behind = ap (behind_walk new.next.items value.first) (one_longer f.taken block) ∙ more.1;
      chain = λ so.
          let h : Head = head_of value in
          let image : List ℕ = (contents start).now in
          let left : blocks_of value.size - i - 1 ≡ blocks_of value.size - (i + 1) = omega arith in
          let next_is : next_block image block ≡ next = sym (found so ∙ ap (λ t. next_block (contents t).now block) (f.same so)) in
          f.chain so
          ∙ ap (on_blocks f.taken) (step_by h image (free_in b) block (blocks_of value.size - i) true (omega (arith, below))
          (has_free b block true f.are.blocks is))
          ∙ ap (λ bs. record {
            head = (chain_from h image (without (block ∷ []) (free_in b)) (next_block image block) (blocks_of value.size - i - 1)).head;
            blocks = bs;
            whole = (chain_from h image (without (block ∷ []) (free_in b)) (next_block image block) (blocks_of value.size - i - 1)).whole;
          })
          (sym (append_assoc f.taken (block ∷ [])
          (chain_from h image (without (block ∷ []) (free_in b)) (next_block image block) (blocks_of value.size - i - 1)).blocks))
          ∙ ap (λ fr. on_blocks (f.taken ++ block ∷ []) (chain_from h image fr (next_block image block) (blocks_of value.size - i - 1)))
          (sym free_is)
          ∙ ap (λ n. on_blocks (f.taken ++ block ∷ []) (chain_from h image (free_in new) n (blocks_of value.size - i - 1))) next_is
          ∙ ap (λ m. on_blocks (f.taken ++ block ∷ []) (chain_from h image (free_in new) next m)) left;
    }

walk_is : (b0 b : BlockTable) (first i : ℕ) (taken : List ℕ) → AreTaken b0 b first taken → length taken ≡ i → taken
    ≡ walk b.next.items first i
walk_is b0 b first i taken t long = sym t.chain ∙ ap (walk b.next.items first) long

-- the chain is damaged: a block is not free
pub stopped_at : (tells obeys : Bool) (start here : Told) (before after : Counts) (due_then due_now : Due) (b0 b new : BlockTable)
    (value : HeadFields) (block i : ℕ) → Following tells obeys start here before after due_then due_now b0 b value block i
    → i < blocks_of value.size → is_member b.free block ≡ false → new.next ≡ b.next → IsTrue tells
    → IsChainOn (contents start).now b0 new value false i
stopped_at tells obeys start here before after due_then due_now b0 b new value block i f below is next so =
    f.chain so
    ∙ ap (on_blocks f.taken) (step_by (head_of value) (contents start).now (free_in b) block (blocks_of value.size - i) false
    (omega (arith, below)) (has_free b block false f.are.blocks is))
    ∙ ap (λ bs. record { head = head_of value; blocks = bs; whole = false })
    (append-nil f.taken ∙ walk_is b0 b value.first i f.taken f.are f.long ∙ sym (ap (λ n. walk n.items value.first i) next))

pub stopped : (b0 b : BlockTable) (value : HeadFields) (i : ℕ) (taken : List ℕ) → length taken ≡ i → b.needed ≡ b0.needed
    → IsFollowed b0 b value false i
stopped b0 b value i taken long needed = record {
  taken = taken;
  reads = sym long;
  needed = needed;
  are = λ whole. absurd (false≢true whole);
  long = λ whole. absurd (false≢true whole);
  ends = λ whole. absurd (false≢true whole);
}

-- or its last block was followed
pub ended_at : (tells obeys : Bool) (start here : Told) (before after : Counts) (due_then due_now : Due) (b0 b : BlockTable)
    (value : HeadFields) (block i : ℕ) → Following tells obeys start here before after due_then due_now b0 b value block i
    → blocks_of value.size ≤ i → IsTrue tells → IsChainOn (contents start).now b0 b value (block == 0) i
unfolding chain_from
ended_at tells obeys start here before after due_then due_now b0 b value block i f all so =
    let none : blocks_of value.size - i ≡ 0 = omega (arith, all) in
    f.chain so
    ∙ ap (λ m. on_blocks f.taken (chain_from (head_of value) (contents start).now (free_in b) block m)) none
    ∙ ap (λ bs. record { head = head_of value; blocks = bs; whole = block == 0 })
    (append-nil f.taken ∙ walk_is b0 b value.first i f.taken f.are f.long)

pub ended : (tells obeys : Bool) (start here : Told) (before after : Counts) (due_then due_now : Due) (b0 b : BlockTable)
    (value : HeadFields) (block i : ℕ) → Following tells obeys start here before after due_then due_now b0 b value block i
    → i ≡ blocks_of value.size → IsFollowed b0 b value (block == 0) i
ended tells obeys start here before after due_then due_now b0 b value block i f all = record {
  taken = f.taken;
  reads = sym f.long;
  needed = f.needed;
  are = λ whole. f.are;
  long = λ whole. f.long ∙ all;
  ends = λ whole. ap (behind_walk b.next.items value.first) (sym (f.long ∙ all)) ∙ f.behind ∙ eqb-true block 0 whole;
}
