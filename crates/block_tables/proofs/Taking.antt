-- Free blocks that are taken one by one onto a chain.
use Rattle.std.proofs.Common.{◌≡◌, ℕ, suc, zero, ◌+◌, ◌≤◌, ◌<◌, ◌/◌, Bool, true, false, ◌||◌, ◌&&◌, not, ◌==◌, List, [], ◌∷◌}
use Rattle.std.proofs.Common.{◌++◌, length, take, drop, set, eq-eqb, refl, sym, ap, subst, ◌∙◌, arith, inl, inr}
use Rattle.std.specs.Prelude.{filter, slice_index, if◌then◌else◌}
use Rattle.std.proofs.lemmas.Bool.{false≢true, cases_eq, cases_lt, ne_eqb, or_left, or_right, both_ways}
use Rattle.std.proofs.lemmas.Bool.{eqb-false, or_parts}
use Rattle.std.proofs.lemmas.List.{get_or-set_same, get_or-set_other, length-set, length-drop, take_all}
use Rattle.block_tables.specs.declared.block_table.BlockTable.{BlockTable}
use Rattle.block_tables.specs.Blocks.{numbers, has, is_data, is_block_size, data_count}
use Rattle.block_tables.specs.Changes.{first_or_zero}
use Rattle.block_tables.specs.Members.{is_member}
use Rattle.block_tables.specs.BlockState.{AreBlocks, walk, free_in}
use Rattle.block_tables.proofs.Walks.{on_disk}

same_front : (x : ℕ) (a b : Bool) (xs ys : List ℕ) → a ≡ b → xs ≡ ys → (if a then x ∷ xs else xs) ≡ (if b then x ∷ ys else ys)
same_front x a b xs ys same rest = ap (λ c. if c then x ∷ xs else xs) same ∙ ap (λ zs. if b then x ∷ zs else zs) rest

-- a test that agrees on the numbers from one on
agree_above : (p q : ℕ → Bool) (from count : ℕ) → ((k : ℕ) → from ≤ k → p k ≡ q k) → filter p (numbers from count) ≡ filter q
    (numbers from count)
unfolding numbers
agree_above p q from zero same = refl
agree_above p q from (suc count) same =
    same_front from (p from) (q from) (filter p (numbers (from + 1) count)) (filter q (numbers (from + 1) count)) (same from (omega arith))
    (agree_above p q (from + 1) count (λ k above. same k (omega (arith, above))))

abbrev pub beside : (ℕ → Bool) → ℕ → ℕ → Bool
beside p n k = not (k == n) && p k

taken_front : (x : ℕ) (a b : Bool) (xs ys : List ℕ) → a ≡ true → b ≡ false → xs ≡ ys
    → (if a then x ∷ xs else xs) ≡ x ∷ (if b then x ∷ ys else ys)
taken_front x a b xs ys is out same =
    ap (λ c. if c then x ∷ xs else xs) is ∙ ap (λ zs. x ∷ zs) same ∙ sym (ap (λ c. x ∷ (if c then x ∷ ys else ys)) out)

skipped_front : (x n : ℕ) (a b : Bool) (xs ys : List ℕ) → a ≡ false → b ≡ false → xs ≡ n ∷ ys
    → (if a then x ∷ xs else xs) ≡ n ∷ (if b then x ∷ ys else ys)
skipped_front x n a b xs ys none out same =
    ap (λ c. if c then x ∷ xs else xs) none ∙ same ∙ sym (ap (λ c. n ∷ (if c then x ∷ ys else ys)) out)

-- the least that passes comes first
pub least_first : (p : ℕ → Bool) (n from count : ℕ) → from ≤ n → n < from + count → p n ≡ true → ((k : ℕ) → k < n → p k ≡ false)
    → filter p (numbers from count) ≡ n ∷ filter (beside p n) (numbers from count)
unfolding numbers
least_first p n from zero above below is least = absurd (omega (arith, above, below))
least_first p n from (suc count) above below is least = elim (cases_eq from n) [
  | inl same ↦
      taken_front from (p from) (beside p n from) (filter p (numbers (from + 1) count)) (filter (beside p n) (numbers (from + 1) count))
      (ap p same ∙ is) (ap (λ b. not b && p from) (eq-eqb from n same))
      (agree_above p (beside p n) (from + 1) count (λ k more. sym (ap (λ b. not b && p k)
      (ne_eqb k n (λ e. omega (arith, e, more, same))))))
      ∙ ap (λ x. x ∷ (if beside p n from then from ∷ filter (beside p n) (numbers (from + 1) count)
      else filter (beside p n) (numbers (from + 1) count))) same
  | inr other ↦
      skipped_front from n (p from) (beside p n from) (filter p (numbers (from + 1) count)) (filter (beside p n) (numbers (from + 1) count))
      (least from (omega (arith, above, other)))
      (ap (λ b. not b && p from) (ne_eqb from n other) ∙ least from (omega (arith, above, other)))
      (least_first p n (from + 1) count (omega (arith, above, other)) (omega (arith, below)) is least)
]

pub none_passes : (p : ℕ → Bool) (from count : ℕ) → ((k : ℕ) → p k ≡ false) → filter p (numbers from count) ≡ []
unfolding numbers
none_passes p from zero none = refl
none_passes p from (suc count) none =
    ap (λ b. if b then from ∷ filter p (numbers (from + 1) count) else filter p (numbers (from + 1) count)) (none from)
    ∙ none_passes p (from + 1) count none

abbrev members : List ℕ → List ℕ
members marks = filter (is_member marks) (numbers 0 (length marks))

-- the first member of a set, and the others behind it
pub first_of : (old new : List ℕ) (n : ℕ) → n < length old → is_member old n ≡ true → ((k : ℕ) → k < n → is_member old k ≡ false)
    → length new ≡ length old → ((k : ℕ) → is_member new k ≡ (not (k == n) && is_member old k)) → members old ≡ n ∷ members new
first_of old new n within is least long rest =
    least_first (is_member old) n 0 (length old) (omega arith) (omega (arith, within)) is least
    ∙ ap (λ ks. n ∷ ks) (agree_above (beside (is_member old) n) (is_member new) 0 (length old) (λ k above. sym (rest k))
    ∙ ap (λ count. filter (is_member new) (numbers 0 count)) (sym long))

-- where a list goes on
next_of : (xs : List ℕ) (i x : ℕ) (ys : List ℕ) → drop i xs ≡ x ∷ ys
    → (take (suc i) xs ≡ take i xs ++ x ∷ []) × (drop (suc i) xs ≡ ys) × (length (take i xs) ≡ i)
next_of [] zero x ys is = absurd (let e : 0 ≡ suc (length ys) = ap length is in omega (arith, e))
next_of [] (suc i) x ys is = absurd (let e : 0 ≡ suc (length ys) = ap length is in omega (arith, e))
next_of (w ∷ xs) zero x ys is = (ap (λ v. v ∷ []) (ap first_or_zero is), ap (drop 1) is, refl)
next_of (w ∷ xs) (suc i) x ys is =
    let rest = next_of xs i x ys is in (ap (λ v. w ∷ v) rest.0, rest.1, ap suc rest.2)

has_behind : (k x : ℕ) (xs : List ℕ) → has k (xs ++ x ∷ []) ≡ (has k xs || (x == k))
has_behind k x [] = or_none (x == k)
  where
    or_none : (b : Bool) → (b || false) ≡ b
    or_none true = refl
    or_none false = refl
has_behind k x (w ∷ xs) = ap (λ b. (w == k) || b) (has_behind k x xs) ∙ assoc (w == k) (has k xs) (x == k)
  where
    assoc : (a b c : Bool) → (a || (b || c)) ≡ ((a || b) || c)
    assoc true b c = refl
    assoc false b c = refl

-- one more block at the end of a chain
relink : (ys next new : List ℕ) (first last block : ℕ) → walk next first (suc (suc (length ys))) ≡ ys ++ last ∷ 0 ∷ []
    → ((k : ℕ) → has k ys ≡ true → slice_index new k ≡ slice_index next k) → slice_index new last ≡ block → slice_index new block ≡ 0
    → walk new first (suc (suc (suc (length ys)))) ≡ ys ++ last ∷ block ∷ 0 ∷ []
unfolding walk
relink [] next new first last block is same link end =
    let at : first ≡ last = ap first_or_zero is in
    ap (λ f. f ∷ slice_index new f ∷ slice_index new (slice_index new f) ∷ []) at
    ∙ ap (λ b. last ∷ b ∷ slice_index new b ∷ []) link
    ∙ ap (λ z. last ∷ block ∷ z ∷ []) end
relink (y ∷ ys) next new first last block is same link end =
    let at : first ≡ y = ap first_or_zero is in
    let step : slice_index new first ≡ slice_index next first =
    ap (slice_index new) at ∙ same y (or_left (y == y) (has y ys) (eq-eqb y y refl)) ∙ ap (slice_index next) (sym at) in
    ap (λ n. n ∷ walk new (slice_index new first) (suc (suc (suc (length ys))))) at
    ∙ ap (λ n. y ∷ walk new n (suc (suc (suc (length ys))))) step
    ∙ ap (λ ks. y ∷ ks) (relink ys next new (slice_index next first) last block (ap (drop 1) is)
    (λ k there. same k (or_right (y == k) (has k ys) there)) link end)

second : (a b : Bool) → (a && b) ≡ true → b ≡ true
second true b is = is
second false b is = absurd (false≢true is)

-- the free block that comes first is taken
pub takes_first : (t : BlockTable) (marks : List ℕ) (n : ℕ) → AreBlocks t → (n < length t.free) × (is_member t.free n ≡ true)
    × ((k : ℕ) → k < n → is_member t.free k ≡ false) → length marks ≡ length t.free
    → ((k : ℕ) → is_member marks k ≡ (not (k == n) && is_member t.free k)) → free_in t ≡ n ∷ filter (is_member marks)
    (numbers 0 (length marks))
takes_first t marks n are is long rest = first_of t.free marks n is.0 is.1 is.2 long rest

pub none_first : (t : BlockTable) → ((k : ℕ) → is_member t.free k ≡ false) → free_in t ≡ []
none_first t none = none_passes (is_member t.free) 0 (length t.free) none

pub first_behind : (old marks : List ℕ) (n k : ℕ) → ((j : ℕ) → j < n → is_member old j ≡ false)
    → ((j : ℕ) → is_member marks j ≡ (not (j == n) && is_member old j)) → is_member marks k ≡ true → n < k
first_behind old marks n k least rest there = elim (cases_lt n k) [
  | inl less ↦ less
  | inr more ↦ elim (cases_eq k n) [
    | inl same ↦ absurd (false≢true (sym (rest k ∙ ap (λ b. not b && is_member old k) (eq-eqb k n same)) ∙ there))
    | inr other ↦ absurd (false≢true (sym (least k (omega (arith, more, other))) ∙ second (not (k == n)) (is_member old k)
        (sym (rest k) ∙ there)))
  ]
]

short_set : (next : List ℕ) (n v k : ℕ) → ((j : ℕ) → slice_index next j < 65536) → v < 65536 → n < length next → slice_index (set next n v)
    k < 65536
short_set next n v k short small within = elim (cases_eq k n) [
  | inl same ↦ subst (λ x. x < 65536) (sym (ap (slice_index (set next n v)) same ∙ get_or-set_same next n v 0 within)) small
  | inr other ↦ subst (λ x. x < 65536) (sym (get_or-set_other next n k v 0 other)) (short k)
]

pub blocks_taken : (t new : BlockTable) (n : ℕ) → AreBlocks t → n < length t.free → new.size ≡ t.size → new.needed ≡ t.needed
    → length new.free ≡ length t.free → ((k : ℕ) → is_member new.free k ≡ (not (k == n) && is_member t.free k))
    → new.next.items ≡ set t.next.items n 0 → AreBlocks new
blocks_taken t new n are within size needed long rest next = record {
  sized = ap is_block_size size ∙ are.sized;
  free = long ∙ are.free ∙ ap (λ s. s / 1024) (sym size);
  next = ap length next ∙ length-set t.next.items n 0 ∙ are.next ∙ ap (λ s. s / 1024) (sym size);
  inside = λ k there. ap (λ s. is_data s k) size ∙ are.inside k (second (not (k == n)) (is_member t.free k) (sym (rest k) ∙ there));
  short = λ k. subst (λ v. slice_index v k < 65536) (sym next)
      (short_set t.next.items n 0 k are.short (omega arith) (omega (arith, within, are.free, are.next)));
  needed = subst (λ s. new.needed ≤ data_count s) (sym size) (subst (λ m. m ≤ data_count t.size) (sym needed) are.needed);
}

-- Some blocks are taken, and the others are free.
pub record Taking (t0 t : BlockTable) (first last i : ℕ) : Type 0 where
  pub blocks : AreBlocks t
  pub size : t.size ≡ t0.size
  pub needed : t.needed ≡ t0.needed
  pub on : last < t.size / 1024
  pub rest : free_in t ≡ drop i (free_in t0)
  pub before : List ℕ
  pub taken : take i (free_in t0) ≡ before ++ last ∷ []
  pub low : (k : ℕ) → has k before ≡ true → k < last
  pub high : (k : ℕ) → is_member t.free k ≡ true → last < k
  pub chain : walk t.next.items first (suc (suc (length before))) ≡ before ++ last ∷ 0 ∷ []
  pub head : first ≡ first_or_zero (take i (free_in t0))
  pub free : (k : ℕ) → is_member t.free k ≡ (not (has k (take i (free_in t0))) && is_member t0.free k)
  pub others : (k : ℕ) → has k (take i (free_in t0)) ≡ false → slice_index t.next.items k ≡ slice_index t0.next.items k

walk_two : (next : List ℕ) (block : ℕ) → walk next block (suc (suc zero)) ≡ block ∷ slice_index next block ∷ []
unfolding walk
walk_two next block = refl

not_it : (k n : ℕ) → ((n == k) || false) ≡ false → k ≡ n → ⊥
not_it k n out same = false≢true (sym out ∙ ap (λ b. b || false) (eq-eqb n k (sym same)))

flip : (a b : ℕ) → (a == b) ≡ ((b == a) || false)
flip a b = elim (cases_eq a b) [
  | inl same ↦ eq-eqb a b same ∙ sym (ap (λ c. c || false) (eq-eqb b a (sym same)))
  | inr other ↦ ne_eqb a b other ∙ sym (ap (λ c. c || false) (ne_eqb b a (λ e. other (sym e))))
]

-- the first is taken
pub one_taken : (t0 t : BlockTable) (n : ℕ) → AreBlocks t0 → AreBlocks t → t.size ≡ t0.size → t.needed ≡ t0.needed
    → is_data t0.size n ≡ true → free_in t0 ≡ n ∷ free_in t → t.next.items ≡ set t0.next.items n 0
    → ((k : ℕ) → is_member t.free k ≡ (not (k == n) && is_member t0.free k)) → ((k : ℕ) → is_member t.free k ≡ true → n < k)
    → Taking t0 t n n 1
one_taken t0 t n are0 are size needed inside free next rest behind =
    let within : n < length t0.next.items = omega (arith, on_disk t0.size n inside, are0.next) in
    let one : take 1 (free_in t0) ≡ n ∷ [] = ap (take 1) free in
    record {
      blocks = are;
      size = size;
      needed = needed;
      on = subst (λ s. n < s / 1024) (sym size) (on_disk t0.size n inside);
      rest = sym (ap (drop 1) free);
      before = [];
      taken = one;
      low = λ k there. absurd (false≢true there);
      high = behind;
      chain = walk_two t.next.items n
          ∙ ap (λ z. n ∷ z ∷ []) (ap (λ v. slice_index v n) next ∙ get_or-set_same t0.next.items n 0 0 within);
      head = sym (ap first_or_zero one);
      free = λ k. rest k ∙ ap (λ b. not b && is_member t0.free k) (flip k n) ∙ sym (ap (λ ks. not (has k ks) && is_member t0.free k) one);
      others = λ k out. ap (λ v. slice_index v k) next
          ∙ get_or-set_other t0.next.items n k 0 0 (not_it k n (sym (ap (has k) one) ∙ out));
    }

or_out : (a b : Bool) → b ≡ false → (a || b) ≡ true → a ≡ true
or_out true b none is = refl
or_out false b none is = absurd (both_ways b none is)

one_longer : (xs : List ℕ) (x : ℕ) → length (xs ++ x ∷ []) ≡ suc (length xs)
one_longer [] x = refl
one_longer (w ∷ xs) x = ap suc (one_longer xs x)

joined : (xs ys : List ℕ) (x : ℕ) → (xs ++ x ∷ []) ++ ys ≡ xs ++ x ∷ ys
joined [] ys x = refl
joined (w ∷ xs) ys x = ap (λ zs. w ∷ zs) (joined xs ys x)

same_first : (xs ys : List ℕ) (x : ℕ) → first_or_zero ((xs ++ x ∷ []) ++ ys) ≡ first_or_zero (xs ++ x ∷ [])
same_first [] ys x = refl
same_first (w ∷ xs) ys x = refl

has_last : (xs : List ℕ) (x : ℕ) → has x (xs ++ x ∷ []) ≡ true
has_last xs x = has_behind x x xs ∙ or_right (has x xs) (x == x) (eq-eqb x x refl)

both_out : (a b m e : Bool) → a ≡ b → (not a && (not e && m)) ≡ (not (e || b) && m)
both_out a true m true same = ap (λ c. not c && false) same
both_out a true m false same = ap (λ c. not c && m) same
both_out a false m true same = ap (λ c. not c && false) same
both_out a false m false same = ap (λ c. not c && m) same

turned : (a b : ℕ) → (a == b) ≡ (b == a)
turned a b = elim (cases_eq a b) [
  | inl same ↦ eq-eqb a b same ∙ sym (eq-eqb b a (sym same))
  | inr other ↦ ne_eqb a b other ∙ sym (ne_eqb b a (λ e. other (sym e)))
]

two_sets : (next : List ℕ) (last block k : ℕ) → (k ≡ last → ⊥) → (k ≡ block → ⊥)
    → slice_index (set (set next block 0) last block) k ≡ slice_index next k
two_sets next last block k not_last not_block =
    get_or-set_other (set next block 0) last k block 0 not_last ∙ get_or-set_other next block k 0 0 not_block

-- one more is taken
pub more_taken : (t0 t mid new : BlockTable) (first last block i : ℕ) → Taking t0 t first last i
    → free_in t ≡ block ∷ free_in mid → (is_data t.size block ≡ true) × (is_member t.free block ≡ true)
    → mid.next.items ≡ set t.next.items block 0 → ((k : ℕ) → is_member mid.free k ≡ (not (k == block) && is_member t.free k))
    → ((k : ℕ) → is_member mid.free k ≡ true → block < k) → mid.size ≡ t.size → mid.needed ≡ t.needed
    → AreBlocks new → new.next.items ≡ set mid.next.items last block → new.size ≡ mid.size → new.free ≡ mid.free → new.needed ≡ mid.needed
    → Taking t0 new first block (suc i)
more_taken t0 t mid new first last block i g free inside next rest behind size needed are next2 size2 free2 needed2 =
    let more = next_of (free_in t0) i block (free_in mid) (sym g.rest ∙ free) in
    let above : last < block = g.high block inside.1 in
    let taken : take (suc i) (free_in t0) ≡ (g.before ++ last ∷ []) ++ block ∷ [] = more.0 ∙ ap (λ xs. xs ++ block ∷ []) g.taken in
    let links : new.next.items ≡ set (set t.next.items block 0) last block = next2 ∙ ap (λ v. set v last block) next in
    let long : length (set t.next.items block 0) ≡ t.size / 1024 = length-set t.next.items block 0 ∙ g.blocks.next in
    let within : block < t.size / 1024 = on_disk t.size block inside.0 in
    record {
      blocks = are;
      size = size2 ∙ size ∙ g.size;
      needed = needed2 ∙ needed ∙ g.needed;
      on = subst (λ s. block < s / 1024) (sym (size2 ∙ size)) within;
      rest = ap (λ r. filter (is_member r) (numbers 0 (length r))) free2 ∙ sym more.1;
      before = g.before ++ last ∷ [];
      taken = taken;
      low = λ k there. elim (cases_eq last k) [
        | inl same ↦ omega (arith, same, above)
        | inr other ↦ omega (
          arith,
          above,
          g.low k (or_out (has k g.before) (last == k) (ne_eqb last k other)
              (sym (has_behind k last g.before) ∙ there)),
        )
      ];
      high = λ k there. behind k (ap (λ r. is_member r k) (sym free2) ∙ there);
      chain =
          ap (λ n. walk new.next.items first (suc (suc n))) (one_longer g.before last)
          ∙ relink g.before t.next.items new.next.items first last block g.chain
          (λ k there. ap (λ v. slice_index v k) links ∙ two_sets t.next.items last block k
          (λ same. omega (arith, same, g.low k there)) (λ same. omega (arith, same, g.low k there, above)))
          (ap (λ v. slice_index v last) links
          ∙ get_or-set_same (set t.next.items block 0) last block 0 (omega (arith, long, g.on)))
          (ap (λ v. slice_index v block) links
          ∙ get_or-set_other (set t.next.items block 0) last block block 0 (λ same. omega (arith, same, above))
          ∙ get_or-set_same t.next.items block 0 0 (omega (arith, within, g.blocks.next)))
          ∙ sym (joined g.before (block ∷ 0 ∷ []) last);
      head = g.head ∙ ap first_or_zero g.taken ∙ sym (same_first g.before (block ∷ []) last) ∙ sym (ap first_or_zero taken);
      free = λ k.
          ap (λ r. is_member r k) free2 ∙ rest k ∙ ap (λ b. not (k == block) && b) (g.free k)
          ∙ both_out (k == block) (block == k) (is_member t0.free k) (has k (take i (free_in t0))) (turned k block)
          ∙ sym (ap (λ b. not b && is_member t0.free k) (ap (has k) more.0 ∙ has_behind k block (take i (free_in t0))));
      others = λ k out.
          let parts = or_parts (has k (take i (free_in t0))) (block == k)
          (sym (ap (has k) more.0 ∙ has_behind k block (take i (free_in t0))) ∙ out) in
          ap (λ v. slice_index v k) links
          ∙ two_sets t.next.items last block k
          (λ same. false≢true (sym parts.0 ∙ ap (has k) g.taken ∙ ap (λ j. has j (g.before ++ last ∷ [])) same ∙ has_last g.before last))
          (λ same. eqb-false block k parts.1 (sym same))
          ∙ g.others k parts.0;
    }

-- Where no block is free any more, no more are taken.
pub no_more : (t0 t : BlockTable) (first last i count : ℕ) → Taking t0 t first last i → i ≤ count → free_in t ≡ []
    → take count (free_in t0) ≡ take i (free_in t0)
no_more t0 t first last i count g within none =
    let short : length (free_in t0) ≤ i = omega (arith, length-drop i (free_in t0), ap length (sym g.rest ∙ none)) in
    take_all count (free_in t0) (omega (arith, short, within)) ∙ sym (take_all i (free_in t0) short)

-- the chain of all that were taken
pub whole_chain : (t0 t : BlockTable) (first last i count : ℕ) → Taking t0 t first last i
    → take count (free_in t0) ≡ take i (free_in t0)
    → walk t.next.items first (suc (length (take count (free_in t0)))) ≡ take count (free_in t0) ++ 0 ∷ []
whole_chain t0 t first last i count g same =
    let taken : take count (free_in t0) ≡ g.before ++ last ∷ [] = same ∙ g.taken in
    ap (λ n. walk t.next.items first (suc n)) (ap length taken ∙ one_longer g.before last)
    ∙ g.chain ∙ sym (joined g.before (0 ∷ []) last) ∙ ap (λ xs. xs ++ 0 ∷ []) (sym taken)

pub all_free : (t0 t : BlockTable) (first last i count k : ℕ) → Taking t0 t first last i → take count (free_in t0) ≡ take i (free_in t0)
    → is_member t.free k ≡ (not (has k (take count (free_in t0))) && is_member t0.free k)
all_free t0 t first last i count k g same = g.free k ∙ ap (λ xs. not (has k xs) && is_member t0.free k) (sym same)

pub all_others : (t0 t : BlockTable) (first last i count k : ℕ) → Taking t0 t first last i → take count (free_in t0) ≡ take i (free_in t0)
    → has k (take count (free_in t0)) ≡ false → slice_index t.next.items k ≡ slice_index t0.next.items k
all_others t0 t first last i count k g same out = g.others k (ap (has k) (sym same) ∙ out)
