-- A value that is read block by block.
use Rattle.std.proofs.Common.{◌≡◌, ℕ, suc, zero, ◌+◌, ◌-◌, ◌*◌, ◌/◌, ◌≤◌, ◌<◌, Bool, true, false, IsTrue, List, [], ◌∷◌, ◌++◌, length, take}
use Rattle.std.proofs.Common.{drop}
use Rattle.std.proofs.Common.{replicate, refl, sym, ap, ◌∙◌, arith, inl, append-nil, eq-eqb}
use Rattle.std.specs.Prelude.{flat_map, slice_range, slice_index, min, ◌==◌, ◌||◌}
use Rattle.std.proofs.lemmas.Bool.{false≢true, or_left, or_right}
use Rattle.std.proofs.lemmas.Bool.Decides.{nat_tests}
use Rattle.std.proofs.lemmas.List.{length-take-le, length-drop, take_all}
use Rattle.eden_disk.specs.Told.{Told, contents}
use Rattle.eden_disk.specs.Calls.{Counts, Due, DeviceCalls, Obeyed, ReadTold, End, Fine, AtFault, AtStop}
use Rattle.eden_disk.proofs.Held.{calls_more, obeyed_more}
use Rattle.passive_store.specs.Acts.{Read, AllTold, CallsTold}
use Rattle.block_tables.specs.declared.heads.HeadFields.{HeadFields}
use Rattle.block_tables.specs.Blocks.{blocks_of, body_on, has, is_data, is_block_size}
use Rattle.block_tables.specs.HeadSeen.{head_of}
use Rattle.block_tables.specs.BlockState.{walk, AreDataIn}
use Rattle.passive_blocks.specs.StoreState.{chain_in}
use Rattle.passive_blocks.specs.HeldState.{behind_walk}
use Rattle.passive_blocks.proofs.BlocksKept.{data_on, long_data}
use Rattle.passive_blocks.proofs.HeldCounts.{walk_further, walk_long}
use Rattle.passive_blocks.proofs.KeptUnder.{each_has}
use Rattle.block_tables.proofs.Walks.{on_disk}

-- Some parts of a value are read, with as many device calls, none of which was refused.
pub record Reading (tells obeys : Bool) (start here : Told) (before after : Counts) (due_then due_now : Due) (next : List ℕ)
    (value : HeadFields) (bytes : List ℕ) (block from i : ℕ) : Type 0 where
  pub counts : DeviceCalls i before after Fine
  pub obeyed : IsTrue obeys → Obeyed due_then due_now before after Fine
  pub same : IsTrue tells → here ≡ start
  pub long : length bytes ≡ value.size
  pub behind : block ≡ behind_walk next value.first i
  pub place : from ≡ min (1022 * i) value.size
  pub part : IsTrue tells → length (contents start).now ≡ before.size
      → take from bytes ≡ take from (flat_map (data_on (contents start).now) (walk next value.first i))

pub none_read : (tells obeys : Bool) (start : Told) (before : Counts) (due : Due) (next : List ℕ) (value : HeadFields) (bytes : List ℕ)
    → DeviceCalls 0 before before Fine → Obeyed due due before before Fine → length bytes ≡ value.size
    → Reading tells obeys start start before before due due next value bytes value.first 0 0
unfolding behind_walk
none_read tells obeys start before due next value bytes counts obeyed long = record {
  counts = counts;
  obeyed = λ so. obeyed;
  same = λ so. refl;
  long = long;
  behind = refl;
  place = omega arith;
  part = λ so whole. refl;
}

-- the next block is one of the chain
pub behind_in : (next : List ℕ) (block n i : ℕ) → i < n → has (behind_walk next block i) (walk next block n) ≡ true
unfolding walk behind_walk
behind_in next block zero i less = absurd (omega (arith, less))
behind_in next block (suc n) zero less =
    or_left (block == block) (has block (walk next (slice_index next block) n)) (eq-eqb block block refl)
behind_in next block (suc n) (suc i) less =
    or_right (block == behind_walk next (slice_index next block) i) (has (behind_walk next (slice_index next block) i) (walk next
    (slice_index next block) n))
    (behind_in next (slice_index next block) n i (omega (arith, less)))

pub next_data : (size : ℕ) (next : List ℕ) (first n i block : ℕ) → AreDataIn size (walk next first n) → block ≡ behind_walk next first i
    → i < n
    → is_data size block ≡ true
next_data size next first n i block inside is less =
    inside block (ap (λ b. has b (walk next first n)) is ∙ behind_in next first n i less)

pub walked_once : (next : List ℕ) (block i : ℕ) → slice_index next (behind_walk next block i) ≡ behind_walk next block (suc i)
unfolding behind_walk
walked_once next block zero = refl
walked_once next block (suc i) = walked_once next (slice_index next block) i

flat_further : (f : ℕ → List ℕ) (xs : List ℕ) (x : ℕ) → flat_map f (xs ++ x ∷ []) ≡ flat_map f xs ++ f x
flat_further f [] x = append-nil (f x)
flat_further f (y ∷ ys) x = ap (λ r. f y ++ r) (flat_further f ys x) ∙ sym (assoc (f y) (flat_map f ys) (f x))
  where
    assoc : (us vs ws : List ℕ) → (us ++ vs) ++ ws ≡ us ++ (vs ++ ws)
    assoc [] vs ws = refl
    assoc (u ∷ us) vs ws = ap (λ r. u ∷ r) (assoc us vs ws)

take_part : (n k : ℕ) (xs : List ℕ) → k ≤ n → take k (take n xs) ≡ take k xs
take_part n zero [] less = take_none (take n [])
  where
    take_none : (ys : List ℕ) → take 0 ys ≡ []
    take_none [] = refl
    take_none (y ∷ ys) = refl
take_part n zero (x ∷ xs) less = take_none (take n (x ∷ xs))
  where
    take_none : (ys : List ℕ) → take 0 ys ≡ []
    take_none [] = refl
    take_none (y ∷ ys) = refl
take_part zero (suc k) xs less = absurd (omega (arith, less))
take_part (suc n) (suc k) [] less = refl
take_part (suc n) (suc k) (x ∷ xs) less = ap (λ r. x ∷ r) (take_part n k xs (omega (arith, less)))

take_past : (xs ys : List ℕ) (n : ℕ) → length xs ≤ n → take n (xs ++ ys) ≡ xs ++ take (n - length xs) ys
take_past [] ys n less = ap (λ m. take m ys) (let e : n ≡ n - 0 = omega arith in e)
take_past (x ∷ xs) ys zero less = absurd (omega (arith, less))
take_past (x ∷ xs) ys (suc n) less =
    ap (λ r. x ∷ r) (take_past xs ys n (omega (arith, less))
    ∙ ap (λ m. xs ++ take m ys) (let e : n - length xs ≡ suc n - suc (length xs) = omega arith in e))

-- a part of what stands on a block
part_of : (image : List ℕ) (block k : ℕ) → k ≤ 1022 → take k (data_on image block) ≡ slice_range image (block * 1024 + 2)
    (block * 1024 + 2 + k)
part_of image block k less =
    take_part (block * 1024 + 1024 - (block * 1024 + 2)) k (drop (block * 1024 + 2) image) (omega (arith, less))
    ∙ ap (λ m. take m (drop (block * 1024 + 2) image)) (let e : k ≡ block * 1024 + 2 + k - (block * 1024 + 2) = omega arith in e)

-- One more part is read.
pub one_read : (tells obeys : Bool) (start here there : Told) (before between after : Counts) (due_then due_now due_next : Due)
    (next : List ℕ)
    (value : HeadFields) (old new : List ℕ) (block behind from to i : ℕ)
    → Reading tells obeys start here before between due_then due_now next value old block from i
    → i < blocks_of value.size → before.size ≡ before.size
    → DeviceCalls (i + 1) before after Fine → (IsTrue obeys → Obeyed due_then due_next before after Fine) → (IsTrue tells → there ≡ here)
    → length new ≡ length old → behind ≡ slice_index next block → to ≡ min (from + 1022) value.size
    → (length (contents start).now ≡ before.size → length (flat_map (data_on (contents start).now) (walk next value.first i)) ≡ 1022 * i)
    → (length (contents start).now ≡ before.size
    → length (slice_range (contents start).now (block * 1024 + 2) (block * 1024 + 2 + (to - from))) ≡ to - from)
    → (IsTrue tells → new ≡ take from old
    ++ (slice_range (contents here).now (block * 1024 + 2) (block * 1024 + 2 + (to - from)) ++ drop to old))
    → Reading tells obeys start there before after due_then due_next next value new behind to (i + 1)
one_read tells obeys start here there before between after due_then due_now due_next next value old new block behind from to i r less sized
    counts
    obeyed told long is to_is front part given = record {
      counts = counts;
      obeyed = obeyed;
      same = λ so. told so ∙ r.same so;
      long = long ∙ r.long;
      behind = is ∙ ap (slice_index next) r.behind ∙ walked_once next value.first i ∙ ap (behind_walk next value.first) (let e : suc i
          ≡ i + 1 = omega arith in e);
      place = omega (arith, to_is, r.place);
      part = λ so whole.
          let image : List ℕ = (contents start).now in
          let k : ℕ = to - from in
          let within : 1022 * i ≤ value.size = started i value.size less in
          let from_is : from ≡ 1022 * i = omega (arith, r.place, within) in
          let all : List ℕ = flat_map (data_on image) (walk next value.first i) in
          let full : length all ≡ 1022 * i = front whole in
          let piece : List ℕ = slice_range image (block * 1024 + 2) (block * 1024 + 2 + k) in
          let up : from ≤ to = omega (arith, to_is, r.place) in
          let most : k ≤ 1022 = omega (arith, to_is) in
          let head : take from old ≡ all = r.part so whole ∙ take_all from all (omega (arith, full, from_is)) in
          let read : new ≡ take from old ++ (piece ++ drop to old) =
          given so ∙ ap (λ c. take from old ++ (slice_range c (block * 1024 + 2) (block * 1024 + 2 + k) ++ drop to old))
          (ap (λ t. (contents t).now) (r.same so)) in
          let further : flat_map (data_on image) (walk next value.first (i + 1)) ≡ all ++ data_on image block =
          ap (λ n. flat_map (data_on image) (walk next value.first n)) (let e : i + 1 ≡ suc i = omega arith in e)
          ∙ ap (flat_map (data_on image)) (walk_further next value.first i)
          ∙ flat_further (data_on image) (walk next value.first i) (behind_walk next value.first i)
          ∙ ap (λ b. all ++ data_on image b) (sym r.behind) in
          let left : take to new ≡ all ++ piece =
          ap (take to) (read ∙ ap (λ xs. xs ++ (piece ++ drop to old)) head)
          ∙ take_past all (piece ++ drop to old) to (omega (arith, full, from_is, up))
          ∙ ap (λ n. all ++ take n (piece ++ drop to old)) (let e : to - length all ≡ k = omega (arith, full, from_is) in e)
          ∙ ap (λ xs. all ++ xs) (take_past piece (drop to old) k (omega (arith, part whole))
          ∙ ap (λ n. piece ++ take n (drop to old)) (let e : k - length piece ≡ 0 = omega (arith, part whole) in e)
          ∙ ap (λ xs. piece ++ xs) (none (drop to old)) ∙ append-nil piece) in
          let right : take to (all ++ data_on image block) ≡ all ++ piece =
          take_past all (data_on image block) to (omega (arith, full, from_is, up))
          ∙ ap (λ n. all ++ take n (data_on image block)) (let e : to - length all ≡ k = omega (arith, full, from_is) in e)
          ∙ ap (λ xs. all ++ xs) (part_of image block k most) in
          left ∙ sym (ap (take to) further ∙ right);
    }
  where
    none : (ys : List ℕ) → take 0 ys ≡ []
    none [] = refl
    none (y ∷ ys) = refl

    started : (j size : ℕ) → j < blocks_of size → 1022 * j ≤ size
    started j size below = omega (arith, below)

-- All of it is read.
pub all_read : (tells obeys : Bool) (start here : Told) (before after : Counts) (due_then due_now : Due) (next : List ℕ)
    (value : HeadFields) (bytes : List ℕ) (block from i : ℕ)
    → Reading tells obeys start here before after due_then due_now next value bytes block from i → i ≡ blocks_of value.size
    → IsTrue tells → length (contents start).now ≡ before.size
    → bytes ≡ body_on (contents start).now (chain_in next (head_of value))
all_read tells obeys start here before after due_then due_now next value bytes block from i r all so whole =
    let end : from ≡ value.size = ended i value.size from all r.place in
    sym (take_all value.size bytes (omega (arith, r.long)))
    ∙ ap (λ n. take n bytes) (sym end) ∙ r.part so whole
    ∙ ap (λ n. take n (flat_map (data_on (contents start).now) (walk next value.first i))) end
    ∙ ap (λ n. take value.size (flat_map (data_on (contents start).now) (walk next value.first n))) all
  where
    ended : (j size at : ℕ) → j ≡ blocks_of size → at ≡ min (1022 * j) size → at ≡ size
    ended j size at is place = omega (arith, is, place)

-- Of reads a telling disk notes nothing, whatever their number.
pub reads_told : (n clock : ℕ) (old new : Told) (end : End) → 1 ≤ n → ReadTold clock old new end → CallsTold (replicate n Read) old new end
reads_told n clock old new Fine some told = all n old told
  where
    all : (m : ℕ) (from : Told) → new ≡ from → AllTold (replicate m Read) from new
    all zero from same = same
    all (suc m) from same = (from, 0, refl, all m from same)
reads_told zero clock old new AtFault some told = absurd (omega (arith, some))
reads_told (suc n) clock old new AtFault some told = inl (clock, told)
reads_told zero clock old new AtStop some told = absurd (omega (arith, some))
reads_told (suc n) clock old new AtStop some told = inl (clock, told)

has_longer : (next : List ℕ) (block i n k : ℕ) → i ≤ n → has k (walk next block i) ≡ true → has k (walk next block n) ≡ true
unfolding walk
has_longer next block zero n k less there = absurd (false≢true there)
has_longer next block (suc i) zero k less there = absurd (omega (arith, less))
has_longer next block (suc i) (suc n) k less there = go (block == k) there
    (λ rest. has_longer next (slice_index next block) i n k (omega (arith, less)) rest)
  where
    go : (b : Bool) → (b || has k (walk next (slice_index next block) i)) ≡ true
        → (has k (walk next (slice_index next block) i) ≡ true → has k (walk next (slice_index next block) n) ≡ true)
        → (b || has k (walk next (slice_index next block) n)) ≡ true
    go true is rest = refl
    go false is rest = rest is

front_long : (image next : List ℕ) (size first n i : ℕ) → i ≤ n → AreDataIn size (walk next first n) → length image ≡ size
    → length (flat_map (data_on image) (walk next first i)) ≡ 1022 * i
front_long image next size first n i less inside whole =
    long_data image (walk next first i)
    (each_has (λ (b : ℕ). b * 1024 + 1024 ≤ length image) (walk next first i) (λ k there.
    on_image (length image) size k whole (on_disk size k (inside k (has_longer next first i n k less there)))))
    ∙ ap (λ m. 1022 * m) (walk_long next first i)
  where
    on_image : (l s k : ℕ) → l ≡ s → k < s / 1024 → k * 1024 + 1024 ≤ l
    on_image l s k same less = omega (arith, same, less)

piece_long : (image : List ℕ) (size block k : ℕ) → length image ≡ size → block < size / 1024 → k ≤ 1022
    → length (slice_range image (block * 1024 + 2) (block * 1024 + 2 + k)) ≡ k
piece_long image size block k whole on most =
    length-take-le (block * 1024 + 2 + k - (block * 1024 + 2)) (drop (block * 1024 + 2) image)
    (enough size (length image) (length (drop (block * 1024 + 2) image)) whole on (length-drop (block * 1024 + 2) image))
    ∙ omega arith
  where
    enough : (s l d : ℕ) → l ≡ s → block < s / 1024 → d ≡ l - (block * 1024 + 2) → block * 1024 + 2 + k - (block * 1024 + 2) ≤ d
    enough s l d same within is = omega (arith, same, within, is, most)

-- the same, by what a loop knows
pub more_read : (tells obeys : Bool) (start here there : Told) (before between after : Counts) (due_then due_now due_next : Due)
    (next : List ℕ)
    (value : HeadFields) (old new : List ℕ) (block behind from to i size : ℕ)
    → Reading tells obeys start here before between due_then due_now next value old block from i
    → i < blocks_of value.size → size ≡ before.size → AreDataIn size (walk next value.first (blocks_of value.size))
    → DeviceCalls 1 between after Fine → (IsTrue obeys → Obeyed due_now due_next between after Fine) → (IsTrue tells → there ≡ here)
    → length new ≡ length old → behind ≡ slice_index next block → to ≡ min (from + 1022) value.size
    → (IsTrue tells → new ≡ take from old
    ++ (slice_range (contents here).now (block * 1024 + 2) (block * 1024 + 2 + (to - from)) ++ drop to old))
    → Reading tells obeys start there before after due_then due_next next value new behind to (i + 1)
more_read tells obeys start here there before between after due_then due_now due_next next value old new block behind from to i size r less
    sized
    inside counts obeyed told long is to_is given =
    let on : block < size / 1024 = on_disk size block (next_data size next value.first
    (blocks_of value.size) i block inside r.behind less) in
    one_read tells obeys start here there before between after due_then due_now due_next next value old new block behind from to i r less
    refl
    (calls_more i 1 before between after Fine r.counts counts)
    (λ so. obeyed_more i 1 due_then due_now due_next before between after Fine r.counts counts (r.obeyed so) (obeyed so))
    told long is to_is
    (λ whole. front_long (contents start).now next size value.first (blocks_of value.size) i (omega (arith, less)) inside (whole
    ∙ sym sized))
    (λ whole. piece_long (contents start).now size block (to - from) (whole ∙ sym sized) on (omega (arith, to_is)))
    given

large : (size : ℕ) → is_block_size size ≡ true → size ≤ 67108864
large size sized = grind (arith, nat_tests)

-- the next block is on the disk
pub next_on : (tells obeys : Bool) (start here : Told) (before after : Counts) (due_then due_now : Due) (next : List ℕ)
    (value : HeadFields) (bytes : List ℕ) (block from i size : ℕ)
    → Reading tells obeys start here before after due_then due_now next value bytes block from i → i < blocks_of value.size
    → is_block_size size ≡ true → AreDataIn size (walk next value.first (blocks_of value.size)) → (block < size / 1024) × (block < 65536)
next_on tells obeys start here before after due_then due_now next value bytes block from i size r less sized inside =
    let on : block < size / 1024 = on_disk size block (next_data size next value.first
    (blocks_of value.size) i block inside r.behind less) in
    (on, short size block (large size sized) on)
  where
    short : (s b : ℕ) → s ≤ 67108864 → b < s / 1024 → b < 65536
    short s b most within = omega (arith, most, within)
