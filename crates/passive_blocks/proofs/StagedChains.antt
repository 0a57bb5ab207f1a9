-- Values that are written on blocks of their own, one behind the other, are kept by an image that has their heads.
use Rattle.std.specs.Prelude.{◌≡◌, ◌⊎◌, ℕ, suc, zero, ◌+◌, ◌-◌, ◌*◌, ◌/◌, ◌≤◌, ◌<◌, ◌==◌, Bool, true, false, cond, not, ◌&&◌, ◌||◌}
use Rattle.std.specs.Prelude.{nat_le, T}
use Rattle.std.specs.Prelude.{List, [], ◌∷◌, ◌++◌, length, take, drop, map, filter, flat_map, slice_range, Some, Result, Ok}
use Rattle.std.specs.Prelude.{if◌then◌else◌}
use Rattle.std.proofs.Common.{refl, sym, ap, subst, ◌∙◌, inl, inr, arith, length-append}
use Rattle.std.proofs.lemmas.Bool.Decides.{nat_tests}
use Rattle.std.proofs.lemmas.List.Folds.{list_all-append}
use Rattle.std.proofs.lemmas.List.{append_assoc, take-append-drop, take-append-le, length-take-le, length-drop}
use Rattle.std.specs.List.{list_all}
use Rattle.std.specs.Ordering.{eq_by_cmp, is_lt, is_eq}
use Rattle.std.specs.FinMap.Entries.{is_sorted, below_all}
use Rattle.capability.specs.declared.Uid.{Uid}
use Rattle.capability.specs.Uids.{uid_cmp}
use Rattle.passive_store.specs.Kept.{StoreChange, kept_by, kept_from, nothing_kept}
use Rattle.passive_store.specs.Log.{with_record}
use Rattle.block_tables.specs.Blocks.{Head, Chain, numbers, blocks_of, has, without, next_block, on_block, chain_from, chain_of}
use Rattle.block_tables.specs.Blocks.{chains_among, chains_of, data_blocks, changes_on, kept_in_blocks, blocks_map, heads_of}
use Rattle.block_tables.specs.Blocks.{counts, same_uid, taken_by}
use Rattle.passive_blocks.specs.BlockLayout.{reads_of_blocks}
use Rattle.passive_blocks.specs.Conversion.{Moved, moved_from, moved_change}
use Rattle.passive_blocks.proofs.ConvertStages.{IsWritten, AreWritten, blocks_for_all}
use Rattle.std.specs.Cmp.{tied_itself}
use Rattle.capability.proofs.Uids.{uid_cmp_total, uid_cmp-IsAntisymmetric}
use Rattle.passive_blocks.proofs.Keeping.{left_part, right_part, tied}
use Rattle.block_tables.proofs.Listing.{has_number}

-- 1. Which blocks are free

not_same : (a b : ℕ) → a < b → (a == b) ≡ false
not_same a b less = grind (arith, nat_tests)

same_by_test : (a b : ℕ) → (a == b) ≡ true → a ≡ b
same_by_test a b is = grind (arith, nat_tests)

left_out : (y b : ℕ) (taken : List ℕ) → has y taken ≡ true → has b taken ≡ false → (y == b) ≡ false
left_out y b taken there gone = by_test (y == b) refl
  where
    by_test : (t : Bool) → (y == b) ≡ t → (y == b) ≡ false
    by_test true is = absurd (let bad : true ≡ false = sym there ∙ ap (λ n. has n taken) (same_by_test y b is) ∙ gone in cc)
    by_test false is = is

has_step : (b y : ℕ) (rest ys : List ℕ) (t : Bool) → (t ≡ true → (y == b) ≡ false) → has b rest ≡ has b ys
    → has b (cond (not t) (y ∷ rest) rest) ≡ ((y == b) || has b ys)
has_step b y rest ys true apart same = same ∙ sym (ap (λ c. c || has b ys) (apart refl))
has_step b y rest ys false apart same = ap (λ c. (y == b) || c) same

still_free : (b : ℕ) (taken free : List ℕ) → has b taken ≡ false → has b (without taken free) ≡ has b free
still_free b taken [] none = refl
still_free b taken (y ∷ ys) none =
    has_step b y (without taken ys) ys (has y taken) (λ there. left_out y b taken there none) (still_free b taken ys none)

none_before : (b from n : ℕ) → from + n ≤ b → has b (numbers from n) ≡ false
unfolding numbers
none_before b from zero past = refl
none_before b from (suc n) past =
    ap (λ c. c || has b (numbers (from + 1) n)) (not_same from b (omega (arith, past))) ∙ none_before b (from + 1) n (omega (arith, past))

-- all blocks from one on, up to those of staged heads, are free
abbrev AreFree : ℕ → List ℕ → Type 0
AreFree from free = (b : ℕ) → from ≤ b → b < 3968 → has b free ≡ true

free_behind : (block n : ℕ) (free : List ℕ) → AreFree block free → AreFree (block + n) (without (numbers block n) free)
free_behind block n free all b from below =
    still_free b (numbers block n) free (none_before b block n from) ∙ all b (omega (arith, from)) below

one_number : (block : ℕ) → numbers block 1 ≡ block ∷ []
unfolding numbers
one_number block = refl

free_next : (block : ℕ) (free : List ℕ) → AreFree block free → AreFree (block + 1) (without (block ∷ []) free)
free_next block free all b from below =
    ap (λ taken. has b (without taken free)) (sym (one_number block)) ∙ free_behind block 1 free all b from below

-- 2. The chain of a value

chain_on : Head → List ℕ → Chain
chain_on h blocks = record { head = h; blocks = blocks; whole = true }

followed : Head → List ℕ → List ℕ → ℕ → ℕ → Bool → Chain
followed h image free block more t =
    if t then on_block block (chain_from h image (without (block ∷ []) free) (next_block image block) more)
    else record { head = h; blocks = []; whole = false }

follow_step : (h : Head) (image free : List ℕ) (block more : ℕ)
    → chain_from h image free block (suc more) ≡ followed h image free block more (has block free)
unfolding chain_from followed
follow_step h image free block more = refl

follow_free : (h : Head) (image free : List ℕ) (block more : ℕ) → has block free ≡ true
    → chain_from h image free block (suc more) ≡ on_block block (chain_from h image (without (block ∷ []) free)
    (next_block image block) more)
unfolding followed
follow_free h image free block more is = follow_step h image free block more ∙ ap (λ t. followed h image free block more t) is

chain_stands : (h : Head) (image free : List ℕ) (block more : ℕ) (body : List ℕ) → AreFree block free → block + suc more ≤ 3968
    → IsWritten image block (suc more) body → chain_from h image free block (suc more) ≡ chain_on h (numbers block (suc more))
unfolding numbers chain_from chain_on
chain_stands h image free block zero body all fits written =
    follow_free h image free block 0 (all block (omega arith) (omega (arith, fits)))
    ∙ ap (λ n. on_block block (chain_from h image (without (block ∷ []) free) n 0)) written.0
chain_stands h image free block (suc more) body all fits written =
    follow_free h image free block (suc more) (all block (omega arith) (omega (arith, fits)))
    ∙ ap (λ n. on_block block (chain_from h image (without (block ∷ []) free) n (suc more))) written.0
    ∙ ap (λ c. on_block block c)
    (chain_stands h image (without (block ∷ []) free) (block + 1) more (drop 1022 body) (free_next block free all) (omega
    (arith, fits)) written.2)

blocks_least : (n : ℕ) → 1 ≤ blocks_of n
blocks_least n = omega arith

chain_whole : (h : Head) (image free : List ℕ) (block count : ℕ) (body : List ℕ) → 1 ≤ count → AreFree block free → block + count ≤ 3968
    → IsWritten image block count body → chain_from h image free block count ≡ chain_on h (numbers block count)
chain_whole h image free block zero body least all fits written = absurd (omega (arith, least))
chain_whole h image free block (suc more) body least all fits written = chain_stands h image free block more body all fits written

chain_for : Moved → Chain
chain_for m = chain_on m.head (numbers m.head.first (blocks_of m.head.size))

after_chain : List ℕ → List ℕ → List Head → Chain → List Chain
after_chain image free hs c = c ∷ (if c.whole then chains_among image (without c.blocks free) hs else [])

chains_step : (image free : List ℕ) (h : Head) (hs : List Head)
    → chains_among image free (h ∷ hs) ≡ after_chain image free hs (chain_of image free h)
unfolding chains_among after_chain
chains_step image free h hs = refl

chains_stand : (image free : List ℕ) (number first : ℕ) (es : List (Uid × List ℕ)) → AreFree first free → first + blocks_for_all es ≤ 3968
    → AreWritten image (moved_from number first es)
    → chains_among image free (map (λ (m : Moved). m.head) (moved_from number first es)) ≡ map chain_for (moved_from number first es)
unfolding chains_among moved_from chain_for chain_on after_chain
chains_stand image free number first [] all fits written = refl
chains_stand image free number first (e ∷ es) all fits written =
    let count : ℕ = blocks_of (length e.1) in
    let h : Head = record { number = number; uid = e.0; removal = false; sequence = number + 1; size = length e.1; first = first } in
    let hs : List Head = map (λ (m : Moved). m.head) (moved_from (number + 1) (first + count) es) in
    chains_step image free h hs
    ∙ ap (λ c. after_chain image free hs c) (chain_whole h image free first count e.1 (blocks_least (length e.1)) all (omega
    (arith, fits)) written.0)
    ∙ ap (λ cs. chain_on h (numbers first count) ∷ cs)
    (chains_stand image (without (numbers first count) free) (number + 1) (first + count) es (free_behind first count free all)
    (omega (arith, fits)) written.1)

-- 3. The bytes of a value

data_on : List ℕ → ℕ → List ℕ
data_on image block = slice_range image (block * 1024 + 2) (block * 1024 + 1024)

long_block : (image : List ℕ) (b : ℕ) → b * 1024 + 1024 ≤ length image → length (data_on image b) ≡ 1022
unfolding data_on
long_block image b within =
    length-take-le _ (drop (b * 1024 + 2) image) (omega (arith, within, length-drop (b * 1024 + 2) image)) ∙ omega arith

take_count : (a b : ℕ) (xs : List ℕ) → a ≡ b → take a xs ≡ take b xs
take_count a b xs same = ap (λ n. take n xs) same

take_past : (n : ℕ) (xs ys : List ℕ) → length xs ≤ n → take n (xs ++ ys) ≡ xs ++ take (n - length xs) ys
take_past n [] ys past = take_count n (n - 0) ys (omega arith)
take_past zero (x ∷ xs) ys past = absurd (omega (arith, past))
take_past (suc n) (x ∷ xs) ys past =
    ap (λ rest. x ∷ rest) (take_past n xs ys (omega (arith, past)))
    ∙ ap (λ rest. x ∷ (xs ++ rest)) (take_count (n - length xs) (suc n - suc (length xs)) ys (omega arith))

take_whole : (n : ℕ) (xs : List ℕ) → length xs ≤ n → take n xs ≡ xs
take_whole zero [] fits = refl
take_whole zero (x ∷ xs) fits = absurd (omega (arith, fits))
take_whole (suc n) [] fits = refl
take_whole (suc n) (x ∷ xs) fits = ap (λ rest. x ∷ rest) (take_whole n xs (omega (arith, fits)))

no_more : (count : ℕ) (xs : List ℕ) → length xs ≤ 0 → take (length xs) [] ≡ xs
no_more count [] none = refl
no_more count (x ∷ xs) none = absurd (omega (arith, none))

within_or_past : (n : ℕ) → (n ≤ 1022) ⊎ (1022 ≤ n)
within_or_past n = grind (arith, nat_tests)

one_block : (part rest body : List ℕ) → length part ≡ 1022 → take (length (take 1022 body)) part ≡ take 1022 body
    → take (length (drop 1022 body)) rest ≡ drop 1022 body → take (length body) (part ++ rest) ≡ body
one_block part rest body long here behind = go (within_or_past (length body))
  where
    go : (length body ≤ 1022) ⊎ (1022 ≤ length body) → take (length body) (part ++ rest) ≡ body
    go (inl short) =
        let whole : take 1022 body ≡ body = take_whole 1022 body short in
        take-append-le (length body) part rest (omega (arith, short, long))
        ∙ ap (λ xs. take (length xs) part) (sym whole) ∙ here ∙ whole
    go (inr past) =
        let size : length (take 1022 body) ≡ 1022 = length-take-le 1022 body past in
        let same : part ≡ take 1022 body =
        sym (take_whole 1022 part (omega (arith, long))) ∙ take_count 1022 (length (take 1022 body)) part (sym size) ∙ here in
        take_past (length body) part rest (omega (arith, past, long))
        ∙ ap (λ xs. part ++ xs) (take_count (length body - length part) (length (drop 1022 body)) rest (omega
        (arith, long, length-drop 1022 body)) ∙ behind)
        ∙ ap (λ xs. xs ++ drop 1022 body) same
        ∙ take-append-drop 1022 body

body_stands : (image : List ℕ) (block count : ℕ) (body : List ℕ) → length body ≤ 1022 * count → (block + count) * 1024 ≤ length image
    → IsWritten image block count body → take (length body) (flat_map (data_on image) (numbers block count)) ≡ body
unfolding numbers data_on
body_stands image block zero body fits long written = no_more 0 body (omega (arith, fits))
body_stands image block (suc more) body fits long written =
    one_block (data_on image block) (flat_map (data_on image) (numbers (block + 1) more)) body
    (long_block image block (omega (arith, long))) written.1
    (body_stands image (block + 1) more (drop 1022 body) (omega (arith, fits, length-drop 1022 body)) (omega (arith, long)) written.2)

holds_all : (n : ℕ) → n ≤ 1022 * blocks_of n
holds_all n = omega arith

changes_stand : (image : List ℕ) (number first : ℕ) (es : List (Uid × List ℕ)) → length image ≡ 4194304 → first + blocks_for_all es ≤ 3968
    → AreWritten image (moved_from number first es)
    → changes_on image (map chain_for (moved_from number first es)) ≡ Ok (map moved_change (moved_from number first es))
unfolding moved_from chain_for chain_on data_on
changes_stand image number first [] long fits written = refl
changes_stand image number first (e ∷ es) long fits written =
    let count : ℕ = blocks_of (length e.1) in
    let rest : Result (List StoreChange) ℕ = changes_on image (map chain_for (moved_from (number + 1) (first + count) es)) in
    ap (λ b. with_record (record { uid = e.0; body = Some b; mark = number + 1; wrote = [] }) rest)
    (body_stands image first count e.1 (holds_all (length e.1)) (omega (arith, fits, long)) written.0)
    ∙ ap (λ r. with_record (record { uid = e.0; body = Some e.1; mark = number + 1; wrote = [] }) r)
    (changes_stand image (number + 1) (first + count) es long (omega (arith, fits)) written.1)

-- 4. All heads count

earlier_lets : (h g : Head) → g.sequence ≤ h.sequence → (not (same_uid g h) || nat_le g.sequence h.sequence) ≡ true
earlier_lets h g less = go (not (same_uid g h))
  where
    go : (b : Bool) → (b || nat_le g.sequence h.sequence) ≡ true
    go true = refl
    go false = grind (arith, nat_tests)

AllUpTo : ℕ → List Head → Type 0
AllUpTo n [] = Unit {0}
AllUpTo n (g ∷ gs) = (g.sequence ≤ n) × AllUpTo n gs

up_to_more : (n : ℕ) (gs : List Head) (h : Head) → AllUpTo n gs → h.sequence ≡ n + 1 → AllUpTo (n + 1) (gs ++ h ∷ [])
unfolding AllUpTo
up_to_more n [] h all is = (omega (arith, is), tt)
up_to_more n (g ∷ gs) h all is = (omega (arith, all.0), up_to_more n gs h all.1 is)

front_lets : (n : ℕ) (gs : List Head) (h : Head) → AllUpTo n gs → h.sequence ≡ n + 1
    → list_all (λ g. not (same_uid g h) || nat_le g.sequence h.sequence) gs ≡ true
unfolding AllUpTo
front_lets n [] h all is = refl
front_lets n (g ∷ gs) h all is =
    ap (λ b. b && list_all (λ x. not (same_uid x h) || nat_le x.sequence h.sequence) gs) (earlier_lets h g (omega (arith, all.0, is)))
    ∙ front_lets n gs h all.1 is

behind_differs : (h g : Uid) → T (is_lt (uid_cmp h g)) → eq_by_cmp uid_cmp g h ≡ false
behind_differs h g less = go (is_eq (uid_cmp g h)) refl
  where
    go : (t : Bool) → is_eq (uid_cmp g h) ≡ t → is_eq (uid_cmp g h) ≡ false
    go true is =
        let same : g ≡ h = uid_cmp-IsAntisymmetric g h (tied (uid_cmp g h) is) in
        absurd (subst (λ o. T (is_lt o)) (ap (λ x. uid_cmp h x) same ∙ tied_itself uid_cmp_total h) less)
    go false is = is

back_lets : (h : Head) (number first : ℕ) (es : List (Uid × List ℕ)) → T (below_all uid_cmp h.uid es)
    → list_all (λ g. not (same_uid g h) || nat_le g.sequence h.sequence) (map (λ (m : Moved). m.head) (moved_from number first es)) ≡ true
unfolding moved_from
back_lets h number first [] below = refl
back_lets h number first (e ∷ es) below =
    let rest : Bool = list_all (λ g. not (same_uid g h) || nat_le g.sequence h.sequence)
    (map (λ (m : Moved). m.head) (moved_from (number + 1) (first + blocks_of (length e.1)) es)) in
    ap (λ b. (not b || nat_le (number + 1) h.sequence) && rest)
    (behind_differs h.uid e.0 (left_part (is_lt (uid_cmp h.uid e.0)) (below_all uid_cmp h.uid es) below))
    ∙ back_lets h (number + 1) (first + blocks_of (length e.1)) es (right_part (is_lt (uid_cmp h.uid e.0))
    (below_all uid_cmp h.uid es) below)

all_three : (a b c : Bool) → a ≡ true → b ≡ true → c ≡ true → (a && (b && c)) ≡ true
all_three a b c x y z = ap (λ t. t && (b && c)) x ∙ ap (λ t. t && c) y ∙ z

counts_here : (front back : List Head) (h : Head) → list_all (λ g. not (same_uid g h) || nat_le g.sequence h.sequence) front ≡ true
    → list_all (λ g. not (same_uid g h) || nat_le g.sequence h.sequence) back ≡ true → counts (front ++ h ∷ back) h ≡ true
counts_here front back h before behind =
    list_all-append (λ g. not (same_uid g h) || nat_le g.sequence h.sequence) front (h ∷ back)
    ∙ all_three (list_all (λ g. not (same_uid g h) || nat_le g.sequence h.sequence) front) (not
    (same_uid h h) || nat_le h.sequence h.sequence)
    (list_all (λ g. not (same_uid g h) || nat_le g.sequence h.sequence) back) before (earlier_lets h h (omega arith)) behind

keep_rest : (front : List Head) (number first : ℕ) (es : List (Uid × List ℕ)) → AllUpTo number front → T (is_sorted uid_cmp es)
    → filter (λ h. counts (front ++ map (λ (m : Moved). m.head) (moved_from number first es)) h && not h.removal)
    (map (λ (m : Moved). m.head) (moved_from number first es))
    ≡ map (λ (m : Moved). m.head) (moved_from number first es)
unfolding moved_from
keep_rest front number first [] all sorted = refl
keep_rest front number first (e ∷ es) all sorted =
    let h : Head = record { number = number; uid = e.0; removal = false; sequence = number + 1; size = length e.1; first = first } in
    let hs : List Head = map (λ (m : Moved). m.head) (moved_from (number + 1) (first + blocks_of (length e.1)) es) in
    let rest : List Head = filter (λ g. counts (front ++ h ∷ hs) g && not g.removal) hs in
    ap (λ b. cond (b && true) (h ∷ rest) rest)
    (counts_here front hs h (front_lets number front h all refl)
    (back_lets h (number + 1) (first + blocks_of (length e.1)) es (left_part (below_all uid_cmp e.0 es) (is_sorted uid_cmp es) sorted)))
    ∙ ap (λ xs. h ∷ xs)
    (ap (λ heads. filter (λ g. counts heads g && not g.removal) hs) (sym (append_assoc front (h ∷ []) hs))
    ∙ keep_rest (front ++ h ∷ []) (number + 1) (first + blocks_of (length e.1)) es (up_to_more number front h all refl)
    (right_part (below_all uid_cmp e.0 es) (is_sorted uid_cmp es) sorted))

none_up_to : AllUpTo 0 []
unfolding AllUpTo
none_up_to = tt

-- 5. What an image keeps that has these heads and these values

data_free : (image : List ℕ) → length image ≡ 4194304 → AreFree 1024 (data_blocks (length image))
data_free image long b from below =
    ap (λ size. has b (data_blocks size)) long ∙ has_number b 129 3967 (omega (arith, from)) (omega (arith, below))

chains_are : (image : List ℕ) (es : List (Uid × List ℕ)) → length image ≡ 4194304 → T (is_sorted uid_cmp es)
    → 1024 + blocks_for_all es ≤ 3968 → AreWritten image (moved_from 0 1024 es)
    → chains_of image (map (λ (m : Moved). m.head) (moved_from 0 1024 es)) ≡ map chain_for (moved_from 0 1024 es)
chains_are image es long sorted fits written =
    ap (λ xs. chains_among image (data_blocks (length image)) xs) (keep_rest [] 0 1024 es none_up_to sorted)
    ∙ chains_stand image (data_blocks (length image)) 0 1024 es (data_free image long) fits written

pub values_stand : (node : ℕ) (image : List ℕ) (es : List (Uid × List ℕ)) → length image ≡ 4194304 → T (is_sorted uid_cmp es)
    → 1024 + blocks_for_all es ≤ 3968 → AreWritten image (moved_from 0 1024 es)
    → heads_of node image ≡ Ok (map (λ (m : Moved). m.head) (moved_from 0 1024 es))
    → blocks_map node image ≡ Ok (kept_from nothing_kept (map moved_change (moved_from 0 1024 es)))
values_stand node image es long sorted fits written heads =
    ap (λ found. kept_in_blocks image found) heads
    ∙ ap (λ cs. kept_by (changes_on image cs)) (chains_are image es long sorted fits written)
    ∙ ap (λ r. kept_by r) (changes_stand image 0 1024 es long fits written)

-- 6. How many reads it takes

count_numbers : (from n : ℕ) → length (numbers from n) ≡ n
unfolding numbers
count_numbers from zero = refl
count_numbers from (suc n) = ap suc (count_numbers (from + 1) n)

taken_count : (number first : ℕ) (es : List (Uid × List ℕ))
    → length (taken_by (map chain_for (moved_from number first es))) ≡ blocks_for_all es
unfolding moved_from chain_for chain_on
taken_count number first [] = refl
taken_count number first (e ∷ es) = omega (
  arith,
  length-append (numbers first (blocks_of (length e.1)))
      (taken_by (map chain_for (moved_from (number + 1) (first + blocks_of (length e.1)) es))),
  count_numbers first (blocks_of (length e.1)),
  taken_count (number + 1) (first + blocks_of (length e.1)) es,
)

-- all heads, and each block of each value
pub reads_stand : (node : ℕ) (image : List ℕ) (es : List (Uid × List ℕ)) → length image ≡ 4194304 → T (is_sorted uid_cmp es)
    → 1024 + blocks_for_all es ≤ 3968 → AreWritten image (moved_from 0 1024 es)
    → heads_of node image ≡ Ok (map (λ (m : Moved). m.head) (moved_from 0 1024 es))
    → reads_of_blocks image (heads_of node image) ≡ 4096 + blocks_for_all es
reads_stand node image es long sorted fits written heads =
    ap (λ found. reads_of_blocks image found) heads
    ∙ ap (λ n. n / 1024 + length (taken_by (chains_of image (map (λ (m : Moved). m.head) (moved_from 0 1024 es))))) long
    ∙ ap (λ cs. 4096 + length (taken_by cs)) (chains_are image es long sorted fits written)
    ∙ ap (λ n. 4096 + n) (taken_count 0 1024 es)
