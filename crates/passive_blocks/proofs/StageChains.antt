-- Chains on an image that are those which memory has.
use Rattle.std.specs.Prelude.{◌≡◌, ℕ, zero, suc, ◌+◌, ◌/◌, ◌≤◌, ◌<◌, Bool, true, false, not, ◌&&◌, ◌||◌, ◌==◌, nat_lt}
use Rattle.std.specs.Prelude.{List, [], ◌∷◌, ◌++◌, length, map, filter, flat_map, sum_by, slice_index, Ok, if◌then◌else◌}
use Rattle.std.proofs.Common.{refl, sym, ap, subst, ◌∙◌, inl, inr, arith, eq-eqb}
use Rattle.std.proofs.lemmas.Bool.{false≢true, eqb-true}
use Rattle.std.proofs.lemmas.Bool.Decides.{nat_tests}
use Rattle.std.proofs.lemmas.List.Concat.{flat_map-cons}
use Rattle.std.proofs.lemmas.List.Sums.{sum_by-cons}
use Rattle.passive_store.specs.Kept.{StoreChange, kept_from, nothing_kept, kept_by}
use Rattle.passive_store.specs.Log.{with_record}
use Rattle.block_tables.specs.Blocks.{Head, Chain, has, without, next_block, on_block, chain_from, chain_of, chains_among, chains_of}
use Rattle.block_tables.specs.Blocks.{data_blocks}
use Rattle.block_tables.specs.Blocks.{data_count, is_data, blocks_of, keeping, change_on, changes_on, kept_in_blocks, numbers, taken_by}
use Rattle.block_tables.specs.BlockState.{walk}
use Rattle.passive_blocks.specs.StoreState.{chain_in}
use Rattle.passive_blocks.specs.HeldState.{times, one_if, behind_walk, chain_by, times_kept}
use Rattle.passive_blocks.proofs.Among.{In, as_true, both_true, left_true, right_true}
use Rattle.block_tables.proofs.Listing.{has_number}
use Rattle.passive_blocks.proofs.StageHeads.{below}

-- on these blocks an image names the blocks that memory names
abbrev pub LinksAs : List ℕ → List ℕ → List ℕ → Type 0
LinksAs image next blocks = (b : ℕ) → has b blocks ≡ true → next_block image b ≡ slice_index next b

-- each of these stands there once, and is free
abbrev pub Once : List ℕ → List ℕ → Type 0
Once free blocks = (k : ℕ) → times k blocks ≤ one_if (has k free)

pub times_cons : (k b : ℕ) (bs : List ℕ) → times k (b ∷ bs) ≡ one_if (b == k) + times k bs
times_cons k b bs = go (b == k)
  where
    go : (c : Bool) → length (if c then b ∷ filter (λ x. x == k) bs else filter (λ x. x == k) bs) ≡ one_if c + times k bs
    go true = omega arith
    go false = omega arith

pub times_append : (k : ℕ) (xs ys : List ℕ) → times k (xs ++ ys) ≡ times k xs + times k ys
times_append k [] ys = omega arith
times_append k (x ∷ xs) ys = omega (arith, times_cons k x (xs ++ ys), times_cons k x xs, times_append k xs ys)

pub has_times : (k : ℕ) (xs : List ℕ) → has k xs ≡ true → 1 ≤ times k xs
has_times k [] h = absurd (false≢true h)
has_times k (x ∷ xs) h = go (x == k) refl h (has_times k xs)
  where
    go : (b : Bool) → (x == k) ≡ b → (b || has k xs) ≡ true → (has k xs ≡ true → 1 ≤ times k xs) → 1 ≤ times k (x ∷ xs)
    go true same h rest = omega (arith, times_cons k x xs, ap one_if same)
    go false other h rest = omega (arith, times_cons k x xs, rest h)

pub one_true : (b : Bool) → 1 ≤ one_if b → b ≡ true
one_true true h = refl
one_true false h = absurd (let bad : ⊥ = omega (arith, h) in bad)

pub has_without : (k : ℕ) (taken free : List ℕ) → has k (without taken free) ≡ (has k free && not (has k taken))
has_without k taken [] = refl
has_without k taken (b ∷ bs) = go (has b taken) refl (b == k) refl (has_without k taken bs)
  where
    go : (t : Bool) → has b taken ≡ t → (s : Bool) → (b == k) ≡ s → has k (without taken bs) ≡ (has k bs && not (has k taken))
        → has k (if not t then b ∷ without taken bs else without taken bs) ≡ ((s || has k bs) && not (has k taken))
    go true is true same rest =
        let at : has k taken ≡ true = ap (λ i. has i taken) (sym (eqb-true b k same)) ∙ is in
        rest ∙ ap (λ c. has k bs && not c) at ∙ none (has k bs) ∙ sym (ap (λ c. true && not c) at)
      where
        none : (c : Bool) → (c && false) ≡ false
        none true = refl
        none false = refl
    go true is false other rest = rest
    go false is true same rest =
        let at : has k taken ≡ false = ap (λ i. has i taken) (sym (eqb-true b k same)) ∙ is in
        ap (λ c. c || has k (without taken bs)) same ∙ sym (ap (λ c. true && not c) at)
    go false is false other rest = ap (λ c. c || has k (without taken bs)) other ∙ rest

pub once_first : (free : List ℕ) (b : ℕ) (bs : List ℕ) → Once free (b ∷ bs) → has b free ≡ true
once_first free b bs once = one_true (has b free) (omega (arith, once b, times_cons b b bs, ap one_if (eq-eqb b b refl)))

less_taken : (n m : ℕ) (f t : Bool) → n ≤ one_if f → (t ≡ true → n ≡ 0) → n ≤ one_if (f && not t)
less_taken n m true true h none = omega (arith, none refl)
less_taken n m true false h none = h
less_taken n m false t h none = h

-- what comes behind the first ones stands among those that they leave
pub once_behind : (free xs ys : List ℕ) → Once free (xs ++ ys) → Once (without xs free) ys
once_behind free xs ys once k =
    subst (λ b. times k ys ≤ one_if b) (sym (has_without k xs free))
    (less_taken (times k ys) 0 (has k free) (has k xs) (omega (arith, once k, times_append k xs ys))
    (λ there. omega (arith, has_times k xs there, once k, times_append k xs ys, at_most (has k free))))
  where
    at_most : (b : Bool) → one_if b ≤ 1
    at_most true = omega arith
    at_most false = omega arith

pub once_front : (free xs ys : List ℕ) → Once free (xs ++ ys) → Once free xs
once_front free xs ys once k = omega (arith, once k, times_append k xs ys)

-- A chain that memory has is followed on an image that names the same blocks.
pub chain_is_walk : (h : Head) (image next free : List ℕ) (block n : ℕ) → Once free (walk next block n)
    → LinksAs image next (walk next block n) → behind_walk next block n ≡ 0
    → chain_from h image free block n ≡ record { head = h; blocks = walk next block n; whole = true }
unfolding chain_from walk behind_walk
chain_is_walk h image next free block zero once links ends =
    ap (λ b. record { head = h; blocks = []; whole = b }) (eq-eqb block 0 ends)
chain_is_walk h image next free block (suc n) once links ends =
    ap (λ b. if b then on_block block (chain_from h image (without (block ∷ []) free) (next_block image block) n)
    else record { head = h; blocks = []; whole = false }) (once_first free block (walk next (slice_index next block) n) once)
    ∙ ap (λ b. on_block block (chain_from h image (without (block ∷ []) free) b n))
    (links block (ap (λ b. b || has block (walk next (slice_index next block) n)) (eq-eqb block block refl)))
    ∙ ap (on_block block) (chain_is_walk h image next (without (block ∷ []) free) (slice_index next block) n
    (once_behind free (block ∷ []) (walk next (slice_index next block) n) once)
    (λ b there. links b (later (block == b) (has b (walk next (slice_index next block) n)) there)) ends)
  where
    later : (a b : Bool) → b ≡ true → (a || b) ≡ true
    later true b h = refl
    later false b h = h

same_first : (a b : ℕ) (xs ys : List ℕ) → a ∷ xs ≡ b ∷ ys → a ≡ b
same_first a b xs ys e = cc

same_behind : (a b : ℕ) (xs ys : List ℕ) → a ∷ xs ≡ b ∷ ys → xs ≡ ys
same_behind a b xs ys e = cc

-- a whole chain begins where that in memory does
begins_so : (h : Head) (image next free : List ℕ) (a b n : ℕ) → (chain_from h image free a n).blocks ≡ walk next b n
    → (chain_from h image free a n).whole ≡ true → behind_walk next b n ≡ 0 → a ≡ b
unfolding chain_from walk behind_walk
begins_so h image next free a b zero blocks whole ends = eqb-true a 0 whole ∙ sym ends
begins_so h image next free a b (suc n) blocks whole ends = go (has a free) blocks whole
  where
    go : (c : Bool)
        → (if c then on_block a (chain_from h image (without (a ∷ []) free) (next_block image a) n)
        else record { head = h; blocks = []; whole = false }).blocks ≡ b ∷ walk next (slice_index next b) n
        → (if c then on_block a (chain_from h image (without (a ∷ []) free) (next_block image a) n)
        else record { head = h; blocks = []; whole = false }).whole ≡ true
        → a ≡ b
    go true blocks whole = same_first a b _ _ blocks
    go false blocks whole = absurd (false≢true whole)

pub chain_links : (h : Head) (image next free : List ℕ) (block n : ℕ) → (chain_from h image free block n).blocks ≡ walk next block n
    → (chain_from h image free block n).whole ≡ true → behind_walk next block n ≡ 0 → LinksAs image next (walk next block n)
unfolding chain_from walk behind_walk
chain_links h image next free block zero blocks whole ends b there = absurd (false≢true there)
chain_links h image next free block (suc n) blocks whole ends b there =
    go (has block free) blocks whole (λ blocks whole. chain_links h image next (without (block ∷ []) free) (slice_index next block) n blocks
    whole ends)
  where
    go : (c : Bool)
        → (if c then on_block block (chain_from h image (without (block ∷ []) free) (next_block image block) n)
        else record { head = h; blocks = []; whole = false }).blocks ≡ block ∷ walk next (slice_index next block) n
        → (if c then on_block block (chain_from h image (without (block ∷ []) free) (next_block image block) n)
        else record { head = h; blocks = []; whole = false }).whole ≡ true
        → ((chain_from h image (without (block ∷ []) free) (slice_index next block) n).blocks ≡ walk next (slice_index next block) n
        → (chain_from h image (without (block ∷ []) free) (slice_index next block) n).whole ≡ true
        → LinksAs image next (walk next (slice_index next block) n))
        → next_block image b ≡ slice_index next b
    go true blocks whole rest =
        let free_then : List ℕ = without (block ∷ []) free in
        let here : next_block image block ≡ slice_index next block =
        begins_so h image next free_then (next_block image block) (slice_index next block) n
        (same_behind block block _ _ blocks) whole ends in
        at_one (block == b) refl here
        (rest (ap (λ a. (chain_from h image free_then a n).blocks) (sym here) ∙ same_behind block block _ _ blocks)
        (ap (λ a. (chain_from h image free_then a n).whole) (sym here) ∙ whole)) there
      where
        at_one : (c : Bool) → (block == b) ≡ c → next_block image block ≡ slice_index next block
            → LinksAs image next (walk next (slice_index next block) n) → (c || has b (walk next (slice_index next block) n)) ≡ true
            → next_block image b ≡ slice_index next b
        at_one true same here rest there =
            let e : b ≡ block = sym (eqb-true block b same) in
            ap (next_block image) e ∙ here ∙ ap (slice_index next) (sym e)
        at_one false other here rest there = rest b there
    go false blocks whole rest = absurd (false≢true whole)

-- what holds of the chain of each of these heads
abbrev pub AreLinked : List ℕ → List ℕ → List Head → Type 0
AreLinked image next hs = (h : Head) → In h hs → LinksAs image next (chain_by next h)

abbrev pub AreEnded : List ℕ → List Head → Type 0
AreEnded next hs = (h : Head) → In h hs → behind_walk next h.first (blocks_of h.size) ≡ 0

pub chains_are : (image next free : List ℕ) (hs : List Head) → Once free (flat_map (chain_by next) hs) → AreLinked image next hs
    → AreEnded next hs → chains_among image free hs ≡ map (chain_in next) hs
unfolding chains_among
chains_are image next free [] once linked ended = refl
chains_are image next free (h ∷ hs) once linked ended =
    ap (λ (c : Chain). c ∷ (if c.whole then chains_among image (without c.blocks free) hs else []))
    (chain_is_walk h image next free h.first (blocks_of h.size)
    (once_front free (chain_by next h) (flat_map (chain_by next) hs) once) (linked h (inl refl)) (ended h (inl refl)))
    ∙ ap (λ cs. chain_in next h ∷ cs)
    (chains_are image next (without (chain_by next h) free) hs (once_behind free (chain_by next h) (flat_map (chain_by next) hs) once)
    (λ g there. linked g (inr there)) (λ g there. ended g (inr there)))

first_chain : (c d : Chain) (cs ds : List Chain) → c ∷ cs ≡ d ∷ ds → c ≡ d
first_chain c d cs ds e = cc

other_chains : (c d : Chain) (cs ds : List Chain) → c ∷ cs ≡ d ∷ ds → cs ≡ ds
other_chains c d cs ds e = cc

pub chains_link : (image next free : List ℕ) (hs : List Head) → chains_among image free hs ≡ map (chain_in next) hs → AreEnded next hs
    → AreLinked image next hs
unfolding chains_among
chains_link image next free [] is ended h there = absurd there
chains_link image next free (g ∷ hs) is ended h (inl same) =
    let c : chain_of image free g ≡ chain_in next g = first_chain (chain_of image free g) (chain_in next g) _ _ is in
    subst (λ (x : Head). LinksAs image next (chain_by next x)) (sym same)
    (chain_links g image next free g.first (blocks_of g.size) (ap (λ (x : Chain). x.blocks) c) (ap (λ (x : Chain). x.whole) c)
    (ended g (inl refl)))
chains_link image next free (g ∷ hs) is ended h (inr there) =
    let c : chain_of image free g ≡ chain_in next g = first_chain (chain_of image free g) (chain_in next g) _ _ is in
    chains_link image next (without (chain_by next g) free) hs
    (sym (ap (λ (x : Chain). if x.whole then chains_among image (without x.blocks free) hs else []) c)
    ∙ other_chains (chain_of image free g) (chain_in next g) _ _ is) (λ x at. ended x (inr at)) h there

-- How often a block stands on all of them.
pub times_flat : (next : List ℕ) (k : ℕ) (hs : List Head)
    → times k (flat_map (chain_by next) hs) ≡ sum_by (λ (h : Head). times k (chain_by next h)) hs
times_flat next k [] = refl
times_flat next k (h ∷ hs) = omega (
  arith,
  times_append k (chain_by next h) (flat_map (chain_by next) hs),
  times_flat next k hs,
  ap (times k) (flat_map-cons (chain_by next) h hs),
  sum_by-cons (λ (g : Head). times k (chain_by next g)) h hs,
)

-- a block stands on all of them at least as often as on each
pub times_in : (next : List ℕ) (k : ℕ) (hs : List Head) (h : Head) → In h hs
    → times k (chain_by next h) ≤ sum_by (λ (g : Head). times k (chain_by next g)) hs
times_in next k [] h there = absurd there
times_in next k (g ∷ gs) h (inl same) =
    omega (arith, ap (λ (x : Head). times k (chain_by next x)) same, sum_by-cons (λ (x : Head). times k (chain_by next x)) g gs)
times_in next k (g ∷ gs) h (inr there) = omega (
  arith,
  times_in next k gs h there,
  sum_by-cons (λ (x : Head). times k (chain_by next x)) g
      gs,
)

number_from : (from n b : ℕ) (here : Bool) (rest : List ℕ) → (from == b) ≡ here
    → (has b rest ≡ true → from + 1 ≤ b) → (here || has b rest) ≡ true → from ≤ b
number_from from n b true rest is behind h = grind (arith, nat_tests)
number_from from n b false rest is behind h = omega (arith, behind h)

above : (from n b : ℕ) → has b (numbers from n) ≡ true → from ≤ b
unfolding numbers
above from zero b h = absurd (false≢true h)
above from (suc n) b h = number_from from n b (from == b) (numbers (from + 1) n) refl (above (from + 1) n b) h

pub has_data : (size k : ℕ) → has k (data_blocks size) ≡ is_data size k
has_data size k = as_true (has k (data_blocks size)) (is_data size k)
    (λ there.
    let low : 1 + size / 32768 ≤ k = above (1 + size / 32768) (data_count size) k there in
    let high : k < 1 + size / 32768 + data_count size = below (1 + size / 32768) (data_count size) k there in
    let within : k < size / 1024 = omega (arith, low, high) in
    both_true (nat_lt (size / 32768) k) (nat_lt k (size / 1024)) (grind (arith, nat_tests, low)) (grind (arith, nat_tests, within)))
    (λ is.
    let low : nat_lt (size / 32768) k ≡ true = left_true (nat_lt (size / 32768) k) (nat_lt k (size / 1024)) is in
    let high : nat_lt k (size / 1024) ≡ true = right_true (nat_lt (size / 32768) k) (nat_lt k (size / 1024)) is in
    let a : size / 32768 < k = grind (arith, nat_tests, low) in
    let b : k < size / 1024 = grind (arith, nat_tests, high) in
    has_number k (1 + size / 32768) (data_count size) (omega (arith, a)) (omega (arith, a, b)))

-- The chains of an image, where each block stands once on those that memory has.
pub chains_by_links : (image next : List ℕ) (size : ℕ) (heads : List Head) → length image ≡ size
    → ((k : ℕ) → times_kept next heads k ≤ one_if (is_data size k)) → AreLinked image next (keeping heads) → AreEnded next (keeping heads)
    → chains_of image heads ≡ map (chain_in next) (keeping heads)
chains_by_links image next size heads long once linked ended =
    chains_are image next (data_blocks (length image)) (keeping heads)
    (λ k. subst (λ n. times k (flat_map (chain_by next) (keeping heads)) ≤ one_if n)
    (sym (ap (λ s. has k (data_blocks s)) long ∙ has_data size k))
    (subst (λ n. n ≤ one_if (is_data size k)) (sym (times_flat next k (keeping heads))) (once k)))
    linked ended

-- what a head gives by the blocks that memory has for it
abbrev pub value_on : List ℕ → List ℕ → Head → StoreChange
value_on image next h = change_on image (chain_in next h)

changes_in_order : (image next : List ℕ) (hs : List Head) → changes_on image (map (chain_in next) hs) ≡ Ok (map (value_on image next) hs)
changes_in_order image next [] = refl
changes_in_order image next (h ∷ hs) = ap (with_record (value_on image next h)) (changes_in_order image next hs)

pub kept_by_chains : (image next : List ℕ) (heads : List Head) → chains_of image heads ≡ map (chain_in next) (keeping heads)
    → kept_in_blocks image (Ok heads) ≡ Ok (kept_from nothing_kept (map (value_on image next) (keeping heads)))
kept_by_chains image next heads is = ap kept_by (ap (changes_on image) is ∙ changes_in_order image next (keeping heads))

pub taken_chains : (next : List ℕ) (hs : List Head) → taken_by (map (chain_in next) hs) ≡ flat_map (chain_by next) hs
taken_chains next [] = refl
taken_chains next (h ∷ hs) =
    flat_map-cons (λ (c : Chain). c.blocks) (chain_in next h) (map (chain_in next) hs)
    ∙ ap (λ bs. chain_by next h ++ bs) (taken_chains next hs) ∙ sym (flat_map-cons (chain_by next) h hs)
