-- What an image of blocks keeps, by what its heads and chains are.
use Rattle.std.proofs.Common.{◌≡◌, ℕ, suc, zero, ◌+◌, ◌*◌, ◌/◌, ◌≤◌, ◌<◌, Bool, true, false, List, [], ◌∷◌, length, drop}
use Rattle.std.proofs.Common.{refl, sym, ap, subst, ◌∙◌, arith}
use Rattle.std.specs.Prelude.{◌==◌, ◌&&◌, ◌||◌, not, filter, flat_map, slice_index, slice_range, Some, Result, Ok, Err, if◌then◌else◌}
use Rattle.std.specs.List.{AllByRecursion, list_any}
use Rattle.std.proofs.lemmas.Bool.{false≢true}
use Rattle.std.proofs.lemmas.Bool.Decides.{nat_tests}
use Rattle.std.proofs.lemmas.List.{length-append, length-take-le, length-drop}
use Rattle.capability.specs.declared.Uid.{Uid}
use Rattle.passive_store.specs.Kept.{StoreChange, Kept}
use Rattle.passive_store.specs.Log.{with_record}
use Rattle.block_tables.specs.Blocks.{Head, Chain, numbers, data_blocks, data_count, blocks_of, head_bytes, head_in, is_head, joined_head}
use Rattle.block_tables.specs.Blocks.{heads_among, heads_of, head_numbers, keeping, counts, has, without, next_block, on_block}
use Rattle.block_tables.specs.Blocks.{chain_from}
use Rattle.block_tables.specs.Blocks.{chain_of, chains_among, chains_of, body_on, change_on, changes_on, kept_in_blocks, blocks_map}
use Rattle.block_tables.specs.Blocks.{head_place}
use Rattle.passive_blocks.proofs.Bytes.{AreBytes, taken_bytes, part_bytes, flat_bytes}
use Rattle.passive_blocks.proofs.Keeping.{KeepsOnly, Gives, EachOf, keeps_found}

-- each of the heads that were found has P
abbrev pub HeadsHave : (Head → Type 0) → Result (List Head) ℕ → Type 0
HeadsHave P (Ok hs) = AllByRecursion P hs
HeadsHave P (Err place) = Unit {0}

head_joins : (P : Head → Type 0) (opened fits : Bool) (h : Head) (rest : Result (List Head) ℕ) → (fits ≡ true → P h) → HeadsHave P rest
    → HeadsHave P (joined_head opened fits h rest)
head_joins P false fits h rest p each = each
head_joins P true false h rest p each = tt
head_joins P true true h (Ok hs) p each = (p refl, each)
head_joins P true true h (Err place) p each = tt

pub left_part : (a b : Bool) → (a && b) ≡ true → a ≡ true
left_part true b h = refl
left_part false b h = h

-- what holds of each head by its bytes holds of all that are found
pub heads_each : (P : Head → Type 0) (node : ℕ) (image : List ℕ)
    → ((number : ℕ) → is_head node (length image) (head_bytes image number) (head_in number (head_bytes image number)) ≡ true
    → P (head_in number (head_bytes image number))) →
    (before ns : List ℕ) → HeadsHave P (heads_among node image before ns)
unfolding heads_among
heads_each P node image p before [] = tt
heads_each P node image p before (n ∷ ns) =
    let bytes : List ℕ = head_bytes image n in
    let h : Head = head_in n bytes in
    head_joins P (slice_index bytes 0 == 225) (is_head node (length image) bytes h && not (list_any (λ s. s == h.sequence) before)) h
    (heads_among node image (if slice_index bytes 0 == 225 then h.sequence ∷ before else before) ns)
    (λ fits. p n (left_part (is_head node (length image) bytes h) (not (list_any (λ s. s == h.sequence) before)) fits))
    (heads_each P node image p (if slice_index bytes 0 == 225 then h.sequence ∷ before else before) ns)

each_filtered : (P : Head → Type 0) (p : Head → Bool) (hs : List Head) → AllByRecursion P hs → AllByRecursion P (filter p hs)
each_filtered P p [] each = tt
each_filtered P p (h ∷ hs) each = by_test (p h) (each_filtered P p hs each.1)
  where
    by_test : (b : Bool) → AllByRecursion P (filter p hs) → AllByRecursion P (if b then h ∷ filter p hs else filter p hs)
    by_test true rest = (each.0, rest)
    by_test false rest = rest

-- each of these blocks lies within so many bytes
abbrev pub Within : ℕ → List ℕ → Type 0
Within size free = (b : ℕ) → has b free ≡ true → b * 1024 + 1024 ≤ size

either : (a b c : Bool) → (a || b) ≡ true → (b ≡ true → c ≡ true) → (a || c) ≡ true
either true b c h f = refl
either false b c h f = f h

later : (b : Bool) → (b || true) ≡ true
later true = refl
later false = refl

filtered_step : (p : ℕ → Bool) (x : ℕ) (xs ys : List ℕ) (b : Bool) → (list_any p ys ≡ true → list_any p xs ≡ true)
    → list_any p (if b then x ∷ ys else ys) ≡ true → (p x || list_any p xs) ≡ true
filtered_step p x xs ys true rest is = either (p x) (list_any p ys) (list_any p xs) is rest
filtered_step p x xs ys false rest is = either (p x) true (list_any p xs) (later (p x)) (λ t. rest is)

any_filtered : (p q : ℕ → Bool) (xs : List ℕ) → list_any p (filter q xs) ≡ true → list_any p xs ≡ true
any_filtered p q [] h = h
any_filtered p q (x ∷ xs) h = filtered_step p x xs (filter q xs) (q x) (any_filtered p q xs) h

pub within_less : (size : ℕ) (taken free : List ℕ) → Within size free → Within size (without taken free)
within_less size taken free within b h = within b (any_filtered (λ x. x == b) (λ x. not (has x taken)) free h)

number_step : (from n b : ℕ) (here : Bool) (rest : List ℕ) → (from == b) ≡ here
    → (has b rest ≡ true → (from + 1 ≤ b) × (b < from + 1 + n)) → (here || has b rest) ≡ true → (from ≤ b) × (b < from + suc n)
number_step from n b true rest is behind h = (grind (arith, nat_tests), grind (arith, nat_tests))
number_step from n b false rest is behind h =
    let at = behind h in
    (omega (arith, at.0), omega (arith, at.1))

among_numbers : (from n b : ℕ) → has b (numbers from n) ≡ true → (from ≤ b) × (b < from + n)
unfolding numbers
among_numbers from zero b h = absurd (false≢true h)
among_numbers from (suc n) b h = number_step from n b (from == b) (numbers (from + 1) n) refl (among_numbers (from + 1) n b) h

pub within_data : (size : ℕ) → Within size (data_blocks size)
within_data size b h =
    let at = among_numbers (1 + size / 32768) (data_count size) b h in
    omega (arith, at.0, at.1)

-- what is followed of a chain: its head, its blocks and how many they are
pub record Followed (size : ℕ) (h : Head) (count : ℕ) (c : Chain) : Type 0 where
  pub head : c.head ≡ h
  pub blocks : AllByRecursion (λ (b : ℕ). b * 1024 + 1024 ≤ size) c.blocks
  pub long : c.whole ≡ true → length c.blocks ≡ count

pub chain_followed : (size : ℕ) (h : Head) (image free : List ℕ) (block count : ℕ) → Within size free
    → Followed size h count (chain_from h image free block count)
unfolding chain_from
chain_followed size h image free block zero within = record { head = refl; blocks = tt; long = λ whole. refl }
chain_followed size h image free block (suc more) within =
    by_test (has block free) refl
    (chain_followed size h image (without (block ∷ []) free) (next_block image block) more (within_less size (block ∷ []) free within))
  where
    by_test : (b : Bool) → has block free ≡ b
        → Followed size h more (chain_from h image (without (block ∷ []) free) (next_block image block) more) →
        Followed size h (suc more) (if b then
        on_block block (chain_from h image (without (block ∷ []) free) (next_block image block) more)
        else record { head = h; blocks = []; whole = false })
    by_test true is rest = record { head = rest.head; blocks = (within block is, rest.blocks); long = λ whole. ap suc (rest.long whole) }
    by_test false is rest = record { head = refl; blocks = tt; long = λ whole. absurd (false≢true whole) }

-- the bytes of a value on a block
abbrev pub data_on : List ℕ → ℕ → List ℕ
data_on image block = slice_range image (block * 1024 + 2) (block * 1024 + 1024)

pub long_block : (image : List ℕ) (b : ℕ) → b * 1024 + 1024 ≤ length image → length (data_on image b) ≡ 1022
long_block image b within =
    length-take-le _ (drop (b * 1024 + 2) image) (omega (arith, within, length-drop (b * 1024 + 2) image)) ∙ omega arith

pub long_data : (image blocks : List ℕ) → AllByRecursion (λ (b : ℕ). b * 1024 + 1024 ≤ length image) blocks
    → length (flat_map (data_on image) blocks) ≡ 1022 * length blocks
long_data image [] within = omega arith
long_data image (b ∷ bs) within =
    length-append (data_on image b) (flat_map (data_on image) bs)
    ∙ omega (arith, long_block image b within.0, long_data image bs within.1)

holds_all : (n : ℕ) → n ≤ 1022 * blocks_of n
holds_all n = omega arith

-- a chain is of a head that has P, and where it is whole, it has a body of the length that its head says
pub record IsChain (P : Head → Type 0) (image : List ℕ) (c : Chain) : Type 0 where
  pub head : P c.head
  pub long : c.whole ≡ true → length (body_on image c) ≡ c.head.size

chain_is : (P : Head → Type 0) (image free : List ℕ) (h : Head) → Within (length image) free → P h → IsChain P image (chain_of image free h)
chain_is P image free h within p =
    let c : Chain = chain_of image free h in
    let f : Followed (length image) h (blocks_of h.size) c = chain_followed (length image) h image free h.first (blocks_of h.size) within in
    record {
      head = subst P (sym f.head) p;
      long = λ whole.
          let enough : c.head.size ≤ length (flat_map (data_on image) c.blocks) =
          subst (λ n. c.head.size ≤ n) (sym (long_data image c.blocks f.blocks))
          (subst (λ k. c.head.size ≤ 1022 * k) (sym (f.long whole))
          (subst (λ (g : Head). g.size ≤ 1022 * blocks_of h.size) (sym f.head) (holds_all h.size))) in
          length-take-le c.head.size (flat_map (data_on image) c.blocks) enough;
    }

pub chains_each : (P : Head → Type 0) (image free : List ℕ) (hs : List Head) → Within (length image) free → AllByRecursion P hs
    → AllByRecursion (IsChain P image) (chains_among image free hs)
unfolding chains_among
chains_each P image free [] within each = tt
chains_each P image free (h ∷ hs) within each = (
  chain_is P image free h within each.0,
  by_test (chain_of image free h).whole
      (chains_each P image (without (chain_of image free h).blocks free) hs
      (within_less (length image) (chain_of image free h).blocks free within) each.1),
)
  where
    by_test : (b : Bool) → AllByRecursion (IsChain P image) (chains_among image (without (chain_of image free h).blocks free) hs)
        → AllByRecursion (IsChain P image) (if b then chains_among image (without (chain_of image free h).blocks free) hs else [])
    by_test true rest = rest
    by_test false rest = tt

some_same : (xs ys : List ℕ) → Some xs ≡ Some ys → xs ≡ ys
some_same xs ys e = cc

-- a head gives a body in the relation R: one as long as it says, of bytes where the image is
abbrev pub HeadGives : (Uid → List ℕ → Type 0) → List ℕ → Head → Type 0
HeadGives R image h = (body : List ℕ) → length body ≡ h.size → (AreBytes image → AreBytes body) → R h.uid body

body_bytes : (image : List ℕ) (c : Chain) → AreBytes image → AreBytes (body_on image c)
body_bytes image c are =
    taken_bytes c.head.size (flat_map (data_on image) c.blocks)
    (flat_bytes (data_on image) c.blocks (λ b. part_bytes (b * 1024 + 2) (b * 1024 + 1024) image are))

changes_each : (R : Uid → List ℕ → Type 0) (image : List ℕ) (cs : List Chain) → AllByRecursion (IsChain (HeadGives R image) image) cs
    → EachOf (Gives R) (changes_on image cs)
changes_each R image [] each = tt
changes_each R image (c ∷ cs) each = by_test c.whole refl (changes_each R image cs each.1)
  where
    joins : (r : StoreChange) (found : Result (List StoreChange) ℕ) → Gives R r → EachOf (Gives R) found
        → EachOf (Gives R) (with_record r found)
    joins r (Ok rs) gives rest = (gives, rest)
    joins r (Err place) gives rest = tt

    by_test : (b : Bool) → c.whole ≡ b → EachOf (Gives R) (changes_on image cs)
        → EachOf (Gives R) (if b then with_record (change_on image c) (changes_on image cs) else Err (head_place c.head.number))
    by_test true whole rest =
        joins (change_on image c) (changes_on image cs)
        (λ body is. subst (R c.head.uid) (some_same (body_on image c) body is)
        (each.0.head (body_on image c) (each.0.long whole) (body_bytes image c)))
        rest
    by_test false whole rest = tt

keeps_in : (R : Uid → List ℕ → Type 0) (image : List ℕ) (found : Result (List Head) ℕ) (kept : Kept) → HeadsHave (HeadGives R image) found
    → kept_in_blocks image found ≡ Ok kept → KeepsOnly R kept
keeps_in R image (Ok heads) kept each is =
    keeps_found R (changes_on image (chains_of image heads)) kept
    (changes_each R image (chains_of image heads)
    (chains_each (HeadGives R image) image (data_blocks (length image)) (keeping heads) (within_data (length image))
    (each_filtered (HeadGives R image) (λ h. counts heads h && not h.removal) heads each)))
    is
keeps_in R image (Err place) kept each is = absurd cc

-- What each head gives is all that an image of blocks keeps.
pub blocks_keep : (R : Uid → List ℕ → Type 0) (node : ℕ) (image : List ℕ)
    → ((number : ℕ) → is_head node (length image) (head_bytes image number) (head_in number (head_bytes image number)) ≡ true
    → HeadGives R image (head_in number (head_bytes image number))) →
    (kept : Kept) → blocks_map node image ≡ Ok kept → KeepsOnly R kept
blocks_keep R node image gives kept is =
    keeps_in R image (heads_of node image) kept (heads_each (HeadGives R image) node image gives [] (head_numbers (length image))) is
