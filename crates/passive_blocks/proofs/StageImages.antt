-- What an image keeps that a crash leaves before the head of a change is opened.
use Rattle.std.specs.Prelude.{◌≡◌, ◌⊎◌, ℕ, ◌+◌, ◌-◌, ◌*◌, ◌/◌, ◌≤◌, ◌<◌, ◌^◌, Bool, true, false, not, ◌&&◌, ◌||◌, ◌==◌, All}
use Rattle.std.specs.Prelude.{List, [], ◌∷◌, length, map, filter, max, nat_le, slice_index, Ok, Err}
use Rattle.std.specs.Prelude.{Some, is_some, find, if◌then◌else◌}
use Rattle.std.proofs.Common.{refl, sym, ap, subst, ◌∙◌, inl, inr, arith}
use Rattle.std.specs.List.{list_all}
use Rattle.std.specs.Int.{w16, from_be_bytes}
use Rattle.std.proofs.lemmas.Bool.{false≢true, eqb-true, cases_lt}
use Rattle.std.proofs.lemmas.List.Elements.{All-weaker}
use Rattle.passive_store.specs.Kept.{Kept, Stands, kept_by}
use Rattle.block_tables.specs.Blocks.{Head, head_place, head_numbers, heads_of, heads_or_none, keeping}
use Rattle.block_tables.specs.Blocks.{greatest, has}
use Rattle.block_tables.specs.Blocks.{chains_among, chains_of, changes_on, taken_by, blocks_map, data_blocks, kept_in_blocks}
use Rattle.block_tables.specs.Blocks.{is_block_size}
use Rattle.block_tables.specs.Changes.{free_head, is_taken}
use Rattle.passive_blocks.specs.BlockLayout.{block_layout, block_map, block_changes, changes_left, map_by, format_of, overfull_by}
use Rattle.passive_blocks.specs.BlockLayout.{heads_by, Blocks, Staged, OldLog, Foreign, Blank}
use Rattle.passive_blocks.specs.BlockLayout.{blocks_left}
use Rattle.passive_blocks.specs.Fits.{Fits}
use Rattle.passive_blocks.specs.StageState.{MayStand, gate_open, may_close, closes}
use Rattle.passive_blocks.proofs.Among.{In, in_all}
use Rattle.passive_blocks.proofs.Spans.{same_part, same_head, opened_is}
use Rattle.passive_blocks.proofs.StageHeads.{each_number, below, SameOrShut, opened, left_on, heads_of_left, IsHeadOn, head_found}
use Rattle.passive_blocks.proofs.StageHeads.{are_numbered}
use Rattle.passive_blocks.proofs.StageKeeping.{AreNumbered, keeping_left}
use Rattle.passive_blocks.proofs.Agreeing.{SameBlock, SameNext, chains_agree, changes_agree}

by_test : (b : Bool) → (b ≡ true) ⊎ (b ≡ false)
by_test true = inl refl
by_test false = inr refl

-- Each head is as it was or closed.
pub heads_fit : (began image : List ℕ) (heads : List Head) → Fits (MayStand heads began) (length began) image
    → All (SameOrShut began image) (head_numbers (length began))
heads_fit began image heads fit = each_number (SameOrShut began image) (head_numbers (length began)) (λ n at.
    let within : n < length began / 1024 = omega (arith, below 0 (length began / 1024) n at) in
    elim (by_test (gate_open image n)) [
      | inr shut ↦ inr (opened_is image n ∙ shut)
      | inl opens ↦ elim (by_test (gate_open began n)) [
        | inr was_shut ↦ inr (opened_is image n ∙ (fit.bytes (head_place n)).shut n within refl was_shut)
        | inl was_open ↦ inl (same_head began image n (sym fit.long) (λ o small. elim (cases_lt 0 o) [
          | inl some ↦ sym ((fit.bytes (head_place n + o)).head n o within (omega (arith, some)) small refl was_open)
          | inr none ↦
              let at_gate : head_place n + o ≡ head_place n = omega (arith, none) in
              ap (slice_index began) at_gate ∙ eqb-true (slice_index began (head_place n)) 225 was_open
              ∙ sym (eqb-true (slice_index image (head_place n)) 225 opens) ∙ sym (ap (slice_index image) at_gate)
        ]))
      ]
    ])

abbrev pub closes_in : List Head → List Head → ℕ → Bool
closes_in heads all n = has n (map (λ (h : Head). h.number) (filter (may_close heads) all))

pub closes_one : (heads all : List Head) (n : ℕ) → closes_in heads all n ≡ true → (x : Head) × In x all × (x.number ≡ n)
    × (may_close heads x ≡ true)
closes_one heads [] n h = absurd (false≢true h)
closes_one heads (y ∷ ys) n h = go (may_close heads y) refl h (closes_one heads ys n)
  where
    go : (b : Bool) → may_close heads y ≡ b
        → has n (map (λ (h : Head). h.number) (if b then y ∷ filter (may_close heads) ys else filter (may_close heads) ys)) ≡ true
        → (closes_in heads ys n ≡ true → (x : Head) × In x ys × (x.number ≡ n) × (may_close heads x ≡ true))
        → (x : Head) × In x (y ∷ ys) × (x.number ≡ n) × (may_close heads x ≡ true)
    go true is at rest = here (y.number == n) refl at
      where
        here : (c : Bool) → (y.number == n) ≡ c → (c || closes_in heads ys n) ≡ true
            → (x : Head) × In x (y ∷ ys) × (x.number ≡ n) × (may_close heads x ≡ true)
        here true same at = (y, inl refl, eqb-true y.number n same, is)
        here false other at = let r = rest at in (r.0, inr r.1, r.2, r.3)
    go false is at rest = let r = rest at in (r.0, inr r.1, r.2, r.3)

closed_only : (heads : List Head) (h : Head) → AreNumbered heads → In h heads → may_close heads h ≡ false → closes heads h.number ≡ false
closed_only heads h numbered there stays_open = go (closes heads h.number) refl
  where
    go : (b : Bool) → closes heads h.number ≡ b → b ≡ false
    go false is = refl
    go true is =
        let found = closes_one heads heads h.number is in
        let same : found.0 ≡ h = numbered found.0 h found.1 there found.2 in
        sym (sym stays_open ∙ ap (may_close heads) (sym same) ∙ found.3)

-- Those that are closed are of those that the change closes.
pub closed_fit : (node : ℕ) (began image : List ℕ) (heads : List Head) → heads_of node began ≡ Ok heads
    → Fits (MayStand heads began) (length began) image → list_all (λ (h : Head). opened image h.number || may_close heads h) heads ≡ true
closed_fit node began image heads found fit =
    in_all (λ (h : Head). opened image h.number || may_close heads h) heads (λ h there. elim (by_test (may_close heads h)) [
      | inl may ↦ ap (λ b. opened image h.number || b) may ∙ or_true (opened image h.number)
      | inr stays_open ↦
          let on : IsHeadOn node began h = head_found node began heads h found there in
          let within : h.number < length began / 1024 = (head_found node began heads h found there).within in
          let at : slice_index image (head_place h.number) ≡ 225 =
          (fit.bytes (head_place h.number)).gate h.number within refl (sym (opened_is began h.number) ∙ on.open_there)
          (closed_only heads h (are_numbered node began heads found) there stays_open) in
          ap (λ b. b || may_close heads h) (opened_is image h.number ∙ ap (λ byte. byte == 225) at)
    ])
  where
    or_true : (b : Bool) → (b || true) ≡ true
    or_true true = refl
    or_true false = refl

-- The blocks of what is kept are as they were.
pub blocks_fit : (began image : List ℕ) (heads : List Head) → Fits (MayStand heads began) (length began) image
    → All (SameBlock began image) (taken_by (chains_of began heads))
blocks_fit began image heads fit =
    each_number (SameBlock began image) (taken_by (chains_of began heads)) (λ b at. (
      ap (from_be_bytes w16) (same_part began image (b * 1024) (b * 1024 + 2) (sym fit.long) (λ k from to.
          same k b at from (omega (arith, to)))),
      same_part began image (b * 1024 + 2) (b * 1024 + 1024) (sym fit.long) (λ k from to. same k b at (omega (arith, from)) to),
    ))
  where
    same : (k b : ℕ) → has b (taken_by (chains_of began heads)) ≡ true → b * 1024 ≤ k → k < b * 1024 + 1024
        → slice_index began k ≡ slice_index image k
    same k b at from to =
        sym ((fit.bytes k).block b (k - b * 1024) at (omega (arith, from, to)) (omega (arith, from)))

pub fits_heads : (node : ℕ) (began image : List ℕ) (heads : List Head) → heads_of node began ≡ Ok heads
    → Fits (MayStand heads began) (length began) image → heads_of node image ≡ Ok (left_on image heads)
fits_heads node began image heads found fit = heads_of_left node began image heads (sym fit.long) (heads_fit began image heads fit) found

pub fits_keeping : (node : ℕ) (began image : List ℕ) (heads : List Head) → heads_of node began ≡ Ok heads
    → Fits (MayStand heads began) (length began) image → keeping (left_on image heads) ≡ keeping heads
fits_keeping node began image heads found fit =
    keeping_left (λ (h : Head). opened image h.number) heads (are_numbered node began heads found)
    (closed_fit node began image heads found fit)

-- The chains of these heads are as they were.
pub fits_chains : (began image : List ℕ) (heads some : List Head) → Fits (MayStand heads began) (length began) image
    → keeping some ≡ keeping heads → chains_of image some ≡ chains_of began heads
fits_chains began image heads some fit same =
    ap (chains_among image (data_blocks (length image))) same
    ∙ ap (λ size. chains_among image (data_blocks size) (keeping heads)) fit.long
    ∙ sym (chains_agree began image (data_blocks (length began)) (keeping heads)
    (All-weaker (SameBlock began image) (SameNext began image) (λ b s. s.0) (taken_by (chains_of began heads))
    (blocks_fit began image heads fit)))

-- So these heads keep on it what all of them kept.
pub fits_kept : (began image : List ℕ) (heads some : List Head) → Fits (MayStand heads began) (length began) image
    → keeping some ≡ keeping heads → kept_in_blocks image (Ok some) ≡ kept_in_blocks began (Ok heads)
fits_kept began image heads some fit same =
    ap kept_by (ap (changes_on image) (fits_chains began image heads some fit same)
    ∙ sym (changes_agree began image (chains_of began heads) (blocks_fit began image heads fit)))

pub fits_map : (node : ℕ) (began image : List ℕ) (heads : List Head) → heads_of node began ≡ Ok heads
    → Fits (MayStand heads began) (length began) image → blocks_map node image ≡ blocks_map node began
fits_map node began image heads found fit =
    ap (kept_in_blocks image) (fits_heads node began image heads found fit)
    ∙ fits_kept began image heads (left_on image heads) fit (fits_keeping node began image heads found fit)
    ∙ sym (ap (kept_in_blocks began) found)

-- An image of blocks is one by its second byte.
pub is_blocks : (image : List ℕ) → slice_index image 1 ≡ 235 → format_of image ≡ Blocks
is_blocks image is = ap (λ b. if b then Blocks else (if slice_index image 0 == 237
    then (if length image == 4194304 then (if slice_index image 2 == 234 then Staged else OldLog) else Foreign) else Blank))
    (ap (λ byte. byte == 235) is)

pub blocks_map_is : (node : ℕ) (image : List ℕ) → is_block_size (length image) ≡ true → slice_index image 1 ≡ 235
    → block_map node image ≡ blocks_map node image
blocks_map_is node image sized is =
    ap (λ b. if b then map_by (format_of image) node image else Err 0) sized ∙ ap (λ f. map_by f node image) (is_blocks image is)

find_more : (p q : ℕ → Bool) (ns : List ℕ) → ((n : ℕ) → p n ≡ true → q n ≡ true) → is_some (find p ns) ≡ true → is_some (find q ns) ≡ true
find_more p q [] to is = is
find_more p q (n ∷ ns) to is = go (p n) (q n) (to n) is (find_more p q ns to)
  where
    go : (a b : Bool) → (a ≡ true → b ≡ true) → is_some (if a then Some n else find p ns) ≡ true
        → (is_some (find p ns) ≡ true → is_some (find q ns) ≡ true) → is_some (if b then Some n else find q ns) ≡ true
    go a true to is rest = refl
    go true false to is rest = absurd (false≢true (to refl))
    go false false to is rest = rest is

not_taken : (p : Head → Bool) (hs : List Head) (n : ℕ) → not (is_taken hs n) ≡ true → not (is_taken (filter p hs) n) ≡ true
not_taken p [] n none = none
not_taken p (h ∷ hs) n none = go (h.number == n) (p h) refl none (not_taken p hs n)
  where
    go : (a b : Bool) → (h.number == n) ≡ a → not (a || is_taken hs n) ≡ true
        → (not (is_taken hs n) ≡ true → not (is_taken (filter p hs) n) ≡ true)
        → not (is_taken (if b then h ∷ filter p hs else filter p hs) n) ≡ true
    go true b a_is none rest = absurd (false≢true none)
    go false true a_is none rest = ap (λ b. not (b || is_taken (filter p hs) n)) a_is ∙ rest none
    go false false a_is none rest = rest none

-- Fewer heads leave more of them free, and their greatest sequence is not greater.
pub free_left : (p : Head → Bool) (size : ℕ) (hs : List Head) → is_some (free_head size hs) ≡ true → is_some (free_head size (filter p hs))
    ≡ true
free_left p size hs is =
    find_more (λ n. not (is_taken hs n)) (λ n. not (is_taken (filter p hs) n)) (head_numbers size) (λ n. not_taken p hs n) is

pub greatest_left : (p : Head → Bool) (hs : List Head) → greatest (filter p hs) ≤ greatest hs
unfolding greatest
greatest_left p [] = omega arith
greatest_left p (h ∷ hs) = go (p h) (greatest_left p hs)
  where
    go : (b : Bool) → greatest (filter p hs) ≤ greatest hs → greatest (if b then h ∷ filter p hs else filter p hs) ≤ max h.sequence
        (greatest hs)
    go true rest = omega (arith, rest)
    go false rest = omega (arith, rest)

-- what an image that is opened as blocks says of further changes
pub changes_is : (node : ℕ) (image : List ℕ) (heads : List Head) (kept : Kept) → is_block_size (length image) ≡ true
    → slice_index image 1 ≡ 235 → heads_of node image ≡ Ok heads → blocks_map node image ≡ Ok kept
    → block_changes node image ≡ changes_left (length image) heads (Ok kept)
changes_is node image heads kept sized is found map =
    ap (λ f. if overfull_by f node image then 2 ^ 63 else changes_left (length image) (heads_by f node image) (block_map node image))
    (is_blocks image is)
    ∙ ap (λ hs. changes_left (length image) (heads_or_none hs) (block_map node image)) found
    ∙ ap (changes_left (length image) heads) (blocks_map_is node image sized is ∙ map)

changes_more : (node size : ℕ) (some more : List Head) (kept : Kept)
    → (is_some (free_head size more) ≡ true → is_some (free_head size some) ≡ true) → greatest some ≤ greatest more
    → changes_left size more (Ok kept) ≤ changes_left size some (Ok kept)
changes_more node size some more kept free less =
    go (is_some (free_head size more)) (is_some (free_head size some))
    (nat_le 1 (blocks_left size kept.bodies)) free
  where
    go : (a b c : Bool) → (a ≡ true → b ≡ true)
        → (if a && c then 2 ^ 63 - greatest more else 0) ≤ (if b && c then 2 ^ 63 - greatest some else 0)
    go true true true to = omega (arith, less)
    go true true false to = omega arith
    go true false c to = absurd (false≢true (to refl))
    go false b c to = omega arith

pub never_overfull : (node : ℕ) (image : List ℕ) → slice_index image 1 ≡ 235 → block_layout.is_overfull node image ≡ false
never_overfull node image there =
    ap (λ b. is_block_size (length image) && b) (ap (λ f. overfull_by f node image) (is_blocks image there)) ∙ and_false
    (is_block_size (length image))
  where
    and_false : (b : Bool) → (b && false) ≡ false
    and_false true = refl
    and_false false = refl

-- Each image that a crash leaves before the head of a change is opened stands for what was kept when its job began.
pub fits_stands : (node more : ℕ) (began image : List ℕ) (heads : List Head) (kept : Kept) → is_block_size (length began) ≡ true
    → slice_index began 1 ≡ 235 → heads_of node began ≡ Ok heads → blocks_map node began ≡ Ok kept
    → more ≤ changes_left (length began) heads (Ok kept) → Fits (MayStand heads began) (length began) image
    → Stands block_layout node more kept [] image
fits_stands node more began image heads kept sized is found map told fit =
    let there : slice_index image 1 ≡ 235 = (fit.bytes 1).format refl in
    let size : is_block_size (length image) ≡ true = ap is_block_size fit.long ∙ sized in
    let same : blocks_map node image ≡ Ok kept = fits_map node began image heads found fit ∙ map in
    record {
      found = blocks_map_is node image size there ∙ same;
      opens = never_overfull node image there;
      told = subst (λ n. more ≤ n) (sym (changes_is node image (left_on image heads) kept size there
          (fits_heads node began image heads found fit) same))
          (le_trans more (changes_left (length image) heads (Ok kept))
          (changes_left (length image) (left_on image heads) (Ok kept))
          (subst (λ n. more ≤ changes_left n heads (Ok kept)) (sym fit.long) told)
          (changes_more node (length image) (left_on image heads) heads kept
          (free_left (λ (h : Head). opened image h.number) (length image) heads)
          (greatest_left (λ (h : Head). opened image h.number) heads)));
    }
  where
    le_trans : (a b c : ℕ) → a ≤ b → b ≤ c → a ≤ c
    le_trans a b c p q = omega (arith, p, q)
