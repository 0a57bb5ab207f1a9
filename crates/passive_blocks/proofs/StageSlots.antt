-- The open heads of an image are those in memory where each of its heads is what memory says of it.
use Rattle.std.specs.Prelude.{◌≡◌, ◌⊎◌, ℕ, zero, suc, ◌+◌, ◌/◌, ◌<◌, Bool, true, false, not, ◌&&◌, ◌||◌, ◌==◌, List, [], ◌∷◌, length}
use Rattle.std.specs.Prelude.{filter, map}
use Rattle.std.specs.Prelude.{slice_index, Option, None, Some, Ok, if◌then◌else◌}
use Rattle.std.proofs.Common.{refl, sym, ap, subst, ◌∙◌, inl, inr, arith}
use Rattle.std.specs.List.{list_any}
use Rattle.std.proofs.lemmas.Bool.{false≢true, eqb-true, ne_eqb, and_from}
use Rattle.block_tables.specs.declared.heads.HeadFields.{HeadFields}
use Rattle.block_tables.specs.Blocks.{Head, head_bytes, head_in, is_head, joined_head, heads_among, heads_of, head_numbers, has, numbers}
use Rattle.block_tables.specs.HeadSeen.{head_of, IsHeadThere}
use Rattle.block_tables.specs.HeadState.{heads_in, slot_at, is_open}
use Rattle.passive_blocks.specs.HeldState.{AreApart}
use Rattle.passive_blocks.proofs.Among.{In}
use Rattle.block_tables.proofs.Listing.{has_number}
use Rattle.passive_blocks.proofs.StageHeads.{opened, IsHeadOn, head_found, passed, step_is, joins, joined_at}

-- what stands under a number, where a head is open
abbrev pub open_slot : HeadFields → Option HeadFields
open_slot slot = if is_open slot then Some slot else None

-- each head of an image is what these slots say
abbrev pub AreThere : ℕ → List ℕ → List HeadFields → Type 0
AreThere node image slots = (k : ℕ) → k < length slots → IsHeadThere node image k (open_slot (slot_at slots k))

abbrev NotBefore : List ℕ → List HeadFields → Type 0
NotBefore before slots = (k : ℕ) → is_open (slot_at slots k) ≡ true → list_any (λ s. s == (slot_at slots k).sequence) before ≡ false

there_from : (node : ℕ) (image : List ℕ) (from : ℕ) (slot : HeadFields) (b : Bool) → is_open slot ≡ b
    → IsHeadThere node image from (open_slot slot) → IsHeadThere node image from (if b then Some slot else None)
there_from node image from slot b is there = subst (λ c. IsHeadThere node image from (if c then Some slot else None)) is there

one_slot : (node : ℕ) (image before : List ℕ) (from count : ℕ) (slot : HeadFields) (slots : List HeadFields) (b : Bool) → is_open slot ≡ b
    → IsHeadThere node image from (if b then Some slot else None) → (b ≡ true → list_any (λ s. s == slot.sequence) before ≡ false)
    → heads_among node image (if b then slot.sequence ∷ before else before) (numbers (from + 1) count) ≡ Ok (heads_in slots)
    → heads_among node image before (from ∷ numbers (from + 1) count) ≡ Ok
    (map head_of (if b then slot ∷ filter is_open slots else filter is_open slots))
one_slot node image before from count slot slots false is there fresh rest =
    step_is node image before (numbers (from + 1) count) from
    ∙ passed node (length image) from before (head_bytes image from) (λ b. heads_among node image b (numbers (from + 1) count)) there
    ∙ rest
one_slot node image before from count slot slots true is there fresh rest =
    let g : Head = head_in from (head_bytes image from) in
    let same : head_of slot ≡ g = there.2 in
    let new : list_any (λ s. s == g.sequence) before ≡ false = ap (λ (h : Head). list_any (λ s. s == h.sequence) before) (sym same) ∙ fresh
    refl in
    step_is node image before (numbers (from + 1) count) from
    ∙ ap (λ b. joined_head b (is_head node (length image) (head_bytes image from) g && not (list_any (λ s. s == g.sequence) before)) g
    (heads_among node image (if b then g.sequence ∷ before else before) (numbers (from + 1) count)))
    (ap (λ byte. byte == 225) there.0)
    ∙ joins (is_head node (length image) (head_bytes image from) g && not (list_any (λ s. s == g.sequence) before)) g
    (heads_among node image (g.sequence ∷ before) (numbers (from + 1) count)) (heads_in slots)
    (and_from (is_head node (length image) (head_bytes image from) g) (not (list_any (λ s. s == g.sequence) before)) there.1 (ap not new))
    (ap (λ (h : Head). heads_among node image (h.sequence ∷ before) (numbers (from + 1) count)) (sym same) ∙ rest)
    ∙ ap (λ h. Ok (h ∷ heads_in slots)) (sym same)

fresh_behind : (before : List ℕ) (slot : HeadFields) (slots : List HeadFields) (b : Bool) → is_open slot ≡ b → NotBefore before
    (slot ∷ slots)
    → AreApart (slot ∷ slots) → NotBefore (if b then slot.sequence ∷ before else before) slots
fresh_behind before slot slots false is fresh apart k there = fresh (suc k) there
fresh_behind before slot slots true is fresh apart k there =
    ap (λ b. b || list_any (λ s. s == (slot_at slots k).sequence) before)
    (ne_eqb slot.sequence (slot_at slots k).sequence (λ same. let e : zero ≡ suc k = apart 0 (suc k) is same in
    absurd (let bad : ⊥ = omega (arith, e) in bad)))
    ∙ fresh (suc k) there

slots_from : (node : ℕ) (image : List ℕ) (slots : List HeadFields) (from : ℕ) (before : List ℕ)
    → ((k : ℕ) → k < length slots → IsHeadThere node image (from + k) (open_slot (slot_at slots k)))
    → NotBefore before slots → AreApart slots → heads_among node image before (numbers from (length slots)) ≡ Ok (heads_in slots)
unfolding heads_among numbers
slots_from node image [] from before there fresh apart = refl
slots_from node image (slot ∷ slots) from before there fresh apart =
    let here : IsHeadThere node image from (open_slot slot) =
    subst (λ n. IsHeadThere node image n (open_slot slot)) (let e : from + 0 ≡ from = omega arith in e) (there 0 (omega arith)) in
    one_slot node image before from (length slots) slot slots (is_open slot) refl here (λ opens. fresh 0 opens)
    (slots_from node image slots (from + 1) (if is_open slot then slot.sequence ∷ before else before)
    (λ k within. subst (λ n. IsHeadThere node image n (open_slot (slot_at slots k)))
    (let e : from + suc k ≡ from + 1 + k = omega arith in e)
    (there (suc k) (omega (arith, within))))
    (fresh_behind before slot slots (is_open slot) refl fresh apart)
    (λ j k opens same. let e : suc j ≡ suc k = apart (suc j) (suc k) opens same in omega (arith, e)))

-- From the heads one by one to all of them,
pub heads_by_slots : (node : ℕ) (image : List ℕ) (slots : List HeadFields) → length slots ≡ length image / 1024 → AreThere node image slots
    → AreApart slots → heads_of node image ≡ Ok (heads_in slots)
heads_by_slots node image slots long there apart =
    ap (λ n. heads_among node image [] (numbers 0 n)) (sym long)
    ∙ slots_from node image slots 0 [] (λ k within. subst (λ n. IsHeadThere node image n (open_slot (slot_at slots k)))
    (let e : k ≡ 0 + k = omega arith in e) (there k within)) (λ k opens. refl) apart

-- and back.
found_more : (node : ℕ) (image ns before : List ℕ) (n m : ℕ) (hs : List Head) (b : Bool) → opened image n ≡ b
    → heads_among node image before (n ∷ ns) ≡ Ok hs
    → ((before : List ℕ) (hs : List Head) → heads_among node image before ns ≡ Ok hs → has m ns ≡ true → In (head_in m (head_bytes image m))
    hs)
    → opened image m ≡ true → (n ≡ m) ⊎ (has m ns ≡ true) → In (head_in m (head_bytes image m)) hs
found_more node image ns before n m hs true is all rest opens at =
    let g : Head = head_in n (head_bytes image n) in
    let j = joined_at node image before ns n hs is all in
    subst (In (head_in m (head_bytes image m))) (sym j.all) (elim at [
      | inl same ↦ inl (ap (λ k. head_in k (head_bytes image k)) (sym same))
      | inr behind ↦ inr (rest (g.sequence ∷ before) j.behind j.others behind)
    ])
found_more node image ns before n m hs false is all rest opens (inl same) =
    absurd (false≢true (sym is ∙ ap (opened image) same ∙ opens))
found_more node image ns before n m hs false is all rest opens (inr behind) =
    rest before hs (sym (step_is node image before ns n
    ∙ passed node (length image) n before (head_bytes image n) (λ b. heads_among node image b ns) is) ∙ all) behind

at_or_behind : (n m : ℕ) (ns : List ℕ) → has m (n ∷ ns) ≡ true → (n ≡ m) ⊎ (has m ns ≡ true)
at_or_behind n m ns at = go (n == m) refl at
  where
    go : (b : Bool) → (n == m) ≡ b → (b || has m ns) ≡ true → (n ≡ m) ⊎ (has m ns ≡ true)
    go true same at = inl (eqb-true n m same)
    go false other at = inr at

found_all : (node : ℕ) (image ns : List ℕ) (m : ℕ) → opened image m ≡ true → (before : List ℕ) (hs : List Head)
    → heads_among node image before ns ≡ Ok hs → has m ns ≡ true → In (head_in m (head_bytes image m)) hs
unfolding heads_among
found_all node image [] m opens before hs is at = absurd (false≢true at)
found_all node image (n ∷ ns) m opens before hs is at =
    found_more node image ns before n m hs (opened image n) refl is (found_all node image ns m opens) opens (at_or_behind n m ns at)

-- a head in memory stands in its slot
pub slot_of_head : (slots : List HeadFields) (h : Head) → In h (heads_in slots)
    → (k : ℕ) × (k < length slots) × (is_open (slot_at slots k) ≡ true) × (h ≡ head_of (slot_at slots k))
slot_of_head [] h there = absurd there
slot_of_head (slot ∷ slots) h there = go (is_open slot) refl (slot_of_head slots h) there
  where
    go : (b : Bool) → is_open slot ≡ b
        → (In h (heads_in slots) → (k : ℕ) × (k < length slots) × (is_open (slot_at slots k) ≡ true) × (h ≡ head_of (slot_at slots k)))
        → In h (map head_of (if b then slot ∷ filter is_open slots else filter is_open slots))
        → (k : ℕ) × (k < suc (length slots)) × (is_open (slot_at (slot ∷ slots) k) ≡ true) × (h ≡ head_of (slot_at (slot ∷ slots) k))
    go true is rest (inl same) = (0, omega arith, is, same)
    go true is rest (inr behind) = let r = rest behind in (suc r.0, omega (arith, r.1), r.2, r.3)
    go false is rest behind = let r = rest behind in (suc r.0, omega (arith, r.1), r.2, r.3)

pub head_of_slot : (slots : List HeadFields) (k : ℕ) → k < length slots → is_open (slot_at slots k) ≡ true → In (head_of (slot_at slots k))
    (heads_in slots)
head_of_slot [] k within opens = absurd (let bad : ⊥ = omega (arith, within) in bad)
head_of_slot (slot ∷ slots) zero within opens =
    subst (λ b. In (head_of slot) (map head_of (if b then slot ∷ filter is_open slots else filter is_open slots))) (sym opens) (inl refl)
head_of_slot (slot ∷ slots) (suc k) within opens = go (is_open slot) (head_of_slot slots k (omega (arith, within)) opens)
  where
    go : (b : Bool) → In (head_of (slot_at slots k)) (heads_in slots)
        → In (head_of (slot_at slots k)) (map head_of (if b then slot ∷ filter is_open slots else filter is_open slots))
    go true rest = inr rest
    go false rest = rest

there_open : (node : ℕ) (image : List ℕ) (k : ℕ) (slot : HeadFields) → slot.number ≡ k → IsHeadOn node image (head_of slot)
    → IsHeadThere node image k (Some slot)
there_open node image k slot numbered on =
    let same : head_of slot ≡ head_in k (head_bytes image k) = on.is ∙ ap (λ n. head_in n (head_bytes image n)) numbered in (
      eqb-true (slice_index (head_bytes image k) 0) 225 (ap (opened image) (sym numbered) ∙ on.open_there),
      ap (λ h. is_head node (length image) (head_bytes image k) h) (sym same)
          ∙ ap (λ n. is_head node (length image) (head_bytes image n) (head_of slot)) (sym numbered) ∙ on.good,
      same,
    )

pub slots_by_heads : (node : ℕ) (image : List ℕ) (slots : List HeadFields) → length slots ≡ length image / 1024
    → ((k : ℕ) → is_open (slot_at slots k) ≡ true → (slot_at slots k).number ≡ k)
    → heads_of node image ≡ Ok (heads_in slots) → AreThere node image slots
slots_by_heads node image slots long numbered is k within = go (is_open (slot_at slots k)) refl
  where
    shut : is_open (slot_at slots k) ≡ false → (b : Bool) → opened image k ≡ b → b ≡ false
    shut closed false opens = refl
    shut closed true opens =
        let found = slot_of_head slots (head_in k (head_bytes image k))
        (found_all node image (head_numbers (length image)) k opens [] (heads_in slots) is (among k (omega (arith, within, long)))) in
        let same : found.0 ≡ k = sym (numbered found.0 found.2) ∙ sym (ap (λ (h : Head). h.number) found.3) in
        absurd (false≢true (sym closed ∙ ap (λ i. is_open (slot_at slots i)) (sym same) ∙ found.2))
      where
        among : (m : ℕ) → m < length image / 1024 → has m (numbers 0 (length image / 1024)) ≡ true
        among m inside = has_number m 0 (length image / 1024) (omega arith) (omega (arith, inside))

    go : (b : Bool) → is_open (slot_at slots k) ≡ b → IsHeadThere node image k (if b then Some (slot_at slots k) else None)
    go true opens = there_open node image k (slot_at slots k) (numbered k opens)
        (head_found node image (heads_in slots) (head_of (slot_at slots k)) is (head_of_slot slots k within opens))
    go false closed = shut closed (opened image k) refl
