-- The open heads of an image on which some of the heads of another are closed.
use Rattle.std.specs.Prelude.{◌≡◌, ◌⊎◌, ℕ, zero, suc, ◌+◌, ◌/◌, ◌<◌, Bool, true, false, not, ◌&&◌, ◌||◌, ◌==◌, All, List, [], ◌∷◌, length}
use Rattle.std.specs.Prelude.{filter, slice_index}
use Rattle.std.specs.Prelude.{Result, Ok, Err, if◌then◌else◌}
use Rattle.std.proofs.Common.{refl, sym, ap, subst, ◌∙◌, inl, inr, arith, eq-eqb}
use Rattle.std.specs.List.{list_any}
use Rattle.std.proofs.lemmas.Bool.{false≢true}
use Rattle.std.proofs.lemmas.List.Elements.{All-head, All-tail, All-nil, All-cons}
use Rattle.std.proofs.lemmas.Bool.Decides.{nat_tests}
use Rattle.block_tables.specs.Blocks.{Head, head_bytes, head_in, is_head, joined_head, heads_among, heads_of, head_numbers, has, numbers}
use Rattle.passive_blocks.proofs.Among.{In}

-- the gate of a head is open
abbrev pub opened : List ℕ → ℕ → Bool
opened image n = slice_index (head_bytes image n) 0 == 225

-- the head under a number is the same on a second image, or it is closed there
abbrev pub SameOrShut : List ℕ → List ℕ → ℕ → Type 0
SameOrShut xs ys n = (head_bytes xs n ≡ head_bytes ys n) ⊎ (opened ys n ≡ false)

among : ℕ → List ℕ → Bool
among s before = list_any (λ x. x == s) before

abbrev Within : List ℕ → List ℕ → Type 0
Within less more = (s : ℕ) → list_any (λ x. x == s) less ≡ true → list_any (λ x. x == s) more ≡ true

-- one step of the reading of heads
abbrev pub step : ℕ → ℕ → ℕ → List ℕ → List ℕ → (List ℕ → Result (List Head) ℕ) → Result (List Head) ℕ
step node size n before bytes rest =
    joined_head (slice_index bytes 0 == 225)
    (is_head node size bytes (head_in n bytes) && not (list_any (λ s. s == (head_in n bytes).sequence) before)) (head_in n bytes)
    (rest (if slice_index bytes 0 == 225 then (head_in n bytes).sequence ∷ before else before))

pub step_is : (node : ℕ) (xs before ns : List ℕ) (n : ℕ)
    → heads_among node xs before (n ∷ ns) ≡ step node (length xs) n before (head_bytes xs n) (λ b. heads_among node xs b ns)
unfolding heads_among
step_is node xs before ns n = refl

-- a head that is closed is passed by
pub passed : (node size n : ℕ) (before bytes : List ℕ) (rest : List ℕ → Result (List Head) ℕ) → (slice_index bytes 0 == 225) ≡ false
    → step node size n before bytes rest ≡ rest before
passed node size n before bytes rest shut =
    let h : Head = head_in n bytes in
    ap (λ b. joined_head b (is_head node size bytes h && not (list_any (λ s. s == h.sequence) before)) h
    (rest (if b then h.sequence ∷ before else before))) shut

abbrev pub found : List Head → Result (List Head) ℕ
found hs = Ok hs

pub ok_same : (xs ys : List Head) → found xs ≡ found ys → xs ≡ ys
ok_same xs ys e = cc

-- what a head that is open joined
pub record Joined (fits : Bool) (h : Head) (rest : Result (List Head) ℕ) (hs : List Head) : Type 0 where
  pub good : fits ≡ true
  pub behind : List Head
  pub others : rest ≡ Ok behind
  pub all : hs ≡ h ∷ behind

pub joined_by : (fits : Bool) (h : Head) (rest : Result (List Head) ℕ) (hs : List Head) → joined_head true fits h rest ≡ Ok hs
    → Joined fits h rest hs
joined_by true h (Ok behind) hs e = record { good = refl; behind = behind; others = refl; all = sym (ok_same (h ∷ behind) hs e) }
joined_by true h (Err place) hs e = absurd cc
joined_by false h rest hs e = absurd cc

-- and joins
pub joins : (fits : Bool) (h : Head) (rest : Result (List Head) ℕ) (behind : List Head) → fits ≡ true → rest ≡ Ok behind
    → joined_head true fits h rest ≡ Ok (h ∷ behind)
joins fits h rest behind good is = ap (λ b. joined_head true b h rest) good ∙ ap (joined_head true true h) is

still_new : (a b c : Bool) → (a && not b) ≡ true → (c ≡ true → b ≡ true) → (a && not c) ≡ true
still_new true true c h to = absurd (false≢true h)
still_new true false true h to = absurd (false≢true (to refl))
still_new true false false h to = refl
still_new false b c h to = absurd (false≢true h)

within_more : (s : ℕ) (less more : List ℕ) → Within less more → Within (s ∷ less) (s ∷ more)
within_more s less more within q h = go (s == q) h
  where
    go : (b : Bool) → (b || list_any (λ x. x == q) less) ≡ true → (b || list_any (λ x. x == q) more) ≡ true
    go true h = refl
    go false h = within q h

within_skip : (s : ℕ) (less more : List ℕ) → Within less more → Within less (s ∷ more)
within_skip s less more within q h = go (s == q)
  where
    go : (b : Bool) → (b || list_any (λ x. x == q) more) ≡ true
    go true = refl
    go false = within q h

-- those that are left of some
abbrev pub left_on : List ℕ → List Head → List Head
left_on ys hs = filter (λ (h : Head). opened ys h.number) hs

left_step : (ys : List ℕ) (g : Head) (behind hs : List Head) (b : Bool) → hs ≡ g ∷ behind → opened ys g.number ≡ b
    → left_on ys hs ≡ (if b then g ∷ left_on ys behind else left_on ys behind)
left_step ys g behind hs b all is = ap (left_on ys) all ∙ ap (λ c. if c then g ∷ left_on ys behind else left_on ys behind) is

-- what a head that is open on the first image joined there
pub joined_at : (node : ℕ) (xs before ns : List ℕ) (n : ℕ) (hs : List Head) → opened xs n ≡ true → heads_among node xs before (n ∷ ns) ≡ Ok
    hs
    → Joined (is_head node (length xs) (head_bytes xs n) (head_in n (head_bytes xs n))
    && not (list_any (λ s. s == (head_in n (head_bytes xs n)).sequence) before)) (head_in n (head_bytes xs n))
    (heads_among node xs ((head_in n (head_bytes xs n)).sequence ∷ before) ns) hs
joined_at node xs before ns n hs open_there is =
    let g : Head = head_in n (head_bytes xs n) in
    let fits : Bool = is_head node (length xs) (head_bytes xs n) g && not (list_any (λ s. s == g.sequence) before) in
    joined_by fits g (heads_among node xs (g.sequence ∷ before) ns) hs
    (sym (step_is node xs before ns n ∙ ap (λ b. joined_head b fits g (heads_among node xs (if b then g.sequence ∷ before else before) ns))
    open_there) ∙ is)

both_open : (node : ℕ) (xs ys before less ns : List ℕ) (n : ℕ) (hs : List Head) → length xs ≡ length ys → Within less before
    → ((behind : List Head) → heads_among node xs ((head_in n (head_bytes xs n)).sequence ∷ before) ns ≡ Ok behind
    → heads_among node ys ((head_in n (head_bytes xs n)).sequence ∷ less) ns ≡ Ok (left_on ys behind))
    → opened xs n ≡ true → opened ys n ≡ true → head_bytes xs n ≡ head_bytes ys n → heads_among node xs before (n ∷ ns) ≡ Ok hs
    → heads_among node ys less (n ∷ ns) ≡ Ok (left_on ys hs)
both_open node xs ys before less ns n hs long within rest ox oy same is =
    let g : Head = head_in n (head_bytes xs n) in
    let j = joined_at node xs before ns n hs ox is in
    step_is node ys less ns n
    ∙ ap (λ bytes. step node (length ys) n less bytes (λ b. heads_among node ys b ns)) (sym same)
    ∙ ap (λ size. step node size n less (head_bytes xs n) (λ b. heads_among node ys b ns)) (sym long)
    ∙ ap (λ b. joined_head b (is_head node (length xs) (head_bytes xs n) g && not (list_any (λ s. s == g.sequence) less)) g
    (heads_among node ys (if b then g.sequence ∷ less else less) ns)) ox
    ∙ joins (is_head node (length xs) (head_bytes xs n) g && not (list_any (λ s. s == g.sequence) less)) g
    (heads_among node ys (g.sequence ∷ less) ns) (left_on ys j.behind)
    (still_new (is_head node (length xs) (head_bytes xs n) g) (list_any (λ s. s == g.sequence) before)
    (list_any (λ s. s == g.sequence) less) j.good (within g.sequence))
    (rest j.behind j.others)
    ∙ ap found (sym (left_step ys g j.behind hs true j.all oy))

one_shut : (node : ℕ) (xs ys before less ns : List ℕ) (n : ℕ) (hs : List Head)
    → ((behind : List Head) → heads_among node xs ((head_in n (head_bytes xs n)).sequence ∷ before) ns ≡ Ok behind
    → heads_among node ys less ns ≡ Ok (left_on ys behind))
    → opened xs n ≡ true → opened ys n ≡ false → heads_among node xs before (n ∷ ns) ≡ Ok hs
    → heads_among node ys less (n ∷ ns) ≡ Ok (left_on ys hs)
one_shut node xs ys before less ns n hs rest ox oy is =
    let g : Head = head_in n (head_bytes xs n) in
    let j = joined_at node xs before ns n hs ox is in
    step_is node ys less ns n
    ∙ passed node (length ys) n less (head_bytes ys n) (λ b. heads_among node ys b ns) oy
    ∙ rest j.behind j.others
    ∙ ap found (sym (left_step ys g j.behind hs false j.all oy))

both_shut : (node : ℕ) (xs ys before less ns : List ℕ) (n : ℕ) (hs : List Head)
    → (heads_among node xs before ns ≡ Ok hs → heads_among node ys less ns ≡ Ok (left_on ys hs))
    → opened xs n ≡ false → opened ys n ≡ false → heads_among node xs before (n ∷ ns) ≡ Ok hs
    → heads_among node ys less (n ∷ ns) ≡ Ok (left_on ys hs)
both_shut node xs ys before less ns n hs rest ox oy is =
    step_is node ys less ns n
    ∙ passed node (length ys) n less (head_bytes ys n) (λ b. heads_among node ys b ns) oy
    ∙ rest (sym (step_is node xs before ns n ∙ passed node (length xs) n before (head_bytes xs n) (λ b. heads_among node xs b ns) ox) ∙ is)

one_more : (node : ℕ) (xs ys before less ns : List ℕ) (n : ℕ) (hs : List Head) (a b : Bool) → opened xs n ≡ a → opened ys n ≡ b
    → length xs ≡ length ys → Within less before → SameOrShut xs ys n
    → ((before less : List ℕ) (hs : List Head) → Within less before → heads_among node xs before ns ≡ Ok hs
    → heads_among node ys less ns ≡ Ok (left_on ys hs))
    → heads_among node xs before (n ∷ ns) ≡ Ok hs → heads_among node ys less (n ∷ ns) ≡ Ok (left_on ys hs)
one_more node xs ys before less ns n hs true true ox oy long within (inl same) rest is =
    let s : ℕ = (head_in n (head_bytes xs n)).sequence in
    both_open node xs ys before less ns n hs long within
    (λ behind. rest (s ∷ before) (s ∷ less) behind (within_more s less before within)) ox oy same is
one_more node xs ys before less ns n hs true true ox oy long within (inr shut) rest is = absurd (false≢true (sym shut ∙ oy))
one_more node xs ys before less ns n hs true false ox oy long within either rest is =
    let s : ℕ = (head_in n (head_bytes xs n)).sequence in
    one_shut node xs ys before less ns n hs (λ behind. rest (s ∷ before) less behind (within_skip s less before within)) ox oy is
one_more node xs ys before less ns n hs false true ox oy long within (inl same) rest is =
    absurd (false≢true (sym ox ∙ ap (λ bytes. slice_index bytes 0 == 225) same ∙ oy))
one_more node xs ys before less ns n hs false true ox oy long within (inr shut) rest is = absurd (false≢true (sym shut ∙ oy))
one_more node xs ys before less ns n hs false false ox oy long within either rest is =
    both_shut node xs ys before less ns n hs (rest before less hs within) ox oy is

-- The heads on the second image are those of the first whose gates are open there.
pub heads_left : (node : ℕ) (xs ys ns : List ℕ) → length xs ≡ length ys → All (SameOrShut xs ys) ns
    → (before less : List ℕ) (hs : List Head) → Within less before → heads_among node xs before ns ≡ Ok hs
    → heads_among node ys less ns ≡ Ok (left_on ys hs)
unfolding heads_among
heads_left node xs ys [] long all before less hs within is = ap (λ hs. found (left_on ys hs)) (ok_same [] hs is)
heads_left node xs ys (n ∷ ns) long all before less hs within is =
    one_more node xs ys before less ns n hs (opened xs n) (opened ys n) refl refl long within (All-head (SameOrShut xs ys) n ns all)
    (heads_left node xs ys ns long (All-tail (SameOrShut xs ys) n ns all)) is

pub heads_of_left : (node : ℕ) (xs ys : List ℕ) (hs : List Head) → length xs ≡ length ys → All (SameOrShut xs ys) (head_numbers (length xs))
    → heads_of node xs ≡ Ok hs → heads_of node ys ≡ Ok (left_on ys hs)
heads_of_left node xs ys hs long all is =
    ap (λ size. heads_among node ys [] (head_numbers size)) (sym long)
    ∙ heads_left node xs ys (head_numbers (length xs)) long all [] [] hs (λ s h. h) is

-- a head that was found: it is what its bytes say
pub record IsHeadOn (node : ℕ) (image : List ℕ) (h : Head) : Type 0 where
  pub within : h.number < length image / 1024
  pub is : h ≡ head_in h.number (head_bytes image h.number)
  pub open_there : opened image h.number ≡ true
  pub good : is_head node (length image) (head_bytes image h.number) h ≡ true

first_true : (a b : Bool) → (a && b) ≡ true → a ≡ true
first_true true b h = refl
first_true false b h = h

on_it : (node : ℕ) (image : List ℕ) (n : ℕ) → n < length image / 1024 → opened image n ≡ true
    → is_head node (length image) (head_bytes image n) (head_in n (head_bytes image n)) ≡ true
    → IsHeadOn node image (head_in n (head_bytes image n))
on_it node image n within open_there good = record { within = within; is = refl; open_there = open_there; good = good }

found_more : (node : ℕ) (image ns before : List ℕ) (n : ℕ) (hs : List Head) (h : Head) (b : Bool) → n < length image / 1024 → opened image n
    ≡ b
    → heads_among node image before (n ∷ ns) ≡ Ok hs
    → ((before : List ℕ) (hs : List Head) → heads_among node image before ns ≡ Ok hs → In h hs → IsHeadOn node image h)
    → In h hs → IsHeadOn node image h
found_more node image ns before n hs h true within open_there is rest there =
    let g : Head = head_in n (head_bytes image n) in
    let j = joined_at node image before ns n hs open_there is in
    elim (subst (In h) j.all there) [
      | inl same ↦ subst (IsHeadOn node image) (sym same)
          (on_it node image n within open_there (first_true (is_head node (length image) (head_bytes image n) g)
          (not (list_any (λ s. s == g.sequence) before)) j.good))
      | inr behind ↦ rest (g.sequence ∷ before) j.behind j.others behind
    ]
found_more node image ns before n hs h false within shut is rest there =
    rest before hs (sym (step_is node image before ns n
    ∙ passed node (length image) n before (head_bytes image n) (λ b. heads_among node image b ns) shut) ∙ is) there

pub has_first : (n : ℕ) (ns : List ℕ) → has n (n ∷ ns) ≡ true
has_first n ns = ap (λ b. b || has n ns) (eq-eqb n n refl)

pub has_later : (n k : ℕ) (ns : List ℕ) → has k ns ≡ true → has k (n ∷ ns) ≡ true
has_later n k ns at = go (n == k)
  where
    go : (b : Bool) → (b || has k ns) ≡ true
    go true = refl
    go false = at

pub found_on : (node : ℕ) (image ns : List ℕ) (h : Head) → ((n : ℕ) → has n ns ≡ true → n < length image / 1024)
    → (before : List ℕ) (hs : List Head) → heads_among node image before ns ≡ Ok hs
    → In h hs → IsHeadOn node image h
unfolding heads_among
found_on node image [] h within before hs is there =
    absurd (subst (In h) (sym (ok_same [] hs is)) there)
found_on node image (n ∷ ns) h within before hs is there =
    found_more node image ns before n hs h (opened image n) (within n (has_first n ns)) refl is
    (found_on node image ns h (λ k at. within k (has_later n k ns at))) there

number_step : (from n b : ℕ) (here : Bool) (rest : List ℕ) → (from == b) ≡ here
    → (has b rest ≡ true → b < from + 1 + n) → (here || has b rest) ≡ true → b < from + suc n
number_step from n b true rest is behind h = grind (arith, nat_tests)
number_step from n b false rest is behind h = omega (arith, behind h)

pub below : (from n b : ℕ) → has b (numbers from n) ≡ true → b < from + n
unfolding numbers
below from zero b h = absurd (false≢true h)
below from (suc n) b h = number_step from n b (from == b) (numbers (from + 1) n) refl (below (from + 1) n b) h

-- what holds of each number holds of all of them
pub each_number : (P : ℕ → Type 0) (ns : List ℕ) → ((n : ℕ) → has n ns ≡ true → P n) → All P ns
each_number P [] each = All-nil P
each_number P (n ∷ ns) each =
    All-cons P n ns (each n (has_first n ns)) (each_number P ns (λ k at. each k (has_later n k ns at)))

pub head_found : (node : ℕ) (image : List ℕ) (heads : List Head) (h : Head) → heads_of node image ≡ Ok heads → In h heads
    → IsHeadOn node image h
head_found node image heads h is there =
    found_on node image (head_numbers (length image)) h (λ n at. omega (arith, below 0 (length image / 1024) n at)) [] heads is there

-- so no two of them have one number
pub are_numbered : (node : ℕ) (image : List ℕ) (heads : List Head) → heads_of node image ≡ Ok heads
    → (g h : Head) → In g heads → In h heads → g.number ≡ h.number → g ≡ h
are_numbered node image heads is g h at there same =
    (head_found node image heads g is at).is ∙ ap (λ n. head_in n (head_bytes image n)) same
    ∙ sym (head_found node image heads h is there).is
