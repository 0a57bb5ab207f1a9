-- The greatest of some numbers, and of the greatest of each of their groups.
use Rattle.std.proofs.Common.{◌≡◌, ◌≢◌, ◌⊎◌, ℕ, suc, zero, ◌+◌, ◌-◌, ◌*◌, ◌/◌, ◌≤◌, ◌<◌, List, [], ◌∷◌, ◌++◌, length, take, drop}
use Rattle.std.proofs.Common.{refl, sym, ap, subst, ◌∙◌, arith, max, inl, inr, set, min}
use Rattle.std.proofs.lemmas.Bool.{cases_lt}
use Rattle.std.specs.Prelude.{slice_index, slice_range, replicate}
use Rattle.std.proofs.lemmas.List.{take-append-drop, length-drop, take_all, drop-drop, drop-set-lt, drop-set-add, take-set-le}
use Rattle.std.proofs.lemmas.List.{get_or-set_same, get_or-set_other, length-set, get_or-replicate, length-replicate, drop-replicate}
use Rattle.std.proofs.lemmas.List.{take-replicate, length-take, get_or-take, get_or-drop, set-get_or, set_split}
use Rattle.std.proofs.Math.Seq.{take-suc, take-set-lt, drop-cons}
use Rattle.block_tables.specs.Greatest.{peak}

pub peak-append : (xs ys : List ℕ) → peak (xs ++ ys) ≡ max (peak xs) (peak ys)
unfolding peak
peak-append [] ys = omega arith
peak-append (x ∷ xs) ys = omega (arith, peak-append xs ys)

pub peak-one : (n : ℕ) → peak (n ∷ []) ≡ n
unfolding peak
peak-one n = omega arith

-- each of these is the greatest of a group of 64
abbrev pub ArePeaks : List ℕ → List ℕ → Type 0
ArePeaks groups values = (g : ℕ) → g < length groups → slice_index groups g ≡ peak (slice_range values (g * 64) (g * 64 + 64))

first_group : (values : List ℕ) → slice_range values (0 * 64) (0 * 64 + 64) ≡ take 64 values
first_group values = refl

no_values : (values : List ℕ) → 0 ≡ (length values + 63) / 64 → peak values ≡ 0
unfolding peak
no_values [] e = refl
no_values (x ∷ xs) e = absurd (omega (arith, e))

later_groups : (p : ℕ) (groups values : List ℕ) → ArePeaks (p ∷ groups) values → ArePeaks groups (drop 64 values)
later_groups p groups values are g within =
    are (suc g) (omega (arith, within))
    ∙ ap peak (
    ap (λ n. take n (drop (suc g * 64) values)) (let same : suc g * 64 + 64 - suc g * 64 ≡ g * 64 + 64 - g * 64 = omega arith in same)
    ∙ ap (take (g * 64 + 64 - g * 64))
    (sym (drop-drop (g * 64) 64 values ∙ ap (λ n. drop n values) (let same : 64 + g * 64 ≡ suc g * 64 = omega arith in same))))

pub peak_of_peaks : (groups values : List ℕ) → length groups ≡ (length values + 63) / 64 → ArePeaks groups values
    → peak groups ≡ peak values
unfolding peak
peak_of_peaks [] values long are = sym (no_values values long)
peak_of_peaks (p ∷ groups) values long are =
    let rest : peak groups ≡ peak (drop 64 values) =
    peak_of_peaks groups (drop 64 values) (omega (arith, long, length-drop 64 values)) (later_groups p groups values are) in
    let here : p ≡ peak (take 64 values) = are 0 (omega arith) in
    omega (arith, rest, here, peak-append (take 64 values) (drop 64 values), ap peak (take-append-drop 64 values))

pub peak-none : 0 ≡ peak []
unfolding peak
peak-none = refl

-- one more number
pub peak-next : (values : List ℕ) (i n m : ℕ) → i < length values → n ≡ peak (take i values) → m ≡ max n (slice_index values i)
    → m ≡ peak (take (i + 1) values)
peak-next values i n m within is more =
    more
    ∙ ap (λ m. max m (slice_index values i)) is
    ∙ ap (max (peak (take i values))) (sym (peak-one (slice_index values i)))
    ∙ sym (peak-append (take i values) (slice_index values i ∷ []))
    ∙ ap peak (sym (take-suc values i 0 within))
    ∙ ap (λ k. peak (take k values)) (let same : suc i ≡ i + 1 = omega arith in same)

pub peak-all : (values : List ℕ) (i : ℕ) → length values ≤ i → peak (take i values) ≡ peak values
peak-all values i all = ap peak (take_all i values all)

-- the length of a group that ends with the numbers
clipped : (from to : ℕ) (xs : List ℕ) → (to ≡ from + 64) ⊎ ((to ≡ length xs) × (length xs ≤ from + 64))
    → slice_range xs from to ≡ slice_range xs from (from + 64)
clipped from to xs (inl whole) = ap (slice_range xs from) whole
clipped from to xs (inr (end, short)) =
    take_all (to - from) (drop from xs) (omega (arith, end, length-drop from xs))
    ∙ sym (take_all (from + 64 - from) (drop from xs) (omega (arith, short, length-drop from xs)))

other_group : (xs : List ℕ) (i v g : ℕ) → ((i < g * 64) ⊎ (g * 64 + 64 ≤ i))
    → slice_range (set xs i v) (g * 64) (g * 64 + 64) ≡ slice_range xs (g * 64) (g * 64 + 64)
other_group xs i v g (inl before) = ap (take (g * 64 + 64 - g * 64)) (drop-set-lt (g * 64) xs i v before)
other_group xs i v g (inr behind) =
    let at : i ≡ g * 64 + (i - g * 64) = omega (arith, behind) in
    ap (λ k. take (g * 64 + 64 - g * 64) (drop (g * 64) (set xs k v))) at
    ∙ ap (take (g * 64 + 64 - g * 64)) (drop-set-add (g * 64) xs (i - g * 64) v)
    ∙ take-set-le (g * 64 + 64 - g * 64) (drop (g * 64) xs) (i - g * 64) v (omega (arith, behind))

same_or_other : (g i : ℕ) → (g ≡ i / 64) ⊎ ((g ≢ i / 64) × ((i < g * 64) ⊎ (g * 64 + 64 ≤ i)))
same_or_other g i = elim (cases_lt g (i / 64)) [
  | inl below ↦ inr (λ same. omega (arith, below, same), inr (omega (arith, below)))
  | inr up ↦ elim (cases_lt (i / 64) g) [
    | inl above ↦ inr (λ same. omega (arith, above, same), inl (omega (arith, above)))
    | inr down ↦ inl (omega (arith, up, down))
  ]
]

-- One number is set, and the greatest of its group is told anew.
pub peaks-set : (groups values : List ℕ) (i v found : ℕ) → ArePeaks groups values → i / 64 < length groups
    → found ≡ peak (slice_range (set values i v) (i / 64 * 64) (i / 64 * 64 + 64)) → ArePeaks (set groups (i / 64) found) (set values i v)
peaks-set groups values i v found are here is g within = elim (same_or_other g i) [
  | inl same ↦
      ap (slice_index (set groups (i / 64) found)) same
      ∙ get_or-set_same groups (i / 64) found 0 here
      ∙ is
      ∙ ap (λ k. peak (slice_range (set values i v) (k * 64) (k * 64 + 64))) (sym same)
  | inr other ↦
      get_or-set_other groups (i / 64) g found 0 other.0
      ∙ are g (omega (arith, within, length-set groups (i / 64) found))
      ∙ ap peak (sym (other_group values i v g other.1))
]

-- a list by the numbers before a place, the number there, and those behind it
pub parted : (xs : List ℕ) (i : ℕ) → i < length xs → xs ≡ take i xs ++ slice_index xs i ∷ drop (suc i) xs
parted xs i within = sym (take-append-drop i xs) ∙ ap (λ ys. take i xs ++ ys) (drop-cons xs i 0 within)

pub peak-parted : (xs ys : List ℕ) (n : ℕ) → peak (xs ++ n ∷ ys) ≡ max (peak xs) (max n (peak ys))
unfolding peak
peak-parted xs ys n = peak-append xs (n ∷ ys)

-- a number is set that is as great as all
pub peak-set_up : (xs : List ℕ) (i v : ℕ) → i < length xs → peak xs ≤ v → peak (set xs i v) ≡ v
peak-set_up xs i v within up =
    let old : peak xs ≡ max (peak (take i xs)) (max (slice_index xs i) (peak (drop (suc i) xs))) =
    ap peak (parted xs i within) ∙ peak-parted (take i xs) (drop (suc i) xs) (slice_index xs i) in
    let new : peak (set xs i v) ≡ max (peak (take i xs)) (max v (peak (drop (suc i) xs))) =
    ap peak (set_split xs i v within) ∙ peak-parted (take i xs) (drop (suc i) xs) v in
    omega (arith, old, new, up)

-- a number that is not the greatest is set to a lesser one than that
pub peak-set_beside : (xs : List ℕ) (i v : ℕ) → i < length xs → slice_index xs i ≢ peak xs → v < peak xs → peak (set xs i v) ≡ peak xs
peak-set_beside xs i v within beside less =
    let old : peak xs ≡ max (peak (take i xs)) (max (slice_index xs i) (peak (drop (suc i) xs))) =
    ap peak (parted xs i within) ∙ peak-parted (take i xs) (drop (suc i) xs) (slice_index xs i) in
    let new : peak (set xs i v) ≡ max (peak (take i xs)) (max v (peak (drop (suc i) xs))) =
    ap peak (set_split xs i v within) ∙ peak-parted (take i xs) (drop (suc i) xs) v in
    omega (arith, old, new, beside, less)

-- a range in which a number is set
pub range-set : (xs : List ℕ) (i v from to : ℕ) → from ≤ i → i < to
    → slice_range (set xs i v) from to ≡ set (slice_range xs from to) (i - from) v
range-set xs i v from to lower upper =
    let at : i ≡ from + (i - from) = omega (arith, lower) in
    ap (λ k. take (to - from) (drop from (set xs k v))) at
    ∙ ap (take (to - from)) (drop-set-add from xs (i - from) v)
    ∙ take-set-lt (to - from) (drop from xs) (i - from) v (omega (arith, lower, upper))

pub range-index : (xs : List ℕ) (i from to : ℕ) → from ≤ i → i < to → slice_index (slice_range xs from to) (i - from) ≡ slice_index xs i
range-index xs i from to lower upper =
    get_or-take (to - from) (drop from xs) (i - from) 0 (omega (arith, lower, upper))
    ∙ get_or-drop from xs (i - from) 0
    ∙ ap (slice_index xs) (let same : from + (i - from) ≡ i = omega (arith, lower) in same)

range-within : (xs : List ℕ) (i from to : ℕ) → from ≤ i → i < to → i < length xs → i - from < length (slice_range xs from to)
range-within xs i from to lower upper within =
    omega (arith, lower, upper, within, length-take (to - from) (drop from xs), length-drop from xs)

-- of a place in its group
lower_end : (i : ℕ) → i / 64 * 64 ≤ i
lower_end i = omega arith

upper_end : (i : ℕ) → i < i / 64 * 64 + 64
upper_end i = omega arith

-- A number as great as all of its group is the greatest of it.
pub peaks-set_up : (groups values : List ℕ) (i v : ℕ) → ArePeaks groups values → i / 64 < length groups → i < length values
    → slice_index groups (i / 64) ≤ v → ArePeaks (set groups (i / 64) v) (set values i v)
peaks-set_up groups values i v are here within up =
    let from : ℕ = i / 64 * 64 in
    let group : List ℕ = slice_range values from (from + 64) in
    let above : peak group ≤ v = subst (λ n. n ≤ v) (are (i / 64) here) up in
    peaks-set groups values i v v are here
    (sym (ap peak (range-set values i v from (from + 64) (lower_end i) (upper_end i))
    ∙ peak-set_up group (i - from) v (range-within values i from (from + 64) (lower_end i) (upper_end i) within) above))

-- A number that is not the greatest of its group, and is made no greater than that, leaves it.
pub peaks-set_beside : (groups values : List ℕ) (i v : ℕ) → ArePeaks groups values → i / 64 < length groups → i < length values
    → v < slice_index groups (i / 64) → slice_index values i ≢ slice_index groups (i / 64) → ArePeaks groups (set values i v)
peaks-set_beside groups values i v are here within less beside =
    let from : ℕ = i / 64 * 64 in
    let group : List ℕ = slice_range values from (from + 64) in
    let greatest : slice_index groups (i / 64) ≡ peak group = are (i / 64) here in
    let below : v < peak group = subst (λ n. v < n) greatest less in
    let other : slice_index group (i - from) ≢ peak group = λ same. beside
    (sym (range-index values i from (from + 64) (lower_end i) (upper_end i)) ∙ same ∙ sym greatest) in
    let kept : slice_index groups (i / 64) ≡ peak (slice_range (set values i v) from (from + 64)) =
    greatest ∙ sym (ap peak (range-set values i v from (from + 64) (lower_end i) (upper_end i))
    ∙ peak-set_beside group (i - from) v (range-within values i from (from + 64) (lower_end i) (upper_end i) within) other below) in
    subst (λ gs. ArePeaks gs (set values i v)) (set-get_or groups (i / 64) 0)
    (peaks-set groups values i v (slice_index groups (i / 64)) are here kept)

pub zeros : (n : ℕ) → peak (replicate n 0) ≡ 0
unfolding peak
zeros zero = refl
zeros (suc n) = omega (arith, zeros n)

-- of numbers that are all 0
pub peaks-new : (groups count : ℕ) → ArePeaks (replicate groups 0) (replicate count 0)
peaks-new groups count g within =
    get_or-replicate groups g 0 0 (omega (arith, within, length-replicate {A = ℕ} groups 0))
    ∙ sym (ap (λ xs. peak (take (g * 64 + 64 - g * 64) xs)) (drop-replicate (g * 64) count 0)
    ∙ taken (g * 64 + 64 - g * 64) (count - g * 64))
  where
    taken : (m n : ℕ) → peak (take m (replicate n 0)) ≡ 0
    taken m n = elim (cases_lt m n) [
      | inl less ↦ ap peak (take-replicate m n 0 (omega (arith, less))) ∙ zeros m
      | inr more ↦ ap peak (take_all m (replicate n 0) (omega (arith, more, length-replicate {A = ℕ} n 0))) ∙ zeros n
    ]

ends_at : (from n size to : ℕ) → to ≡ min (from + 64) n → n ≡ size → (to ≡ from + 64) ⊎ ((to ≡ size) × (size ≤ from + 64))
ends_at from n size to is same = elim (cases_lt (from + 64) n) [
  | inl before ↦ inl (omega (arith, is, before))
  | inr behind ↦ inr (omega (arith, is, same, behind), omega (arith, same, behind))
]

-- What holds of the groups of a list.
abbrev pub HavePeaks : List ℕ → List ℕ → Type 0
HavePeaks groups values = (length groups ≡ (length values + 63) / 64) × ArePeaks groups values

-- It holds once a number was set and the greatest of its group was found anew,
pub peaks-kept : (groups values : List ℕ) (i v to n found : ℕ) → HavePeaks groups values → i < length values
    → to ≡ min (i / 64 * 64 + 64) n → n ≡ length (set values i v) → found ≡ peak (slice_range (set values i v) (i / 64 * 64) to)
    → HavePeaks (set groups (i / 64) found) (set values i v)
peaks-kept groups values i v to n found have within to_is n_is found_is = (
  length-set groups (i / 64) found ∙ have.0 ∙ ap (λ k. (k + 63) / 64) (sym (length-set values i v)),
  peaks-set groups values i v found have.1 (omega (arith, have.0, within))
      (found_is ∙ ap peak (clipped (i / 64 * 64) to (set values i v) (ends_at (i / 64 * 64) n (length (set values i v)) to to_is n_is))),
)

-- and where it is as great as the greatest of its group,
pub peaks-kept_up : (groups values : List ℕ) (i v : ℕ) → HavePeaks groups values → i < length values → slice_index groups (i / 64) ≤ v
    → HavePeaks (set groups (i / 64) v) (set values i v)
peaks-kept_up groups values i v have within up = (
  length-set groups (i / 64) v ∙ have.0 ∙ ap (λ k. (k + 63) / 64) (sym (length-set values i v)),
  peaks-set_up groups values i v have.1 (omega (arith, have.0, within)) within up,
)

-- and where the number there was not that, and is made less than that.
pub peaks-kept_beside : (groups values : List ℕ) (i v : ℕ) → HavePeaks groups values → i < length values
    → v < slice_index groups (i / 64) → slice_index values i ≢ slice_index groups (i / 64) → HavePeaks groups (set values i v)
peaks-kept_beside groups values i v have within less beside = (
  have.0 ∙ ap (λ k. (k + 63) / 64) (sym (length-set values i v)),
  peaks-set_beside groups values i v have.1 (omega (arith, have.0, within)) within less beside,
)

pub peaks-fresh : (groups values : List ℕ) (count n : ℕ) → values ≡ replicate count 0 → groups ≡ replicate n 0 → n ≡ (count + 63) / 64
    → HavePeaks groups values
peaks-fresh groups values count n zero_values zero_groups long = (
  ap length zero_groups ∙ length-replicate {A = ℕ} n 0 ∙ long
      ∙ ap (λ k. (k + 63) / 64) (sym (ap length zero_values ∙ length-replicate {A = ℕ} count 0)),
  subst (λ xs. ArePeaks xs values) (sym zero_groups) (subst (ArePeaks (replicate n 0)) (sym zero_values) (peaks-new n count)),
)

-- none is greater than the greatest, which is one of them
pub peak-above : (values : List ℕ) (k : ℕ) → slice_index values k ≤ peak values
unfolding peak
peak-above [] k = omega arith
peak-above (x ∷ xs) zero = omega arith
peak-above (x ∷ xs) (suc k) = omega (arith, peak-above xs k)

pub peak-at : (values : List ℕ) → 1 ≤ peak values → (k : ℕ) × (k < length values) × (slice_index values k ≡ peak values)
unfolding peak
peak-at [] some = absurd (omega (arith, some))
peak-at (x ∷ xs) some = elim (cases_lt x (peak xs)) [
  | inl less ↦
      let rest = peak-at xs (omega (arith, less)) in
      (suc rest.0, omega (arith, rest.1), rest.2 ∙ let same : peak xs ≡ max x (peak xs) = omega (arith, less) in same)
  | inr more ↦ (0, omega arith, let same : x ≡ max x (peak xs) = omega (arith, more) in same)
]
