-- The marks of a set, and those of its groups.
use Rattle.std.proofs.Common.{◌≡◌, ℕ, ◌+◌, ◌*◌, ◌/◌, ◌^◌, ◌-◌, ◌≤◌, ◌<◌, true, false, List, length, take, drop, set, sym, ap, ◌∙◌}
use Rattle.std.proofs.Common.{arith, max, inl, inr, suc}
use Rattle.std.specs.Prelude.{slice_index, slice_range, nat_lt, is_some, replicate, Option, None, Some}
use Rattle.std.proofs.lemmas.Bool.{cases_lt}
use Rattle.std.proofs.lemmas.Bool.Decides.{nat_tests}
use Rattle.std.proofs.lemmas.List.{take-append-drop, length-take, length-drop, length-set, length-replicate, set_split}
use Rattle.block_tables.specs.Greatest.{peak}
use Rattle.block_tables.specs.Members.{is_member, IsFirstOf}
use Rattle.block_tables.proofs.Greatest.{HavePeaks, peak-above, peak-at, peak-append, peak_of_peaks, peak-parted, peak-set_up, parted}
use Rattle.block_tables.proofs.Greatest.{peaks-set, peaks-kept_up, peaks-fresh, range-index, zeros}
use mir.Val.{bool_byte}

no_member : (mark : ℕ) → mark ≤ 0 → nat_lt 0 mark ≡ false
no_member mark none = grind (arith, nat_tests)

a_member : (mark : ℕ) → 1 ≤ mark → nat_lt 0 mark ≡ true
a_member mark some = grind (arith, nat_tests)

is_marked : (mark : ℕ) → nat_lt 0 mark ≡ true → 1 ≤ mark
is_marked mark is = grind (arith, nat_tests)

not_marked : (mark : ℕ) → nat_lt 0 mark ≡ false → mark ≤ 0
not_marked mark is = grind (arith, nat_tests)

-- where no mark is set, and where one is
none_marked : (marks : List ℕ) → peak marks ≤ 0 → (k : ℕ) → is_member marks k ≡ false
none_marked marks none k = no_member (slice_index marks k) (omega (arith, peak-above marks k, none))

no_peak : (marks : List ℕ) → ((k : ℕ) → is_member marks k ≡ false) → peak marks ≤ 0
no_peak marks none = elim (cases_lt 0 (peak marks)) [
  | inl some ↦
      let at = peak-at marks (omega (arith, some)) in
      absurd (omega (arith, some, at.2, not_marked (slice_index marks at.0) (none at.0)))
  | inr behind ↦ omega (arith, behind)
]

one_marked : (marks : List ℕ) (n : ℕ) → is_member marks n ≡ true → 1 ≤ peak marks
one_marked marks n is = omega (arith, is_marked (slice_index marks n) is, peak-above marks n)

peak-range : (marks : List ℕ) (from to : ℕ) → peak (slice_range marks from to) ≤ peak marks
peak-range marks from to =
    let behind : List ℕ = drop from marks in
    let outer : peak marks ≡ max (peak (take from marks)) (peak behind) =
    ap peak (sym (take-append-drop from marks)) ∙ peak-append (take from marks) behind in
    let inner : peak behind ≡ max (peak (take (to - from) behind)) (peak (drop (to - from) behind)) =
    ap peak (sym (take-append-drop (to - from) behind)) ∙ peak-append (take (to - from) behind) (drop (to - from) behind) in
    omega (arith, outer, inner)

-- What holds of the marks of a set.
abbrev pub AreMarks : List ℕ → List ℕ → Type 0
AreMarks groups members = (length groups ≡ (length members + 63) / 64)
    × ((g : ℕ) → g < length groups → slice_index groups g ≡ peak (slice_range members (g * 64) (g * 64 + 64))) × (peak members ≤ 1)
    × (length members < 2 ^ 32)

group_within : (groups members : List ℕ) (n : ℕ) → AreMarks groups members → n < length members → n / 64 < length groups
group_within groups members n are within = omega (arith, are.0, within)

pub marks-new : (groups members : List ℕ) (count n : ℕ) → members ≡ replicate count 0 → groups ≡ replicate n 0 → n ≡ (count + 63) / 64
    → count < 2 ^ 32 → AreMarks groups members
marks-new groups members count n zero_members zero_groups long small =
    let have : HavePeaks groups members = peaks-fresh groups members count n zero_members zero_groups long in (
      have.0,
      have.1,
      omega (arith, ap peak zero_members, zeros count),
      omega (arith, ap length zero_members, length-replicate {A = ℕ} count 0, small),
    )

no_more : (members : List ℕ) (n : ℕ) → n < length members → peak members ≤ 1 → peak (set members n 0) ≤ 1
no_more members n within small =
    let old : peak members ≡ max (peak (take n members)) (max (slice_index members n) (peak (drop (suc n) members))) =
    ap peak (parted members n within) ∙ peak-parted (take n members) (drop (suc n) members) (slice_index members n) in
    let new : peak (set members n 0) ≡ max (peak (take n members)) (max 0 (peak (drop (suc n) members))) =
    ap peak (set_split members n 0 within) ∙ peak-parted (take n members) (drop (suc n) members) 0 in
    omega (arith, old, new, small)

-- A number is taken in,
pub marks-insert : (groups members : List ℕ) (n : ℕ) → AreMarks groups members → n < length members
    → AreMarks (set groups (n / 64) 1) (set members n 1)
marks-insert groups members n are within =
    let group : slice_index groups (n / 64) ≤ 1 =
    omega (arith, are.1 (n / 64) (group_within groups members n are within), peak-range members (n / 64 * 64) (n / 64 * 64 + 64), are.2) in
    let have : HavePeaks (set groups (n / 64) 1) (set members n 1) =
    peaks-kept_up groups members n 1 (are.0, are.1) within group in (
      have.0,
      have.1,
      omega (arith, peak-set_up members n 1 within are.2),
      omega (arith, length-set members n 1, are.3),
    )

-- and taken out.
pub marks-remove : (groups members : List ℕ) (n left : ℕ) → AreMarks groups members → n < length members
    → left ≡ peak (slice_range (set members n 0) (n / 64 * 64) (n / 64 * 64 + 64)) → AreMarks (set groups (n / 64) left) (set members n 0)
marks-remove groups members n left are within is = (
  length-set groups (n / 64) left ∙ are.0 ∙ ap (λ k. (k + 63) / 64) (sym (length-set members n 0)),
  peaks-set groups members n 0 left are.1 (group_within groups members n are within) is,
  no_more members n within are.2,
  omega (arith, length-set members n 0, are.3),
)

-- whether one is left, as a mark
left_mark : (marks : List ℕ) (first : Option ℕ) → IsFirstOf marks first → peak marks ≤ 1 → bool_byte (is_some first) ≡ peak marks
left_mark marks None none small = omega (arith, no_peak marks none)
left_mark marks (Some n) is small = omega (arith, one_marked marks n is.1, small)

pub left_of : (groups members : List ℕ) (n : ℕ) (first : Option ℕ) → AreMarks groups members → n < length members
    → IsFirstOf (slice_range (set members n 0) (n / 64 * 64) (n / 64 * 64 + 64)) first
    → bool_byte (is_some first) ≡ peak (slice_range (set members n 0) (n / 64 * 64) (n / 64 * 64 + 64))
left_of groups members n first are within is =
    left_mark (slice_range (set members n 0) (n / 64 * 64) (n / 64 * 64 + 64)) first is
    (omega (arith, no_more members n within are.2, peak-range (set members n 0) (n / 64 * 64) (n / 64 * 64 + 64)))

-- No group has a member: there is none.
pub no_group : (groups members : List ℕ) → AreMarks groups members → ((g : ℕ) → is_member groups g ≡ false) → (k : ℕ)
    → is_member members k ≡ false
no_group groups members are none =
    none_marked members (omega (arith, peak_of_peaks groups members are.0 are.1, no_peak groups none))

-- A group that is marked has a member.
pub not_empty : (groups members : List ℕ) (g : ℕ) → AreMarks groups members → g < length groups → is_member groups g ≡ true
    → ((k : ℕ) → is_member (slice_range members (g * 64) (g * 64 + 64)) k ≡ false) → ⊥
not_empty groups members g are within is none =
    omega (arith, are.1 g within, is_marked (slice_index groups g) is, no_peak (slice_range members (g * 64) (g * 64 + 64)) none)

-- a number by its group and its place there
at_place : (members : List ℕ) (g p : ℕ) → p < 64
    → is_member members (g * 64 + p) ≡ is_member (slice_range members (g * 64) (g * 64 + 64)) p
at_place members g p within =
    let from : ℕ = g * 64 in
    sym (ap (nat_lt 0) (ap (slice_index (slice_range members from (from + 64))) (let same : p ≡ from + p - from = omega arith in same)
    ∙ range-index members (from + p) from (from + 64) (omega arith) (omega (arith, within))))

of_number : (members : List ℕ) (k : ℕ)
    → is_member members k ≡ is_member (slice_range members (k / 64 * 64) (k / 64 * 64 + 64)) (k - k / 64 * 64)
of_number members k =
    ap (is_member members) (let same : k ≡ k / 64 * 64 + (k - k / 64 * 64) = omega arith in same)
    ∙ at_place members (k / 64) (k - k / 64 * 64) (omega arith)

place_within : (members : List ℕ) (g p : ℕ) → p < length (slice_range members (g * 64) (g * 64 + 64))
    → (p < 64) × (g * 64 + p < length members)
place_within members g p within =
    let long : length (slice_range members (g * 64) (g * 64 + 64)) ≤ 64 =
    omega (arith, length-take (g * 64 + 64 - g * 64) (drop (g * 64) members)) in (
      omega (arith, within, long),
      omega (arith, within, length-take (g * 64 + 64 - g * 64) (drop (g * 64) members), length-drop (g * 64) members),
    )

-- The first place of the first group is that of the least member.
pub least : (groups members : List ℕ) (g p : ℕ) → AreMarks groups members → IsFirstOf groups (Some g)
    → IsFirstOf (slice_range members (g * 64) (g * 64 + 64)) (Some p) → IsFirstOf members (Some (g * 64 + p))
least groups members g p are group place =
    let inside = place_within members g p place.0 in (
      inside.1,
      at_place members g p inside.0 ∙ place.1,
      λ k below. elim (cases_lt (k / 64) g) [
        | inl before ↦
            of_number members k ∙ none_marked (slice_range members (k / 64 * 64) (k / 64 * 64 + 64))
            (omega (
              arith,
              are.1 (k / 64) (omega (arith, before, group.0)),
              not_marked (slice_index groups (k / 64))
                  (group.2 (k / 64) before),
            ))
            (k - k / 64 * 64)
        | inr behind ↦
            let same : k ≡ g * 64 + (k - g * 64) = omega (arith, behind) in
            ap (is_member members) same
            ∙ at_place members g (k - g * 64) (omega (arith, below, behind, inside.0))
            ∙ place.2 (k - g * 64) (omega (arith, below, behind))
      ],
    )
