-- Bytes written over others.
use Rattle.std.specs.Prelude.{◌≡◌, ◌⊎◌, ℕ, ◌+◌, ◌-◌, ◌/◌, ◌≤◌, ◌<◌, List, ◌++◌, length, take, drop, slice_range}
use Rattle.std.proofs.Common.{get_or, ap, ◌∙◌, inl, inr, arith, length-append}
use Rattle.std.proofs.lemmas.List.{length-take-le, length-drop, get_or_append_left, get_or-append_right, get_or-take, get_or-drop}
use Rattle.eden_disk.specs.Told.{overlay}
use Rattle.eden_disk.specs.Images.{half_written}

pub length-overlay : (at : ℕ) (bytes old : List ℕ) → at + length bytes ≤ length old → length (overlay at bytes old) ≡ length old
length-overlay at bytes old fits = omega (
  arith,
  length-append (take at old ++ bytes) (drop (at + length bytes) old),
  length-append (take at old) bytes,
  length-take-le at old (omega arith),
  length-drop (at + length bytes) old,
)

-- a write changes nothing outside its range
pub overlay_outside : (at k : ℕ) (bytes old : List ℕ) → at + length bytes ≤ length old → (k < at) ⊎ (at + length bytes ≤ k)
    → get_or (overlay at bytes old) k 0 ≡ get_or old k 0
overlay_outside at k bytes old fits (inl below) =
    let front : length (take at old) ≡ at = length-take-le at old (omega arith) in
    get_or_append_left (take at old ++ bytes) (drop (at + length bytes) old) 0 k
    (omega (arith, below, front, length-append (take at old) bytes))
    ∙ get_or_append_left (take at old) bytes 0 k (omega (arith, below, front)) ∙ get_or-take at old k 0 below
overlay_outside at k bytes old fits (inr above) =
    let front : length (take at old ++ bytes) ≡ at + length bytes = omega
    (arith, length-append (take at old) bytes, length-take-le at old (omega arith)) in
    get_or-append_right (take at old ++ bytes) (drop (at + length bytes) old) (at + length bytes) k 0 front above
    ∙ get_or-drop (at + length bytes) old (k - (at + length bytes)) 0 ∙ ap (λ n. get_or old n 0) (omega (arith, above))

-- and shows itself in it
pub overlay_inside : (at k : ℕ) (bytes old : List ℕ) → at + length bytes ≤ length old → at ≤ k → k < at + length bytes
    → get_or (overlay at bytes old) k 0 ≡ get_or bytes (k - at) 0
overlay_inside at k bytes old fits from below =
    let front : length (take at old) ≡ at = length-take-le at old (omega (arith, fits)) in
    get_or_append_left (take at old ++ bytes) (drop (at + length bytes) old) 0 k
    (omega (arith, below, front, length-append (take at old) bytes))
    ∙ get_or-append_right (take at old) bytes at k 0 front from

half_le : (n : ℕ) → n / 2 ≤ n
half_le n = omega arith

-- a half-written range has the length of the whole
pub length-half_written : (at : ℕ) (bytes now : List ℕ) → at + length bytes ≤ length now → length (half_written at bytes now) ≡ length bytes
length-half_written at bytes now fits =
    let half : length bytes / 2 ≤ length bytes = half_le (length bytes) in
    let front : length (take (length bytes / 2) bytes) ≡ length bytes / 2 = length-take-le (length bytes / 2) bytes half in
    let behind : length (slice_range now (at + length bytes / 2) (at + length bytes)) ≡ length bytes - length bytes / 2 =
    length-take-le (at + length bytes - (at + length bytes / 2)) (drop (at + length bytes / 2) now)
    (omega (arith, half, fits, length-drop (at + length bytes / 2) now)) ∙ omega (arith, half) in
    length-append (take (length bytes / 2) bytes) (slice_range now (at + length bytes / 2) (at + length bytes)) ∙ omega
    (arith, half, front, behind)
