-- Laws of bytes in two parts.
use Rattle.std.specs.Prelude.{◌≡◌, ℕ, ◌+◌, ◌-◌, ◌≤◌, ◌<◌, Bool, true, false, nat_lt, if◌then◌else◌, List, ◌++◌, length, replicate}
use Rattle.std.specs.Prelude.{slice_range}
use Rattle.std.proofs.Common.{get_or, refl, sym, ap, ◌∙◌, inl, inr, arith, length-append}
use Rattle.std.proofs.lemmas.Bool.{cases_lt}
use Rattle.std.proofs.lemmas.List.{ext_get_or, get_or_append_left, get_or-append_right, replicate-append-replicate}
use Rattle.std.proofs.lemmas.List.Edits.{get_or-between, length-between}
use Rattle.eden_disk.specs.Told.{overlay}
use Rattle.eden_disk.specs.SimDisk.{zeros}
use Rattle.eden_disk.specs.Fronts.{Fronted}
use Rattle.eden_disk.specs.Imaged.{IsParted, reach_of}
use Rattle.eden_disk.proofs.SimDiskLaws.{zeros_are}
use Rattle.eden_disk.proofs.Overlay.{length-overlay, overlay_outside, overlay_inside}

-- Bytes are written over the second part.
pub written_behind : (at s : ℕ) (bytes first rest : List ℕ) → s ≡ length first → s ≤ at → at + length bytes ≤ s + length rest
    → first ++ overlay (at - s) bytes rest ≡ overlay at bytes (first ++ rest)
written_behind at s bytes first rest is from fits =
    let all : List ℕ = first ++ rest in
    let long : length all ≡ s + length rest = length-append first rest ∙ omega (arith, is) in
    let room : at + length bytes ≤ length all = omega (arith, fits, long) in
    let near : at - s + length bytes ≤ length rest = omega (arith, fits, from) in
    let len : length (overlay (at - s) bytes rest) ≡ length rest = length-overlay (at - s) bytes rest near in
    ext_get_or 0 (first ++ overlay (at - s) bytes rest) (overlay at bytes all)
    (length-append first (overlay (at - s) bytes rest) ∙ omega (arith, len, is, long) ∙ sym (length-overlay at bytes all room))
    (λ k h. elim (cases_lt k s) [
      | inl front ↦
          get_or_append_left first (overlay (at - s) bytes rest) 0 k (omega (arith, front, is))
          ∙ sym (overlay_outside at k bytes all room (inl (omega (arith, front, from)))
          ∙ get_or_append_left first rest 0 k (omega (arith, front, is)))
      | inr behind ↦
          get_or-append_right first (overlay (at - s) bytes rest) s k 0 (sym is) behind
          ∙ elim (cases_lt k at) [
            | inl below ↦
                overlay_outside (at - s) (k - s) bytes rest near (inl (omega (arith, below, behind)))
                ∙ sym (overlay_outside at k bytes all room (inl below) ∙ get_or-append_right first rest s k 0 (sym is) behind)
            | inr past ↦ elim (cases_lt k (at + length bytes)) [
              | inl inside ↦
                  overlay_inside (at - s) (k - s) bytes rest near (omega (arith, past, from)) (omega (arith, inside, from, past))
                  ∙ ap (λ n. get_or bytes n 0) (omega (arith, past, from)) ∙ sym (overlay_inside at k bytes all room past inside)
              | inr above ↦
                  overlay_outside (at - s) (k - s) bytes rest near (inr (omega (arith, above, from, behind)))
                  ∙ sym (overlay_outside at k bytes all room (inr above) ∙ get_or-append_right first rest s k 0 (sym is) behind)
            ]
          ]
    ])

-- Bytes are written over the end of the first part and the begin of the second one, or over the first part alone.
pub written_across : (at s : ℕ) (front behind bytes first rest : List ℕ) → s ≡ length first → bytes ≡ front ++ behind
    → at + length front ≤ s → (1 ≤ length behind → at + length front ≡ s) → length behind ≤ length rest
    → overlay at front first ++ overlay 0 behind rest ≡ overlay at bytes (first ++ rest)
written_across at s front behind bytes first rest is whole fits meets room =
    let all : List ℕ = first ++ rest in
    let one : List ℕ = overlay at front first in
    let two : List ℕ = overlay 0 behind rest in
    let len : length bytes ≡ length front + length behind = ap length whole ∙ length-append front behind in
    let long : length all ≡ s + length rest = length-append first rest ∙ omega (arith, is) in
    let near : at + length front ≤ length first = omega (arith, fits, is) in
    let within : at + length bytes ≤ length all = omega (arith, len, fits, room, long) in
    let one_long : length one ≡ s = length-overlay at front first near ∙ sym is in
    let two_long : length two ≡ length rest = length-overlay 0 behind rest (omega (arith, room)) in
    ext_get_or 0 (one ++ two) (overlay at bytes all)
    (length-append one two ∙ omega (arith, one_long, two_long, long) ∙ sym (length-overlay at bytes all within))
    (λ k h. elim (cases_lt k s) [
      | inl low ↦
          get_or_append_left one two 0 k (omega (arith, low, one_long))
          ∙ elim (cases_lt k at) [
            | inl below ↦
                overlay_outside at k front first near (inl below)
                ∙ sym (overlay_outside at k bytes all within (inl below) ∙ get_or_append_left first rest 0 k (omega (arith, low, is)))
            | inr past ↦ elim (cases_lt k (at + length front)) [
              | inl inside ↦
                  overlay_inside at k front first near past inside
                  ∙ sym (overlay_inside at k bytes all within past (omega (arith, inside, len)) ∙ ap (λ l. get_or l (k - at) 0) whole
                  ∙ get_or_append_left front behind 0 (k - at) (omega (arith, inside, past)))
              | inr above ↦ elim (cases_lt (length behind) 1) [
                | inl none ↦
                    overlay_outside at k front first near (inr above)
                    ∙ sym (overlay_outside at k bytes all within (inr (omega (arith, above, len, none)))
                    ∙ get_or_append_left first rest 0 k (omega (arith, low, is)))
                | inr some ↦ omega (arith, meets some, above, low)
              ]
            ]
          ]
      | inr high ↦
          get_or-append_right one two s k 0 one_long high
          ∙ elim (cases_lt (k - s) (length behind)) [
            | inl inside ↦
                let end : at + length front ≡ s = meets (omega (arith, inside)) in
                overlay_inside 0 (k - s) behind rest (omega (arith, room)) (omega arith) (omega (arith, inside))
                ∙ sym (overlay_inside at k bytes all within (omega (arith, end, high)) (omega (arith, end, len, inside, high))
                ∙ ap (λ l. get_or l (k - at) 0) whole
                ∙ get_or-append_right front behind (length front) (k - at) 0 refl (omega (arith, end, high))
                ∙ ap (λ n. get_or behind n 0) (omega (arith, end, high)))
            | inr above ↦
                overlay_outside 0 (k - s) behind rest (omega (arith, room)) (inr (omega (arith, above)))
                ∙ sym (overlay_outside at k bytes all within (inr (omega (arith, above, high, len, fits)))
                ∙ get_or-append_right first rest s k 0 (sym is) high)
          ]
    ])

-- Bytes are read from the second part.
pub read_behind : (at s n : ℕ) (first rest : List ℕ) → s ≡ length first → s ≤ at → at + n ≤ s + length rest
    → slice_range rest (at - s) (at - s + n) ≡ slice_range (first ++ rest) at (at + n)
read_behind at s n first rest is from fits =
    let all : List ℕ = first ++ rest in
    let long : length all ≡ s + length rest = length-append first rest ∙ omega (arith, is) in
    let near : length (slice_range rest (at - s) (at - s + n)) ≡ n =
    length-between rest (at - s) (at - s + n) (omega (arith, from, fits)) ∙ omega arith in
    ext_get_or 0 (slice_range rest (at - s) (at - s + n)) (slice_range all at (at + n))
    (near ∙ sym (length-between all at (at + n) (omega (arith, long, fits)) ∙ omega arith))
    (λ k h. get_or-between rest (at - s) (at - s + n) k 0 (omega (arith, h, near))
    ∙ sym (get_or-between all at (at + n) k 0 (omega (arith, h, near))
    ∙ get_or-append_right first rest s (at + k) 0 (sym is) (omega (arith, from))
    ∙ ap (λ j. get_or rest j 0) (omega (arith, from))))

-- Bytes are read from the end of the first part and the begin of the second one, or from the first part alone.
pub read_across : (at s h n : ℕ) (first rest : List ℕ) → s ≡ length first → at + h ≤ s → h ≤ n → (h < n → at + h ≡ s) → n - h ≤ length rest
    → slice_range first at (at + h) ++ slice_range rest 0 (n - h) ≡ slice_range (first ++ rest) at (at + n)
read_across at s h n first rest is fits part meets room =
    let all : List ℕ = first ++ rest in
    let one : List ℕ = slice_range first at (at + h) in
    let two : List ℕ = slice_range rest 0 (n - h) in
    let long : length all ≡ s + length rest = length-append first rest ∙ omega (arith, is) in
    let one_long : length one ≡ h = length-between first at (at + h) (omega (arith, fits, is)) ∙ omega arith in
    let two_long : length two ≡ n - h = length-between rest 0 (n - h) room ∙ omega arith in
    let sums : length one + length two ≡ n = omega (arith, one_long, two_long, part) in
    let all_long : length (slice_range all at (at + n)) ≡ n =
    length-between all at (at + n) (omega (arith, long, fits, part, room)) ∙ omega arith in
    ext_get_or 0 (one ++ two) (slice_range all at (at + n))
    (length-append one two ∙ sums ∙ sym all_long)
    (λ k below. let less : k < n = omega (arith, below, length-append one two, one_long, two_long, part) in
    elim (cases_lt k h) [
      | inl low ↦
          get_or_append_left one two 0 k (omega (arith, low, one_long)) ∙ get_or-between first at (at + h) k 0 (omega (arith, low))
          ∙ sym (get_or-between all at (at + n) k 0 (omega (arith, less))
          ∙ get_or_append_left first rest 0 (at + k) (omega (arith, low, fits, is)))
      | inr high ↦
          let end : at + h ≡ s = meets (omega (arith, high, less)) in
          get_or-append_right one two h k 0 one_long high ∙ get_or-between rest 0 (n - h) (k - h) 0 (omega (arith, less, high))
          ∙ sym (get_or-between all at (at + n) k 0 (omega (arith, less))
          ∙ get_or-append_right first rest s (at + k) 0 (sym is) (omega (arith, end, high))
          ∙ ap (λ j. get_or rest j 0) (omega (arith, end, high)))
    ])

-- so many zeros in two parts
pub zeros_parted : (n size : ℕ) (first rest : List ℕ) → n ≤ size → first ≡ zeros n → rest ≡ zeros (size - n) → first ++ rest ≡ zeros size
zeros_parted n size first rest fits one two =
    ap (λ l. l ++ rest) (one ∙ zeros_are n) ∙ ap (λ l. replicate n 0 ++ l) (two ∙ zeros_are (size - n))
    ∙ replicate-append-replicate n (size - n) 0 ∙ ap (λ m. replicate {A = ℕ} m 0) (omega (arith, fits)) ∙ sym (zeros_are size)

-- memory reaches no farther than the bytes
one_of : (b : Bool) (x y n : ℕ) → x ≤ n → y ≤ n → (if b then x else y) ≤ n
one_of true x y n one other = one
one_of false x y n one other = other

pub reach_within : (size : ℕ) (first rest : Fronted) → IsParted size first rest
    → reach_of first rest ≤ length first.bytes + length rest.bytes
reach_within size first rest parted = one_of (nat_lt first.reach (length first.bytes)) first.reach (length first.bytes + rest.reach)
    (length first.bytes + length rest.bytes) (omega (arith, parted.first_within)) (omega (arith, parted.rest_within))

-- parts are still parts when bytes were written over theirs
pub parted_after : (size : ℕ) (first rest first2 rest2 : Fronted) → IsParted size first rest → length first2.bytes ≡ length first.bytes
    → length rest2.bytes ≡ length rest.bytes → first2.reach ≡ first.reach → rest2.reach ≡ rest.reach → IsParted size first2 rest2
parted_after size first rest first2 rest2 parted one two one_reach two_reach = record {
  first_long = one ∙ parted.first_long;
  rest_long = two ∙ parted.rest_long;
  first_within = omega (arith, one, one_reach, parted.first_within);
  rest_within = omega (arith, two, two_reach, parted.rest_within);
}

-- what is reached lies within the parts
pub fits_in : (at n reach size : ℕ) (first rest : Fronted) → IsParted size first rest → reach_of first rest ≡ reach → at + n ≤ reach
    → at + n ≤ length first.bytes + length rest.bytes
fits_in at n reach size first rest parted is within = omega (arith, is, within, reach_within size first rest parted)

-- wholes of one length have first parts of one length
pub same_first : (size size2 : ℕ) (first rest first2 rest2 : Fronted) → IsParted size first rest → IsParted size2 first2 rest2
    → length (first.bytes ++ rest.bytes) ≡ length (first2.bytes ++ rest2.bytes) → length first.bytes ≡ length first2.bytes
same_first size size2 first rest first2 rest2 one two same = omega (
  arith,
  one.first_long,
  one.rest_long,
  two.first_long,
  two.rest_long,
  length-append first.bytes rest.bytes,
  length-append first2.bytes rest2.bytes,
  same,
)
