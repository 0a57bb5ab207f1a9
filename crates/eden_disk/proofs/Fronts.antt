-- Laws of the definitions of specs/Fronts.
use Rattle.std.specs.Prelude.{◌≡◌, ℕ, ◌+◌, ◌-◌, ◌≤◌, ◌<◌, min, List, ◌++◌, length, drop, replicate, slice_range}
use Rattle.std.proofs.Common.{get_or, refl, sym, ap, ◌∙◌, inl, inr, arith, length-append}
use Rattle.std.proofs.lemmas.Bool.{cases_lt}
use Rattle.std.proofs.lemmas.List.{ext_get_or, get_or_append_left, get_or-append_right, get_or-replicate, get_or_past, length-replicate}
use Rattle.std.proofs.lemmas.List.{take_all, take_at, length-take-le, length-drop}
use Rattle.std.proofs.lemmas.List.Edits.{get_or-between, length-between}
use Rattle.std.proofs.lemmas.Slice.{take-put_mid}
use borrow.Rule.Slice.PartMut.{put_mid, mid_of, same_len_mid}
use Rattle.eden_disk.specs.SimDisk.{zeros}
use Rattle.eden_disk.specs.Told.{overlay}
use Rattle.eden_disk.specs.Fronts.{with_zeros}
use Rattle.eden_disk.proofs.Overlay.{length-overlay, overlay_outside, overlay_inside}
use Rattle.eden_disk.proofs.SimDiskLaws.{zeros_are, length-zeros}

abbrev blank : ℕ → List ℕ
blank n = replicate n 0

length-blank : (n : ℕ) → length (blank n) ≡ n
length-blank n = length-replicate {A = ℕ} n 0

zero_at : (n k : ℕ) → get_or (blank n) k 0 ≡ 0
zero_at n k = elim (cases_lt k n) [
  | inl below ↦ get_or-replicate n k 0 0 below
  | inr past ↦ get_or_past (blank n) k 0 (omega (arith, past, length-blank n))
]

-- zeros behind a list change no place of it
zeros_behind : (held : List ℕ) (n k : ℕ) → get_or (held ++ blank n) k 0 ≡ get_or held k 0
zeros_behind held n k = elim (cases_lt k (length held)) [
  | inl below ↦ get_or_append_left held (blank n) 0 k below
  | inr past ↦ get_or-append_right held (blank n) (length held) k 0 refl past ∙ zero_at n (k - length held)
      ∙ sym (get_or_past held k 0 past)
]

pub with_zeros_at : (held : List ℕ) (size k : ℕ) → get_or (with_zeros held size) k 0 ≡ get_or held k 0
with_zeros_at held size k =
    ap (λ z. get_or (held ++ z) k 0) (zeros_are (size - length held)) ∙ zeros_behind held (size - length held) k

pub length-with_zeros : (held : List ℕ) (size : ℕ) → length held ≤ size → length (with_zeros held size) ≡ size
length-with_zeros held size fits = omega
    (arith, fits, length-append held (zeros (size - length held)), length-zeros (size - length held))

-- memory holds all
pub all_held : (held : List ℕ) (size : ℕ) → size ≡ length held → with_zeros held size ≡ held
all_held held size whole = ext_get_or 0 (with_zeros held size) held
    (length-with_zeros held size (omega (arith, whole)) ∙ whole) (λ k h. with_zeros_at held size k)

-- memory is filled up with zeros
pub padded : (held new : List ℕ) (n size : ℕ) → new ≡ held ++ blank n → length held + n ≤ size → with_zeros new size ≡ with_zeros held size
padded held new n size is fits =
    let long : length new ≡ length held + n = ap length is ∙ length-append held (blank n) ∙ omega (arith, length-blank n) in
    ext_get_or 0 (with_zeros new size) (with_zeros held size)
    (length-with_zeros new size (omega (arith, long, fits)) ∙ sym (length-with_zeros held size (omega (arith, fits))))
    (λ k h. with_zeros_at new size k ∙ ap (λ l. get_or l k 0) is ∙ zeros_behind held n k ∙ sym (with_zeros_at held size k))

length-piece : (held : List ℕ) (size at n : ℕ) → length held ≤ at → at + n ≤ size
    → length (slice_range (with_zeros held size) at (at + n)) ≡ n
length-piece held size at n past fits =
    length-between (with_zeros held size) at (at + n) (omega (arith, fits, length-with_zeros held size (omega (arith, past, fits))))
    ∙ omega arith

-- zeros that are written behind what memory holds change nothing
pub zeros_written : (held bytes : List ℕ) (size at : ℕ) → length held ≤ at → at + length bytes ≤ size
    → ((k : ℕ) → get_or bytes k 0 ≡ 0) → overlay at bytes (with_zeros held size) ≡ with_zeros held size
zeros_written held bytes size at past fits blank_bytes =
    let all : List ℕ = with_zeros held size in
    let long : length all ≡ size = length-with_zeros held size (omega (arith, past, fits)) in
    let room : at + length bytes ≤ length all = omega (arith, fits, long) in
    ext_get_or 0 (overlay at bytes all) all (length-overlay at bytes all room) (λ k h. elim (cases_lt k at) [
      | inl front ↦ overlay_outside at k bytes all room (inl front)
      | inr from ↦ elim (cases_lt k (at + length bytes)) [
        | inl inside ↦ overlay_inside at k bytes all room from inside ∙ blank_bytes (k - at)
            ∙ sym (with_zeros_at held size k ∙ get_or_past held k 0 (omega (arith, past, from)))
        | inr behind ↦ overlay_outside at k bytes all room (inr behind)
      ]
    ])

-- no byte of zeros is another
pub zero_of : (bytes : List ℕ) (k : ℕ) → bytes ≡ blank (length bytes) → get_or bytes k 0 ≡ 0
zero_of bytes k is = ap (λ l. get_or l k 0) is ∙ zero_at (length bytes) k

-- what is read behind what memory holds is zeros
pub zeros_read : (held : List ℕ) (size at n k : ℕ) → length held ≤ at → at + n ≤ size
    → get_or (slice_range (with_zeros held size) at (at + n)) k 0 ≡ 0
zeros_read held size at n k past fits = elim (cases_lt k n) [
  | inl below ↦ get_or-between (with_zeros held size) at (at + n) k 0 (omega (arith, below)) ∙ with_zeros_at held size (at + k)
      ∙ get_or_past held (at + k) 0 (omega (arith, past))
  | inr behind ↦ get_or_past (slice_range (with_zeros held size) at (at + n)) k 0
      (omega (arith, behind, length-piece held size at n past fits))
]

-- a piece of another image changes nothing where memory holds nothing of either there
pub piece_copied : (held other all others : List ℕ) (size other_size at n : ℕ) → with_zeros held size ≡ all
    → with_zeros other other_size ≡ others
    → length held ≤ at → length other ≤ at → at + n ≤ size → at + n ≤ other_size → all ≡ overlay at (slice_range others at (at + n)) all
piece_copied held other all others size other_size at n is other_is past other_past fits other_fits =
    let from : List ℕ = with_zeros other other_size in
    let piece : List ℕ = slice_range from at (at + n) in
    sym is
    ∙ sym (zeros_written held piece size at past (omega (arith, fits, length-piece other other_size at n other_past other_fits))
    (λ k. zeros_read other other_size at n k other_past other_fits))
    ∙ ap (λ l. overlay at piece l) is ∙ ap (λ l. overlay at (slice_range l at (at + n)) all) other_is

-- a piece, read out of what memory holds, and zeros behind it
pub read_held : (held : List ℕ) (size at n from until : ℕ) → from ≡ min (length held) at → until ≡ min (length held) (at + n)
    → at + n ≤ size → length held ≤ size
    → slice_range held from until ++ blank (n - (until - from)) ≡ slice_range (with_zeros held size) at (at + n)
read_held held size at n from until begin end fits room =
    let piece : List ℕ = slice_range held from until in
    let all : List ℕ = with_zeros held size in
    let len : length piece ≡ until - from = length-between held from until (omega (arith, end)) in
    let len_all : length (slice_range all at (at + n)) ≡ n =
    length-between all at (at + n) (omega (arith, fits, length-with_zeros held size room)) ∙ omega arith in
    let len_read : length (piece ++ blank (n - (until - from))) ≡ n = omega
    (arith, begin, end, len, length-append piece (blank (n - (until - from))), length-blank (n - (until - from))) in
    ext_get_or 0 (piece ++ blank (n - (until - from))) (slice_range all at (at + n)) (len_read ∙ sym len_all) (λ k h.
    let below : k < n = omega (arith, h, len_read) in
    let there : get_or (slice_range all at (at + n)) k 0 ≡ get_or held (at + k) 0 =
    get_or-between all at (at + n) k 0 (omega (arith, below)) ∙ with_zeros_at held size (at + k) in
    elim (cases_lt k (until - from)) [
      | inl inside ↦
          get_or_append_left piece (blank (n - (until - from))) 0 k (omega (arith, inside, len))
          ∙ get_or-between held from until k 0 (omega (arith, inside))
          ∙ ap (λ j. get_or held (j + k) 0) (omega (arith, begin, end, inside)) ∙ sym there
      | inr past ↦
          get_or-append_right piece (blank (n - (until - from))) (until - from) k 0 len past
          ∙ zero_at (n - (until - from)) (k - (until - from))
          ∙ sym (there ∙ get_or_past held (at + k) 0 (omega (arith, begin, end, past, below)))
    ])

-- a part is written, and the rest behind it
pub filled : (h : ℕ) (front out rest : List ℕ) → length front ≡ h → h ≤ length out → rest ≡ blank (length out - h)
    → put_mid h (length (front ++ drop h out) - h) (front ++ drop h out) rest ≡ front ++ blank (length out - h)
filled h front out rest len fits is =
    let half : List ℕ = front ++ drop h out in
    let len_half : length half ≡ length out = omega (arith, len, fits, length-append front (drop h out), length-drop h out) in
    let len_rest : length rest ≡ length out - h = ap length is ∙ length-blank (length out - h) in
    let len_mid : length (mid_of h (length half - h) half) ≡ length half - h =
    length-take-le (length half - h) (drop h half) (omega (arith, length-drop h half)) in
    let len_all : length (put_mid h (length half - h) half rest) ≡ length half =
    same_len_mid h (length half - h) half rest (len_rest ∙ omega (arith, len_half) ∙ sym len_mid) in
    sym (take_all (length half) (put_mid h (length half - h) half rest) (omega (arith, len_all)))
    ∙ take-put_mid h (length half - h) half rest (length half) (omega (arith, len_half, len_rest, fits)) (omega (arith, len_half, fits))
    ∙ ap (λ l. l ++ rest) (take_at front (drop h out) h len) ∙ ap (λ l. front ++ l) is
