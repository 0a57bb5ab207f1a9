-- What the bytes that were read at a record's place say.
use Rattle.std.proofs.Common.{◌≡◌, ℕ, ◌+◌, ◌-◌, ◌≤◌, ◌<◌, Bool, true, false, List, ◌++◌, length, take, drop, get_or, min, sym, ap, ◌∙◌}
use Rattle.std.proofs.Common.{inl, inr, arith, length-drop}
use Rattle.std.specs.Prelude.{◌==◌, ◌&&◌, not, nat_le, slice_range, slice_index}
use Rattle.std.proofs.lemmas.Bool.{cases_lt}
use Rattle.std.proofs.lemmas.Bool.Decides.{nat_tests}
use Rattle.std.proofs.lemmas.List.{take-take, take-append-le, drop-append-le, drop-take, drop-drop, length-take-le, get_or_append_left}
use Rattle.std.proofs.lemmas.List.{get_or-take, get_or-drop}
use Rattle.passive_store.specs.declared.records.Header.{Header}
use Rattle.passive_store.specs.Log.{length_of, uid_of, kind_of, are_fields, is_record}
use Rattle.passive_store.specs.Records.{IsHeader}
use Rattle.passive_store.proofs.Parsing.{same_length, same_uid, same_kind}
use Rattle.passive_store.proofs.Tails.{same_part}

-- a buffer of 15 bytes after a read of as many as there are
pub record IsRead (size place : ℕ) (now buffer : List ℕ) : Type 0 where
  pub whole : length now ≡ size
  pub within : place + 1 ≤ size
  pub count : ℕ
  pub least : count ≡ min (size - place) 15
  pub rest : List ℕ
  pub is : buffer ≡ slice_range now place (place + count) ++ rest

-- the first bytes of a disk are as many as that
pub first_bytes : (size whole long : ℕ) (bytes : List ℕ) → size ≤ whole → length bytes ≡ long → long ≡ whole
    → length (take size bytes) ≡ size
first_bytes size whole long bytes within told is = length-take-le size bytes (omega (arith, within, told, is))

-- what is read of the first bytes of a disk stands among them
pub read_within : (size place count : ℕ) (bytes : List ℕ) → place + count ≤ size
    → slice_range bytes place (place + count) ≡ slice_range (take size bytes) place (place + count)
read_within size place count bytes within =
    same_part bytes (take size bytes) size place (place + count) (sym (take-take size size bytes (omega arith))) within

taken : (count place : ℕ) (now : List ℕ) → slice_range now place (place + count) ≡ take count (drop place now)
taken count place now = ap (λ m. take m (drop place now)) (omega arith)

-- the gate is the first byte
pub gate_read : (size place : ℕ) (now buffer : List ℕ) → IsRead size place now buffer → slice_index now place ≡ get_or buffer 0 0
gate_read size place now buffer r =
    let some : 0 < r.count = omega (arith, r.least, r.within) in
    let long : length (take r.count (drop place now)) ≡ r.count = length-take-le r.count (drop place now)
    (omega (arith, r.least, r.whole, length-drop place now)) in
    sym (
    ap (λ b. get_or b 0 0) (r.is ∙ ap (λ l. l ++ r.rest) (taken r.count place now))
    ∙ get_or_append_left (take r.count (drop place now)) r.rest 0 0 (omega (arith, some, long))
    ∙ get_or-take r.count (drop place now) 0 0 some
    ∙ get_or-drop place now 0 0
    ∙ ap (λ n. get_or now n 0) (omega arith))

-- the fields are the 14 bytes behind it, where there are so many
fields_read : (size place : ℕ) (now buffer : List ℕ) → IsRead size place now buffer → 15 ≤ size - place
    → take 14 (drop 1 buffer) ≡ take 14 (drop (place + 1) now)
fields_read size place now buffer r room =
    let all : r.count ≡ 15 = omega (arith, r.least, room) in
    let part : List ℕ = take 15 (drop place now) in
    let long : length part ≡ 15 = length-take-le 15 (drop place now) (omega (arith, room, r.whole, length-drop place now)) in
    ap (λ b. take 14 (drop 1 b)) (r.is ∙ ap (λ l. l ++ r.rest) (taken r.count place now ∙ ap (λ n. take n (drop place now)) all))
    ∙ ap (take 14) (drop-append-le 1 part r.rest (omega (arith, long)))
    ∙ take-append-le 14 (drop 1 part) r.rest (omega (arith, long, length-drop 1 part))
    ∙ ap (take 14) (drop-take 1 14 (drop place now) ∙ ap (take 14) (drop-drop 1 place now))
    ∙ take-take 14 14 (drop (place + 1) now) (omega arith)

pub same_fields : (size place : ℕ) (now buffer : List ℕ) → IsRead size place now buffer → 15 ≤ size - place
    → take 14 (take 14 (drop 1 buffer)) ≡ take 14 (drop (place + 1) now)
same_fields size place now buffer r room = take-take 14 14 (drop 1 buffer) (omega arith) ∙ fields_read size place now buffer r room

-- the test of the fields is that of the record
record_test : (node size place : ℕ) (now buffer : List ℕ) → IsRead size place now buffer → 15 ≤ size - place →
    is_record node (drop (place + 1) now) ≡ (nat_le (14 + length_of (take 14 (drop 1 buffer)) + 1) (size - place - 1) && are_fields node
    (length_of (take 14 (drop 1 buffer))) (uid_of (take 14 (drop 1 buffer))) (kind_of (take 14 (drop 1 buffer))))
record_test node size place now buffer r room =
    let fields : List ℕ = take 14 (drop 1 buffer) in
    let bs : List ℕ = drop (place + 1) now in
    let same : take 14 fields ≡ take 14 bs = same_fields size place now buffer r room in
    let long : length bs ≡ size - place - 1 = omega (arith, r.whole, length-drop (place + 1) now) in
    ap (λ n. nat_le (14 + length_of bs + 1) n && are_fields node (length_of bs) (uid_of bs) (kind_of bs)) long
    ∙ ap (λ n. nat_le (14 + n + 1) (size - place - 1) && are_fields node n (uid_of bs) (kind_of bs)) (sym (same_length fields bs same))
    ∙ ap (λ u. nat_le (14 + length_of fields + 1) (size - place - 1) && are_fields node (length_of fields) u (kind_of bs))
    (sym (same_uid fields bs same))
    ∙ ap (λ k. nat_le (14 + length_of fields + 1) (size - place - 1) && are_fields node (length_of fields) (uid_of fields) k)
    (sym (same_kind fields bs same))

room_by : (len left : ℕ) (b : Bool) → (nat_le (14 + len + 1) left && b) ≡ true → 15 ≤ left
room_by len left b h = grind (arith, nat_tests)

no_room : (len left : ℕ) (b : Bool) → left < 15 → (nat_le (14 + len + 1) left && b) ≡ false
no_room len left b h = grind (arith, nat_tests)

pub header_read : (node size place : ℕ) (now buffer : List ℕ) (h : Header) → IsRead size place now buffer → get_or buffer 0 0 ≡ 225 →
    true ≡ (nat_le (14 + length_of (take 14 (drop 1 buffer)) + 1) (size - place - 1) && are_fields node
    (length_of (take 14 (drop 1 buffer))) (uid_of (take 14 (drop 1 buffer))) (kind_of (take 14 (drop 1 buffer)))) →
    IsHeader h (take 14 (drop 1 buffer)) → (slice_index now place ≡ 225) × (is_record node (drop (place + 1) now) ≡ true)
    × IsHeader h (drop (place + 1) now)
header_read node size place now buffer h r gate test header =
    let fields : List ℕ = take 14 (drop 1 buffer) in
    let bs : List ℕ = drop (place + 1) now in
    let left : 15 ≤ size - place - 1 = room_by (length_of fields) (size - place - 1)
    (are_fields node (length_of fields) (uid_of fields) (kind_of fields)) (sym test) in
    let room : 15 ≤ size - place = omega arith in
    let same : take 14 fields ≡ take 14 bs = same_fields size place now buffer r room in (
      gate_read size place now buffer r ∙ gate,
      record_test node size place now buffer r room ∙ sym test,
      record {
        uid = header.uid ∙ same_uid fields bs same;
        size = header.size ∙ same_length fields bs same;
        removal = header.removal ∙ ap (λ k. not (k == 1)) (same_kind fields bs same);
      },
    )

pub damage_read : (node size place : ℕ) (now buffer : List ℕ) → IsRead size place now buffer → get_or buffer 0 0 ≡ 225 →
    false ≡ (nat_le (14 + length_of (take 14 (drop 1 buffer)) + 1) (size - place - 1) && are_fields node
    (length_of (take 14 (drop 1 buffer))) (uid_of (take 14 (drop 1 buffer))) (kind_of (take 14 (drop 1 buffer)))) →
    (slice_index now place ≡ 225) × (is_record node (drop (place + 1) now) ≡ false)
damage_read node size place now buffer r gate test =
    let bs : List ℕ = drop (place + 1) now in (
      gate_read size place now buffer r ∙ gate,
      elim (cases_lt (length bs) 15) [
        | inl short ↦ no_room (length_of bs) (length bs) (are_fields node (length_of bs) (uid_of bs) (kind_of bs)) short
        | inr long ↦ record_test node size place now buffer r (omega (arith, long, r.whole, length-drop (place + 1) now)) ∙ sym test
      ],
    )
