-- A record that is read is the spelling of what it says, wherever it stands: it depends on its own bytes alone.
use Rattle.std.proofs.Common.{◌≡◌, ℕ, ◌+◌, ◌≤◌, true, List, ◌∷◌, ◌++◌, length, take, sym, ap, ◌∙◌, arith, length-append}
use Rattle.std.specs.Prelude.{◌==◌, Option, None, Some, slice_range, slice_index, if◌then◌else◌}
use Rattle.std.specs.Int.{w32, from_be_bytes}
use Rattle.std.proofs.lemmas.Bool.Decides.{nat_tests}
use Rattle.std.proofs.lemmas.List.{take-take, take-append-le, length-take-le}
use Rattle.passive_store.specs.Log.{length_of, uid_of, kind_of, body_of, log_grows, are_fields, is_record, SpellsRecord}
use Rattle.capability.specs.declared.Uid.{Uid}
use Rattle.passive_store.specs.Kept.{StoreChange}
use Rattle.passive_store.proofs.Tails.{same_below, same_part}

pub same_length : (xs ys : List ℕ) → take 14 xs ≡ take 14 ys → length_of xs ≡ length_of ys
same_length xs ys e = ap (from_be_bytes w32) (sym (take-take 4 14 xs (omega arith)) ∙ ap (take 4) e ∙ take-take 4 14 ys (omega arith))

pub same_uid : (xs ys : List ℕ) → take 14 xs ≡ take 14 ys → uid_of xs ≡ uid_of ys
same_uid xs ys e =
    ap (λ n. record { node = n; epoch = from_be_bytes w32 (slice_range xs 5 9); serial = from_be_bytes w32 (slice_range xs 9 13) })
    (same_below xs ys 14 4 e (omega arith))
    ∙ ap (λ b. record { node = slice_index ys 4; epoch = from_be_bytes w32 b; serial = from_be_bytes w32 (slice_range xs 9 13) })
    (same_part xs ys 14 5 9 e (omega arith))
    ∙ ap (λ b. record { node = slice_index ys 4; epoch = from_be_bytes w32 (slice_range ys 5 9); serial = from_be_bytes w32 b })
    (same_part xs ys 14 9 13 e (omega arith))

pub same_kind : (xs ys : List ℕ) → take 14 xs ≡ take 14 ys → kind_of xs ≡ kind_of ys
same_kind xs ys e = same_below xs ys 14 13 e (omega arith)

-- the test of a record is that it fits, and a test of its fields
pub split_test : (node : ℕ) (bs : List ℕ) → is_record node bs ≡ true → (14 + length_of bs + 1 ≤ length bs)
    × (are_fields node (length_of bs) (uid_of bs) (kind_of bs) ≡ true)
split_test node bs h = grind (arith, nat_tests)

join_test : (node : ℕ) (bs : List ℕ) → 14 + length_of bs + 1 ≤ length bs → are_fields node (length_of bs) (uid_of bs) (kind_of bs) ≡ true
    → is_record node bs ≡ true
join_test node bs fits h = grind (arith, nat_tests)

pub parsed : (node : ℕ) (bs : List ℕ) → is_record node bs ≡ true → SpellsRecord node (take (14 + length_of bs) bs) (uid_of bs) (body_of bs)
parsed node bs h =
    let t = split_test node bs h in
    let long : length (take (14 + length_of bs) bs) ≡ 14 + length_of bs = length-take-le (14 + length_of bs) bs (omega (arith, t.0)) in
    let same : (gate : ℕ) (rest : List ℕ) → take (14 + length_of bs) (take (14 + length_of bs) bs ++ gate ∷ rest) ≡ take
    (14 + length_of bs) bs = λ gate rest. take-append-le (14 + length_of bs) (take (14 + length_of bs) bs) (gate ∷ rest)
    (omega (arith, long)) ∙ take-take (14 + length_of bs) (14 + length_of bs) bs (omega arith) in
    let head : (gate : ℕ) (rest : List ℕ) → take 14 (take (14 + length_of bs) bs ++ gate ∷ rest) ≡ take 14 bs = λ gate rest. sym
    (take-take 14 (14 + length_of bs) (take (14 + length_of bs) bs ++ gate ∷ rest) (omega arith)) ∙ ap (take 14) (same gate rest)
    ∙ take-take 14 (14 + length_of bs) bs (omega arith) in
    record {
      whole = λ gate rest.
          let ys : List ℕ = take (14 + length_of bs) bs ++ gate ∷ rest in
          join_test node ys (omega (
            arith,
            same_length ys bs (head gate rest),
            length-append (take (14 + length_of bs) bs) (gate ∷ rest),
            long,
          ))
          (ap (λ l. are_fields node l (uid_of ys) (kind_of ys)) (same_length ys bs (head gate rest)) ∙ ap
          (λ u. are_fields node (length_of bs) u (kind_of ys)) (same_uid ys bs (head gate rest)) ∙ ap
          (are_fields node (length_of bs) (uid_of bs)) (same_kind ys bs (head gate rest)) ∙ t.1);
      size = λ gate rest. ap (λ l. 14 + l) (same_length (take (14 + length_of bs) bs ++ gate ∷ rest) bs (head gate rest)) ∙ sym long;
      reads = λ place gate rest.
          let ys : List ℕ = take (14 + length_of bs) bs ++ gate ∷ rest in
          let part : slice_range ys 14 (14 + length_of bs) ≡ slice_range bs 14 (14 + length_of bs) = same_part ys bs
          (14 + length_of bs) 14 (14 + length_of bs) (same gate rest) (omega arith) in
          let of_body : Uid → Option (List ℕ) → StoreChange = λ u b. record { uid = u; body = b; mark = place; wrote = log_grows b } in
          ap (λ u. of_body u (body_of ys)) (same_uid ys bs (head gate rest))
          ∙ ap (λ k. of_body (uid_of bs) (if k == 1 then Some (slice_range ys 14 (14 + length_of ys)) else None))
          (same_kind ys bs (head gate rest))
          ∙ ap (λ l. of_body (uid_of bs) (if kind_of bs == 1 then Some (slice_range ys 14 (14 + l)) else None))
          (same_length ys bs (head gate rest))
          ∙ ap (λ b. of_body (uid_of bs) (if kind_of bs == 1 then Some b else None)) part;
    }
