-- The bytes of a record say what they were made of.
use Rattle.std.proofs.Common.{◌≡◌, ◌⊎◌, ℕ, ◌+◌, ◌≤◌, ◌<◌, ◌^◌, Bool, true, false, List, [], ◌∷◌, ◌++◌, length, take, refl, sym, ap}
use Rattle.std.proofs.Common.{subst, ◌∙◌, inl, inr, arith, length-append}
use Rattle.std.specs.Prelude.{◌==◌, ◌&&◌, ◌||◌, not, nat_le, None, Some, slice_range}
use Rattle.std.specs.Int.{w32, from_be_bytes, to_be_bytes}
use Rattle.std.proofs.lemmas.Nat.{from_be_bytes-to_be_bytes_4}
use Rattle.std.proofs.lemmas.Bool.{false≢true}
use Rattle.std.proofs.lemmas.Bool.Decides.{nat_tests}
use Rattle.std.proofs.lemmas.List.{take_at}
use Rattle.passive_store.specs.LogLayout.{spelled_record}
use Rattle.passive_store.specs.LogState.{IsRecordOf}
use Rattle.capability.specs.declared.Uid.{Uid}
use Rattle.passive_store.specs.Kept.{IsOwn, IsEject}
use Rattle.passive_store.specs.Log.{length_of, uid_of, log_grows, are_fields, SpellsRecord}

abbrev spelled_value : ℕ → Uid → ℕ → List ℕ → List ℕ
spelled_value node uid n body = spelled_record node uid 1 n body

length_is : (node n : ℕ) (uid : Uid) (body tail : List ℕ) → n < 2 ^ 32 → length_of (spelled_value node uid n body ++ tail) ≡ n
length_is node n uid body tail fits = from_be_bytes-to_be_bytes_4 n fits

uid_is : (node n : ℕ) (uid : Uid) (body tail : List ℕ) → uid.node ≡ node → uid.epoch < 2 ^ 32 → uid.serial < 2 ^ 32
    → uid_of (spelled_value node uid n body ++ tail) ≡ uid
uid_is node n uid body tail own e s =
    ap (λ x. record { node = node; epoch = x; serial = from_be_bytes w32 (to_be_bytes w32 uid.serial) })
    (from_be_bytes-to_be_bytes_4 uid.epoch e)
    ∙ ap (λ x. record { node = node; epoch = uid.epoch; serial = x }) (from_be_bytes-to_be_bytes_4 uid.serial s)
    ∙ ap (λ x. record { node = x; epoch = uid.epoch; serial = uid.serial }) (sym own)

tests : (node epoch serial unode n long : ℕ) → 14 + n + 1 ≤ long → n ≤ 262144 → unode ≡ node
    → ((1 ≤ epoch) × (1 ≤ serial)) ⊎ ((epoch ≡ 0) × (serial ≡ 0) × (n ≡ 4)) →
    (nat_le (14 + n + 1) long && (nat_le n 262144 && (1 == 1 || (1 == 2 && n == 0)) && unode == node &&
    ((epoch == 0 && serial == 0 && 1 == 1 && n == 4) || (not (epoch == 0) && not (serial == 0))))) ≡ true
tests node epoch serial unode n long fits limit own (inl positive) = grind (arith, nat_tests)
tests node epoch serial unode n long fits limit own (inr reserved) = grind (arith, nat_tests)

pub body_is : (node n : ℕ) (uid : Uid) (body : List ℕ) (gate : ℕ) (rest : List ℕ) → length body ≡ n
    → slice_range (spelled_value node uid n body ++ gate ∷ rest) 14 (14 + n) ≡ body
body_is node n uid body gate rest size = ap (λ m. take m (body ++ gate ∷ rest)) (omega arith) ∙ take_at body (gate ∷ rest) n size

-- A value's bytes are its spelling.
pub spells_value : (node n : ℕ) (uid : Uid) (body : List ℕ) → length body ≡ n → n ≤ 262144 → uid.epoch < 2 ^ 32 → uid.serial < 2 ^ 32
    → IsOwn node uid n → SpellsRecord node (spelled_value node uid n body) uid (Some body)
spells_value node n uid body size limit e s own =
    let fits : n < 2 ^ 32 = omega arith in
    let test : ℕ → Uid → ℕ → Bool = λ l u long. nat_le (14 + l + 1) long && are_fields node l u 1 in
    record {
      whole = λ gate rest.
          let bs : List ℕ = spelled_value node uid n body ++ gate ∷ rest in
          ap (λ l. test l (uid_of bs) (length bs)) (length_is node n uid body (gate ∷ rest) fits)
          ∙ ap (λ u. test n u (length bs)) (uid_is node n uid body (gate ∷ rest) own.0 e s)
          ∙ tests node uid.epoch uid.serial uid.node n (length bs)
          (omega (arith, length-append body (gate ∷ rest), size)) limit own.0 own.1;
      size = λ gate rest. ap (λ l. 14 + l) (length_is node n uid body (gate ∷ rest) fits) ∙ omega (arith, size);
      reads = λ place gate rest.
          let bs : List ℕ = spelled_value node uid n body ++ gate ∷ rest in
          ap (λ l. record {
            uid = uid_of bs;
            body = Some (slice_range bs 14 (14 + l));
            mark = place;
            wrote = log_grows (Some (slice_range bs 14 (14 + l)));
          }) (length_is node n uid body (gate ∷ rest) fits)
          ∙ ap (λ u. record {
            uid = u;
            body = Some (slice_range bs 14 (14 + n));
            mark = place;
            wrote = log_grows (Some (slice_range bs 14 (14 + n)));
          }) (uid_is node n uid body (gate ∷ rest) own.0 e s)
          ∙ ap (λ b. record { uid = uid; body = Some b; mark = place; wrote = log_grows (Some b) })
          (body_is node n uid body gate rest size);
    }

-- A removal's bytes are its spelling.
removal_tests : (node epoch serial unode long : ℕ) → 15 ≤ long → unode ≡ node → 1 ≤ epoch → 1 ≤ serial →
    (nat_le (14 + 0 + 1) long && (nat_le 0 262144 && (2 == 1 || (2 == 2 && 0 == 0)) && unode == node &&
    ((epoch == 0 && serial == 0 && 2 == 1 && 0 == 4) || (not (epoch == 0) && not (serial == 0))))) ≡ true
removal_tests node epoch serial unode long fits own e s = grind (arith, nat_tests)

removal_uid : (node : ℕ) (uid : Uid) (tail : List ℕ) → uid.node ≡ node → uid.epoch < 2 ^ 32 → uid.serial < 2 ^ 32
    → uid_of (spelled_record node uid 2 0 [] ++ tail) ≡ uid
removal_uid node uid tail own e s =
    ap (λ x. record { node = node; epoch = x; serial = from_be_bytes w32 (to_be_bytes w32 uid.serial) })
    (from_be_bytes-to_be_bytes_4 uid.epoch e)
    ∙ ap (λ x. record { node = node; epoch = uid.epoch; serial = x }) (from_be_bytes-to_be_bytes_4 uid.serial s)
    ∙ ap (λ x. record { node = x; epoch = uid.epoch; serial = uid.serial }) (sym own)

pub spells_removal : (node : ℕ) (uid : Uid) → uid.epoch < 2 ^ 32 → uid.serial < 2 ^ 32 → IsEject node uid
    → SpellsRecord node (spelled_record node uid 2 0 []) uid None
spells_removal node uid e s own =
    let test : Uid → ℕ → Bool = λ u long. nat_le (14 + 0 + 1) long && are_fields node 0 u 2 in
    record {
      whole = λ gate rest.
          ap (λ u. test u (length (spelled_record node uid 2 0 [] ++ gate ∷ rest))) (removal_uid node uid (gate ∷ rest) own.0 e s)
          ∙ removal_tests node uid.epoch uid.serial uid.node (length (spelled_record node uid 2 0 [] ++ gate ∷ rest))
          (omega arith) own.0 own.1 own.2;
      size = λ gate rest. refl;
      reads = λ place gate rest. ap (λ u. record { uid = u; body = None; mark = place; wrote = log_grows (None) })
          (removal_uid node uid (gate ∷ rest) own.0 e s);
    }

pub record_of_removal : (node : ℕ) (uid : Uid) (items : List ℕ) → uid.epoch < 2 ^ 32 → uid.serial < 2 ^ 32 → IsEject node uid
    → items ≡ spelled_record node uid 2 0 [] ++ 0 ∷ [] → IsRecordOf node items uid true 0
record_of_removal node uid items e s own is =
    record { bytes = spelled_record node uid 2 0 []; is = is; spells = spells_removal node uid e s own; long = refl; empty = λ so. refl }

pub record_of_value : (node n : ℕ) (uid : Uid) (body items : List ℕ) → length body ≡ n → n ≤ 262144 → uid.epoch < 2 ^ 32
    → uid.serial < 2 ^ 32 → IsOwn node uid n → items ≡ spelled_value node uid n body ++ 0 ∷ [] → IsRecordOf node items uid false n
record_of_value node n uid body items size limit e s own is =
    let part : slice_range items 14 (14 + n) ≡ body = ap (λ l. slice_range l 14 (14 + n)) is ∙ body_is node n uid body 0 [] size in
    record {
      bytes = spelled_value node uid n body;
      is = is;
      spells = subst (λ b. SpellsRecord node (spelled_value node uid n body) uid (Some b)) (sym part)
          (spells_value node n uid body size limit e s own);
      long = omega (arith, size);
      empty = λ so. absurd (false≢true so);
    }
