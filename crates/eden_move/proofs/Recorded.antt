-- What records spell, and what is read of that.
use Rattle.std.proofs.Common.{◌≡◌, ◌≤◌, ◌<◌, ℕ, Bool, true, false, List, [], ◌∷◌, length, Option, None, Some, refl, sym, ◌∙◌, ap, subst}
use Rattle.std.proofs.Common.{arith}
use Rattle.std.specs.Prelude.{nat_lt, nat_le, if◌then◌else◌, ◌&&◌, ◌==◌, pos}
use Rattle.std.proofs.lemmas.Bool.{ltb-true, ltb-false}
use Rattle.std.specs.Bool.{nat_eq}
use Rattle.std.specs.Cmp.Lexicographic.{pointwise}
use Rattle.eden_value.specs.Datum.{Datum, number}
use Rattle.eden_value.specs.Limits.{IsValue, AreValues}
use Rattle.eden_codec.specs.declared.rep.Rep.{Rep}
use Rattle.eden_codec.specs.declared.encode.EncodeRefusal.{EncodeRefusal}
use Rattle.eden_codec.specs.Reading.{reading}
use Rattle.eden_codec.specs.Spells.{SpellsRep}
use Rattle.eden_codec.specs.Form.{IsRep}
use Rattle.eden_codec.proofs.Whole.{spelled_reading, reading_spelled}
use Rattle.eden_codec.proofs.OneSpelling.{spelled_has_form}
use Rattle.capability.specs.declared.TheConstants.{BODY_LIMIT}
use Rattle.std.specs.Prelude.{Result, Ok, Err, IfOk, IfSome}
use Rattle.std.specs.Option.{option_map}
use Rattle.std.specs.declared.alloc.AllocError.{AllocError}
use Rattle.eden_move.specs.declared.record.Record.{Record as Coded}
use Rattle.move_laws.specs.Wander.{Record, Here, Lent, Gone}
use Rattle.eden_move.specs.Records.{record_values, record_rep, record_in, record_of, record_by, record_at, with_value, with_none, in_bounds}
use Rattle.eden_move.specs.Records.{IsRecord, seen_record, record_name}

-- a test of numbers that does not hold
pub not-less : (a b : ℕ) → b ≤ a → nat_lt a b ≡ false
not-less a b le = go (nat_lt a b) refl
  where
    go : (t : Bool) → nat_lt a b ≡ t → t ≡ false
    go true e = let l = ltb-true a b e in absurd (omega (arith, l, le))
    go false e = refl

-- what is short enough is read
pub read-short : (bytes : List ℕ) → length bytes ≤ BODY_LIMIT → record_in bytes ≡ record_of (reading bytes)
read-short bytes le = ap (λ b. if b then None else record_of (reading bytes)) (not-less BODY_LIMIT (length bytes) le)

-- the representation of a record is one
pub rep-form : (r : Record Datum) → IsRecord r → IsRep (record_rep r)
rep-form (Here g v) f = record {
  name = (refl, omega arith, refl);
  version = omega arith;
  count = omega arith;
  values = (tt, (tt, (tt, (f.1, tt))));
}
rep-form (Lent g to v) f = record {
  name = (refl, omega arith, refl);
  version = omega arith;
  count = omega arith;
  values = (tt, (tt, (tt, (f.1, tt))));
}
rep-form (Gone g to) f = record {
  name = (refl, omega arith, refl);
  version = omega arith;
  count = omega arith;
  values = (tt, (tt, (tt, tt)));
}

-- its values say it
values-say : (r : Record Datum) → IsRecord r → record_by (record_values r) ≡ Some r
values-say (Here g v) f = ap (λ b. if b then Some (Here g v) else None) f.0
values-say (Lent g to v) f = ap (λ b. if b then Some (Lent g to v) else None) f.0
values-say (Gone g to) f = ap (λ b. if b then Some (Gone g to) else None) f

rep-says : (r : Record Datum) → IsRecord r → record_of (Some (record_rep r)) ≡ Some r
rep-says r f = values-say r f

-- bytes that spell its representation spell the record
pub spells-record : (r : Record Datum) (body : List ℕ) → IsRecord r → length body ≤ BODY_LIMIT
    → (IsRep (record_rep r) → SpellsRep body (record_rep r))
    → record_in body ≡ Some r
spells-record r body f le spells = read-short body le
    ∙ ap record_of (spelled_reading body (record_rep r) (spells (rep-form r f))) ∙ rep-says r f

-- 2. What is read

-- what is not too long is short enough
pub not-long : (n : ℕ) → (BODY_LIMIT < n → ⊥) → n ≤ BODY_LIMIT
not-long n never = go (nat_lt BODY_LIMIT n) refl
  where
    go : (b : Bool) → nat_lt BODY_LIMIT n ≡ b → n ≤ BODY_LIMIT
    go true e = absurd (never (ltb-true BODY_LIMIT n e))
    go false e = ltb-false BODY_LIMIT n e

map-ok : {A E : Type 0} {P Q : A → Type 0} (r : Result A E) → ((a : A) → P a → Q a) → IfOk r P → IfOk r Q
map-ok (Ok a) f p = f a p
map-ok (Err e) f p = tt

-- the record of a representation that the bytes spell
pub read-spelled : (bytes : List ℕ) (rep : Rep) (result : Result (Option Coded) AllocError) → length bytes ≤ BODY_LIMIT
    → SpellsRep bytes rep
    → IfOk result (λ found. option_map seen_record found ≡ record_of (Some rep))
    → IfOk result (λ found. option_map seen_record found ≡ record_in bytes)
read-spelled bytes rep result le spells is = map-ok result
    (λ found e. e ∙ ap record_of (sym (spelled_reading bytes rep spells)) ∙ sym (read-short bytes le)) is

-- bytes that spell no representation
pub none-spelled : (bytes : List ℕ) → ((r : Rep) → SpellsRep bytes r → ⊥) → None ≡ record_in bytes
none-spelled bytes never = go (nat_lt BODY_LIMIT (length bytes)) (reading bytes) refl
  where
    go : (b : Bool) (o : Option Rep) → reading bytes ≡ o → None ≡ (if b then None else record_of o)
    go true o e = refl
    go false None e = refl
    go false (Some r) e = absurd (never r (reading_spelled bytes r e))

-- what is too long spells none
pub none-long : (bytes : List ℕ) → BODY_LIMIT < length bytes → None ≡ record_in bytes
none-long bytes less = go (nat_lt BODY_LIMIT (length bytes)) refl
  where
    go : (b : Bool) → nat_lt BODY_LIMIT (length bytes) ≡ b → None ≡ (if b then None else record_of (reading bytes))
    go true e = refl
    go false e = let l = ltb-false BODY_LIMIT (length bytes) e in absurd (omega (arith, l, less))

both-true : (a b : Bool) → (a && b) ≡ true → (a ≡ true) × (b ≡ true)
both-true true b e = (refl, e)
both-true false b e = absurd (cc e)

-- a generation within its bounds is one without another node
at-none : (g other : ℕ) → in_bounds g other ≡ true → in_bounds g 0 ≡ true
at-none g other bounds =
    let p = both-true (nat_le 1 g) (nat_le g 4294967295 && nat_le other 8) bounds in
    let q = both-true (nat_le g 4294967295) (nat_le other 8) p.1 in
    ap (λ b. b && (nat_le g 4294967295 && true)) p.0 ∙ ap (λ b. b && true) q.0

-- what values say is a record, where they are values
one-says : (f : Datum → Record Datum) (vs : List Datum) (r : Record Datum) → AreValues 4 vs → ((v : Datum) → IsValue 4 v → IsRecord (f v))
    → with_value f vs ≡ Some r → IsRecord r
one-says f [] r are fits e = absurd (cc e)
one-says f (v ∷ []) r are fits e = let same : f v ≡ r = cc e in subst IsRecord same (fits v are.0)
one-says f (v ∷ w ∷ vs) r are fits e = absurd (cc e)

none-says : (s : Record Datum) (vs : List Datum) (r : Record Datum) → IsRecord s → with_none s vs ≡ Some r → IsRecord r
none-says s [] r fits e = let same : s ≡ r = cc e in subst IsRecord same fits
none-says s (v ∷ vs) r fits e = absurd (cc e)

state-says : (state g other : ℕ) (vs : List Datum) (r : Record Datum) → in_bounds g other ≡ true → AreValues 4 vs
    → record_at state g other vs ≡ Some r
    → IsRecord r
state-says state g other vs r bounds are e = go (state == 0) (state == 1) (state == 2) e
  where
    go : (a b c : Bool) → (if a then with_value (Here g) vs
        else (if b then with_value (Lent g other) vs else (if c then with_none (Gone g other) vs else None))) ≡ Some r → IsRecord r
    go true b c e = one-says (Here g) vs r are (λ v is. (at-none g other bounds, is)) e
    go false true c e = one-says (Lent g other) vs r are (λ v is. (bounds, is)) e
    go false false true e = none-says (Gone g other) vs r bounds e
    go false false false e = absurd (cc e)

values-fit : (vs : List Datum) (r : Record Datum) → AreValues 4 vs → record_by vs ≡ Some r → IsRecord r
values-fit (number (pos s) ∷ number (pos g) ∷ number (pos o) ∷ vs) r are e = go (in_bounds g o) refl e
  where
    go : (b : Bool) → in_bounds g o ≡ b → (if b then record_at s g o vs else None) ≡ Some r → IsRecord r
    go true is e = state-says s g o vs r is are.1.1.1 e
    go false is e = absurd (cc e)
values-fit vs r are e = absurd (cc e)

rep-fits : (rep : Rep) (r : Record Datum) → IsRep rep → record_of (Some rep) ≡ Some r → IsRecord r
rep-fits rep r is e = go (pointwise nat_eq rep.type_name record_name && rep.version == 1) e
  where
    go : (b : Bool) → (if b then record_by rep.values else None) ≡ Some r → IsRecord r
    go true e = values-fit rep.values r is.values e
    go false e = absurd (cc e)

-- what was read of a representation is a record
pub read-fits : (rep : Rep) (result : Result (Option Coded) AllocError) → IsRep rep
    → IfOk result (λ found. option_map seen_record found ≡ record_of (Some rep))
    → IfOk result (λ found. IfSome found (λ r. IsRecord (seen_record r)))
read-fits rep result is = map-ok result (λ found e. go found e)
  where
    go : (found : Option Coded) → option_map seen_record found ≡ record_of (Some rep) → IfSome found (λ r. IsRecord (seen_record r))
    go None e = tt
    go (Some r) e = rep-fits rep (seen_record r) is (sym e)

-- what bytes spell is a record
pub record-fits : (body : List ℕ) (r : Record Datum) → record_in body ≡ Some r → IsRecord r
record-fits body r e = go (nat_lt BODY_LIMIT (length body)) (reading body) refl e
  where
    go : (b : Bool) (o : Option Rep) → reading body ≡ o → (if b then None else record_of o) ≡ Some r → IsRecord r
    go true o is e = absurd (cc e)
    go false None is e = absurd (cc e)
    go false (Some rep) is e = rep-fits rep r (spelled_has_form body rep (reading_spelled body rep is)).0 e

-- what was encoded of a record spells it
pub spells-both : (result : Result (List ℕ) EncodeRefusal) (r : Record Datum) (rep : Rep) → rep ≡ record_rep r → IsRecord r
    → (IsRep rep → IfOk result (λ body. SpellsRep body rep)) → IfOk result (λ body. length body ≤ BODY_LIMIT)
    → IfOk result (λ body. record_in body ≡ Some r)
spells-both (Ok body) r rep is fits spells le =
    spells-record r body fits le (λ form. subst (SpellsRep body) is (spells (subst IsRep (sym is) form)))
spells-both (Err e) r rep is fits spells le = tt
