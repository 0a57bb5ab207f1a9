-- What a native type keeps is read back, where its values are within the limits.
use Rattle.std.proofs.Common.{◌≡◌, ◌≤◌, suc, Bool, true, false, cond, List, [], ◌∷◌, length, Some, refl, arith}
use Rattle.eden_value.specs.Datum.{Datum}
use Rattle.eden_value.specs.Limits.{AreValues}
use Rattle.eden_value.specs.Range.{AllInRange}
use Rattle.eden_codec.specs.Form.{IsName}
use Rattle.eden_codec.specs.Reading.{reading}
use Rattle.eden_codec.specs.Spelling.{spelling}
use Rattle.eden_codec.proofs.OneSpelling.{spelled}
use Rattle.eden_codec.proofs.Whole.{spelled_reading}
use Rattle.epl_syntax.specs.declared.types.Native.{Native}
use Rattle.epl_syntax.specs.declared.types.Native.TheVariants as native
use Rattle.epl_syntax.specs.Edentype.{native as of_native}
use Rattle.epl_syntax.specs.Outline.{Slot, only_kept}
use Rattle.epl_syntax.specs.Natives.{native_outline}
use Rattle.epl_syntax.specs.Meaning.{rep_of, durable_of, name_of}

few-kept : (slots : List Slot) (vars : List Datum) → length (only_kept slots vars) ≤ length slots
few-kept [] vars = omega arith
few-kept (v ∷ slots) [] = omega arith
few-kept (v ∷ slots) (d ∷ vars) = go v.durable (few-kept slots vars)
  where
    go : (b : Bool) → length (only_kept slots vars) ≤ length slots
        → length (cond b (d ∷ only_kept slots vars) (only_kept slots vars)) ≤ suc (length slots)
    go true h = omega (arith, h)
    go false h = omega (arith, h)

few-slots : (n : Native) → length (native_outline n).slots ≤ 64
few-slots native.Cell = omega arith
few-slots native.Directory = omega arith
few-slots native.Lines = omega arith
few-slots native.Take = omega arith
few-slots native.Skip = omega arith
few-slots native.Only = omega arith
few-slots native.Number = omega arith
few-slots native.Sink = omega arith

names : (n : Native) → IsName (name_of (of_native n))
names native.Cell = (refl, omega arith, refl)
names native.Directory = (refl, omega arith, refl)
names native.Lines = (refl, omega arith, refl)
names native.Take = (refl, omega arith, refl)
names native.Skip = (refl, omega arith, refl)
names native.Only = (refl, omega arith, refl)
names native.Number = (refl, omega arith, refl)
names native.Sink = (refl, omega arith, refl)

version-one : (n : Native) → (rep_of (of_native n) []).version ≡ 1
version-one native.Cell = refl
version-one native.Directory = refl
version-one native.Lines = refl
version-one native.Take = refl
version-one native.Skip = refl
version-one native.Only = refl
version-one native.Number = refl
version-one native.Sink = refl

pub reads-back : (n : Native) (vars : List Datum) → AreValues 4 (durable_of (of_native n) vars) → AllInRange (durable_of (of_native n) vars)
    → reading (spelling (rep_of (of_native n) vars)) ≡ Some (rep_of (of_native n) vars)
reads-back n vars values in_range = spelled_reading (spelling (rep_of (of_native n) vars)) (rep_of (of_native n) vars)
    (spelled (rep_of (of_native n) vars)
    (record {
      name = names n;
      version = omega (arith, version-one n);
      count = omega (arith, few-kept (native_outline n).slots vars, few-slots n);
      values = values;
    })
    (record { version = omega (arith, version-one n); values = in_range }))
