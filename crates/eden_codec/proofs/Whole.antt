-- The reader of representations is exact for their grammar.
use Rattle.std.specs.Prelude.{◌≡◌, ℕ, suc, ◌-◌, true, List, [], ◌∷◌, ◌++◌, length, Some, Ok, Err, refl}
use Rattle.std.proofs.Common.{ap, sym, ◌∙◌, arith, subst}
use Rattle.eden_value.specs.Datum.{Datum}
use Rattle.grammar.specs.Reading.{Reading, Reader, read_then, mapped, one_of, times, whole}
use Rattle.grammar.specs.Grammar.{Grammar, OneOf, Then, Mapped, Times, Begins}
use Rattle.grammar.proofs.Grammar.{begins_then, begins_mapped, begins_one_of, begins_times, begins_same, length-times}
use Rattle.grammar.proofs.Exact.{Exact, then_exact, same_exact, mapped_exact, one_of_exact}
use Rattle.grammar.proofs.Repetition.{times_exact, counted_exact}
use Rattle.grammar.specs.Numbers.{Number, number_at}
use Rattle.grammar.proofs.Numbers.{number_exact, begins_number}
use Rattle.grammar.proofs.FirstBad.{whole_spelled, spelled_whole}
use Rattle.eden_codec.specs.declared.rep.Rep.{Rep}
use Rattle.std.specs.Char.{is_ascii_uppercase}
use Rattle.eden_value.specs.Bytes.{is_name_byte}
use Rattle.eden_codec.specs.Reading.{row_at, value_at, name_at, rep_at, if_read, reading}
use Rattle.eden_codec.specs.Spells.{SpellsRow, SpellsValue, SpellsName, SpellsRep}
use Rattle.eden_codec.proofs.Values.{value_exact, value_begins}

-- ---- the name
abbrev NameBytes : ℕ → Grammar ℕ (List ℕ)
NameBytes n = Times n (OneOf is_name_byte)

abbrev AfterFirst : ℕ → ℕ → Grammar ℕ (List ℕ)
AfterFirst n a = Mapped (λ more. a ∷ more) (NameBytes (n - 1))

abbrev AfterLength : ℕ → Grammar ℕ (List ℕ)
AfterLength n = Then (OneOf is_ascii_uppercase) (AfterFirst n)

abbrev after_first : ℕ → ℕ → Reader ℕ (List ℕ)
after_first n a = mapped (λ more. a ∷ more) (times (n - 1) (one_of is_name_byte))

abbrev after_length : ℕ → Reader ℕ (List ℕ)
after_length n bytes = read_then (one_of is_ascii_uppercase bytes) (after_first n)

letter_exact : Exact (OneOf is_name_byte) (one_of is_name_byte)
letter_exact = one_of_exact is_name_byte 97 refl

letter_begins : Begins (OneOf is_name_byte) []
letter_begins = begins_one_of is_name_byte 97 refl

first_begins : (n a : ℕ) → Begins (AfterFirst n a) []
first_begins n a = begins_mapped (λ more. a ∷ more) (NameBytes (n - 1)) (begins_times (OneOf is_name_byte) letter_begins (n - 1))

first_exact : (n a : ℕ) → Exact (AfterFirst n a) (after_first n a)
first_exact n a = mapped_exact (λ more. a ∷ more) (NameBytes (n - 1)) (times (n - 1) (one_of is_name_byte))
    (times_exact (OneOf is_name_byte) (one_of is_name_byte) letter_exact letter_begins (n - 1))

length_begins : (n : ℕ) → Begins (AfterLength n) []
length_begins n = begins_then (OneOf is_ascii_uppercase) (AfterFirst n) (begins_one_of is_ascii_uppercase 65 refl) (first_begins n)

length_exact : (n : ℕ) → Exact (AfterLength n) (after_length n)
length_exact n = then_exact (OneOf is_ascii_uppercase) (AfterFirst n) (one_of is_ascii_uppercase) (after_first n)
    (one_of_exact is_ascii_uppercase 65 refl) (first_exact n) (first_begins n)

abbrev NameParts : Grammar ℕ (List ℕ)
NameParts = Then (Number 1 1 32) AfterLength

name_from : (bytes size : List ℕ) (n : ℕ) → Number 1 1 32 size n → (first : List ℕ) (a : ℕ) → OneOf is_ascii_uppercase first a
    → (rest more : List ℕ) → bytes ≡ size ++ (first ++ rest) → NameBytes (n - 1) rest more → SpellsName bytes (a ∷ more)
name_from bytes size n s [] a f rest more whole letters = absurd f
name_from bytes size n s (c ∷ []) a f rest more whole letters =
    let l : length more ≡ n - 1 = length-times (OneOf is_name_byte) (n - 1) rest more letters in
    let e : n ≡ suc (length more) = omega (arith, s.1) in (
      size,
      rest,
      whole ∙ ap (λ x. size ++ x ∷ rest) f.0,
      subst (λ m. Number 1 1 32 size m) e s,
      subst (λ x. is_ascii_uppercase x ≡ true) f.0 f.1,
      subst (λ m. NameBytes m rest more) (sym l) letters,
    )
name_from bytes size n s (c ∷ d ∷ first) a f rest more whole letters = absurd f

to_name : (bytes name : List ℕ) → NameParts bytes name → SpellsName bytes name
to_name bytes name t =
    let u = t.goes_on in
    subst (λ x. SpellsName bytes x) (sym u.goes_on.2)
    (name_from bytes t.front t.first t.begins u.front u.first u.begins u.back u.goes_on.0
    (t.whole ∙ ap (λ l. t.front ++ l) u.whole) u.goes_on.1)

from_name : (bytes name : List ℕ) → SpellsName bytes name → NameParts bytes name
from_name bytes [] s = absurd s
from_name bytes (a ∷ more) s =
    let e : length more ≡ suc (length more) - 1 = omega arith in
    record {
      front = s.0;
      back = a ∷ s.1;
      first = suc (length more);
      whole = s.2;
      begins = s.3;
      goes_on = record {
        front = a ∷ [];
        back = s.1;
        first = a;
        whole = refl;
        begins = (refl, s.4);
        goes_on = (more, subst (λ m. NameBytes m s.1 more) e s.5, refl);
      };
    }

name_exact : Exact SpellsName name_at
name_exact = same_exact NameParts SpellsName name_at
    (then_exact (Number 1 1 32) AfterLength (number_at 1 1 32) after_length
    (number_exact 1 32 (omega arith) 1 (omega arith)) length_exact length_begins) to_name from_name

-- ---- the representation
abbrev rep_of : List ℕ → ℕ → List Datum → Rep
rep_of name version values = record { type_name = name; version = version; values = values }

abbrev RepValues : List ℕ → ℕ → Grammar ℕ Rep
RepValues name version = Mapped (rep_of name version) (SpellsRow (SpellsValue 4))

abbrev RepVersion : List ℕ → Grammar ℕ Rep
RepVersion name = Then (Number 2 1 65535) (RepValues name)

abbrev RepName : ℕ → Grammar ℕ Rep
RepName mark = Then SpellsName RepVersion

abbrev RepParts : Grammar ℕ Rep
RepParts = Then (Number 1 1 1) RepName

abbrev values_from : List ℕ → ℕ → Reader ℕ Rep
values_from name version = mapped (rep_of name version) (row_at (value_at 4))

abbrev version_from : List ℕ → Reader ℕ Rep
version_from name bytes = read_then (number_at 2 1 65535 bytes) (values_from name)

abbrev name_then : ℕ → Reader ℕ Rep
name_then mark bytes = read_then (name_at bytes) version_from

no_values : Begins (SpellsRow (SpellsValue 4)) []
no_values = record { more = 0 ∷ []; value = []; spelled = (0 ∷ [], [], refl, ((omega arith, refl), omega arith, omega arith), refl) }

values_begins : (name : List ℕ) (version : ℕ) → Begins (RepValues name version) []
values_begins name version = begins_mapped (rep_of name version) (SpellsRow (SpellsValue 4)) no_values

row_exact : Exact (SpellsRow (SpellsValue 4)) (row_at (value_at 4))
row_exact =
    counted_exact (Number 1 0 64) (number_at 1 0 64) (number_exact 0 64 (omega arith) 1 (omega arith)) (SpellsValue 4) (value_at 4)
    (value_exact 4) (value_begins 4)

values_exact : (name : List ℕ) (version : ℕ) → Exact (RepValues name version) (values_from name version)
values_exact name version = mapped_exact (rep_of name version) (SpellsRow (SpellsValue 4)) (row_at (value_at 4)) (row_exact)

version_begins : (name : List ℕ) → Begins (RepVersion name) []
version_begins name = begins_then (Number 2 1 65535) (RepValues name) (begins_number 1 65535 (omega arith) 2 (omega arith))
    (values_begins name)

version_exact : (name : List ℕ) → Exact (RepVersion name) (version_from name)
version_exact name = then_exact (Number 2 1 65535) (RepValues name) (number_at 2 1 65535) (values_from name)
    (number_exact 1 65535 (omega arith) 2 (omega arith)) (values_exact name) (values_begins name)

name_begins : Begins SpellsName []
name_begins = begins_same NameParts SpellsName to_name []
    (begins_then (Number 1 1 32) AfterLength (begins_number 1 32 (omega arith) 1 (omega arith)) length_begins)

rep_name_begins : (mark : ℕ) → Begins (RepName mark) []
rep_name_begins mark = begins_then SpellsName RepVersion name_begins version_begins

rep_name_exact : (mark : ℕ) → Exact (RepName mark) (name_then mark)
rep_name_exact mark = then_exact SpellsName RepVersion name_at version_from name_exact version_exact version_begins

mark_is : (bytes : List ℕ) (n : ℕ) → Number 1 1 1 bytes n → bytes ≡ 1 ∷ []
mark_is [] n s = absurd s.0
mark_is (b ∷ []) n s = let e : b ≡ 1 = omega arith in ap (λ x. x ∷ []) e
mark_is (b ∷ c ∷ bytes) n s = absurd s.0.1

to_rep : (bytes : List ℕ) (r : Rep) → RepParts bytes r → SpellsRep bytes r
to_rep bytes r t =
    let u = t.goes_on in
    let v = u.goes_on in
    let w = v.goes_on in
    subst (λ x. SpellsRep bytes x) (sym w.2) (record {
      name = u.front;
      version = v.front;
      values = v.back;
      whole = t.whole ∙ ap (λ l. l ++ t.back) (mark_is t.front t.first t.begins) ∙ ap (λ l. 1 ∷ l)
          (u.whole ∙ ap (λ l. u.front ++ l) v.whole);
      name_is = u.begins;
      version_is = v.begins;
      values_are = w.1;
    })

from_rep : (bytes : List ℕ) (r : Rep) → SpellsRep bytes r → RepParts bytes r
from_rep bytes r s = record {
  front = 1 ∷ [];
  back = s.name ++ (s.version ++ s.values);
  first = 1;
  whole = s.whole;
  begins = ((omega arith, refl), omega arith, omega arith);
  goes_on = record {
    front = s.name;
    back = s.version ++ s.values;
    first = r.type_name;
    whole = refl;
    begins = s.name_is;
    goes_on = record {
      front = s.version;
      back = s.values;
      first = r.version;
      whole = refl;
      begins = s.version_is;
      goes_on = (r.values, s.values_are, refl);
    };
  };
}

pub rep_exact : Exact SpellsRep rep_at
rep_exact = same_exact RepParts SpellsRep rep_at
    (then_exact (Number 1 1 1) RepName (number_at 1 1 1) name_then
    (number_exact 1 1 (omega arith) 1 (omega arith)) rep_name_exact rep_name_begins) to_rep from_rep

-- ---- reading all of the bytes
some_rep : (a b : Rep) → Some a ≡ Some b → a ≡ b
some_rep a b e = cc

if_read-whole : (r : Reading ℕ Rep) (a : Rep) → if_read r ≡ Some a → whole r ≡ Ok a
if_read-whole (Ok (b, [])) a e = ap (λ x. Ok x) (some_rep b a e)
if_read-whole (Ok (b, c ∷ rest)) a e = absurd (cc)
if_read-whole (Err left) a e = absurd (cc)

whole-if_read : (r : Reading ℕ Rep) (a : Rep) → whole r ≡ Ok a → if_read r ≡ Some a
whole-if_read (Ok (b, [])) a e = let f : b ≡ a = cc in ap (λ x. Some x) f
whole-if_read (Ok (b, c ∷ rest)) a e = absurd (cc)
whole-if_read (Err left) a e = absurd (cc)

pub reading_spelled : (bytes : List ℕ) (r : Rep) → reading bytes ≡ Some r → SpellsRep bytes r
reading_spelled bytes r e = spelled_whole SpellsRep rep_at rep_exact bytes r (if_read-whole (rep_at bytes) r e)

pub spelled_reading : (bytes : List ℕ) (r : Rep) → SpellsRep bytes r → reading bytes ≡ Some r
spelled_reading bytes r s = whole-if_read (rep_at bytes) r (whole_spelled SpellsRep rep_at rep_exact bytes r s)
