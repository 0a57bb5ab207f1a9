-- The readers of the parts of values are exact for their grammars.
use Rattle.std.specs.Prelude.{◌≡◌, ℕ, zero, suc, Bool, true, false, List, [], ◌∷◌, ◌++◌, Some, None, refl}
use Rattle.std.proofs.Common.{ap, sym, ◌∙◌, arith, subst}
use Rattle.std.specs.Int.{w64}
use mir.Val.{to_z}
use Rattle.capability.specs.declared.Cap.{Cap}
use Rattle.eden_value.specs.Datum.{Datum, number, truth, text, cap}
use Rattle.eden_value.specs.Limits.{is_printable}
use Rattle.grammar.specs.Reading.{Reader, read_then, mapped, one_of}
use Rattle.grammar.specs.Grammar.{Grammar, Nothing, OneOf, Then, Mapped, Begins}
use Rattle.grammar.proofs.Grammar.{One, begins_then, begins_mapped, begins_one_of, begins_same}
use Rattle.grammar.proofs.Exact.{Exact, then_exact, same_exact, nothing_exact, one_exact, one_of_exact, mapped_exact}
use Rattle.grammar.proofs.Repetition.{counted_exact}
use Rattle.grammar.specs.Numbers.{Number, number_at}
use Rattle.grammar.proofs.Numbers.{number_exact, begins_number}
use Rattle.eden_codec.specs.declared.value.Plain.{Plain}
use Rattle.eden_codec.specs.declared.value.Plain.TheVariants.{Integer as is_int, Truth as is_truth, Text as is_text, Absent as is_none}
use Rattle.eden_codec.specs.declared.value.Plain.TheVariants.{Capability as is_cap}
use Rattle.eden_codec.specs.Spells.{SpellsInt, SpellsTruth, SpellsText, SpellsCap}
use Rattle.eden_codec.specs.Reading.{int_at, truth_of, truth_at, text_at, cap_at, plain_at}

pub int_exact : Exact SpellsInt int_at
int_exact = mapped_exact (to_z w64) (Number 8 0 18446744073709551615) (number_at 8 0 18446744073709551615)
    (number_exact 0 18446744073709551615 (omega arith) 8 (omega arith))

to_truth : (bytes : List ℕ) (t : Bool) → One truth_of bytes t → SpellsTruth bytes t
to_truth [] t s = absurd s
to_truth (zero ∷ []) true s = absurd (cc)
to_truth (zero ∷ []) false s = refl
to_truth (suc zero ∷ []) true s = refl
to_truth (suc zero ∷ []) false s = absurd (cc)
to_truth (suc (suc b) ∷ []) t s = absurd (cc)
to_truth (b ∷ c ∷ bytes) t s = absurd s

from_truth : (bytes : List ℕ) (t : Bool) → SpellsTruth bytes t → One truth_of bytes t
from_truth bytes true s = subst (λ l. One truth_of l true) (sym s) refl
from_truth bytes false s = subst (λ l. One truth_of l false) (sym s) refl

pub truth_exact : Exact SpellsTruth truth_at
truth_exact = same_exact (One truth_of) SpellsTruth _ (one_exact truth_of 0 false refl) to_truth from_truth

pub text_exact : Exact SpellsText text_at
text_exact =
    counted_exact (Number 2 0 1024) (number_at 2 0 1024) (number_exact 0 1024 (omega arith) 2 (omega arith))
    (OneOf is_printable) (one_of is_printable) (one_of_exact is_printable 0x20 refl) (begins_one_of is_printable 0x20 refl)

-- ---- a capability
abbrev made : ℕ → ℕ → ℕ → ℕ → Cap
made node epoch serial rights = record { uid = record { node = node; epoch = epoch; serial = serial }; rights = record { bits = rights } }

abbrev CapRights : ℕ → ℕ → ℕ → Grammar ℕ Cap
CapRights node epoch serial = Mapped (made node epoch serial) (Number 2 0 65535)

abbrev CapSerial : ℕ → ℕ → Grammar ℕ Cap
CapSerial node epoch = Then (Number 4 1 4294967295) (CapRights node epoch)

abbrev CapEpoch : ℕ → Grammar ℕ Cap
CapEpoch node = Then (Number 4 1 4294967295) (CapSerial node)

abbrev CapNode : Grammar ℕ Cap
CapNode = Then (Number 1 1 8) CapEpoch

abbrev rights_from : ℕ → ℕ → ℕ → Reader ℕ Cap
rights_from node epoch serial = mapped (made node epoch serial) (number_at 2 0 65535)

abbrev serial_from : ℕ → ℕ → Reader ℕ Cap
serial_from node epoch bytes = read_then (number_at 4 1 4294967295 bytes) (rights_from node epoch)

abbrev epoch_from : ℕ → Reader ℕ Cap
epoch_from node bytes = read_then (number_at 4 1 4294967295 bytes) (serial_from node)

rights_exact : (node epoch serial : ℕ) → Exact (CapRights node epoch serial) (rights_from node epoch serial)
rights_exact node epoch serial = mapped_exact (made node epoch serial) (Number 2 0 65535) (number_at 2 0 65535)
    (number_exact 0 65535 (omega arith) 2 (omega arith))

rights_begins : (node epoch serial : ℕ) → Begins (CapRights node epoch serial) []
rights_begins node epoch serial = begins_mapped (made node epoch serial) (Number 2 0 65535)
    (begins_number 0 65535 (omega arith) 2 (omega arith))

long_exact : Exact (Number 4 1 4294967295) (number_at 4 1 4294967295)
long_exact = number_exact 1 4294967295 (omega arith) 4 (omega arith)

long_begins : Begins (Number 4 1 4294967295) []
long_begins = begins_number 1 4294967295 (omega arith) 4 (omega arith)

serial_exact : (node epoch : ℕ) → Exact (CapSerial node epoch) (serial_from node epoch)
serial_exact node epoch = then_exact (Number 4 1 4294967295) (CapRights node epoch) (number_at 4 1 4294967295)
    (rights_from node epoch) long_exact (rights_exact node epoch) (rights_begins node epoch)

serial_begins : (node epoch : ℕ) → Begins (CapSerial node epoch) []
serial_begins node epoch = begins_then (Number 4 1 4294967295) (CapRights node epoch) long_begins (rights_begins node epoch)

epoch_exact : (node : ℕ) → Exact (CapEpoch node) (epoch_from node)
epoch_exact node = then_exact (Number 4 1 4294967295) (CapSerial node) (number_at 4 1 4294967295) (serial_from node) long_exact
    (serial_exact node) (serial_begins node)

epoch_begins : (node : ℕ) → Begins (CapEpoch node) []
epoch_begins node = begins_then (Number 4 1 4294967295) (CapSerial node) long_begins (serial_begins node)

to_cap : (bytes : List ℕ) (c : Cap) → CapNode bytes c → SpellsCap bytes c
to_cap bytes c t =
    let u = t.goes_on in
    let v = u.goes_on in
    let w = v.goes_on in
    let e : c ≡ made t.first u.first v.first w.0 = w.2 in
    subst (λ x. SpellsCap bytes x) (sym e) (record {
      node = t.front;
      epoch = u.front;
      serial = v.front;
      rights = v.back;
      whole = t.whole ∙ ap (λ l. t.front ++ l) (u.whole ∙ ap (λ l. u.front ++ l) v.whole);
      node_is = t.begins;
      epoch_is = u.begins;
      serial_is = v.begins;
      rights_is = w.1;
    })

from_cap : (bytes : List ℕ) (c : Cap) → SpellsCap bytes c → CapNode bytes c
from_cap bytes c s = record {
  front = s.node;
  back = s.epoch ++ (s.serial ++ s.rights);
  first = c.uid.node;
  whole = s.whole;
  begins = s.node_is;
  goes_on = record {
    front = s.epoch;
    back = s.serial ++ s.rights;
    first = c.uid.epoch;
    whole = refl;
    begins = s.epoch_is;
    goes_on = record {
      front = s.serial;
      back = s.rights;
      first = c.uid.serial;
      whole = refl;
      begins = s.serial_is;
      goes_on = (c.rights.bits, s.rights_is, refl);
    };
  };
}

pub cap_exact : Exact SpellsCap cap_at
cap_exact =
    same_exact CapNode SpellsCap cap_at
    (then_exact (Number 1 1 8) CapEpoch (number_at 1 1 8) epoch_from
    (number_exact 1 8 (omega arith) 1 (omega arith)) epoch_exact epoch_begins)
    to_cap from_cap

cap_begins : Begins SpellsCap []
cap_begins = begins_same CapNode SpellsCap to_cap []
    (begins_then (Number 1 1 8) CapEpoch (begins_number 1 8 (omega arith) 1 (omega arith)) epoch_begins)

-- ---- a value
abbrev pub PlainSpelling : Plain → Grammar ℕ Datum
PlainSpelling is_int = Mapped number SpellsInt
PlainSpelling is_truth = Mapped truth SpellsTruth
PlainSpelling is_text = Mapped text SpellsText
PlainSpelling is_none = Nothing (cap None)
PlainSpelling is_cap = Mapped (λ c. cap (Some c)) SpellsCap

pub plain_exact : (p : Plain) → Exact (PlainSpelling p) (plain_at p)
plain_exact is_int = mapped_exact number SpellsInt int_at int_exact
plain_exact is_truth = mapped_exact truth SpellsTruth truth_at truth_exact
plain_exact is_text = mapped_exact text SpellsText text_at text_exact
plain_exact is_none = nothing_exact (cap None)
plain_exact is_cap = mapped_exact (λ c. cap (Some c)) SpellsCap cap_at cap_exact

int_begins : Begins SpellsInt []
int_begins = begins_mapped (to_z w64) (Number 8 0 18446744073709551615) (begins_number 0 18446744073709551615 (omega arith) 8 (omega arith))

text_begins : Begins SpellsText []
text_begins = record {
  more = 0 ∷ 0 ∷ [];
  value = [];
  spelled = (0 ∷ 0 ∷ [], [], refl, ((omega arith, (omega arith, refl)), omega arith, omega arith), refl);
}

pub plain_begins : (p : Plain) → Begins (PlainSpelling p) []
plain_begins is_int = begins_mapped number SpellsInt int_begins
plain_begins is_truth = begins_mapped truth SpellsTruth (record { more = 0 ∷ []; value = false; spelled = refl })
plain_begins is_text = begins_mapped text SpellsText text_begins
plain_begins is_none = record { more = []; value = cap None; spelled = (refl, refl) }
plain_begins is_cap = begins_mapped (λ c. cap (Some c)) SpellsCap cap_begins
