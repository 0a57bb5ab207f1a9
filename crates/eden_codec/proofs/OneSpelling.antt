-- What has a spelling has the one that the function gives, and each representation has it.
use Rattle.std.specs.Prelude.{◌≡◌, ℕ, zero, suc, ◌<◌, ◌^◌, ℤ, Bool, true, false, ◌&&◌, List, [], ◌∷◌, ◌++◌, length, Some, None}
use Rattle.std.specs.Prelude.{FitsSigned, refl}
use Rattle.std.proofs.Common.{ap, sym, ◌∙◌, arith, subst}
use Rattle.std.specs.Int.{w64, bytes_high_first}
use Rattle.std.specs.List.{list_all}
use Rattle.std.proofs.lemmas.Int.{of_z-to_z, to_z-of_z}
use Rattle.std.proofs.Math.Facts.{Fits-of_z, Fits-of_lt, sfits_to_z}
use mir.Val.{of_z}
use Rattle.capability.specs.declared.Cap.{Cap}
use Rattle.capability.specs.Capability.{IsEject}
use Rattle.eden_value.specs.Datum.{Datum, Data, number, truth, text, cap, list, no_data, data_and, items_of}
use Rattle.eden_value.specs.Limits.{is_printable, IsText, IsValue, DataAreValues, AreValues}
use Rattle.eden_value.specs.Range.{CapInRange, InRange, DataInRange, AllInRange}
use Rattle.grammar.specs.Grammar.{OneOf, Times}
use Rattle.grammar.proofs.Numbers.{number_is, number_spelled}
use Rattle.eden_codec.specs.declared.rep.Rep.{Rep}
use Rattle.eden_value.specs.Bytes.{is_name_byte}
use Rattle.eden_codec.specs.Form.{IsName, IsRep, RepInRange}
use Rattle.eden_codec.specs.Spells.{SpellsInt, SpellsText, SpellsCap, SpellsValue, SpellsName, SpellsRep}
use Rattle.eden_codec.specs.Spelling.{text_spelling, cap_spelling, value_spelling, data_spelling, values_spelling, spelling}

-- ---- no other spelling
byte_is : (is : ℕ → Bool) (bytes : List ℕ) (b : ℕ) → OneOf is bytes b → bytes ≡ b ∷ []
byte_is is [] b s = absurd s
byte_is is (c ∷ []) b s = ap (λ x. x ∷ []) s.0
byte_is is (c ∷ d ∷ bytes) b s = absurd s

bytes_are : (is : ℕ → Bool) (n : ℕ) (bytes t : List ℕ) → Times n (OneOf is) bytes t → bytes ≡ t
bytes_are is zero bytes [] s = s
bytes_are is zero bytes (b ∷ t) s = absurd s
bytes_are is (suc n) bytes [] s = absurd s
bytes_are is (suc n) bytes (b ∷ t) s = s.2 ∙ ap (λ l. l ++ s.1) (byte_is is s.0 b s.3) ∙ ap (λ l. b ∷ l) (bytes_are is n s.1 t s.4)

int_is : (bytes : List ℕ) (z : ℤ) → SpellsInt bytes z → bytes ≡ bytes_high_first 8 (of_z w64 z)
int_is bytes z s =
    let h : s.0 < 2 ^ 64 = omega (arith, s.1.2) in
    number_is 8 0 18446744073709551615 bytes s.0 s.1 ∙ ap (λ n. bytes_high_first 8 n) (sym (ap (λ x. of_z w64 x) s.2 ∙ of_z-to_z w64 s.0 h))

text_is : (bytes t : List ℕ) → SpellsText bytes t → bytes ≡ text_spelling t
text_is bytes t s = s.2 ∙ ap (λ l. l ++ s.1) (number_is 2 0 1024 s.0 (length t) s.3) ∙ ap (λ l. bytes_high_first 2 (length t) ++ l)
    (bytes_are is_printable (length t) s.1 t s.4)

cap_is : (bytes : List ℕ) (c : Cap) → SpellsCap bytes c → bytes ≡ cap_spelling c
cap_is bytes c s =
    let n : s.node ≡ bytes_high_first 1 c.uid.node = number_is 1 1 8 _ _ s.node_is in
    let e : s.epoch ≡ bytes_high_first 4 c.uid.epoch = number_is 4 1 4294967295 _ _ s.epoch_is in
    let f : s.serial ≡ bytes_high_first 4 c.uid.serial = number_is 4 1 4294967295 _ _ s.serial_is in
    let r : s.rights ≡ bytes_high_first 2 c.rights.bits = number_is 2 0 65535 _ _ s.rights_is in
    s.whole ∙ four n e f r
  where
    four : {a b c d a' b' c' d' : List ℕ} → a ≡ a' → b ≡ b' → c ≡ c' → d ≡ d' → a ++ (b ++ (c ++ d)) ≡ a' ++ (b' ++ (c' ++ d'))
    four p q r s = cc (p, q, r, s)

mutual
  value_is : (depth : ℕ) (bytes : List ℕ) (d : Datum) → SpellsValue depth bytes d → bytes ≡ value_spelling d
  value_is depth [] d s = absurd s
  value_is depth (b ∷ bytes) (number z) s = ap (λ x. x ∷ bytes) s.0 ∙ ap (λ l. 1 ∷ l) (int_is bytes z s.1)
  value_is depth (b ∷ bytes) (truth true) s = ap (λ x. x ∷ bytes) s.0 ∙ ap (λ l. 2 ∷ l) s.1
  value_is depth (b ∷ bytes) (truth false) s = ap (λ x. x ∷ bytes) s.0 ∙ ap (λ l. 2 ∷ l) s.1
  value_is depth (b ∷ bytes) (text t) s = ap (λ x. x ∷ bytes) s.0 ∙ ap (λ l. 3 ∷ l) (text_is bytes t s.1)
  value_is depth (b ∷ bytes) (cap None) s = ap (λ x. x ∷ bytes) s.0 ∙ ap (λ l. 4 ∷ l) s.1
  value_is depth (b ∷ bytes) (cap (Some c)) s = ap (λ x. x ∷ bytes) s.0 ∙ ap (λ l. 5 ∷ l) (cap_is bytes c s.1)
  value_is zero (b ∷ bytes) (list ds) s = absurd s
  value_is (suc depth) (b ∷ bytes) (list ds) s =
      ap (λ x. x ∷ bytes) s.0 ∙ ap (λ l. 6 ∷ l) (s.1.2 ∙ ap (λ l. l ++ s.1.1) (number_is 2 0 256 s.1.0 (length (items_of ds)) s.1.3)
      ∙ ap (λ l. bytes_high_first 2 (length (items_of ds)) ++ l) (data_is depth (length (items_of ds)) s.1.1 ds s.1.4))

  data_is : (depth n : ℕ) (bytes : List ℕ) (ds : Data) → Times n (SpellsValue depth) bytes (items_of ds) → bytes ≡ data_spelling ds
  data_is depth zero bytes no_data s = s
  data_is depth zero bytes (data_and d ds) s = absurd s
  data_is depth (suc n) bytes no_data s = absurd s
  data_is depth (suc n) bytes (data_and d ds) s =
      s.2 ∙ ap (λ l. l ++ s.1) (value_is depth s.0 d s.3) ∙ ap (λ l. value_spelling d ++ l) (data_is depth n s.1 ds s.4)

items_are : (depth n : ℕ) (bytes : List ℕ) (ds : List Datum) → Times n (SpellsValue depth) bytes ds → bytes ≡ values_spelling ds
items_are depth zero bytes [] s = s
items_are depth zero bytes (d ∷ ds) s = absurd s
items_are depth (suc n) bytes [] s = absurd s
items_are depth (suc n) bytes (d ∷ ds) s =
    s.2 ∙ ap (λ l. l ++ s.1) (value_is depth s.0 d s.3) ∙ ap (λ l. value_spelling d ++ l) (items_are depth n s.1 ds s.4)

name_is : (bytes name : List ℕ) → SpellsName bytes name → bytes ≡ bytes_high_first 1 (length name) ++ name
name_is bytes [] s = absurd s
name_is bytes (a ∷ more) s =
    s.2 ∙ ap (λ l. l ++ a ∷ s.1) (number_is 1 1 32 s.0 (suc (length more)) s.3)
    ∙ ap (λ l. bytes_high_first 1 (suc (length more)) ++ a ∷ l) (bytes_are is_name_byte (length more) s.1 more s.5)

pub spelling_is : (bytes : List ℕ) (r : Rep) → SpellsRep bytes r → bytes ≡ spelling r
spelling_is bytes r s =
    let n : s.name ≡ bytes_high_first 1 (length r.type_name) ++ r.type_name = name_is s.name r.type_name s.name_is in
    let v : s.version ≡ bytes_high_first 2 r.version = number_is 2 1 65535 _ _ s.version_is in
    let w : s.values ≡ bytes_high_first 1 (length r.values) ++ values_spelling r.values =
    s.values_are.2 ∙ ap (λ l. l ++ s.values_are.1) (number_is 1 0 64 s.values_are.0 (length r.values) s.values_are.3)
    ∙ ap (λ l. bytes_high_first 1 (length r.values) ++ l) (items_are 4 (length r.values) s.values_are.1 r.values s.values_are.4) in
    s.whole ∙ ap (λ l. 1 ∷ l) (three n v w)
  where
    three : {a b c a' b' c' : List ℕ} → a ≡ a' → b ≡ b' → c ≡ c' → a ++ (b ++ c) ≡ a' ++ (b' ++ c')
    three p q r = cc (p, q, r)

pub one_spelling : (r : Rep) (x y : List ℕ) → SpellsRep x r → SpellsRep y r → x ≡ y
one_spelling r x y s t = spelling_is x r s ∙ sym (spelling_is y r t)

-- ---- a spelling
both_true : (a b : Bool) → (a && b) ≡ true → (a ≡ true) × (b ≡ true)
both_true true b e = (refl, e)
both_true false b e = absurd (cc)

true_both : (a b : Bool) → a ≡ true → b ≡ true → (a && b) ≡ true
true_both true b e f = f
true_both false b e f = absurd (cc)

bytes_spelled : (is : ℕ → Bool) (t : List ℕ) → list_all is t ≡ true → Times (length t) (OneOf is) t t
bytes_spelled is [] a = refl
bytes_spelled is (b ∷ t) a =
    let all = both_true (is b) (list_all is t) a in
    (b ∷ [], t, refl, (refl, all.0), bytes_spelled is t all.1)

text_spelled : (t : List ℕ) → IsText t → SpellsText (text_spelling t) t
text_spelled t f = (
  bytes_high_first 2 (length t),
  t,
  refl,
  number_spelled 2 0 1024 (length t) (omega (arith, f.short)) (omega arith) f.short,
  bytes_spelled is_printable t f.printable,
)

cap_spelled : (c : Cap) → IsEject c.uid → CapInRange c → SpellsCap (cap_spelling c) c
cap_spelled c e r = record {
  node = bytes_high_first 1 c.uid.node;
  epoch = bytes_high_first 4 c.uid.epoch;
  serial = bytes_high_first 4 c.uid.serial;
  rights = bytes_high_first 2 c.rights.bits;
  whole = refl;
  node_is = number_spelled 1 1 8 c.uid.node (omega (arith, e.node_most)) e.node_least e.node_most;
  epoch_is = number_spelled 4 1 4294967295 c.uid.epoch (omega (arith, r.epoch)) e.epoch (omega (arith, r.epoch));
  serial_is = number_spelled 4 1 4294967295 c.uid.serial (omega (arith, r.serial)) e.serial (omega (arith, r.serial));
  rights_is = number_spelled 2 0 65535 c.rights.bits (omega (arith, r.rights)) (omega arith) (omega (arith, r.rights));
}

int_spelled : (z : ℤ) → FitsSigned w64 z → SpellsInt (bytes_high_first 8 (of_z w64 z)) z
int_spelled z f = (
  of_z w64 z,
  number_spelled 8 0 18446744073709551615 (of_z w64 z) (omega (arith, Fits-of_z {w = w64} {z = z} f))
      (omega arith) (omega (arith, Fits-of_z {w = w64} {z = z} f)),
  sym (to_z-of_z w64 z f),
)

mutual
  pub value_spelled : (depth : ℕ) (d : Datum) → IsValue depth d → InRange d → SpellsValue depth (value_spelling d) d
  value_spelled depth (number z) f r = (refl, int_spelled z r)
  value_spelled depth (truth true) f r = (refl, refl)
  value_spelled depth (truth false) f r = (refl, refl)
  value_spelled depth (text t) f r = (refl, text_spelled t f)
  value_spelled depth (cap None) f r = (refl, refl)
  value_spelled depth (cap (Some c)) f r = (refl, cap_spelled c f r)
  value_spelled zero (list ds) f r = absurd f
  value_spelled (suc depth) (list ds) f r = (
    refl,
    (
      bytes_high_first 2 (length (items_of ds)),
      data_spelling ds,
      refl,
      number_spelled 2 0 256 (length (items_of ds)) (omega (arith, f.0)) (omega arith) f.0,
      data_spelled depth ds f.1 r,
    ),
  )

  data_spelled : (depth : ℕ) (ds : Data) → DataAreValues depth ds → DataInRange ds
      → Times (length (items_of ds)) (SpellsValue depth) (data_spelling ds) (items_of ds)
  data_spelled depth no_data f r = refl
  data_spelled depth (data_and d ds) f r = (
    value_spelling d,
    data_spelling ds,
    refl,
    value_spelled depth d f.0 r.0,
    data_spelled depth ds f.1 r.1,
  )

items_spelled : (depth : ℕ) (ds : List Datum) → AreValues depth ds → AllInRange ds
    → Times (length ds) (SpellsValue depth) (values_spelling ds) ds
items_spelled depth [] f r = refl
items_spelled depth (d ∷ ds) f r = (
  value_spelling d,
  values_spelling ds,
  refl,
  value_spelled depth d f.0 r.0,
  items_spelled depth ds f.1 r.1,
)

name_spelled : (name : List ℕ) → IsName name → SpellsName (bytes_high_first 1 (length name) ++ name) name
name_spelled [] n = absurd n
name_spelled (a ∷ more) n = (
  bytes_high_first 1 (suc (length more)),
  more,
  refl,
  number_spelled 1 1 32 (suc (length more)) (omega (arith, n.1)) (omega arith) (omega (arith, n.1)),
  n.0,
  bytes_spelled is_name_byte more n.2,
)

pub spelled : (r : Rep) → IsRep r → RepInRange r → SpellsRep (spelling r) r
spelled r i a = record {
  name = bytes_high_first 1 (length r.type_name) ++ r.type_name;
  version = bytes_high_first 2 r.version;
  values = bytes_high_first 1 (length r.values) ++ values_spelling r.values;
  whole = refl;
  name_is = name_spelled r.type_name i.name;
  version_is = number_spelled 2 1 65535 r.version (omega (arith, a.version)) i.version (omega (arith, a.version));
  values_are = (
    bytes_high_first 1 (length r.values),
    values_spelling r.values,
    refl,
    number_spelled 1 0 64 (length r.values) (omega (arith, i.count)) (omega arith) i.count,
    items_spelled 4 r.values i.values a.values,
  );
}

-- ---- only what may be has a spelling
bytes_pass : (is : ℕ → Bool) (n : ℕ) (bytes t : List ℕ) → Times n (OneOf is) bytes t → list_all is t ≡ true
bytes_pass is zero bytes [] s = refl
bytes_pass is zero bytes (b ∷ t) s = absurd s
bytes_pass is (suc n) bytes [] s = absurd s
bytes_pass is (suc n) bytes (b ∷ t) s = true_both (is b) (list_all is t) (passes s.0 s.3) (bytes_pass is n s.1 t s.4)
  where
    passes : (front : List ℕ) → OneOf is front b → is b ≡ true
    passes [] h = absurd h
    passes (c ∷ []) h = subst (λ x. is x ≡ true) h.0 h.1
    passes (c ∷ d ∷ front) h = absurd h

text_has_form : (bytes t : List ℕ) → SpellsText bytes t → IsText t
text_has_form bytes t s = record { printable = bytes_pass is_printable (length t) s.1 t s.4; short = s.3.2 }

cap_has_form : (bytes : List ℕ) (c : Cap) → SpellsCap bytes c → IsEject c.uid
cap_has_form bytes c s = record { node_least = s.node_is.1; node_most = s.node_is.2; epoch = s.epoch_is.1; serial = s.serial_is.1 }

cap_in_range : (bytes : List ℕ) (c : Cap) → SpellsCap bytes c → CapInRange c
cap_in_range bytes c s = record {
  epoch = omega (arith, s.epoch_is.2);
  serial = omega (arith, s.serial_is.2);
  rights = omega (arith, s.rights_is.2);
}

int_in_range : (bytes : List ℕ) (z : ℤ) → SpellsInt bytes z → FitsSigned w64 z
int_in_range bytes z s = let h : s.0 < 2 ^ 64 = omega (arith, s.1.2) in
    subst (λ x. FitsSigned w64 x) (sym s.2) (sfits_to_z {w = w64} {n = s.0} (Fits-of_lt {w = w64} {n = s.0} h))

mutual
  value_has_form : (depth : ℕ) (bytes : List ℕ) (d : Datum) → SpellsValue depth bytes d → IsValue depth d × InRange d
  value_has_form depth [] d s = absurd s
  value_has_form depth (b ∷ bytes) (number z) s = (tt, int_in_range bytes z s.1)
  value_has_form depth (b ∷ bytes) (truth t) s = (tt, tt)
  value_has_form depth (b ∷ bytes) (text t) s = (text_has_form bytes t s.1, tt)
  value_has_form depth (b ∷ bytes) (cap None) s = (tt, tt)
  value_has_form depth (b ∷ bytes) (cap (Some c)) s = (cap_has_form bytes c s.1, cap_in_range bytes c s.1)
  value_has_form zero (b ∷ bytes) (list ds) s = absurd s
  value_has_form (suc depth) (b ∷ bytes) (list ds) s =
      let inner = data_has_form depth (length (items_of ds)) s.1.1 ds s.1.4 in
      ((s.1.3.2, inner.0), inner.1)

  data_has_form : (depth n : ℕ) (bytes : List ℕ) (ds : Data) → Times n (SpellsValue depth) bytes (items_of ds) → DataAreValues depth ds
      × DataInRange ds
  data_has_form depth n bytes no_data s = (tt, tt)
  data_has_form depth zero bytes (data_and d ds) s = absurd s
  data_has_form depth (suc n) bytes (data_and d ds) s =
      let one = value_has_form depth s.0 d s.3 in
      let more = data_has_form depth n s.1 ds s.4 in
      ((one.0, more.0), (one.1, more.1))

row_has_form : (depth n : ℕ) (bytes : List ℕ) (ds : List Datum) → Times n (SpellsValue depth) bytes ds → AreValues depth ds × AllInRange ds
row_has_form depth n bytes [] s = (tt, tt)
row_has_form depth zero bytes (d ∷ ds) s = absurd s
row_has_form depth (suc n) bytes (d ∷ ds) s =
    let one = value_has_form depth s.0 d s.3 in
    let more = row_has_form depth n s.1 ds s.4 in
    ((one.0, more.0), (one.1, more.1))

name_has_form : (bytes name : List ℕ) → SpellsName bytes name → IsName name
name_has_form bytes [] s = absurd s
name_has_form bytes (a ∷ more) s = (s.4, omega (arith, s.3.2), bytes_pass is_name_byte (length more) s.1 more s.5)

pub spelled_has_form : (bytes : List ℕ) (r : Rep) → SpellsRep bytes r → IsRep r × RepInRange r
spelled_has_form bytes r s =
    let row = row_has_form 4 (length r.values) s.values_are.1 r.values s.values_are.4 in (
      record { name = name_has_form s.name r.type_name s.name_is; version = s.version_is.1; count = s.values_are.3.2; values = row.0 },
      record { version = omega (arith, s.version_is.2); values = row.1 },
    )
