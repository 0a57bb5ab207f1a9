-- What is spelled as a value is read.
use Rattle.std.proofs.Common.{◌≡◌, ◌∙◌, ap, sym, refl, subst, ℕ, pos, ◌≤◌, Bool, true, false, cond, ◌==◌, ◌&&◌, ◌||◌, List, [], ◌∷◌}
use Rattle.std.proofs.Common.{◌++◌, length, drop, codes, Option, Some, None, Ok, Err, arith, append_assoc, append-nil}
use Rattle.std.specs.Prelude.{nat_le}
use Rattle.std.specs.Char.{is_ascii_lowercase}
use Rattle.std.specs.Str.{bytes_eq}
use Rattle.std.proofs.lemmas.Bool.{leb-true, le-leb, and_parts, or_parts, or_left, or_right, and_right, lt-leb, ne_eqb}
use Rattle.script_words.specs.Form.{starts_with, is_name_byte, is_number, is_digit, is_lower, number_of, is_constant, IsText, quoted}
use Rattle.script_words.specs.Tree.{WrittenRef, WrittenArg, plain, named}
use Rattle.eden_value.specs.Datum.{number, truth, text, cap}
use Rattle.script_words.specs.Grammar.{Refers, minus, Apart, Named}
use Rattle.script_words.specs.Causes.{WrittenFits}
use Rattle.script_words.specs.Reading.{Judged, Reading, Maybe, ◌>>=◌, form_of, behind, read_digits, up_to, positive, negative}
use Rattle.script_words.specs.Reading.{read_positive, read_negative, read_text, read_text_value, short_text, has_result, read_result}
use Rattle.script_words.specs.Reading.{read_ref, constant, name_value, name_value', named_value, allowed, read_named, read_flat}
use Rattle.script_words.specs.declared.cause.ScriptCause.TheVariants.{BadForm}
use Rattle.script_words.proofs.Pieces.{digits_again, lower_again}
use Rattle.script_words.proofs.Texts.{text_again}
use Rattle.script_words.proofs.ValueLaws.{Fitting, positive_fits, negative_fits, result_fits, reference_of}

-- what may stand behind a value
pub record Stops (rest : List ℕ) : Type 0 where
  pub name : starts_with is_name_byte rest ≡ false
  pub digit : starts_with is_digit rest ≡ false
  pub point : has_result rest ≡ false

pub record Again (V : List ℕ → Reading Maybe) (g : WrittenArg) (bytes rest : List ℕ) : Type 0 where
  pub found : Maybe
  pub read : V bytes ≡ Ok (found, rest)
  pub fitting : Fitting found g

-- ## What a value begins with

abbrev pub begins_flat : ℕ → Bool
begins_flat b = is_digit b || (b == 45 || (b == 34 || is_ascii_lowercase b))

pub differ : (b c : ℕ) → begins_flat b ≡ true → begins_flat c ≡ false → (b == c) ≡ false
differ b c h f = ne_eqb b c (λ e. both (sym h ∙ ap begins_flat e ∙ f))
  where
    both : true ≡ false → ⊥
    both e = cc

pub no_mark : (c b : ℕ) (bytes : List ℕ) → (b == c) ≡ false → behind (c ∷ []) (b ∷ bytes) ≡ None
no_mark c b bytes h = ap (λ (z : Bool). cond (z && true) (Some bytes) None) h

pub lower_begins : (b : ℕ) → is_ascii_lowercase b ≡ true → begins_flat b ≡ true
lower_begins b h = or_right (is_digit b) _ (or_right (b == 45) _ (or_right (b == 34) _ h))

pub digit_begins : (b : ℕ) → is_digit b ≡ true → begins_flat b ≡ true
digit_begins b h = or_left (is_digit b) _ h

-- ## The ways of a flat value

flat_digit : (names : Bool) (b : ℕ) (bytes : List ℕ) → is_digit b ≡ true → read_flat names (b ∷ bytes) ≡ read_positive (b ∷ bytes)
flat_digit names b bytes h =
    let p : (b == 34) ≡ false = ne_eqb b 34 (λ e. quote (sym h ∙ ap is_digit e)) in
    let q : (b == 45) ≡ false = ne_eqb b 45 (λ e. quote (sym h ∙ ap is_digit e)) in
    ap
    (λ (z : Bool). cond z (read_text_value bytes) (cond (b == 45) (read_negative bytes)
    (cond (is_digit b) (read_positive (b ∷ bytes)) (read_named names (b ∷ bytes)))))
    p
    ∙ ap (λ (z : Bool). cond z (read_negative bytes) (cond (is_digit b) (read_positive (b ∷ bytes)) (read_named names (b ∷ bytes)))) q
    ∙ ap (λ (z : Bool). cond z (read_positive (b ∷ bytes)) (read_named names (b ∷ bytes))) h
  where
    quote : true ≡ false → ⊥
    quote e = cc

low_digit : (b : ℕ) → is_ascii_lowercase b ≡ true → is_digit b ≡ false
low_digit b h = let w : 97 ≤ b = leb-true _ _ (and_parts _ _ h).0 in and_right (nat_le 48 b) (nat_le b 57) (lt-leb b 57 (omega arith))

flat_lower : (names : Bool) (b : ℕ) (bytes : List ℕ) → is_ascii_lowercase b ≡ true
    → read_flat names (b ∷ bytes) ≡ read_named names (b ∷ bytes)
flat_lower names b bytes h =
    let p : (b == 34) ≡ false = ne_eqb b 34 (λ e. quote (sym h ∙ ap is_ascii_lowercase e)) in
    let q : (b == 45) ≡ false = ne_eqb b 45 (λ e. quote (sym h ∙ ap is_ascii_lowercase e)) in
    ap
    (λ (z : Bool). cond z (read_text_value bytes) (cond (b == 45) (read_negative bytes)
    (cond (is_digit b) (read_positive (b ∷ bytes)) (read_named names (b ∷ bytes)))))
    p
    ∙ ap (λ (z : Bool). cond z (read_negative bytes) (cond (is_digit b) (read_positive (b ∷ bytes)) (read_named names (b ∷ bytes)))) q
    ∙ ap (λ (z : Bool). cond z (read_positive (b ∷ bytes)) (read_named names (b ∷ bytes))) (low_digit b h)
  where
    quote : true ≡ false → ⊥
    quote e = cc

-- ## Numbers and texts

pub positive_again : (names : Bool) (d rest : List ℕ) → is_number d ≡ true → Stops rest
    → Again (read_flat names) (plain (number (pos (number_of d)))) (d ++ rest) rest
positive_again names [] rest good stop = absurd cc
positive_again names (b ∷ d) rest good stop = record {
  found = positive (up_to 9223372036854775807 (b ∷ d));
  read =
      flat_digit names b (d ++ rest) (and_parts _ _ good).0
      ∙ ap (λ (r : Reading (List ℕ)). r >>= λ d. Ok (positive (up_to 9223372036854775807 d.0), d.1))
      (digits_again (b ∷ d) rest good stop.digit);
  fitting = positive_fits (b ∷ d);
}

pub negative_again : (names : Bool) (d rest : List ℕ) → is_number d ≡ true → Stops rest
    → Again (read_flat names) (plain (number (minus (number_of d)))) (45 ∷ d ++ rest) rest
negative_again names d rest good stop = record {
  found = negative (up_to 9223372036854775808 d);
  read = ap (λ (r : Reading (List ℕ)). r >>= λ d. Ok (negative (up_to 9223372036854775808 d.0), d.1)) (digits_again d rest good stop.digit);
  fitting = negative_fits d;
}

pub quoted_again : (t rest : List ℕ) → IsText t → read_text (quoted t ++ 34 ∷ rest) ≡ Ok (t, rest)
quoted_again t rest good =
    ap (λ (o : Option (List ℕ × List ℕ)). form_of o >>= short_text) (text_again t rest good.printable)
    ∙ ap (λ (z : Bool). cond z (Ok (t, rest)) (Err BadForm)) (le-leb (length t) 1024 good.short)

pub text_value_again : (names : Bool) (t rest : List ℕ) → IsText t
    → Again (read_flat names) (plain (text t)) (((34 ∷ quoted t) ++ 34 ∷ []) ++ rest) rest
text_value_again names t rest good = record {
  found = Some (plain (text t));
  read =
      ap (read_flat names) (append_assoc (34 ∷ quoted t) (34 ∷ []) rest)
      ∙ ap (λ (r : Reading (List ℕ)). r >>= λ t. Ok (Some (plain (text t.0)), t.1)) (quoted_again t rest good);
  fitting = (refl, tt);
}

-- ## References

pub record RefAgain (r : WrittenRef) (bytes rest : List ℕ) : Type 0 where
  pub words : List ℕ × Option (List ℕ)
  pub read : read_ref bytes ≡ Ok (words, rest)
  pub same : reference_of words ≡ r

digit_point : (d rest : List ℕ) → is_number d ≡ true → has_result (46 ∷ d ++ rest) ≡ true
digit_point [] rest h = absurd cc
digit_point (b ∷ d) rest h = (and_parts _ _ h).0

name_again : (name rest : List ℕ) → is_lower name ≡ true → Stops rest → RefAgain (record { name = name; result = None }) (name ++ rest) rest
name_again name rest good stop = record {
  words = (name, None);
  read = ap (λ (r : Reading (List ℕ)). r >>= λ n. read_result n.0 n.1) (lower_again name rest good stop.name)
      ∙ ap (λ (z : Bool). cond z (read_digits (drop 1 rest) >>= λ k. Ok ((name, Some k.0), k.1)) (Ok ((name, None), rest))) stop.point;
  same = refl;
}

result_again : (name d rest : List ℕ) (k : ℕ) → is_lower name ≡ true → is_number d ≡ true → number_of d ≡ k → Stops rest
    → RefAgain (record { name = name; result = Some k }) (name ++ (46 ∷ d ++ rest)) rest
result_again name d rest k good digits same stop = record {
  words = (name, Some d);
  read = ap (λ (r : Reading (List ℕ)). r >>= λ n. read_result n.0 n.1) (lower_again name (46 ∷ d ++ rest) good refl)
      ∙ ap (λ (z : Bool). cond z (read_digits (d ++ rest) >>= λ k. Ok ((name, Some k.0), k.1)) (Ok ((name, None), 46 ∷ d ++ rest)))
      (digit_point d rest digits)
      ∙ ap (λ (r : Reading (List ℕ)). r >>= λ k. Ok ((name, Some k.0), k.1)) (digits_again d rest digits stop.digit);
  same = ap (λ k. record { name = name; result = Some k }) same;
}

ref_by : (k : Option ℕ) (name x rest : List ℕ) → Refers (record { name = name; result = k }) x → Stops rest
    → RefAgain (record { name = name; result = k }) (x ++ rest) rest
ref_by None name x rest h stop =
    subst (λ (l : List ℕ). RefAgain (record { name = name; result = None }) (l ++ rest) rest) (sym h.0) (name_again name rest h.1 stop)
ref_by (Some k) name x rest h stop =
    let d = h.3.1 in
    let e : x ≡ name ++ 46 ∷ d =
    h.4 ∙ ap (λ (l : List ℕ). l ++ h.1) h.2.0 ∙ ap (λ (l : List ℕ). name ++ l) (h.3.4 ∙ ap (λ (l : List ℕ). l ++ d) h.3.2) in
    subst (λ (l : List ℕ). RefAgain (record { name = name; result = Some k }) l rest)
    (sym (append_assoc name (46 ∷ d) rest) ∙ ap (λ (l : List ℕ). l ++ rest) (sym e))
    (result_again name d rest k h.2.1 h.3.3.0 h.3.3.1 stop)

pub ref_again : (r : WrittenRef) (x rest : List ℕ) → Refers r x → Stops rest → RefAgain r (x ++ rest) rest
ref_again r x rest h stop = ref_by r.result r.name x rest h stop

-- ## Names as values

no_constant : (name : List ℕ) → is_constant name ≡ false → constant name ≡ None
no_constant name h =
    let p = or_parts _ _ h in
    let q = or_parts _ _ p.1 in
    ap
    (λ (z : Bool). cond z (Some (plain (truth true))) (cond (bytes_eq name (codes "false")) (Some (plain (truth false)))
    (cond (bytes_eq name (codes "none")) (Some (plain (cap None))) None)))
    p.0
    ∙ ap (λ (z : Bool). cond z (Some (plain (truth false))) (cond (bytes_eq name (codes "none")) (Some (plain (cap None))) None)) q.0
    ∙ ap (λ (z : Bool). cond z (Some (plain (cap None))) None) q.1

named_fits : (words : List ℕ × Option (List ℕ)) → Apart (reference_of words).result (reference_of words).name
    → Fitting (named_value words) (named (reference_of words))
named_fits (name, None) h =
    subst (λ m. Fitting (name_value' name m) (named (record { name = name; result = None }))) (sym (no_constant name h)) (refl, tt)
named_fits (name, Some d) h = result_fits name d (nat_le (number_of d) 8) refl

first_lower : (names : Bool) (name more rest : List ℕ) → is_lower name ≡ true
    → read_flat names ((name ++ more) ++ rest) ≡ read_named names ((name ++ more) ++ rest)
first_lower names [] more rest h = absurd cc
first_lower names (b ∷ name) more rest h = flat_lower names b ((name ++ more) ++ rest) (and_parts _ _ h).0

ref_lower : (names : Bool) (k : Option ℕ) (name x rest : List ℕ) → Refers (record { name = name; result = k }) x
    → read_flat names (x ++ rest) ≡ read_named names (x ++ rest)
ref_lower names None name x rest h =
    let e : name ++ [] ≡ x = append-nil name ∙ sym h.0 in
    subst (λ (l : List ℕ). read_flat names (l ++ rest) ≡ read_named names (l ++ rest)) e (first_lower names name [] rest h.1)
ref_lower names (Some k) name x rest h =
    let e : name ++ h.1 ≡ x = ap (λ (l : List ℕ). l ++ h.1) (sym h.2.0) ∙ sym h.4 in
    subst (λ (l : List ℕ). read_flat names (l ++ rest) ≡ read_named names (l ++ rest)) e (first_lower names name h.1 rest h.2.1)

allowed_names : (names : Bool) (w : List ℕ × Option (List ℕ)) → (names ≡ false → ⊥) → allowed names w ≡ Ok tt
allowed_names true w h = refl
allowed_names false w h = absurd (h refl)

allowed_words : (names : Bool) (name : List ℕ) → is_constant name ≡ true → allowed names (name, None) ≡ Ok tt
allowed_words true name h = refl
allowed_words false name h = ap (λ (z : Bool). cond {A = Judged (Unit {0})} z (Ok tt) (Err BadForm)) h

pub named_again : (names : Bool) (r : WrittenRef) (x rest : List ℕ) → Named r x → (names ≡ false → ⊥) → Stops rest
    → Again (read_flat names) (named r) (x ++ rest) rest
named_again names r x rest h may stop =
    let a = ref_again r x rest h.0 stop in
    record {
      found = named_value a.words;
      read =
          ref_lower names r.result r.name x rest h.0
          ∙ ap (λ (q : Reading (List ℕ × Option (List ℕ))). q >>= λ r. allowed names r.0 >>= λ u. Ok (named_value r.0, r.1)) a.read
          ∙ ap (λ (q : Judged (Unit {0})). q >>= λ u. Ok (named_value a.words, rest)) (allowed_names names a.words may);
      fitting =
          subst (λ r. Fitting (named_value a.words) (named r)) a.same
          (named_fits a.words (subst (λ r. Apart r.result r.name) (sym a.same) h.1));
    }

pub word_value_again : (names : Bool) (name rest : List ℕ) (g : WrittenArg) → is_lower name ≡ true → is_constant name ≡ true
    → name_value name ≡ Some g → WrittenFits g → Stops rest → Again (read_flat names) g (name ++ rest) rest
word_value_again names name rest g good word means fits stop =
    let a = name_again name rest good stop in
    record {
      found = name_value name;
      read =
          subst (λ (l : List ℕ). read_flat names (l ++ rest) ≡ read_named names (l ++ rest)) (append-nil name)
          (first_lower names name [] rest good)
          ∙ ap (λ (q : Reading (List ℕ × Option (List ℕ))). q >>= λ r. allowed names r.0 >>= λ u. Ok (named_value r.0, r.1))
          (read_name name rest good stop)
          ∙ ap (λ (q : Judged (Unit {0})). q >>= λ u. Ok (name_value name, rest)) (allowed_words names name word);
      fitting = subst (λ m. Fitting m g) (sym means) (refl, fits);
    }
  where
    read_name : (name rest : List ℕ) → is_lower name ≡ true → Stops rest → read_ref (name ++ rest) ≡ Ok ((name, None), rest)
    read_name name rest good stop =
        ap (λ (r : Reading (List ℕ)). r >>= λ n. read_result n.0 n.1) (lower_again name rest good stop.name)
        ∙ ap (λ (z : Bool). cond z (read_digits (drop 1 rest) >>= λ k. Ok ((name, Some k.0), k.1)) (Ok ((name, None), rest))) stop.point
