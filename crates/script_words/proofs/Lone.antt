-- What is read as a value alone.
use Rattle.std.proofs.Common.{◌≡◌, ◌∙◌, ap, sym, refl, subst, ℕ, ◌≤◌, false, List, [], ◌∷◌, ◌++◌, Some, None, Ok, Err, append-nil}
use Rattle.eden_value.specs.Datum.{Datum, Data, number, truth, text, cap, list, no_data, data_and}
use Rattle.eden_value.specs.declared.value.Value.{Value as CodeValue}
use Rattle.eden_value.specs.View.{datum}
use Rattle.script_words.specs.Tree.{WrittenArg, plain, named, several, Row, no_more, and_more, depth}
use Rattle.script_words.specs.Grammar.{Value, Values, Behind}
use Rattle.script_words.specs.Causes.{WrittenFits, names_in, names_of}
use Rattle.script_words.specs.Alone.{as_written, row_written, SpellsDatum, Fits, IsReading}
use Rattle.script_words.specs.Reading.{Judged, ◌>>=◌, read_value, read_end, in_range, read_alone, Maybe}
use Rattle.script_words.specs.View.{value_in, data_in}
use Rattle.script_words.specs.declared.cause.ScriptCause.{ScriptCause}
use Rattle.script_words.specs.declared.cause.ScriptCause.TheVariants.{BadByte, LongLine, AfterEnd, NoCommand, Misplaced, BadForm}
use Rattle.script_words.specs.declared.cause.ScriptCause.TheVariants.{BadNumber, UnknownName, UnknownType, DoubledName, BadEdentype}
use Rattle.script_words.specs.declared.cause.ScriptCause.TheVariants.{NoEnd}
use Rattle.script_words.proofs.ValueLaws.{Fitting, Reads, value_sound}
use Rattle.script_words.proofs.Rows2.{none_left, none_right, some_name, value_again}
use Rattle.script_words.proofs.Rules.{OnlyForm}
use Rattle.script_words.proofs.Calls.{only_value}

-- a value in which no name is written is written in one way
mutual
  written_again : (g : WrittenArg) (x : List ℕ) → Value g x → names_in g ≡ [] → as_written (value_in g) ≡ g
  written_again (plain (number n)) x h bare = refl
  written_again (plain (truth b)) x h bare = refl
  written_again (plain (text t)) x h bare = refl
  written_again (plain (cap c)) x h bare = refl
  written_again (plain (list ds)) x h bare = absurd h
  written_again (named r) x h bare = absurd (some_name r.name bare)
  written_again (several gs) x h bare = ap several (row_again gs h.0.3.0 h.0.3.2 bare)

  row_again : (gs : Row) (x : List ℕ) → Values gs x → names_of gs ≡ [] → row_written (data_in gs) ≡ gs
  row_again no_more x h bare = refl
  row_again (and_more g gs) x h bare =
      ap (λ (w : WrittenArg). and_more w (row_written (data_in gs))) (written_again g h.0 h.2 (none_left (names_in g) (names_of gs) bare))
      ∙ ap (λ (r : Row). and_more g r) (behind_again gs h.1 h.3 (none_right (names_in g) (names_of gs) bare))

  behind_again : (gs : Row) (x : List ℕ) → Behind gs x → names_of gs ≡ [] → row_written (data_in gs) ≡ gs
  behind_again no_more x h bare = refl
  behind_again (and_more g gs) x h bare =
      ap (λ (w : WrittenArg). and_more w (row_written (data_in gs)))
      (written_again g h.3.0 h.3.2 (none_left (names_in g) (names_of gs) bare))
      ∙ ap (λ (r : Row). and_more g r) (behind_again gs h.3.1 h.3.3 (none_right (names_in g) (names_of gs) bare))

mutual
  pub value_back : (d : Datum) → value_in (as_written d) ≡ d
  value_back (number n) = refl
  value_back (truth b) = refl
  value_back (text t) = refl
  value_back (cap c) = refl
  value_back (list ds) = ap list (data_back ds)

  data_back : (ds : Data) → data_in (row_written ds) ≡ ds
  data_back no_data = refl
  data_back (data_and d ds) =
      ap (λ (e : Datum). data_and e (data_in (row_written ds))) (value_back d) ∙ ap (λ (es : Data). data_and d es) (data_back ds)

-- no name is written in a value
mutual
  nameless : (d : Datum) → names_in (as_written d) ≡ []
  nameless (number n) = refl
  nameless (truth b) = refl
  nameless (text t) = refl
  nameless (cap c) = refl
  nameless (list ds) = nameless_row ds

  nameless_row : (ds : Data) → names_of (row_written ds) ≡ []
  nameless_row no_data = refl
  nameless_row (data_and d ds) = ap (λ (l : List (List ℕ)). l ++ names_of (row_written ds)) (nameless d) ∙ nameless_row ds

-- what a reading of the whole says
abbrev pub Says : List ℕ → Judged WrittenArg → Type 0
Says bytes (Ok g) = SpellsDatum bytes (value_in g) × Fits (value_in g)
Says bytes (Err BadForm) = (d : Datum) → SpellsDatum bytes d → ⊥
Says bytes (Err BadNumber) = ((d : Datum) × SpellsDatum bytes d) × ((d : Datum) → SpellsDatum bytes d → Fits d → ⊥)
Says bytes (Err _) = ⊥

-- what is spelled is read
pub record Found (bytes : List ℕ) (d : Datum) : Type 0 where
  pub found : Maybe
  pub read : read_alone bytes ≡ in_range found
  pub fitting : Fitting found (as_written d)

pub found_again : (bytes : List ℕ) (d : Datum) → SpellsDatum bytes d → Found bytes d
found_again bytes d s =
    let a =
    value_again false (as_written d) 4 bytes [] s.spelled (λ _. nameless d) s.shallow (record { name = refl; digit = refl; point = refl })
    in
    record {
      found = a.found;
      read =
          ap (λ (l : List ℕ). read_alone l) (sym (append-nil bytes))
          ∙ ap (λ (r : Judged (Maybe × List ℕ)). r >>= λ v. read_end v.1 >>= λ _. in_range v.0) a.read;
      fitting = a.fitting;
    }

no_form : (o : Maybe) → in_range o ≡ Err BadForm → ⊥
no_form None h = cc
no_form (Some g) h = cc

-- where the form of the whole is bad, nothing is spelled
unspelled : (bytes : List ℕ) → read_alone bytes ≡ Err BadForm → (d : Datum) → SpellsDatum bytes d → ⊥
unspelled bytes e d s = let a = found_again bytes d s in no_form a.found (sym a.read ∙ e)

-- where a number of the whole is bad, nothing that fits is spelled
unfit_by : (o : Maybe) (g : WrittenArg) → Fitting o g → in_range o ≡ Err BadNumber → WrittenFits g → ⊥
unfit_by None g f h fits = f fits
unfit_by (Some v) g f h fits = cc

unfit : (bytes : List ℕ) → read_alone bytes ≡ Err BadNumber → (d : Datum) → SpellsDatum bytes d → Fits d → ⊥
unfit bytes e d s fits = let a = found_again bytes d s in unfit_by a.found (as_written d) a.fitting (sym a.read ∙ e) fits

-- a value that was read is spelled
spelled_by : (bytes : List ℕ) (found : Maybe) (r : Reads false 4 bytes found []) → SpellsDatum bytes (value_in r.written)
spelled_by bytes found r =
    let back : as_written (value_in r.written) ≡ r.written = written_again r.written r.front r.spelled (r.allowed refl) in
    let same : r.front ≡ bytes = sym (r.whole ∙ append-nil r.front) in
    record {
      spelled = subst (λ (g : WrittenArg). Value g bytes) (sym back) (subst (λ (l : List ℕ). Value r.written l) same r.spelled);
      shallow = subst (λ (g : WrittenArg). depth g ≤ 4) (sym back) r.shallow;
    }

found_by : (bytes : List ℕ) (found : Maybe) (g : WrittenArg) → Fitting found g → as_written (value_in g) ≡ g
    → SpellsDatum bytes (value_in g) → read_alone bytes ≡ in_range found → Says bytes (in_range found)
found_by bytes (Some v) g f back s e = (
  subst (λ (h : WrittenArg). SpellsDatum bytes (value_in h)) (sym f.0) s,
  subst (λ (h : WrittenArg). Fits (value_in h)) (sym f.0) (subst WrittenFits (sym back) f.1),
)
found_by bytes None g f back s e = ((value_in g, s), unfit bytes e)

whole_by : (bytes : List ℕ) (m : Maybe) (rest : List ℕ) → read_value false 4 bytes ≡ Ok (m, rest)
    → read_alone bytes ≡ (read_end rest >>= λ u. in_range m) → Says bytes (read_end rest >>= λ u. in_range m)
whole_by bytes m (b ∷ rest) h e = unspelled bytes e
whole_by bytes m [] h e =
    let r = value_sound false 4 bytes m [] h in
    found_by bytes m r.written r.fitting (written_again r.written r.front r.spelled (r.allowed refl)) (spelled_by bytes m r) e

alone_by : (bytes : List ℕ) (v : Judged (Maybe × List ℕ)) → read_value false 4 bytes ≡ v → OnlyForm v
    → Says bytes (v >>= λ v. read_end v.1 >>= λ u. in_range v.0)
alone_by bytes (Ok v) h only =
    whole_by bytes v.0 v.1 h (ap (λ (r : Judged (Maybe × List ℕ)). r >>= λ v. read_end v.1 >>= λ u. in_range v.0) h)
alone_by bytes (Err BadForm) h only =
    unspelled bytes (ap (λ (r : Judged (Maybe × List ℕ)). r >>= λ v. read_end v.1 >>= λ u. in_range v.0) h)
alone_by bytes (Err BadByte) h only = absurd only
alone_by bytes (Err LongLine) h only = absurd only
alone_by bytes (Err AfterEnd) h only = absurd only
alone_by bytes (Err NoCommand) h only = absurd only
alone_by bytes (Err Misplaced) h only = absurd only
alone_by bytes (Err BadNumber) h only = absurd only
alone_by bytes (Err UnknownName) h only = absurd only
alone_by bytes (Err UnknownType) h only = absurd only
alone_by bytes (Err DoubledName) h only = absurd only
alone_by bytes (Err BadEdentype) h only = absurd only
alone_by bytes (Err NoEnd) h only = absurd only

pub alone_says : (bytes : List ℕ) → Says bytes (read_alone bytes)
alone_says bytes = alone_by bytes (read_value false 4 bytes) refl (only_value false 4 bytes)

-- what was read of the bytes, in the code's values
pub value_read : (bytes : List ℕ) (g : WrittenArg) (v : CodeValue) → read_alone bytes ≡ Ok g → datum v ≡ value_in g → IsReading bytes (Ok v)
value_read bytes g v h same =
    let s = subst (Says bytes) h (alone_says bytes) in
    (subst (SpellsDatum bytes) (sym same) s.0, subst Fits (sym same) s.1)

pub value_refused : (bytes : List ℕ) (cause : ScriptCause) → read_alone bytes ≡ Err cause → IsReading bytes (Err cause)
value_refused bytes BadForm h = subst (Says bytes) h (alone_says bytes)
value_refused bytes BadNumber h = subst (Says bytes) h (alone_says bytes)
value_refused bytes BadByte h = subst (Says bytes) h (alone_says bytes)
value_refused bytes LongLine h = subst (Says bytes) h (alone_says bytes)
value_refused bytes AfterEnd h = subst (Says bytes) h (alone_says bytes)
value_refused bytes NoCommand h = subst (Says bytes) h (alone_says bytes)
value_refused bytes Misplaced h = subst (Says bytes) h (alone_says bytes)
value_refused bytes UnknownName h = subst (Says bytes) h (alone_says bytes)
value_refused bytes UnknownType h = subst (Says bytes) h (alone_says bytes)
value_refused bytes DoubledName h = subst (Says bytes) h (alone_says bytes)
value_refused bytes BadEdentype h = subst (Says bytes) h (alone_says bytes)
value_refused bytes NoEnd h = subst (Says bytes) h (alone_says bytes)
