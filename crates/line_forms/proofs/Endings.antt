-- What a line ends with: what is read is spelled, and what is spelled is read.
use Rattle.std.proofs.Common.{◌≡◌, ◌∙◌, ap, sym, refl, subst, ℕ, false, List, [], ◌∷◌, ◌++◌, codes, Option, Some, None, Ok, Err}
use Rattle.std.proofs.Common.{append-nil}
use Rattle.eden_value.specs.Datum.{Datum}
use Rattle.script_words.specs.Form.{starts_with, is_digit, quoted}
use Rattle.script_words.specs.Tree.{WrittenMode, WrittenArg}
use Rattle.script_words.specs.Grammar.{◌⋅◌, Is, Quoted}
use Rattle.script_words.specs.Grammar as grammar
use Rattle.script_words.specs.Alone.{as_written, SpellsDatum}
use Rattle.script_words.specs.View.{value_in}
use Rattle.script_words.specs.Reading.{Judged, Reading, ◌>>=◌, read_word, read_end, read_quoted, read_text, read_mode, read_crash_mode}
use Rattle.script_words.specs.Reading.{read_alone, in_range}
use Rattle.script_words.specs.Reading as words
use Rattle.script_words.specs.declared.cause.ScriptCause.TheVariants.{BadForm, BadNumber, BadByte, LongLine, AfterEnd, NoCommand, Misplaced}
use Rattle.script_words.specs.declared.cause.ScriptCause.TheVariants.{UnknownName, UnknownType, DoubledName, BadEdentype, NoEnd}
use Rattle.script_words.proofs.Pieces.{bind_ok, same_ok, end_takes, word_takes, word_again}
use Rattle.script_words.proofs.Rules.{OnlyForm, only_bind, only_word, only_end}
use Rattle.script_words.proofs.ValueLaws.{Fitting}
use Rattle.script_words.proofs.Wholes.{quoted_again}
use Rattle.script_words.proofs.ModeLaws.{only_quoted, quoted_takes, FitsHow, mode_takes, crash_mode_takes, only_mode}
use Rattle.script_words.proofs.ModeLaws.{only_crash_mode, mode_again, crash_mode_again, mode_stops, crash_mode_stops}
use Rattle.script_words.proofs.Lone.{Says, alone_says, found_again, value_back}
use Rattle.line_forms.specs.Forms.{Last, nothing, datum, words, mode}
use Rattle.line_forms.specs.Spelling.{Ends}
use Rattle.line_forms.specs.Tests.{LastFits}
use Rattle.line_forms.specs.Reading.{Maybe, as_datum, read_datum, as_mode, read_no_ending, read_value_ending, read_text_ending}
use Rattle.line_forms.specs.Reading.{read_ending}
use Rattle.line_forms.specs.declared.form.Ending.{Ending}
use Rattle.line_forms.specs.declared.form.Ending.TheVariants.{Nothing, Value, Text, Mode, MaybeMode}

-- what was read is this, in its range, or it is out of its range
abbrev pub FitsLast : Maybe → Last → Type 0
FitsLast None l = LastFits l → ⊥
FitsLast (Some k) l = (k ≡ l) × LastFits l

-- what was read is spelled
abbrev pub EndTaken : Ending → List ℕ → Maybe → Type 0
EndTaken e bytes m = (l : Last) × Ends e l bytes × FitsLast m l

-- what is spelled is read
abbrev pub EndAgain : Ending → List ℕ → Last → Type 0
EndAgain e bytes l = (m : Maybe) × (read_ending e bytes ≡ Ok m) × FitsLast m l

-- ## Values

-- what a value alone is read as
datum_by : (r : Judged WrittenArg) → OnlyForm (as_datum (r >>= λ g. Ok (value_in g)))
    → (bytes : List ℕ) → Says bytes r → (m : Maybe) → as_datum (r >>= λ g. Ok (value_in g)) ≡ Ok m
    → (d : Datum) × SpellsDatum bytes d × FitsLast m (datum d)
datum_by (Ok g) only bytes says m h =
    (value_in g, says.0, subst (λ m. FitsLast m (datum (value_in g))) (same_ok (Some (datum (value_in g))) m h) (refl, says.1))
datum_by (Err BadNumber) only bytes says m h =
    (says.0.0, says.0.1, subst (λ m. FitsLast m (datum says.0.0)) (same_ok None m h) (says.1 says.0.0 says.0.1))
datum_by (Err BadForm) only bytes says m h = absurd cc
datum_by (Err BadByte) only bytes says m h = absurd says
datum_by (Err LongLine) only bytes says m h = absurd says
datum_by (Err AfterEnd) only bytes says m h = absurd says
datum_by (Err NoCommand) only bytes says m h = absurd says
datum_by (Err Misplaced) only bytes says m h = absurd says
datum_by (Err UnknownName) only bytes says m h = absurd says
datum_by (Err UnknownType) only bytes says m h = absurd says
datum_by (Err DoubledName) only bytes says m h = absurd says
datum_by (Err BadEdentype) only bytes says m h = absurd says
datum_by (Err NoEnd) only bytes says m h = absurd says

only_datum_by : (r : Judged WrittenArg) (bytes : List ℕ) → Says bytes r → OnlyForm (as_datum (r >>= λ g. Ok (value_in g)))
only_datum_by (Ok g) bytes says = tt
only_datum_by (Err BadNumber) bytes says = tt
only_datum_by (Err BadForm) bytes says = tt
only_datum_by (Err BadByte) bytes says = says
only_datum_by (Err LongLine) bytes says = says
only_datum_by (Err AfterEnd) bytes says = says
only_datum_by (Err NoCommand) bytes says = says
only_datum_by (Err Misplaced) bytes says = says
only_datum_by (Err UnknownName) bytes says = says
only_datum_by (Err UnknownType) bytes says = says
only_datum_by (Err DoubledName) bytes says = says
only_datum_by (Err BadEdentype) bytes says = says
only_datum_by (Err NoEnd) bytes says = says

only_datum : (bytes : List ℕ) → OnlyForm (as_datum (read_datum bytes))
only_datum bytes = only_datum_by (read_alone bytes) bytes (alone_says bytes)

datum_again_by : (found : words.Maybe) (d : Datum) → Fitting found (as_written d)
    → (m : Maybe) × (as_datum (in_range found >>= λ g. Ok (value_in g)) ≡ Ok m) × FitsLast m (datum d)
datum_again_by None d f = (None, refl, f)
datum_again_by (Some g) d f =
    let e : value_in g ≡ d = ap value_in f.0 ∙ value_back d in
    (Some (datum (value_in g)), refl, (ap datum e, f.1))

datum_again : (bytes : List ℕ) (d : Datum) → SpellsDatum bytes d
    → (m : Maybe) × (as_datum (read_datum bytes) ≡ Ok m) × FitsLast m (datum d)
datum_again bytes d s =
    let a = found_again bytes d s in
    let b = datum_again_by a.found d a.fitting in
    (b.0, ap (λ (r : Judged WrittenArg). as_datum (r >>= λ g. Ok (value_in g))) a.read ∙ b.1, b.2)

-- ## Modes

mode_fits : (m : Option WrittenMode) (how : WrittenMode) → FitsHow m how → FitsLast (as_mode m) (mode how)
mode_fits None how h = h
mode_fits (Some x) how h = (ap mode h.0, h.1)

-- ## Endings

pub only_ending : (e : Ending) (bytes : List ℕ) → OnlyForm (read_ending e bytes)
only_ending Nothing bytes = only_bind (read_end bytes) _ (only_end bytes) (λ u. tt)
only_ending Value bytes = only_bind (read_word (codes " ") bytes) _ (only_word (codes " ") bytes) (λ rest. only_datum rest)
only_ending Text bytes =
    only_bind (read_word (codes " ") bytes) _ (only_word (codes " ") bytes)
    (λ rest. only_bind (read_quoted rest) _ (only_quoted rest) (λ t. only_bind (read_end t.1) _ (only_end t.1) (λ u. tt)))
only_ending Mode bytes = only_bind (read_mode bytes) _ (only_mode bytes) (λ how. tt)
only_ending MaybeMode bytes = only_bind (read_crash_mode bytes) _ (only_crash_mode bytes) (λ how. tt)

pub ending_takes : (e : Ending) (bytes : List ℕ) (m : Maybe) → read_ending e bytes ≡ Ok m → EndTaken e bytes m
ending_takes Nothing bytes m h =
    let a = bind_ok (read_end bytes) (λ u. Ok (Some nothing)) m h in
    (nothing, end_takes bytes a.0 a.1, subst (λ m. FitsLast m nothing) (same_ok (Some nothing) m a.2) (refl, tt))
ending_takes Value bytes m h =
    let a = bind_ok (read_word (codes " ") bytes) (λ rest. as_datum (read_datum rest)) m h in
    let b = datum_by (read_alone a.0) (only_datum a.0) a.0 (alone_says a.0) m a.2 in
    (datum b.0, (codes " ", a.0, refl, b.1, word_takes (codes " ") bytes a.0 a.1), b.2)
ending_takes Text bytes m h =
    let a =
    bind_ok (read_word (codes " ") bytes) (λ rest. read_quoted rest >>= λ t. read_end t.1 >>= λ u. Ok (Some (words t.0))) m h in
    let b = bind_ok (read_quoted a.0) (λ t. read_end t.1 >>= λ u. Ok (Some (words t.0))) m a.2 in
    let c = bind_ok (read_end b.0.1) (λ u. Ok (Some (words b.0.0))) m b.2 in
    let T = quoted_takes a.0 b.0.0 b.0.1 b.1 in
    let whole : T.0 ≡ a.0 =
    sym (append-nil T.0) ∙ ap (λ (l : List ℕ). T.0 ++ l) (sym (end_takes b.0.1 c.0 c.1)) ∙ sym T.2 in (
      words b.0.0,
      (codes " ", a.0, refl, subst (Quoted b.0.0) whole T.1, word_takes (codes " ") bytes a.0 a.1),
      subst (λ m. FitsLast m (words b.0.0)) (same_ok (Some (words b.0.0)) m c.2) (refl, tt),
    )
ending_takes Mode bytes m h =
    let a = bind_ok (read_mode bytes) (λ how. Ok (as_mode how)) m h in
    let M = mode_takes bytes a.0 a.1 in
    (mode M.0, M.1, subst (λ m. FitsLast m (mode M.0)) (same_ok (as_mode a.0) m a.2) (mode_fits a.0 M.0 M.2))
ending_takes MaybeMode bytes m h =
    let a = bind_ok (read_crash_mode bytes) (λ how. Ok (as_mode how)) m h in
    let M = crash_mode_takes bytes a.0 a.1 in
    (mode M.0, M.1, subst (λ m. FitsLast m (mode M.0)) (same_ok (as_mode a.0) m a.2) (mode_fits a.0 M.0 M.2))

pub ending_again : (e : Ending) (l : Last) (bytes : List ℕ) → Ends e l bytes → EndAgain e bytes l
ending_again Nothing nothing bytes h = (Some nothing, ap read_no_ending h, (refl, tt))
ending_again Nothing (datum d) bytes h = absurd h
ending_again Nothing (words t) bytes h = absurd h
ending_again Nothing (mode how) bytes h = absurd h
ending_again Value nothing bytes h = absurd h
ending_again Value (datum d) bytes h =
    let b = datum_again h.1 d h.3 in
    let line : bytes ≡ codes " " ++ h.1 = h.4 ∙ ap (λ (l : List ℕ). l ++ h.1) h.2 in (
      b.0,
      ap read_value_ending line ∙ ap (λ (r : Judged (List ℕ)). r >>= λ rest. as_datum (read_datum rest)) (word_again (codes " ") h.1) ∙ b.1,
      b.2,
    )
ending_again Value (words t) bytes h = absurd h
ending_again Value (mode how) bytes h = absurd h
ending_again Text nothing bytes h = absurd h
ending_again Text (datum d) bytes h = absurd h
ending_again Text (words t) bytes h =
    let line : bytes ≡ codes " " ++ (34 ∷ (quoted t ++ 34 ∷ [])) =
    h.4 ∙ ap (λ (l : List ℕ). l ++ h.1) h.2 ∙ ap (λ (l : List ℕ). codes " " ++ l) h.3.0 in (
      Some (words t),
      ap read_text_ending line
          ∙ ap (λ (r : Reading (List ℕ)). r >>= λ t. read_end t.1 >>= λ u. Ok (Some (words t.0))) (quoted_again t [] h.3.1),
      (refl, tt),
    )
ending_again Text (mode how) bytes h = absurd h
ending_again Mode nothing bytes h = absurd h
ending_again Mode (datum d) bytes h = absurd h
ending_again Mode (words t) bytes h = absurd h
ending_again Mode (mode how) bytes h =
    let M = mode_again how bytes h in
    (as_mode M.0, ap (λ (r : Judged (Option WrittenMode)). r >>= λ how. Ok (as_mode how)) M.1, mode_fits M.0 how M.2)
ending_again MaybeMode nothing bytes h = absurd h
ending_again MaybeMode (datum d) bytes h = absurd h
ending_again MaybeMode (words t) bytes h = absurd h
ending_again MaybeMode (mode how) bytes h =
    let M = crash_mode_again how bytes h in
    (as_mode M.0, ap (λ (r : Judged (Option WrittenMode)). r >>= λ how. Ok (as_mode how)) M.1, mode_fits M.0 how M.2)

-- no digit stands where an end begins
blank_stops : (P : List ℕ → Type 0) (bytes : List ℕ) → (grammar.Blank ⋅ P) bytes → starts_with is_digit bytes ≡ false
blank_stops P bytes h = ap (starts_with is_digit) (h.4 ∙ ap (λ (l : List ℕ). l ++ h.1) h.2)

pub ends_stop : (e : Ending) (l : Last) (bytes : List ℕ) → Ends e l bytes → starts_with is_digit bytes ≡ false
ends_stop Nothing nothing bytes h = ap (starts_with is_digit) h
ends_stop Nothing (datum d) bytes h = absurd h
ends_stop Nothing (words t) bytes h = absurd h
ends_stop Nothing (mode how) bytes h = absurd h
ends_stop Value nothing bytes h = absurd h
ends_stop Value (datum d) bytes h = blank_stops _ bytes h
ends_stop Value (words t) bytes h = absurd h
ends_stop Value (mode how) bytes h = absurd h
ends_stop Text nothing bytes h = absurd h
ends_stop Text (datum d) bytes h = absurd h
ends_stop Text (words t) bytes h = blank_stops _ bytes h
ends_stop Text (mode how) bytes h = absurd h
ends_stop Mode nothing bytes h = absurd h
ends_stop Mode (datum d) bytes h = absurd h
ends_stop Mode (words t) bytes h = absurd h
ends_stop Mode (mode how) bytes h = mode_stops how bytes h
ends_stop MaybeMode nothing bytes h = absurd h
ends_stop MaybeMode (datum d) bytes h = absurd h
ends_stop MaybeMode (words t) bytes h = absurd h
ends_stop MaybeMode (mode how) bytes h = crash_mode_stops how bytes h
