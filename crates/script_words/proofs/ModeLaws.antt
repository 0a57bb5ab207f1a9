-- Modes and texts at the end of a line.
use Rattle.std.proofs.Common.{◌≡◌, ◌∙◌, ap, sym, refl, subst, ℕ, Bool, true, false, cond, List, [], ◌∷◌, ◌++◌, length, codes}
use Rattle.std.proofs.Common.{Option, Some, None, Ok, inl, inr, arith, append_assoc}
use Rattle.std.specs.Prelude.{nat_le}
use Rattle.std.specs.Str.{bytes_eq}
use Rattle.std.proofs.lemmas.Bool.{cases_Bool, leb-true, leb-false}
use Rattle.std.proofs.lemmas.Slice.Eq.{bytes_eq-Decides}
use Rattle.script_words.specs.Form.{starts_with, is_number, is_digit, number_of, IsText, quoted}
use Rattle.script_words.specs.Tree.{WrittenMode, keep, lose, garble}
use Rattle.script_words.specs.Grammar.{Number, Quoted, Mode, CrashMode}
use Rattle.script_words.specs.Causes.{HowFits}
use Rattle.script_words.specs.Reading.{Judged, ◌>>=◌, form_of, read_word}
use Rattle.script_words.specs.Reading.{read_last_digits, read_text, short_text, text_body, read_quoted}
use Rattle.script_words.specs.Reading.{up_to, garbled, read_mode, read_crash_mode}
use Rattle.script_words.proofs.Rules.{OnlyForm, only_bind, only_word, only_last_digits}
use Rattle.script_words.proofs.Rules.{last_takes, last_again}
use Rattle.script_words.proofs.Pieces.{bind_ok, same_ok, if_ok, word_takes}
use Rattle.script_words.proofs.Texts.{text_takes}
use Rattle.script_words.proofs.ValueLaws.{form_ok}
use Rattle.script_words.proofs.Calls.{only_bool, only_text}

pub number_is : (bytes d : List ℕ) → read_last_digits bytes ≡ Ok d → Number (number_of d) bytes
number_is bytes d h = let t = last_takes bytes d h in (ap is_number t.0 ∙ t.1, ap number_of t.0)

pub only_quoted : (bytes : List ℕ) → OnlyForm (read_quoted bytes)
only_quoted bytes = only_bind (read_word (codes "\"") bytes) read_text (only_word (codes "\"") bytes) only_text

pub quoted_takes : (bytes t rest : List ℕ) → read_quoted bytes ≡ Ok (t, rest) → (x : List ℕ) × Quoted t x × (bytes ≡ x ++ rest)
quoted_takes bytes t rest h =
    let a = bind_ok (read_word (codes "\"") bytes) read_text (t, rest) h in
    let b = bind_ok (form_of (text_body false a.0)) short_text (t, rest) a.2 in
    let s = if_ok (nat_le (length b.0.0) 1024) b.0 (t, rest) b.2 in
    let T = text_takes false a.0 b.0.0 b.0.1 (form_ok (text_body false a.0) b.0 b.1) in
    let same : b.0.0 ≡ t = ap (λ (p : List ℕ × List ℕ). p.0) s.1 in
    let last : b.0.1 ≡ rest = ap (λ (p : List ℕ × List ℕ). p.1) s.1 in
    let good : IsText b.0.0 = record { printable = T.1; short = leb-true (length b.0.0) 1024 s.0 } in (
      (34 ∷ quoted t) ++ 34 ∷ [],
      (refl, subst IsText same good),
      word_takes (codes "\"") bytes a.0 a.1
          ∙ ap (λ (l : List ℕ). 34 ∷ l)
          (T.0 ∙ ap (λ (l : List ℕ). quoted b.0.0 ++ 34 ∷ l) last ∙ ap (λ (l : List ℕ). quoted l ++ 34 ∷ rest) same)
          ∙ sym (append_assoc (34 ∷ quoted t) (34 ∷ []) rest),
    )

abbrev pub FitsHow : Option WrittenMode → WrittenMode → Type 0
FitsHow None how = HowFits how → ⊥
FitsHow (Some h) how = (h ≡ how) × HowFits how

pub garble_fits : (d : List ℕ) → FitsHow (garbled (up_to 255 d)) (garble (number_of d))
garble_fits d =
    elim (cases_Bool (nat_le (number_of d) 255)) as (λ _. FitsHow (garbled (up_to 255 d)) (garble (number_of d))) [
      | inl h ↦ subst (λ (b : Bool). FitsHow (garbled (cond b (Some (number_of d)) None)) (garble (number_of d))) (sym h)
          (refl, (omega arith, leb-true _ _ h))
      | inr h ↦ subst (λ (b : Bool). FitsHow (garbled (cond b (Some (number_of d)) None)) (garble (number_of d))) (sym h)
          (λ f. omega (arith, leb-false _ _ h, f.1))
    ]

abbrev pub ModeIs : (WrittenMode → List ℕ → Type 0) → List ℕ → Option WrittenMode → Type 0
ModeIs M bytes m = (how : WrittenMode) × M how bytes × FitsHow m how

pub garble_read : (bytes : List ℕ) (m : Option WrittenMode)
    → (read_word (codes " garble ") bytes >>= λ rest. read_last_digits rest >>= λ d. Ok (garbled (up_to 255 d))) ≡ Ok m
    → ModeIs Mode bytes m
garble_read bytes m h =
    let a = bind_ok (read_word (codes " garble ") bytes) (λ rest. read_last_digits rest >>= λ d. Ok (garbled (up_to 255 d))) m h in
    let b = bind_ok (read_last_digits a.0) (λ d. Ok (garbled (up_to 255 d))) m a.2 in (
      garble (number_of b.0),
      (codes " garble ", a.0, refl, number_is a.0 b.0 b.1, word_takes (codes " garble ") bytes a.0 a.1),
      subst (λ m. FitsHow m (garble (number_of b.0))) (same_ok _ m b.2) (garble_fits b.0),
    )

pub mode_by : (bytes : List ℕ) (m : Option WrittenMode) (x y : Bool) → bytes_eq bytes (codes " keep") ≡ x → bytes_eq bytes (codes " lose") ≡ y
    → cond x (Ok (Some keep))
    (cond y (Ok (Some lose)) (read_word (codes " garble ") bytes >>= λ rest. read_last_digits rest >>= λ d. Ok (garbled (up_to 255 d)))) ≡
    Ok m → ModeIs Mode bytes m
mode_by bytes m true y e f h =
    (keep, (bytes_eq-Decides bytes (codes " keep")).0 e, subst (λ m. FitsHow m keep) (same_ok (Some keep) m h) (refl, tt))
mode_by bytes m false true e f h =
    (lose, (bytes_eq-Decides bytes (codes " lose")).0 f, subst (λ m. FitsHow m lose) (same_ok (Some lose) m h) (refl, tt))
mode_by bytes m false false e f h = garble_read bytes m h

pub mode_takes : (bytes : List ℕ) (m : Option WrittenMode) → read_mode bytes ≡ Ok m → ModeIs Mode bytes m
mode_takes bytes m h = mode_by bytes m (bytes_eq bytes (codes " keep")) (bytes_eq bytes (codes " lose")) refl refl h

pub crash_of : (how : WrittenMode) (bytes : List ℕ) → Mode how bytes → CrashMode how bytes
crash_of keep bytes h = h
crash_of lose bytes h = inl h
crash_of (garble b) bytes h = h

pub crash_mode_takes : (bytes : List ℕ) (m : Option WrittenMode) → read_crash_mode bytes ≡ Ok m → ModeIs CrashMode bytes m
crash_mode_takes [] m h = (lose, inr refl, subst (λ m. FitsHow m lose) (same_ok (Some lose) m h) (refl, tt))
crash_mode_takes (b ∷ bytes) m h = let t = mode_takes (b ∷ bytes) m h in (t.0, crash_of t.0 (b ∷ bytes) t.1, t.2)

pub only_mode : (bytes : List ℕ) → OnlyForm (read_mode bytes)
only_mode bytes =
    only_bool (bytes_eq bytes (codes " keep")) _ _ tt (only_bool (bytes_eq bytes (codes " lose")) _ _ tt
    (only_bind (read_word (codes " garble ") bytes) _ (only_word (codes " garble ") bytes)
    (λ r. only_bind (read_last_digits r) _ (only_last_digits r) (λ d. tt))))

pub only_crash_mode : (bytes : List ℕ) → OnlyForm (read_crash_mode bytes)
only_crash_mode [] = tt
only_crash_mode (b ∷ bytes) = only_mode (b ∷ bytes)

abbrev pub ModeAgain : (List ℕ → Judged (Option WrittenMode)) → WrittenMode → List ℕ → Type 0
ModeAgain read how bytes = (m : Option WrittenMode) × (read bytes ≡ Ok m) × FitsHow m how

pub mode_again : (how : WrittenMode) (bytes : List ℕ) → Mode how bytes → ModeAgain read_mode how bytes
mode_again keep bytes h = (Some keep, ap read_mode h, (refl, tt))
mode_again lose bytes h = (Some lose, ap read_mode h, (refl, tt))
mode_again (garble b) bytes h =
    let line : bytes ≡ codes " garble " ++ h.1 = h.4 ∙ ap (λ (l : List ℕ). l ++ h.1) h.2 in (
      garbled (up_to 255 h.1),
      ap read_mode line ∙ ap (λ (r : Judged (List ℕ)). r >>= λ d. Ok (garbled (up_to 255 d)))
          (last_again h.1 h.3.0),
      subst (λ n. FitsHow (garbled (up_to 255 h.1)) (garble n)) h.3.1 (garble_fits h.1),
    )

pub mode_stops : (how : WrittenMode) (bytes : List ℕ) → Mode how bytes → starts_with is_digit bytes ≡ false
mode_stops keep bytes h = ap (starts_with is_digit) h
mode_stops lose bytes h = ap (starts_with is_digit) h
mode_stops (garble b) bytes h = ap (starts_with is_digit) (h.4 ∙ ap (λ (l : List ℕ). l ++ h.1) h.2)

pub crash_mode_stops : (how : WrittenMode) (bytes : List ℕ) → CrashMode how bytes → starts_with is_digit bytes ≡ false
crash_mode_stops keep bytes h = mode_stops keep bytes h
crash_mode_stops lose bytes (inl h) = mode_stops lose bytes h
crash_mode_stops lose bytes (inr h) = ap (starts_with is_digit) h
crash_mode_stops (garble b) bytes h = mode_stops (garble b) bytes h

pub crash_mode_again : (how : WrittenMode) (bytes : List ℕ) → CrashMode how bytes → ModeAgain read_crash_mode how bytes
crash_mode_again keep bytes h = (Some keep, ap read_crash_mode h, (refl, tt))
crash_mode_again lose bytes (inl h) = (Some lose, ap read_crash_mode h, (refl, tt))
crash_mode_again lose bytes (inr h) = (Some lose, ap read_crash_mode h, (refl, tt))
crash_mode_again (garble b) bytes h =
    let line : bytes ≡ codes " garble " ++ h.1 = h.4 ∙ ap (λ (l : List ℕ). l ++ h.1) h.2 in
    let m = mode_again (garble b) (codes " garble " ++ h.1) (codes " garble ", h.1, refl, h.3, refl) in
    (m.0, ap read_crash_mode line ∙ m.1, m.2)
