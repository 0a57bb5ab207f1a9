-- What the first part of some bytes says, or its first cause.
use Rattle.std.proofs.Common.{◌≡◌, ◌∙◌, ap, refl, subst, ℕ, zero, suc, ◌<◌, ◌≤◌, Bool, true, false, cond, ◌==◌, List, [], ◌∷◌, length}
use Rattle.std.proofs.Common.{take, Ok, Err, inl, inr, arith}
use Rattle.std.specs.Prelude.{nat_lt}
use Rattle.std.specs.List.{list_all, filter}
use Rattle.std.proofs.lemmas.Bool.{cases_Bool, ltb-true, ltb-false}
use Rattle.std.proofs.lemmas.List.{length-take}
use Rattle.script_words.specs.Form.{is_printable}
use Rattle.eden_script.specs.Parts.{Part, line, declaration, unclosed, parts_of, line_at, line_of_place, begins_type}
use Rattle.script_words.specs.Lines.{onto, lines_of}
use Rattle.eden_script.specs.Tree.{Line}
use Rattle.eden_script.specs.Causes.{Seen, Passes, IsCause, IsSaid}
use Rattle.eden_script.specs.Flaws.{FirstFails}
use Rattle.eden_script.specs.Reading.{judge}
use Rattle.eden_script.specs.View.{FailsBy}
use Rattle.eden_script.specs.declared.flaw.Flaw.{Flaw}
use Rattle.eden_script.specs.declared.flaw.Flaw.TheVariants as flaw
use Rattle.script_words.specs.declared.cause.ScriptCause.{ScriptCause}
use Rattle.script_words.specs.declared.cause.ScriptCause.TheVariants.{BadByte, LongLine, AfterEnd, NoCommand, Misplaced, BadForm}
use Rattle.script_words.specs.declared.cause.ScriptCause.TheVariants.{BadNumber, UnknownName, UnknownType, DoubledName, BadEdentype}
use Rattle.script_words.specs.declared.cause.ScriptCause.TheVariants.{NoEnd}
use Rattle.eden_script.proofs.Cutting.{part_line}
use Rattle.eden_script.proofs.Verdicts.{Verdict, IsLine, IsLineCause, judged}

pub line_said : (seen : Seen) (bytes : List ℕ) (l : Line) → judge seen bytes ≡ Ok l → IsSaid seen (line bytes) l
line_said seen bytes l e =
    let v : IsLine seen bytes l = subst (Verdict seen bytes) e (judged seen bytes) in
    record { passes = λ i c. v.passes c; tells = v.tells }

pub line_cause : (seen : Seen) (bytes : List ℕ) (cause : ScriptCause) → judge seen bytes ≡ Err cause → IsCause seen (line bytes) 0 cause
line_cause seen bytes cause e =
    let v : IsLineCause seen bytes cause = subst (Verdict seen bytes) e (judged seen bytes) in
    record { earlier = λ j c w. absurd (omega (arith, w)); before = λ c w. v.before c w; fails = v.fails }

-- ## A cause stands in one of the lines

past : (lines : List (List ℕ)) (i : ℕ) → length lines ≤ i → line_at lines i ≡ []
past [] i h = refl
past (l ∷ lines) zero h = absurd (omega (arith, h))
past (l ∷ lines) (suc i) h = past lines i (omega (arith, h))

few_onto : (b : ℕ) (lines : List (List ℕ)) (n : ℕ) → length lines ≤ n → length (onto b lines) ≤ suc n
few_onto b [] n h = omega arith
few_onto b (l ∷ lines) n h = omega (arith, h)

few_by : (b : ℕ) (bytes : List ℕ) (c : Bool) → length (lines_of bytes) ≤ length bytes
    → length (cond c ([] ∷ lines_of bytes) (onto b (lines_of bytes))) ≤ suc (length bytes)
few_by b bytes true h = omega (arith, h)
few_by b bytes false h = few_onto b (lines_of bytes) (length bytes) h

pub few_lines : (bytes : List ℕ) → length (lines_of bytes) ≤ length bytes
few_lines [] = omega arith
few_lines (b ∷ bytes) = few_by b bytes (b == 10) (few_lines bytes)

some_onto : (b : ℕ) (lines : List (List ℕ)) → 0 < length (onto b lines)
some_onto b [] = omega arith
some_onto b (l ∷ lines) = omega arith

some_by : (b : ℕ) (bytes : List ℕ) (c : Bool) → 0 < length (cond c ([] ∷ lines_of bytes) (onto b (lines_of bytes)))
some_by b bytes true = omega arith
some_by b bytes false = some_onto b (lines_of bytes)

-- some bytes have a line
pub some_lines : (bytes : List ℕ) → 0 < length bytes → 0 < length (lines_of bytes)
some_lines [] h = absurd (omega (arith, h))
some_lines (b ∷ bytes) h = some_by b bytes (b == 10)

few_kept : (p : ℕ → Bool) (bytes : List ℕ) → length (filter p bytes) ≤ length bytes
few_kept p [] = omega arith
few_kept p (b ∷ bytes) = by (p b) refl (few_kept p bytes)
  where
    by : (c : Bool) → p b ≡ c → length (filter p bytes) ≤ length bytes → length (filter p (b ∷ bytes)) ≤ suc (length bytes)
    by true e h = search (arith, e, h)
    by false e h = search (arith, e, h)

few_before : (text : List ℕ) (place : ℕ) → line_of_place text place ≤ length text
few_before text place = omega (arith, few_kept (λ b. b == 10) (take place text), length-take place text)

module _ (seen : Seen) (text : List ℕ) (i : ℕ) (after : length text < i) where
  beyond : line_at (lines_of text) i ≡ []
  beyond = past (lines_of text) i (omega (arith, after, few_lines text))

  none_beyond : (c : ScriptCause) → Passes c seen (declaration text) i
  none_beyond BadByte = ap (list_all is_printable) beyond
  none_beyond LongLine = omega (arith, ap (λ (l : List ℕ). length l) beyond)
  none_beyond AfterEnd = λ e. absurd (omega (arith, after, e))
  none_beyond NoCommand = tt
  none_beyond Misplaced = λ e. absurd (omega (arith, after, e))
  none_beyond BadForm = tt
  none_beyond BadNumber = tt
  none_beyond UnknownName = tt
  none_beyond UnknownType = tt
  none_beyond DoubledName = λ place name h e. absurd (omega (arith, after, e, few_before text place))
  none_beyond BadEdentype = ((λ e. absurd (omega (arith, after, e))), (λ place h e. omega (arith, after, e, few_before text place)))
  none_beyond NoEnd = tt

  none_unclosed : (c : ScriptCause) → Passes c seen (unclosed (lines_of text)) i
  none_unclosed BadByte = ap (list_all is_printable) beyond
  none_unclosed LongLine = omega (arith, ap (λ (l : List ℕ). length l) beyond)
  none_unclosed AfterEnd = tt
  none_unclosed NoCommand = tt
  none_unclosed Misplaced = tt
  none_unclosed BadForm = tt
  none_unclosed BadNumber = tt
  none_unclosed UnknownName = tt
  none_unclosed UnknownType = tt
  none_unclosed DoubledName = tt
  none_unclosed BadEdentype = tt
  none_unclosed NoEnd = tt

within : (n i : ℕ) → (n < i → ⊥) → i ≤ n
within n i h = elim (cases_Bool (nat_lt n i)) [ inl x ↦ absurd (h (ltb-true n i x)) | inr x ↦ ltb-false n i x ]

pub line_fails : (seen : Seen) (bytes first behind : List ℕ) → lines_of bytes ≡ first ∷ lines_of behind → begins_type first ≡ false
    → (i : ℕ) (c : ScriptCause) → IsCause seen (line first) i c → FirstFails seen bytes i c
line_fails seen bytes first behind e begins zero c h =
    (line first, parts_of (lines_of behind), ap parts_of e ∙ part_line first (lines_of behind) begins, h, omega arith)
line_fails seen bytes first behind e begins (suc i) c h = absurd (h.fails (h.earlier 0 c (omega arith)))

pub declaration_fails : (seen : Seen) (bytes text : List ℕ) (behind : List Part) → parts_of (lines_of bytes) ≡ declaration text ∷ behind
    → length text ≤ length bytes → (i : ℕ) (c : ScriptCause) → IsCause seen (declaration text) i c → FirstFails seen bytes i c
declaration_fails seen bytes text behind e short i c h =
    let bound : i ≤ length text = within (length text) i (λ w. h.fails (none_beyond seen text i w c)) in
    (declaration text, behind, e, h, omega (arith, short, bound))

pub unclosed_fails : (seen : Seen) (bytes : List ℕ) (behind : List Part) → parts_of (lines_of bytes) ≡ unclosed (lines_of bytes) ∷ behind
    → (i : ℕ) (c : ScriptCause) → IsCause seen (unclosed (lines_of bytes)) i c → FirstFails seen bytes i c
unclosed_fails seen bytes behind e i c h =
    (unclosed (lines_of bytes), behind, e, h, within (length bytes) i (λ w. h.fails (none_unclosed seen bytes i w c)))

-- a flaw of a part is one of the whole
pub pass_on : (F G : ℕ → ScriptCause → Type 0) → ((i : ℕ) (c : ScriptCause) → F i c → G i c) → (e : Flaw) → FailsBy F e → FailsBy G e
pass_on F G step flaw.Memory h = tt
pass_on F G step (flaw.At at) h = step at.line at.cause h
