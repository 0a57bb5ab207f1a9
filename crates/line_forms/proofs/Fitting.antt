-- The rows of a script fit their forms.
use Rattle.std.proofs.Common.{◌≡◌, ◌∙◌, ap, sym, refl, subst, ℕ, suc, ◌+◌, ◌≤◌, Bool, true, false, cond, ◌==◌, ◌⊎◌, List, [], ◌∷◌, ◌++◌}
use Rattle.std.proofs.Common.{length, Some, inl, inr, arith}
use Rattle.std.specs.Prelude.{slice_get, codes}
use Rattle.std.specs.List.{All}
use Rattle.std.specs.Str.{bytes_eq}
use Rattle.std.proofs.lemmas.Bool.{cases_Bool}
use Rattle.std.proofs.lemmas.List.Elements.{All-nil, All-cons}
use Rattle.script_words.specs.Causes.{first_word}
use Rattle.script_words.specs.Lines.{onto, lines_of}
use Rattle.script_words.specs.declared.cause.ScriptCause.TheVariants.{Misplaced}
use Rattle.line_forms.specs.Fit.{IsOfSort, FitsForm, FitsKind, AreFit, RowsAreFit}
use Rattle.line_forms.specs.Forms.{Form, Kind, Last, nothing, datum, words, mode, Row, Line, idle, begins, does, finish, Which, the_first, the_end}
use Rattle.line_forms.specs.Forms.{unknown, other, among, which}
use Rattle.line_forms.specs.One.{IsPlain}
use Rattle.line_forms.specs.Scripts.{after, most_of, rows_of, Says}
use Rattle.line_forms.specs.Spelling.{Numbers, Ends, SpellsForm}
use Rattle.line_forms.specs.Tests.{Seen, at_first, NumbersFit, LastFits, places_of, IsSaid}
use Rattle.line_forms.specs.declared.form.Ending.{Ending}
use Rattle.line_forms.specs.declared.form.Ending.TheVariants.{Nothing, Value, Text, Mode, MaybeMode}
use Rattle.line_forms.specs.declared.form.Place.{Place}
use Rattle.line_forms.proofs.Verdicts.{index_of, form_or, first_unknown, end_unknown, other_unknown, end_first, other_first}

-- ## A line of a form

-- there are as many numbers as places, and behind them stands the end
numbers_end : (ps : List Place) (ns : List ℕ) (P : List ℕ → Type 0) (bytes : List ℕ) → Numbers ps ns P bytes
    → (length ns ≡ length ps) × ((b : List ℕ) × P b)
numbers_end [] [] P bytes h = (refl, (bytes, h))
numbers_end [] (n ∷ ns) P bytes h = absurd h
numbers_end (p ∷ ps) [] P bytes h = absurd h
numbers_end (p ∷ ps) (n ∷ ns) P bytes h = let r = numbers_end ps ns P h.3.1 h.3.3 in (ap suc r.0, r.1)

sort_of : (g : Ending) (e : Last) (b : List ℕ) → Ends g e b → IsOfSort g e
sort_of Nothing nothing b h = tt
sort_of Nothing (datum d) b h = h
sort_of Nothing (words t) b h = h
sort_of Nothing (mode how) b h = h
sort_of Value nothing b h = h
sort_of Value (datum d) b h = tt
sort_of Value (words t) b h = h
sort_of Value (mode how) b h = h
sort_of Text nothing b h = h
sort_of Text (datum d) b h = h
sort_of Text (words t) b h = tt
sort_of Text (mode how) b h = h
sort_of Mode nothing b h = h
sort_of Mode (datum d) b h = h
sort_of Mode (words t) b h = h
sort_of Mode (mode how) b h = tt
sort_of MaybeMode nothing b h = h
sort_of MaybeMode (datum d) b h = h
sort_of MaybeMode (words t) b h = h
sort_of MaybeMode (mode how) b h = tt

form_fits : (most : ℕ) (f : Form) (ns : List ℕ) (e : Last) (bytes : List ℕ) → SpellsForm f ns e bytes → NumbersFit most f.places ns
    → LastFits e → FitsForm most f ns e
form_fits most f ns e bytes s fit last =
    let r = numbers_end f.places ns (Ends f.ending e) s.spelled.1 s.spelled.3 in
    record { count = r.0; ranges = fit; apart = s.apart; sort = sort_of f.ending e r.1.0 r.1.1; last_range = last }

-- ## The form of a word

abbrev Found : List Form → ℕ → ℕ → Form → Type 0
Found fs i j f = (k : ℕ) × (j ≡ i + k) × (slice_get fs k ≡ Some f)

among_by : (g : Form) (fs : List Form) (i j : ℕ) (word : List ℕ) (f : Form)
    → (among (suc i) fs word ≡ other j f → Found fs (suc i) j f) → (b : Bool) → cond b (other i g) (among (suc i) fs word) ≡ other j f
    → Found (g ∷ fs) i j f
among_by g fs i j word f later true e = (0, omega (arith, ap index_of e), ap (λ (w : Which). Some (form_or f w)) e)
among_by g fs i j word f later false e = let r = later e in (suc r.0, omega (arith, r.1), r.2)

among_at : (fs : List Form) (i j : ℕ) (word : List ℕ) (f : Form) → among i fs word ≡ other j f → Found fs i j f
among_at [] i j word f h = absurd cc
among_at (g ∷ fs) i j word f h = among_by g fs i j word f (among_at fs (suc i) j word f) (bytes_eq g.word word) h

behind_end : (b c : Bool) (w : Which) (i : ℕ) (f : Form) → cond b the_first (cond c the_end w) ≡ other i f → w ≡ other i f
behind_end true c w i f h = absurd cc
behind_end false true w i f h = absurd cc
behind_end false false w i f h = h

form_at : (kind : Kind) (word : List ℕ) (i : ℕ) (f : Form) → which kind word ≡ other i f → slice_get kind.others i ≡ Some f
form_at kind word i f h =
    let r =
    among_at kind.others 0 i word f
    (behind_end (bytes_eq kind.first.word word) (bytes_eq (codes "end") word) (among 0 kind.others word) i f h) in
    let same : i ≡ r.0 = omega (arith, r.1) in
    ap (slice_get kind.others) same ∙ r.2

-- ## Lines

-- the first line stood with this number
abbrev First : Kind → ℕ → Type 0
First kind most = (numbers : List ℕ) × (last : Last) × FitsForm 0 kind.first numbers last × (most ≡ most_of numbers)

abbrev Begun : Kind → Seen → Type 0
Begun kind seen = seen.begun ≡ true → First kind seen.most

-- what some lines leave, and their rows
record Left (kind : Kind) (seen end : Seen) (lines : List (List ℕ)) (rows : List Row) : Type 0 where
  begun : Begun kind end
  stays : seen.begun ≡ true → (end.begun ≡ true) × (end.most ≡ seen.most)
  ended : end.ended ≡ true → (seen.ended ≡ true) ⊎ (end.begun ≡ true)
  each : All (FitsKind kind end.most) rows
  few : length rows ≤ length lines

both : true ≡ false → ⊥
both e = cc

module _ (kind : Kind) (plain : IsPlain kind) (seen : Seen) (bytes : List ℕ) where
  -- a line that begins with a word of the kind is no blank one
  pub placed : (l : Line) → IsSaid kind seen bytes l → (w : Which) → which kind (first_word bytes) ≡ w → (w ≡ unknown → ⊥)
      → (w ≡ the_first → seen.begun ≡ false) × (seen.begun ≡ false → w ≡ the_first)
  placed l said w e known =
      elim (said.passes Misplaced) [
        | inl i ↦ absurd (known (sym e ∙ plain bytes i))
        | inr x ↦ ((λ h. x.0 (e ∙ h)), (λ h. sym e ∙ x.1 h))
      ]

  pub behind_first : (l : Line) → IsSaid kind seen bytes l → (w : Which) → which kind (first_word bytes) ≡ w → (w ≡ unknown → ⊥)
      → (w ≡ the_first → ⊥) → seen.begun ≡ true
  behind_first l said w e known later =
      elim (cases_Bool seen.begun) [ inl h ↦ h | inr h ↦ absurd (later ((placed l said w e known).1 h)) ]

left_by : (kind : Kind) → IsPlain kind → (seen : Seen) (bytes : List ℕ) (lines : List (List ℕ)) (end : Seen) (rest : List Row) (l : Line)
    → IsSaid kind seen bytes l → (Begun kind (after seen l) → Left kind (after seen l) end lines rest) → Begun kind seen
    → Left kind seen end (bytes ∷ lines) (rows_of l ++ rest)
left_by kind plain seen bytes lines end rest idle said later begun =
    let r = later begun in
    record { begun = r.begun; stays = r.stays; ended = r.ended; each = r.each; few = omega (arith, r.few) }
left_by kind plain seen bytes lines end rest (begins ns e) said later begun =
    let t = said.tells in
    let closed : seen.begun ≡ false = (placed kind plain seen bytes (begins ns e) said the_first t.0.0 first_unknown).0 refl in
    let r = later (λ _. (ns, e, form_fits 0 kind.first ns e bytes t.0.1 t.1.0 t.1.1, refl)) in
    record {
      begun = r.begun;
      stays = λ h. absurd (both (sym h ∙ closed));
      ended = r.ended;
      each = r.each;
      few = omega (arith, r.few);
    }
left_by kind plain seen bytes lines end rest (does q) said later begun =
    let t = said.tells in
    let f = t.0.0 in
    let open_ =
    behind_first kind plain seen bytes (does q) said (other q.form f) t.0.1 (other_unknown q.form f) (other_first q.form f) in
    let r = later begun in
    let ranges = subst (λ (w : Which). NumbersFit seen.most (places_of w) q.numbers) t.0.1 t.1.0 in
    let fits : FitsKind kind seen.most q =
    (f, form_at kind (first_word bytes) q.form f t.0.1, form_fits seen.most f q.numbers q.last bytes t.0.2 ranges t.1.1) in
    record {
      begun = r.begun;
      stays = r.stays;
      ended = r.ended;
      each =
          All-cons (FitsKind kind end.most) q rest (subst (λ (most : ℕ). FitsKind kind most q) (sym (r.stays open_).1) fits) r.each;
      few = omega (arith, r.few);
    }
left_by kind plain seen bytes lines end rest finish said later begun =
    let open_ = behind_first kind plain seen bytes finish said the_end said.tells.0.0 end_unknown end_first in
    let r = later begun in
    record {
      begun = r.begun;
      stays = r.stays;
      ended = λ _. inr (r.stays open_).0;
      each = r.each;
      few = omega (arith, r.few);
    }

says_left : (kind : Kind) → IsPlain kind → (lines : List (List ℕ)) (seen : Seen) (rows : List Row) (end : Seen)
    → Says kind seen lines rows end → Begun kind seen → Left kind seen end lines rows
says_left kind plain [] seen rows end h begun =
    subst (λ (e : Seen). Left kind seen e [] rows) (sym h.1)
    (subst (λ (l : List Row). Left kind seen seen [] l) (sym h.0)
    (record { begun = begun; stays = λ b. (b, refl); ended = λ b. inl b; each = All-nil (FitsKind kind seen.most); few = omega arith }))
says_left kind plain (bytes ∷ lines) seen rows end h begun =
    subst (λ (l : List Row). Left kind seen end (bytes ∷ lines) l) (sym h.3)
    (left_by kind plain seen bytes lines end h.1 h.0 h.2 (says_left kind plain lines (after seen h.0) h.1 end h.4) begun)

-- ## Texts

onto_few : (b : ℕ) (lines : List (List ℕ)) → length (onto b lines) ≤ suc (length lines)
onto_few b [] = omega arith
onto_few b (l ∷ lines) = omega arith

line_few : (b : ℕ) (bytes : List ℕ) → length (lines_of bytes) ≤ length bytes → (t : Bool)
    → length (cond t ([] ∷ lines_of bytes) (onto b (lines_of bytes))) ≤ suc (length bytes)
line_few b bytes h true = omega (arith, h)
line_few b bytes h false = omega (arith, h, onto_few b (lines_of bytes))

lines_few : (bytes : List ℕ) → length (lines_of bytes) ≤ length bytes
lines_few [] = omega arith
lines_few (b ∷ bytes) = line_few b bytes (lines_few bytes) (b == 10)

pub rows_are_fit : RowsAreFit
rows_are_fit kind bytes most rows plain script =
    let left = says_left kind plain (lines_of bytes) at_first rows script.end script.says (λ h. absurd (both (sym h))) in
    let begun : script.end.begun ≡ true = elim (left.ended script.ended) [ inl h ↦ absurd (both (sym h)) | inr h ↦ h ] in
    subst (λ (n : ℕ). AreFit kind bytes n rows) script.number
    (record { first = left.begun begun; each = left.each; few = omega (arith, left.few, lines_few bytes) })
