-- Numbers at their places: what is read is spelled, and what is spelled is read.
use Rattle.std.proofs.Common.{◌≡◌, ◌∙◌, ap, sym, refl, subst, ℕ, suc, true, false, List, [], ◌∷◌, ◌++◌, length, map, Ok, Err, arith}
use Rattle.std.proofs.Common.{inl, inr}
use Rattle.script_words.specs.Form.{starts_with, is_digit, is_number, number_of}
use Rattle.script_words.specs.Causes.{Within}
use Rattle.script_words.specs.Reading.{Judged, Reading, ◌>>=◌, read_word, read_digits}
use Rattle.script_words.specs.declared.cause.ScriptCause.TheVariants.{BadForm, BadNumber}
use Rattle.script_words.proofs.Pieces.{bind_ok, same_ok, digits_take, digits_again, word_takes, word_again}
use Rattle.script_words.proofs.Rules.{OnlyForm, only_bind, only_word, only_digits, within_yes, within_no, within_cases}
use Rattle.line_forms.specs.Spelling.{mark_word, Numbers}
use Rattle.line_forms.specs.Tests.{top, NumbersFit}
use Rattle.line_forms.specs.Reading.{read_place, read_places, word_and, ranged}
use Rattle.line_forms.specs.declared.form.Mark.{Mark}
use Rattle.line_forms.specs.declared.form.Mark.TheVariants.{Blank, Point}
use Rattle.line_forms.specs.declared.form.Place.{Place}

-- ## Reading

pub only_place : (p : Place) (bytes : List ℕ) → OnlyForm (read_place p bytes)
only_place p bytes = only_bind (read_word (mark_word p.mark) bytes) _ (only_word (mark_word p.mark) bytes) (λ r. only_digits r)

pub only_places : (ps : List Place) (bytes : List ℕ) → OnlyForm (read_places ps bytes)
only_places [] bytes = tt
only_places (p ∷ ps) bytes =
    only_bind (read_place p bytes) _ (only_place p bytes)
    (λ d. only_bind (read_places ps d.1) _ (only_places ps d.1) (λ found. tt))

-- what is read at a place
pub place_takes : (p : Place) (bytes d rest : List ℕ) → read_place p bytes ≡ Ok (d, rest)
    → (bytes ≡ mark_word p.mark ++ (d ++ rest)) × (is_number d ≡ true)
place_takes p bytes d rest h =
    let a = bind_ok (read_word (mark_word p.mark) bytes) (λ r. read_digits r) (d, rest) h in
    let t = digits_take a.0 d rest a.2 in
    (word_takes (mark_word p.mark) bytes a.0 a.1 ∙ ap (λ (l : List ℕ). mark_word p.mark ++ l) t.0, t.1)

pub place_again : (p : Place) (d rest : List ℕ) → is_number d ≡ true → starts_with is_digit rest ≡ false
    → read_place p (mark_word p.mark ++ (d ++ rest)) ≡ Ok (d, rest)
place_again p d rest good stop =
    ap (λ (r : Judged (List ℕ)). r >>= λ r. read_digits r) (word_again (mark_word p.mark) (d ++ rest)) ∙ digits_again d rest good stop

-- all words are numbers
abbrev pub AllNumbers : List (List ℕ) → Type 0
AllNumbers [] = Unit {0}
AllNumbers (w ∷ ws) = (is_number w ≡ true) × AllNumbers ws

-- what is read at places is spelled there, before whatever stands behind
pub places_take : (ps : List Place) (bytes : List ℕ) (ws : List (List ℕ)) (rest : List ℕ) (P : List ℕ → Type 0)
    → read_places ps bytes ≡ Ok (ws, rest) → P rest → Numbers ps (map number_of ws) P bytes
places_take [] bytes ws rest P h end =
    let e = same_ok ([], bytes) (ws, rest) h in
    subst (λ (x : List (List ℕ) × List ℕ). Numbers [] (map number_of x.0) P bytes) e
    (subst P (sym (ap (λ (x : List (List ℕ) × List ℕ). x.1) e)) end)
places_take (p ∷ ps) bytes ws rest P h end =
    let a = bind_ok (read_place p bytes) (λ d. read_places ps d.1 >>= λ found. word_and d.0 found) (ws, rest) h in
    let b = bind_ok (read_places ps a.0.1) (λ found. word_and a.0.0 found) (ws, rest) a.2 in
    let e = same_ok (a.0.0 ∷ b.0.0, b.0.1) (ws, rest) b.2 in
    let t = place_takes p bytes a.0.0 a.0.1 a.1 in
    let more = places_take ps a.0.1 b.0.0 b.0.1 P b.1 (subst P (sym (ap (λ (x : List (List ℕ) × List ℕ). x.1) e)) end) in
    subst (λ (x : List (List ℕ) × List ℕ). Numbers (p ∷ ps) (map number_of x.0) P bytes) e
    (mark_word p.mark, a.0.0 ++ a.0.1, refl, (a.0.0, a.0.1, (t.1, refl), more, refl), t.0)

-- as many words are read as there are places
pub places_length : (ps : List Place) (bytes : List ℕ) (ws : List (List ℕ)) (rest : List ℕ) → read_places ps bytes ≡ Ok (ws, rest)
    → length ws ≡ length ps
places_length [] bytes ws rest h = ap (λ (x : List (List ℕ) × List ℕ). length x.0) (sym (same_ok ([], bytes) (ws, rest) h))
places_length (p ∷ ps) bytes ws rest h =
    let a = bind_ok (read_place p bytes) (λ d. read_places ps d.1 >>= λ found. word_and d.0 found) (ws, rest) h in
    let b = bind_ok (read_places ps a.0.1) (λ found. word_and a.0.0 found) (ws, rest) a.2 in
    let e = same_ok (a.0.0 ∷ b.0.0, b.0.1) (ws, rest) b.2 in
    ap (λ (x : List (List ℕ) × List ℕ). length x.0) (sym e) ∙ ap suc (places_length ps a.0.1 b.0.0 b.0.1 b.1)

-- what is spelled at places is read there
pub record PlacesAgain (ps : List Place) (ns : List ℕ) (P : List ℕ → Type 0) (bytes : List ℕ) : Type 0 where
  pub words : List (List ℕ)
  pub rest : List ℕ
  pub read : read_places ps bytes ≡ Ok (words, rest)
  pub numbers : map number_of words ≡ ns
  pub end : P rest

abbrev Stops : (List ℕ → Type 0) → Type 0
Stops P = (bytes : List ℕ) → P bytes → starts_with is_digit bytes ≡ false

mark_stops : (m : Mark) (rest : List ℕ) → starts_with is_digit (mark_word m ++ rest) ≡ false
mark_stops Blank rest = refl
mark_stops Point rest = refl

numbers_stop : (ps : List Place) (ns : List ℕ) (P : List ℕ → Type 0) → Stops P → Stops (Numbers ps ns P)
numbers_stop [] [] P stop bytes h = stop bytes h
numbers_stop [] (n ∷ ns) P stop bytes h = absurd h
numbers_stop (p ∷ ps) [] P stop bytes h = absurd h
numbers_stop (p ∷ ps) (n ∷ ns) P stop bytes h =
    ap (starts_with is_digit) (h.4 ∙ ap (λ (l : List ℕ). l ++ h.1) h.2) ∙ mark_stops p.mark h.1

pub places_again : (ps : List Place) (ns : List ℕ) (P : List ℕ → Type 0) (bytes : List ℕ) → Stops P → Numbers ps ns P bytes
    → PlacesAgain ps ns P bytes
places_again [] [] P bytes stop h = record { words = []; rest = bytes; read = refl; numbers = refl; end = h }
places_again [] (n ∷ ns) P bytes stop h = absurd h
places_again (p ∷ ps) [] P bytes stop h = absurd h
places_again (p ∷ ps) (n ∷ ns) P bytes stop h =
    let a = h.3 in
    let line : bytes ≡ mark_word p.mark ++ (a.0 ++ a.1) =
    h.4 ∙ ap (λ (l : List ℕ). l ++ h.1) h.2 ∙ ap (λ (l : List ℕ). mark_word p.mark ++ l) a.4 in
    let more = places_again ps ns P a.1 stop a.3 in
    record {
      words = a.0 ∷ more.words;
      rest = more.rest;
      read =
          ap (read_places (p ∷ ps)) line
          ∙ ap (λ (r : Reading (List ℕ)). r >>= λ d. read_places ps d.1 >>= λ found. word_and d.0 found)
          (place_again p a.0 a.1 a.2.0 (numbers_stop ps ns P stop a.1 a.3))
          ∙ ap (λ (r : Reading (List (List ℕ))). r >>= λ found. word_and a.0 found) more.read;
      numbers = ap (λ m. m ∷ map number_of more.words) a.2.1 ∙ ap (λ (ms : List ℕ). n ∷ ms) more.numbers;
      end = more.end;
    }

-- ## Ranges

-- numbers in their ranges are given
pub ranged_yes : (most : ℕ) (ps : List Place) (ws : List (List ℕ)) → length ws ≡ length ps → NumbersFit most ps (map number_of ws)
    → ranged most ps ws ≡ Ok (map number_of ws)
ranged_yes most [] [] l h = refl
ranged_yes most [] (w ∷ ws) l h = absurd (omega (arith, l))
ranged_yes most (p ∷ ps) [] l h = absurd (omega (arith, l))
ranged_yes most (p ∷ ps) (w ∷ ws) l h =
    ap (λ (r : Judged ℕ). r >>= λ n. ranged most ps ws >>= λ ns. Ok (n ∷ ns)) (within_yes p.low (top most p.high) w h.0)
    ∙ ap (λ (r : Judged (List ℕ)). r >>= λ ns. Ok (number_of w ∷ ns)) (ranged_yes most ps ws (omega (arith, l)) h.1)

-- what is given, or that a number is out of its range
abbrev pub Ranged : ℕ → List Place → List (List ℕ) → Judged (List ℕ) → Type 0
Ranged most ps ws (Ok ns) = (ns ≡ map number_of ws) × NumbersFit most ps (map number_of ws)
Ranged most ps ws (Err BadNumber) = NumbersFit most ps (map number_of ws) → ⊥
Ranged most ps ws (Err _) = ⊥

ranged_more : (most : ℕ) (p : Place) (ps : List Place) (w : List ℕ) (ws : List (List ℕ)) (r : Judged (List ℕ))
    → Within p.low (top most p.high) (number_of w)
    → Ranged most ps ws r → Ranged most (p ∷ ps) (w ∷ ws) (r >>= λ ns. Ok (number_of w ∷ ns))
ranged_more most p ps w ws (Ok ns) in_ h = (ap (λ (ms : List ℕ). number_of w ∷ ms) h.0, (in_, h.1))
ranged_more most p ps w ws (Err BadNumber) in_ h = λ f. h f.1
ranged_more most p ps w ws (Err BadForm) in_ h = h
ranged_more most p ps w ws (Err _) in_ h = absurd h

pub ranged_says : (most : ℕ) (ps : List Place) (ws : List (List ℕ)) → length ws ≡ length ps → Ranged most ps ws (ranged most ps ws)
ranged_says most [] [] l = (refl, tt)
ranged_says most [] (w ∷ ws) l = absurd (omega (arith, l))
ranged_says most (p ∷ ps) [] l = absurd (omega (arith, l))
ranged_says most (p ∷ ps) (w ∷ ws) l =
    let step = λ (r : Judged ℕ). r >>= λ n. ranged most ps ws >>= λ ns. Ok (n ∷ ns) in
    elim (within_cases p.low (top most p.high) (number_of w)) as (λ _. Ranged most (p ∷ ps) (w ∷ ws) (ranged most (p ∷ ps) (w ∷ ws))) [
      | inl in_ ↦ subst (λ (r : Judged ℕ). Ranged most (p ∷ ps) (w ∷ ws) (step r)) (sym (within_yes p.low (top most p.high) w in_))
          (ranged_more most p ps w ws (ranged most ps ws) in_ (ranged_says most ps ws (omega (arith, l))))
      | inr out ↦ subst (λ (r : Judged ℕ). Ranged most (p ∷ ps) (w ∷ ws) (step r)) (sym (within_no p.low (top most p.high) w out))
          (λ f. out f.0)
    ]
