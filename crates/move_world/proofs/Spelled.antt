-- A value that a line spells is within the limits of values.
use Rattle.std.proofs.Common.{◌≡◌, ap, refl, subst, ℕ, zero, suc, ◌≤◌, List, [], ◌∷◌, length, Some, None, arith}
use Rattle.std.specs.Prelude.{max}
use Rattle.eden_value.specs.Datum.{Datum, Data, number, truth, text, cap, list, no_data, data_and, items_of}
use Rattle.eden_value.specs.Limits.{IsValue, DataAreValues}
use Rattle.eden_value.specs.declared.value.TheConstants.{LIST_LIMIT}
use Rattle.script_words.specs.Alone.{as_written, row_written, SpellsDatum}
use Rattle.script_words.specs.Grammar as grammar
use Rattle.script_words.specs.Tree.{size, depth, row_depth}
use Rattle.line_forms.specs.Forms.{Last, nothing, datum, words, mode, Row}
use Rattle.line_forms.specs.Spelling.{Ends, Numbers}
use Rattle.line_forms.specs.Spots.{IsRowAt}
use Rattle.line_forms.specs.declared.form.Ending.{Ending}
use Rattle.line_forms.specs.declared.form.Ending.TheVariants.{Nothing, Value, Text, Mode, MaybeMode}
use Rattle.line_forms.specs.declared.form.Place.{Place}
use Rattle.move_world.specs.Commands.{move_kind}

-- 1. Values

size_same : (ds : Data) → size (row_written ds) ≡ length (items_of ds)
size_same no_data = refl
size_same (data_and d ds) = ap suc (size_same ds)

first_deep : (a b n : ℕ) → max a b ≤ n → a ≤ n
first_deep a b n h = omega (arith, h)

rest_deep : (a b n : ℕ) → max a b ≤ n → b ≤ n
rest_deep a b n h = omega (arith, h)

less_deep : (a n : ℕ) → suc a ≤ suc n → a ≤ n
less_deep a n h = omega (arith, h)

none_deep : (a : ℕ) → suc a ≤ 0 → ⊥
none_deep a h = absurd (omega (arith, h))

mutual
  value_fits : (most : ℕ) (d : Datum) (bytes : List ℕ) → grammar.Value (as_written d) bytes → depth (as_written d) ≤ most → IsValue most d
  value_fits most (number n) bytes h deep = tt
  value_fits most (truth b) bytes h deep = tt
  value_fits most (text t) bytes h deep = h.1
  value_fits most (cap None) bytes h deep = tt
  value_fits most (cap (Some c)) bytes h deep = absurd h
  value_fits zero (list ds) bytes h deep = absurd (none_deep (row_depth (row_written ds)) deep)
  value_fits (suc most) (list ds) bytes h deep = (
    subst (λ (n : ℕ). n ≤ LIST_LIMIT) (size_same ds) h.1,
    values_fit most ds h.0.3.0 h.0.3.2 (less_deep (row_depth (row_written ds)) most deep),
  )

  values_fit : (most : ℕ) (ds : Data) (bytes : List ℕ) → grammar.Values (row_written ds) bytes → row_depth (row_written ds) ≤ most
      → DataAreValues most ds
  values_fit most no_data bytes h deep = tt
  values_fit most (data_and d ds) bytes h deep = (
    value_fits most d h.0 h.2 (first_deep (depth (as_written d)) (row_depth (row_written ds)) most deep),
    behind_fit most ds h.1 h.3 (rest_deep (depth (as_written d)) (row_depth (row_written ds)) most deep),
  )

  behind_fit : (most : ℕ) (ds : Data) (bytes : List ℕ) → grammar.Behind (row_written ds) bytes → row_depth (row_written ds) ≤ most
      → DataAreValues most ds
  behind_fit most no_data bytes h deep = tt
  behind_fit most (data_and d ds) bytes h deep = (
    value_fits most d h.3.0 h.3.2 (first_deep (depth (as_written d)) (row_depth (row_written ds)) most deep),
    behind_fit most ds h.3.1 h.3.3 (rest_deep (depth (as_written d)) (row_depth (row_written ds)) most deep),
  )

spelled_fits : (bytes : List ℕ) (d : Datum) → SpellsDatum bytes d → IsValue 4 d
spelled_fits bytes d h = value_fits 4 d bytes h.spelled h.shallow

-- 2. Lines

-- a value is within its limits; of another end nothing is asked
abbrev pub IsFitLast : Last → Type 0
IsFitLast (datum d) = IsValue 4 d
IsFitLast _ = Unit {0}

ends_fit : (ending : Ending) (l : Last) (bytes : List ℕ) → Ends ending l bytes → IsFitLast l
ends_fit ending nothing bytes h = tt
ends_fit ending (words t) bytes h = tt
ends_fit ending (mode how) bytes h = tt
ends_fit Nothing (datum d) bytes h = absurd h
ends_fit Value (datum d) bytes h = spelled_fits h.1 d h.3
ends_fit Text (datum d) bytes h = absurd h
ends_fit Mode (datum d) bytes h = absurd h
ends_fit MaybeMode (datum d) bytes h = absurd h

numbers_fit : (places : List Place) (ns : List ℕ) (ending : Ending) (l : Last) (bytes : List ℕ)
    → Numbers places ns (Ends ending l) bytes → IsFitLast l
numbers_fit [] [] ending l bytes h = ends_fit ending l bytes h
numbers_fit [] (n ∷ ns) ending l bytes h = absurd h
numbers_fit (p ∷ places) [] ending l bytes h = absurd h
numbers_fit (p ∷ places) (n ∷ ns) ending l bytes h = numbers_fit places ns ending l h.3.1 h.3.3

pub row_fits : (bytes : List ℕ) (most spot : ℕ) (r : Row) → IsRowAt move_kind bytes most spot r → IsFitLast r.last
row_fits bytes most spot r h =
    let s = h.said.tells.0 in numbers_fit s.0.places r.numbers s.0.ending r.last s.2.spelled.1 s.2.spelled.3
