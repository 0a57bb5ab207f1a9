-- A text that a line spells is no longer than texts are.
use Rattle.std.proofs.Common.{ℕ, ◌≤◌, List, [], ◌∷◌, length}
use Rattle.line_forms.specs.Forms.{Last, nothing, datum, words, mode, Row}
use Rattle.line_forms.specs.Spelling.{Ends, Numbers}
use Rattle.line_forms.specs.Spots.{IsRowAt}
use Rattle.line_forms.specs.declared.form.Ending.{Ending}
use Rattle.line_forms.specs.declared.form.Ending.TheVariants.{Nothing, Value, Text, Mode, MaybeMode}
use Rattle.line_forms.specs.declared.form.Place.{Place}
use Rattle.twin_world.specs.Commands.{twin_kind}

-- of another end than a text nothing is asked
abbrev pub IsFitLast : Last → Type 0
IsFitLast (words t) = length t ≤ 1024
IsFitLast _ = Unit {0}

ends_fit : (ending : Ending) (l : Last) (bytes : List ℕ) → Ends ending l bytes → IsFitLast l
ends_fit ending nothing bytes h = tt
ends_fit ending (datum d) bytes h = tt
ends_fit ending (mode how) bytes h = tt
ends_fit Nothing (words t) bytes h = absurd h
ends_fit Value (words t) bytes h = absurd h
ends_fit Text (words t) bytes h = h.3.1.short
ends_fit Mode (words t) bytes h = absurd h
ends_fit MaybeMode (words t) bytes h = absurd h

numbers_fit : (places : List Place) (ns : List ℕ) (ending : Ending) (l : Last) (bytes : List ℕ)
    → Numbers places ns (Ends ending l) bytes → IsFitLast l
numbers_fit [] [] ending l bytes h = ends_fit ending l bytes h
numbers_fit [] (n ∷ ns) ending l bytes h = absurd h
numbers_fit (p ∷ places) [] ending l bytes h = absurd h
numbers_fit (p ∷ places) (n ∷ ns) ending l bytes h = numbers_fit places ns ending l h.3.1 h.3.3

pub row_fits : (bytes : List ℕ) (most spot : ℕ) (r : Row) → IsRowAt twin_kind bytes most spot r → IsFitLast r.last
row_fits bytes most spot r h =
    let s = h.said.tells.0 in numbers_fit s.0.places r.numbers s.0.ending r.last s.2.spelled.1 s.2.spelled.3
