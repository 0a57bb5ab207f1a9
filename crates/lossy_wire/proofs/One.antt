-- A text of a wire is one.
use Rattle.std.proofs.Common.{◌≡◌, ◌∙◌, ap, sym, refl, ℕ, List, [], ◌∷◌, map, Option, Some, None}
use Rattle.std.proofs.lemmas.List.Sums.{take_while-cons}
use Rattle.script_words.specs.Form.{is_no_blank}
use Rattle.script_words.specs.Causes.{first_word}
use Rattle.line_forms.specs.Forms.{Row, which}
use Rattle.line_forms.specs.One.{IsPlain, ScriptsAreOne}
use Rattle.lossy_wire.specs.Wire.{quiet}
use Rattle.lossy_wire.specs.Commands.{Command, wire_kind, command_of}
use Rattle.lossy_wire.specs.Texts.{text_from}
use Rattle.lossy_wire.specs.Laws.{TextsAreOne}

pub wire_plain : IsPlain wire_kind
wire_plain [] h = refl
wire_plain (b ∷ bytes) h =
    ap (λ (c : ℕ). which wire_kind (first_word (c ∷ bytes))) h
    ∙ ap (λ (w : List ℕ). which wire_kind w) (take_while-cons is_no_blank 35 bytes)

abbrev found : List (Option Command) → List Command
found [] = []
found (None ∷ os) = found os
found (Some c ∷ os) = c ∷ found os

found_all : (cs : List Command) → found (map (λ c. Some c) cs) ≡ cs
found_all [] = refl
found_all (c ∷ cs) = ap (λ (l : List Command). c ∷ l) (found_all cs)

pub texts_are_one : ScriptsAreOne → (bytes : List ℕ) → TextsAreOne bytes
texts_are_one one bytes = record {
  text = λ text other x y.
      let rows = ((one wire_kind bytes wire_plain).script x.stations y.stations x.rows y.rows x.script y.script).1 in
      let commands : x.commands ≡ y.commands =
      sym (found_all x.commands) ∙ ap found (sym x.meant ∙ ap (λ (l : List Row). map command_of l) rows ∙ y.meant) ∙ found_all y.commands in
      x.written ∙ ap (text_from quiet) commands ∙ sym y.written;
  apart = (one wire_kind bytes wire_plain).apart;
}
