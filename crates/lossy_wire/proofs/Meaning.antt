-- Each row of a script of a wire has a command.
use Rattle.std.proofs.Common.{◌≡◌, sym, subst, ℕ, zero, suc, ◌≤◌, List, [], ◌∷◌, Some, arith}
use Rattle.std.specs.Prelude.{slice_get, codes}
use Rattle.std.specs.List.{All}
use Rattle.std.proofs.lemmas.List.Elements.{All-weaker}
use Rattle.std.proofs.lemmas.Option.{same_Some}
use Rattle.line_forms.specs.Fit.{FitsForm, FitsKind, AreFit}
use Rattle.line_forms.specs.Forms.{Form, Last, nothing, datum, words, mode, Row}
use Rattle.line_forms.specs.Scripts.{most_of}
use Rattle.line_forms.specs.declared.form.Ending.TheVariants.{Nothing, Value}
use Rattle.lossy_wire.specs.Commands.{station, packet_number, wire_kind, command_by, IsMeant, HasMeaning}

abbrev send_form : Form
send_form = record { word = codes "send"; places = station ∷ station ∷ []; ending = Value }

abbrev again_form : Form
again_form = record { word = codes "again"; places = station ∷ station ∷ []; ending = Nothing }

abbrev carry_form : Form
carry_form = record { word = codes "carry"; places = station ∷ station ∷ packet_number ∷ []; ending = Nothing }

-- ## The first line

stations_by : (ns : List ℕ) (e : Last) → FitsForm 0 wire_kind.first ns e → (2 ≤ most_of ns) × (most_of ns ≤ 8)
stations_by [] e fit = absurd (omega (arith, fit.count))
stations_by (n ∷ ns) e fit = fit.ranges.0

pub stations_fit : (bytes : List ℕ) (most : ℕ) (rows : List Row) → AreFit wire_kind bytes most rows → (2 ≤ most) × (most ≤ 8)
stations_fit bytes most rows h =
    subst (λ (n : ℕ). (2 ≤ n) × (n ≤ 8)) (sym h.first.3) (stations_by h.first.0 h.first.1 h.first.2)

-- ## Rows

module _ (most : ℕ) (small : most ≤ 8) where
  send_meant : (ns : List ℕ) (e : Last) → FitsForm most send_form ns e → IsMeant (command_by 0 ns e)
  send_meant [] e fit = absurd (omega (arith, fit.count))
  send_meant (a ∷ []) e fit = absurd (omega (arith, fit.count))
  send_meant (a ∷ b ∷ []) nothing fit = fit.sort
  send_meant (a ∷ b ∷ []) (datum d) fit =
      let x = fit.ranges.0 in
      let y = fit.ranges.1.0 in
      ((x.0, omega (arith, small, x.1)), (y.0, omega (arith, small, y.1)))
  send_meant (a ∷ b ∷ []) (words t) fit = fit.sort
  send_meant (a ∷ b ∷ []) (mode how) fit = fit.sort
  send_meant (a ∷ b ∷ c ∷ ns) e fit = absurd (omega (arith, fit.count))

  again_meant : (ns : List ℕ) (e : Last) → FitsForm most again_form ns e → IsMeant (command_by 1 ns e)
  again_meant [] e fit = absurd (omega (arith, fit.count))
  again_meant (a ∷ []) e fit = absurd (omega (arith, fit.count))
  again_meant (a ∷ b ∷ []) nothing fit =
      let x = fit.ranges.0 in
      let y = fit.ranges.1.0 in
      ((x.0, omega (arith, small, x.1)), (y.0, omega (arith, small, y.1)))
  again_meant (a ∷ b ∷ []) (datum d) fit = fit.sort
  again_meant (a ∷ b ∷ []) (words t) fit = fit.sort
  again_meant (a ∷ b ∷ []) (mode how) fit = fit.sort
  again_meant (a ∷ b ∷ c ∷ ns) e fit = absurd (omega (arith, fit.count))

  carry_meant : (ns : List ℕ) (e : Last) → FitsForm most carry_form ns e → IsMeant (command_by 2 ns e)
  carry_meant [] e fit = absurd (omega (arith, fit.count))
  carry_meant (a ∷ []) e fit = absurd (omega (arith, fit.count))
  carry_meant (a ∷ b ∷ []) e fit = absurd (omega (arith, fit.count))
  carry_meant (a ∷ b ∷ i ∷ []) nothing fit =
      let x = fit.ranges.0 in
      let y = fit.ranges.1.0 in
      ((x.0, omega (arith, small, x.1)), (y.0, omega (arith, small, y.1)), fit.ranges.1.1.0.0)
  carry_meant (a ∷ b ∷ i ∷ []) (datum d) fit = fit.sort
  carry_meant (a ∷ b ∷ i ∷ []) (words t) fit = fit.sort
  carry_meant (a ∷ b ∷ i ∷ []) (mode how) fit = fit.sort
  carry_meant (a ∷ b ∷ i ∷ j ∷ ns) e fit = absurd (omega (arith, fit.count))

  meant_by : (k : ℕ) (ns : List ℕ) (e : Last) (f : Form) → slice_get wire_kind.others k ≡ Some f → FitsForm most f ns e
      → IsMeant (command_by k ns e)
  meant_by zero ns e f h fit = send_meant ns e (subst (λ (g : Form). FitsForm most g ns e) (sym (same_Some send_form f h)) fit)
  meant_by (suc zero) ns e f h fit = again_meant ns e (subst (λ (g : Form). FitsForm most g ns e) (sym (same_Some again_form f h)) fit)
  meant_by (suc (suc zero)) ns e f h fit =
      carry_meant ns e (subst (λ (g : Form). FitsForm most g ns e) (sym (same_Some carry_form f h)) fit)
  meant_by (suc (suc (suc k))) ns e f h fit = absurd cc

  pub rows_meant : (rows : List Row) → All (FitsKind wire_kind most) rows → All HasMeaning rows
  rows_meant rows h =
      All-weaker (FitsKind wire_kind most) HasMeaning (λ r x. meant_by r.form r.numbers r.last x.0 x.1 x.2) rows h
