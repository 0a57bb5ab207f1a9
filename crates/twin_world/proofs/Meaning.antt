-- Each row of a script has a command, which is in reach.
use Rattle.std.proofs.Common.{◌≡◌, ◌∙◌, ap, sym, subst, refl, ℕ, zero, suc, List, [], ◌∷◌, Some, arith}
use Rattle.std.specs.Prelude.{slice_get, codes}
use Rattle.std.specs.List.{All}
use Rattle.std.proofs.lemmas.List.Elements.{All-nil, All-cons, All-head, All-tail}
use Rattle.std.proofs.lemmas.List.Sums.{take_while-cons}
use Rattle.std.proofs.lemmas.Option.{same_Some}
use Rattle.script_words.specs.Form.{is_no_blank}
use Rattle.script_words.specs.Causes.{first_word}
use Rattle.line_forms.specs.Fit.{FitsForm, FitsKind}
use Rattle.line_forms.specs.Forms.{Form, Last, nothing, datum, words, mode, Row, which}
use Rattle.line_forms.specs.One.{IsPlain}
use Rattle.line_forms.specs.Spots.{AreAt}
use Rattle.line_forms.specs.declared.form.Ending.TheVariants.{Nothing, Text, Mode}
use Rattle.twin_world.specs.Commands.{a_node, a_disk, a_serial, a_delay, twin_kind, command_by}
use Rattle.twin_world.specs.Commands.{open_row, put_row, get_row, delete_row, close_row, blank_row, fail_row, stop_row}
use Rattle.twin_world.specs.Scripts.{IsMeant, HasMeaning}
use Rattle.twin_world.proofs.Spelled.{IsFitLast, row_fits}

-- 1. The kind

pub twin_plain : IsPlain twin_kind
twin_plain [] h = refl
twin_plain (b ∷ bytes) h =
    ap (λ (c : ℕ). which twin_kind (first_word (c ∷ bytes))) h
    ∙ ap (λ (w : List ℕ). which twin_kind w) (take_while-cons is_no_blank 35 bytes)

-- 2. The forms

abbrev open_form : Form
open_form = record { word = codes "open"; places = a_node ∷ []; ending = Nothing }

abbrev put_form : Form
put_form = record { word = codes "put"; places = a_node ∷ a_serial ∷ []; ending = Text }

abbrev get_form : Form
get_form = record { word = codes "get"; places = a_node ∷ a_serial ∷ []; ending = Nothing }

abbrev delete_form : Form
delete_form = record { word = codes "delete"; places = a_node ∷ a_serial ∷ []; ending = Nothing }

abbrev close_form : Form
close_form = record { word = codes "close"; places = a_node ∷ []; ending = Nothing }

abbrev blank_form : Form
blank_form = record { word = codes "blank"; places = a_disk ∷ []; ending = Nothing }

abbrev fail_form : Form
fail_form = record { word = codes "fail"; places = a_disk ∷ a_delay ∷ []; ending = Nothing }

abbrev stop_form : Form
stop_form = record { word = codes "stop"; places = a_disk ∷ a_delay ∷ []; ending = Mode }

module _ (most : ℕ) where
  open_meant : (ns : List ℕ) (e : Last) → FitsForm most open_form ns e → IsFitLast e → IsMeant (open_row ns e)
  open_meant [] e fit v = absurd (omega (arith, fit.count))
  open_meant (n ∷ []) nothing fit v = fit.ranges.0
  open_meant (n ∷ []) (datum d) fit v = fit.sort
  open_meant (n ∷ []) (words t) fit v = fit.sort
  open_meant (n ∷ []) (mode how) fit v = fit.sort
  open_meant (n ∷ x ∷ ns) e fit v = absurd (omega (arith, fit.count))

  put_meant : (ns : List ℕ) (e : Last) → FitsForm most put_form ns e → IsFitLast e → IsMeant (put_row ns e)
  put_meant [] e fit v = absurd (omega (arith, fit.count))
  put_meant (n ∷ []) e fit v = absurd (omega (arith, fit.count))
  put_meant (n ∷ s ∷ []) nothing fit v = fit.sort
  put_meant (n ∷ s ∷ []) (datum d) fit v = fit.sort
  put_meant (n ∷ s ∷ []) (words t) fit v = (fit.ranges.0, fit.ranges.1.0.0, v)
  put_meant (n ∷ s ∷ []) (mode how) fit v = fit.sort
  put_meant (n ∷ s ∷ x ∷ ns) e fit v = absurd (omega (arith, fit.count))

  get_meant : (ns : List ℕ) (e : Last) → FitsForm most get_form ns e → IsFitLast e → IsMeant (get_row ns e)
  get_meant [] e fit v = absurd (omega (arith, fit.count))
  get_meant (n ∷ []) e fit v = absurd (omega (arith, fit.count))
  get_meant (n ∷ s ∷ []) nothing fit v = (fit.ranges.0, fit.ranges.1.0.0)
  get_meant (n ∷ s ∷ []) (datum d) fit v = fit.sort
  get_meant (n ∷ s ∷ []) (words t) fit v = fit.sort
  get_meant (n ∷ s ∷ []) (mode how) fit v = fit.sort
  get_meant (n ∷ s ∷ x ∷ ns) e fit v = absurd (omega (arith, fit.count))

  delete_meant : (ns : List ℕ) (e : Last) → FitsForm most delete_form ns e → IsFitLast e → IsMeant (delete_row ns e)
  delete_meant [] e fit v = absurd (omega (arith, fit.count))
  delete_meant (n ∷ []) e fit v = absurd (omega (arith, fit.count))
  delete_meant (n ∷ s ∷ []) nothing fit v = (fit.ranges.0, fit.ranges.1.0.0)
  delete_meant (n ∷ s ∷ []) (datum d) fit v = fit.sort
  delete_meant (n ∷ s ∷ []) (words t) fit v = fit.sort
  delete_meant (n ∷ s ∷ []) (mode how) fit v = fit.sort
  delete_meant (n ∷ s ∷ x ∷ ns) e fit v = absurd (omega (arith, fit.count))

  close_meant : (ns : List ℕ) (e : Last) → FitsForm most close_form ns e → IsFitLast e → IsMeant (close_row ns e)
  close_meant [] e fit v = absurd (omega (arith, fit.count))
  close_meant (n ∷ []) nothing fit v = fit.ranges.0
  close_meant (n ∷ []) (datum d) fit v = fit.sort
  close_meant (n ∷ []) (words t) fit v = fit.sort
  close_meant (n ∷ []) (mode how) fit v = fit.sort
  close_meant (n ∷ x ∷ ns) e fit v = absurd (omega (arith, fit.count))

  blank_meant : (ns : List ℕ) (e : Last) → FitsForm most blank_form ns e → IsFitLast e → IsMeant (blank_row ns e)
  blank_meant [] e fit v = absurd (omega (arith, fit.count))
  blank_meant (n ∷ []) nothing fit v = fit.ranges.0
  blank_meant (n ∷ []) (datum d) fit v = fit.sort
  blank_meant (n ∷ []) (words t) fit v = fit.sort
  blank_meant (n ∷ []) (mode how) fit v = fit.sort
  blank_meant (n ∷ x ∷ ns) e fit v = absurd (omega (arith, fit.count))

  fail_meant : (ns : List ℕ) (e : Last) → FitsForm most fail_form ns e → IsFitLast e → IsMeant (fail_row ns e)
  fail_meant [] e fit v = absurd (omega (arith, fit.count))
  fail_meant (n ∷ []) e fit v = absurd (omega (arith, fit.count))
  fail_meant (n ∷ s ∷ []) nothing fit v = (fit.ranges.0, fit.ranges.1.0.0)
  fail_meant (n ∷ s ∷ []) (datum d) fit v = fit.sort
  fail_meant (n ∷ s ∷ []) (words t) fit v = fit.sort
  fail_meant (n ∷ s ∷ []) (mode how) fit v = fit.sort
  fail_meant (n ∷ s ∷ x ∷ ns) e fit v = absurd (omega (arith, fit.count))

  stop_meant : (ns : List ℕ) (e : Last) → FitsForm most stop_form ns e → IsFitLast e → IsMeant (stop_row ns e)
  stop_meant [] e fit v = absurd (omega (arith, fit.count))
  stop_meant (n ∷ []) e fit v = absurd (omega (arith, fit.count))
  stop_meant (n ∷ s ∷ []) nothing fit v = fit.sort
  stop_meant (n ∷ s ∷ []) (datum d) fit v = fit.sort
  stop_meant (n ∷ s ∷ []) (words t) fit v = fit.sort
  stop_meant (n ∷ s ∷ []) (mode how) fit v = (fit.ranges.0, fit.ranges.1.0.0)
  stop_meant (n ∷ s ∷ x ∷ ns) e fit v = absurd (omega (arith, fit.count))

  meant_by : (k : ℕ) (ns : List ℕ) (e : Last) (f : Form) → slice_get twin_kind.others k ≡ Some f → FitsForm most f ns e → IsFitLast e
      → IsMeant (command_by k ns e)
  meant_by zero ns e f h fit v =
      open_meant ns e (subst (λ (g : Form). FitsForm most g ns e) (sym (same_Some open_form f h)) fit) v
  meant_by (suc zero) ns e f h fit v =
      put_meant ns e (subst (λ (g : Form). FitsForm most g ns e) (sym (same_Some put_form f h)) fit) v
  meant_by (suc (suc zero)) ns e f h fit v =
      get_meant ns e (subst (λ (g : Form). FitsForm most g ns e) (sym (same_Some get_form f h)) fit) v
  meant_by (suc (suc (suc zero))) ns e f h fit v =
      delete_meant ns e (subst (λ (g : Form). FitsForm most g ns e) (sym (same_Some delete_form f h)) fit) v
  meant_by (suc (suc (suc (suc zero)))) ns e f h fit v =
      close_meant ns e (subst (λ (g : Form). FitsForm most g ns e) (sym (same_Some close_form f h)) fit) v
  meant_by (suc (suc (suc (suc (suc zero))))) ns e f h fit v =
      blank_meant ns e (subst (λ (g : Form). FitsForm most g ns e) (sym (same_Some blank_form f h)) fit) v
  meant_by (suc (suc (suc (suc (suc (suc zero)))))) ns e f h fit v =
      fail_meant ns e (subst (λ (g : Form). FitsForm most g ns e) (sym (same_Some fail_form f h)) fit) v
  meant_by (suc (suc (suc (suc (suc (suc (suc zero))))))) ns e f h fit v =
      stop_meant ns e (subst (λ (g : Form). FitsForm most g ns e) (sym (same_Some stop_form f h)) fit) v
  meant_by (suc (suc (suc (suc (suc (suc (suc (suc k)))))))) ns e f h fit v = absurd cc

  pub rows_meant : (bytes spots : List ℕ) (rows : List Row) → All (FitsKind twin_kind most) rows → AreAt twin_kind bytes most spots rows
      → All HasMeaning rows
  rows_meant bytes spots [] h at = All-nil HasMeaning
  rows_meant bytes [] (r ∷ rows) h at = absurd at
  rows_meant bytes (spot ∷ spots) (r ∷ rows) h at =
      let x = All-head (FitsKind twin_kind most) r rows h in
      All-cons HasMeaning r rows (meant_by r.form r.numbers r.last x.0 x.1 x.2 (row_fits bytes most spot r at.0))
      (rows_meant bytes spots rows (All-tail (FitsKind twin_kind most) r rows h) at.1)
