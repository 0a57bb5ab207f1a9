-- Each row of a script has a command, which is in reach.
use Rattle.std.proofs.Common.{◌≡◌, ◌∙◌, ap, sym, subst, refl, ℕ, zero, suc, ◌≤◌, Bool, true, false, List, [], ◌∷◌, Some, arith}
use Rattle.std.specs.Prelude.{◌≢◌, ◌==◌, ◌||◌, ◌&&◌, not, slice_get, codes}
use Rattle.std.specs.List.{All}
use Rattle.std.proofs.lemmas.Bool.{eqb-false}
use Rattle.std.proofs.lemmas.List.Elements.{All-nil, All-cons, All-head, All-tail}
use Rattle.std.proofs.lemmas.List.Sums.{take_while-cons}
use Rattle.std.proofs.lemmas.Option.{same_Some}
use Rattle.script_words.specs.Form.{is_no_blank}
use Rattle.script_words.specs.Causes.{Within, first_word}
use Rattle.line_forms.specs.Fit.{FitsForm, FitsKind, AreFit}
use Rattle.line_forms.specs.Forms.{Form, Last, nothing, datum, words, mode, Row, which}
use Rattle.line_forms.specs.One.{IsPlain}
use Rattle.line_forms.specs.Scripts.{most_of}
use Rattle.line_forms.specs.Spelling.{all_differ}
use Rattle.line_forms.specs.Spots.{AreAt}
use Rattle.line_forms.specs.declared.form.Ending.TheVariants.{Nothing, Value, Mode, MaybeMode}
use Rattle.eden_move.specs.Shown.{IsWanderer}
use Rattle.move_world.specs.Commands.{IsNode, a_node, station, a_number, epoch_one, a_serial, a_delay, move_kind, uid_at, command_by}
use Rattle.move_world.specs.Commands.{make_row, wake_row, save_row, move_row, again_row, carry_row, crash_row, restart_row, fail_row}
use Rattle.move_world.specs.Commands.{stop_row}
use Rattle.move_world.specs.Scripts.{IsMeant, HasMeaning}
use Rattle.move_world.proofs.Spelled.{IsFitLast, row_fits}

-- 1. The kind

pub move_plain : IsPlain move_kind
move_plain [] h = refl
move_plain (b ∷ bytes) h =
    ap (λ (c : ℕ). which move_kind (first_word (c ∷ bytes))) h
    ∙ ap (λ (w : List ℕ). which move_kind w) (take_while-cons is_no_blank 35 bytes)

nodes_by : (ns : List ℕ) (e : Last) → FitsForm 0 move_kind.first ns e → (1 ≤ most_of ns) × (most_of ns ≤ 8)
nodes_by [] e fit = absurd (omega (arith, fit.count))
nodes_by (n ∷ ns) e fit = fit.ranges.0

pub nodes_fit : (bytes : List ℕ) (most : ℕ) (rows : List Row) → AreFit move_kind bytes most rows → (1 ≤ most) × (most ≤ 8)
nodes_fit bytes most rows h =
    subst (λ (n : ℕ). (1 ≤ n) × (n ≤ 8)) (sym h.first.3) (nodes_by h.first.0 h.first.1 h.first.2)

-- 2. The forms

abbrev make_form : Form
make_form = record { word = codes "make"; places = a_node ∷ a_number ∷ []; ending = Value }

abbrev wake_form : Form
wake_form = record { word = codes "wake"; places = a_node ∷ a_node ∷ epoch_one ∷ a_serial ∷ []; ending = Nothing }

abbrev save_form : Form
save_form = record { word = codes "save"; places = a_node ∷ a_node ∷ epoch_one ∷ a_serial ∷ []; ending = Value }

abbrev move_form : Form
move_form = record { word = codes "move"; places = station ∷ a_node ∷ epoch_one ∷ a_serial ∷ station ∷ []; ending = Nothing }

abbrev again_form : Form
again_form = record { word = codes "again"; places = a_node ∷ a_node ∷ epoch_one ∷ a_serial ∷ []; ending = Nothing }

abbrev carry_form : Form
carry_form = record { word = codes "carry"; places = station ∷ station ∷ a_number ∷ []; ending = Nothing }

abbrev crash_form : Form
crash_form = record { word = codes "crash"; places = a_node ∷ []; ending = MaybeMode }

abbrev restart_form : Form
restart_form = record { word = codes "restart"; places = a_node ∷ []; ending = Nothing }

abbrev fail_form : Form
fail_form = record { word = codes "fail"; places = a_node ∷ a_delay ∷ []; ending = Nothing }

abbrev stop_form : Form
stop_form = record { word = codes "stop"; places = a_node ∷ a_delay ∷ []; ending = Mode }

same_number : (n : ℕ) → (n == n) ≡ true
same_number n = go (n == n) refl
  where
    go : (b : Bool) → (n == n) ≡ b → b ≡ true
    go true e = refl
    go false e = absurd (eqb-false n n e refl)

alike : (a : ℕ) → all_differ (a ∷ a ∷ []) ≡ false
alike a = ap (λ (t : Bool). not (t || false) && true) (same_number a)

apart_by : (a b : ℕ) → all_differ (a ∷ b ∷ []) ≡ true → b ≢ a
apart_by a b h same =
    let e : true ≡ false = sym (subst (λ (c : ℕ). all_differ (a ∷ c ∷ []) ≡ true) same h) ∙ alike a in absurd (cc e)

module _ (most : ℕ) (small : most ≤ 8) where
  is_node : (n : ℕ) → Within 1 most n → IsNode n
  is_node n h = (h.0, omega (arith, small, h.1))

  wanders : (a e s : ℕ) → Within 1 most a → Within 1 1 e → Within 1 4294967295 s → IsWanderer (uid_at a e s)
  wanders a e s x y z = record {
    node_least = x.0;
    node_most = omega (arith, small, x.1);
    epoch = omega (arith, y.0, y.1);
    serial = z.0;
  }

  make_meant : (ns : List ℕ) (e : Last) → FitsForm most make_form ns e → IsFitLast e → IsMeant (make_row ns e)
  make_meant [] e fit v = absurd (omega (arith, fit.count))
  make_meant (n ∷ []) e fit v = absurd (omega (arith, fit.count))
  make_meant (n ∷ s ∷ []) nothing fit v = fit.sort
  make_meant (n ∷ s ∷ []) (datum d) fit v = (is_node n fit.ranges.0, fit.ranges.1.0.0, v)
  make_meant (n ∷ s ∷ []) (words t) fit v = fit.sort
  make_meant (n ∷ s ∷ []) (mode how) fit v = fit.sort
  make_meant (n ∷ s ∷ x ∷ ns) e fit v = absurd (omega (arith, fit.count))

  wake_meant : (ns : List ℕ) (e : Last) → FitsForm most wake_form ns e → IsFitLast e → IsMeant (wake_row ns e)
  wake_meant [] e fit v = absurd (omega (arith, fit.count))
  wake_meant (n ∷ []) e fit v = absurd (omega (arith, fit.count))
  wake_meant (n ∷ a ∷ []) e fit v = absurd (omega (arith, fit.count))
  wake_meant (n ∷ a ∷ g ∷ []) e fit v = absurd (omega (arith, fit.count))
  wake_meant (n ∷ a ∷ g ∷ s ∷ []) nothing fit v = (is_node n fit.ranges.0, wanders a g s fit.ranges.1.0 fit.ranges.1.1.0 fit.ranges.1.1.1.0)
  wake_meant (n ∷ a ∷ g ∷ s ∷ []) (datum d) fit v = fit.sort
  wake_meant (n ∷ a ∷ g ∷ s ∷ []) (words t) fit v = fit.sort
  wake_meant (n ∷ a ∷ g ∷ s ∷ []) (mode how) fit v = fit.sort
  wake_meant (n ∷ a ∷ g ∷ s ∷ x ∷ ns) e fit v = absurd (omega (arith, fit.count))

  save_meant : (ns : List ℕ) (e : Last) → FitsForm most save_form ns e → IsFitLast e → IsMeant (save_row ns e)
  save_meant [] e fit v = absurd (omega (arith, fit.count))
  save_meant (n ∷ []) e fit v = absurd (omega (arith, fit.count))
  save_meant (n ∷ a ∷ []) e fit v = absurd (omega (arith, fit.count))
  save_meant (n ∷ a ∷ g ∷ []) e fit v = absurd (omega (arith, fit.count))
  save_meant (n ∷ a ∷ g ∷ s ∷ []) nothing fit v = fit.sort
  save_meant (n ∷ a ∷ g ∷ s ∷ []) (datum d) fit v = (is_node n fit.ranges.0, wanders a g s fit.ranges.1.0 fit.ranges.1.1.0 fit.ranges.1.1.1.0, v)
  save_meant (n ∷ a ∷ g ∷ s ∷ []) (words t) fit v = fit.sort
  save_meant (n ∷ a ∷ g ∷ s ∷ []) (mode how) fit v = fit.sort
  save_meant (n ∷ a ∷ g ∷ s ∷ x ∷ ns) e fit v = absurd (omega (arith, fit.count))

  again_meant : (ns : List ℕ) (e : Last) → FitsForm most again_form ns e → IsFitLast e → IsMeant (again_row ns e)
  again_meant [] e fit v = absurd (omega (arith, fit.count))
  again_meant (n ∷ []) e fit v = absurd (omega (arith, fit.count))
  again_meant (n ∷ a ∷ []) e fit v = absurd (omega (arith, fit.count))
  again_meant (n ∷ a ∷ g ∷ []) e fit v = absurd (omega (arith, fit.count))
  again_meant (n ∷ a ∷ g ∷ s ∷ []) nothing fit v = (is_node n fit.ranges.0, wanders a g s fit.ranges.1.0 fit.ranges.1.1.0 fit.ranges.1.1.1.0)
  again_meant (n ∷ a ∷ g ∷ s ∷ []) (datum d) fit v = fit.sort
  again_meant (n ∷ a ∷ g ∷ s ∷ []) (words t) fit v = fit.sort
  again_meant (n ∷ a ∷ g ∷ s ∷ []) (mode how) fit v = fit.sort
  again_meant (n ∷ a ∷ g ∷ s ∷ x ∷ ns) e fit v = absurd (omega (arith, fit.count))

  move_meant : (ns : List ℕ) (e : Last) → FitsForm most move_form ns e → IsFitLast e → IsMeant (move_row ns e)
  move_meant [] e fit v = absurd (omega (arith, fit.count))
  move_meant (n ∷ []) e fit v = absurd (omega (arith, fit.count))
  move_meant (n ∷ a ∷ []) e fit v = absurd (omega (arith, fit.count))
  move_meant (n ∷ a ∷ g ∷ []) e fit v = absurd (omega (arith, fit.count))
  move_meant (n ∷ a ∷ g ∷ s ∷ []) e fit v = absurd (omega (arith, fit.count))
  move_meant (n ∷ a ∷ g ∷ s ∷ to ∷ []) nothing fit v = (
    is_node n fit.ranges.0,
    wanders a g s fit.ranges.1.0 fit.ranges.1.1.0 fit.ranges.1.1.1.0,
    is_node to fit.ranges.1.1.1.1.0,
    apart_by n to fit.apart,
  )
  move_meant (n ∷ a ∷ g ∷ s ∷ to ∷ []) (datum d) fit v = fit.sort
  move_meant (n ∷ a ∷ g ∷ s ∷ to ∷ []) (words t) fit v = fit.sort
  move_meant (n ∷ a ∷ g ∷ s ∷ to ∷ []) (mode how) fit v = fit.sort
  move_meant (n ∷ a ∷ g ∷ s ∷ to ∷ x ∷ ns) e fit v = absurd (omega (arith, fit.count))

  carry_meant : (ns : List ℕ) (e : Last) → FitsForm most carry_form ns e → IsFitLast e → IsMeant (carry_row ns e)
  carry_meant [] e fit v = absurd (omega (arith, fit.count))
  carry_meant (a ∷ []) e fit v = absurd (omega (arith, fit.count))
  carry_meant (a ∷ b ∷ []) e fit v = absurd (omega (arith, fit.count))
  carry_meant (a ∷ b ∷ i ∷ []) nothing fit v = (is_node a fit.ranges.0, is_node b fit.ranges.1.0, fit.ranges.1.1.0.0)
  carry_meant (a ∷ b ∷ i ∷ []) (datum d) fit v = fit.sort
  carry_meant (a ∷ b ∷ i ∷ []) (words t) fit v = fit.sort
  carry_meant (a ∷ b ∷ i ∷ []) (mode how) fit v = fit.sort
  carry_meant (a ∷ b ∷ i ∷ x ∷ ns) e fit v = absurd (omega (arith, fit.count))

  crash_meant : (ns : List ℕ) (e : Last) → FitsForm most crash_form ns e → IsFitLast e → IsMeant (crash_row ns e)
  crash_meant [] e fit v = absurd (omega (arith, fit.count))
  crash_meant (n ∷ []) nothing fit v = fit.sort
  crash_meant (n ∷ []) (datum d) fit v = fit.sort
  crash_meant (n ∷ []) (words t) fit v = fit.sort
  crash_meant (n ∷ []) (mode how) fit v = is_node n fit.ranges.0
  crash_meant (n ∷ x ∷ ns) e fit v = absurd (omega (arith, fit.count))

  restart_meant : (ns : List ℕ) (e : Last) → FitsForm most restart_form ns e → IsFitLast e → IsMeant (restart_row ns e)
  restart_meant [] e fit v = absurd (omega (arith, fit.count))
  restart_meant (n ∷ []) nothing fit v = is_node n fit.ranges.0
  restart_meant (n ∷ []) (datum d) fit v = fit.sort
  restart_meant (n ∷ []) (words t) fit v = fit.sort
  restart_meant (n ∷ []) (mode how) fit v = fit.sort
  restart_meant (n ∷ x ∷ ns) e fit v = absurd (omega (arith, fit.count))

  fail_meant : (ns : List ℕ) (e : Last) → FitsForm most fail_form ns e → IsFitLast e → IsMeant (fail_row ns e)
  fail_meant [] e fit v = absurd (omega (arith, fit.count))
  fail_meant (n ∷ []) e fit v = absurd (omega (arith, fit.count))
  fail_meant (n ∷ k ∷ []) nothing fit v = (is_node n fit.ranges.0, fit.ranges.1.0.0)
  fail_meant (n ∷ k ∷ []) (datum d) fit v = fit.sort
  fail_meant (n ∷ k ∷ []) (words t) fit v = fit.sort
  fail_meant (n ∷ k ∷ []) (mode how) fit v = fit.sort
  fail_meant (n ∷ k ∷ x ∷ ns) e fit v = absurd (omega (arith, fit.count))

  stop_meant : (ns : List ℕ) (e : Last) → FitsForm most stop_form ns e → IsFitLast e → IsMeant (stop_row ns e)
  stop_meant [] e fit v = absurd (omega (arith, fit.count))
  stop_meant (n ∷ []) e fit v = absurd (omega (arith, fit.count))
  stop_meant (n ∷ k ∷ []) nothing fit v = fit.sort
  stop_meant (n ∷ k ∷ []) (datum d) fit v = fit.sort
  stop_meant (n ∷ k ∷ []) (words t) fit v = fit.sort
  stop_meant (n ∷ k ∷ []) (mode how) fit v = (is_node n fit.ranges.0, fit.ranges.1.0.0)
  stop_meant (n ∷ k ∷ x ∷ ns) e fit v = absurd (omega (arith, fit.count))

  meant_by : (k : ℕ) (ns : List ℕ) (e : Last) (f : Form) → slice_get move_kind.others k ≡ Some f → FitsForm most f ns e → IsFitLast e
      → IsMeant (command_by k ns e)
  meant_by zero ns e f h fit v =
      make_meant ns e (subst (λ (g : Form). FitsForm most g ns e) (sym (same_Some make_form f h)) fit) v
  meant_by (suc zero) ns e f h fit v =
      wake_meant ns e (subst (λ (g : Form). FitsForm most g ns e) (sym (same_Some wake_form f h)) fit) v
  meant_by (suc (suc zero)) ns e f h fit v =
      save_meant ns e (subst (λ (g : Form). FitsForm most g ns e) (sym (same_Some save_form f h)) fit) v
  meant_by (suc (suc (suc zero))) ns e f h fit v =
      move_meant ns e (subst (λ (g : Form). FitsForm most g ns e) (sym (same_Some move_form f h)) fit) v
  meant_by (suc (suc (suc (suc zero)))) ns e f h fit v =
      again_meant ns e (subst (λ (g : Form). FitsForm most g ns e) (sym (same_Some again_form f h)) fit) v
  meant_by (suc (suc (suc (suc (suc zero))))) ns e f h fit v =
      carry_meant ns e (subst (λ (g : Form). FitsForm most g ns e) (sym (same_Some carry_form f h)) fit) v
  meant_by (suc (suc (suc (suc (suc (suc zero)))))) ns e f h fit v =
      crash_meant ns e (subst (λ (g : Form). FitsForm most g ns e) (sym (same_Some crash_form f h)) fit) v
  meant_by (suc (suc (suc (suc (suc (suc (suc zero))))))) ns e f h fit v =
      restart_meant ns e (subst (λ (g : Form). FitsForm most g ns e) (sym (same_Some restart_form f h)) fit) v
  meant_by (suc (suc (suc (suc (suc (suc (suc (suc zero)))))))) ns e f h fit v =
      fail_meant ns e (subst (λ (g : Form). FitsForm most g ns e) (sym (same_Some fail_form f h)) fit) v
  meant_by (suc (suc (suc (suc (suc (suc (suc (suc (suc zero))))))))) ns e f h fit v =
      stop_meant ns e (subst (λ (g : Form). FitsForm most g ns e) (sym (same_Some stop_form f h)) fit) v
  meant_by (suc (suc (suc (suc (suc (suc (suc (suc (suc (suc k)))))))))) ns e f h fit v = absurd cc

  pub rows_meant : (bytes spots : List ℕ) (rows : List Row) → All (FitsKind move_kind most) rows → AreAt move_kind bytes most spots rows
      → All HasMeaning rows
  rows_meant bytes spots [] h at = All-nil HasMeaning
  rows_meant bytes [] (r ∷ rows) h at = absurd at
  rows_meant bytes (spot ∷ spots) (r ∷ rows) h at =
      let x = All-head (FitsKind move_kind most) r rows h in
      All-cons HasMeaning r rows (meant_by r.form r.numbers r.last x.0 x.1 x.2 (row_fits bytes most spot r at.0))
      (rows_meant bytes spots rows (All-tail (FitsKind move_kind most) r rows h) at.1)
