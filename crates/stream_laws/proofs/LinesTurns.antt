-- One turn of a Lines: its list, once it has one, stays; and it hands out items of it, and tells its end, only once something of it is
-- kept.
use Rattle.std.proofs.Common.{◌≡◌, ℕ, ◌==◌, ℤ, pos, negsuc, Bool, true, false, cond, List, []}
use Rattle.std.proofs.Common.{map, length, Option, None, Some, refl, ap, sym, ◌∙◌, subst}
use Rattle.std.specs.Prelude.{slice_get}
use Rattle.std.specs.Option.{option_map}
use Rattle.std.proofs.lemmas.Option.{slice_get-map}
use Rattle.eden_value.specs.Datum.{Datum, text}
use Rattle.eden_value.specs.Code.{items_of-data_of}
use Rattle.eden_value.specs.declared.status.Status.TheVariants as status
use Rattle.eden_model.specs.Map.{with_item}
use Rattle.epl_syntax.specs.declared.effect.Answer.{Answer}
use Rattle.epl_syntax.specs.declared.effect.Answer.TheVariants.{Reply as Told}
use Rattle.epl_syntax.specs.declared.effect.Effect.{Effect}
use Rattle.epl_syntax.specs.declared.effect.Effect.TheVariants as effect
use Rattle.epl_syntax.specs.Simple.{is_fine, returns_code}
use Rattle.epl_syntax.specs.Streams.{Came, an_item, the_end, nothing, came, returns_item, returns_none, trouble, out_of_reach, end_code}
use Rattle.epl_syntax.specs.Lines.{Source, Stage, fills, fill_saved, transfers, transfer_saved, source, values_of, item_at, saves}
use Rattle.epl_syntax.specs.Lines.{lines_turn}
use Rattle.history_laws.proofs.SafeRuns.{same-number}
use Rattle.stream_laws.proofs.Items.{IsOf, HasText, mapped-length}

-- 1. What a Lines holds: where it is filled, it has this list; and where that is saved, something of it is kept
pub record Holds (kept : Bool) (texts : List (List ℕ)) (s : Source) : Type 0 where
  pub items : s.filled ≡ true → s.items ≡ map text texts
  pub saved : s.filled ≡ true → s.saved ≡ true → kept ≡ true

-- what is in the variables in which a Lines is, is that Lines
pub source-back : (s : Source) → source (values_of s) ≡ s
source-back s = ap (λ items. record s { items = items }) (items_of-data_of s.items)

-- 2. What is left to do
abbrev pub IsLeft : List (List ℕ) → ℤ → Source → Stage → Type 0
IsLeft texts q s (fills items) = s.filled ≡ false → items ≡ map text texts
IsLeft texts q s fill_saved = s.filled ≡ true
IsLeft texts q s (transfers p) = p ≡ q
IsLeft texts q s (transfer_saved p) = (p ≡ q) × (s.filled ≡ true)

-- 3. What a turn comes to

-- what comes for a position comes once something is kept
abbrev pub IsSaid : Bool → List (List ℕ) → ℤ → Came → Type 0
IsSaid kept texts q (an_item t) = (kept ≡ true) × IsOf texts q (an_item t)
IsSaid kept texts q the_end = (kept ≡ true) × IsOf texts q the_end
IsSaid kept texts q nothing = Unit {0}

abbrev pub EndsSo : Bool → List (List ℕ) → ℤ → Source → Stage → Effect → Type 0
EndsSo kept texts q s st (effect.Return results) = IsSaid kept texts q (came (Told status.Ok results)) × HasText results
EndsSo kept texts q s st effect.Checkpoint = (s.filled ≡ true) × IsLeft texts q s st
EndsSo kept texts q s st _ = ⊥

pub record Moves (kept : Bool) (texts : List (List ℕ)) (q : ℤ) (old : Source) (m : List Datum × Stage × Effect) : Type 0 where
  pub now : Source
  pub values : m.0 ≡ values_of now
  pub holds : Holds kept texts now
  pub filled : old.filled ≡ true → now.filled ≡ true
  pub ends : EndsSo kept texts q now m.1 m.2

-- the turn, by what the Lines holds
abbrev turned_by : Source → List Datum → Stage → Answer → List Datum × Stage × Effect
turned_by s vars (fills items) answer =
    cond s.filled (vars, fill_saved, returns_code 1) (saves (record s { filled = true; items = items }) fill_saved)
turned_by s vars fill_saved answer =
    cond (is_fine answer) (values_of (record s { saved = true }), fill_saved, returns_code 0) (vars, fill_saved, returns_code trouble)
turned_by s vars (transfers p) answer =
    cond s.filled (cond s.saved (vars, fill_saved, item_at s.items p) (saves s (transfer_saved p))) (vars, fill_saved, returns_none trouble)
turned_by s vars (transfer_saved p) answer =
    cond (is_fine answer) (values_of (record s { saved = true }), fill_saved, item_at s.items p) (vars, fill_saved, returns_none trouble)

by-source : (vars : List Datum) (st : Stage) (a : Answer) → turned_by (source vars) vars st a ≡ lines_turn vars st a
by-source vars (fills items) a = refl
by-source vars fill_saved a = refl
by-source vars (transfers p) a = refl
by-source vars (transfer_saved p) a = refl

module _ (kept : Bool) (texts : List (List ℕ)) (q : ℤ) where
  moves-cond : (s : Source) (b : Bool) (x y : List Datum × Stage × Effect) → (b ≡ true → Moves kept texts q s x)
      → (b ≡ false → Moves kept texts q s y) → Moves kept texts q s (cond b x y)
  moves-cond s true x y a b = a refl
  moves-cond s false x y a b = b refl

  -- the item at a position of its list
  handed : (s : Source) → s.items ≡ map text texts → kept ≡ true → EndsSo kept texts q s fill_saved (item_at s.items q)
  handed s is k = go q
    where
      at : (i : ℕ) (o : Option (List ℕ)) → slice_get texts i ≡ o
          → EndsSo kept texts (pos i) s fill_saved
          (with_item (option_map text o) returns_item (returns_none (cond (i == length s.items) end_code out_of_reach)))
      at i (Some t) e = ((k, e), (t, refl))
      at i None e = last (i == length s.items) refl
        where
          last : (b : Bool) → (i == length s.items) ≡ b
              → EndsSo kept texts (pos i) s fill_saved (returns_none (cond b end_code out_of_reach))
          last true e = ((k, ap pos (same-number i (length s.items) e ∙ ap length is ∙ mapped-length text texts)), ([], refl))
          last false e = (tt, ([], refl))

      go : (q : ℤ) → EndsSo kept texts q s fill_saved (item_at s.items q)
      go (pos i) = subst (λ o. EndsSo kept texts (pos i) s fill_saved
          (with_item o returns_item (returns_none (cond (i == length s.items) end_code out_of_reach))))
          (sym (ap (λ l. slice_get l i) is ∙ slice_get-map text texts i)) (at i (slice_get texts i) refl)
      go (negsuc i) = (tt, ([], refl))

  moved : (s : Source) (st : Stage) (a : Answer) → Holds kept texts s → IsLeft texts q s st → (is_fine a ≡ true → kept ≡ true)
      → Moves kept texts q s (turned_by s (values_of s) st a)
  moved s (fills items) a h left fine = moves-cond s s.filled (values_of s, fill_saved, returns_code 1) _
      (λ e. record { now = s; values = refl; holds = h; filled = λ x. x; ends = (tt, tt) })
      (λ e. record {
        now = record s { filled = true; items = items; saved = false };
        values = refl;
        holds = record { items = λ x. left e; saved = λ x y. absurd (cc y) };
        filled = λ x. refl;
        ends = (refl, refl);
      })
  moved s fill_saved a h left fine =
      moves-cond s (is_fine a) (values_of (record s { saved = true }), fill_saved, returns_code 0) _
      (λ e. record {
        now = record s { saved = true };
        values = refl;
        holds = record { items = h.items; saved = λ x y. fine e };
        filled = λ x. x;
        ends = (tt, tt);
      })
      (λ e. record { now = s; values = refl; holds = h; filled = λ x. x; ends = (tt, tt) })
  moved s (transfers p) a h left fine = moves-cond s s.filled _ (values_of s, fill_saved, returns_none trouble)
      (λ filled. moves-cond s s.saved (values_of s, fill_saved, item_at s.items p) (saves s (transfer_saved p))
      (λ saved. record {
        now = s;
        values = refl;
        holds = h;
        filled = λ x. x;
        ends = subst (λ p. EndsSo kept texts q s fill_saved (item_at s.items p)) (sym left)
            (handed s (h.items filled) (h.saved filled saved));
      })
      (λ unsaved. record {
        now = record s { saved = false };
        values = refl;
        holds = record { items = h.items; saved = λ x y. absurd (cc y) };
        filled = λ x. x;
        ends = (filled, (left, filled));
      }))
      (λ empty. record { now = s; values = refl; holds = h; filled = λ x. x; ends = (tt, ([], refl)) })
  moved s (transfer_saved p) a h left fine =
      moves-cond s (is_fine a) (values_of (record s { saved = true }), fill_saved, item_at s.items p) _
      (λ e. record {
        now = record s { saved = true };
        values = refl;
        holds = record { items = h.items; saved = λ x y. fine e };
        filled = λ x. x;
        ends = subst (λ p. EndsSo kept texts q (record s { saved = true }) fill_saved (item_at s.items p)) (sym left.0)
            (handed s (h.items left.1) (fine e));
      })
      (λ e. record { now = s; values = refl; holds = h; filled = λ x. x; ends = (tt, ([], refl)) })

  pub lines-moves : (s : Source) (st : Stage) (a : Answer) → Holds kept texts s → IsLeft texts q s st → (is_fine a ≡ true → kept ≡ true)
      → Moves kept texts q s (lines_turn (values_of s) st a)
  lines-moves s st a h left fine = subst (Moves kept texts q s) (ap (λ g. turned_by g (values_of s) st a) (sym (source-back s))
      ∙ by-source (values_of s) st a) (moved s st a h left fine)
