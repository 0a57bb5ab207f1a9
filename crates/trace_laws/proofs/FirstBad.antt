-- What shows that a line is the first bad one.
use Rattle.std.proofs.Common.{◌≡◌, ◌≤◌, ℕ, zero, suc, List, [], ◌∷◌, ◌++◌, take, refl, sym, ◌∙◌, ap, subst, arith, append-nil, inl}
use Rattle.std.proofs.Common.{inr}
use Rattle.std.specs.Prelude.{◌⊎◌}
use Rattle.std.specs.List.{All}
use Rattle.std.proofs.lemmas.List.Elements.{recursion_from_All}
use Rattle.passive_store.specs.Kept.{Layout}
use Rattle.passive_store.specs.Layout.{IsLayout}
use Rattle.journal.specs.declared.command.Script.{Script}
use Rattle.journal.specs.declared.event.Entry.{Entry}
use Rattle.journal.specs.declared.event.Mode.TheVariants.{Full}
use Rattle.journal.specs.Lines.{text_of}
use Rattle.journal.specs.Standing.{DiskRun}
use Rattle.journal.specs.LegalRun.{AreHandedIn, opening_world}
use Rattle.journal.specs.Laws.{Begins}
use Rattle.journal.specs.Run.{Position, Leads, end_of, beginning, over}
use Rattle.trace_laws.specs.Determined.{HasClocks, IsFront}
use Rattle.trace_laws.specs.Verdict.{lines_of, IsLegalText, NoneAgrees, FirstBadLinesAreShown}
use Rattle.trace_laws.proofs.Texts.{past}
use Rattle.trace_laws.proofs.Histories.{histories-are-determined}
use Rattle.trace_laws.proofs.Fronts.{text-append, has-front}
use Rattle.trace_laws.proofs.NoFronts.{no-front, leads-split, clocks-split, none-over}

pub not-legal : (layout : Layout) (script : Script) (disks : List DiskRun) (history : List Entry) (trace rest : List ℕ) (k : ℕ)
    → IsLayout layout → AreHandedIn layout disks → Begins layout script disks history → All HasClocks history
    → trace ≡ text_of Full history ++ rest
    → ((end_of (beginning (opening_world layout script disks) script.nodes script.commands) history).due ≡ over → rest ≡ [] → ⊥)
    → NoneAgrees (end_of (beginning (opening_world layout script disks) script.nodes script.commands) history) history trace k
    → IsLegalText (opening_world layout script disks) script trace → ⊥
not-legal layout script disks history trace rest k lays handed begins clocks is unended none legal =
    by (histories-are-determined layout script disks history g rest [] lays handed begins legal.follows.leads clocks legal.clocks texts)
  where
    start : Position
    start = beginning (opening_world layout script disks) script.nodes script.commands

    g : List Entry
    g = legal.history

    texts : text_of Full history ++ rest ≡ text_of Full g ++ []
    texts = sym is ∙ (legal.is_text ∙ sym (append-nil (text_of Full g)))

    one : g ≡ history → ⊥
    one same = unended (subst (λ h. (end_of start h).due ≡ over) same legal.follows.whole)
        (past (text_of Full history) rest [] (texts ∙ ap (λ h. text_of Full h ++ []) same))

    longer : (more : List Entry) → g ≡ history ++ more → ⊥
    longer [] same = one (same ∙ append-nil history)
    longer (e ∷ es) same = none e (text_of Full es)
        (leads-split start history (e ∷ es) (subst (λ h. Leads start h) same legal.follows.leads)).0
        (clocks-split history (e ∷ es) (recursion_from_All HasClocks (history ++ (e ∷ es))
        (subst (λ h. All HasClocks h) same legal.clocks))).0
        (ap (λ t. take k (lines_of t)) (sym (legal.is_text ∙ (ap (λ h. text_of Full h) same ∙ text-append history (e ∷ es)))))

    shorter : (more : List Entry) → history ≡ g ++ more → ⊥
    shorter [] same = one (sym (same ∙ append-nil g))
    shorter (e ∷ es) same = none-over (end_of start g) e legal.follows.whole
        (leads-split start g (e ∷ es) (subst (λ h. Leads start h) same begins)).0

    by : IsFront history g ⊎ IsFront g history → ⊥
    by (inl x) = longer x.0 x.1
    by (inr x) = shorter x.0 x.1

fewer : {X : Type 0} (i j : ℕ) (xs ys : List X) → i ≤ j → take j xs ≡ take j ys → take i xs ≡ take i ys
fewer zero j xs ys few same = refl
fewer (suc i) zero xs ys few same = absurd (omega (arith, few))
fewer (suc i) (suc j) [] [] few same = refl
fewer (suc i) (suc j) [] (y ∷ ys) few same = absurd (cc same)
fewer (suc i) (suc j) (x ∷ xs) [] few same = absurd (cc same)
fewer (suc i) (suc j) (x ∷ xs) (y ∷ ys) few same =
    let head : x ≡ y = cc same in
    let tail : take j xs ≡ take j ys = cc same in
    ap (λ z. z ∷ take i xs) head ∙ ap (λ l. y ∷ l) (fewer i j xs ys (omega (arith, few)) tail)

pub first-bad : FirstBadLinesAreShown
first-bad layout script disks trace j lays handed fit boot s = record {
  counted = omega arith;
  not_legal = not-legal layout script disks s.history trace s.rest (suc j) lays handed s.begins s.clocks s.stands s.unended s.none_agrees;
  before = λ i low high. has-front layout script disks s.best trace i lays handed fit boot s.best_begins s.best_clocks
      (omega (arith, s.best_many, high)) (record {
        many = omega (arith, s.best_same.many, high);
        same = fewer i j (lines_of (text_of Full s.best)) (lines_of trace) (omega (arith, high)) s.best_same.same;
      });
  none = no-front layout script disks s.history trace s.rest (suc j) lays handed s.begins s.clocks s.stands (omega (arith, s.few))
      s.none_agrees;
}
