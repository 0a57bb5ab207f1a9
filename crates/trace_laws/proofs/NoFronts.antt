-- Where no entry that is due agrees with a trace up to a line, no legal text does.
use Rattle.std.proofs.Common.{◌≡◌, ◌==◌, ◌≤◌, ◌<◌, ℕ, zero, suc, Bool, true, false, cond, List, [], ◌∷◌, ◌++◌, length, take, refl, sym, ◌∙◌}
use Rattle.std.proofs.Common.{ap, subst, arith, append_assoc, append-nil, inl, inr}
use Rattle.std.specs.Prelude.{◌⊎◌}
use Rattle.std.specs.List.{All, AllByRecursion}
use Rattle.std.proofs.lemmas.List.Elements.{recursion_from_All}
use Rattle.passive_store.specs.Kept.{Layout}
use Rattle.passive_store.specs.Layout.{IsLayout}
use Rattle.journal.specs.declared.command.Script.{Script}
use Rattle.journal.specs.declared.event.Entry.{Entry}
use Rattle.journal.specs.declared.event.Mode.TheVariants.{Full}
use Rattle.journal.specs.Lines.{text_of}
use Rattle.journal.specs.Standing.{DiskRun}
use Rattle.journal.specs.LegalRun.{AreHandedIn, opening_world}
use Rattle.journal.specs.Laws.{Begins}
use Rattle.journal.specs.Run.{Position, IsDue, Leads, lead, end_of, beginning, over, joined_to}
use Rattle.trace_laws.specs.Determined.{HasClocks, IsFront}
use Rattle.trace_laws.specs.Verdict.{lines_of, HasFront, NoneAgrees}
use Rattle.trace_laws.proofs.ClosedTexts.{lines-append, closed-history}
use Rattle.trace_laws.proofs.Histories.{histories-are-determined}
use Rattle.trace_laws.proofs.Fronts.{text-append}

-- 1. Lines

abbrev all_of : List (List ℕ) → List ℕ
all_of [] = []
all_of (x ∷ xs) = x ++ all_of xs

all-append : (xs ys : List (List ℕ)) → all_of (xs ++ ys) ≡ all_of xs ++ all_of ys
all-append [] ys = refl
all-append (x ∷ xs) ys = ap (λ t. x ++ t) (all-append xs ys) ∙ sym (append_assoc x (all_of xs) (all_of ys))

all-joined : (b : ℕ) (xs : List (List ℕ)) → all_of (joined_to b xs) ≡ b ∷ all_of xs
all-joined b [] = refl
all-joined b (x ∷ xs) = refl

all-lines : (t : List ℕ) → all_of (lines_of t) ≡ t
all-lines [] = refl
all-lines (b ∷ bs) = go (all-lines bs) (b == 10)
  where
    go : all_of (lines_of bs) ≡ bs → (c : Bool) → all_of (cond c ((b ∷ []) ∷ lines_of bs) (joined_to b (lines_of bs))) ≡ b ∷ bs
    go later true = ap (λ t. b ∷ t) later
    go later false = all-joined b (lines_of bs) ∙ ap (λ t. b ∷ t) later

-- a list that begins as another, up to a place behind all of a third one that this begins with
front-of : {X : Type 0} (xs ys l : List X) (k : ℕ) → length xs ≤ k → take k l ≡ take k (xs ++ ys) → (more : List X) × (l ≡ xs ++ more)
front-of [] ys l k few same = (l, refl)
front-of (x ∷ xs) ys l zero few same = absurd (omega (arith, few))
front-of (x ∷ xs) ys [] (suc k) few same = absurd (cc same)
front-of (x ∷ xs) ys (z ∷ zs) (suc k) few same =
    let head : z ≡ x = cc same in
    let tail : take k zs ≡ take k (xs ++ ys) = cc same in
    let r = front-of xs ys zs k (omega (arith, few)) tail in (r.0, ap (λ y. y ∷ zs) head ∙ ap (λ l. x ∷ l) r.1)

length-short : {X : Type 0} (k : ℕ) (xs ys : List X) → length xs < k → k ≤ length ys → take k xs ≡ take k ys → ⊥
length-short zero xs ys few many same = omega (arith, few)
length-short (suc k) [] [] few many same = omega (arith, many)
length-short (suc k) [] (y ∷ ys) few many same = cc same
length-short (suc k) (x ∷ xs) [] few many same = omega (arith, many)
length-short (suc k) (x ∷ xs) (y ∷ ys) few many same = length-short k xs ys (omega (arith, few)) (omega (arith, many)) (cc same)

-- 2. Histories

pub leads-split : (p : Position) (h more : List Entry) → Leads p (h ++ more) → Leads (end_of p h) more
leads-split p [] more leads = leads
leads-split p (e ∷ es) more leads = leads-split (lead p e) es more leads.1

pub clocks-split : (h more : List Entry) → AllByRecursion HasClocks (h ++ more) → AllByRecursion HasClocks more
clocks-split [] more c = c
clocks-split (e ∷ es) more c = clocks-split es more c.1

pub none-over : (p : Position) (e : Entry) → p.due ≡ over → IsDue p e → ⊥
none-over p e is due = subst (λ d. IsDue (record p { due = d }) e) is due

pub no-front : (layout : Layout) (script : Script) (disks : List DiskRun) (history : List Entry) (trace rest : List ℕ) (k : ℕ)
    → IsLayout layout → AreHandedIn layout disks → Begins layout script disks history → All HasClocks history
    → trace ≡ text_of Full history ++ rest → length (lines_of (text_of Full history)) < k
    → NoneAgrees (end_of (beginning (opening_world layout script disks) script.nodes script.commands) history) history trace k
    → HasFront (opening_world layout script disks) script trace k → ⊥
no-front layout script disks history trace rest k lays handed begins clocks is behind none front =
    by (histories-are-determined layout script disks history g r [] lays handed begins front.legal.follows.leads clocks front.legal.clocks
    texts)
  where
    start : Position
    start = beginning (opening_world layout script disks) script.nodes script.commands

    g : List Entry
    g = front.legal.history

    mine : List (List ℕ)
    mine = lines_of (text_of Full history)

    traced : lines_of trace ≡ mine ++ lines_of rest
    traced = ap lines_of is ∙ lines-append (text_of Full history) rest (closed-history history)

    split : (more : List (List ℕ)) × (lines_of front.text ≡ mine ++ more)
    split = front-of mine (lines_of rest) (lines_of front.text) k (omega (arith, behind)) (front.begins.same ∙ ap (λ l. take k l) traced)

    r : List ℕ
    r = all_of split.0

    texts : text_of Full history ++ r ≡ text_of Full g ++ []
    texts = sym (sym front.legal.is_text ∙ (sym (all-lines front.text)
        ∙ (ap all_of split.1 ∙ (all-append mine split.0 ∙ ap (λ t. t ++ r) (all-lines (text_of Full history))))))
        ∙ sym (append-nil (text_of Full g))

    too-short : g ≡ history → ⊥
    too-short same = length-short k mine (lines_of trace) behind front.begins.many
        (ap (λ t. take k (lines_of t)) (sym (front.legal.is_text ∙ ap (λ h. text_of Full h) same)) ∙ front.begins.same)

    longer : (more : List Entry) → g ≡ history ++ more → ⊥
    longer [] same = too-short (same ∙ append-nil history)
    longer (e ∷ es) same = none e (text_of Full es)
        (leads-split start history (e ∷ es) (subst (λ h. Leads start h) same front.legal.follows.leads)).0
        (clocks-split history (e ∷ es) (recursion_from_All HasClocks (history ++ (e ∷ es))
        (subst (λ h. All HasClocks h) same front.legal.clocks))).0
        (ap (λ t. take k (lines_of t)) (sym (front.legal.is_text ∙ (ap (λ h. text_of Full h) same ∙ text-append history (e ∷ es))))
        ∙ front.begins.same)

    shorter : (more : List Entry) → history ≡ g ++ more → ⊥
    shorter [] same = too-short (sym (same ∙ append-nil g))
    shorter (e ∷ es) same = none-over (end_of start g) e front.legal.follows.whole
        (leads-split start g (e ∷ es) (subst (λ h. Leads start h) same begins)).0

    by : IsFront history g ⊎ IsFront g history → ⊥
    by (inl x) = longer x.0 x.1
    by (inr x) = shorter x.0 x.1
