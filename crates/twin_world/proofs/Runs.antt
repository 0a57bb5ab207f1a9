-- Commands one behind the other.
use Rattle.std.proofs.Common.{◌≡◌, ◌⊎◌, inl, inr, ℕ, zero, suc, List, [], ◌∷◌, ◌++◌, map, length, refl, sym, ap, subst, ◌∙◌}
use Rattle.std.proofs.Common.{arith, append_assoc, append-nil}
use Rattle.std.specs.Prelude.{IsTrue, Bool, false}
use Rattle.std.proofs.lemmas.List.{map-append}
use Rattle.passive_store.specs.Kept.{Layout}
use Rattle.passive_store.specs.Layout.{IsLayout}
use Rattle.twin_world.specs.Commands.{Command, node_of, IsNode, IsInReach}
use Rattle.twin_world.specs.Disks.{ZerosKeepNothing}
use Rattle.twin_world.specs.Logs.{Entry, Pair, Texts, Steps, is_of, known_behind, Follows, AllInReach, IsLegalTwin, blank_pair}
use Rattle.twin_world.specs.Logs.{no_texts}
use Rattle.twin_world.specs.Places.{Standing, StandsFor, disks_at}
use Rattle.twin_world.specs.Scripts.{commands_of, AreInReach}
use Rattle.twin_world.specs.View.{entry_of}
use Rattle.twin_world.specs.Worlds.{standing_at, IsWorld, CanGoOn, AreBlank, StepsAll, LeadsTo, Reaches, TellsAll, IsCausedAt, Runs}
use Rattle.twin_world.specs.declared.answer.Entry.{Entry as CodedEntry}
use Rattle.twin_world.proofs.Moving.{reach-node, not-equal, rise-none}

-- 1. One more

leads-more : (layout : Layout) (n : ℕ) (es : List Entry) (e : Entry) (p : Pair) (m : Texts) (s t : Standing) → LeadsTo layout n es p m s
    → ((q : Pair) (x : Texts) → StandsFor layout n q x s
    → (y : Texts) × Steps (is_of n e) e q x y × StandsFor layout n (known_behind (is_of n e) e q) y t)
    → LeadsTo layout n (es ++ e ∷ []) p m t
leads-more layout n [] e p m s t h step = step p m h
leads-more layout n (d ∷ es) e p m s t h step =
    (h.0, h.1, leads-more layout n es e (known_behind (is_of n d) d p) h.0 s t h.2 step)

reaches-more : (layout : Layout) (es : List Entry) (e : Entry) (ss ss2 ss3 : List Standing) → Reaches layout es ss ss2
    → StepsAll layout e ss2 ss3 → Reaches layout (es ++ e ∷ []) ss ss3
reaches-more layout es e ss ss2 ss3 r step n is p m h =
    leads-more layout n es e p m (standing_at ss2 n) (standing_at ss3 n) (r n is p m h) (step n is)

runs-more : (tells : Bool) (layout : Layout) (es : List Entry) (e : Entry) (ss ss2 ss3 : List Standing) → Runs tells layout es ss ss2
    → TellsAll e ss2 ss3 → IsCausedAt tells layout e ss2 → Runs tells layout (es ++ e ∷ []) ss ss3
runs-more tells layout [] e ss ss2 ss3 h told caused =
    (ss3, subst (λ z. TellsAll e z ss3) h told, subst (IsCausedAt tells layout e) h caused, refl)
runs-more tells layout (d ∷ es) e ss ss2 ss3 h told caused =
    (h.0, h.1, h.2, runs-more tells layout es e h.0 ss2 ss3 h.3 told caused)

-- 2. A whole log

leads-follows : (layout : Layout) (n : ℕ) (es : List Entry) (p : Pair) (m : Texts) (s : Standing) → LeadsTo layout n es p m s
    → Follows n es p m
leads-follows layout n [] p m s h = tt
leads-follows layout n (e ∷ es) p m s h = (h.0, h.1, leads-follows layout n es (known_behind (is_of n e) e p) h.0 s h.2)

node? : (n : ℕ) → IsNode n ⊎ (IsNode n → ⊥)
node? zero = inr (λ h. absurd (omega (arith, h.0)))
node? (suc zero) = inl (omega arith, omega arith)
node? (suc (suc zero)) = inl (omega arith, omega arith)
node? (suc (suc (suc zero))) = inl (omega arith, omega arith)
node? (suc (suc (suc (suc zero)))) = inl (omega arith, omega arith)
node? (suc (suc (suc (suc (suc k))))) = inr (λ h. absurd (omega (arith, h.1)))

-- no entry is one of another number
none-follow : (n : ℕ) (es : List Entry) (p : Pair) (m : Texts) → (IsNode n → ⊥) → AllInReach es → Follows n es p m
none-follow n [] p m never reach = tt
none-follow n (e ∷ es) p m never reach =
    let other : is_of n e ≡ false = not-equal (node_of e.command) n
    (λ q. never (subst IsNode q (reach-node e.command reach.0))) in
    (m, subst (λ b. Steps b e p m m) (sym other) (λ k. refl), none-follow n es (known_behind (is_of n e) e p) m never reach.1)

all-reach : (es : List Entry) → AreInReach (commands_of es) → AllInReach es
all-reach [] h = tt
all-reach (e ∷ es) h = (h.0, all-reach es h.1)

pub legal : (layout : Layout) (es : List Entry) (commands : List Command) (ss ss2 : List Standing) → AreInReach commands
    → commands_of es ≡ commands → AreBlank layout ss → Reaches layout es ss ss2 → IsLegalTwin (record { entries = es })
legal layout es commands ss ss2 reach all blank r = record {
  follows = λ n. go n (node? n);
  reach = all-reach es (subst AreInReach (sym all) reach);
}
  where
    go : (n : ℕ) → IsNode n ⊎ (IsNode n → ⊥) → Follows n es blank_pair no_texts
    go n (inl is) = leads-follows layout n es blank_pair no_texts (standing_at ss2 n) (r n is blank_pair no_texts (blank n is))
    go n (inr never) = none-follow n es blank_pair no_texts never (all-reach es (subst AreInReach (sym all) reach))

-- 3. A loop

-- What was reached by these entries, where so many commands are left.
pub record Reached (layout : Layout) (es : List Entry) (left : ℕ) (ss ss2 : List Standing) : Type 0 where
  pub can : CanGoOn left ss2
  pub reaches : Reaches layout es ss ss2

-- These commands are carried out, with these entries, and those are to come.
pub record Ran (tells : Bool) (layout : Layout) (ss ss2 : List Standing) (es : List Entry) (all rest : List Command) : Type 0 where
  pub world : IsWorld ss2
  pub reach : AreInReach rest
  pub cut : commands_of es ++ rest ≡ all
  pub runs : Runs tells layout es ss ss2
  pub reached : IsTrue tells → IsLayout layout → ZerosKeepNothing layout → CanGoOn (length all) ss → Reached layout es (length rest) ss ss2

pub ran-first : (tells : Bool) (layout : Layout) (ss : List Standing) (es : List Entry) (all : List Command) → IsWorld ss
    → AreInReach all → es ≡ [] → Ran tells layout ss ss es all all
ran-first tells layout ss es all world reach none =
    subst (λ z. Ran tells layout ss ss z all all) (sym none) (record {
      world = world;
      reach = reach;
      cut = refl;
      runs = refl;
      reached = λ so l z can. record { can = can; reaches = λ n is p m h. h };
    })

pub ran-step : (tells : Bool) (layout : Layout) (ss ss2 ss3 : List Standing) (es later : List Entry) (all rest behind : List Command)
    (e : Entry) → Ran tells layout ss ss2 es all rest → rest ≡ e.command ∷ behind → later ≡ es ++ e ∷ [] → IsWorld ss3
    → ((k : ℕ) → CanGoOn (suc k) ss2 → CanGoOn k ss3) → TellsAll e ss2 ss3 → IsCausedAt tells layout e ss2
    → (IsTrue tells → IsLayout layout → ZerosKeepNothing layout → CanGoOn 0 ss2 → StepsAll layout e ss2 ss3)
    → Ran tells layout ss ss3 later all behind
ran-step tells layout ss ss2 ss3 es later all rest behind e r cut more world rise told caused steps =
    subst (λ z. Ran tells layout ss ss3 z all behind) (sym more) (record {
      world = world;
      reach = (subst AreInReach cut r.reach).1;
      cut = ap (λ z. z ++ behind) (map-append (λ (x : Entry). x.command) es (e ∷ []))
          ∙ append_assoc (commands_of es) (e.command ∷ []) behind
          ∙ ap (λ z. commands_of es ++ z) (sym cut) ∙ r.cut;
      runs = runs-more tells layout es e ss ss2 ss3 r.runs told caused;
      reached = λ so l z can.
          let old = r.reached so l z can in
          let fit : CanGoOn (suc (length behind)) ss2 = subst (λ (cs : List Command). CanGoOn (length cs) ss2) cut old.can in
          record {
            can = rise (length behind) fit;
            reaches = reaches-more layout es e ss ss2 ss3 old.reaches
                (steps so l z (λ n is. rise-none (suc (length behind)) (disks_at (standing_at ss2 n)) (fit n is)));
          };
    })

pub ran-head : (tells : Bool) (layout : Layout) (ss ss2 : List Standing) (es : List Entry) (all rest behind : List Command) (c : Command)
    → Ran tells layout ss ss2 es all rest → rest ≡ c ∷ behind → IsInReach c
ran-head tells layout ss ss2 es all rest behind c r cut = (subst AreInReach cut r.reach).0

pub ran-all : (tells : Bool) (layout : Layout) (ss ss2 : List Standing) (es : List Entry) (all rest : List Command)
    → Ran tells layout ss ss2 es all rest → rest ≡ [] → commands_of es ≡ all
ran-all tells layout ss ss2 es all rest r none = sym (append-nil (commands_of es)) ∙ ap (λ z. commands_of es ++ z) (sym none) ∙ r.cut

pub entries-more : (es : List CodedEntry) (later : List CodedEntry) (e : CodedEntry) → later ≡ es ++ e ∷ []
    → map entry_of later ≡ map entry_of es ++ entry_of e ∷ []
entries-more es later e more = ap (map entry_of) more ∙ map-append entry_of es (e ∷ [])
