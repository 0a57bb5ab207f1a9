-- What the contract of each call of a node says is the step of that command.
use Rattle.std.proofs.Common.{◌≡◌, ◌≢◌, inr, ℕ, suc, Bool, true, false, List, Option, None, Some, refl, sym}
use Rattle.std.proofs.Common.{ap, subst, ◌∙◌}
use Rattle.std.specs.Prelude.{if◌then◌else◌, nat_lt, ◌==◌}
use Rattle.std.proofs.lemmas.Bool.{eqb-true, eqb-false}
use Rattle.capability.specs.declared.Uid.{Uid}
use Rattle.capability.specs.Uids.{uid_eq}
use Rattle.eden_value.specs.Datum.{Datum}
use Rattle.passive_store.specs.Kept.{Layout, StoreChange, doubt_in}
use Rattle.passive_store.specs.Seen.{Seen}
use Rattle.move_laws.specs.Wander.{Record, Here, Lent, Gone, generation, Take, Known}
use Rattle.move_laws.specs.World as world
use Rattle.move_laws.specs.World.{at_one, Node, Pick, Old, New, settled_by, made_of, Call, TakeIt, CloseIt, Make, Wake, Save, Lend, Again}
use Rattle.move_laws.specs.World.{due, Due, Refuses, Gives, Puts, needing_here, make_by, save_by, lend_by, again_by, take_by, close_by}
use Rattle.move_laws.specs.World.{wake_by}
use Rattle.move_laws.specs.World.{GenerationsSpent, Mind, Forgotten, Same, Learnt, minded, Harm, Fails, Stops, harmed, Ended, Refused}
use Rattle.move_laws.specs.World.{Answered, Stopped, OutOfMemory, Refusal, Post, sending, World, behind}
use Rattle.move_laws.specs.World.{Carried, Starved, Unsettled, Unread, Behind, Acted, Declined, TooLong, NoRoom, NoMemory, Given, Cut, Done}
use Rattle.eden_move.specs.Records.{is_long}
use Rattle.eden_move.specs.Minds.{Remembered}
use Rattle.eden_move.specs.Calls.{own_uid}
use Rattle.eden_move.specs.Minds.{as_memory, value_known}
use Rattle.eden_move.specs.Shown.{IsWanderer, ShowsDoubt, Shows, Stands, IsFitCall, IsFitPost, IsFitDue, Carries}
use Rattle.eden_move.proofs.Recorded.{record-fits}
use Rattle.eden_move.proofs.Carrying.{IsFitKept, due-fits, kept-fits}
use Rattle.move_world.specs.Commands.{makes, wakes, saves, moves, repeats, carries}
use Rattle.move_world.specs.Logs.{call_by, letter_at, Ends, Shows as Shown, Comes, IsCarried, Leads}
use Rattle.move_world.specs.InHand.{Serves, Stays, ArePostsFit, Led}
use Rattle.move_world.proofs.Opening.{rests}

-- 1. Whether the node is up behind a call

-- what is due is never refused as a stop
abbrev IsNoStop : Due Datum → Type 0
IsNoStop (Refuses r) = r ≢ Stopped
IsNoStop (Gives m post) = Unit {0}
IsNoStop (Puts r m post) = Unit {0}

needs-none : (k : Option (Option (Record Datum))) (m : Option (ℕ × Datum)) (f : ℕ → Datum → Due Datum)
    → ((g : ℕ) (v : Datum) → IsNoStop (f g v)) → IsNoStop (needing_here k m f)
needs-none None m f each = λ e. cc e
needs-none (Some k) (Some m) f each = each m.0 m.1
needs-none (Some None) None f each = λ e. cc e
needs-none (Some (Some (Here g v))) None f each = each g v
needs-none (Some (Some (Lent g to v))) None f each = λ e. cc e
needs-none (Some (Some (Gone g to))) None f each = λ e. cc e

saves-none : (v : Datum) (a : Bool) (g : ℕ) (w : Datum) → IsNoStop (save_by v a g w)
saves-none v true g w = tt
saves-none v false g w = λ e. cc e

lends-none : (to g : ℕ) (v : Datum) → IsNoStop (lend_by to g v)
lends-none to g v = go (g == 4294967295)
  where
    go : (b : Bool) → IsNoStop (if b then Refuses GenerationsSpent else Puts (Lent (suc g) to v) Forgotten (Some (Take to (suc g) v)))
    go true = λ e. cc e
    go false = tt

gives-none : (k : Option (Option (Record Datum))) → IsNoStop (again_by k)
gives-none None = λ e. cc e
gives-none (Some None) = λ e. cc e
gives-none (Some (Some (Here g v))) = λ e. cc e
gives-none (Some (Some (Lent g to v))) = tt
gives-none (Some (Some (Gone g to))) = λ e. cc e

makes-none : (v : Datum) (k : Option (Option (Record Datum))) → IsNoStop (make_by v k)
makes-none v None = tt
makes-none v (Some r) = λ e. cc e

takes-none : (from g : ℕ) (v : Datum) (k : Option (Option (Record Datum))) → IsNoStop (take_by from g v k)
takes-none from g v None = tt
takes-none from g v (Some None) = λ e. cc e
takes-none from g v (Some (Some r)) = go (nat_lt (generation (Some r)) g)
  where
    go : (b : Bool) → IsNoStop (if b then Puts (Here g v) Forgotten (Some (Known from g)) else Gives Same (Some (Known from g)))
    go true = tt
    go false = tt

closes-none : (g : ℕ) (k : Option (Option (Record Datum))) → IsNoStop (close_by g k)
closes-none g None = tt
closes-none g (Some None) = λ e. cc e
closes-none g (Some (Some (Here h v))) = tt
closes-none g (Some (Some (Lent h to v))) = go (h == g)
  where
    go : (b : Bool) → IsNoStop (if b then Puts (Gone h to) Forgotten None else Gives Same None)
    go true = tt
    go false = tt
closes-none g (Some (Some (Gone h to))) = tt

no-stop : (u : Uid) (c : Call Datum) (n : Node Datum) → IsNoStop (due u c n)
no-stop u (Make v) n = makes-none v (n.kept u)
no-stop u Wake n = needs-none (n.kept u) None wake_by (λ g v. tt)
no-stop u (Save v) n = needs-none (n.kept u) (n.memory u) (save_by v (n.active u)) (saves-none v (n.active u))
no-stop u (Lend to) n = needs-none (n.kept u) (n.memory u) (lend_by to) (lends-none to)
no-stop u Again n = gives-none (n.kept u)
no-stop u (TakeIt from g v) n = takes-none from g v (n.kept u)
no-stop u (CloseIt from g) n = closes-none g (n.kept u)

-- whether the node is up behind a call that ended so
abbrev goes_on : Ended Datum → Bool
goes_on (Refused Stopped) = false
goes_on how = true

other-refusal : (r : Refusal) → r ≢ Stopped → goes_on (Refused r) ≡ true
other-refusal Stopped d = absurd (d refl)
other-refusal r d = refl

made-up : (d : Option (Uid × Record Datum)) (n : Node Datum) → (made_of d n).up ≡ n.up
made-up None n = refl
made-up (Some d) n = refl

settled-up : (p : Option Pick) (n : Node Datum) → (settled_by p n).up ≡ n.up
settled-up None n = refl
settled-up (Some Old) n = refl
settled-up (Some New) n = made-up n.doubt n

harmed-up : (e : Harm) (u : Uid) (n : Node Datum) → n.up ≡ true → (harmed e u n).up ≡ goes_on (Refused (world.refusal_of e))
harmed-up Fails u n up = up
harmed-up Stops u n up = refl

minded-up : (m : Mind Datum) (u : Uid) (n : Node Datum) → (minded m u n).up ≡ n.up
minded-up Forgotten u n = refl
minded-up Same u n = refl
minded-up (Learnt a g v) u n = refl

up-as : (how how2 : Ended Datum) (x x2 : Node Datum) → how ≡ how2 → x ≡ x2 → x2.up ≡ goes_on how2 → x.up ≡ goes_on how
up-as how how2 x x2 e f h = ap (λ (z : Node Datum). z.up) f ∙ h ∙ sym (ap goes_on e)

acted-up : (u : Uid) (d : Due Datum) (s : Node Datum) (how : Ended Datum) (x : Node Datum) → IsNoStop d → s.up ≡ true
    → Acted is_long u d s how x → x.up ≡ goes_on how
acted-up u d s how x never up (Declined r is e f) = up-as how (Refused r) x s e f (up ∙ sym (other-refusal r (subst IsNoStop is never)))
acted-up u d s how x never up (TooLong r m post is long e f) = up-as how (Refused world.TooLarge) x s e f up
acted-up u d s how x never up (NoRoom r m post is short e f) = up-as how (Refused world.Full) x s e f up
acted-up u d s how x never up (NoMemory e f) = up-as how (Refused OutOfMemory) x s e f up
acted-up u d s how x never up (Given m post is e f) = up-as how (Answered false post) x (minded m u s) e f (minded-up m u s ∙ up)
acted-up u d s how x never up (Cut b r m post is short e f) =
    up-as how (Refused (world.refusal_of b)) x (harmed b u (world.doubting (Some (u, r)) s)) e f
    (harmed-up b u (world.doubting (Some (u, r)) s) up)
acted-up u d s how x never up (Done r m post is short e f) =
    up-as how (Answered true post) x (minded m u (world.keeping u r s)) e f (minded-up m u (world.keeping u r s) ∙ up)

carried-up : (u : Uid) (c : Call Datum) (n : Node Datum) (how : Ended Datum) (x : Node Datum) → n.up ≡ true
    → Carried is_long u c n how x → x.up ≡ goes_on how
carried-up u c n how x up (Starved e f) = up-as how (Refused OutOfMemory) x n e f up
carried-up u c n how x up (Unsettled b some e f) = up-as how (Refused (world.refusal_of b)) x (harmed b u n) e f (harmed-up b u n up)
carried-up u c n how x up (Unread p fits b some reads e f) =
    up-as how (Refused (world.refusal_of b)) x (harmed b u (settled_by p n)) e f (harmed-up b u (settled_by p n) (settled-up p n ∙ up))
carried-up u c n how x up (Behind p fits acts) =
    acted-up u (due u c (settled_by p n)) (settled_by p n) how x (no-stop u c (settled_by p n)) (settled-up p n ∙ up) acts

-- 2. What a letter carries that is given

made-memory : (d : Option (Uid × Record Datum)) (n : Node Datum) (u : Uid) → (made_of d n).memory u ≡ n.memory u
made-memory None n u = refl
made-memory (Some d) n u = refl

settled-memory : (p : Option Pick) (n : Node Datum) (u : Uid) → (settled_by p n).memory u ≡ n.memory u
settled-memory None n u = refl
settled-memory (Some Old) n u = refl
settled-memory (Some New) n u = made-memory n.doubt n u

made-fits : (n : ℕ) (c : Option StoreChange) (d : Option (Uid × Record Datum)) (x : Node Datum) (u : Uid) → ShowsDoubt n c d
    → IsFitKept (x.kept u) → IsFitKept ((made_of d x).kept u)
made-fits n c None x u shows kept = kept
made-fits n None (Some d) x u shows kept = absurd shows
made-fits n (Some c) (Some d) x u shows kept = go (uid_eq u d.0)
  where
    go : (b : Bool) → IsFitKept (if b then Some (Some d.1) else x.kept u)
    go true = record-fits shows.body d.1 shows.spells
    go false = kept

settled-fits : (p : Option Pick) (x : Node Datum) (s : Seen) (m : Uid → Option Remembered) (u : Uid) → IsWanderer u → Shows s m x
    → IsFitKept ((settled_by p x).kept u)
settled-fits None x s m u w z = kept-fits u x s m w z
settled-fits (Some Old) x s m u w z = kept-fits u x s m w z
settled-fits (Some New) x s m u w z = made-fits s.node (doubt_in s.work) x.doubt x u z.doubt (kept-fits u x s m w z)

abbrev IsFitEnded : Ended Datum → Type 0
IsFitEnded (Refused r) = Unit {0}
IsFitEnded (Answered put post) = IsFitPost post

acted-fits : (u : Uid) (d : Due Datum) (s : Node Datum) (how : Ended Datum) (x : Node Datum) → IsFitDue d → Acted is_long u d s how x
    → IsFitEnded how
acted-fits u d s how x fits (Declined r is e f) = subst IsFitEnded (sym e) tt
acted-fits u d s how x fits (TooLong r m post is long e f) = subst IsFitEnded (sym e) tt
acted-fits u d s how x fits (NoRoom r m post is short e f) = subst IsFitEnded (sym e) tt
acted-fits u d s how x fits (NoMemory e f) = subst IsFitEnded (sym e) tt
acted-fits u d s how x fits (Given m post is e f) = subst IsFitEnded (sym e) (subst IsFitDue is fits).1
acted-fits u d s how x fits (Cut b r m post is short e f) = subst IsFitEnded (sym e) tt
acted-fits u d s how x fits (Done r m post is short e f) = subst IsFitEnded (sym e) (subst IsFitDue is fits).2

carried-fits : (u : Uid) (c : Call Datum) (n : Node Datum) (how : Ended Datum) (x : Node Datum) (s : Seen) (m : Uid → Option Remembered)
    → IsWanderer u → IsFitCall c → n.up ≡ true → Shows s m n → Carried is_long u c n how x → IsFitEnded how
carried-fits u c n how x s m w call up z (Starved e f) = subst IsFitEnded (sym e) tt
carried-fits u c n how x s m w call up z (Unsettled b some e f) = subst IsFitEnded (sym e) tt
carried-fits u c n how x s m w call up z (Unread p fits b some reads e f) = subst IsFitEnded (sym e) tt
carried-fits u c n how x s m w call up z (Behind p fits acts) =
    acted-fits u (due u c (settled_by p n)) (settled_by p n) how x
    (subst (λ (o : Option (ℕ × Datum)). IsFitDue (world.due_by c ((settled_by p n).kept u) o ((settled_by p n).active u)))
    (sym (settled-memory p n u ∙ z.memory up u))
    (due-fits c ((settled_by p n).kept u) (m u) ((settled_by p n).active u) call (settled-fits p n s m u w z) (z.fit u))) acts

posts-fit : (n : ℕ) (u : Uid) (how : Ended Datum) (ps : List (Post Datum)) → IsFitEnded how → ArePostsFit ps
    → ArePostsFit (sending n u how ps)
posts-fit n u (Refused r) ps h p = p
posts-fit n u (Answered put None) ps h p = p
posts-fit n u (Answered put (Some l)) ps h p = (h, p)

-- 3. A call

pub own-node : {X : Type 0} (n : ℕ) (x : X) (f : ℕ → X) → at_one n x f n ≡ x
own-node {X} n x f = go (n == n) refl
  where
    go : (b : Bool) → (n == n) ≡ b → (if b then x else f n) ≡ x
    go true e = refl
    go false e = absurd (eqb-false n n e refl)

pub other-node : {X : Type 0} (n : ℕ) (x : X) (f : ℕ → X) (k : ℕ) → k ≢ n → at_one n x f k ≡ f k
other-node {X} n x f k d = go (k == n) refl
  where
    go : (b : Bool) → (k == n) ≡ b → (if b then x else f k) ≡ f k
    go true e = absurd (d (eqb-true k n e))
    go false e = refl

stays-by : (layout : Layout) (n : ℕ) (how : Ended Datum) (s : Seen) (m : Uid → Option Remembered) (x : Node Datum)
    → x.up ≡ goes_on how → s.node ≡ n → Shows s m x → Stands layout s → Stays layout n how s m x
stays-by layout n (Refused Stopped) s m x up node z stands = rests layout n s m x up node z stands
stays-by layout n how s m x up node z stands = record { up = up; node = node; shows = z; stands = stands }

-- A call that carried out its rule, from whatever node was seen, led from the world of that node to another.
pub led : (layout : Layout) (n : ℕ) (u : Uid) (c : Call Datum) (how : Ended Datum) (s t : Seen) (m k : Uid → Option Remembered)
    (w : World Datum) → IsWanderer u → IsFitCall c → Serves layout n s m (w.node n) → ArePostsFit w.posted → how ≢ Refused OutOfMemory
    → t.node ≡ s.node → Stands layout t → Carries u c how s m t k → Led layout n u c how t k w
led layout n u c how s t m k w wanders call serves posts memory node stands does = record {
  world = behind n u c how y w;
  calls = record { node = y; carried = went.1; world = refl; memory = memory };
  others = other-node n y w.node;
  stays = subst (λ z. Stays layout n how t k z) (sym (own-node n y w.node))
      (stays-by layout n how t k y (carried-up u c (w.node n) how y serves.up went.1) (node ∙ serves.node) went.2 stands);
  fit = posts-fit n u how w.posted (carried-fits u c (w.node n) how y s m wanders call serves.up serves.shows went.1) posts;
}
  where
    went : (y : Node Datum) × Carried is_long u c (w.node n) how y × Shows t k y
    went = does call (w.node n) serves.up serves.shows

    y : Node Datum
    y = went.0

-- 4. Each command

module _ (layout : Layout) (n : ℕ) (t : Seen) (k : Uid → Option Remembered) (w : World Datum) (up : (w.node n).up ≡ true) where
  pub leads-make : (serial : ℕ) (v : Datum) (how : Ended Datum) (l : Led layout n (own_uid n serial) (Make v) how t k w)
      → Leads (makes n serial v) (Ends how) w l.world
  leads-make serial v how l = inr (up, (how, refl, l.calls))

  pub leads-save : (u : Uid) (v : Datum) (how : Ended Datum) (l : Led layout n u (Save v) how t k w)
      → Leads (saves n u v) (Ends how) w l.world
  leads-save u v how l = inr (up, (how, refl, l.calls))

  pub leads-lend : (u : Uid) (to : ℕ) (how : Ended Datum) (l : Led layout n u (Lend to) how t k w)
      → Leads (moves n u to) (Ends how) w l.world
  leads-lend u to how l = inr (up, (how, refl, l.calls))

  pub leads-again : (u : Uid) (how : Ended Datum) (l : Led layout n u Again how t k w) → Leads (repeats n u) (Ends how) w l.world
  leads-again u how l = inr (up, (how, refl, l.calls))

  -- a value that was shown is in memory
  known : (o : Option Remembered) (v : Datum) → value_known o ≡ Some v → (g : ℕ) × (as_memory o ≡ Some (g, v))
  known None v e = absurd (cc e)
  known (Some r) v e = let same : r.value ≡ v = cc e in (r.generation, ap (λ z. Some (r.generation, z)) same)

  pub leads-wake : (u : Uid) (v : Datum) (l : Led layout n u Wake (Answered false None) t k w) → value_known (k u) ≡ Some v
      → Leads (wakes n u) (Shown v) w l.world
  leads-wake u v l is =
      let g = known (k u) v is in
      inr (up, (Answered false None, l.calls, (g.0, v, l.stays.shows.memory l.stays.up u ∙ g.1, refl)))

  pub leads-asleep : (u : Uid) (r : Refusal) (l : Led layout n u Wake (Refused r) t k w) → Leads (wakes n u) (Ends (Refused r)) w l.world
  leads-asleep u r l = inr (up, (Refused r, l.calls, refl))

  pub leads-carry : (from i : ℕ) (p : Post Datum) (how : Ended Datum) → letter_at from n i w.posted ≡ Some p
      → (l : Led layout n p.uid (call_by p.from p.letter) how t k w)
      → Leads (carries from n i) (Comes p.uid p.letter how) w l.world
  leads-carry from i p how is l =
      inr (up, subst (λ o. IsCarried n o (Comes p.uid p.letter how) w l.world) (sym is) (how, refl, l.calls))
