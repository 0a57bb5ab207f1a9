-- What the code does at one place is a step of its command.
use Rattle.std.proofs.Common.{◌≡◌, ◌≢◌, ◌⊎◌, inl, inr, ℕ, ◌+◌, ◌<◌, ◌≤◌, ◌^◌, ◌-◌, Bool, true, false, List, [], ◌∷◌, ◌++◌, length, Option}
use Rattle.std.proofs.Common.{None, Some}
use Rattle.std.proofs.Common.{refl, sym, ap, subst, ◌∙◌, arith, append-nil}
use Rattle.std.proofs.lemmas.List.{drop_all, length-replicate}
use Rattle.std.specs.Prelude.{not, nat_lt, IsTrue, replicate, Result, Ok, Err, IfOk, IfErr, OnOk}
use Rattle.std.specs.declared.alloc.AllocError.{AllocError}
use Rattle.eden_disk.specs.declared.disk.DiskRefusal.{DiskRefusal}
use Rattle.eden_disk.specs.declared.disk.DiskRefusal.TheVariants.{Failed, Stopped}
use Rattle.eden_disk.specs.declared.disk.Arm.{Arm}
use Rattle.eden_disk.specs.declared.disk.ImageMode.{ImageMode}
use Rattle.eden_disk.specs.Calls.{Counts, one_more, faults_after, stops_after, end_of, SyncTold}
use Rattle.eden_disk.specs.Told.{Told, contents, noted, Wrote, Synced, at_rest, overlay}
use Rattle.passive_store.specs.Kept.{Layout}
use Rattle.passive_store.specs.Seen.{Seen, DiskSeen}
use Rattle.script_words.specs.Tree.{WrittenMode}
use Rattle.twin_store.specs.declared.served.TwinRefusal.{TwinRefusal}
use Rattle.twin_store.specs.declared.served.TwinRefusal.TheVariants.{OutOfMemory, Full, Lost}
use Rattle.twin_store.specs.Footings.{Finds, IsMapped, IfMapped}
use Rattle.twin_store.specs.Serving.{Same}
use Rattle.twin_store.specs.Sides.{SideSeen, is_in_use, disk_of, bodies_on, IsSideReady, SideGoes, SideArms, RoseOnce}
use Rattle.twin_store.specs.Sides.{IsOpenedBy, IsLostDisk, StopsAt, IsShortOn}
use Rattle.twin_store.specs.Twins.{TwinSeen, twin_seen, IsTwinReady, IsSomeUsed, TwinGoes, SideHas, Holds, IsSure, IsOpenedTwin}
use Rattle.twin_store.specs.Twins.{StaysVouched, IsFullTwin}
use Rattle.twin_store.specs.Twins.{TwinArms}
use Rattle.twin_store.specs.Vouched.{Bodies, SameEjects, generation_in}
use Rattle.twin_world.specs.Asks.{ChangesAs, LooksAs}
use Rattle.twin_world.specs.Causes.{is_stopped, is_stop, OneStopped, IsTold}
use Rattle.twin_world.specs.Commands.{Command, opens, puts, gets, deletes, closes, blanks, fails, stops, is_second, node_of, IsInReach}
use Rattle.twin_world.specs.InHand.{Serves, Rests, has_left, IsNoted, made_by, found_by}
use Rattle.twin_world.specs.Logs.{Answer, WrongState, Opened, Made, Found, NoRoom, Refused, CutShort, Entry, Pair, Texts, Change}
use Rattle.twin_world.specs.Logs.{texts_after}
use Rattle.twin_world.specs.Logs.{InState, ChangesSo, LooksSo, Leads, behind, blanked, changed_by, looked_by, open_by}
use Rattle.twin_world.specs.Places.{Standing, Serving, Resting, Away, standing, IsSound, StandsFor, disks_at, AllRoseOnce, Turns, Acts}
use Rattle.twin_world.specs.Places.{AreLeft}
use Rattle.twin_world.specs.Places.{GoesOnAs, IsWoken, IsZeroed, IsDoneAs, IsAskedDisk, IsAskedSide, IsAsked, IsNoText, IsBlankedOnce}
use Rattle.twin_world.specs.Places.{blanked_as}
use Rattle.twin_world.specs.Places.{IsStoppedOnce, is_failed, asked_for}
use Rattle.twin_world.proofs.Causing.{is_cause, calm, call-caused, made-calm, found-calm, made-refused, found-refused, lost-image}
use Rattle.twin_world.proofs.Causing.{refused-same}
use Rattle.twin_world.proofs.Causing.{blank-calm}
use Rattle.twin_world.specs.Steps.{IsWhole}
use Rattle.twin_world.specs.View.{answer_of, entry_by, meant}
use Rattle.twin_world.specs.declared.commands.TwinCommand.{TwinCommand}
use Rattle.twin_world.specs.declared.commands.TwinCommand.TheVariants as command
use Rattle.twin_world.specs.declared.answer.Answer.TheVariants as coded
use Rattle.twin_world.specs.declared.answer.Done.{Done}
use Rattle.twin_world.specs.declared.ask.Asked.{Asked}
use Rattle.twin_world.specs.declared.place.Place.{Place}
use Rattle.twin_world.specs.declared.place.Place.TheVariants as place
use Rattle.twin_store.specs.declared.twin.TwinStore.{TwinStore}
use Rattle.twin_world.proofs.Bridging.{closing-is-step}
use Rattle.twin_world.proofs.Telling.{risen-marked, one-stopped, stopped-between, made-stops, found-stops, same-told}
use Rattle.twin_world.proofs.Telling.{goes-told, left-told-by, asked-told, blank-marked, unmarked, blank-stopped-first}
use Rattle.twin_world.proofs.Telling.{blank-stopped-second}
use Rattle.twin_world.proofs.Telling.{stop-as}
use Rattle.twin_world.proofs.Opening.{opening-is-step, shut-is-step}
use Rattle.twin_world.proofs.Leaving.{rests-left, left-told, rests-zeroed-first, rests-zeroed-second, rests-spoiled}

-- 1. Counts of faults

same-rose : (ds : List DiskSeen) → AllRoseOnce ds ds
same-rose [] = tt
same-rose (d ∷ ds) = (inl refl, same-rose ds)

rose-same : (a b c : DiskSeen) → c.counts.faults ≡ b.counts.faults → RoseOnce a b → RoseOnce a c
rose-same a b c e (inl r) = inl (e ∙ r)
rose-same a b c e (inr r) = inr (e ∙ r)

same-rises : (a b c : DiskSeen) → b.counts.faults ≡ a.counts.faults → RoseOnce b c → RoseOnce a c
same-rises a b c e (inl r) = inl (r ∙ e)
same-rises a b c e (inr r) = inr (r ∙ ap one_more e)

rose-by : (tells : Bool) (layout : Layout) (node : ℕ) (old : DiskSeen) (new : SideSeen) → IsOpenedBy tells layout node old new
    → RoseOnce old (disk_of new)
rose-by tells layout node old new o = go (is_in_use new) refl
  where
    lost : IsLostDisk tells layout node old (disk_of new) → RoseOnce old (disk_of new)
    lost (inl e) = inr e
    lost (inr r) = inl r.0

    go : (b : Bool) → is_in_use new ≡ b → RoseOnce old (disk_of new)
    go true on = inl (o.used on)
    go false off = lost (o.away off)

goes-rose : (a b : SideSeen) → SideGoes a b → RoseOnce (disk_of a) (disk_of b)
goes-rose a b g = go (is_in_use a) (is_in_use b) refl refl
  where
    go : (x y : Bool) → is_in_use a ≡ x → is_in_use b ≡ y → RoseOnce (disk_of a) (disk_of b)
    go true true e f = inl (g.same (f ∙ sym e))
    go true false e f = inr (g.rose e f)
    go false false e f = inl (g.same (f ∙ sym e))
    go false true e f = absurd (cc (sym e ∙ g.left f))

left-rose : (tells : Bool) (a b one two : DiskSeen) (new : Standing) (l : AreLeft tells a b new) (c d : DiskSeen) → RoseOnce c a
    → RoseOnce d b
    → AllRoseOnce (c ∷ d ∷ []) (disks_at new)
left-rose tells a b one two new l c d r s =
    subst (λ (z : Standing). AllRoseOnce (c ∷ d ∷ []) (disks_at z)) (sym l.is)
    (rose-same c a l.one l.first_left.faults r, (rose-same d b l.two l.second_left.faults s, tt))

left-sound : (tells : Bool) (n : ℕ) (a b : DiskSeen) (new : Standing) → AreLeft tells a b new → IsSound n new
left-sound tells n a b new l = subst (IsSound n) (sym l.is) tt

left-stands : (tells : Bool) (layout : Layout) (n : ℕ) (p : Pair) (m : Texts) (a b : DiskSeen) (new : Standing) → IsTrue tells
    → AreLeft tells a b new → Rests layout n p m a b → StandsFor layout n p m new
left-stands tells layout n p m a b new so l r =
    subst (StandsFor layout n p m) (sym l.is) (rests-left tells layout n p m a b l.one l.two so l.first_left l.second_left r)

-- 2. Commands that need the node in another state

-- whether a command needs the node open
abbrev pub needs : Command → Option Bool
needs (opens n) = Some false
needs (puts n serial text) = Some true
needs (gets n serial) = Some true
needs (deletes n serial) = Some true
needs (closes n) = Some true
needs (blanks d) = Some false
needs (fails d after) = None
needs (stops d after how) = None

some-same : (a b : Bool) → Some a ≡ Some b → b ≡ a
some-same a b e = cc e

wrong-leads : (c : Command) (b : Bool) (e : Entry) (p : Pair) (m : Texts) → needs c ≡ Some b → p.is_open ≢ b → Leads c WrongState e p m m
wrong-leads (opens n) b e p m is d = (λ q. d (q ∙ sym (some-same false b is)), λ serial. refl)
wrong-leads (puts n serial text) b e p m is d = (λ q. d (q ∙ sym (some-same true b is)), λ k. refl)
wrong-leads (gets n serial) b e p m is d = (λ q. d (q ∙ sym (some-same true b is)), λ k. refl)
wrong-leads (deletes n serial) b e p m is d = (λ q. d (q ∙ sym (some-same true b is)), λ k. refl)
wrong-leads (closes n) b e p m is d = (λ q. d (q ∙ sym (some-same true b is)), λ k. refl)
wrong-leads (blanks n) b e p m is d = (λ q. d (q ∙ sym (some-same false b is)), λ k. refl)
wrong-leads (fails n after) b e p m is d = absurd (cc is)
wrong-leads (stops n after how) b e p m is d = absurd (cc is)

wrong-behind : (c : Command) (e : Entry) (p : Pair) → behind c WrongState e p ≡ p
wrong-behind (opens n) e p = refl
wrong-behind (puts n serial text) e p = refl
wrong-behind (gets n serial) e p = refl
wrong-behind (deletes n serial) e p = refl
wrong-behind (closes n) e p = refl
wrong-behind (blanks n) e p = refl
wrong-behind (fails n after) e p = refl
wrong-behind (stops n after how) e p = refl

-- an entry, by its answer
turn-as : (layout : Layout) (n : ℕ) (c : Command) (d : Done) (a : Answer) (old new : Standing) → answer_of d.answer ≡ a
    → Turns layout n (record { command = c; answer = a; first_failed = d.first_failed; second_failed = d.second_failed }) old new
    → Turns layout n (entry_by c d) old new
turn-as layout n c d a old new e t =
    subst (λ (a : Answer). Turns layout n
    (record { command = c; answer = a; first_failed = d.first_failed; second_failed = d.second_failed })
    old new) (sym e) t

acts-wrong : (tells : Bool) (layout : Layout) (n : ℕ) (c : Command) (b : Bool) (d : Done) (s : Standing) → needs c ≡ Some b
    → answer_of d.answer ≡ WrongState → d.first_failed ≡ false → d.second_failed ≡ false
    → ((p : Pair) (m : Texts) → StandsFor layout n p m s → p.is_open ≢ b) → Acts tells layout n c (Ok d) s s
acts-wrong tells layout n c b d s is wrong first second other = record {
  sound = λ h. h;
  rose = same-rose (disks_at s);
  told = same-told (entry_by c d) s first second (stop-as (answer_of d.answer) WrongState false wrong refl);
  caused = calm tells layout (entry_by c d) s (ap is_cause wrong);
  turns = λ so l z can. turn-as layout n c d WrongState s s wrong
      (λ p m h.
      let e : Entry = record { command = c; answer = WrongState; first_failed = d.first_failed; second_failed = d.second_failed } in
      (m, wrong-leads c b e p m is (other p m h), subst (λ (q : Pair). StandsFor layout n q m s) (sym (wrong-behind c e p)) h));
}

-- a command that needs the node closed, where it is open or away
pub wrong-closed : (tells : Bool) (layout : Layout) (n : ℕ) (c : Command) (d : Done) (s : Standing) → needs c ≡ Some false
    → answer_of d.answer ≡ WrongState → d.first_failed ≡ false → d.second_failed ≡ false
    → ((one two : DiskSeen) → s ≡ Resting one two → ⊥) → Acts tells layout n c (Ok d) s s
wrong-closed tells layout n c d (Serving t) is wrong first second never =
    acts-wrong tells layout n c false d (Serving t) is wrong first second (λ p m h e. cc (sym h.up ∙ e))
wrong-closed tells layout n c d (Resting a b) is wrong first second never = absurd (never a b refl)
wrong-closed tells layout n c d Away is wrong first second never =
    acts-wrong tells layout n c false d Away is wrong first second (λ p m h. absurd h)

-- one that needs it open, where it is closed or away
pub wrong-open : (tells : Bool) (layout : Layout) (n : ℕ) (c : Command) (d : Done) (s : Standing) → needs c ≡ Some true
    → answer_of d.answer ≡ WrongState → d.first_failed ≡ false → d.second_failed ≡ false
    → ((t : TwinSeen) → s ≡ Serving t → ⊥) → Acts tells layout n c (Ok d) s s
wrong-open tells layout n c d (Serving t) is wrong first second never = absurd (never t refl)
wrong-open tells layout n c d (Resting a b) is wrong first second never =
    acts-wrong tells layout n c true d (Resting a b) is wrong first second (λ p m h e. cc (sym h.down ∙ e))
wrong-open tells layout n c d Away is wrong first second never =
    acts-wrong tells layout n c true d Away is wrong first second (λ p m h. absurd h)

-- 3. Behind a call of an open pair

goes-on : {T : Type 0} (tells : Bool) (n : ℕ) (r : Result T TwinRefusal) (old t : TwinSeen) (new : Standing) → TwinGoes r old t
    → GoesOnAs tells r t new → (IsSound n (Serving old) → IsSound n new) × AllRoseOnce (disks_at (Serving old)) (disks_at new)
goes-on tells n (Ok value) old t new g go = (
  λ h. subst (IsSound n) (sym go) (g.node ∙ h.0, g.ready),
  subst (λ (z : Standing). AllRoseOnce (disks_at (Serving old)) (disks_at z)) (sym go)
      (goes-rose old.first t.first g.first, (goes-rose old.second t.second g.second, tt)),
)
goes-on tells n (Err r) old t new g go = (
  λ h. left-sound tells n (disk_of t.first) (disk_of t.second) new go,
  left-rose tells (disk_of t.first) (disk_of t.second) go.one go.two new go (disk_of old.first) (disk_of old.second)
      (goes-rose old.first t.first g.first) (goes-rose old.second t.second g.second),
)

change-turns : (tells : Bool) (layout : Layout) (n : ℕ) (k : Change) (r : Result (Unit {0}) TwinRefusal) (old t : TwinSeen) (new : Standing)
    (e : Entry) → IsTrue tells → ChangesAs layout n k r old t → GoesOnAs tells r t new → (r ≡ Err OutOfMemory → ⊥) → IsNoted e old t
    → (p : Pair) (m : Texts) → Serves layout n p m old
    → (x : Texts) × InState true p.is_open (made_by r) m x (ChangesSo (Some k) (made_by r) e p m x)
    × StandsFor layout n (changed_by (Some k) (made_by r) e p) x new
change-turns tells layout n k (Ok done) old t new e so changes go memory noted p m s =
    let c = changes p m e s noted in (
      texts_after (Some k) m,
      (s.up, c.0),
      subst (StandsFor layout n (changed_by (Some k) Made e p) (texts_after (Some k) m)) (sym go) c.1,
    )
change-turns tells layout n k (Err r) old t new e so changes go memory noted p m s =
    let c = changes (λ q. memory (ap (λ (z : TwinRefusal). Err z) q)) p m e s noted in (
      m,
      (s.up, c.0),
      left-stands tells layout n (changed_by (Some k) (Refused r) e p) m (disk_of t.first) (disk_of t.second) new so go c.1,
    )

look-turns : (tells : Bool) (layout : Layout) (n serial : ℕ) (r : Result (Option (List ℕ)) TwinRefusal) (old t : TwinSeen) (new : Standing)
    (e : Entry) → IsTrue tells → LooksAs layout n serial r old t → GoesOnAs tells r t new → (r ≡ Err OutOfMemory → ⊥) → IsNoted e old t
    → (p : Pair) (m : Texts) → Serves layout n p m old
    → (x : Texts) × InState true p.is_open (found_by r) m x (LooksSo serial (found_by r) e p m x)
    × StandsFor layout n (looked_by (found_by r) e p) x new
look-turns tells layout n serial (Ok body) old t new e so looks go memory noted p m s =
    let c = looks p m e s noted in
    (m, (s.up, c.0), subst (StandsFor layout n (looked_by (Found body) e p) m) (sym go) c.1)
look-turns tells layout n serial (Err r) old t new e so looks go memory noted p m s =
    let c = looks (λ q. memory (ap (λ (z : TwinRefusal). Err z) q)) p m e s noted in (
      m,
      (s.up, c.0),
      left-stands tells layout n (looked_by (Refused r) e p) m (disk_of t.first) (disk_of t.second) new so go c.1,
    )

module _ (tells : Bool) (layout : Layout) (n serial : ℕ) (old t : TwinSeen) (new : Standing) where
  pub acts-put : (text : List ℕ) (asked : Asked (Unit {0})) (r : Result Done AllocError) → TwinGoes asked.answer old t
      → IfErr asked.answer (λ x. x ≡ Full → IsFullTwin tells layout (asked_for (puts n serial text)) old t)
      → asked.first_failed ≡ has_left old.first t.first → asked.second_failed ≡ has_left old.second t.second
      → (IsTrue tells → ChangesAs layout n (record { serial = serial; text = Some text }) asked.answer old t)
      → GoesOnAs tells asked.answer t new → IfOk r (IsDoneAs made_by asked) → Acts tells layout n (puts n serial text) r (Serving old) new
  acts-put text asked (Ok d) g full first second changes go done = record {
    sound = (goes-on tells n asked.answer old t new g go).0;
    rose = (goes-on tells n asked.answer old t new g go).1;
    told = goes-told tells asked.answer old t new (entry_by (puts n serial text) d) g go (done.first ∙ first) (done.second ∙ second)
        (ap is_stop done.answer ∙ made-stops asked.answer);
    caused = call-caused tells layout (entry_by (puts n serial text) d) made_by asked.answer old t made-calm made-refused done.answer g full
        (done.first ∙ first) (done.second ∙ second);
    turns = λ so l z can. turn-as layout n (puts n serial text) d (made_by asked.answer) (Serving old) new done.answer
        (λ p m s. change-turns tells layout n (record { serial = serial; text = Some text }) asked.answer old t new
        (record {
          command = puts n serial text;
          answer = made_by asked.answer;
          first_failed = d.first_failed;
          second_failed = d.second_failed;
        })
        so (changes so) go done.memory (record { first = done.first ∙ first; second = done.second ∙ second }) p m s);
  }
  acts-put text asked (Err x) g full first second changes go done = record {
    sound = (goes-on tells n asked.answer old t new g go).0;
    rose = (goes-on tells n asked.answer old t new g go).1;
    told = tt;
    caused = tt;
    turns = λ so l z can. tt;
  }

  pub acts-delete : (asked : Asked (Unit {0})) (r : Result Done AllocError) → TwinGoes asked.answer old t
      → IfErr asked.answer (λ x. x ≡ Full → IsFullTwin tells layout (asked_for (deletes n serial)) old t)
      → asked.first_failed ≡ has_left old.first t.first → asked.second_failed ≡ has_left old.second t.second
      → (IsTrue tells → ChangesAs layout n (record { serial = serial; text = None }) asked.answer old t)
      → GoesOnAs tells asked.answer t new → IfOk r (IsDoneAs made_by asked) → Acts tells layout n (deletes n serial) r (Serving old) new
  acts-delete asked (Ok d) g full first second changes go done = record {
    sound = (goes-on tells n asked.answer old t new g go).0;
    rose = (goes-on tells n asked.answer old t new g go).1;
    told = goes-told tells asked.answer old t new (entry_by (deletes n serial) d) g go (done.first ∙ first) (done.second ∙ second)
        (ap is_stop done.answer ∙ made-stops asked.answer);
    caused = call-caused tells layout (entry_by (deletes n serial) d) made_by asked.answer old t made-calm made-refused done.answer g full
        (done.first ∙ first) (done.second ∙ second);
    turns = λ so l z can. turn-as layout n (deletes n serial) d (made_by asked.answer) (Serving old) new done.answer
        (λ p m s. change-turns tells layout n (record { serial = serial; text = None }) asked.answer old t new
        (record {
          command = deletes n serial;
          answer = made_by asked.answer;
          first_failed = d.first_failed;
          second_failed = d.second_failed;
        })
        so (changes so) go done.memory (record { first = done.first ∙ first; second = done.second ∙ second }) p m s);
  }
  acts-delete asked (Err x) g full first second changes go done = record {
    sound = (goes-on tells n asked.answer old t new g go).0;
    rose = (goes-on tells n asked.answer old t new g go).1;
    told = tt;
    caused = tt;
    turns = λ so l z can. tt;
  }

  pub acts-get : (asked : Asked (Option (List ℕ))) (r : Result Done AllocError) → TwinGoes asked.answer old t
      → IfErr asked.answer (λ x. x ≡ Full → IsFullTwin tells layout (asked_for (gets n serial)) old t)
      → asked.first_failed ≡ has_left old.first t.first → asked.second_failed ≡ has_left old.second t.second
      → (IsTrue tells → LooksAs layout n serial asked.answer old t)
      → GoesOnAs tells asked.answer t new → IfOk r (IsDoneAs found_by asked) → Acts tells layout n (gets n serial) r (Serving old) new
  acts-get asked (Ok d) g full first second looks go done = record {
    sound = (goes-on tells n asked.answer old t new g go).0;
    rose = (goes-on tells n asked.answer old t new g go).1;
    told = goes-told tells asked.answer old t new (entry_by (gets n serial) d) g go (done.first ∙ first) (done.second ∙ second)
        (ap is_stop done.answer ∙ found-stops asked.answer);
    caused = call-caused tells layout (entry_by (gets n serial) d) found_by asked.answer old t found-calm found-refused done.answer g full
        (done.first ∙ first) (done.second ∙ second);
    turns = λ so l z can. turn-as layout n (gets n serial) d (found_by asked.answer) (Serving old) new done.answer
        (λ p m s. look-turns tells layout n serial asked.answer old t new
        (record { command = gets n serial; answer = found_by asked.answer; first_failed = d.first_failed; second_failed = d.second_failed })
        so (looks so) go done.memory (record { first = done.first ∙ first; second = done.second ∙ second }) p m s);
  }
  acts-get asked (Err x) g full first second looks go done = record {
    sound = (goes-on tells n asked.answer old t new g go).0;
    rose = (goes-on tells n asked.answer old t new g go).1;
    told = tt;
    caused = tt;
    turns = λ so l z can. tt;
  }

-- a change for which there is no room
pub acts-full : (tells : Bool) (layout : Layout) (n serial : ℕ) (text : List ℕ) (d : Done) (t : TwinSeen) → answer_of d.answer ≡ NoRoom
    → d.first_failed ≡ false → d.second_failed ≡ false
    → IsShortOn tells layout (length text) t.first ⊎ IsShortOn tells layout (length text) t.second
    → Acts tells layout n (puts n serial text) (Ok d) (Serving t) (Serving t)
acts-full tells layout n serial text d t is first second short = record {
  sound = λ h. h;
  rose = same-rose (disks_at (Serving t));
  told = same-told (entry_by (puts n serial text) d) (Serving t) first second (stop-as (answer_of d.answer) NoRoom false is refl);
  caused = record { room = λ none. short; full = λ f. absurd (cc (sym is ∙ f)); lost = λ f. absurd (cc (sym is ∙ f)) };
  turns = λ so l z can. turn-as layout n (puts n serial text) d NoRoom (Serving t) (Serving t) is
      (λ p m s. (m, (s.up, (refl, λ k. refl)), s));
}

-- 4. Openings

can-whole : (k : ℕ) → k + 0 < 2 ^ 64 - 1 → k < one_more k
can-whole k h = omega (arith, h)

rests-woken : (tells : Bool) (layout : Layout) (n : ℕ) (p : Pair) (m : Texts) (a b one two : DiskSeen) → IsTrue tells → IsWoken tells a one
    → IsWoken tells b two → Rests layout n p m a b → Rests layout n p m one two
rests-woken tells layout n p m a b one two so l k r =
    rests-left tells layout n p m a b one two so (left-told tells a one l.faults l.stops l.told)
    (left-told tells b two k.faults k.stops k.told) r

is-whole : (tells : Bool) (a one : DiskSeen) → IsTrue tells → IsWoken tells a one → a.counts.faults + 0 < 2 ^ 64 - 1 → IsWhole one
is-whole tells a one so w can =
    (w.whole so, can-whole one.counts.faults (subst (λ (k : ℕ). k + 0 < 2 ^ 64 - 1) (sym w.faults) can))

pub acts-opened : (tells : Bool) (layout : Layout) (n : ℕ) (a b one two : DiskSeen) (t : TwinSeen) (new : Standing) (d : Done)
    → IsWoken tells a one → IsWoken tells b two → IsOpenedTwin tells layout n one two t → new ≡ Serving t
    → answer_of d.answer ≡ Opened (is_in_use t.first) (is_in_use t.second)
    → d.first_failed ≡ not (nat_lt (disk_of t.first).counts.faults (one_more one.counts.faults))
    → d.second_failed ≡ not (nat_lt (disk_of t.second).counts.faults (one_more two.counts.faults))
    → Acts tells layout n (opens n) (Ok d) (Resting a b) new
acts-opened tells layout n a b one two t new d wa wb o is answer first second = record {
  sound = λ h. subst (IsSound n) (sym is) (o.node_is, o.ready);
  rose = subst (λ (z : Standing). AllRoseOnce (a ∷ b ∷ []) (disks_at z)) (sym is) (
    same-rises a one (disk_of t.first) wa.faults (rose-by tells layout n one t.first o.first_opened),
    (same-rises b two (disk_of t.second) wb.faults (rose-by tells layout n two t.second o.second_opened), tt),
  );
  told = subst (λ (z : Standing). IsTold (entry_by (opens n) d) (a ∷ b ∷ []) (disks_at z)) (sym is) (record {
    first_marked = risen-marked d.first_failed a one (disk_of t.first) wa.faults (rose-by tells layout n one t.first o.first_opened) first;
    second_marked = risen-marked d.second_failed b two (disk_of t.second) wb.faults (rose-by tells layout n two t.second o.second_opened)
        second;
    stopped = subst (λ k. OneStopped k a (disk_of t.first) b (disk_of t.second))
        (sym (stop-as (answer_of d.answer) (Opened (is_in_use t.first) (is_in_use t.second)) false answer refl))
        (o.first_stops ∙ wa.stops, o.second_stops ∙ wb.stops);
  });
  caused = calm tells layout (entry_by (opens n) d) (Resting a b) (ap is_cause answer);
  turns = λ so l z can. turn-as layout n (opens n) d (Opened (is_in_use t.first) (is_in_use t.second)) (Resting a b) new answer
      (λ p m r.
      let e : Entry = record {
        command = opens n;
        answer = Opened (is_in_use t.first) (is_in_use t.second);
        first_failed = d.first_failed;
        second_failed = d.second_failed;
      } in
      let s = opening-is-step layout n p m e one two t l (is-whole tells a one so wa can.0) (is-whole tells b two so wb can.1.0)
      (rests-woken tells layout n p m a b one two so wa wb r) (subst (λ (x : Bool). IsOpenedTwin x layout n one two t) so o)
      (record { first_met = first; second_met = second }) in
      (s.0, (r.down, s.1), subst (StandsFor layout n (open_by e.answer e p) s.0) (sym is) s.2));
}

pub acts-shut : (tells : Bool) (layout : Layout) (n : ℕ) (a b one two three four : DiskSeen) (new : Standing) (why : TwinRefusal)
    (x y : Bool) (r : Result Done AllocError) → IsWoken tells a one → IsWoken tells b two → StaysVouched tells layout n one three two four
    → (why ≡ Lost → IsLostDisk tells layout n one three × IsLostDisk tells layout n two four)
    → RoseOnce one three × RoseOnce two four → StopsAt why one three two four → AreLeft tells three four new
    → x ≡ not (nat_lt three.counts.faults (one_more one.counts.faults))
    → y ≡ not (nat_lt four.counts.faults (one_more two.counts.faults))
    → IfOk r (λ d. d.answer ≡ coded.Refused why) → IfOk r (λ d. d.first_failed ≡ x) → IfOk r (λ d. d.second_failed ≡ y)
    → IfOk r (λ d. why ≢ OutOfMemory) → Acts tells layout n (opens n) r (Resting a b) new
acts-shut tells layout n a b one two three four new why x y (Ok d) wa wb stays lost rose halt left first second answer f g want = record {
  sound = λ h. left-sound tells n three four new left;
  rose = left-rose tells three four left.one left.two new left a b (same-rises a one three wa.faults rose.0)
      (same-rises b two four wb.faults rose.1);
  told = left-told-by tells (entry_by (opens n) d) a b three four new left
      (risen-marked d.first_failed a one three wa.faults rose.0 (f ∙ first))
      (risen-marked d.second_failed b two four wb.faults rose.1 (g ∙ second))
      (subst (λ k. OneStopped k a three b four)
      (sym (stop-as (answer_of d.answer) (Refused why) (is_stopped why) (ap answer_of answer) refl))
      (stopped-between (is_stopped why) a one three three b two four four wa.stops wb.stops refl refl
      (one-stopped {T = Unit {0}} (Err why) one three two four halt)));
  caused = record {
    room = λ said. absurd (cc (sym (ap answer_of answer) ∙ said));
    full = λ said. tt;
    lost = λ said. let is : why ≡ Lost = refused-same why Lost (sym (ap answer_of answer) ∙ said) in (
      lost-image tells layout n d.first_failed a one three wa (lost is).0 (f ∙ first),
      lost-image tells layout n d.second_failed b two four wb (lost is).1 (g ∙ second),
    );
  };
  turns = λ so l z can. turn-as layout n (opens n) d (Refused why) (Resting a b) new (ap answer_of answer)
      (λ p m r.
      let e : Entry = record { command = opens n; answer = Refused why; first_failed = d.first_failed; second_failed = d.second_failed }
      in
      let s = shut-is-step layout n p m why e one three two four l (is-whole tells a one so wa can.0) (is-whole tells b two so wb can.1.0)
      want (rests-woken tells layout n p m a b one two so wa wb r)
      (λ is. subst (λ (x : Bool). IsLostDisk x layout n one three × IsLostDisk x layout n two four) so (lost is))
      (subst (λ (x : Bool). StaysVouched x layout n one three two four) so stays)
      (record { first_met = f ∙ first; second_met = g ∙ second }) in
      (m, (r.down, s.0), left-stands tells layout n (open_by (Refused why) e p) m three four new so left s.1));
}
acts-shut tells layout n a b one two three four new why x y (Err e) wa wb stays lost rose halt left first second answer f g want = record {
  sound = λ h. left-sound tells n three four new left;
  rose = left-rose tells three four left.one left.two new left a b (same-rises a one three wa.faults rose.0)
      (same-rises b two four wb.faults rose.1);
  told = tt;
  caused = tt;
  turns = λ so l z can. tt;
}

-- 5. Closings

pub acts-closed : (tells : Bool) (layout : Layout) (n : ℕ) (t : TwinSeen) (one two : DiskSeen) (d : Done) → one ≡ disk_of t.first
    → two ≡ disk_of t.second → answer_of d.answer ≡ Made → d.first_failed ≡ false → d.second_failed ≡ false
    → Acts tells layout n (closes n) (Ok d) (Serving t) (Resting one two)
acts-closed tells layout n t one two d first second is first_mark second_mark = record {
  sound = λ h. tt;
  rose = subst (λ (z : DiskSeen). AllRoseOnce (disks_at (Serving t)) (z ∷ two ∷ [])) (sym first)
      (subst (λ (z : DiskSeen). AllRoseOnce (disks_at (Serving t)) (disk_of t.first ∷ z ∷ [])) (sym second)
      (same-rose (disks_at (Serving t))));
  told = subst (λ (z : DiskSeen). IsTold (entry_by (closes n) d) (disks_at (Serving t)) (z ∷ two ∷ [])) (sym first)
      (subst (λ (z : DiskSeen). IsTold (entry_by (closes n) d) (disks_at (Serving t)) (disk_of t.first ∷ z ∷ [])) (sym second)
      (same-told (entry_by (closes n) d) (Serving t) first_mark second_mark (stop-as (answer_of d.answer) Made false is refl)));
  caused = calm tells layout (entry_by (closes n) d) (Serving t) (ap is_cause is);
  turns = λ so l z can. turn-as layout n (closes n) d Made (Serving t) (Resting one two) is
      (λ p m s. (
        m,
        (s.up, λ k. refl),
        subst (λ (z : DiskSeen). Rests layout n (record p { is_open = false }) m z two) (sym first)
            (subst (λ (z : DiskSeen). Rests layout n (record p { is_open = false }) m (disk_of t.first) z) (sym second)
            (closing-is-step layout n p m t s)),
      ));
}

-- 6. Blankings

blank-rose : (how : Result (Unit {0}) DiskRefusal) (a b : DiskSeen) → b.counts.faults ≡ faults_after (end_of how) a.counts.faults
    → RoseOnce a b
blank-rose (Ok done) a b e = inl e
blank-rose (Err Failed) a b e = inr e
blank-rose (Err Stopped) a b e = inl e

module _ (tells : Bool) (layout : Layout) (n d : ℕ) (a b : DiskSeen) where
  told-first : (one : DiskSeen) (new : Standing) (how : Result (Unit {0}) DiskRefusal) (x : Done) → AreLeft tells one b new
      → one.counts.faults ≡ faults_after (end_of how) a.counts.faults → one.counts.stops ≡ stops_after (end_of how) a.counts.stops
      → x.first_failed ≡ is_failed how → x.second_failed ≡ false → answer_of x.answer ≡ blanked_as how
      → IsTold (entry_by (blanks d) x) (a ∷ b ∷ []) (disks_at new)
  told-first one new how x left counts stopped first second answer =
      left-told-by tells (entry_by (blanks d) x) a b one b new left (blank-marked how x.first_failed a one first counts)
      (unmarked x.second_failed b second)
      (subst (λ k. OneStopped k a one b b) (sym (ap is_stop answer)) (blank-stopped-first how a one b stopped))

  told-second : (two : DiskSeen) (new : Standing) (how : Result (Unit {0}) DiskRefusal) (x : Done) → AreLeft tells a two new
      → two.counts.faults ≡ faults_after (end_of how) b.counts.faults → two.counts.stops ≡ stops_after (end_of how) b.counts.stops
      → x.first_failed ≡ false → x.second_failed ≡ is_failed how → answer_of x.answer ≡ blanked_as how
      → IsTold (entry_by (blanks d) x) (a ∷ b ∷ []) (disks_at new)
  told-second two new how x left counts stopped first second answer =
      left-told-by tells (entry_by (blanks d) x) a b a two new left (unmarked x.first_failed a first)
      (blank-marked how x.second_failed b two second counts)
      (subst (λ k. OneStopped k a a b two) (sym (ap is_stop answer)) (blank-stopped-second how a b two stopped))

  pub acts-blank-first : (one : DiskSeen) (new : Standing) (how : Result (Unit {0}) DiskRefusal) (x : Done) → is_second d ≡ false
      → one.counts.faults ≡ faults_after (end_of how) a.counts.faults → one.counts.stops ≡ stops_after (end_of how) a.counts.stops
      → OnOk how (IsZeroed tells one) → AreLeft tells one b new → x.first_failed ≡ is_failed how → x.second_failed ≡ false
      → answer_of x.answer ≡ blanked_as how → Acts tells layout n (blanks d) (Ok x) (Resting a b) new
  acts-blank-first one new (Ok done) x is counts stopped zeroed left first second answer = record {
    sound = λ h. left-sound tells n one b new left;
    rose = left-rose tells one b left.one left.two new left a b (blank-rose (Ok done) a one counts) (inl refl);
    told = told-first one new (Ok done) x left counts stopped first second answer;
    caused = calm tells layout (entry_by (blanks d) x) (Resting a b) (ap is_cause answer ∙ blank-calm (Ok done));
    turns = λ so l z can. turn-as layout n (blanks d) x Made (Resting a b) new answer
        (λ p m r. (
          m,
          (r.down, λ k. refl),
          subst (λ (s : Bool). StandsFor layout n (blanked s false p) m new) (sym is)
              (left-stands tells layout n (blanked false false p) m one b new so left
              (rests-zeroed-first layout n (zeroed so).0 p m a b one z (zeroed so).1 r)),
        ));
  }
  acts-blank-first one new (Err Failed) x is counts stopped zeroed left first second answer = record {
    sound = λ h. left-sound tells n one b new left;
    rose = left-rose tells one b left.one left.two new left a b (blank-rose (Err Failed) a one counts) (inl refl);
    told = told-first one new (Err Failed) x left counts stopped first second answer;
    caused = calm tells layout (entry_by (blanks d) x) (Resting a b) (ap is_cause answer ∙ blank-calm (Err Failed));
    turns = λ so l z can. turn-as layout n (blanks d) x (CutShort false) (Resting a b) new answer
        (λ p m r. (
          m,
          (r.down, λ k. refl),
          left-stands tells layout n (blanked (is_second d) true p) m one b new so left
              (rests-spoiled layout n (is_second d) p m a b one b r),
        ));
  }
  acts-blank-first one new (Err Stopped) x is counts stopped zeroed left first second answer = record {
    sound = λ h. left-sound tells n one b new left;
    rose = left-rose tells one b left.one left.two new left a b (blank-rose (Err Stopped) a one counts) (inl refl);
    told = told-first one new (Err Stopped) x left counts stopped first second answer;
    caused = calm tells layout (entry_by (blanks d) x) (Resting a b) (ap is_cause answer ∙ blank-calm (Err Stopped));
    turns = λ so l z can. turn-as layout n (blanks d) x (CutShort true) (Resting a b) new answer
        (λ p m r. (
          m,
          (r.down, λ k. refl),
          left-stands tells layout n (blanked (is_second d) true p) m one b new so left
              (rests-spoiled layout n (is_second d) p m a b one b r),
        ));
  }

  pub acts-blank-second : (two : DiskSeen) (new : Standing) (how : Result (Unit {0}) DiskRefusal) (x : Done) → is_second d ≡ true
      → two.counts.faults ≡ faults_after (end_of how) b.counts.faults → two.counts.stops ≡ stops_after (end_of how) b.counts.stops
      → OnOk how (IsZeroed tells two) → AreLeft tells a two new → x.first_failed ≡ false → x.second_failed ≡ is_failed how
      → answer_of x.answer ≡ blanked_as how → Acts tells layout n (blanks d) (Ok x) (Resting a b) new
  acts-blank-second two new (Ok done) x is counts stopped zeroed left first second answer = record {
    sound = λ h. left-sound tells n a two new left;
    rose = left-rose tells a two left.one left.two new left a b (inl refl) (blank-rose (Ok done) b two counts);
    told = told-second two new (Ok done) x left counts stopped first second answer;
    caused = calm tells layout (entry_by (blanks d) x) (Resting a b) (ap is_cause answer ∙ blank-calm (Ok done));
    turns = λ so l z can. turn-as layout n (blanks d) x Made (Resting a b) new answer
        (λ p m r. (
          m,
          (r.down, λ k. refl),
          subst (λ (s : Bool). StandsFor layout n (blanked s false p) m new) (sym is)
              (left-stands tells layout n (blanked true false p) m a two new so left
              (rests-zeroed-second layout n (zeroed so).0 p m a b two z (zeroed so).1 r)),
        ));
  }
  acts-blank-second two new (Err Failed) x is counts stopped zeroed left first second answer = record {
    sound = λ h. left-sound tells n a two new left;
    rose = left-rose tells a two left.one left.two new left a b (inl refl) (blank-rose (Err Failed) b two counts);
    told = told-second two new (Err Failed) x left counts stopped first second answer;
    caused = calm tells layout (entry_by (blanks d) x) (Resting a b) (ap is_cause answer ∙ blank-calm (Err Failed));
    turns = λ so l z can. turn-as layout n (blanks d) x (CutShort false) (Resting a b) new answer
        (λ p m r. (
          m,
          (r.down, λ k. refl),
          left-stands tells layout n (blanked (is_second d) true p) m a two new so left
              (rests-spoiled layout n (is_second d) p m a b a two r),
        ));
  }
  acts-blank-second two new (Err Stopped) x is counts stopped zeroed left first second answer = record {
    sound = λ h. left-sound tells n a two new left;
    rose = left-rose tells a two left.one left.two new left a b (inl refl) (blank-rose (Err Stopped) b two counts);
    told = told-second two new (Err Stopped) x left counts stopped first second answer;
    caused = calm tells layout (entry_by (blanks d) x) (Resting a b) (ap is_cause answer ∙ blank-calm (Err Stopped));
    turns = λ so l z can. turn-as layout n (blanks d) x (CutShort true) (Resting a b) new answer
        (λ p m r. (
          m,
          (r.down, λ k. refl),
          left-stands tells layout n (blanked (is_second d) true p) m a two new so left
              (rests-spoiled layout n (is_second d) p m a b a two r),
        ));
  }

-- there was no memory for the zeros
pub acts-unblanked : (tells : Bool) (layout : Layout) (n d : ℕ) (e : AllocError) (a b one two : DiskSeen)
    → one.counts.faults ≡ a.counts.faults → two.counts.faults ≡ b.counts.faults
    → Acts tells layout n (blanks d) (Err e) (Resting a b) (Resting one two)
acts-unblanked tells layout n d e a b one two first second = record {
  sound = λ h. tt;
  rose = (inl first, (inl second, tt));
  told = tt;
  caused = tt;
  turns = λ so l z can. tt;
}

-- 7. Askings

same-kept : (layout : Layout) (node : ℕ) (bodies bodies2 : Bodies) (told told2 : Told) → told2 ≡ told → bodies2 ≡ bodies
    → Finds layout node (IsMapped (λ m. Same m bodies)) told → Finds layout node (IsMapped (λ m. Same m bodies2)) told2
same-kept layout node bodies bodies2 told told2 is on h =
    subst (λ (t : Told). Finds layout node (IsMapped (λ m. Same m bodies2)) t) (sym is)
    (subst (λ (b : Bodies). Finds layout node (IsMapped (λ m. Same m b)) told) (sym on) h)

has-asked : (tells : Bool) (layout : Layout) (node node2 generation generation2 : ℕ) (held : Bodies) (a b : SideSeen) → IsTrue tells
    → node2 ≡ node → generation2 ≡ generation → IsAskedSide tells a b
    → SideHas layout node generation held a → SideHas layout node2 generation2 held b
has-asked tells layout node node2 generation generation2 held a b so nodes generations l h =
    subst (λ (k : ℕ). SideHas layout k generation2 held b) (sym nodes)
    (subst (λ (g : ℕ). SideHas layout node g held b) (sym generations) (record {
      same = subst (λ (m : Bodies). SameEjects node m held) (sym (l.kept so)) h.same;
      generation_is = ap (generation_in node) (l.kept so) ∙ h.generation_is;
      kept = same-kept layout node (bodies_on a) (bodies_on b) (disk_of a).told (disk_of b).told l.disk.told (l.kept so) h.kept;
    }))

module _ (tells : Bool) (layout : Layout) (n : ℕ) (t u : TwinSeen) (so : IsTrue tells) (node : u.node ≡ t.node)
    (generation : u.generation ≡ t.generation) (first : IsAskedSide tells t.first u.first)
    (second : IsAskedSide tells t.second u.second) where
  holds-asked : (held : Bodies) → Holds layout held t → Holds layout held u
  holds-asked held h = record {
    generation = subst (λ (k : ℕ). 1 ≤ k) (sym generation) h.generation;
    first = λ on. has-asked tells layout t.node u.node t.generation u.generation held t.first u.first so node generation first
        (h.first (sym first.used ∙ on));
    second = λ on. has-asked tells layout t.node u.node t.generation u.generation held t.second u.second so node generation second
        (h.second (sym second.used ∙ on));
  }

  sure-asked : IsSure layout t → IsSure layout u
  sure-asked h = record {
    first = λ off.
        subst (λ (x : Told). Finds layout u.node (IfMapped (λ m. generation_in u.node m < u.generation)) x) (sym first.disk.told)
        (subst (λ (k : ℕ). Finds layout k (IfMapped (λ m. generation_in k m < u.generation)) (disk_of t.first).told) (sym node)
        (subst (λ (g : ℕ). Finds layout t.node (IfMapped (λ m. generation_in t.node m < g)) (disk_of t.first).told) (sym generation)
        (h.first (sym first.used ∙ off))));
    second = λ off.
        subst (λ (x : Told). Finds layout u.node (IfMapped (λ m. generation_in u.node m ≤ u.generation)) x) (sym second.disk.told)
        (subst (λ (k : ℕ). Finds layout k (IfMapped (λ m. generation_in k m ≤ u.generation)) (disk_of t.second).told) (sym node)
        (subst (λ (g : ℕ). Finds layout t.node (IfMapped (λ m. generation_in t.node m ≤ g)) (disk_of t.second).told) (sym generation)
        (h.second (sym second.used ∙ off))));
  }

asked-some : (t u : TwinSeen) → is_in_use u.first ≡ is_in_use t.first → is_in_use u.second ≡ is_in_use t.second → IsSomeUsed t
    → IsSomeUsed u
asked-some t u first second (inl h) = inl (first ∙ h)
asked-some t u first second (inr h) = inr (second ∙ h)

ready-asked : (tells : Bool) (t u : TwinSeen) → u.node ≡ t.node → IsAskedSide tells t.first u.first → IsAskedSide tells t.second u.second
    → IsTwinReady t → IsTwinReady u
ready-asked tells t u node first second h = record {
  number = subst (λ (k : ℕ). (1 ≤ k) × (k ≤ 8)) (sym node) h.number;
  first = first.ready u.node (subst (λ (k : ℕ). IsSideReady k t.first) (sym node) h.first);
  second = second.ready u.node (subst (λ (k : ℕ). IsSideReady k t.second) (sym node) h.second);
  some = asked-some t u first.used second.used h.some;
}

serves-asked : (tells : Bool) (layout : Layout) (n : ℕ) (p : Pair) (m : Texts) (t u : TwinSeen) → IsTrue tells
    → IsAsked tells (Serving t) (Serving u) → Serves layout n p m t → Serves layout n p m u
serves-asked tells layout n p m t u so l s = record {
  node_is = l.0 ∙ s.node_is;
  ready = ready-asked tells t u l.0 l.2 l.3 s.ready;
  up = s.up;
  first_used = l.2.used ∙ s.first_used;
  second_used = l.3.used ∙ s.second_used;
  bodies = s.bodies;
  texts = s.texts;
  holds = holds-asked tells layout n t u so l.0 l.1 l.2 l.3 s.bodies s.holds;
  sure = λ is. sure-asked tells layout n t u so l.0 l.1 l.2 l.3 (s.sure is);
  first_vouches = s.first_vouches;
  second_vouches = s.second_vouches;
  settled = s.settled;
}

asked-stands : (tells : Bool) (layout : Layout) (n : ℕ) (p : Pair) (m : Texts) (old new : Standing) → IsTrue tells → IsAsked tells old new
    → StandsFor layout n p m old → StandsFor layout n p m new
asked-stands tells layout n p m (Serving t) (Serving u) so l s = serves-asked tells layout n p m t u so l s
asked-stands tells layout n p m (Serving t) (Resting c d) so l s = absurd l
asked-stands tells layout n p m (Serving t) Away so l s = absurd l
asked-stands tells layout n p m (Resting a b) (Serving u) so l s = absurd l
asked-stands tells layout n p m (Resting a b) (Resting c d) so l s =
    rests-left tells layout n p m a b c d so (left-told tells a c (ap (λ (k : Counts). k.faults) l.0.counts)
    (ap (λ (k : Counts). k.stops) l.0.counts) l.0.told)
    (left-told tells b d (ap (λ (k : Counts). k.faults) l.1.counts) (ap (λ (k : Counts). k.stops) l.1.counts) l.1.told) s
asked-stands tells layout n p m (Resting a b) Away so l s = absurd l
asked-stands tells layout n p m Away new so l s = absurd s

asked-sound : (tells : Bool) (n : ℕ) (old new : Standing) → IsAsked tells old new → IsSound n old → IsSound n new
asked-sound tells n (Serving t) (Serving u) l h = (l.0 ∙ h.0, ready-asked tells t u l.0 l.2 l.3 h.1)
asked-sound tells n (Serving t) (Resting c d) l h = absurd l
asked-sound tells n (Serving t) Away l h = absurd l
asked-sound tells n (Resting a b) (Serving u) l h = absurd l
asked-sound tells n (Resting a b) (Resting c d) l h = tt
asked-sound tells n (Resting a b) Away l h = absurd l
asked-sound tells n Away new l h = absurd h

asked-rose : (tells : Bool) (old new : Standing) → IsAsked tells old new → AllRoseOnce (disks_at old) (disks_at new)
asked-rose tells (Serving t) (Serving u) l =
    (inl (ap (λ (k : Counts). k.faults) l.2.disk.counts), (inl (ap (λ (k : Counts). k.faults) l.3.disk.counts), tt))
asked-rose tells (Serving t) (Resting c d) l = absurd l
asked-rose tells (Serving t) Away l = absurd l
asked-rose tells (Resting a b) (Serving u) l = absurd l
asked-rose tells (Resting a b) (Resting c d) l =
    (inl (ap (λ (k : Counts). k.faults) l.0.counts), (inl (ap (λ (k : Counts). k.faults) l.1.counts), tt))
asked-rose tells (Resting a b) Away l = absurd l
asked-rose tells Away (Serving u) l = absurd l
asked-rose tells Away (Resting c d) l = absurd l
asked-rose tells Away Away l = tt

pub acts-fail : (tells : Bool) (layout : Layout) (n d after : ℕ) (x : Done) (old new : Standing) → IsAsked tells old new
    → answer_of x.answer ≡ Made → x.first_failed ≡ false → x.second_failed ≡ false → Acts tells layout n (fails d after) (Ok x) old new
acts-fail tells layout n d after x old new l is first second = record {
  sound = asked-sound tells n old new l;
  rose = asked-rose tells old new l;
  told = asked-told tells (entry_by (fails d after) x) old new l first second (stop-as (answer_of x.answer) Made false is refl);
  caused = calm tells layout (entry_by (fails d after) x) old (ap is_cause is);
  turns = λ so lawful z can. turn-as layout n (fails d after) x Made old new is
      (λ p m s. (m, λ k. refl, asked-stands tells layout n p m old new so l s));
}

pub acts-stop : (tells : Bool) (layout : Layout) (n d after : ℕ) (how : WrittenMode) (x : Done) (old new : Standing)
    → IsAsked tells old new → answer_of x.answer ≡ Made → x.first_failed ≡ false → x.second_failed ≡ false
    → Acts tells layout n (stops d after how) (Ok x) old new
acts-stop tells layout n d after how x old new l is first second = record {
  sound = asked-sound tells n old new l;
  rose = asked-rose tells old new l;
  told = asked-told tells (entry_by (stops d after how) x) old new l first second (stop-as (answer_of x.answer) Made false is refl);
  caused = calm tells layout (entry_by (stops d after how) x) old (ap is_cause is);
  turns = λ so lawful z can. turn-as layout n (stops d after how) x Made old new is
      (λ p m s. (m, λ k. refl, asked-stands tells layout n p m old new so l s));
}

-- 8. Places of the code

module _ {T D : Type 0} (seen : T → Seen) (look : D → DiskSeen) where
  -- what stands at a place, by what the place is
  pub acts-at : (tells : Bool) (layout : Layout) (n : ℕ) (c : Command) (r : Result Done AllocError) (p q : Place T D) (new : Standing)
      → p ≡ q → Acts tells layout n c r (standing seen look q) new → Acts tells layout n c r (standing seen look p) new
  acts-at tells layout n c r p q new is a = subst (λ (z : Place T D). Acts tells layout n c r (standing seen look z) new) (sym is) a

  pub acts-from-to : (tells : Bool) (layout : Layout) (n : ℕ) (c : Command) (r : Result Done AllocError) (p q x y : Place T D)
      → q ≡ p → y ≡ x → Acts tells layout n c r (standing seen look q) (standing seen look x)
      → Acts tells layout n c r (standing seen look p) (standing seen look y)
  acts-from-to tells layout n c r p q x y is on a =
      subst (λ (z : Place T D). Acts tells layout n c r (standing seen look p) (standing seen look z)) (sym on)
      (subst (λ (z : Place T D). Acts tells layout n c r (standing seen look z) (standing seen look x)) is a)

  pub sound-at : (n : ℕ) (p q : Place T D) → q ≡ p → IsSound n (standing seen look p) → IsSound n (standing seen look q)
  sound-at n p q is h = subst (λ (z : Place T D). IsSound n (standing seen look z)) (sym is) h

  -- where a place is none of two disks that are closed, or that are open
  pub never-rest : (p : Place T D) → ((a b : D) → p ≡ place.Rest a b → ⊥) → (one two : DiskSeen) → standing seen look p ≡ Resting one two
      → ⊥
  never-rest (place.Open t) never one two e = cc e
  never-rest (place.Rest a b) never one two e = never a b refl
  never-rest place.Away never one two e = cc e

  pub never-open : (p : Place T D) → ((t : TwinStore T D) → p ≡ place.Open t → ⊥) → (t : TwinSeen) → standing seen look p ≡ Serving t → ⊥
  never-open (place.Open x) never t e = never x refl
  never-open (place.Rest a b) never t e = cc e
  never-open place.Away never t e = cc e

  -- what is known of a pair that is open at a place
  pub open-node : (n : ℕ) (p : Place T D) (t : TwinStore T D) → p ≡ place.Open t → IsSound n (standing seen look p)
      → (twin_seen seen look t).node ≡ n
  open-node n p t is h = (subst (λ (z : Place T D). IsSound n (standing seen look z)) is h).0

  pub open-ready : (n : ℕ) (p : Place T D) (t : TwinStore T D) → p ≡ place.Open t → IsSound n (standing seen look p)
      → IsTwinReady (twin_seen seen look t)
  open-ready n p t is h = (subst (λ (z : Place T D). IsSound n (standing seen look z)) is h).1

-- 9. Parts of the code

pub noted-by : (x : Bool) (a b s t : ℕ) → a ≡ b → s ≡ t → x ≡ not (nat_lt s (one_more a)) → x ≡ not (nat_lt t (one_more b))
noted-by x a b s t e f is = is ∙ ap (λ k. not (nat_lt s (one_more k))) e ∙ ap (λ k. not (nat_lt k (one_more b))) f

pub left-by : (tells : Bool) (a b x y : DiskSeen) (new : Standing) → a ≡ x → b ≡ y → AreLeft tells a b new → AreLeft tells x y new
left-by tells a b x y new e f l = subst (λ (z : DiskSeen). AreLeft tells x z new) f (subst (λ (z : DiskSeen). AreLeft tells z b new) e l)

pub goes-ok : {U : Type 0} (tells : Bool) (r : Result U TwinRefusal) (value : U) (t : TwinSeen) (new : Standing) → r ≡ Ok value
    → new ≡ Serving t → GoesOnAs tells r t new
goes-ok {U = U} tells r value t new is e = subst (λ (z : Result U TwinRefusal). GoesOnAs tells z t new) (sym is) e

pub goes-err : {U : Type 0} (tells : Bool) (r : Result U TwinRefusal) (why : TwinRefusal) (t : TwinSeen) (new : Standing) → r ≡ Err why
    → AreLeft tells (disk_of t.first) (disk_of t.second) new → GoesOnAs tells r t new
goes-err {U = U} tells r why t new is l = subst (λ (z : Result U TwinRefusal). GoesOnAs tells z t new) (sym is) l

ok-no-memory : {U : Type 0} (r : Result U TwinRefusal) (value : U) → r ≡ Ok value → r ≡ Err OutOfMemory → ⊥
ok-no-memory r value is e = cc (sym is ∙ e)

pub done-ok : {U : Type 0} (by : Result U TwinRefusal → Answer) (asked : Asked U) (d : Done) (value : U) → asked.answer ≡ Ok value
    → answer_of d.answer ≡ by (Ok value) → d.first_failed ≡ asked.first_failed → d.second_failed ≡ asked.second_failed
    → IsDoneAs by asked d
done-ok by asked d value is answer first second = record {
  answer = answer ∙ sym (ap by is);
  first = first;
  second = second;
  memory = ok-no-memory asked.answer value is;
}

err-same : {U : Type 0} (a b : TwinRefusal) → ◌≡◌ {A = Result U TwinRefusal} (Err a) (Err b) → a ≡ b
err-same a b e = cc e

pub done-err : {U : Type 0} (by : Result U TwinRefusal → Answer) (asked : Asked U) (why : TwinRefusal) (x : Result Done AllocError)
    → asked.answer ≡ Err why → by (Err why) ≡ Refused why → IfOk x (λ d. d.answer ≡ coded.Refused why)
    → IfOk x (λ d. d.first_failed ≡ asked.first_failed) → IfOk x (λ d. d.second_failed ≡ asked.second_failed)
    → IfOk x (λ d. why ≢ OutOfMemory) → IfOk x (IsDoneAs by asked)
done-err by asked why (Err e) is said answer first second memory = tt
done-err by asked why (Ok d) is said answer first second memory = record {
  answer = ap answer_of answer ∙ sym said ∙ sym (ap by is);
  first = first;
  second = second;
  memory = λ e. memory (err-same why OutOfMemory (sym is ∙ e));
}

-- a command by what it means
pub acts-as : (tells : Bool) (layout : Layout) (n : ℕ) (c k : Command) (r : Result Done AllocError) (old new : Standing) → k ≡ c
    → Acts tells layout n c r old new → Acts tells layout n k r old new
acts-as tells layout n c k r old new e a = subst (λ (z : Command). Acts tells layout n z r old new) (sym e) a

-- 10. Blankings of the code

synced-told : (r : Result (Unit {0}) DiskRefusal) (clock : ℕ) (mid new : Told) → SyncTold clock mid new (end_of r)
    → OnOk r (new ≡ noted (Synced clock) mid)
synced-told (Ok done) clock mid new h = h
synced-told (Err e) clock mid new h = tt

pub overwritten : (r : Result (Unit {0}) DiskRefusal) (one two : ℕ) (bytes : List ℕ) (old mid new : Told)
    → mid ≡ noted (Wrote one 0 bytes) old → SyncTold two mid new (end_of r)
    → OnOk r (contents new ≡ at_rest (overlay 0 bytes (contents old).now))
overwritten (Ok done) one two bytes old mid new wrote synced =
    ap contents synced ∙ ap (λ (t : Told). at_rest (contents t).now) wrote
overwritten (Err e) one two bytes old mid new wrote synced = tt

overlay-all : (bytes old : List ℕ) → length old ≡ length bytes → overlay 0 bytes old ≡ bytes
overlay-all bytes old same =
    ap (λ (l : List ℕ). bytes ++ l) (drop_all (0 + length bytes) old (omega (arith, same))) ∙ append-nil bytes

pub zeroed : (tells : Bool) (how : Result (Unit {0}) DiskRefusal) (size : ℕ) (bytes : List ℕ) (old new : DiskSeen)
    → bytes ≡ replicate size 0 → (IsTrue tells → length (contents old.told).now ≡ size)
    → (IsTrue tells → OnOk how (contents new.told ≡ at_rest (overlay 0 bytes (contents old.told).now)))
    → OnOk how (IsZeroed tells new)
zeroed tells (Ok done) size bytes old new is whole told = λ so. (
  size,
  told so
      ∙ ap (λ (l : List ℕ). at_rest l) (overlay-all bytes (contents old.told).now
      (whole so ∙ sym (ap length is ∙ length-replicate size 0)) ∙ is),
)
zeroed tells (Err e) size bytes old new is whole told = tt

-- 11. Askings of the code

asked-same : (tells : Bool) (s : SideSeen) → IsAskedSide tells s s
asked-same tells s = record {
  used = refl;
  disk = record { counts = refl; told = refl };
  kept = λ so. refl;
  ready = λ node h. h;
}

asked-side : (tells obeys : Bool) (what : Arm) (a b : SideSeen) → SideArms tells obeys what a b → IsAskedSide tells a b
asked-side tells obeys what a b l = record {
  used = l.used;
  disk = record { counts = l.counts; told = l.told };
  kept = l.kept;
  ready = l.ready;
}

pub asked-open : (tells obeys second : Bool) (what : Arm) (t u : TwinSeen) → TwinArms tells obeys second what t u
    → IsAsked tells (Serving t) (Serving u)
asked-open tells obeys true what t u l = (
  ap (λ (z : TwinSeen). z.node) l.1,
  ap (λ (z : TwinSeen). z.generation) l.1,
  subst (λ (z : SideSeen). IsAskedSide tells t.first z) (sym (ap (λ (z : TwinSeen). z.first) l.1)) (asked-same tells t.first),
  asked-side tells obeys what t.second u.second l.0,
)
asked-open tells obeys false what t u l = (
  ap (λ (z : TwinSeen). z.node) l.1,
  ap (λ (z : TwinSeen). z.generation) l.1,
  asked-side tells obeys what t.first u.first l.0,
  subst (λ (z : SideSeen). IsAskedSide tells t.second z) (sym (ap (λ (z : TwinSeen). z.second) l.1)) (asked-same tells t.second),
)

asked-refl : (d : DiskSeen) → IsAskedDisk d d
asked-refl d = record { counts = refl; told = refl }

pub asked-first : (tells : Bool) (a b one : DiskSeen) → IsAskedDisk a one → IsAsked tells (Resting a b) (Resting one b)
asked-first tells a b one l = (l, asked-refl b)

pub asked-second : (tells : Bool) (a b two : DiskSeen) → IsAskedDisk b two → IsAsked tells (Resting a b) (Resting a two)
asked-second tells a b two l = (asked-refl a, l)

-- 12. Commands of the code

pub put-reach : (c : TwinCommand) (n serial : ℕ) (text : List ℕ) → c ≡ command.Put n serial text → IsInReach (meant c)
    → (1 ≤ serial) × (length text ≤ 1024)
put-reach c n serial text is h = let r = subst (λ (z : TwinCommand). IsInReach (meant z)) is h in (r.1, r.2)

pub get-reach : (c : TwinCommand) (n serial : ℕ) → c ≡ command.Get n serial → IsInReach (meant c) → 1 ≤ serial
get-reach c n serial is h = (subst (λ (z : TwinCommand). IsInReach (meant z)) is h).1

pub delete-reach : (c : TwinCommand) (n serial : ℕ) → c ≡ command.Delete n serial → IsInReach (meant c) → 1 ≤ serial
delete-reach c n serial is h = (subst (λ (z : TwinCommand). IsInReach (meant z)) is h).1

pub put-means : (c : TwinCommand) (n k serial : ℕ) (text bytes : List ℕ) → c ≡ command.Put k serial text → n ≡ node_of (meant c)
    → bytes ≡ text → meant c ≡ puts n serial bytes
put-means c n k serial text bytes is mine same =
    ap meant is ∙ ap (λ (z : ℕ). puts z serial text) (sym (mine ∙ ap (λ (z : TwinCommand). node_of (meant z)) is))
    ∙ ap (λ (z : List ℕ). puts n serial z) (sym same)

pub get-means : (c : TwinCommand) (n k serial : ℕ) → c ≡ command.Get k serial → n ≡ node_of (meant c) → meant c ≡ gets n serial
get-means c n k serial is mine =
    ap meant is ∙ ap (λ (z : ℕ). gets z serial) (sym (mine ∙ ap (λ (z : TwinCommand). node_of (meant z)) is))

pub delete-means : (c : TwinCommand) (n k serial : ℕ) → c ≡ command.Delete k serial → n ≡ node_of (meant c) → meant c ≡ deletes n serial
delete-means c n k serial is mine =
    ap meant is ∙ ap (λ (z : ℕ). deletes z serial) (sym (mine ∙ ap (λ (z : TwinCommand). node_of (meant z)) is))

pub open-means : (c : TwinCommand) (n k : ℕ) → c ≡ command.Open k → n ≡ node_of (meant c) → meant c ≡ opens n
open-means c n k is mine = ap meant is ∙ ap opens (sym (mine ∙ ap (λ (z : TwinCommand). node_of (meant z)) is))

pub close-means : (c : TwinCommand) (n k : ℕ) → c ≡ command.Close k → n ≡ node_of (meant c) → meant c ≡ closes n
close-means c n k is mine = ap meant is ∙ ap closes (sym (mine ∙ ap (λ (z : TwinCommand). node_of (meant z)) is))

pub blank-means : (c : TwinCommand) (d : ℕ) → c ≡ command.Blank d → meant c ≡ blanks d
blank-means c d is = ap meant is

pub fail-means : (c : TwinCommand) (d after : ℕ) → c ≡ command.Fail d after → meant c ≡ fails d after
fail-means c d after is = ap meant is

pub fail-reach : (c : TwinCommand) (d after : ℕ) → c ≡ command.Fail d after → IsInReach (meant c) → 1 ≤ after
fail-reach c d after is h = (subst (λ (z : TwinCommand). IsInReach (meant z)) is h).1

pub stop-reach : (c : TwinCommand) (d after : ℕ) (mode : ImageMode) → c ≡ command.Stop d after mode → IsInReach (meant c) → 1 ≤ after
stop-reach c d after mode is h = (subst (λ (z : TwinCommand). IsInReach (meant z)) is h).1

pub no-text : (c : TwinCommand) → ((n serial : ℕ) (text : List ℕ) → c ≡ command.Put n serial text → ⊥)
    → ((n serial : ℕ) → c ≡ command.Get n serial → ⊥) → ((n serial : ℕ) → c ≡ command.Delete n serial → ⊥) → IsNoText (meant c)
no-text (command.Open n) p g d = tt
no-text (command.Put n serial text) p g d = absurd (p n serial text refl)
no-text (command.Get n serial) p g d = absurd (g n serial refl)
no-text (command.Delete n serial) p g d = absurd (d n serial refl)
no-text (command.Close n) p g d = tt
no-text (command.Blank k) p g d = tt
no-text (command.Fail k after) p g d = tt
no-text (command.Stop k after mode) p g d = tt

-- 13. Blankings at a place

pub blanked-first : (tells : Bool) (layout : Layout) (n d : ℕ) (a b one : DiskSeen) (new : Standing)
    (all : Result (Result (Unit {0}) DiskRefusal) AllocError) (how : Result (Unit {0}) DiskRefusal) (x : Done)
    → all ≡ Ok how → is_second d ≡ false → IsBlankedOnce all a.counts.faults one.counts.faults
    → IsStoppedOnce all a.counts.stops one.counts.stops → IfOk all (λ h. OnOk h (IsZeroed tells one)) → AreLeft tells one b new
    → x.first_failed ≡ is_failed how → x.second_failed ≡ false → answer_of x.answer ≡ blanked_as how
    → Acts tells layout n (blanks d) (Ok x) (Resting a b) new
blanked-first tells layout n d a b one new all how x is second counts stopped zero left mark other answer =
    acts-blank-first tells layout n d a b one new how x second
    (subst (λ (z : Result (Result (Unit {0}) DiskRefusal) AllocError). IsBlankedOnce z a.counts.faults one.counts.faults) is counts)
    (subst (λ (z : Result (Result (Unit {0}) DiskRefusal) AllocError). IsStoppedOnce z a.counts.stops one.counts.stops) is stopped)
    (subst (λ (z : Result (Result (Unit {0}) DiskRefusal) AllocError). IfOk z (λ h. OnOk h (IsZeroed tells one))) is zero) left mark other
    answer

pub blanked-second : (tells : Bool) (layout : Layout) (n d : ℕ) (a b two : DiskSeen) (new : Standing)
    (all : Result (Result (Unit {0}) DiskRefusal) AllocError) (how : Result (Unit {0}) DiskRefusal) (x : Done)
    → all ≡ Ok how → is_second d ≡ true → IsBlankedOnce all b.counts.faults two.counts.faults
    → IsStoppedOnce all b.counts.stops two.counts.stops → IfOk all (λ h. OnOk h (IsZeroed tells two)) → AreLeft tells a two new
    → x.first_failed ≡ false → x.second_failed ≡ is_failed how → answer_of x.answer ≡ blanked_as how
    → Acts tells layout n (blanks d) (Ok x) (Resting a b) new
blanked-second tells layout n d a b two new all how x is second counts stopped zero left other mark answer =
    acts-blank-second tells layout n d a b two new how x second
    (subst (λ (z : Result (Result (Unit {0}) DiskRefusal) AllocError). IsBlankedOnce z b.counts.faults two.counts.faults) is counts)
    (subst (λ (z : Result (Result (Unit {0}) DiskRefusal) AllocError). IsStoppedOnce z b.counts.stops two.counts.stops) is stopped)
    (subst (λ (z : Result (Result (Unit {0}) DiskRefusal) AllocError). IfOk z (λ h. OnOk h (IsZeroed tells two))) is zero) left other mark
    answer

pub not-blanked : (all : Result (Result (Unit {0}) DiskRefusal) AllocError) (e : AllocError) (a b : ℕ) → all ≡ Err e → IsBlankedOnce all a b
    → b ≡ a
not-blanked all e a b is h = subst (λ (z : Result (Result (Unit {0}) DiskRefusal) AllocError). IsBlankedOnce z a b) is h
