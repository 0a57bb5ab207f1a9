-- One more entry of a run: a turn or a command.
use Rattle.std.proofs.Common.{◌≡◌, ◌≤◌, ◌<◌, ℕ, zero, suc, ◌+◌, ◌-◌, Bool, true, false, cond, List, [], ◌∷◌, ◌++◌, length, Option, None}
use Rattle.std.proofs.Common.{Some}
use Rattle.std.proofs.Common.{refl, sym, ◌∙◌, ap, subst, arith, inl, inr}
use Rattle.std.specs.Prelude.{is_some, slice_get, ◌%◌, Result, Ok, Err, OnOk, OnErr, IsTrue}
use Rattle.std.proofs.lemmas.Bool.Decides.{nat_tests}
use Rattle.std.specs.List.{Contains, find, filter_map}
use Rattle.eden_model.specs.Map.{first}
use Rattle.eden_model.specs.Traffic.{Call, names_of, shell_name}
use Rattle.epl_syntax.specs.Edentype.{Edentype}
use Rattle.journal.specs.declared.command.Command.{Command}
use Rattle.journal.specs.declared.event.Event.TheVariants as event
use Rattle.journal.specs.declared.event.Entry.{Entry}
use Rattle.journal.specs.declared.event.Key.{Key}
use Rattle.journal.specs.World.{World}
use Rattle.journal.specs.Step.{Allows, next, key_of, counted, clocked, happened}
use Rattle.journal.specs.Enabled.{enabled, following, is_past}
use Rattle.journal.specs.Fit.{IsFitCommand}
use Rattle.journal.specs.Run.{Position, Step, IdleIf, idle, IsDue, Leads, end_of, lead, steps, is_spent, taken_key, most_turns}
use Rattle.runs.specs.Reached.{IsReached, IsFitIn}
use Rattle.runs.specs.Machines.{Stands, Did, Starved, Shows, Whole, Leaves}
use Rattle.runs.specs.Machines.{step, plain, TakesKey, CarriesOut, StandsWith, DidStep, DidAll, DidPart, Failed, ShowsOne, ShowsAll}
use Rattle.runs.specs.Machines.{IsLeft}
use Rattle.runs.specs.Runs.{Origin, room, IsOn, Repeats, chosen_by, Took, TookCommand, EndsShort, KeepsShown, KeepsShownSoFar}
use Rattle.runs.specs.declared.run.Choice.{Choice}
use Rattle.runs.specs.declared.run.Choice.TheVariants.{Following, Item}
use Rattle.runs.specs.declared.run.Run.{Run}
use Rattle.runs.proofs.Counted.{turns-kept, command-kept, busy-key, busy-command}

-- 1. One more entry

leads-push : (p : Position) (h : List Entry) (e : Entry) → Leads p h → IsDue (end_of p h) e → Leads p (h ++ e ∷ [])
leads-push p [] e leads due = (due, tt)
leads-push p (x ∷ h) e leads due = (leads.0, leads-push (lead p x) h e leads.1 due)

end-push : (p : Position) (h : List Entry) (e : Entry) → end_of p (h ++ e ∷ []) ≡ lead (end_of p h) e
end-push p [] e = refl
end-push p (x ∷ h) e = end-push (lead p x) h e

-- the step of one more entry
abbrev last_step : Position → List Entry → Entry → Step
last_step p h e = step (end_of p h).world e (lead (end_of p h) e).world

steps-push : (p : Position) (h : List Entry) (e : Entry) → steps p (h ++ e ∷ []) ≡ steps p h ++ last_step p h e ∷ []
steps-push p [] e = refl
steps-push p (x ∷ h) e = ap (λ r. step p.world x (lead p x).world ∷ r) (steps-push (lead p x) h e)

did-push : {M : Type 0} (did : Did M) (first mid last : M) (run : List Step) (s : Step) → DidAll did first run mid
    → DidStep did mid s last → DidAll did first (run ++ s ∷ []) last
did-push did first mid last [] s all d = (last, subst (λ m. DidStep did m s last) all d, refl)
did-push did first mid last (x ∷ run) s all d = (all.0, all.1, did-push did all.0 mid last run s all.2 d)

shows-push : {M : Type 0} (shows : Shows M) (first mid last : M) (h : List Entry) (e : Entry) → ShowsAll shows first h mid
    → ShowsOne shows mid e last → ShowsAll shows first (h ++ e ∷ []) last
shows-push shows first mid last [] e all d = (last, subst (λ m. ShowsOne shows m e last) all d, refl)
shows-push shows first mid last (x ∷ h) e all d = (all.0, all.1, shows-push shows all.0 mid last h e all.2 d)

-- 2. A key that is chosen is one of the keys

find-Contains : (p : Key → Bool) (keys : List Key) (k : Key) → find p keys ≡ Some k → Contains keys k
find-Contains p [] k e = absurd (cc e)
find-Contains p (x ∷ keys) k e = go (p x) refl (find-Contains p keys k)
  where
    more : Contains keys k → Contains (x ∷ keys) k
    more h = (suc h.0, omega (arith, h.1), h.2)

    go : (b : Bool) → p x ≡ b → (find p keys ≡ Some k → Contains keys k) → Contains (x ∷ keys) k
    go true is ih = let r : Some x ≡ Some k = rw is at e in let s : x ≡ k = cc in (0, omega arith, s)
    go false is ih = more (ih (rw is at e))

first-Contains : (keys : List Key) (k : Key) → first keys ≡ Some k → Contains keys k
first-Contains [] k e = absurd (cc e)
first-Contains (x ∷ keys) k e = let s : x ≡ k = cc in (0, omega arith, s)

pub following-Contains : (last : Option Key) (keys : List Key) (k : Key) → following last keys ≡ Some k → Contains keys k
following-Contains last keys k e = go (find (is_past last) keys) refl
  where
    go : (o : Option Key) → find (is_past last) keys ≡ o → Contains keys k
    go None is = first-Contains keys k (rw is at e)
    go (Some x) is = find-Contains (is_past last) keys k (is ∙ (let r : Some x ≡ Some k = rw is at e in r))

pub item-Contains : (keys : List Key) (i : ℕ) (k : Key) → slice_get keys i ≡ Some k → Contains keys k
item-Contains [] i k is = absurd (let bad : None ≡ Some k = is in cc bad)
item-Contains (x ∷ keys) zero k is = let s : x ≡ k = cc in (0, omega arith, s)
item-Contains (x ∷ keys) (suc i) k is = let h = item-Contains keys i k is in (suc h.0, omega (arith, h.1), h.2)

pub chosen-Contains : (choice : Choice) (w : World) (k : Key) → chosen_by choice w (enabled w) ≡ Some k → Contains (enabled w) k
chosen-Contains Following w k is = following-Contains w.last (enabled w) k is
chosen-Contains (Item i) w k is = item-Contains (enabled w) (i % length (enabled w)) k is

-- 3. A turn that takes no key

none-broken : (w : World) → names_of (λ c. false) w.traffic ≡ []
none-broken w = go w.traffic.calls
  where
    go : (calls : List (ℕ × Call)) → filter_map (λ (e : ℕ × Call). cond false (shell_name e.1.asker) None) calls ≡ []
    go [] = refl
    go (e ∷ calls) = go calls

quiet-allowed : (w : World) → Allows w None (plain event.Quiet)
quiet-allowed w = record { event = tt; broken = sym (none-broken w); disk = refl; clock = refl; store_clock = tt }

spent-allowed : (w : World) → Allows w None (plain event.Spent)
spent-allowed w = record { event = tt; broken = sym (none-broken w); disk = refl; clock = refl; store_clock = tt }

-- 4. Where a run stands after one more entry

-- one less of the room
pub less-room : {M : Type 0} (stands : Stands M) (m : M) (some : ℕ) (w : World) (P : Type 0) → StandsWith stands m (suc some) w
    → ((more : ℕ) → some ≤ more → stands m (suc more) w → P) → P
less-room stands m some w P it each = go it.0 it.1 it.2
  where
    go : (more : ℕ) → suc some ≤ more → stands m more w → P
    go zero le at = absurd (omega (arith, le))
    go (suc more) le at = each more (omega (arith, le)) at

module _ {M : Type 0} (stands : Stands M) (did : Did M) (o : Origin M) where
  pub on-reached : (others : ℕ) (run : Run M) (p : Position) → IsOn stands did o others run p → IsReached p.world
  on-reached others run p on = subst (λ (p : Position). IsReached p.world) on.at (on.reached.reached run.history.items on.leads)

  pub on-fit : (others : ℕ) (run : Run M) (p : Position) (c : Command) → IsOn stands did o others run p → IsFitCommand o.types o.nodes c
      → IsFitIn p.world c
  on-fit others run p c on fit = subst (λ (p : Position). IsFitIn p.world c) on.at (record {
    types = o.types;
    nodes = o.nodes;
    few = on.reached.few;
    offers = on.reached.offers run.history.items on.leads;
    fit = fit;
  })

  -- room for fewer entries
  pub on-less : (others fewer : ℕ) (run : Run M) (p : Position) → fewer ≤ others → IsOn stands did o others run p
      → IsOn stands did o fewer run p
  on-less others fewer run p le on = record {
    reached = on.reached;
    leads = on.leads;
    at = on.at;
    machine = (on.machine.0, omega (arith, le, on.machine.1), on.machine.2);
    came = on.came;
    turns = on.turns;
    last = on.last;
    again = on.again;
  }

  -- the run goes on by an entry that is due
  pub on-push : (before others : ℕ) (old new : Run M) (p q : Position) (later : World) (e : Entry) → IsOn stands did o before old p
      → IsDue p e
      → new.history.items ≡ old.history.items ++ e ∷ [] → lead p e ≡ q → q.world ≡ later
      → StandsWith stands new.machine (room new others) later
      → DidStep did old.machine (step p.world e later) new.machine → later.turns ≡ new.turns → later.last ≡ new.last
      → (IsTrue new.again → Repeats later) → IsOn stands did o others new q
  on-push before others old new p q later e on due grew leads_to world machine done same_turns same_last repeats = record {
    reached = on.reached;
    leads = subst (Leads o.start) (sym grew) (leads-push o.start old.history.items e on.leads (subst (λ x. IsDue x e) (sym on.at) due));
    at = ap (end_of o.start) grew ∙ end-push o.start old.history.items e ∙ ap (λ x. lead x e) on.at ∙ leads_to;
    machine = subst (StandsWith stands new.machine (room new others)) (sym world) machine;
    came = subst (λ h. DidAll did o.first (steps o.start h) new.machine) (sym grew)
        (subst (λ r. DidAll did o.first r new.machine) (sym (steps-push o.start old.history.items e))
        (did-push did o.first old.machine new.machine (steps o.start old.history.items) (last_step o.start old.history.items e) on.came
        (subst (λ (x : Position). DidStep did old.machine (step x.world e (lead x e).world) new.machine) (sym on.at)
        (subst (λ v. DidStep did old.machine (step p.world e v) new.machine) (sym (ap (λ
        (x : Position). x.world) leads_to ∙ world)) done))));
    turns = ap (λ (x : World). x.turns) world ∙ same_turns;
    last = ap (λ (x : World). x.last) world ∙ same_last;
    again = λ is. subst Repeats (sym world) (repeats is);
  }

  -- memory was wanting before the entry
  pub ends-short : (starved : Starved M) (others least : ℕ) (old new : Run M) (p : Position) → IsOn stands did o others old p
      → least ≤ others → new.history.items ≡ old.history.items → Failed starved least old.machine new.machine p.world
      → EndsShort stands did starved o least new
  ends-short starved others least old new p on enough same failed = record {
    leads = subst (Leads o.start) (sym same) on.leads;
    came = subst (λ h. DidPart stands did starved least o.first (steps o.start h) (end_of o.start h).world new.machine) (sym same) (
      old.machine,
      on.came,
      subst (λ (x : Position). StandsWith stands old.machine least x.world) (sym on.at)
          (on.machine.0, omega (arith, enough, on.machine.1), on.machine.2),
      subst (λ (x : Position). Failed starved least old.machine new.machine x.world) (sym on.at) failed,
    );
  }

-- 5. One turn

module _ {M : Type 0} (stands : Stands M) (did : Did M) (o : Origin M) (others : ℕ) (old new : Run M) (p : Position)
    (choose : List Key → Option Key) (on : IsOn stands did o others old p) where
  stays-same : new.machine ≡ old.machine → new.turns ≡ old.turns → StandsWith stands new.machine (room new others) p.world
  stays-same machine same_turns = subst (λ m. StandsWith stands m (room new others) p.world) (sym machine)
      (subst (λ t. StandsWith stands old.machine ((most_turns - t) + others) p.world) (sym same_turns) on.machine)

  pub took-spent : 100000 ≤ old.turns → new.history.items ≡ old.history.items ++ plain event.Spent ∷ [] → new.machine ≡ old.machine
      → new.turns ≡ old.turns → new.last ≡ old.last → new.again ≡ old.again
      → (e : Entry) × Took stands did others old new p.world choose false e
  took-spent many grew machine same_turns same_last same_again = (
    plain event.Spent,
    record {
      grew = grew;
      turn = record {
        key = sym nothing;
        none_taken = subst (λ o. IdleIf o event.Spent p.world) (sym nothing)
            (sym idle_is);
        allowed = spent-allowed p.world;
      };
      told = refl;
      stays = stays-same machine same_turns;
      does = machine;
      turns = on.turns ∙ sym same_turns;
      last = on.last ∙ sym same_last;
      again = λ is. on.again (subst IsTrue same_again is);
    },
  )
    where
      spent : is_spent p.world ≡ true
      spent = rw on.turns (grind (arith, nat_tests))

      nothing : taken_key p.world choose ≡ None
      nothing = rw spent refl

      idle_is : idle p.world ≡ event.Spent
      idle_is = rw spent refl

  few-spent : old.turns < 100000 → is_spent p.world ≡ false
  few-spent few = rw on.turns (grind (arith, nat_tests))

  pub took-quiet : old.turns < 100000 → None ≡ choose (enabled p.world) → new.history.items ≡ old.history.items ++ plain event.Quiet ∷ []
      → new.machine ≡ old.machine → new.turns ≡ old.turns → new.last ≡ old.last → new.again ≡ old.again
      → (e : Entry) × Took stands did others old new p.world choose false e
  took-quiet few none grew machine same_turns same_last same_again = (
    plain event.Quiet,
    record {
      grew = grew;
      turn = record {
        key = sym nothing;
        none_taken = subst (λ o. IdleIf o event.Quiet p.world) (sym nothing)
            (sym idle_is);
        allowed = quiet-allowed p.world;
      };
      told = refl;
      stays = stays-same machine same_turns;
      does = machine;
      turns = on.turns ∙ sym same_turns;
      last = on.last ∙ sym same_last;
      again = λ is. on.again (subst IsTrue same_again is);
    },
  )
    where
      nothing : taken_key p.world choose ≡ None
      nothing = rw (few-spent few) (sym none)

      idle_is : idle p.world ≡ event.Quiet
      idle_is = rw (few-spent few) refl

  pub took-key : old.turns < 100000 → (k : Key) (e : Entry) → Some k ≡ choose (enabled p.world)
      → ((more : ℕ) → stands old.machine (suc more) p.world → TakesKey stands did old.machine new.machine more p.world k e)
      → new.history.items ≡ old.history.items ++ e ∷ [] → new.turns ≡ old.turns + 1 → new.last ≡ Some k
      → (Allows p.world None e → key_of e.event ≡ Some k → IsTrue new.again → Repeats (next p.world None e))
      → (e : Entry) × Took stands did others old new p.world choose true e
  took-key few k e chosen steps grew one_more now_last repeats =
      less-room stands old.machine (room new others) p.world ((e : Entry) × Took stands did others old new p.world choose true e)
      (on.machine.0, omega (arith, few, one_more, on.machine.1), on.machine.2) (λ more le at. (e, one more le (steps more at)))
    where
      key : taken_key p.world choose ≡ Some k
      key = rw (few-spent few) (sym chosen)

      one : (more : ℕ) → room new others ≤ more → TakesKey stands did old.machine new.machine more p.world k e
          → Took stands did others old new p.world choose true e
      one more le took = record {
        grew = grew;
        turn = record {
          key = took.takes ∙ sym key;
          none_taken = subst (λ o. IdleIf o e.event p.world)
              (sym key) tt;
          allowed = took.allowed;
        };
        told = ap is_some took.takes;
        stays = (more, le, took.stays);
        does = rw (busy-key e.event k took.takes) took.does;
        turns = ap (λ o. (counted o (clocked e.node e.clock (happened p.world None e.event))).turns) took.takes
            ∙ ap (λ m. m + 1) (ap (λ (x : ℕ × Option Key × List Edentype). x.0) (turns-kept p.world e) ∙ on.turns) ∙ sym one_more;
        last = ap (λ o. (counted o (clocked e.node e.clock (happened p.world None e.event))).last) took.takes ∙ sym now_last;
        again = repeats took.allowed took.takes;
      }

-- 6. One command

module _ {M : Type 0} (stands : Stands M) (did : Did M) (o : Origin M) (others : ℕ) (old new : Run M) (p : Position)
    (c : Command) (on : IsOn stands did o (suc others) old p) where
  pub took-command : (e : Entry) → ((more : ℕ) → stands old.machine (suc more) p.world → CarriesOut stands did old.machine new.machine
      more p.world c e)
      → new.history.items ≡ old.history.items ++ e ∷ [] → new.turns ≡ old.turns → new.last ≡ old.last → new.again ≡ false
      → TookCommand stands did others old new p.world c e
  took-command e carries grew same_turns same_last not_again =
      less-room stands old.machine (room new others) p.world (TookCommand stands did others old new p.world c e)
      (on.machine.0, omega (arith, same_turns, on.machine.1), on.machine.2) (λ more le at. one more le (carries more at))
    where
      one : (more : ℕ) → room new others ≤ more → CarriesOut stands did old.machine new.machine more p.world c e
          → TookCommand stands did others old new p.world c e
      one more le took = let kept = command-kept p.world c e took.allowed in record {
        grew = grew;
        allowed = took.allowed;
        stays = (more, le, took.stays);
        does = rw (busy-command p.world c e.event took.allowed.event) took.does;
        turns = ap (λ (x : ℕ × Option Key × List Edentype). x.0) kept ∙ on.turns ∙ sym same_turns;
        last = ap (λ (x : ℕ × Option Key × List Edentype). x.1) kept ∙ on.last ∙ sym same_last;
        again = not_again;
      }

-- 7. Where memory was wanting, what needs room for one entry was begun, or nothing was

module _ {M : Type 0} (stands : Stands M) (did : Did M) (starved : Starved M) (o : Origin M) (others : ℕ)
    (old : Run M) (new : M) (p : Position) where
  pub turn-starved : IsOn stands did o others old p → old.turns < 100000
      → ((more : ℕ) → stands old.machine (suc more) p.world → starved old.machine more p.world new)
      → Failed starved others old.machine new p.world
  turn-starved on few begun = less-room stands old.machine ((most_turns - (old.turns + 1)) + others) p.world
      (Failed starved others old.machine new p.world)
      (on.machine.0, omega (arith, few, on.machine.1), on.machine.2) (λ more le at. inl (more, omega (arith, le), begun more at))

  pub begun-starved : IsOn stands did o (suc others) old p
      → ((more : ℕ) → stands old.machine (suc more) p.world → starved old.machine more p.world new)
      → Failed starved others old.machine new p.world
  begun-starved on begun = less-room stands old.machine (room old others) p.world (Failed starved others old.machine new p.world)
      (on.machine.0, omega (arith, on.machine.1), on.machine.2) (λ more le at. inl (more, omega (arith, le), begun more at))

-- with room for fewer
pub failed-less : {M : Type 0} (starved : Starved M) (least fewer : ℕ) (old new : M) (w : World) → fewer ≤ least
    → Failed starved least old new w → Failed starved fewer old new w
failed-less starved least fewer old new w less (inl begun) = inl (begun.0, omega (arith, less, begun.1), begun.2)
failed-less starved least fewer old new w less (inr same) = inr same

pub short-less : {M : Type 0} (stands : Stands M) (did : Did M) (starved : Starved M) (o : Origin M) (least fewer : ℕ) (run : Run M)
    → fewer ≤ least → EndsShort stands did starved o least run → EndsShort stands did starved o fewer run
short-less stands did starved o least fewer run less short =
    let (between, all, stood, failed) = short.came in
    record {
      leads = short.leads;
      came = (
        between,
        all,
        (stood.0, omega (arith, less, stood.1), stood.2),
        failed-less starved least fewer between run.machine (end_of o.start run.history.items).world less failed,
      );
    }

-- 8. What entries show

module _ {M : Type 0} (shows : Shows M) where
  pub shown-push : (old : Run M) (e : Entry) (items : List Entry) (new : M) → items ≡ old.history.items ++ e ∷ []
      → ShowsOne shows old.machine e new
      → (first : M) → ShowsAll shows first old.history.items old.machine → ShowsAll shows first items new
  shown-push old e items new grew one first all = subst (λ h. ShowsAll shows first h new) (sym grew)
      (shows-push shows first old.machine new old.history.items e all one)

  pub shown-then : (old mid new : Run M) → KeepsShown shows old mid → KeepsShown shows mid new → KeepsShown shows old new
  shown-then old mid new a b first all = b first (a first all)

-- where memory was wanting no entry was added
module _ {M : Type 0} (shows : Shows M) (whole : Whole M) (leaves : Leaves M) where
  pub shown-left : (old new : Run M) → new.history.items ≡ old.history.items → IsLeft whole leaves old.machine new.machine
      → KeepsShownSoFar shows whole leaves old new
  shown-left old new same left first all = (old.machine, subst (λ h. ShowsAll shows first h old.machine) (sym same) all, left)

  pub shown-part : (old mid new : Run M) → KeepsShown shows old mid → KeepsShownSoFar shows whole leaves mid new
      → KeepsShownSoFar shows whole leaves old new
  shown-part old mid new a b first all = b first (a first all)

  pub shown-fails : (old mid new : Run M) → KeepsShown shows old mid → new.history.items ≡ mid.history.items
      → IsLeft whole leaves mid.machine new.machine → KeepsShownSoFar shows whole leaves old new
  shown-fails old mid new shown same left = shown-part old mid new shown (shown-left mid new same left)

-- what holds anyway holds where memory was wanting, and where it was not
pub on-err : {T E : Type 0} (r : Result T E) (P : Type 0) → P → OnErr r P
on-err (Ok x) P p = tt
on-err (Err e) P p = p

pub on-ok : {T E : Type 0} (r : Result T E) (P : Type 0) → P → OnOk r P
on-ok (Ok x) P p = p
on-ok (Err e) P p = tt
