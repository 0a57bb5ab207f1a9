-- Each key of a sound site has its turn in a node that stands for the site.
use Rattle.std.proofs.Common.{◌≡◌, ◌≢◌, ◌≤◌, ◌==◌, ℕ, suc, Bool, true, false, ◌||◌, List, [], ◌∷◌, ◌++◌, length, Option, None, Some}
use Rattle.std.proofs.Common.{is_some, not, refl, sym, ◌∙◌, ap, subst, arith, T}
use Rattle.std.specs.Prelude.{◌↔◌, IfSome, IsSome, IsSomeAnd, IsTrue}
use Rattle.std.specs.List.{AllByRecursion}
use Rattle.std.specs.Option.{option_map}
use Rattle.std.specs.Ordering.{nat_cmp, eq_by_cmp}
use Rattle.std.specs.Cmp.{nat_cmp_total}
use Rattle.std.specs.FinMap.Entries.{is_sorted}
use Rattle.std.proofs.lemmas.Bool.{eq-eqb}
use Rattle.std.proofs.lemmas.Cmp.{tied_itself}
use Rattle.std.proofs.lemmas.List.Elements.{recursion_from_All}
use Rattle.capability.specs.declared.Uid.{Uid}
use Rattle.capability.proofs.Uids.{uid_cmp_total}
use Rattle.eden_model.specs.Map.{first, uid_cmp, value_at}
use Rattle.eden_model.specs.Crew.{Invocation, Process, Waiting, nothing, startable}
use Rattle.eden_model.specs.Traffic.{Call, call_at}
use Rattle.epl_syntax.specs.Rules.OfTypes.{TypeList}
use Rattle.invocation.specs.Mail.{Mail}
use Rattle.invocation.specs.Numbers.{item_in}
use Rattle.invocation.proofs.CarriesLaws.{asked-call}
use Rattle.passive_store.specs.Kept.{IsEject, Layout, worked_on}
use Rattle.checkpoint.specs.declared.worker.Request.{Request}
use Rattle.history_laws.proofs.EntryLists.{all-found}
use Rattle.history_laws.proofs.SiteRuns.{both-true}
use Rattle.journal.specs.declared.event.Key.{Key}
use Rattle.journal.specs.World.{Active, Eject, Site, eject_in}
use Rattle.journal.specs.Enabled.{activity, is_ready, no_uid, node_keys}
use Rattle.journal.specs.Sites.{IsManned, IsSoundSite}
use Rattle.active_part.specs.Body.{Body, active_of}
use Rattle.ejects.specs.Marks.{IsReady, MayBegin, may_run, may_start, may_wake}
use Rattle.ejects.specs.Parts.{HasClass, HasClasses, Known, Parts, body_at, held_of, known, queue_at}
use Rattle.ejects.specs.View.{parts_of}
use Rattle.ejects.proofs.Delivered.{active-as, found-active}
use Rattle.ejects.proofs.Started.{startable-all}
use Rattle.agenda.specs.Indexed.{WorksOn, is_it, store_key, wake_keys_but}
use Rattle.agenda.specs.Keys.{Indexes, is_among, key_unless, run_keys, run_keys_of, start_keys}
use Rattle.agenda.proofs.Nexts.{keys-are}
use Rattle.eden_kernel.specs.Enabled.{HasRequest, MayActivate, MayProcess, MayStart}
use Rattle.eden_kernel.specs.Stands.{requests_in}
use Rattle.eden_kernel.proofs.Looking.{waits, works-on}
use Rattle.scheduled_node.specs.Keys.{HasTurn}
use Rattle.scheduled_node.specs.Scheduled.{Manned, ScheduledStands}
use Rattle.scheduled_node.proofs.Standing.{same-truth}
use Rattle.scheduled_node.proofs.AllOf.{append-all, flat-all, map-all, passed-all, weaker-all}

-- 1. Each Eject of an index passes its test

either : (a b : Bool) → b ≡ true → (a || b) ≡ true
either true b is = refl
either false b is = is

are-among : (us : List Uid) → AllByRecursion (λ u. is_among u us ≡ true) us
are-among [] = tt
are-among (v ∷ us) = (
  ap (λ b. b || is_among v us) (tied v),
  weaker-all (λ u. is_among u us ≡ true) (λ u. is_among u (v ∷ us) ≡ true) us (λ u is. either (eq_by_cmp uid_cmp u v) (is_among u us) is)
      (are-among us),
)
  where
    tied : (u : Uid) → eq_by_cmp uid_cmp u u ≡ true
    tied u = rw (tied_itself uid_cmp_total u) refl

all-pass : (us : List Uid) (test : Uid → Bool) → Indexes us test → AllByRecursion (λ u. test u ≡ true) us
all-pass us test index = weaker-all (λ u. is_among u us ≡ true) (λ u. test u ≡ true) us (λ u is. sym (index.exact u) ∙ is) (are-among us)

-- 2. Which turn a key is of

other : {A : Type 0} (i j : ℕ) → (i == j) ≡ false → i ≡ j → A
other i j apart same = absurd (let bad : false ≡ true = sym apart ∙ eq-eqb i j same in cc bad)

is-ready : (w : Waiting) → is_ready w ≡ true → w ≡ nothing
is-ready nothing is = refl
is-ready _ is = absurd (cc is)

module _ (layout : Layout) (ts : TypeList) (h : Manned) (m : Mail) (s : Site) (sound : IsSoundSite s)
    (own : (u : Uid) → is_some (eject_in s u) ≡ true → IsEject s.number u) (number : h.node.number ≡ s.number)
    (stands : ScheduledStands layout ts h m s) where
  abbrev n : Parts
  n = parts_of ts h.node.ejects

  abbrev Has : Key → Type 0
  Has k = HasTurn ts h.node m k

  activation-has : (station : ℕ) (u : Uid) → MayActivate ts h.node u → Has (activity station 2 u 0)
  activation-has station u may = record {
    kind = (omega arith, omega arith);
    delivery = λ is. other 2 1 refl is;
    activation = λ is. may;
    start = λ is. other 2 3 refl is;
    process = λ is. other 2 4 refl is;
    store = λ is. other 2 5 refl is;
  }

  start-has : (station : ℕ) (u : Uid) → MayStart ts h.node m u → Has (activity station 3 u 0)
  start-has station u may = record {
    kind = (omega arith, omega arith);
    delivery = λ is. other 3 1 refl is;
    activation = λ is. other 3 2 refl is;
    start = λ is. may;
    process = λ is. other 3 4 refl is;
    store = λ is. other 3 5 refl is;
  }

  process-has : (station : ℕ) (u : Uid) (p : ℕ) → MayProcess ts h.node u p → Has (activity station 4 u p)
  process-has station u p may = record {
    kind = (omega arith, omega arith);
    delivery = λ is. other 4 1 refl is;
    activation = λ is. other 4 2 refl is;
    start = λ is. other 4 3 refl is;
    process = λ is. may;
    store = λ is. other 4 5 refl is;
  }

  store-has : (station : ℕ) → HasRequest h.node → Has (activity station 5 no_uid 0)
  store-has station may = record {
    kind = (omega arith, omega arith);
    delivery = λ is. other 5 1 refl is;
    activation = λ is. other 5 2 refl is;
    start = λ is. other 5 3 refl is;
    process = λ is. other 5 4 refl is;
    store = λ is. may;
  }

  -- 3. Activations

  apart-from : (o : Option Uid) (u : Uid) → is_it o u ≡ false → o ≢ Some u
  apart-from o u other is = let same : is_it (Some u) u ≡ true = rw (tied_itself uid_cmp_total u) refl in
      let bad : false ≡ true = sym other ∙ ap (λ x. is_it x u) is ∙ same in cc bad

  -- one that may wake is there, and so is one that is active
  is-own : (u : Uid) → is_some (eject_in s u) ≡ true → IsEject h.node.number u
  is-own u there = subst (λ k. IsEject k u) (sym number) (own u there)

  wakes-there : (u : Uid) → may_wake n u ≡ true → is_some (eject_in s u) ≡ true
  wakes-there u may = go (eject_in s u) refl
    where
      queued : may_wake n u ≡ true → is_some (first (queue_at n u)) ≡ true
      queued is = (both-true (not (is_some (body_at n u))) (is_some (first (queue_at n u))) is).1

      go : (o : Option Eject) → eject_in s u ≡ o → is_some o ≡ true
      go None at = absurd (let none : queue_at n u ≡ [] = ap (λ (k : Known). k.queued)
          (sym (stands.node.calls.parts.ejects u) ∙ ap known at) in
          let bad : true ≡ false = sym (queued may) ∙ ap (λ ks. is_some (first ks)) none in cc bad)
      go (Some e) at = refl

  waking : (u : Uid) → may_wake n u ≡ true
      → AllByRecursion Has (key_unless (is_it (worked_on h.node.seen.work) u) (activity n.number 2 u 0))
  waking u may = go (is_it (worked_on h.node.seen.work) u) refl
    where
      go : (b : Bool) → is_it (worked_on h.node.seen.work) u ≡ b → AllByRecursion Has (key_unless b (activity n.number 2 u 0))
      go true is = tt
      go false is = (
        activation-has n.number u (record {
          own = is-own u (wakes-there u may);
          wakes = may;
          free = apart-from (worked_on h.node.seen.work) u is;
        }),
        tt,
      )

  -- 4. Starts

  asked : (b : Body) → HasClasses s.traffic (Some b) → (i : Invocation) → startable b.crew.crew b.crew.queued ≡ Some i
      → IsSome (item_in i.call m.calls)
  asked b classes i is = go (call_at s.traffic i.call) refl
      (startable-all b.crew.crew (HasClass s.traffic b.kind) b.crew.queued i classes is)
    where
      go : (o : Option Call) → call_at s.traffic i.call ≡ o → HasClass s.traffic b.kind i → IsSome (item_in i.call m.calls)
      go None at has = absurd (rw at at has)
      go (Some d) at has = let found = asked-call m s.traffic stands.node.calls.calls i.call d at in rw found.is refl

  starting : (u : Uid) → may_start (body_at n u) ≡ true → Has (activity n.number 3 u 0)
  starting u may = start-has n.number u (go (body_at n u) refl may)
    where
      begins : (b : Body) → body_at n u ≡ Some b → (o : Option Invocation) → startable b.crew.crew b.crew.queued ≡ o → is_some o ≡ true
          → IsSomeAnd o (λ i. IsSome (item_in i.call m.calls))
      begins b at None is some = absurd (cc some)
      begins b at (Some i) is some = asked b (subst (HasClasses s.traffic) at (stands.node.calls.parts.classes u)) i is

      go : (o : Option Body) → body_at n u ≡ o → may_start o ≡ true → MayBegin m o
      go None at may = absurd (cc may)
      go (Some b) at may = begins b at (startable b.crew.crew b.crew.queued) refl may

  -- 5. Processes

  numbered : (u : Uid) (b : Body) → body_at n u ≡ Some b → T (is_sorted nat_cmp b.crew.crew.processes)
  numbered u b at =
      let found = found-active n s u b stands.node.calls.parts at in
      let here : known (Some found.eject) ≡ held_of n u = ap known (sym found.is) ∙ stands.node.calls.parts.ejects u in
      let active : found.eject.active ≡ Some (active_of b) = (active-as n u b found.eject here at).active in
      go found.eject.active active (sound.node.manned u found.eject found.is)
    where
      go : (o : Option Active) → o ≡ Some (active_of b) → IfSome o IsManned → T (is_sorted nat_cmp b.crew.crew.processes)
      go None is manned = absurd (cc is)
      go (Some it) is manned = let same : it ≡ active_of b = cc in (subst IsManned same manned).numbered

  running : (u : Uid) → AllByRecursion Has (run_keys_of u (body_at n u))
  running u = go (body_at n u) refl
    where
      one : (b : Body) → body_at n u ≡ Some b → (q : ℕ × Process) → value_at nat_cmp q.0 b.crew.crew.processes ≡ Some q.1
          → is_ready q.1.waits ≡ true → Has (activity u.node 4 u q.0)
      one b at q found waits = process-has u.node u q.0 (record {
        own = is-own u (ap is_some (found-active n s u b stands.node.calls.parts at).is);
        ready = subst (λ o. IsReady o q.0) (sym at)
            (ap (option_map (λ (it : Process). it.waits)) found ∙ ap Some (is-ready q.1.waits waits));
      })

      go : (o : Option Body) → body_at n u ≡ o → AllByRecursion Has (run_keys_of u o)
      go None at = tt
      go (Some b) at = passed-all Has (λ (q : ℕ × Process). value_at nat_cmp q.0 b.crew.crew.processes ≡ Some q.1)
          (λ (q : ℕ × Process). is_ready q.1.waits) (λ (q : ℕ × Process). activity u.node 4 u q.0) b.crew.crew.processes (one b at)
          (recursion_from_All (λ (q : ℕ × Process). value_at nat_cmp q.0 b.crew.crew.processes ≡ Some q.1) b.crew.crew.processes
          (all-found nat_cmp nat_cmp_total b.crew.crew.processes (numbered u b at)))

  -- 6. All of them

  works : WorksOn s (worked_on h.node.seen.work)
  works = record { at = works-on layout h.node.seen.node s (requests_in h.node) h.node.seen stands.node.disk }

  stored : (b : Bool) → (b ≡ true → HasRequest h.node) → AllByRecursion Has (store_key n.number b)
  stored true may = (store-has n.number (may refl), tt)
  stored false may = tt

  by-lists : (pending : Bool) → IsTrue pending ↔ (1 ≤ length h.node.worker.requests.items) → AllByRecursion Has (node_keys s)
  by-lists pending is =
      let a = h.agenda in
      let worked = worked_on h.node.seen.work in
      let waiting = waits layout h.node.seen.node s h.node.worker.requests.items h.node.seen pending stands.node.disk is in
      subst (AllByRecursion Has) (sym (keys-are n a s sound stands.node.calls.parts stands.agenda worked pending works
      (same-truth _ _ waiting)))
      (append-all Has (wake_keys_but n.number worked a.wake ++ start_keys n.number a.start ++ run_keys n a.run)
      (store_key n.number pending)
      (append-all Has (wake_keys_but n.number worked a.wake ++ start_keys n.number a.start) (run_keys n a.run)
      (append-all Has (wake_keys_but n.number worked a.wake) (start_keys n.number a.start)
      (flat-all Has (λ u. may_wake n u ≡ true) (λ u. key_unless (is_it worked u) (activity n.number 2 u 0)) a.wake waking
      (all-pass a.wake (may_wake n) stands.agenda.wake))
      (map-all Has (λ u. may_start (body_at n u) ≡ true) (λ u. activity n.number 3 u 0) a.start starting
      (all-pass a.start (λ u. may_start (body_at n u)) stands.agenda.start)))
      (flat-all Has (λ u. may_run (body_at n u) ≡ true) (λ u. run_keys_of u (body_at n u)) a.run (λ u may. running u)
      (all-pass a.run (λ u. may_run (body_at n u)) stands.agenda.run)))
      (stored pending is.0))

  pub keys-have-turns : AllByRecursion Has (node_keys s)
  keys-have-turns = go h.node.worker.requests.items refl
    where
      go : (qs : List Request) → h.node.worker.requests.items ≡ qs → AllByRecursion Has (node_keys s)
      go [] is = by-lists false (
        (λ bad. absurd (cc bad)),
        (λ some. absurd (let none : length h.node.worker.requests.items ≡ 0 = ap length is in omega (arith, none, some))),
      )
      go (q ∷ qs) is =
          let some : length h.node.worker.requests.items ≡ suc (length qs) = ap length is in
          by-lists true ((λ bad. omega (arith, some)), (λ some. refl))
