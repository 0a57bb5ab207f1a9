-- Each step of a history in which no fault and no stop of a node's disk is shown is complete there.
use Rattle.std.proofs.Common.{◌≡◌, ◌==◌, ◌+◌, ℕ, Bool, true, false, cond, List, [], Option, None, Some, is_some, refl, sym, ◌∙◌, ap, subst}
use Rattle.std.specs.Prelude.{IsSomeAnd}
use Rattle.std.proofs.lemmas.Bool.{eq-eqb}
use Rattle.capability.specs.declared.Uid.{Uid}
use Rattle.capability.specs.declared.Cap.{Cap}
use Rattle.eden_value.specs.Datum.{Datum}
use Rattle.eden_value.specs.declared.status.Status.TheVariants as status
use Rattle.eden_model.specs.Map.{with_item, value_at, uid_cmp}
use Rattle.epl_syntax.specs.Edentype.{Edentype}
use Rattle.epl_syntax.specs.Meaning.{values_from}
use Rattle.epl_syntax.specs.declared.effect.Answer.TheVariants.{Code}
use Rattle.passive_store.specs.declared.store.Pick.{Pick}
use Rattle.journal.specs.declared.command.Command.{Command}
use Rattle.journal.specs.declared.command.Command.TheVariants as command
use Rattle.journal.specs.declared.event.Event.{Event}
use Rattle.journal.specs.declared.event.Event.TheVariants as event
use Rattle.journal.specs.declared.event.Entry.{Entry}
use Rattle.journal.specs.declared.event.BootEnd.{BootEnd}
use Rattle.journal.specs.declared.event.BootEnd.TheVariants as boot_end
use Rattle.journal.specs.declared.event.StartEnd.{StartEnd}
use Rattle.journal.specs.declared.event.StartEnd.TheVariants as start_end
use Rattle.journal.specs.declared.event.RequestEnd.{RequestEnd}
use Rattle.journal.specs.declared.event.RequestEnd.TheVariants as request_end
use Rattle.journal.specs.EjectChange.{body}
use Rattle.journal.specs.World.{World, Node, Eject, Site, StoreRequest, node_at, site_at, site_of, eject_in}
use Rattle.journal.specs.Ejects.{fresh, told, stored_epoch}
use Rattle.journal.specs.Settling.{first_request, settled, to_settle}
use Rattle.journal.specs.Stores.{AllowsStore, store_turn}
use Rattle.journal.specs.Starts.{AllowsActivate, start_of, start_settled, activation_turn}
use Rattle.journal.specs.Boots.{AllowsBoot, boot_turn}
use Rattle.journal.specs.Step.{AllowsEvent, Allows, next, counted, clocked, happened, key_of}
use Rattle.journal.specs.Run.{Step, EachStep, Leads, AllowsLookUp, beginning, looked_up, steps}
use Rattle.journal.specs.Faults.{shows_fault, shows_stop}
use Rattle.journal.specs.Granted.{kept_settled, kept_after_pick}
use Rattle.journal.specs.Monitors.{active_at}
use Rattle.journal.specs.Sites.{active_in}
use Rattle.history_laws.proofs.Runs.{Any, of-any, each-step, no-turn}
use Rattle.undisturbed_runs.specs.Turns.{EndsByRoom, IsTold, Tells, FindsWhatIsKept, IsStarted, start_end_of, BootsByItsDisk}
use Rattle.undisturbed_runs.specs.Turns.{IsUpIn}
use Rattle.undisturbed_runs.specs.Puts.{AtTheStore}
use Rattle.undisturbed_runs.specs.Runs.{IsComplete}
use Rattle.undisturbed_runs.proofs.Disks.{NoneShown, each-quiet}
use Rattle.undisturbed_runs.proofs.Laters.{at-later, HasActive, has-active}
use Rattle.undisturbed_runs.proofs.Requests.{is_fault as request_fault, is_stop as request_stop, ends-by-room, is-told, turn-tells}
use Rattle.undisturbed_runs.proofs.Activations.{is_fault as start_fault, is_stop as start_stop, ends-by-kept, start-ejects, start-types}
use Rattle.undisturbed_runs.proofs.Activations.{awake-from-kept}
use Rattle.undisturbed_runs.proofs.Booting.{is_fault as boot_fault, is_stop as boot_stop, boots-by-disk, boots-ready, boots-picked}
use Rattle.undisturbed_runs.proofs.Booting.{boots-up, IsUpWith}

-- 1. The site of an event

-- what holds of the site of a node, by the node
pub at-site : (w : World) (n : ℕ) (P Q : Site → Type 0) → ((it : Node) → node_at w n ≡ Some it → P (site_of w n it) → Q (site_of w n it))
    → IsSomeAnd (site_at w n) P → IsSomeAnd (site_at w n) Q
at-site w n P Q f h = go (node_at w n) refl h
  where
    go : (o : Option Node) → node_at w n ≡ o → IsSomeAnd (with_item o (λ it. Some (site_of w n it)) None) P
        → IsSomeAnd (with_item o (λ it. Some (site_of w n it)) None) Q
    go None is h = absurd h
    go (Some it) is h = f it is h

-- what holds of something that is there
pub some-item : {X : Type 0} (o : Option X) (P Q : X → Type 0) → ((x : X) → o ≡ Some x → P x → Q x) → IsSomeAnd o P → IsSomeAnd o Q
some-item None P Q f h = absurd h
some-item (Some x) P Q f h = f x refl h

-- the active part of an Eject in a world is the one at its node
pub active-here : (w : World) (u : Uid) (node : Node) → node_at w u.node ≡ Some node
    → active_at w u ≡ active_in (eject_in (site_of w u.node node) u)
active-here w u node at = ap (λ o. active_in (with_item o (λ (it : Node). value_at uid_cmp u it.ejects) None)) at

-- a fault that an entry does not show of this node, where it would
pub not-shown : (b : Bool) (m n : ℕ) → m ≡ n → (b ≡ true → (m == n) ≡ false) → b ≡ false
not-shown false m n same h = refl
not-shown true m n same h = absurd (let bad : true ≡ false = sym (eq-eqb m n same) ∙ h refl in cc bad)

-- 2. The store

pub store-fault : (n : ℕ) (u : Uid) (clock : ℕ) (how : RequestEnd) (p : Option Pick) → shows_fault n (event.Store u clock how p) ≡ false
    → request_fault how ≡ true → (u.node == n) ≡ false
store-fault n u clock request_end.Fault p h is = h
store-fault n u clock _ p h is = absurd (cc is)

pub store-stop : (n : ℕ) (u : Uid) (clock : ℕ) (how : RequestEnd) (p : Option Pick) → shows_stop n (event.Store u clock how p) ≡ false
    → request_stop how ≡ true → (u.node == n) ≡ false
store-stop n u clock request_end.Stop p h is = h
store-stop n u clock _ p h is = absurd (cc is)

-- the site and the request at which it is allowed
store-allowed : (w : World) (c : Option Command) (u : Uid) (clock : ℕ) (how : RequestEnd) (p : Option Pick)
    → AllowsEvent w c (event.Store u clock how p) → AtTheStore w u.node (λ s r. AllowsStore s u how p r)
store-allowed w None u clock how p allowed = allowed
store-allowed w (Some c) u clock how p allowed = absurd (no-turn w c (event.Store u clock how p) refl allowed)

store-ends : (n : ℕ) (w : World) (c : Option Command) (u : Uid) (clock : ℕ) (how : RequestEnd) (p : Option Pick)
    → AllowsEvent w c (event.Store u clock how p) → shows_fault n (event.Store u clock how p) ≡ false
    → shows_stop n (event.Store u clock how p) ≡ false → u.node ≡ n → AtTheStore w n (λ s r. (u ≡ r.uid) × EndsByRoom s r how)
store-ends n w c u clock how p allowed no_fault no_stop here =
    subst (λ m. AtTheStore w m (λ s r. (u ≡ r.uid) × EndsByRoom s r how)) here
    (at-site w u.node (λ s. IsSomeAnd (first_request s.node) (λ r. AllowsStore s u how p r))
    (λ s. IsSomeAnd (first_request s.node) (λ r. (u ≡ r.uid) × EndsByRoom s r how))
    (λ it at h. some-item (first_request it) (λ r. AllowsStore (site_of w u.node it) u how p r)
    (λ r. (u ≡ r.uid) × EndsByRoom (site_of w u.node it) r how)
    (λ r begins a. (
      a.of_uid,
      ends-by-room (site_of w u.node it) r how p
          (not-shown (request_fault how) u.node n here (store-fault n u clock how p no_fault))
          (not-shown (request_stop how) u.node n here (store-stop n u clock how p no_stop)) a.ends,
    )) h)
    (store-allowed w c u clock how p allowed))

-- the world behind an entry with this event, on this disk and with this clock
abbrev pub next_by : World → Option Command → Event → ℕ → ℕ → World
next_by w c e touched clock = counted (key_of e) (clocked touched clock (happened w c e))

store-tells-at : (w : World) (u : Uid) (clock touched c : ℕ) (p : Option Pick) (node : Node) (r : StoreRequest)
    → node_at w u.node ≡ Some node
    → first_request node ≡ Some r → AllowsStore (site_of w u.node node) u request_end.Done p r
    → (q : ℕ) (bytes : List ℕ) → r.process ≡ Some q → r.change ≡ body bytes
    → Tells u q status.Ok w (next_by w None (event.Store u clock request_end.Done p) touched c)
store-tells-at w u clock touched c p node r at begins a q bytes asked put it was = eject (eject_in s u) refl
    (sym (active-here w u node at) ∙ was)
  where
    s : Site
    s = site_of w u.node node

    later : World
    later = next_by w None (event.Store u clock request_end.Done p) touched c

    tells : (e : Eject) → eject_in s u ≡ Some e → e.active ≡ Some it
        → active_in (eject_in (store_turn request_end.Done p s) u) ≡ Some (told q (Code status.Ok) it)
    tells e there is = subst (λ v. active_in (eject_in (store_turn request_end.Done p s) v) ≡ Some (told q (Code status.Ok) it))
        (sym a.of_uid)
        (turn-tells p r s q bytes e it begins a.ends asked put (ap (eject_in s) (sym a.of_uid) ∙ there) is)

    now : (e : Eject) → eject_in s u ≡ Some e → e.active ≡ Some it → active_at later u ≡ Some (told q (Code status.Ok) it)
    now e there is = has-active u (Some (told q (Code status.Ok) it)) later
        (at-later (HasActive u (Some (told q (Code status.Ok) it))) (λ k x h. h) (key_of (event.Store u clock request_end.Done p)) touched c
        u.node (store_turn request_end.Done p) w node at (tells e there is))

    eject : (o : Option Eject) → eject_in s u ≡ o → active_in o ≡ Some it → IsSomeAnd (active_at later u) (IsTold q status.Ok it)
    eject None there is = absurd (cc is)
    eject (Some e) there is = subst (λ o. IsSomeAnd o (IsTold q status.Ok it)) (sym (now e there is)) (is-told q status.Ok it)

store-tells : (n : ℕ) (w : World) (c : Option Command) (u : Uid) (clock touched clock_behind : ℕ) (p : Option Pick)
    → AllowsEvent w c (event.Store u clock request_end.Done p) → u.node ≡ n
    → AtTheStore w n (λ s r. (q : ℕ) (bytes : List ℕ) → r.process ≡ Some q → r.change ≡ body bytes → Tells u q status.Ok w
    (next_by w c (event.Store u clock request_end.Done p) touched clock_behind))
store-tells n w (Some c) u clock touched clock_behind p allowed here =
    absurd (no-turn w c (event.Store u clock request_end.Done p) refl allowed)
store-tells n w None u clock touched clock_behind p allowed here =
    subst (λ m. AtTheStore w m
    (λ s r. (q : ℕ) (bytes : List ℕ) → r.process ≡ Some q → r.change ≡ body bytes → Tells u q status.Ok w later)) here
    (at-site w u.node (λ s. IsSomeAnd (first_request s.node) (λ r. AllowsStore s u request_end.Done p r))
    (λ s. IsSomeAnd (first_request s.node) (λ r. (q : ℕ) (bytes : List ℕ) → r.process ≡ Some q → r.change ≡ body bytes
    → Tells u q status.Ok w later))
    (λ it at h. some-item (first_request it) (λ r. AllowsStore (site_of w u.node it) u request_end.Done p r)
    (λ r. (q : ℕ) (bytes : List ℕ) → r.process ≡ Some q → r.change ≡ body bytes → Tells u q status.Ok w later)
    (λ r begins a. store-tells-at w u clock touched clock_behind p it r at begins a) h) allowed)
  where
    later : World
    later = next_by w None (event.Store u clock request_end.Done p) touched clock_behind

-- 3. An activation

start-fault : (n : ℕ) (u : Uid) (how : StartEnd) (p : Option Pick) → shows_fault n (event.Activate u how p) ≡ false
    → start_fault how ≡ true → (u.node == n) ≡ false
start-fault n u start_end.Fault p h is = h
start-fault n u _ p h is = absurd (cc is)

start-stop : (n : ℕ) (u : Uid) (how : StartEnd) (p : Option Pick) → shows_stop n (event.Activate u how p) ≡ false
    → start_stop how ≡ true → (u.node == n) ≡ false
start-stop n u start_end.Stop p h is = h
start-stop n u _ p h is = absurd (cc is)

start-allowed : (w : World) (c : Option Command) (u : Uid) (how : StartEnd) (p : Option Pick) → AllowsEvent w c (event.Activate u how p)
    → IsSomeAnd (site_at w u.node) (λ s. IsSomeAnd (eject_in s u) (λ e. AllowsActivate s u how p e))
start-allowed w None u how p allowed = allowed
start-allowed w (Some c) u how p allowed = absurd (no-turn w c (event.Activate u how p) refl allowed)

start-started : (w : World) (u : Uid) (p : Option Pick) (touched clock : ℕ) (it : Node) (bytes : List ℕ) (start : Edentype × List Datum)
    → node_at w u.node ≡ Some it → to_settle (site_of w u.node it) ≡ is_some p → kept_settled u p (site_of w u.node it) ≡ Some bytes
    → start_of w.types bytes u ≡ Some start → IsStarted (next_by w None (event.Activate u start_end.Ok p) touched clock) u start
start-started w u p touched clock it bytes start at settles kept starts =
    has-active u (Some (fresh start.0 (values_from start.0 start.1))) (next_by w None (event.Activate u start_end.Ok p) touched clock)
    (at-later (HasActive u (Some (fresh start.0 (values_from start.0 start.1)))) (λ k x h. h) (key_of (event.Activate u start_end.Ok p))
    touched clock u.node (activation_turn u start_end.Ok p) w it at (awake-from-kept u (start_settled p s) bytes start
    (ap (λ o. with_item o (λ e. e.kept) None) (start-ejects u p s settles) ∙ kept)
    (ap (λ types. start_of types bytes u) (start-types p s) ∙ starts)))
  where
    s : Site
    s = site_of w u.node it

start-finds-at : (w : World) (u : Uid) (how : StartEnd) (p : Option Pick) (touched clock : ℕ) (it : Node) (e : Eject)
    → node_at w u.node ≡ Some it → AllowsActivate (site_of w u.node it) u how p e → start_fault how ≡ false → start_stop how ≡ false
    → FindsWhatIsKept w (next_by w None (event.Activate u how p) touched clock) u how p
start-finds-at w u how p touched clock it e at a no_fault no_stop = record {
  picked = ap (λ o. with_item (with_item o (λ x. Some (site_of w u.node x)) None) to_settle false) at ∙ by.0;
  ended = ends;
  started = λ bytes start kept starts. subst (λ h. IsStarted (next_by w None (event.Activate u h p) touched clock) u start)
      (sym (ends ∙ ap (start_end_of w.types u) kept ∙ ap (λ o. cond (is_some o) start_end.Ok start_end.Damaged) starts))
      (start-started w u p touched clock it bytes start at by.0 (sym kept-is ∙ kept) starts);
}
  where
    by : (to_settle (site_of w u.node it) ≡ is_some p) × (how ≡ start_end_of w.types u (kept_settled u p (site_of w u.node it)))
    by = ends-by-kept (site_of w u.node it) u how p no_fault no_stop a.starts

    kept-is : kept_after_pick w u (event.Activate u how p) ≡ kept_settled u p (site_of w u.node it)
    kept-is = ap (λ o. with_item (with_item o (λ x. Some (site_of w u.node x)) None) (kept_settled u p) None) at

    ends : how ≡ start_end_of w.types u (kept_after_pick w u (event.Activate u how p))
    ends = by.1 ∙ ap (start_end_of w.types u) (sym kept-is)

start-finds : (n : ℕ) (w : World) (c : Option Command) (u : Uid) (how : StartEnd) (p : Option Pick) (touched clock : ℕ)
    → AllowsEvent w c (event.Activate u how p) → shows_fault n (event.Activate u how p) ≡ false
    → shows_stop n (event.Activate u how p) ≡ false → u.node ≡ n
    → FindsWhatIsKept w (next_by w c (event.Activate u how p) touched clock) u how p
start-finds n w (Some c) u how p touched clock allowed no_fault no_stop here = absurd (no-turn w c (event.Activate u how p) refl allowed)
start-finds n w None u how p touched clock allowed no_fault no_stop here = node (node_at w u.node) refl allowed
  where
    eject : (it : Node) → node_at w u.node ≡ Some it → (o : Option Eject)
        → IsSomeAnd o (λ e. AllowsActivate (site_of w u.node it) u how p e)
        → FindsWhatIsKept w (next_by w None (event.Activate u how p) touched clock) u how p
    eject it at None h = absurd h
    eject it at (Some e) h = start-finds-at w u how p touched clock it e at h
        (not-shown (start_fault how) u.node n here (start-fault n u how p no_fault))
        (not-shown (start_stop how) u.node n here (start-stop n u how p no_stop))

    node : (o : Option Node) → node_at w u.node ≡ o
        → IsSomeAnd (with_item o (λ it. Some (site_of w u.node it)) None) (λ s. IsSomeAnd (eject_in s u) (λ e. AllowsActivate s u how p e))
        → FindsWhatIsKept w (next_by w None (event.Activate u how p) touched clock) u how p
    node None at h = absurd h
    node (Some it) at h = eject it at (eject_in (site_of w u.node it) u) h

-- 4. A boot

boot-fault : (n e : ℕ) (how : BootEnd) (p : Option Pick) (began : Bool) → shows_fault n (event.Boot n e how p began) ≡ false
    → boot_fault how ≡ true → (n == n) ≡ false
boot-fault n e boot_end.DiskFault p began h is = h
boot-fault n e _ p began h is = absurd (cc is)

boot-stop : (n e : ℕ) (how : BootEnd) (p : Option Pick) (began : Bool) → shows_stop n (event.Boot n e how p began) ≡ false
    → boot_stop how ≡ true → (n == n) ≡ false
boot-stop n e boot_end.Stop p began h is = h
boot-stop n e _ p began h is = absurd (cc is)

boot-allowed : (w : World) (c : Option Command) (n e : ℕ) (how : BootEnd) (p : Option Pick) (began : Bool)
    → AllowsEvent w c (event.Boot n e how p began) → IsSomeAnd (site_at w n) (λ s. AllowsBoot s e how p began)
boot-allowed w None n e how p began allowed = absurd allowed
boot-allowed w (Some (command.Restart m)) n e how p began allowed =
    subst (λ k. IsSomeAnd (site_at w k) (λ s. AllowsBoot s e how p began)) (sym allowed.0) allowed.1
boot-allowed w (Some _) n e how p began allowed = absurd allowed

boot-up : (w : World) (c : Command) (n e : ℕ) (p : Option Pick) (began : Bool) (touched clock : ℕ) (it : Node) → node_at w n ≡ Some it
    → AllowsBoot (site_of w n it) e boot_end.Up p began
    → IsUpIn (next_by w (Some c) (event.Boot n e boot_end.Up p began) touched clock) n (stored_epoch (settled p (site_of w n it)).node + 1)
boot-up w c n e p began touched clock it at a = at-later (IsUpWith (stored_epoch (settled p (site_of w n it)).node + 1)) (λ k x h. h)
    (key_of (event.Boot n e boot_end.Up p began)) touched clock n (boot_turn e boot_end.Up p began) w it at
    (subst (λ k. IsUpWith k (boot_turn e boot_end.Up p began (site_of w n it)).node) a.boots.next_one (boots-up (site_of w n it) e p began))

boot-ends : (n : ℕ) (w : World) (c : Option Command) (e : ℕ) (how : BootEnd) (p : Option Pick) (began : Bool) (touched clock : ℕ)
    → AllowsEvent w c (event.Boot n e how p began) → shows_fault n (event.Boot n e how p began) ≡ false
    → shows_stop n (event.Boot n e how p began) ≡ false
    → IsSomeAnd (site_at w n) (λ s. BootsByItsDisk s (next_by w c (event.Boot n e how p began) touched clock) how p)
boot-ends n w None e how p began touched clock allowed no_fault no_stop = absurd allowed
boot-ends n w (Some c) e how p began touched clock allowed no_fault no_stop = at-site w n (λ s. AllowsBoot s e how p began)
    (λ s. BootsByItsDisk s (next_by w (Some c) (event.Boot n e how p began) touched clock) how p) (λ it at a. record {
      picked = boots-picked (site_of w n it) e how p began unfailed unstopped a.boots;
      comes_up = λ ready. boots-by-disk (site_of w n it) e how p began unfailed unstopped a.boots ∙ boots-ready (site_of w n it) p ready;
      ended = boots-by-disk (site_of w n it) e how p began unfailed unstopped a.boots;
      up = λ is. subst (λ h. IsUpIn (next_by w (Some c) (event.Boot n e h p began) touched clock) n
          (stored_epoch (settled p (site_of w n it)).node + 1)) (sym is)
          (boot-up w c n e p began touched clock it at (subst (λ h. AllowsBoot (site_of w n it) e h p began) is a));
    }) (boot-allowed w (Some c) n e how p began allowed)
  where
    unfailed : boot_fault how ≡ false
    unfailed = not-shown (boot_fault how) n n refl (boot-fault n e how p began no_fault)

    unstopped : boot_stop how ≡ false
    unstopped = not-shown (boot_stop how) n n refl (boot-stop n e how p began no_stop)

-- 5. A step

stepped : (n : ℕ) (w : World) (c : Option Command) (e : Entry) → Allows w c e → shows_fault n e.event ≡ false → shows_stop n e.event ≡ false
    → IsComplete n (record { world = w; entry = e; later = next w c e })
stepped n w c e allowed no_fault no_stop = record {
  store = λ u clock how p is here. store-ends n w c u clock how p (allows _ is) (unfailed _ is) (unstopped _ is) here;
  told = λ u clock p is here. subst (λ ev. AtTheStore w n (λ s r. (q : ℕ) (bytes : List ℕ) → r.process ≡ Some q → r.change ≡ body bytes
      → Tells u q status.Ok w (next_by w c ev e.node e.clock))) (sym is)
      (store-tells n w c u clock e.node e.clock p (allows _ is) here);
  activation = λ u how p is here. subst (λ ev. FindsWhatIsKept w (next_by w c ev e.node e.clock) u how p) (sym is)
      (start-finds n w c u how p e.node e.clock (allows _ is) (unfailed _ is) (unstopped _ is) here);
  boot = λ ep how p began is. subst (λ ev. IsSomeAnd (site_at w n) (λ s. BootsByItsDisk s (next_by w c ev e.node e.clock) how p))
      (sym is)
      (boot-ends n w c ep how p began e.node e.clock (allows _ is) (unfailed _ is) (unstopped _ is));
}
  where
    allows : (ev : Event) → e.event ≡ ev → AllowsEvent w c ev
    allows ev is = subst (AllowsEvent w c) is allowed.event

    unfailed : (ev : Event) → e.event ≡ ev → shows_fault n ev ≡ false
    unfailed ev is = subst (λ x. shows_fault n x ≡ false) is no_fault

    unstopped : (ev : Event) → e.event ≡ ev → shows_stop n ev ≡ false
    unstopped ev is = subst (λ x. shows_stop n x ≡ false) is no_stop

-- a turn of the store or of a process, an activation or a boot
abbrev pub is_at_node : Event → Bool
is_at_node (event.Store u clock how p) = true
is_at_node (event.Activate u how p) = true
is_at_node (event.Process u p said) = true
is_at_node (event.Boot m e how p began) = true
is_at_node _ = false

pub not-looked : (w : World) (name : List ℕ) (target : Option Cap) (path : List (List ℕ)) (ev : Event) → AllowsLookUp w name target path ev
    → is_at_node ev ≡ true → ⊥
not-looked w name (Some target) path (event.Asked k said at_once) allowed is = cc is
not-looked w name None path (event.Void said) allowed is = cc is
not-looked w name target path _ allowed is = absurd allowed

looked : (n : ℕ) (w later : World) (e : Entry) (name : List ℕ) (target : Option Cap) (path : List (List ℕ))
    → AllowsLookUp w name target path e.event → IsComplete n (record { world = w; entry = e; later = later })
looked n w later e name target path allowed = record {
  store = λ u clock how p is here. absurd (none _ is refl);
  told = λ u clock p is here. absurd (none _ is refl);
  activation = λ u how p is here. absurd (none _ is refl);
  boot = λ ep how p began is. absurd (none _ is refl);
}
  where
    none : (ev : Event) → e.event ≡ ev → is_at_node ev ≡ true → ⊥
    none ev is at_node = not-looked w name target path ev (subst (AllowsLookUp w name target path) is allowed) at_node

-- each step that shows no fault and no stop of the node is complete there
abbrev QuietlyComplete : ℕ → List Step → Step → Type 0
QuietlyComplete n past s = shows_fault n s.entry.event ≡ false → shows_stop n s.entry.event ≡ false → IsComplete n s

pub each-complete : (n : ℕ) (w : World) (nodes : ℕ) (cs : List Command) (history : List Entry) → Leads (beginning w nodes cs) history
    → NoneShown n history → EachStep (λ past s. IsComplete n s) [] (steps (beginning w nodes cs) history)
each-complete n w nodes cs history leads none = each-quiet n (λ past s. IsComplete n s) (beginning w nodes cs) [] history none
    (each-step Any (λ past x. Unit {0}) (QuietlyComplete n) (record {
      entries = λ past x c e any allowed i. (stepped n x c e allowed, tt);
      look_ups = λ past x name target path e any allowed plain i. (
        λ no_fault no_stop. looked n x (looked_up x name target path e.event) e name target path allowed,
        tt,
      );
    }) (beginning w nodes cs) [] history (of-any 1 nodes w cs) tt leads)
