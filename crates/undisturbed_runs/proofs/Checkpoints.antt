-- Each checkpoint within size is awaited behind its step, and its put ends as the disk has it.
use Rattle.std.proofs.Common.{◌≡◌, ◌≤◌, ℕ, nat_le, Bool, true, false, cond, List, [], ◌∷◌, ◌++◌, length, Option, None, Some, Result, Ok}
use Rattle.std.proofs.Common.{Err}
use Rattle.std.proofs.Common.{is_some, refl, sym, ◌∙◌, ap, subst, inl, inr, arith}
use Rattle.std.specs.Prelude.{◌⊎◌, IsSomeAnd}
use Rattle.std.proofs.lemmas.Bool.Decides.{nat_tests}
use Rattle.std.specs.Ordering.{nat_cmp}
use Rattle.capability.specs.declared.Uid.{Uid}
use Rattle.capability.specs.declared.Cap.{Cap}
use Rattle.capability.specs.declared.TheConstants.{BODY_LIMIT}
use Rattle.eden_value.specs.declared.status.Status.{Status}
use Rattle.eden_value.specs.declared.status.Status.TheVariants as status
use Rattle.eden_codec.specs.Spelling.{spelling}
use Rattle.eden_model.specs.Map.{with_item, value_at}
use Rattle.eden_model.specs.Crew.{Invocation, Process as Worker}
use Rattle.epl_syntax.specs.Meaning.{Turned, rep_of}
use Rattle.epl_syntax.specs.Rules.OfTypes.{KeepRules, HaveMonitors}
use Rattle.epl_syntax.specs.declared.effect.Answer.TheVariants.{Code}
use Rattle.epl_syntax.specs.declared.effect.Effect.{Effect}
use Rattle.epl_syntax.specs.declared.effect.Effect.TheVariants as effect
use Rattle.passive_store.specs.Kept.{Layout}
use Rattle.passive_store.specs.Layout.{IsLayout}
use Rattle.journal.specs.EjectChange.{body}
use Rattle.journal.specs.declared.command.Command.{Command}
use Rattle.journal.specs.declared.command.Script.{Script}
use Rattle.journal.specs.declared.event.Event.TheVariants as event
use Rattle.journal.specs.declared.event.Entry.{Entry}
use Rattle.journal.specs.declared.event.Shown.TheVariants as shown
use Rattle.journal.specs.World.{World, Node, Eject, Active, Site, StoreRequest, node_at, site_of, eject_in, on_eject, on_node, reaches}
use Rattle.journal.specs.Ejects.{on_active, tells, next_uid}
use Rattle.journal.specs.Processes.{turn_of, turned, serving, worker_at, asks_store, checkpoints, effected, turn_taken, process_turn}
use Rattle.journal.specs.Processes.{shown_of, shown_creation, AllowsTurn}
use Rattle.journal.specs.Step.{AllowsEvent, IsActiveAnd, Allows, next, key_of}
use Rattle.journal.specs.Run.{Position, Step, EachStep, AllowsLookUp, lead, steps, beginning, looked_up}
use Rattle.journal.specs.Faults.{shows_fault, shows_stop}
use Rattle.journal.specs.Standing.{DiskRun}
use Rattle.journal.specs.LegalRun.{AreHandedIn, opening_world, run_over}
use Rattle.journal.specs.Laws.{Begins}
use Rattle.journal.specs.Monitors.{active_at}
use Rattle.journal.specs.Sites.{active_in}
use Rattle.history_laws.proofs.Runs.{Any, of-any, each-step, no-turn, nodes-looked_up, world-booting}
use Rattle.history_laws.proofs.SiteRuns.{SiteWorld, site-next, site-looked_up, site-opening}
use Rattle.undisturbed_runs.specs.Puts.{IsPutOf, Includes, Awaits, spelled_by, EndsPut, EndsBehind, CheckpointEnds, EachWithRest}
use Rattle.undisturbed_runs.proofs.Disks.{NoneShown, each-quiet}
use Rattle.undisturbed_runs.proofs.Laters.{at-later}
use Rattle.undisturbed_runs.proofs.Steps.{active-here, next_by, not-looked}
use Rattle.undisturbed_runs.proofs.Awaiting.{EndsNow, awaits-next}
use Rattle.undisturbed_runs.proofs.PutEnds.{now-ends}

-- 1. A process asks for one

-- no other effect is shown so
checkpoint-shown : (s : Site) (i : Option Invocation) (e : Effect) → shown.Checkpoint ≡ shown_of s i e → e ≡ effect.Checkpoint
checkpoint-shown s i effect.Checkpoint is = refl
checkpoint-shown s None (effect.Return results) is = absurd (cc is)
checkpoint-shown s (Some x) (effect.Return results) is = absurd (cc is)
checkpoint-shown s i effect.End is = absurd (cc is)
checkpoint-shown s i effect.Destroy is = absurd (cc is)
checkpoint-shown s i effect.Deactivate is = absurd (cc is)
checkpoint-shown s i (effect.Fault cause) is = absurd (cc is)
checkpoint-shown s i (effect.Create type_name) is = absurd (go (next_uid s) is)
  where
    go : (made : Result Uid Status) → shown.Checkpoint ≡ shown_creation made → ⊥
    go (Ok v) is = cc is
    go (Err why) is = cc is
checkpoint-shown s i (effect.Invoke target operation args) is = absurd (cc is)
checkpoint-shown s i (effect.Lock m) is = absurd (cc is)
checkpoint-shown s i (effect.Leave m) is = absurd (cc is)
checkpoint-shown s i (effect.Wait c) is = absurd (cc is)
checkpoint-shown s i (effect.Signal c) is = absurd (cc is)
checkpoint-shown s i effect.Yield is = absurd (cc is)

includes-last : (u : Uid) (p : ℕ) (bytes : List ℕ) (rs : List StoreRequest) (r : StoreRequest) → IsPutOf u p bytes r
    → Includes u p bytes (rs ++ r ∷ [])
includes-last u p bytes [] r put = inl put
includes-last u p bytes (x ∷ rs) r put = inr (includes-last u p bytes rs r put)

module _ (u : Uid) (p : ℕ) (bytes : List ℕ) where
  abbrev Waits : Site → Type 0
  Waits s = Includes u p bytes s.node.requests

  asked : (s : Site) → Waits (asks_store u p (body bytes) s)
  unfolding on_node on_eject
  asked s = includes-last u p bytes s.node.requests (record { uid = u; process = Some p; change = body bytes; made = 0 })
      (record { of_uid = refl; process = refl; change = refl })

  checked : (s : Site) → length bytes ≤ BODY_LIMIT → Waits (checkpoints u p bytes s)
  checked s size = subst (λ b. Waits (cond b (asks_store u p (body bytes) s) (tells u p (Code status.TooLarge) s)))
      (sym (let fits : nat_le (length bytes) BODY_LIMIT ≡ true = grind (arith, nat_tests, size) in fits)) (asked s)

  -- the turn of the process
  turn-asks : (reach : ℕ → Bool) (s : Site) (e : Eject) (it : Active) (t : Turned) → eject_in s u ≡ Some e → e.active ≡ Some it
      → turn_of u it p ≡ Some t → t.effect ≡ effect.Checkpoint → spelling (rep_of it.kind t.vars) ≡ bytes → length bytes ≤ BODY_LIMIT
      → Waits (process_turn reach u p s)
  turn-asks reach s e it t at is turns asks spells size =
      subst (λ o. Waits (with_item o (λ x. with_item x.active (λ y. with_item (turn_of u y p) (λ z. turn_taken reach u p y z s) s) s) s))
      (sym at)
      (subst (λ o. Waits (with_item o (λ y. with_item (turn_of u y p) (λ z. turn_taken reach u p y z s) s) s)) (sym is)
      (subst (λ o. Waits (with_item o (λ z. turn_taken reach u p it z s) s)) (sym turns)
      (subst (λ x. Waits (effected reach u p (serving it p) it.kind t.vars x (on_eject u (on_active (turned p t)) s))) (sym asks)
      (subst (λ b. Waits (checkpoints u p b (on_eject u (on_active (turned p t)) s))) (sym spells)
      (checked (on_eject u (on_active (turned p t)) s) size)))))

  -- the bytes are those that the turn spells
  spelled : (w : World) (node : Node) → node_at w u.node ≡ Some node → (e : Eject) (it : Active) (t : Turned)
      → eject_in (site_of w u.node node) u ≡ Some e → e.active ≡ Some it → turn_of u it p ≡ Some t → spelled_by w u p ≡ Some bytes
      → spelling (rep_of it.kind t.vars) ≡ bytes
  spelled w node at e it t there is turns spells =
      let same : Some (spelling (rep_of it.kind t.vars)) ≡ Some bytes =
      sym (ap (λ o. with_item o (λ (y : Active). with_item (turn_of u y p) (λ z. Some (spelling (rep_of y.kind z.vars))) None) None)
      (active-here w u node at ∙ ap active_in there ∙ is)
      ∙ ap (λ o. with_item o (λ z. Some (spelling (rep_of it.kind z.vars))) None) turns) ∙ spells in cc same

  site-asks : (w : World) (node : Node) → node_at w u.node ≡ Some node
      → IsActiveAnd (site_of w u.node node) u
      (λ e it. IsSomeAnd (worker_at it p) (λ k. AllowsTurn (site_of w u.node node) u p shown.Checkpoint it k))
      → spelled_by w u p ≡ Some bytes → length bytes ≤ BODY_LIMIT → Waits (process_turn (reaches w u.node) u p (site_of w u.node node))
  site-asks w node at allowed spells size = eject (eject_in s u) refl allowed
    where
      s : Site
      s = site_of w u.node node

      turns : (e : Eject) (it : Active) → eject_in s u ≡ Some e → e.active ≡ Some it → (i : Option Invocation) (o : Option Turned)
          → turn_of u it p ≡ o → IsSomeAnd o (λ t. shown.Checkpoint ≡ shown_of s i t.effect) → Waits (process_turn (reaches w u.node) u p s)
      turns e it there is i None turned h = absurd h
      turns e it there is i (Some t) turned h = turn-asks (reaches w u.node) s e it t there is turned (checkpoint-shown s i t.effect h)
          (spelled w node at e it t there is turned spells) size

      worker : (e : Eject) (it : Active) → eject_in s u ≡ Some e → e.active ≡ Some it → (o : Option Worker)
          → IsSomeAnd o (λ k. AllowsTurn s u p shown.Checkpoint it k) → Waits (process_turn (reaches w u.node) u p s)
      worker e it there is None h = absurd h
      worker e it there is (Some k) h = turns e it there is k.serves (turn_of u it p) refl h.shows

      active : (e : Eject) → eject_in s u ≡ Some e → (o : Option Active) → e.active ≡ o
          → IsSomeAnd o (λ it. IsSomeAnd (worker_at it p) (λ k. AllowsTurn s u p shown.Checkpoint it k))
          → Waits (process_turn (reaches w u.node) u p s)
      active e there None is h = absurd h
      active e there (Some it) is h = worker e it there is (worker_at it p) h

      eject : (o : Option Eject) → eject_in s u ≡ o
          → IsSomeAnd o (λ e. IsSomeAnd e.active (λ it. IsSomeAnd (worker_at it p) (λ k. AllowsTurn s u p shown.Checkpoint it k)))
          → Waits (process_turn (reaches w u.node) u p s)
      eject None there h = absurd h
      eject (Some e) there h = active e there e.active refl h

  asks-at : (w : World) (c : Option Command) (touched clock : ℕ) → AllowsEvent w c (event.Process u p shown.Checkpoint)
      → spelled_by w u p ≡ Some bytes → length bytes ≤ BODY_LIMIT
      → Awaits u p bytes (next_by w c (event.Process u p shown.Checkpoint) touched clock)
  asks-at w (Some c) touched clock allowed spells size = absurd (no-turn w c (event.Process u p shown.Checkpoint) refl allowed)
  asks-at w None touched clock allowed spells size = go (node_at w u.node) refl allowed
    where
      go : (o : Option Node) → node_at w u.node ≡ o → IsSomeAnd (with_item o (λ it. Some (site_of w u.node it)) None)
          (λ s. IsActiveAnd s u (λ e it. IsSomeAnd (worker_at it p) (λ k. AllowsTurn s u p shown.Checkpoint it k)))
          → Awaits u p bytes (next_by w None (event.Process u p shown.Checkpoint) touched clock)
      go None at h = absurd h
      go (Some it) at h = at-later (λ x. Includes u p bytes x.requests) (λ k x y. y)
          (key_of (event.Process u p shown.Checkpoint)) touched clock
          u.node (process_turn (reaches w u.node) u p) w it at (site-asks w it at h spells size)

-- 2. Steps

-- a step in which one is asked for, and one in front of which one is awaited
abbrev Asks : ℕ → Step → Type 0
Asks n s = (u : Uid) (p : ℕ) (bytes : List ℕ) → s.entry.event ≡ event.Process u p shown.Checkpoint → u.node ≡ n
    → spelled_by s.world u p ≡ Some bytes → length bytes ≤ BODY_LIMIT → Awaits u p bytes s.later

abbrev GoesOn : ℕ → Step → Type 0
GoesOn n s = (u : Uid) (p : ℕ) (bytes : List ℕ) → u.node ≡ n → Awaits u p bytes s.world → Awaits u p bytes s.later ⊎ EndsPut u p bytes s

abbrev Both : ℕ → List Step → Step → Type 0
Both n past s = Asks n s × GoesOn n s

abbrev Quietly : ℕ → List Step → Step → Type 0
Quietly n past s = shows_fault n s.entry.event ≡ false → shows_stop n s.entry.event ≡ false → Both n past s

stepped : (n : ℕ) (H : ℕ → Bool) (past : List Step) (w : World) (c : Option Command) (e : Entry) → SiteWorld H w → Allows w c e
    → Quietly n past (record { world = w; entry = e; later = next w c e })
stepped n H past w c e h allowed no_fault no_stop = (asks, goes)
  where
    asks : Asks n (record { world = w; entry = e; later = next w c e })
    asks u p bytes is here spells size = subst (λ ev. Awaits u p bytes (next_by w c ev e.node e.clock)) (sym is)
        (asks-at u p bytes w c e.node e.clock (subst (AllowsEvent w c) is allowed.event) spells size)

    goes : GoesOn n (record { world = w; entry = e; later = next w c e })
    goes u p bytes here awaits = by (awaits-next u p bytes w H c e h allowed awaits)
      where
        by : (Awaits u p bytes (next w c e) ⊎ (active_at (next w c e) u ≡ None)) ⊎ EndsNow u p bytes w e.event
            → Awaits u p bytes (next w c e) ⊎ EndsPut u p bytes (record { world = w; entry = e; later = next w c e })
        by (inl (inl still)) = inl still
        by (inl (inr passive)) = inr (inl passive)
        by (inr ends) = inr (now-ends n H u p bytes w c e.event e.node e.clock e h allowed.event here no_fault no_stop ends)

looked : (n : ℕ) (past : List Step) (w : World) (e : Entry) (name : List ℕ) (target : Option Cap) (path : List (List ℕ))
    → AllowsLookUp w name target path e.event
    → Both n past (record { world = w; entry = e; later = looked_up w name target path e.event })
looked n past w e name target path allowed = (
  λ u p bytes is here spells size. absurd (not-looked w name target path (event.Process u p shown.Checkpoint)
      (subst (AllowsLookUp w name target path) is allowed) refl),
  λ u p bytes here awaits. inl (subst (λ ns. IsSomeAnd (value_at nat_cmp u.node ns) (λ (it : Node). Includes u p bytes it.requests))
      (sym (nodes-looked_up w name target path e.event)) awaits),
)

-- 3. Runs

ends-behind : (n : ℕ) (at : Position) (past : List Step) (history : List Entry) → EachStep (Both n) past (steps at history)
    → (u : Uid) (p : ℕ) (bytes : List ℕ) → u.node ≡ n → Awaits u p bytes at.world → EndsBehind u p bytes (steps at history)
ends-behind n at past [] each u p bytes here awaits = tt
ends-behind n at past (e ∷ es) each u p bytes here awaits = go (each.0.1 u p bytes here awaits)
    (λ still. ends-behind n (lead at e) (s ∷ past) es each.1 u p bytes here still)
  where
    s : Step
    s = record { world = at.world; entry = e; later = (lead at e).world }

    go : Awaits u p bytes s.later ⊎ EndsPut u p bytes s → (Awaits u p bytes s.later → EndsBehind u p bytes (steps (lead at e) es))
        → EndsBehind u p bytes (s ∷ steps (lead at e) es)
    go (inl still) more = inl (still, more still)
    go (inr ends) more = inr ends

with-rest : (n : ℕ) (at : Position) (past : List Step) (history : List Entry) → EachStep (Both n) past (steps at history)
    → EachWithRest (CheckpointEnds n) (steps at history)
with-rest n at past [] each = tt
with-rest n at past (e ∷ es) each = (
  λ u p bytes is here spells size. let awaits = each.0.0 u p bytes is here spells size in (
    awaits,
    ends-behind n (lead at e) (record { world = at.world; entry = e; later = (lead at e).world } ∷ past) es each.1 u p bytes here awaits,
  ),
  with-rest n (lead at e) (record { world = at.world; entry = e; later = (lead at e).world } ∷ past) es each.1,
)

pub checkpoints-end : (layout : Layout) (script : Script) (disks : List DiskRun) (history : List Entry) → IsLayout layout
    → AreHandedIn layout disks → KeepRules script.types → HaveMonitors script.types → Begins layout script disks history
    → (n : ℕ) → NoneShown n history → EachWithRest (CheckpointEnds n) (run_over layout script disks history)
checkpoints-end layout script disks history lays fits rules monitors begins n none =
    with-rest n (beginning w script.nodes script.commands) [] history
    (each-quiet n (Both n) (beginning w script.nodes script.commands) [] history none
    (each-step Any (λ past x. SiteWorld here x) (Quietly n) (record {
      entries = λ past x c e any allowed i. (stepped n here past x c e i allowed, site-next here x c e allowed i);
      look_ups = λ past x name target path e any allowed plain i. (
        λ no_fault no_stop. looked n past x e name target path allowed,
        site-looked_up here x name target path e.event allowed i,
      );
    }) (beginning w script.nodes script.commands) [] history (of-any 1 script.nodes w script.commands)
    (subst (SiteWorld here) (sym (world-booting 1 script.nodes w script.commands))
    (site-opening layout script disks lays fits rules monitors)) begins))
  where
    w : World
    w = opening_world layout script disks

    here : ℕ → Bool
    here n = is_some (node_at w n)
