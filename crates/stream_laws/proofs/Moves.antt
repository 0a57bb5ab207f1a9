-- What a step makes of a stage: a turn of its own process, or whatever else happens to it.
use Rattle.std.proofs.Common.{◌≡◌, ◌⊎◌, inl, inr, ℕ, ◌==◌, nat_le, Bool, true, false, cond, List, [], ◌∷◌, map, length, Option, None, Some}
use Rattle.std.proofs.Common.{◌≤◌, ◌+◌, is_some, refl, ap, ap₂, sym, ◌∙◌, subst, arith}
use Rattle.std.specs.Prelude.{not, IsSomeAnd, IfSome}
use Rattle.std.specs.Option.{option_map}
use Rattle.std.specs.Ordering.{nat_cmp}
use Rattle.std.specs.Cmp.{nat_cmp_total}
use Rattle.std.specs.FinMap.{nat_cmp-IsAntisymmetric}
use Rattle.std.specs.FinMap.Entries.{find-put}
use Rattle.std.specs.List.{filter}
use Rattle.capability.specs.declared.Uid.{Uid}
use Rattle.std.proofs.lemmas.Cmp.{tied_itself}
use Rattle.capability.proofs.Uids.{uid_cmp_total, uid_cmp-IsAntisymmetric}
use Rattle.capability.specs.declared.Cap.{Cap}
use Rattle.capability.specs.declared.TheConstants.{BODY_LIMIT}
use Rattle.eden_value.specs.Datum.{Datum}
use Rattle.eden_value.specs.declared.status.Status.{Status}
use Rattle.eden_value.specs.declared.status.Status.TheVariants as status
use Rattle.eden_codec.specs.Spelling.{spelling}
use Rattle.eden_model.specs.Map.{with_item, value_at, put_at, changed_at, uid_cmp, same_uid}
use Rattle.eden_model.proofs.Laws.{value-changed, eq-same}
use Rattle.eden_model.proofs.Numbers.{same-self}
use Rattle.eden_model.specs.Crew.{Process as Worker, Waiting, Invocation, nothing as no_wait, outside, with_waits, set_waits, Waits}
use Rattle.eden_model.specs.Crew.{least_free}
use Rattle.eden_model.specs.declared.Asker.TheVariants.{Eject as Process}
use Rattle.eden_model.specs.Traffic.{Call, held, call_at, next_call, with_call}
use Rattle.epl_syntax.specs.declared.effect.Answer.{Answer}
use Rattle.epl_syntax.specs.declared.effect.Answer.TheVariants.{Go, Code, Reply as Told}
use Rattle.epl_syntax.specs.declared.effect.Effect.{Effect}
use Rattle.epl_syntax.specs.declared.effect.Effect.TheVariants as effect
use Rattle.epl_syntax.specs.Edentype.{native as native_type}
use Rattle.epl_syntax.specs.Natives.{Stage, native_turn, first_stage}
use Rattle.epl_syntax.specs.Meaning.{Turned, first_values, rep_of, begin}
use Rattle.epl_syntax.specs.Streams.{came, nothing}
use Rattle.journal.specs.EjectChange.{body}
use Rattle.journal.specs.declared.command.Command.{Command}
use Rattle.journal.specs.declared.event.Event.{Event}
use Rattle.journal.specs.declared.event.Event.TheVariants as event
use Rattle.journal.specs.declared.event.Entry.{Entry}
use Rattle.journal.specs.declared.event.Shown.{Shown}
use Rattle.journal.specs.declared.event.StartEnd.{StartEnd}
use Rattle.passive_store.specs.declared.store.Pick.{Pick}
use Rattle.journal.specs.World.{World, Site, Node, Eject, Active, Task, node_at, eject_at, site_of, site_at, on_eject}
use Rattle.journal.specs.World.{on_node, reaches}
use Rattle.journal.specs.Ejects.{on_active, on_crew, told, tells}
use Rattle.journal.specs.Sites.{Everywhere, active_in, runs_of, IsHeldAt}
use Rattle.journal.specs.Processes.{AllowsStart, AllowsTurn, worker_at, turn_of, turned, serving, answers, without_process, waits_or_told}
use Rattle.journal.specs.Processes.{invocation, effected, asks_store, refused_at_once, with_start}
use Rattle.journal.specs.Step.{AllowsEvent, Allows, IsActiveAnd, next, happened, site_turn, key_of}
use Rattle.history_laws.proofs.CallsKeep.{kept-itself}
use Rattle.history_laws.proofs.CutOff.{traffic-counted}
use Rattle.history_laws.proofs.Fits.{times}
use Rattle.history_laws.proofs.Frame.{traffic-on_eject, traffic-on_traffic}
use Rattle.history_laws.proofs.Lifts.{traffic-after}
use Rattle.history_laws.proofs.Runs.{no-turn}
use Rattle.history_laws.proofs.SeatRuns.{SeatWorld}
use Rattle.history_laws.proofs.SiteEvents.{startable-there}
use Rattle.history_laws.proofs.Tasks.{FitsCall, FitsActive}
use Rattle.stream_laws.proofs.Items.{same-some, some-and}
use Rattle.stream_laws.proofs.Roles.{Role, IsLawful, TurnEnds, TurnKeeps, came-nothing}
use Rattle.stream_laws.proofs.Stage.{IsTask, IsBusy, IsActive, IsEject, Turn, starts-idle, ended-alone}
use Rattle.stream_laws.proofs.StagedNodes.{kept_now, active_now, own-eject, Around, OnNode}
use Rattle.stream_laws.proofs.StagedCalls.{own-turn}
use Rattle.stream_laws.proofs.Staged.{Staged, turn-allowed, here-later, waiting, none-open}
use Rattle.stream_laws.proofs.Sites.{turn-is, AfterTurn, has_ended, saves_it, too_large, has_asked, IsOfStream, own-after, own-started}
use Rattle.stream_laws.proofs.Still.{MayBeTold, GoesOn, Begins, still_role, still-lawful, still-next, active-of, by_number, Had}
use Rattle.stream_laws.proofs.Asking.{AsksNow}
use Rattle.stream_laws.proofs.States.{State, absent, asleep, idle, busy, state_in, state_of, active_state, state-active, idle-state}
use Rattle.stream_laws.proofs.States.{busy-state}

changed-own : {X : Type 0} (p : ℕ) (f : X → X) (es : List (ℕ × X)) (x : X) → value_at nat_cmp p es ≡ Some x
    → value_at nat_cmp p (changed_at nat_cmp p f es) ≡ Some (f x)
changed-own p f es x is = value-changed nat_cmp nat_cmp_total nat_cmp-IsAntisymmetric p p f es ∙ rw (same-self p) (ap (option_map f) is)

-- the event is a turn of u, or it is none
pub turn-or : (u : Uid) (ev : Event) → ((p : ℕ) × (said : Shown) × (ev ≡ event.Process u p said))
    ⊎ ((p : ℕ) (said : Shown) → ev ≡ event.Process u p said → ⊥)
turn-or u (event.Process v p said) = go (same_uid u v) refl
  where
    go : (b : Bool) → same_uid u v ≡ b → ((q : ℕ) × (z : Shown) × (event.Process v p said ≡ event.Process u q z))
        ⊎ ((q : ℕ) (z : Shown) → event.Process v p said ≡ event.Process u q z → ⊥)
    go true same = inl (p, said, ap (λ z. event.Process z p said) (sym (eq-same uid_cmp uid_cmp-IsAntisymmetric u v same)))
    go false apart = inr (λ q z is. other (let same : v ≡ u = cc is in same))
      where
        other : v ≡ u → ⊥
        other same = let bad : true ≡ false = sym (rw (tied_itself uid_cmp_total u) refl) ∙ ap (same_uid u) (sym same) ∙ apart in cc bad
turn-or u _ = inr (λ p said is. cc is)

put-own : {X : Type 0} (p : ℕ) (x : X) (es : List (ℕ × X)) → value_at nat_cmp p (put_at nat_cmp p x es) ≡ Some x
put-own p x es = find-put nat_cmp nat_cmp_total p p x es ∙ rw (same-self p) refl

serves-so : (b : Bool) (wt : Waiting) (q : Worker) → (cond b (record q { waits = wt }) q).serves ≡ q.serves
serves-so true wt q = refl
serves-so false wt q = refl

traffic-at : (f : Node → Node) (s : Site) → (on_node f s).traffic ≡ s.traffic
unfolding on_node
traffic-at f s = refl

module _ (R : Role) (L : IsLawful R) (u : Uid) (A : ℕ → List Datum) (H : ℕ → Bool) (w : World) (c : Option Command) (e : Entry)
    (seat : SeatWorld H w) (allowed : Allows w c e) (x : Around R L u A H w c e.event) (old : Staged R L u A w) where
  abbrev later : World
  later = next w c e

  -- 1. Who the event is of
  record Owns (P : Site → Eject → Active → Type 0) : Type 0 where
    node : Node
    at : node_at w u.node ≡ Some node
    eject : Eject
    is : value_at uid_cmp u node.ejects ≡ Some eject
    active : Active
    some : eject.active ≡ Some active
    may : P (site_of w u.node node) eject active

  owns : (P : Site → Eject → Active → Type 0) → IsSomeAnd (site_at w u.node) (λ s. IsActiveAnd s u (P s)) → Owns P
  owns P h = go (node_at w u.node) refl h
    where
      part : (nd : Node) → node_at w u.node ≡ Some nd → IsActiveAnd (site_of w u.node nd) u (P (site_of w u.node nd)) → Owns P
      part nd at h =
          let y = some-and (value_at uid_cmp u nd.ejects) h in
          let a = some-and y.0.active y.2 in
          record { node = nd; at = at; eject = y.0; is = y.1; active = a.0; some = a.1; may = a.2 }

      go : (o : Option Node) → node_at w u.node ≡ o
          → IsSomeAnd (with_item o (λ it. Some (site_of w u.node it)) None) (λ s. IsActiveAnd s u (P s)) → Owns P
      go None at h = absurd h
      go (Some nd) at h = part nd at h

  -- what is active there
  active-there : (nd : Node) → node_at w u.node ≡ Some nd → (y : Eject) → value_at uid_cmp u nd.ejects ≡ Some y → (a : Active)
      → y.active ≡ Some a → IsActive R u A (kept_now w u) (is_some y.kept) a
  active-there nd at y is a some = subst (λ o. IfSome o (IsActive R u A (kept_now w u) (is_some y.kept))) some
      (subst (λ o. IfSome o (IsEject R u A (kept_now w u) nd.requests)) is (old.node u.node nd at refl).eject).active

  -- 2. It starts to serve a call
  pub record IsStarted (k : ℕ) (d : Call) : Type 0 where
    pub at : call_at w.traffic k ≡ Some d
    pub held_there : d.place ≡ held
    pub to : d.target.uid ≡ u
    pub fits : FitsCall (native_type R.kind) (Some d)
    pub process : ℕ
    pub event_is : e.event ≡ event.Start k u process

  starting : (k p : ℕ) → e.event ≡ event.Start k u p → Owns (λ s y a. AllowsStart s.traffic k p y a)
  starting k p is = owns _ (go c (subst (AllowsEvent w c) is allowed.event))
    where
      go : (o : Option Command) → AllowsEvent w o (event.Start k u p)
          → IsSomeAnd (site_at w u.node) (λ s. IsActiveAnd s u (λ y a. AllowsStart s.traffic k p y a))
      go None a = a
      go (Some y) a = absurd (no-turn w y (event.Start k u p) refl a)

  started : (k p : ℕ) → e.event ≡ event.Start k u p → (d : Call) → call_at w.traffic k ≡ Some d
      → IsStarted k d × ((a : Active) × (active_now w u ≡ Some a) × (a.crew.processes ≡ []))
  started k p is d at_d = (
    record {
      at = at_d;
      held_there = (subst (λ o. IsSomeAnd o (λ c. (c.place ≡ held) × (c.target.uid ≡ u))) at_d held_at).0;
      to = (subst (λ o. IsSomeAnd o (λ c. (c.place ≡ held) × (c.target.uid ≡ u))) at_d held_at).1;
      fits = subst (λ t. FitsCall t (Some d)) stage.kind (subst (FitsCall y.active.kind) at_d (fits.waiting k few));
      process = p;
      event_is = is;
    },
    (
      y.active,
      ap active_in (own-eject w u.node y.node u y.at refl ∙ y.is) ∙ y.some,
      starts-idle R u A (kept_now w u) L (is_some y.eject.kept) y.active y.eject w.traffic k stage y.may.earliest,
    ),
  )
    where
      y : Owns (λ s y a. AllowsStart s.traffic k p y a)
      y = starting k p is

      stage : IsActive R u A (kept_now w u) (is_some y.eject.kept) y.active
      stage = active-there y.node y.at y.eject y.is y.active y.some

      few : 1 ≤ times k y.eject.queued
      few = (startable-there y.active w.traffic y.eject.queued (invocation y.active.kind w.traffic k) y.may.earliest).0

      fits : FitsActive w.types w.traffic y.eject.queued y.active
      fits = subst (λ o. IfSome o (FitsActive w.types w.traffic y.eject.queued)) y.some
          (seat.site.tasks w.traffic (kept-itself w.traffic) u.node y.node y.at u y.eject y.is)

      held_at : IsHeldAt w.traffic u k
      held_at = ((seat.site.sites u.node y.node y.at).fits u refl).held k
          (subst (λ o. 1 ≤ times k (runs_of (active_in o)) + times k (with_item o (λ (e : Eject). e.queued) [])) (sym y.is)
          (omega (arith, few)))

  -- and serves it then
  pub busy-then : (k p : ℕ) → e.event ≡ event.Start k u p → (d : Call) → call_at w.traffic k ≡ Some d
      → (st : Stage) × (vars : List Datum) × (state_of later u ≡ busy k st Go vars)
  busy-then k p is d at_d = (
    first_stage R.kind d.operation d.args,
    y.active.vars,
    ap state_in now ∙ there ∙ busy-state (with_start w.traffic k p d y.active) (least_free y.active.crew)
        (record { serves = Some (invocation y.active.kind w.traffic k); waits = no_wait }) (invocation y.active.kind w.traffic k) task
        (first_stage R.kind d.operation d.args)
        (ap (put_at nat_cmp (least_free y.active.crew)
        (record { serves = Some (invocation y.active.kind w.traffic k); waits = no_wait }))
        (starts-idle R u A (kept_now w u) L (is_some y.eject.kept) y.active y.eject w.traffic k stage y.may.earliest)) refl
        (ap (λ n. value_at nat_cmp n (put_at nat_cmp p task y.active.tasks)) (sym y.may.number) ∙ put-own p task y.active.tasks)
        (ap (λ t. begin t d.operation d.args) stage.kind),
  )
    where
      y : Owns (λ s y a. AllowsStart s.traffic k p y a)
      y = starting k p is

      stage : IsActive R u A (kept_now w u) (is_some y.eject.kept) y.active
      stage = active-there y.node y.at y.eject y.is y.active y.some

      task : Task
      task = record { rest = begin y.active.kind d.operation d.args; answer = Go }

      plain : (o : Option Command) → AllowsEvent w o (event.Start k u p) → o ≡ None
      plain None a = refl
      plain (Some x) a = absurd (no-turn w x (event.Start k u p) refl a)

      changed : Eject → Eject
      changed e = record (on_active (with_start w.traffic k p d) e) { queued = filter (λ j. not (j == k)) e.queued }

      now : eject_at later u ≡ Some (changed y.eject)
      now = own-started w c e u k p y.node d (plain c (subst (AllowsEvent w c) is allowed.event)) is y.at at_d
          ∙ ap (option_map changed) y.is

      there : state_in (Some (changed y.eject)) ≡ active_state (with_start w.traffic k p d y.active)
      there = rw y.some refl

  -- 3. A turn of its own
  -- its process goes on, and is told nothing that came
  abbrev pub Goes : ℕ → List Datum → Stage → Type 0
  Goes k vars st = (a : Answer) × (came a ≡ nothing) × (state_of later u ≡ busy k st a vars)

  -- how such a turn ends, of a process that serves call k
  abbrev pub Ends : ℕ → List Datum → Stage → Effect → Type 0
  Ends k vars st (effect.Return results) =
      (state_of later u ≡ idle vars) × ((i : Invocation) × (i.call ≡ k) × (later.traffic ≡ answers (Some i) results w.traffic))
  Ends k vars st effect.Checkpoint = Goes k vars st × (later.traffic ≡ w.traffic)
  Ends k vars st (effect.Invoke target operation args) = Goes k vars st × ((p : ℕ) × (o : Option Status)
      × (later.traffic ≡ with_call (next_call w.traffic) (Process u p) target operation args o w.traffic))
  Ends k vars st _ = ⊥

  pub record TakesTurn : Type 0 where
    pub call : ℕ
    pub stage : Stage
    pub answer : Answer
    pub vars : List Datum
    pub kept : Bool
    pub was : state_of w u ≡ busy call stage answer vars
    pub held_vars : R.Vars kept vars
    pub task : R.Task vars (A call) stage answer
    pub keeps : TurnKeeps R kept vars (A call) (native_turn R.kind vars stage answer)
    pub ends : Ends call (native_turn R.kind vars stage answer).0 (native_turn R.kind vars stage answer).1
        (native_turn R.kind vars stage answer).2
    -- the turn
    pub process : ℕ
    pub said : Shown
    pub event_is : e.event ≡ event.Process u process said
    pub active : Active
    pub is_active : active_now w u ≡ Some active
    pub turned : Turned
    pub turns : turn_of u active process ≡ Some turned
    pub effect_is : turned.effect ≡ (native_turn R.kind vars stage answer).2
    -- no call of it is open before
    pub none_open : (i q : ℕ) (d : Call) → call_at w.traffic i ≡ Some d → d.open_ ≡ true → d.asker ≡ Process u q → ⊥
    -- it asks nothing but this
    pub only : AsksNow w e.event u → (target : Cap) × (operation : List ℕ) × (args : List Datum)
        × ((native_turn R.kind vars stage answer).2 ≡ effect.Invoke target operation args)

  module _ (p : ℕ) (said : Shown) (is_turn : e.event ≡ event.Process u p said) where
    takes-turn : TakesTurn
    takes-turn = record {
      call = k;
      stage = z.stage;
      answer = z.answer;
      vars = y.active.vars;
      kept = is_some y.eject.kept;
      was = state-active (eject_at w u) y.active active ∙ busy-state y.active p z.busy.worker z.busy.call z.task z.stage alone
          z.busy.serves z.has z.rest_was ∙ ap (λ b. busy k z.stage b y.active.vars) z.told_is;
      held_vars = (active-there y.node y.at y.eject y.is y.active y.some).vars;
      task = z.keeps_task;
      keeps = z.keeps;
      ends = ends m.2 z.effect_is z.keeps.ends;
      only = only;
      process = p;
      said = said;
      event_is = is_turn;
      active = y.active;
      is_active = active;
      turned = t;
      turns = turns;
      effect_is = z.effect_is;
      none_open = λ i q d at opened asker. none-open R L u A H w c e seat allowed x old p q said y.node y.eject y.active is_turn y.at y.is
          y.some (subst (λ o. IsSomeAnd o (λ it. Waits it.crew q outside)) active
          (waiting R L u A H w c e seat allowed x old i d q at opened asker (ap is_some y.at)));
    }
      where
        plain-of : (o : Option Command) → AllowsEvent w o (event.Process u p said) → o ≡ None
        plain-of None a = refl
        plain-of (Some y) a = absurd (no-turn w y (event.Process u p said) refl a)

        plain : c ≡ None
        plain = plain-of c (subst (AllowsEvent w c) is_turn allowed.event)

        y : Owns (λ s y a. IsSomeAnd (worker_at a p) (λ q. AllowsTurn s u p said a q))
        y = owns _ (subst (λ o. AllowsEvent w o (event.Process u p said)) plain (subst (AllowsEvent w c) is_turn allowed.event))

        active : active_now w u ≡ Some y.active
        active = ap active_in (own-eject w u.node y.node u y.at refl ∙ y.is) ∙ y.some

        found : (t : Turned) × (turn_of u y.active p ≡ Some t)
        found = let q = some-and (worker_at y.active p) y.may in let t = some-and (turn_of u y.active p) q.2.known in (t.0, t.1)

        t : Turned
        t = found.0

        turns : turn_of u y.active p ≡ Some t
        turns = found.1

        z : Turn R u A (kept_now w u) L y.eject y.active p t
        z = own-turn R L u A w e.event H seat.site old.node x.turns u p said y.node y.eject y.active t is_turn refl y.at
            (turn-allowed w c y.node u p said (subst (AllowsEvent w c) is_turn allowed.event) y.at) y.is y.some turns

        k : ℕ
        k = z.busy.call.call

        m : List Datum × Stage × Effect
        m = native_turn R.kind y.active.vars z.stage z.answer

        alone : y.active.crew.processes ≡ (p, z.busy.worker) ∷ []
        alone = z.busy.alone ∙ ap (λ q. (q, z.busy.worker) ∷ []) (sym z.number)

        serves : serving y.active p ≡ Some z.busy.call
        serves = ap (λ ps. with_item (value_at nat_cmp p ps) (λ (q : Worker). q.serves) None) alone ∙ rw (same-self p) z.busy.serves

        site : Site
        site = site_of w u.node y.node

        mid : Site
        mid = on_eject u (on_active (turned p t)) site

        -- the messages behind it
        by : (eff : Effect) → t.effect ≡ eff
            → later.traffic ≡ (effected (reaches w u.node) u p (serving y.active p) y.active.kind t.vars eff mid).traffic
        by eff eq = traffic-counted (key_of e.event) e.node e.clock (happened w c e.event)
            ∙ ap₂ (λ o ev. (happened w o ev).traffic) plain is_turn
            ∙ traffic-after w u.node y.node (site_turn (reaches w u.node) (event.Process u p said)) y.at
            ∙ ap (λ (s : Site). s.traffic) (turn-is (reaches w u.node) u p site y.eject y.active t y.is y.some turns)
            ∙ ap (λ eff. (effected (reaches w u.node) u p (serving y.active p) y.active.kind t.vars eff mid).traffic) eq

        mid-same : mid.traffic ≡ w.traffic
        mid-same = traffic-on_eject u (on_active (turned p t)) site

        -- and the stage
        both : (f : Active → Active) → with_item (on_active f (on_active (turned p t) y.eject)).active active_state asleep
            ≡ active_state (f (turned p t y.active))
        both f = rw y.some refl

        next-state : (f : Active → Active) (now : Eject) → eject_at later u ≡ Some now
            → now ≡ on_active f (on_active (turned p t) y.eject) → state_of later u ≡ active_state (f (turned p t y.active))
        next-state f now is_now eq = ap state_in is_now ∙ ap (λ (d : Eject). with_item d.active active_state asleep) eq ∙ both f

        goes : (f : Active → Active) (a : Answer) (wt : Waiting) (now : Eject) → eject_at later u ≡ Some now
            → now ≡ on_active f (on_active (turned p t) y.eject) → (f (turned p t y.active)).vars ≡ t.vars
            → (f (turned p t y.active)).crew.processes ≡ map (with_waits p wt) y.active.crew.processes
            → value_at nat_cmp p (f (turned p t y.active)).tasks ≡ Some (record { rest = t.rest; answer = a }) → came a ≡ nothing
            → Goes k m.0 m.1
        goes f a wt now is_now eq vars processes tasks silent = (
          a,
          silent,
          next-state f now is_now eq ∙ busy-state (f (turned p t y.active)) p
              (cond (p == p) (record z.busy.worker { waits = wt }) z.busy.worker) z.busy.call
              (record { rest = t.rest; answer = a }) m.1 (processes ∙ ap (map (with_waits p wt)) alone)
              (serves-so (p == p) wt z.busy.worker ∙ z.busy.serves) tasks z.rest
              ∙ ap (λ v. busy k m.1 a v) (vars ∙ z.vars),
        )

        first_task : value_at nat_cmp p (turned p t y.active).tasks ≡ Some (record { rest = t.rest; answer = Go })
        first_task = changed-own p (λ (old : Task). record { rest = t.rest; answer = Go }) y.active.tasks z.task z.has

        waits-so : (now : Eject) → eject_at later u ≡ Some now
            → now ≡ on_active (on_crew (set_waits p outside)) (on_active (turned p t) y.eject) → Goes k m.0 m.1
        waits-so now is_now eq = goes (on_crew (set_waits p outside)) Go outside now is_now eq refl refl first_task refl

        told-so : (a : Answer) → came a ≡ nothing → (now : Eject) → eject_at later u ≡ Some now
            → now ≡ on_active (told p a) (on_active (turned p t) y.eject) → Goes k m.0 m.1
        told-so a silent now is_now eq = goes (told p a) a no_wait now is_now eq refl refl
            (changed-own p (λ (old : Task). record old { answer = a }) (turned p t y.active).tasks
            (record { rest = t.rest; answer = Go }) first_task) silent

        after : (eff : Effect) → t.effect ≡ eff → IsOfStream eff
            → (now : Eject) × (eject_at later u ≡ Some now) × AfterTurn p t y.eject t.effect now
        after eff eq of_stream = own-after w c e u p said y.node y.eject y.active t plain is_turn y.at y.is y.some turns
            (subst IsOfStream (sym eq) of_stream)

        returned : (results : List Datum) (eff : Effect) (now : Eject) → AfterTurn p t y.eject eff now → eff ≡ effect.Return results
            → now ≡ on_active (without_process p) (on_active (turned p t) y.eject)
        returned results _ _ (has_ended r) eq = refl
        returned results _ _ saves_it eq = absurd (cc eq)
        returned results _ _ too_large eq = absurd (cc eq)
        returned results _ _ (has_asked target operation args at_once) eq = absurd (cc eq)

        saved : (eff : Effect) (now : Eject) → AfterTurn p t y.eject eff now → eff ≡ effect.Checkpoint → eject_at later u ≡ Some now
            → Goes k m.0 m.1
        saved _ _ (has_ended r) eq is_now = absurd (cc eq)
        saved _ now saves_it eq is_now = waits-so now is_now refl
        saved _ now too_large eq is_now = told-so (Code status.TooLarge) refl now is_now refl
        saved _ _ (has_asked target operation args at_once) eq is_now = absurd (cc eq)

        asked : (target : Cap) (operation : List ℕ) (args : List Datum) (eff : Effect) (now : Eject) → AfterTurn p t y.eject eff now
            → eff ≡ effect.Invoke target operation args → eject_at later u ≡ Some now → Goes k m.0 m.1
        asked target operation args _ _ (has_ended r) eq is_now = absurd (cc eq)
        asked target operation args _ _ saves_it eq is_now = absurd (cc eq)
        asked target operation args _ _ too_large eq is_now = absurd (cc eq)
        asked target operation args _ now (has_asked x2 x3 x4 None) eq is_now = waits-so now is_now refl
        asked target operation args _ now (has_asked x2 x3 x4 (Some why)) eq is_now =
            told-so (Told why []) (came-nothing why) now is_now refl

        stored : (b : Bool) (s : Site) → (cond b (asks_store u p (body (spelling (rep_of y.active.kind t.vars))) s)
            (tells u p (Code status.TooLarge) s)).traffic ≡ s.traffic
        stored true s = traffic-at _ (on_eject u (on_active (on_crew (set_waits p outside))) s)
            ∙ traffic-on_eject u (on_active (on_crew (set_waits p outside))) s
        stored false s = traffic-on_eject u (on_active (told p (Code status.TooLarge))) s

        ends : (eff : Effect) → t.effect ≡ eff → TurnEnds R (is_some y.eject.kept) m.0 (A k) m.1 eff → Ends k m.0 m.1 eff
        ends (effect.Return results) eq h = let now = after (effect.Return results) eq tt in (
          next-state (without_process p) now.0 now.1 (returned results t.effect now.0 now.2 eq)
              ∙ idle-state (without_process p (turned p t y.active)) (ended-alone R u A (kept_now w u) L y.eject y.active p t z
              (active-there y.node y.at y.eject y.is y.active y.some)) ∙ ap idle z.vars,
          (
            z.busy.call,
            refl,
            by (effect.Return results) eq
                ∙ traffic-on_traffic (answers (serving y.active p) results) (on_eject u (on_active (without_process p)) mid)
                ∙ ap (answers (serving y.active p) results) (traffic-on_eject u (on_active (without_process p)) mid ∙ mid-same)
                ∙ ap (λ i. answers i results w.traffic) serves,
          ),
        )
        ends effect.Checkpoint eq h = let now = after effect.Checkpoint eq tt in (
          saved t.effect now.0 now.2 eq now.1,
          by effect.Checkpoint eq ∙ stored (nat_le (length (spelling (rep_of y.active.kind t.vars))) BODY_LIMIT) mid ∙ mid-same,
        )
        ends (effect.Invoke target operation args) eq h =
            let now = after (effect.Invoke target operation args) eq tt in
            let at_once = refused_at_once (reaches w u.node target.uid.node) args in (
              asked target operation args t.effect now.0 now.2 eq now.1,
              (
                p,
                at_once,
                by (effect.Invoke target operation args) eq
                    ∙ traffic-on_traffic (λ t. with_call (next_call t) (Process u p) target operation args at_once t)
                    (on_eject u (on_active (waits_or_told p at_once)) mid)
                    ∙ ap (λ t. with_call (next_call t) (Process u p) target operation args at_once t)
                    (traffic-on_eject u (on_active (waits_or_told p at_once)) mid ∙ mid-same),
              ),
            )
        ends _ eq h = absurd h

        only : AsksNow w e.event u → (target : Cap) × (operation : List ℕ) × (args : List Datum)
            × (m.2 ≡ effect.Invoke target operation args)
        only n = (n.target, n.operation, n.args, sym z.effect_is ∙ ap (λ (t : Turned). t.effect) (sym one) ∙ n.effect_is)
          where
            number : n.process ≡ p
            number = let both : event.Process u n.process n.said ≡ event.Process u p said = sym n.is ∙ is_turn in cc both

            one_active : n.active ≡ y.active
            one_active = same-some (sym (ap active_in n.at ∙ n.some) ∙ active)

            one : n.turned ≡ t
            one = same-some (sym n.turns ∙ ap₂ (λ a q. turn_of u a q) one_active number ∙ turns)

  -- 4. Anything else that happens to it
  pub data IsLeft : State → State → Type 0 where
    sleeps : (s : State) → IsLeft s asleep
    stays_absent : IsLeft absent absent
    is_born : IsLeft absent (idle (first_values (native_type R.kind)))
    stays_idle : (vars : List Datum) → IsLeft (idle vars) (idle vars)
    starts : (vars : List Datum) (k : ℕ) (d : Call) (a : Answer) → IsStarted k d
        → IsLeft (idle vars) (busy k (first_stage R.kind d.operation d.args) a vars)
    goes_on : (k : ℕ) (st : Stage) (a b : Answer) (vars : List Datum) → MayBeTold w e.event u a b
        → IsLeft (busy k st a vars) (busy k st b vars)

  module _ (other : (p : ℕ) (said : Shown) → e.event ≡ event.Process u p said → ⊥)
      (unmoved : (how : StartEnd) (p : Option Pick) → e.event ≡ event.Activate u how p → ⊥) where
    abbrev S : Role
    S = still_role w e.event u R

    nodes : Everywhere (OnNode S (still-lawful w e.event u R) u by_number (kept_now w u)) later
    nodes = still-next R L u A H w c e x allowed other unmoved old.node

    -- it is there still
    there-still : is_some (eject_at w u) ≡ true → is_some (eject_at later u) ≡ true
    there-still there = go (node_at later u.node) refl
        (here-later R L u A H w c e seat allowed x old (node-of (node_at w u.node) there))
      where
        node-of : (o : Option Node) → is_some (with_item o (λ (it : Node). value_at uid_cmp u it.ejects) None) ≡ true → is_some o ≡ true
        node-of None h = absurd (cc h)
        node-of (Some nd) h = refl

        go : (o : Option Node) → node_at later u.node ≡ o → is_some o ≡ true
            → is_some (with_item o (λ (it : Node). value_at uid_cmp u it.ejects) None) ≡ true
        go None at h = absurd (cc h)
        go (Some nd) at h = (nodes u.node nd at refl).there (inr there)

    is-left : IsLeft (state_of w u) (state_of later u)
    is-left = go (eject_at w u) refl (eject_at later u) refl
      where
        same-call : (i j : ℕ) → by_number i ≡ by_number j → i ≡ j
        same-call i j is = cc is

        -- it goes on
        going : (now : Active) (kept : Bool) (b : IsBusy S u by_number (kept_now w u) kept now) (t : Task)
            → value_at nat_cmp b.number now.tasks ≡ Some t
            → (x : IsTask S u by_number (kept_now w u) kept now.vars (by_number b.call.call) t)
            → (g : GoesOn w e.event u (by_number b.call.call) x.stage t.answer)
            → Had (active_now w u) (λ it. now.vars ≡ it.vars) ((eject_at w u ≡ None) × (now.vars ≡ first_values (native_type R.kind)))
            → IsLeft (state_of w u) (active_state now)
        going now kept b t has x g vars = subst (λ s. IsLeft s (active_state now))
            (sym (state-active (eject_at w u) g.active g.was
            ∙ busy-state g.active g.number g.worker g.call g.task x.stage g.alone g.serves g.has g.rest))
            (subst (λ s. IsLeft (busy g.call.call x.stage g.task.answer g.active.vars) s)
            (sym (busy-state now b.number b.worker b.call t x.stage b.alone b.serves has x.rest
            ∙ ap₂ (λ k v. busy k x.stage t.answer v) (same-call b.call.call g.call.call g.args_are)
            (subst (λ o. Had o (λ (it : Active). now.vars ≡ it.vars) ((eject_at w u ≡ None)
            × (now.vars ≡ first_values (native_type R.kind)))) g.was vars)))
            (goes_on g.call.call x.stage g.task.answer t.answer g.active.vars g.told))

        -- or starts
        begins : (now : Active) (kept : Bool) (b : IsBusy S u by_number (kept_now w u) kept now) (t : Task)
            → value_at nat_cmp b.number now.tasks ≡ Some t
            → (x : IsTask S u by_number (kept_now w u) kept now.vars (by_number b.call.call) t)
            → (g : Begins w e.event u R (by_number b.call.call) x.stage)
            → Had (active_now w u) (λ it. now.vars ≡ it.vars) ((eject_at w u ≡ None) × (now.vars ≡ first_values (native_type R.kind)))
            → IsLeft (state_of w u) (active_state now)
        begins now kept b t has x g vars = subst (λ s. IsLeft s (active_state now))
            (sym (state-active (eject_at w u) s.1.0 s.1.1 ∙ idle-state s.1.0 s.1.2))
            (subst (λ z. IsLeft (idle s.1.0.vars) z)
            (sym (busy-state now b.number b.worker b.call t x.stage b.alone b.serves has x.rest
            ∙ ap₂ (λ k v. busy k x.stage t.answer v) (same-call b.call.call g.number g.args_are)
            (subst (λ o. Had o (λ (it : Active). now.vars ≡ it.vars) ((eject_at w u ≡ None)
            × (now.vars ≡ first_values (native_type R.kind)))) s.1.1 vars)
            ∙ ap (λ z. busy g.number z t.answer s.1.0.vars) g.stage))
            (starts s.1.0.vars g.number g.call t.answer s.0))
          where
            s : IsStarted g.number g.call × ((a : Active) × (active_now w u ≡ Some a) × (a.crew.processes ≡ []))
            s = started g.number g.process g.event_is g.call g.at

        working : (now : Active) (kept : Bool) (b : IsBusy S u by_number (kept_now w u) kept now) (o : Option Task)
            → value_at nat_cmp b.number now.tasks ≡ o
            → IsSomeAnd o (IsTask S u by_number (kept_now w u) kept now.vars (by_number b.call.call))
            → Had (active_now w u) (λ it. now.vars ≡ it.vars) ((eject_at w u ≡ None) × (now.vars ≡ first_values (native_type R.kind)))
            → IsLeft (state_of w u) (active_state now)
        working now kept b None has h vars = absurd h
        working now kept b (Some t) has h vars = by h.keeps
          where
            by : GoesOn w e.event u (by_number b.call.call) h.stage t.answer ⊎ Begins w e.event u R (by_number b.call.call) h.stage
                → IsLeft (state_of w u) (active_state now)
            by (inl g) = going now kept b t has h g vars
            by (inr g) = begins now kept b t has h g vars

        -- or serves none
        resting : (now : Active) → now.crew.processes ≡ [] → (o : Option Eject) → eject_at w u ≡ o
            → Had (active_in o) (λ it. it.crew.processes ≡ []) (Unit {0})
            → Had (active_in o) (λ it. now.vars ≡ it.vars) ((o ≡ None) × (now.vars ≡ first_values (native_type R.kind)))
            → IsLeft (state_in o) (active_state now)
        resting now none None is idle_before vars = subst (IsLeft absent) (sym (idle-state now none ∙ ap idle vars.1)) is_born
        resting now none (Some y) is idle_before vars = by y.active refl idle_before vars
          where
            by : (a : Option Active) → y.active ≡ a → Had a (λ it. it.crew.processes ≡ []) (Unit {0})
                → Had a (λ it. now.vars ≡ it.vars) ((Some y ≡ None) × (now.vars ≡ first_values (native_type R.kind)))
                → IsLeft (with_item a active_state asleep) (active_state now)
            by None some before vars = absurd (cc vars.0)
            by (Some it) some before vars = subst (λ s. IsLeft s (active_state now)) (sym (idle-state it before))
                (subst (IsLeft (idle it.vars)) (sym (idle-state now none ∙ ap idle vars)) (stays_idle it.vars))

        active : (now : Active) → active_now later u ≡ Some now → IsLeft (state_of w u) (active_state now)
        active now is = by h.1.work
          where
            h : (kept : Bool) × IsActive S u by_number (kept_now w u) kept now
            h = active-of S (still-lawful w e.event u R) u by_number (kept_now w u) later nodes now is

            by : ((now.crew.processes ≡ []) × S.Idle) ⊎ IsBusy S u by_number (kept_now w u) h.0 now
                → IsLeft (state_of w u) (active_state now)
            by (inl none) = resting now none.0 (eject_at w u) refl none.1 h.1.vars
            by (inr b) = working now h.0 b (value_at nat_cmp b.number now.tasks) refl b.task h.1.vars

        here : (y : Eject) → eject_at later u ≡ Some y → (o : Option Active) → y.active ≡ o
            → IsLeft (state_of w u) (with_item o active_state asleep)
        here y is None none = sleeps (state_of w u)
        here y is (Some now) some = active now (ap active_in is ∙ some)

        go : (o : Option Eject) → eject_at w u ≡ o → (l : Option Eject) → eject_at later u ≡ l
            → IsLeft (state_in o) (state_in l)
        go None was None is = stays_absent
        go (Some y) was None is = absurd (let bad : false ≡ true = sym (ap is_some is) ∙ there-still (ap is_some was) in cc bad)
        go o was (Some y) is = subst (λ z. IsLeft (state_in z) (with_item y.active active_state asleep)) was (here y is y.active refl)

  -- 5. Either
  pub moves : ((how : StartEnd) (p : Option Pick) → e.event ≡ event.Activate u how p → ⊥)
      → TakesTurn ⊎ (((p : ℕ) (said : Shown) → e.event ≡ event.Process u p said → ⊥) × IsLeft (state_of w u) (state_of later u))
  moves unmoved = go (turn-or u e.event)
    where
      go : ((p : ℕ) × (said : Shown) × (e.event ≡ event.Process u p said))
          ⊎ ((p : ℕ) (said : Shown) → e.event ≡ event.Process u p said → ⊥)
          → TakesTurn ⊎ (((p : ℕ) (said : Shown) → e.event ≡ event.Process u p said → ⊥) × IsLeft (state_of w u) (state_of later u))
      go (inl t) = inl (takes-turn t.0 t.1 t.2)
      go (inr other) = inr (other, is-left other unmoved)
