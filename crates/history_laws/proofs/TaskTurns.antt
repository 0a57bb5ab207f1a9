-- Every turn at a site leaves its active parts fit.
use Rattle.std.proofs.Common.{◌≡◌, ◌==◌, ◌+◌, ◌≤◌, ℕ, nat_le, nat_lt, Bool, true, false, cond, not, List, [], ◌∷◌, ◌++◌, Option, None}
use Rattle.std.proofs.Common.{Some, is_some, Result, Ok, Err, length, refl, sym, ◌∙◌, ap, subst, arith}
use Rattle.std.specs.Prelude.{IsSomeAnd, IfSome}
use Rattle.std.specs.List.{filter}
use Rattle.std.specs.Option.{option_map}
use Rattle.std.specs.Ordering.{nat_cmp, eq_by_cmp}
use Rattle.std.specs.FinMap.Entries.{find-put}
use Rattle.capability.specs.declared.Uid.{Uid}
use Rattle.capability.specs.declared.Cap.{Cap}
use Rattle.capability.specs.declared.TheConstants.{BODY_LIMIT}
use Rattle.capability.specs.Capability.{full}
use Rattle.capability.specs.Rights.{is_within}
use Rattle.capability.proofs.Uids.{uid_cmp_total, uid_cmp-IsAntisymmetric}
use Rattle.eden_value.specs.Datum.{Datum}
use Rattle.eden_value.specs.declared.status.Status.{Status}
use Rattle.eden_value.specs.declared.status.Status.TheVariants as status
use Rattle.eden_codec.specs.Spelling.{spelling}
use Rattle.eden_model.specs.Map.{with_item, rest, value_at, each_value, uid_cmp}
use Rattle.eden_model.proofs.Laws.{eq-same}
use Rattle.eden_model.proofs.Numbers.{same-true}
use Rattle.eden_model.specs.Crew.{Invocation, outside, set_waits, locked, left, waited, signalled, running}
use Rattle.eden_model.specs.declared.Asker.{Asker}
use Rattle.eden_model.specs.declared.Asker.TheVariants.{Shell, Eject as Process}
use Rattle.eden_model.specs.Traffic.{Traffic, Call, asked, held, call_at, next_call, with_call, changed_call, at_place, taken, replied}
use Rattle.eden_model.specs.Traffic.{all_replied, orphaned}
use Rattle.epl_syntax.specs.declared.effect.Answer.{Answer}
use Rattle.epl_syntax.specs.declared.effect.Answer.TheVariants.{Code, Reply as Told, Created as Made}
use Rattle.epl_syntax.specs.declared.effect.Effect.{Effect}
use Rattle.epl_syntax.specs.declared.effect.Effect.TheVariants as effect
use Rattle.epl_syntax.specs.Edentype.{Edentype}
use Rattle.epl_syntax.specs.Kinds.{have_shapes}
use Rattle.epl_syntax.specs.Meaning.{Turned, rep_of, type_of, first_values, values_from, operation_of}
use Rattle.passive_store.specs.declared.store.Pick.{Pick}
use Rattle.passive_store.specs.declared.store.Pick.TheVariants as pick
use Rattle.journal.specs.EjectChange.{EjectChange, body, removal, kept_of}
use Rattle.journal.specs.declared.event.BootEnd.{BootEnd}
use Rattle.journal.specs.declared.event.BootEnd.TheVariants as boot_end
use Rattle.journal.specs.declared.event.StartEnd.{StartEnd}
use Rattle.journal.specs.declared.event.StartEnd.TheVariants as start_end
use Rattle.journal.specs.declared.event.RequestEnd.{RequestEnd}
use Rattle.journal.specs.declared.event.RequestEnd.TheVariants as end
use Rattle.journal.specs.declared.event.Event.{Event}
use Rattle.journal.specs.declared.event.Event.TheVariants as event
use Rattle.journal.specs.World.{Active, Eject, StoreRequest, Node, Site, eject_in, on_eject, on_node, on_traffic}
use Rattle.journal.specs.Ejects.{with_active, with_queued, on_active, on_crew, is_there, told, tells, without_requests, deactivated}
use Rattle.journal.specs.Ejects.{turned_away, gone_if_unkept, fresh, next_uid, newborn, born}
use Rattle.journal.specs.Deliveries.{misfit, refusal, refusal_at, AllowsRequest, requested, tells_asker, received, heard}
use Rattle.journal.specs.Processes.{AllowsStart, turn_of, turned, serving, with_start, start, without_process, asks_store, answers}
use Rattle.journal.specs.Processes.{refused_at_once, waits_or_told, creates, checkpoints, effected, process_turn}
use Rattle.journal.specs.Settling.{first_request, settled_eject, settled, unsynced, written_with, to_settle}
use Rattle.journal.specs.Crashes.{fallen, crashed}
use Rattle.journal.specs.Stores.{Work, syncs, reads, unkept, without_room, calls, work_of, more_made, doubted, tells_code, request_ended}
use Rattle.journal.specs.Stores.{removed, stored, done, worked, store_turn}
use Rattle.journal.specs.Starts.{start_of, misfits_answered, fits_at, activated, activation_turn}
use Rattle.journal.specs.Boots.{booted_node, boot_turn}
use Rattle.journal.specs.Step.{AllowsAt, IsActiveAnd, site_turn}
use Rattle.journal.specs.Sites.{GoesOn}
use Rattle.history_laws.proofs.Frame.{eject-on_eject, eject-on_traffic}
use Rattle.history_laws.proofs.KeptTurns.{value-each}
use Rattle.history_laws.proofs.Fits.{times}
use Rattle.history_laws.proofs.Times.{times-append, times-gone}
use Rattle.history_laws.proofs.Tasks.{IsRuledType, Ruling, FitsCall, HasValues, FitsActive, FitsEject, AllFitIn, EffectFits, CallsKept}
use Rattle.history_laws.proofs.LeftTurns.{values-first, values-kept}
use Rattle.history_laws.proofs.TaskParts.{fits-crew, fits-told, fits-waits_or_told, fits-turned, fits-effect, fits-without, fits-start}
use Rattle.history_laws.proofs.TaskParts.{fits-fresh, serves-set, serves-left, serves-locked, serves-waited, serves-signalled}
use Rattle.history_laws.proofs.SiteTurns.{IsNew}
use Rattle.history_laws.proofs.SiteEvents.{ruling-on_eject, startable-there}
use Rattle.history_laws.proofs.SiteStores.{ruled-start}

-- 1. Calls

abbrev misfit_by : Edentype → List ℕ → Cap → List Datum → Option Status
misfit_by t name target args = with_item (operation_of t name)
    (λ o. cond (not (is_within (record { bits = o.needs }) target.rights)) (Some status.NoRight)
    (cond (not (have_shapes args o.params)) (Some status.BadArguments) None)) (Some status.NoOperation)

same-misfit : (t : Edentype) (c d : Call) → GoesOn c d → misfit t d ≡ misfit t c
same-misfit t c d g = ap (λ x. misfit_by t x d.target d.args) g.operation ∙ ap (λ x. misfit_by t c.operation x d.args) g.target
    ∙ ap (λ x. misfit_by t c.operation c.target x) g.args

-- a call that fits now fits later, and one that fits later fits now
fits-later : (t : Edentype) (c : Call) (o : Option Call) → IsSomeAnd o (GoesOn c) → misfit t c ≡ None → FitsCall t o
fits-later t c None g is = g
fits-later t c (Some d) g is = same-misfit t c d g ∙ is

fits-now : (t : Edentype) (c : Call) (o : Option Call) → IsSomeAnd o (GoesOn c) → FitsCall t o → misfit t c ≡ None
fits-now t c None g is = absurd g
fits-now t c (Some d) g is = sym (same-misfit t c d g) ∙ is

-- what is delivered to an Eject fits its type
fits-refusal : (c : Call) (e : Eject) (it : Active) → e.active ≡ Some it → refusal c e ≡ None → misfit it.kind c ≡ None
fits-refusal c e it active is = go (is_there e) (nat_lt (length e.queued) 64) e.active active is
  where
    go : (a b : Bool) (o : Option Active) → o ≡ Some it
        → cond (not a) (Some status.Gone) (cond (not b) (Some status.Busy) (with_item o (λ it. misfit it.kind c) None)) ≡ None
        → misfit it.kind c ≡ None
    go false b o at is = absurd (cc is)
    go true false o at is = absurd (cc is)
    go true true None at is = absurd (cc at)
    go true true (Some x) at is = let same : x ≡ it = cc at in ap (λ (y : Active). misfit y.kind c) (sym same) ∙ is

fits-passed : (t : Edentype) (traffic : Traffic) (k : ℕ) → fits_at t traffic k ≡ true → FitsCall t (call_at traffic k)
fits-passed t traffic k is = go (call_at traffic k) is
  where
    one : (o : Option Status) → not (is_some o) ≡ true → o ≡ None
    one None is = refl
    one (Some why) is = absurd (cc is)

    go : (o : Option Call) → with_item o (λ c. not (is_some (misfit t c))) false ≡ true → FitsCall t o
    go None is = absurd (cc is)
    go (Some c) is = one (misfit t c) is

fits-kept : (t : Edentype) (traffic later : Traffic) (k : ℕ) → CallsKept traffic later → FitsCall t (call_at traffic k)
    → FitsCall t (call_at later k)
fits-kept t traffic later k kept fits = go (call_at traffic k) refl fits
  where
    go : (o : Option Call) → call_at traffic k ≡ o → FitsCall t o → FitsCall t (call_at later k)
    go None at is = absurd is
    go (Some c) at is = fits-later t c (call_at later k) (kept k c at) is

-- those of a list that pass a test
times-passed : (k : ℕ) (test : ℕ → Bool) (ks : List ℕ) → 1 ≤ times k (filter test ks) → test k ≡ true
times-passed k test ks has = go (test k) refl
  where
    go : (b : Bool) → test k ≡ b → b ≡ true
    go true is = refl
    go false is = absurd (omega (arith, has, times-gone k test ks is))

module _ (types : List Edentype) (later : Traffic) where
  -- 2. The primitives

  fits-fewer : (queued less : List ℕ) (it : Active) → ((k : ℕ) → 1 ≤ times k less → 1 ≤ times k queued) → FitsActive types later queued it
      → FitsActive types later less it
  fits-fewer queued less it among h =
      record { kind = h.kind; values = h.values; tasks = h.tasks; waiting = λ k has. h.waiting k (among k has) }

  tasks-on_eject : (v : Uid) (f : Eject → Eject) (s : Site)
      → ((e : Eject) → eject_in s v ≡ Some e → FitsEject types later e → FitsEject types later (f e))
      → AllFitIn types later s → AllFitIn types later (on_eject v f s)
  tasks-on_eject v f s keep h u e is = go (eq_by_cmp uid_cmp u v) refl (eject_in s u) refl (sym (eject-on_eject v u f s) ∙ is)
    where
      go : (b : Bool) → eq_by_cmp uid_cmp u v ≡ b → (o : Option Eject) → eject_in s u ≡ o → cond b (option_map f o) o ≡ Some e
          → FitsEject types later e
      go false same o at is = h u e (at ∙ is)
      go true same None at is = absurd (cc is)
      go true same (Some x) at is = subst (λ o. IfSome o (FitsEject types later)) is
          (keep x (ap (eject_in s) (sym (eq-same uid_cmp uid_cmp-IsAntisymmetric u v same)) ∙ at) (h u x at))

  tasks-on_traffic : (f : Traffic → Traffic) (s : Site) → AllFitIn types later s → AllFitIn types later (on_traffic f s)
  unfolding on_traffic
  tasks-on_traffic f s h = h

  tasks-on_node : (f : Node → Node) (s : Site) → (f s.node).ejects ≡ s.node.ejects → AllFitIn types later s
      → AllFitIn types later (on_node f s)
  unfolding on_node
  tasks-on_node f s same h = λ u e is. h u e (ap (value_at uid_cmp u) (sym same) ∙ is)

  tasks-each : (f : Eject → Eject) (s : Site) (ejects : List (Uid × Eject)) → ejects ≡ each_value f s.node.ejects
      → ((e : Eject) → FitsEject types later e → FitsEject types later (f e)) → AllFitIn types later s
      → (u : Uid) (e : Eject) → value_at uid_cmp u ejects ≡ Some e → FitsEject types later e
  tasks-each f s ejects same keep h u e is = go (eject_in s u) refl
      (sym (value-each u f s.node.ejects) ∙ ap (value_at uid_cmp u) (sym same) ∙ is)
    where
      go : (o : Option Eject) → eject_in s u ≡ o → option_map f o ≡ Some e → FitsEject types later e
      go None at is = absurd (cc is)
      go (Some x) at is = subst (λ o. IfSome o (FitsEject types later)) is (keep x (h u x at))

  tasks-item : {X : Type 0} (s : Site) (o : Option X) (f : X → Site) → ((x : X) → o ≡ Some x → AllFitIn types later (f x))
      → AllFitIn types later s → AllFitIn types later (with_item o f s)
  tasks-item s None f each h = h
  tasks-item s (Some x) f each h = each x refl

  tasks-cond : (b : Bool) (s t : Site) → AllFitIn types later s → AllFitIn types later t → AllFitIn types later (cond b s t)
  tasks-cond true s t x y = x
  tasks-cond false s t x y = y

  -- a change of the active part
  eject-changed : (f : Active → Active) (e : Eject)
      → ((it : Active) → e.active ≡ Some it → FitsActive types later e.queued it → FitsActive types later e.queued (f it))
      → FitsEject types later e → FitsEject types later (on_active f e)
  eject-changed f e keep h = go e.active refl h
    where
      go : (o : Option Active) → e.active ≡ o → IfSome o (FitsActive types later e.queued)
          → FitsEject types later (with_item o (λ it. with_active (Some (f it)) e) e)
      go None is h = rw is tt
      go (Some it) is h = keep it is h

  tasks-on_active : (v : Uid) (f : Active → Active) (s : Site)
      → ((queued : List ℕ) (it : Active) → FitsActive types later queued it → FitsActive types later queued (f it))
      → AllFitIn types later s → AllFitIn types later (on_eject v (on_active f) s)
  tasks-on_active v f s keep h = tasks-on_eject v (on_active f) s (λ e at. eject-changed f e (λ it is. keep e.queued it)) h

  -- 3. The parts of a turn

  tasks-tells : (v : Uid) (p : ℕ) (a : Answer) (s : Site) → AllFitIn types later s → AllFitIn types later (tells v p a s)
  tasks-tells v p a s h = tasks-on_active v (told p a) s (λ queued it. fits-told types later queued p a it) h

  emptied : (e : Eject) → FitsEject types later e → FitsEject types later (with_queued [] e)
  emptied e h = go e.active h
    where
      go : (o : Option Active) → IfSome o (FitsActive types later e.queued) → IfSome o (FitsActive types later [])
      go None h = tt
      go (Some it) h = fits-fewer e.queued [] it (λ k has. absurd (omega (arith, has))) h

  tasks-turned_away : (v : Uid) (why : Status) (s : Site) → AllFitIn types later s → AllFitIn types later (turned_away v why s)
  tasks-turned_away v why s h =
      tasks-item s (eject_in s v) _ (λ e is. tasks-on_traffic (all_replied why e.queued) (on_eject v (with_queued []) s)
      (tasks-on_eject v (with_queued []) s (λ x at. emptied x) h)) h

  tasks-deactivated : (v : Uid) (s : Site) → AllFitIn types later s → AllFitIn types later (deactivated v s)
  tasks-deactivated v s h = tasks-item s (eject_in s v) _ (λ e is. tasks-item s e.active _ (λ it is_it.
      tasks-on_traffic (λ t. all_replied status.Dropped (running it.crew) (orphaned v t))
      (on_eject v (with_active None) (on_node (without_requests v) s))
      (tasks-on_eject v (with_active None) (on_node (without_requests v) s) (λ x at fits. tt)
      (tasks-on_node (without_requests v) s refl h))) h) h

  tasks-gone : (v : Uid) (s : Site) → AllFitIn types later s → AllFitIn types later (gone_if_unkept v s)
  tasks-gone v s h = tasks-item s (eject_in s v) _ (λ e is.
      tasks-cond (is_there e) s (turned_away v status.Gone s) h (tasks-turned_away v status.Gone s h)) h

  tasks-asks : (v : Uid) (p : ℕ) (c : EjectChange) (s : Site) → AllFitIn types later s → AllFitIn types later (asks_store v p c s)
  tasks-asks v p c s h = tasks-on_node (λ it. record it {
    requests = it.requests ++ record { uid = v; process = Some p; change = c; made = 0 } ∷ [];
  }) (on_eject v (on_active (on_crew (set_waits p outside))) s) refl
      (tasks-on_active v (on_crew (set_waits p outside)) s
      (λ queued it. fits-crew types later queued (set_waits p outside) (serves-set p outside) it) h)

  tasks-checkpoints : (v : Uid) (p : ℕ) (bytes : List ℕ) (s : Site) → AllFitIn types later s
      → AllFitIn types later (checkpoints v p bytes s)
  tasks-checkpoints v p bytes s h =
      tasks-cond (nat_le (length bytes) BODY_LIMIT) (asks_store v p (body bytes) s) (tells v p (Code status.TooLarge) s)
      (tasks-asks v p (body bytes) s h) (tasks-tells v p (Code status.TooLarge) s h)

  pub tasks-born : (v : Uid) (t : Edentype) (vars : List Datum) (s : Site) → eject_in s v ≡ None → IsRuledType types t
      → HasValues t vars → AllFitIn types later s
      → AllFitIn types later (born v (fresh t vars) s)
  unfolding on_node
  tasks-born v t vars s absent ruled many h = λ u e is. go u e (eq_by_cmp uid_cmp u v) refl
      (sym (find-put uid_cmp uid_cmp_total u v (grown (eject_in s v)) s.node.ejects) ∙ is)
    where
      grown : Option Eject → Eject
      grown o = with_item o (with_active (Some (fresh t vars))) (newborn (fresh t vars))

      fits-grown : (o : Option Eject) → o ≡ None → FitsEject types later (grown o)
      fits-grown None at = fits-fresh types later [] t vars ruled many (λ k has. absurd (omega (arith, has)))
      fits-grown (Some e) at = absurd (cc at)

      go : (u : Uid) (e : Eject) (b : Bool) → eq_by_cmp uid_cmp u v ≡ b → cond b (Some (grown (eject_in s v))) (eject_in s u) ≡ Some e
          → FitsEject types later e
      go u e true same is = subst (λ o. IfSome o (FitsEject types later)) is (fits-grown (eject_in s v) absent)
      go u e false same is = h u e is

  tasks-creates : (v : Uid) (p : ℕ) (t : Option Edentype) (made : Result Uid Status) (s : Site) → next_uid s ≡ made → IsNew s
      → ((x : Edentype) → t ≡ Some x → IsRuledType types x) → AllFitIn types later s → AllFitIn types later (creates v p t made s)
  tasks-creates v p None made s is new ruled h = h
  tasks-creates v p (Some t) (Ok u) s is new ruled h =
      tasks-tells v p (Made status.Ok (Some (full u))) (born u (fresh t (first_values t)) s)
      (tasks-born u t (first_values t) s (new u is) (ruled t refl) (values-first t) h)
  tasks-creates v p (Some t) (Err why) s is new ruled h = tasks-tells v p (Made why None) s h

  -- 4. A turn of a process

  tasks-effected : (reach : ℕ → Bool) (v : Uid) (p : ℕ) (i : Option Invocation) (t : Edentype) (vars : List Datum) (e : Effect) (s : Site)
      → IsNew s → Ruling types s → AllFitIn types later s → AllFitIn types later (effected reach v p i t vars e s)
  tasks-effected reach v p i t vars (effect.Return results) s new ruled h =
      tasks-on_traffic (answers i results) (on_eject v (on_active (without_process p)) s)
      (tasks-on_active v (without_process p) s (λ queued it. fits-without types later queued p it) h)
  tasks-effected reach v p i t vars effect.End s new ruled h =
      tasks-on_active v (without_process p) s (λ queued it. fits-without types later queued p it) h
  tasks-effected reach v p i t vars effect.Checkpoint s new ruled h = tasks-checkpoints v p (spelling (rep_of t vars)) s h
  tasks-effected reach v p i t vars effect.Destroy s new ruled h = tasks-asks v p removal s h
  tasks-effected reach v p i t vars effect.Deactivate s new ruled h = tasks-gone v (deactivated v s) (tasks-deactivated v s h)
  tasks-effected reach v p i t vars (effect.Fault cause) s new ruled h =
      tasks-turned_away v status.Dropped (deactivated v s) (tasks-deactivated v s h)
  tasks-effected reach v p i t vars (effect.Create type_name) s new ruled h =
      tasks-creates v p (type_of s.types type_name) (next_uid s) s refl new (λ x is. ruled type_name x is) h
  tasks-effected reach v p i t vars (effect.Invoke target operation args) s new ruled h =
      let at_once = refused_at_once (reach target.uid.node) args in
      tasks-on_traffic (λ t. with_call (next_call t) (Process v p) target operation args at_once t)
      (on_eject v (on_active (waits_or_told p at_once)) s)
      (tasks-on_active v (waits_or_told p at_once) s (λ queued it. fits-waits_or_told types later queued p at_once it) h)
  tasks-effected reach v p i t vars (effect.Lock m) s new ruled h =
      tasks-on_active v (on_crew (locked p m)) s (λ queued it. fits-crew types later queued (locked p m) (serves-locked p m) it) h
  tasks-effected reach v p i t vars (effect.Leave m) s new ruled h =
      tasks-on_active v (on_crew (left m)) s (λ queued it. fits-crew types later queued (left m) (serves-left m) it) h
  tasks-effected reach v p i t vars (effect.Wait c) s new ruled h =
      tasks-on_active v (on_crew (waited p c)) s (λ queued it. fits-crew types later queued (waited p c) (serves-waited p c) it) h
  tasks-effected reach v p i t vars (effect.Signal c) s new ruled h =
      tasks-on_active v (on_crew (signalled c)) s (λ queued it. fits-crew types later queued (signalled c) (serves-signalled c) it) h
  tasks-effected reach v p i t vars effect.Yield s new ruled h = h

  tasks-process_turn : (reach : ℕ → Bool) (v : Uid) (p : ℕ) (s : Site) → ((f : Eject → Eject) → IsNew (on_eject v f s)) → Ruling types s
      → AllFitIn types later s → AllFitIn types later (process_turn reach v p s)
  tasks-process_turn reach v p s new ruled h = tasks-item s (eject_in s v) _ (λ e is. tasks-item s e.active _ (λ it is_it.
      tasks-item s (turn_of v it p) _
      (λ t is_t. tasks-effected reach v p (serving it p) it.kind t.vars t.effect (on_eject v (on_active (turned p t)) s)
      (new (on_active (turned p t))) (ruling-on_eject types v (on_active (turned p t)) s ruled)
      (tasks-on_eject v (on_active (turned p t)) s
      (λ x at. eject-changed (turned p t) x (λ y is_y. own e is it is_it t is_t x at y is_y)) h)) h) h) h
    where
      own : (e : Eject) → eject_in s v ≡ Some e → (it : Active) → e.active ≡ Some it → (t : Turned) → turn_of v it p ≡ Some t
          → (x : Eject) → eject_in s v ≡ Some x → (y : Active) → x.active ≡ Some y
          → FitsActive types later x.queued y → FitsActive types later x.queued (turned p t y)
      own e is it is_it t is_t x at y is_y fits =
          let same : e ≡ x = (let s : Some e ≡ Some x = sym is ∙ at in cc s) in
          let part : it ≡ y = (let s : Some it ≡ Some y = sym is_it ∙ ap (λ (z : Eject). z.active) same ∙ is_y in cc s) in
          fits-turned types later x.queued v p y t (subst (λ (z : Active). turn_of v z p ≡ Some t) part is_t) fits

  -- 5. Deliveries, starts and crashes

  tasks-requested : (k a b : ℕ) (refused : Option Status) (s : Site) → AllowsRequest s k a b refused → CallsKept s.traffic later
      → AllFitIn types later s → AllFitIn types later (requested k refused s)
  tasks-requested k a b (Some why) s allowed kept h = tasks-on_traffic (λ t. replied why [] k (taken k t)) s h
  tasks-requested k a b None s allowed kept h = tasks-item s (call_at s.traffic k) _ (λ c is.
      tasks-on_eject c.target.uid (λ e. record e {
        queued =
            e.queued ++ k ∷ [];
      }) (mid c) (λ e at. joins c is e (sym (eject-on_traffic c.target.uid _ s) ∙ at))
      (tasks-on_traffic (λ t. changed_call k (at_place held) (taken k t)) s h)) h
    where
      mid : Call → Site
      mid c = on_traffic (λ t. changed_call k (at_place held) (taken k t)) s

      accepted : (c : Call) → call_at s.traffic k ≡ Some c → (e : Eject) → eject_in s c.target.uid ≡ Some e → None ≡ refusal c e
      accepted c is e at = (subst (λ o. None ≡ with_item o (refusal c) (Some status.Gone)) at
          (subst (λ o. IsSomeAnd o (λ c. (c.place ≡ asked) × (None ≡ refusal_at s c))) is allowed.delivered).1)

      joins : (c : Call) → call_at s.traffic k ≡ Some c → (e : Eject) → eject_in s c.target.uid ≡ Some e → FitsEject types later e
          → FitsEject types later (record e { queued = e.queued ++ k ∷ [] })
      joins c is e at h = go e.active refl h
        where
          go : (o : Option Active) → e.active ≡ o → IfSome o (FitsActive types later e.queued)
              → IfSome o (FitsActive types later (e.queued ++ k ∷ []))
          go None active h = tt
          go (Some it) active h = record {
            kind = h.kind;
            values = h.values;
            tasks = h.tasks;
            waiting = λ j has. by j (eq_by_cmp nat_cmp j k) refl (omega (arith, has, times-append j e.queued (k ∷ [])));
          }
            where
              by : (j : ℕ) (b : Bool) → eq_by_cmp nat_cmp j k ≡ b → 1 ≤ times j e.queued + cond (eq_by_cmp nat_cmp j k) (0 + 1) 0
                  → FitsCall it.kind (call_at later j)
              by j true same has = subst (λ n. FitsCall it.kind (call_at later n)) (sym (same-true j k same))
                  (fits-later it.kind c (call_at later k) (kept k c is) (fits-refusal c e it active (sym (accepted c is e at))))
              by j false same has =
                  h.waiting j (let none : cond (eq_by_cmp nat_cmp j k) (0 + 1) 0 ≡ 0 = rw same refl in omega (arith, has, none))

  tasks-tells_asker : (a : Asker) (why : Status) (values : List Datum) (s : Site) → AllFitIn types later s
      → AllFitIn types later (tells_asker a why values s)
  tasks-tells_asker (Shell name) why values s h = h
  tasks-tells_asker (Process v p) why values s h = tasks-tells v p (Told why values) s h

  tasks-heard : (k : ℕ) (why : Status) (values : List Datum) (s : Site) → AllFitIn types later s
      → AllFitIn types later (heard k why values s)
  tasks-heard k why values s h = tasks-item s (call_at s.traffic k) _ (λ c is.
      tasks-cond c.open_ (tells_asker c.asker why values (on_traffic (received k) s)) (on_traffic (received k) s)
      (tasks-tells_asker c.asker why values (on_traffic (received k) s) (tasks-on_traffic (received k) s h))
      (tasks-on_traffic (received k) s h))
      h

  tasks-start : (v : Uid) (k p : ℕ) (s : Site) → IsActiveAnd s v (λ e it. AllowsStart s.traffic k p e it) → CallsKept s.traffic later
      → AllFitIn types later s → AllFitIn types later (start v k p s)
  tasks-start v k p s allowed kept h = tasks-item s (call_at s.traffic k) _ (λ c is.
      tasks-on_eject v (λ e. record (on_active (with_start s.traffic k p c) e) { queued = filter (λ j. not (j == k)) e.queued }) s
      (λ e at fits. go c is e e.active refl (starts e at) fits) h) h
    where
      starts : (e : Eject) → eject_in s v ≡ Some e → IsSomeAnd e.active (λ it. AllowsStart s.traffic k p e it)
      starts e at = subst (λ o. IsSomeAnd o (λ e. IsSomeAnd e.active (λ it. AllowsStart s.traffic k p e it))) at allowed

      go : (c : Call) → call_at s.traffic k ≡ Some c → (e : Eject) (o : Option Active) → e.active ≡ o
          → IsSomeAnd o (λ it. AllowsStart s.traffic k p e it) → IfSome o (FitsActive types later e.queued)
          → IfSome (with_item o (λ it. with_active (Some (with_start s.traffic k p c it)) e) e).active
          (FitsActive types later (filter (λ j. not (j == k)) e.queued))
      go c is e None active a fits = absurd a
      go c is e (Some it) active a fits = fits-start types later s.traffic e.queued k p c it a.number
          (fits-now it.kind c (call_at later k) (kept k c is) (fits.waiting k (startable-there it s.traffic e.queued _ a.earliest).0)) fits

  tasks-crashed : (s : Site) → AllFitIn types later s → AllFitIn types later (crashed s)
  unfolding on_traffic on_node
  tasks-crashed s h = tasks-each fallen s (each_value fallen s.node.ejects) refl (λ e fits. tt) h

  -- 6. The store

  tasks-settled : (p : Option Pick) (s : Site) → AllFitIn types later s → AllFitIn types later (settled p s)
  unfolding on_node
  tasks-settled None s h = h
  tasks-settled (Some pick.Old) s h =
      tasks-each (settled_eject pick.Old) s (each_value (settled_eject pick.Old) s.node.ejects) refl (λ e fits. fits) h
  tasks-settled (Some pick.New) s h =
      tasks-each (settled_eject pick.New) s (each_value (settled_eject pick.New) s.node.ejects) refl (λ e fits. fits) h

  tasks-unsynced : (s : Site) → AllFitIn types later s → AllFitIn types later (unsynced s)
  tasks-unsynced s h = tasks-on_node (λ it. record it { synced = false }) s refl h

  tasks-ended : (r : StoreRequest) (why : Status) (s : Site) → AllFitIn types later s → AllFitIn types later (request_ended r why s)
  tasks-ended r why s h = go r.process
    where
      go : (p : Option ℕ) → AllFitIn types later (tells_code r.uid p why (on_node (λ it. record it { requests = rest it.requests }) s))
      go None = tasks-on_node (λ it. record it { requests = rest it.requests }) s refl h
      go (Some p) = tasks-tells r.uid p (Code why) (on_node (λ it. record it { requests = rest it.requests }) s)
          (tasks-on_node (λ it. record it { requests = rest it.requests }) s refl h)

  tasks-removed : (v : Uid) (c : EjectChange) (s : Site) → AllFitIn types later s → AllFitIn types later (removed c v s)
  tasks-removed v (body bytes) s h = h
  tasks-removed v removal s h = tasks-turned_away v status.Gone (deactivated v s) (tasks-deactivated v s h)

  tasks-done : (r : StoreRequest) (s : Site) → AllFitIn types later s → AllFitIn types later (done r s)
  tasks-done r s h = tasks-removed r.uid r.change (request_ended r status.Ok s) (tasks-ended r status.Ok s h)

  tasks-doubted : (r : StoreRequest) (s : Site) → AllFitIn types later s → AllFitIn types later (doubted r s)
  tasks-doubted r s h = tasks-on_eject r.uid (λ e. record e { doubt = Some r.change }) s (λ e at fits. fits) h

  tasks-stored : (r : StoreRequest) (s : Site) → AllFitIn types later s → AllFitIn types later (stored r s)
  tasks-stored r s h = tasks-on_node (λ it. record it { ledger = written_with s.layout r.change it.ledger })
      (on_eject r.uid (λ e. record e { kept = kept_of r.change; doubt = None }) s) refl
      (tasks-on_eject r.uid (λ e. record e { kept = kept_of r.change; doubt = None }) s (λ e at fits. fits) h)

  tasks-worked : (w : Work) (r : StoreRequest) (how : RequestEnd) (p : Option Pick) (s : Site) → AllFitIn types later s
      → AllFitIn types later (worked w r how p s)
  tasks-worked syncs r end.Part p s h = tasks-on_node (λ it. record it { synced = true }) s refl h
  tasks-worked syncs r end.Done p s h = h
  tasks-worked syncs r end.Full p s h = h
  tasks-worked syncs r end.Fault p s h = tasks-ended r status.StoreFault (unsynced s) (tasks-unsynced s h)
  tasks-worked syncs r end.Stop p s h = tasks-crashed s h
  tasks-worked reads r end.Part p s h = tasks-settled p s h
  tasks-worked reads r end.Done p s h = h
  tasks-worked reads r end.Full p s h = h
  tasks-worked reads r end.Fault p s h = tasks-ended r status.StoreFault (unsynced s) (tasks-unsynced s h)
  tasks-worked reads r end.Stop p s h = tasks-crashed s h
  tasks-worked unkept r how p s h = tasks-done r s h
  tasks-worked without_room r how p s h = tasks-ended r status.Full s h
  tasks-worked calls r end.Part p s h =
      tasks-on_node (λ it. record it { requests = more_made it.requests }) (doubted r s) refl (tasks-doubted r s h)
  tasks-worked calls r end.Done p s h = tasks-done r (stored r s) (tasks-stored r s h)
  tasks-worked calls r end.Full p s h = h
  tasks-worked calls r end.Fault p s h = tasks-ended r status.StoreFault (doubted r s) (tasks-doubted r s h)
  tasks-worked calls r end.Stop p s h = tasks-crashed (doubted r s) (tasks-doubted r s h)

  tasks-store_turn : (how : RequestEnd) (p : Option Pick) (s : Site) → AllFitIn types later s → AllFitIn types later (store_turn how p s)
  tasks-store_turn how p s h = tasks-item s (first_request s.node) _ (λ r is. tasks-worked (work_of s r) r how p s h) h

  -- 7. Activations and boots

  tasks-activated : (v : Uid) (how : StartEnd) (s : Site) → Ruling types s → CallsKept s.traffic later → AllFitIn types later s
      → AllFitIn types later (activated v how s)
  tasks-activated v start_end.Ok s ruled kept h = tasks-item s (eject_in s v) _ (λ e is. tasks-item s e.kept _ (λ bytes is_b.
      tasks-item s (start_of s.types bytes v) _ (λ start is_s. tasks-on_traffic (misfits_answered start.0 e.queued) _
      (tasks-on_eject v _ s
      (λ old at fits. fits-fresh types later (filter (fits_at start.0 s.traffic) e.queued) start.0 (values_from start.0 start.1)
      (ruled-start types s ruled bytes v start is_s) (values-kept start.0 start.1) (λ k has. fits-kept start.0 s.traffic later k kept
      (fits-passed start.0 s.traffic k (times-passed k (fits_at start.0 s.traffic) e.queued has)))) h)) h) h) h
  tasks-activated v start_end.Gone s ruled kept h = tasks-turned_away v status.Gone s h
  tasks-activated v start_end.Fault s ruled kept h = tasks-turned_away v status.StoreFault s h
  tasks-activated v start_end.Damaged s ruled kept h = tasks-turned_away v status.Damaged s h
  tasks-activated v start_end.Stop s ruled kept h = tasks-crashed s h

  ruled-settled : (p : Option Pick) (s : Site) → Ruling types s → Ruling types (settled p (unsynced s))
  unfolding on_node
  ruled-settled None s ruled = ruled
  ruled-settled (Some p) s ruled = ruled

  kept-settled : (p : Option Pick) (s : Site) → CallsKept s.traffic later → CallsKept (settled p (unsynced s)).traffic later
  unfolding on_node
  kept-settled None s kept = kept
  kept-settled (Some p) s kept = kept

  tasks-activation : (v : Uid) (how : StartEnd) (p : Option Pick) (s : Site) → Ruling types s → CallsKept s.traffic later
      → AllFitIn types later s
      → AllFitIn types later (activation_turn v how p s)
  tasks-activation v how p s ruled kept h = go (to_settle s)
    where
      go : (b : Bool) → AllFitIn types later (activated v how (cond b (settled p (unsynced s)) s))
      go true = tasks-activated v how (settled p (unsynced s)) (ruled-settled p s ruled) (kept-settled p s kept)
          (tasks-settled p (unsynced s) (tasks-unsynced s h))
      go false = tasks-activated v how s ruled kept h

  tasks-boot : (e : ℕ) (how : BootEnd) (p : Option Pick) (began : Bool) (s : Site) → AllFitIn types later s
      → AllFitIn types later (boot_turn e how p began s)
  tasks-boot e how p began s h =
      tasks-on_node (booted_node s e how began) (settled p s) (ejects how (settled p s).node) (tasks-settled p s h)
    where
      ejects : (how : BootEnd) (it : Node) → (booted_node s e how began it).ejects ≡ it.ejects
      ejects boot_end.Up it = refl
      ejects boot_end.DiskFault it = refl
      ejects boot_end.Stop it = refl
      ejects (boot_end.Damaged place) it = refl
      ejects boot_end.EpochsSpent it = refl
      ejects boot_end.Full it = refl

  -- 8. Every turn

  pub tasks-site_turn : (reach : ℕ → Bool) (e : Event) (s : Site) → AllowsAt s e → ((v : Uid) (f : Eject → Eject) → IsNew (on_eject v f s))
      → Ruling types s → CallsKept s.traffic later → AllFitIn types later s → AllFitIn types later (site_turn reach e s)
  tasks-site_turn reach (event.Request k a b refused) s allowed new ruled kept h = tasks-requested k a b refused s allowed kept h
  tasks-site_turn reach (event.Reply k a b name why values) s allowed new ruled kept h = tasks-heard k why values s h
  tasks-site_turn reach (event.Activate v how p) s allowed new ruled kept h = tasks-activation v how p s ruled kept h
  tasks-site_turn reach (event.Start k v p) s allowed new ruled kept h = tasks-start v k p s allowed kept h
  tasks-site_turn reach (event.Process v p said) s allowed new ruled kept h = tasks-process_turn reach v p s (new v) ruled h
  tasks-site_turn reach (event.Store v c how p) s allowed new ruled kept h = tasks-store_turn how p s h
  tasks-site_turn reach (event.Boot n e how p began) s allowed new ruled kept h = tasks-boot e how p began s h
  tasks-site_turn reach (event.Crash n) s allowed new ruled kept h = tasks-crashed s h
  tasks-site_turn reach _ s allowed new ruled kept h = absurd allowed

pub tasks-told : (types : List Edentype) (later : Traffic) (v : Uid) (p : ℕ) (a : Answer) (s : Site) → AllFitIn types later s
    → AllFitIn types later (tells v p a s)
tasks-told types later v p a s h = tasks-tells types later v p a s h

pub tasks-fallen : (types : List Edentype) (later : Traffic) (s : Site) → AllFitIn types later s → AllFitIn types later (crashed s)
tasks-fallen types later s h = tasks-crashed types later s h

pub effect-fits : (types : List Edentype) (later : Traffic) (s : Site) (v : Uid) (p : ℕ) → AllFitIn types later s → EffectFits types s v p
effect-fits types later s v p h e is it is_it t is_t =
    fits-effect types later e.queued v p it t is_t (subst (λ o. IfSome o (FitsActive types later e.queued)) is_it (h v e is))
