-- What every turn at a site leaves of the values of variables: an active part has the values that it had, but for those that the turn of
-- one of its processes gives it, and those with which it begins.
use Rattle.std.proofs.Common.{◌≡◌, ◌==◌, ℕ, nat_le, Bool, true, false, cond, not, List, [], ◌∷◌, ◌++◌, Option, None, Some}
use Rattle.std.proofs.Common.{Result, Ok, Err, length, refl, sym, ◌∙◌, ap, subst}
use Rattle.std.specs.Prelude.{IsSomeAnd, IfSome}
use Rattle.std.specs.List.{filter}
use Rattle.std.specs.Option.{option_map}
use Rattle.std.specs.Ordering.{eq_by_cmp}
use Rattle.std.specs.FinMap.Entries.{find-put}
use Rattle.capability.specs.declared.Uid.{Uid}
use Rattle.capability.specs.declared.TheConstants.{BODY_LIMIT}
use Rattle.capability.specs.Capability.{full}
use Rattle.capability.proofs.Uids.{uid_cmp_total, uid_cmp-IsAntisymmetric}
use Rattle.eden_value.specs.Datum.{Datum}
use Rattle.eden_value.specs.declared.status.Status.{Status}
use Rattle.eden_value.specs.declared.status.Status.TheVariants as status
use Rattle.eden_codec.specs.Spelling.{spelling}
use Rattle.eden_model.specs.Map.{with_item, rest, value_at, each_value, uid_cmp}
use Rattle.eden_model.proofs.Laws.{eq-same}
use Rattle.eden_model.specs.Crew.{Invocation, Crew, outside, set_waits, locked, left, waited, signalled, running}
use Rattle.eden_model.specs.declared.Asker.{Asker}
use Rattle.eden_model.specs.declared.Asker.TheVariants.{Shell, Eject as Process}
use Rattle.eden_model.specs.Traffic.{Traffic, held, call_at, next_call, with_call, changed_call, at_place, taken, replied}
use Rattle.eden_model.specs.Traffic.{all_replied, orphaned}
use Rattle.epl_syntax.specs.declared.effect.Answer.{Answer}
use Rattle.epl_syntax.specs.declared.effect.Answer.TheVariants.{Code, Reply as Told, Created as Made}
use Rattle.epl_syntax.specs.declared.effect.Effect.{Effect}
use Rattle.epl_syntax.specs.declared.effect.Effect.TheVariants as effect
use Rattle.epl_syntax.specs.Edentype.{Edentype}
use Rattle.epl_syntax.specs.Meaning.{Turned, rep_of, type_of, first_values, values_from}
use Rattle.passive_store.specs.declared.store.Pick.{Pick}
use Rattle.passive_store.specs.declared.store.Pick.TheVariants as pick
use Rattle.journal.specs.EjectChange.{EjectChange, body, removal, kept_of}
use Rattle.journal.specs.declared.event.BootEnd.{BootEnd}
use Rattle.journal.specs.declared.event.BootEnd.TheVariants as boot_end
use Rattle.journal.specs.declared.event.Shown.{Shown}
use Rattle.journal.specs.declared.event.StartEnd.{StartEnd}
use Rattle.journal.specs.declared.event.StartEnd.TheVariants as start_end
use Rattle.journal.specs.declared.event.RequestEnd.{RequestEnd}
use Rattle.journal.specs.declared.event.RequestEnd.TheVariants as end
use Rattle.journal.specs.declared.event.Event.{Event}
use Rattle.journal.specs.declared.event.Event.TheVariants as event
use Rattle.journal.specs.World.{Active, Eject, StoreRequest, Node, Site, eject_in, on_eject, on_node, on_traffic}
use Rattle.journal.specs.Ejects.{with_active, with_queued, on_active, on_crew, is_there, told, tells, without_requests, deactivated}
use Rattle.journal.specs.Ejects.{turned_away, gone_if_unkept, fresh, next_uid, newborn, born}
use Rattle.journal.specs.Deliveries.{requested, tells_asker, received, heard}
use Rattle.journal.specs.Processes.{turn_of, turned, serving, with_start, start, without_process, asks_store, answers}
use Rattle.journal.specs.Processes.{refused_at_once, waits_or_told, creates, checkpoints, effected, process_turn}
use Rattle.journal.specs.Settling.{first_request, settled_eject, settled, unsynced, written_with, to_settle}
use Rattle.journal.specs.Crashes.{fallen, crashed}
use Rattle.journal.specs.Stores.{Work, syncs, reads, unkept, without_room, calls, work_of, more_made, doubted, tells_code, request_ended}
use Rattle.journal.specs.Stores.{removed, stored, done, worked, store_turn}
use Rattle.journal.specs.Starts.{AllowsActivate, start_of, misfits_answered, fits_at, activated, activation_turn}
use Rattle.journal.specs.Boots.{booted_node, boot_turn}
use Rattle.journal.specs.Step.{AllowsAt, site_turn}
use Rattle.history_laws.proofs.Frame.{eject-on_eject}
use Rattle.history_laws.proofs.KeptTurns.{value-each}
use Rattle.history_laws.proofs.SiteTurns.{IsNew}

-- Q holds of the values of an active part, and A where there is no Eject
abbrev pub VarsOf : (Uid → Type 0) → (Uid → List Datum → Type 0) → Uid → Option Eject → Type 0
VarsOf A Q u None = A u
VarsOf A Q u (Some e) = IfSome e.active (λ it. Q u it.vars)

abbrev pub VarsIn : (Uid → Type 0) → (Uid → List Datum → Type 0) → Site → Type 0
VarsIn A Q s = (u : Uid) → VarsOf A Q u (eject_in s u)

-- what the turn of a process gives
abbrev pub Gives : (Uid → List Datum → Type 0) → Site → Uid → ℕ → Type 0
Gives Q s v p = (e : Eject) → eject_in s v ≡ Some e → (it : Active) → e.active ≡ Some it → (t : Turned) → turn_of v it p ≡ Some t
    → Q v t.vars

-- where A holds any values do
module _ (A : Uid → Type 0) (Q : Uid → List Datum → Type 0) (any : (u : Uid) → A u → (vars : List Datum) → Q u vars) where
  -- 1. The primitives

  vars-on_eject : (v : Uid) (f : Eject → Eject) (s : Site)
      → ((e : Eject) → eject_in s v ≡ Some e → IfSome e.active (λ it. Q v it.vars) → IfSome (f e).active (λ it. Q v it.vars))
      → VarsIn A Q s → VarsIn A Q (on_eject v f s)
  vars-on_eject v f s keep h u = subst (VarsOf A Q u) (sym (eject-on_eject v u f s))
      (go (eq_by_cmp uid_cmp u v) refl (eject_in s u) refl (h u))
    where
      go : (b : Bool) → eq_by_cmp uid_cmp u v ≡ b → (o : Option Eject) → eject_in s u ≡ o → VarsOf A Q u o
          → VarsOf A Q u (cond b (option_map f o) o)
      go false same o at x = x
      go true same None at x = x
      go true same (Some e) at x = let here : u ≡ v = eq-same uid_cmp uid_cmp-IsAntisymmetric u v same in
          subst (λ k. IfSome (f e).active (λ it. Q k it.vars)) (sym here)
          (keep e (ap (eject_in s) (sym here) ∙ at) (subst (λ k. IfSome e.active (λ it. Q k it.vars)) here x))

  vars-on_traffic : (f : Traffic → Traffic) (s : Site) → VarsIn A Q s → VarsIn A Q (on_traffic f s)
  unfolding on_traffic
  vars-on_traffic f s h = h

  vars-on_node : (f : Node → Node) (s : Site) → (f s.node).ejects ≡ s.node.ejects → VarsIn A Q s → VarsIn A Q (on_node f s)
  unfolding on_node
  vars-on_node f s same h u = subst (λ es. VarsOf A Q u (value_at uid_cmp u es)) (sym same) (h u)

  vars-each : (f : Eject → Eject) (s : Site) (ejects : List (Uid × Eject)) → ejects ≡ each_value f s.node.ejects
      → ((u : Uid) (e : Eject) → IfSome e.active (λ it. Q u it.vars) → IfSome (f e).active (λ it. Q u it.vars)) → VarsIn A Q s
      → (u : Uid) → VarsOf A Q u (value_at uid_cmp u ejects)
  vars-each f s ejects same keep h u = subst (λ es. VarsOf A Q u (value_at uid_cmp u es)) (sym same)
      (subst (VarsOf A Q u) (sym (value-each u f s.node.ejects)) (go (eject_in s u) (h u)))
    where
      go : (o : Option Eject) → VarsOf A Q u o → VarsOf A Q u (option_map f o)
      go None x = x
      go (Some e) x = keep u e x

  vars-item : {X : Type 0} (s : Site) (o : Option X) (f : X → Site) → ((x : X) → o ≡ Some x → VarsIn A Q (f x))
      → VarsIn A Q s → VarsIn A Q (with_item o f s)
  vars-item s None f each h = h
  vars-item s (Some x) f each h = each x refl

  vars-cond : (b : Bool) (s t : Site) → VarsIn A Q s → VarsIn A Q t → VarsIn A Q (cond b s t)
  vars-cond true s t x y = x
  vars-cond false s t x y = y

  -- a change of the active part
  active-changed : (v : Uid) (f : Active → Active) (e : Eject) → ((it : Active) → Q v it.vars → Q v (f it).vars)
      → IfSome e.active (λ it. Q v it.vars) → IfSome (on_active f e).active (λ it. Q v it.vars)
  active-changed v f e keep h = go e.active refl h
    where
      go : (o : Option Active) → e.active ≡ o → IfSome o (λ it. Q v it.vars)
          → IfSome (with_item o (λ it. with_active (Some (f it)) e) e).active (λ it. Q v it.vars)
      go None is h = rw is tt
      go (Some it) is h = keep it h

  vars-on_active : (v : Uid) (f : Active → Active) (s : Site) → ((it : Active) → Q v it.vars → Q v (f it).vars)
      → VarsIn A Q s → VarsIn A Q (on_eject v (on_active f) s)
  vars-on_active v f s keep h = vars-on_eject v (on_active f) s (λ e at. active-changed v f e keep) h

  -- 2. The parts of a turn

  vars-on_crew : (v : Uid) (f : Crew → Crew) (s : Site) → VarsIn A Q s → VarsIn A Q (on_eject v (on_active (on_crew f)) s)
  vars-on_crew v f s h = vars-on_active v (on_crew f) s (λ it x. x) h

  vars-tells : (v : Uid) (p : ℕ) (a : Answer) (s : Site) → VarsIn A Q s → VarsIn A Q (tells v p a s)
  vars-tells v p a s h = vars-on_active v (told p a) s (λ it x. x) h

  vars-turned_away : (v : Uid) (why : Status) (s : Site) → VarsIn A Q s → VarsIn A Q (turned_away v why s)
  vars-turned_away v why s h =
      vars-item s (eject_in s v) _ (λ e is. vars-on_traffic (all_replied why e.queued) (on_eject v (with_queued []) s)
      (vars-on_eject v (with_queued []) s (λ x at old. old) h)) h

  vars-deactivated : (v : Uid) (s : Site) → VarsIn A Q s → VarsIn A Q (deactivated v s)
  vars-deactivated v s h = vars-item s (eject_in s v) _ (λ e is. vars-item s e.active _ (λ it is_it.
      vars-on_traffic (λ t. all_replied status.Dropped (running it.crew) (orphaned v t))
      (on_eject v (with_active None) (on_node (without_requests v) s))
      (vars-on_eject v (with_active None) (on_node (without_requests v) s) (λ x at old. tt)
      (vars-on_node (without_requests v) s refl h))) h) h

  vars-gone : (v : Uid) (s : Site) → VarsIn A Q s → VarsIn A Q (gone_if_unkept v s)
  vars-gone v s h = vars-item s (eject_in s v) _ (λ e is.
      vars-cond (is_there e) s (turned_away v status.Gone s) h (vars-turned_away v status.Gone s h)) h

  vars-asks : (v : Uid) (p : ℕ) (c : EjectChange) (s : Site) → VarsIn A Q s → VarsIn A Q (asks_store v p c s)
  vars-asks v p c s h = vars-on_node (λ it. record it {
    requests = it.requests ++ record { uid = v; process = Some p; change = c; made = 0 } ∷ [];
  }) (on_eject v (on_active (on_crew (set_waits p outside))) s) refl (vars-on_crew v (set_waits p outside) s h)

  vars-checkpoints : (v : Uid) (p : ℕ) (bytes : List ℕ) (s : Site) → VarsIn A Q s → VarsIn A Q (checkpoints v p bytes s)
  vars-checkpoints v p bytes s h =
      vars-cond (nat_le (length bytes) BODY_LIMIT) (asks_store v p (body bytes) s) (tells v p (Code status.TooLarge) s)
      (vars-asks v p (body bytes) s h) (vars-tells v p (Code status.TooLarge) s h)

  pub vars-born : (v : Uid) (t : Edentype) (vars : List Datum) (s : Site) → eject_in s v ≡ None → VarsIn A Q s
      → VarsIn A Q (born v (fresh t vars) s)
  unfolding on_node
  vars-born v t vars s absent h u = subst (VarsOf A Q u)
      (sym (find-put uid_cmp uid_cmp_total u v (grown (eject_in s v)) s.node.ejects)) (go (eq_by_cmp uid_cmp u v) refl)
    where
      grown : Option Eject → Eject
      grown o = with_item o (with_active (Some (fresh t vars))) (newborn (fresh t vars))

      go : (b : Bool) → eq_by_cmp uid_cmp u v ≡ b → VarsOf A Q u (cond b (Some (grown (eject_in s v))) (eject_in s u))
      go false same = h u
      go true same =
          let here : eject_in s u ≡ None = ap (eject_in s) (eq-same uid_cmp uid_cmp-IsAntisymmetric u v same) ∙ absent in
          subst (λ o. VarsOf A Q u (Some (grown o))) (sym absent) (any u (subst (VarsOf A Q u) here (h u)) vars)

  vars-creates : (v : Uid) (p : ℕ) (t : Option Edentype) (made : Result Uid Status) (s : Site) → next_uid s ≡ made → IsNew s
      → VarsIn A Q s → VarsIn A Q (creates v p t made s)
  vars-creates v p None made s is new h = h
  vars-creates v p (Some t) (Ok u) s is new h =
      vars-tells v p (Made status.Ok (Some (full u))) (born u (fresh t (first_values t)) s)
      (vars-born u t (first_values t) s (new u is) h)
  vars-creates v p (Some t) (Err why) s is new h = vars-tells v p (Made why None) s h

  vars-waits : (v : Uid) (p : ℕ) (o : Option Status) (s : Site) → VarsIn A Q s → VarsIn A Q (on_eject v (on_active (waits_or_told p o)) s)
  vars-waits v p None s h = vars-on_crew v (set_waits p outside) s h
  vars-waits v p (Some why) s h = vars-tells v p (Told why []) s h

  -- 3. A turn of a process

  vars-effected : (reach : ℕ → Bool) (v : Uid) (p : ℕ) (i : Option Invocation) (t : Edentype) (vars : List Datum) (e : Effect) (s : Site)
      → IsNew s → VarsIn A Q s → VarsIn A Q (effected reach v p i t vars e s)
  vars-effected reach v p i t vars (effect.Return results) s new h =
      vars-on_traffic (answers i results) (on_eject v (on_active (without_process p)) s)
      (vars-on_active v (without_process p) s (λ it x. x) h)
  vars-effected reach v p i t vars effect.End s new h = vars-on_active v (without_process p) s (λ it x. x) h
  vars-effected reach v p i t vars effect.Checkpoint s new h = vars-checkpoints v p (spelling (rep_of t vars)) s h
  vars-effected reach v p i t vars effect.Destroy s new h = vars-asks v p removal s h
  vars-effected reach v p i t vars effect.Deactivate s new h = vars-gone v (deactivated v s) (vars-deactivated v s h)
  vars-effected reach v p i t vars (effect.Fault cause) s new h =
      vars-turned_away v status.Dropped (deactivated v s) (vars-deactivated v s h)
  vars-effected reach v p i t vars (effect.Create type_name) s new h =
      vars-creates v p (type_of s.types type_name) (next_uid s) s refl new h
  vars-effected reach v p i t vars (effect.Invoke target operation args) s new h =
      let at_once = refused_at_once (reach target.uid.node) args in
      vars-on_traffic (λ t. with_call (next_call t) (Process v p) target operation args at_once t)
      (on_eject v (on_active (waits_or_told p at_once)) s) (vars-waits v p at_once s h)
  vars-effected reach v p i t vars (effect.Lock m) s new h = vars-on_crew v (locked p m) s h
  vars-effected reach v p i t vars (effect.Leave m) s new h = vars-on_crew v (left m) s h
  vars-effected reach v p i t vars (effect.Wait c) s new h = vars-on_crew v (waited p c) s h
  vars-effected reach v p i t vars (effect.Signal c) s new h = vars-on_crew v (signalled c) s h
  vars-effected reach v p i t vars effect.Yield s new h = h

  vars-process_turn : (reach : ℕ → Bool) (v : Uid) (p : ℕ) (s : Site) → ((f : Eject → Eject) → IsNew (on_eject v f s)) → Gives Q s v p
      → VarsIn A Q s → VarsIn A Q (process_turn reach v p s)
  vars-process_turn reach v p s new gives h = vars-item s (eject_in s v) _ (λ e is. vars-item s e.active _ (λ it is_it.
      vars-item s (turn_of v it p) _
      (λ t is_t. vars-effected reach v p (serving it p) it.kind t.vars t.effect (on_eject v (on_active (turned p t)) s)
      (new (on_active (turned p t)))
      (vars-on_active v (turned p t) s (λ y old. gives e is it is_it t is_t) h)) h) h) h

  -- 4. Deliveries, starts and crashes

  vars-requested : (k : ℕ) (refused : Option Status) (s : Site) → VarsIn A Q s → VarsIn A Q (requested k refused s)
  vars-requested k (Some why) s h = vars-on_traffic (λ t. replied why [] k (taken k t)) s h
  vars-requested k None s h = vars-item s (call_at s.traffic k) _ (λ c is.
      vars-on_eject c.target.uid (λ e. record e { queued = e.queued ++ k ∷ [] })
      (on_traffic (λ t. changed_call k (at_place held) (taken k t)) s) (λ e at old. old)
      (vars-on_traffic (λ t. changed_call k (at_place held) (taken k t)) s h)) h

  vars-tells_asker : (a : Asker) (why : Status) (values : List Datum) (s : Site) → VarsIn A Q s
      → VarsIn A Q (tells_asker a why values s)
  vars-tells_asker (Shell name) why values s h = h
  vars-tells_asker (Process v p) why values s h = vars-tells v p (Told why values) s h

  vars-heard : (k : ℕ) (why : Status) (values : List Datum) (s : Site) → VarsIn A Q s → VarsIn A Q (heard k why values s)
  vars-heard k why values s h = vars-item s (call_at s.traffic k) _ (λ c is.
      vars-cond c.open_ (tells_asker c.asker why values (on_traffic (received k) s)) (on_traffic (received k) s)
      (vars-tells_asker c.asker why values (on_traffic (received k) s) (vars-on_traffic (received k) s h))
      (vars-on_traffic (received k) s h))
      h

  vars-start : (v : Uid) (k p : ℕ) (s : Site) → VarsIn A Q s → VarsIn A Q (start v k p s)
  vars-start v k p s h = vars-item s (call_at s.traffic k) _ (λ c is.
      vars-on_eject v (λ e. record (on_active (with_start s.traffic k p c) e) { queued = filter (λ j. not (j == k)) e.queued }) s
      (λ e at old. active-changed v (with_start s.traffic k p c) e (λ it x. x) old) h) h

  vars-crashed : (s : Site) → VarsIn A Q s → VarsIn A Q (crashed s)
  unfolding on_traffic on_node
  vars-crashed s h = vars-each fallen s (each_value fallen s.node.ejects) refl (λ u e old. tt) h

  -- 5. The store

  vars-settled : (p : Option Pick) (s : Site) → VarsIn A Q s → VarsIn A Q (settled p s)
  unfolding on_node
  vars-settled None s h = h
  vars-settled (Some pick.Old) s h =
      vars-each (settled_eject pick.Old) s (each_value (settled_eject pick.Old) s.node.ejects) refl (λ u e old. old) h
  vars-settled (Some pick.New) s h =
      vars-each (settled_eject pick.New) s (each_value (settled_eject pick.New) s.node.ejects) refl (λ u e old. old) h

  vars-unsynced : (s : Site) → VarsIn A Q s → VarsIn A Q (unsynced s)
  vars-unsynced s h = vars-on_node (λ it. record it { synced = false }) s refl h

  vars-ended : (r : StoreRequest) (why : Status) (s : Site) → VarsIn A Q s → VarsIn A Q (request_ended r why s)
  vars-ended r why s h = go r.process
    where
      go : (p : Option ℕ) → VarsIn A Q (tells_code r.uid p why (on_node (λ it. record it { requests = rest it.requests }) s))
      go None = vars-on_node (λ it. record it { requests = rest it.requests }) s refl h
      go (Some p) = vars-tells r.uid p (Code why) (on_node (λ it. record it { requests = rest it.requests }) s)
          (vars-on_node (λ it. record it { requests = rest it.requests }) s refl h)

  vars-removed : (v : Uid) (c : EjectChange) (s : Site) → VarsIn A Q s → VarsIn A Q (removed c v s)
  vars-removed v (body bytes) s h = h
  vars-removed v removal s h = vars-turned_away v status.Gone (deactivated v s) (vars-deactivated v s h)

  vars-done : (r : StoreRequest) (s : Site) → VarsIn A Q s → VarsIn A Q (done r s)
  vars-done r s h = vars-removed r.uid r.change (request_ended r status.Ok s) (vars-ended r status.Ok s h)

  vars-doubted : (r : StoreRequest) (s : Site) → VarsIn A Q s → VarsIn A Q (doubted r s)
  vars-doubted r s h = vars-on_eject r.uid (λ e. record e { doubt = Some r.change }) s (λ e at old. old) h

  vars-stored : (r : StoreRequest) (s : Site) → VarsIn A Q s → VarsIn A Q (stored r s)
  vars-stored r s h = vars-on_node (λ it. record it { ledger = written_with s.layout r.change it.ledger })
      (on_eject r.uid (λ e. record e { kept = kept_of r.change; doubt = None }) s) refl
      (vars-on_eject r.uid (λ e. record e { kept = kept_of r.change; doubt = None }) s (λ e at old. old) h)

  vars-worked : (w : Work) (r : StoreRequest) (how : RequestEnd) (p : Option Pick) (s : Site) → VarsIn A Q s
      → VarsIn A Q (worked w r how p s)
  vars-worked syncs r end.Part p s h = vars-on_node (λ it. record it { synced = true }) s refl h
  vars-worked syncs r end.Done p s h = h
  vars-worked syncs r end.Full p s h = h
  vars-worked syncs r end.Fault p s h = vars-ended r status.StoreFault (unsynced s) (vars-unsynced s h)
  vars-worked syncs r end.Stop p s h = vars-crashed s h
  vars-worked reads r end.Part p s h = vars-settled p s h
  vars-worked reads r end.Done p s h = h
  vars-worked reads r end.Full p s h = h
  vars-worked reads r end.Fault p s h = vars-ended r status.StoreFault (unsynced s) (vars-unsynced s h)
  vars-worked reads r end.Stop p s h = vars-crashed s h
  vars-worked unkept r how p s h = vars-done r s h
  vars-worked without_room r how p s h = vars-ended r status.Full s h
  vars-worked calls r end.Part p s h =
      vars-on_node (λ it. record it { requests = more_made it.requests }) (doubted r s) refl (vars-doubted r s h)
  vars-worked calls r end.Done p s h = vars-done r (stored r s) (vars-stored r s h)
  vars-worked calls r end.Full p s h = h
  vars-worked calls r end.Fault p s h = vars-ended r status.StoreFault (doubted r s) (vars-doubted r s h)
  vars-worked calls r end.Stop p s h = vars-crashed (doubted r s) (vars-doubted r s h)

  vars-store_turn : (how : RequestEnd) (p : Option Pick) (s : Site) → VarsIn A Q s → VarsIn A Q (store_turn how p s)
  vars-store_turn how p s h = vars-item s (first_request s.node) _ (λ r is. vars-worked (work_of s r) r how p s h) h

  -- 6. Activations and boots

  vars-activated : (v : Uid) (how : StartEnd) (s : Site) → A v → VarsIn A Q s → VarsIn A Q (activated v how s)
  vars-activated v start_end.Ok s none h = vars-item s (eject_in s v) _ (λ e is. vars-item s e.kept _ (λ bytes is_b.
      vars-item s (start_of s.types bytes v) _ (λ start is_s. vars-on_traffic (misfits_answered start.0 e.queued) _
      (vars-on_eject v (λ old. record old {
        active = Some (fresh start.0 (values_from start.0 start.1));
        queued = filter (fits_at start.0 s.traffic) e.queued;
      }) s (λ x at old. any v none (values_from start.0 start.1)) h)) h) h) h
  vars-activated v start_end.Gone s none h = vars-turned_away v status.Gone s h
  vars-activated v start_end.Fault s none h = vars-turned_away v status.StoreFault s h
  vars-activated v start_end.Damaged s none h = vars-turned_away v status.Damaged s h
  vars-activated v start_end.Stop s none h = vars-crashed s h

  vars-activation : (v : Uid) (how : StartEnd) (p : Option Pick) (s : Site) → A v → VarsIn A Q s
      → VarsIn A Q (activation_turn v how p s)
  vars-activation v how p s none h = go (to_settle s)
    where
      go : (b : Bool) → VarsIn A Q (activated v how (cond b (settled p (unsynced s)) s))
      go true = vars-activated v how (settled p (unsynced s)) none (vars-settled p (unsynced s) (vars-unsynced s h))
      go false = vars-activated v how s none h

  vars-boot : (e : ℕ) (how : BootEnd) (p : Option Pick) (began : Bool) (s : Site) → VarsIn A Q s → VarsIn A Q (boot_turn e how p began s)
  vars-boot e how p began s h =
      vars-on_node (booted_node s e how began) (settled p s) (ejects how (settled p s).node) (vars-settled p s h)
    where
      ejects : (how : BootEnd) (it : Node) → (booted_node s e how began it).ejects ≡ it.ejects
      ejects boot_end.Up it = refl
      ejects boot_end.DiskFault it = refl
      ejects boot_end.Stop it = refl
      ejects (boot_end.Damaged place) it = refl
      ejects boot_end.EpochsSpent it = refl
      ejects boot_end.Full it = refl

  -- 7. Every turn

  -- an Eject that is activated was passive
  passive-before : (v : Uid) (how : StartEnd) (p : Option Pick) (s : Site)
      → ((u : Uid) (e : Eject) → eject_in s u ≡ Some e → e.active ≡ None → A u)
      → IsSomeAnd (eject_in s v) (λ e. AllowsActivate s v how p e) → A v
  passive-before v how p s passive allowed = go (eject_in s v) refl allowed
    where
      go : (o : Option Eject) → eject_in s v ≡ o → IsSomeAnd o (λ e. AllowsActivate s v how p e) → A v
      go None at a = absurd a
      go (Some e) at a = passive v e at a.is_passive

  pub vars-site_turn : (reach : ℕ → Bool) (e : Event) (s : Site) → AllowsAt s e → ((v : Uid) (f : Eject → Eject) → IsNew (on_eject v f s))
      → ((u : Uid) (x : Eject) → eject_in s u ≡ Some x → x.active ≡ None → A u)
      → ((v : Uid) (p : ℕ) (said : Shown) → e ≡ event.Process v p said → Gives Q s v p)
      → VarsIn A Q s → VarsIn A Q (site_turn reach e s)
  vars-site_turn reach (event.Request k a b refused) s allowed new passive gives h = vars-requested k refused s h
  vars-site_turn reach (event.Reply k a b name why values) s allowed new passive gives h = vars-heard k why values s h
  vars-site_turn reach (event.Activate v how p) s allowed new passive gives h =
      vars-activation v how p s (passive-before v how p s passive allowed) h
  vars-site_turn reach (event.Start k v p) s allowed new passive gives h = vars-start v k p s h
  vars-site_turn reach (event.Process v p said) s allowed new passive gives h =
      vars-process_turn reach v p s (new v) (gives v p said refl) h
  vars-site_turn reach (event.Store v c how p) s allowed new passive gives h = vars-store_turn how p s h
  vars-site_turn reach (event.Boot n e how p began) s allowed new passive gives h = vars-boot e how p began s h
  vars-site_turn reach (event.Crash n) s allowed new passive gives h = vars-crashed s h
  vars-site_turn reach _ s allowed new passive gives h = absurd allowed

  pub vars-told : (v : Uid) (p : ℕ) (a : Answer) (s : Site) → VarsIn A Q s → VarsIn A Q (tells v p a s)
  vars-told v p a s h = vars-tells v p a s h

  pub vars-fallen : (s : Site) → VarsIn A Q s → VarsIn A Q (crashed s)
  vars-fallen s h = vars-crashed s h
