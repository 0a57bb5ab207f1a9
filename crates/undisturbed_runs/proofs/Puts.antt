-- A put that waits at a store waits on behind every event at the node, unless the Eject loses its active part, or its own turn ends it.
use Rattle.std.proofs.Common.{◌≡◌, ◌==◌, ℕ, nat_le, Bool, true, false, cond, not, List, [], ◌∷◌, ◌++◌, Option, None, Some, Result, Ok}
use Rattle.std.proofs.Common.{Err, length, refl, sym, ◌∙◌, ap, subst, inl, inr}
use Rattle.std.specs.Prelude.{◌⊎◌, IsSomeAnd}
use Rattle.std.specs.List.{filter, filter_map, cons_option}
use Rattle.std.specs.Option.{option_map}
use Rattle.std.specs.Ordering.{eq_by_cmp}
use Rattle.capability.specs.declared.Uid.{Uid}
use Rattle.capability.specs.declared.TheConstants.{BODY_LIMIT}
use Rattle.capability.specs.Capability.{full}
use Rattle.eden_value.specs.Datum.{Datum}
use Rattle.eden_value.specs.declared.status.Status.{Status}
use Rattle.eden_value.specs.declared.status.Status.TheVariants as status
use Rattle.eden_codec.specs.Spelling.{spelling}
use Rattle.eden_model.specs.Map.{with_item, rest, uid_cmp, same_uid}
use Rattle.eden_model.specs.Traffic.{Traffic, held, call_at, changed_call, at_place, taken, replied, all_replied, orphaned, next_call}
use Rattle.eden_model.specs.Traffic.{with_call, without_node}
use Rattle.eden_model.specs.declared.Asker.{Asker}
use Rattle.eden_model.specs.declared.Asker.TheVariants.{Shell, Eject as Process}
use Rattle.eden_model.specs.Crew.{Invocation, outside, set_waits, locked, left, waited, signalled, running}
use Rattle.epl_syntax.specs.declared.effect.Answer.{Answer}
use Rattle.epl_syntax.specs.declared.effect.Answer.TheVariants.{Code, Reply as Told, Created as Made}
use Rattle.epl_syntax.specs.declared.effect.Effect.{Effect}
use Rattle.epl_syntax.specs.declared.effect.Effect.TheVariants as effect
use Rattle.epl_syntax.specs.Edentype.{Edentype}
use Rattle.epl_syntax.specs.Meaning.{rep_of, type_of, first_values}
use Rattle.passive_store.specs.declared.store.Pick.{Pick}
use Rattle.passive_store.specs.declared.store.Pick.TheVariants as pick
use Rattle.journal.specs.EjectChange.{EjectChange, body, removal, kept_of}
use Rattle.journal.specs.declared.event.Event.{Event}
use Rattle.journal.specs.declared.event.Event.TheVariants as event
use Rattle.journal.specs.declared.event.BootEnd.{BootEnd}
use Rattle.journal.specs.declared.event.BootEnd.TheVariants as boot_end
use Rattle.journal.specs.declared.event.StartEnd.{StartEnd}
use Rattle.journal.specs.declared.event.StartEnd.TheVariants as start_end
use Rattle.journal.specs.declared.event.RequestEnd.{RequestEnd}
use Rattle.journal.specs.declared.event.RequestEnd.TheVariants as end
use Rattle.journal.specs.World.{Site, Node, Eject, Active, StoreRequest, eject_in, on_eject, on_node, on_traffic}
use Rattle.journal.specs.Ejects.{born_in, with_active, with_queued, on_active, on_crew, is_there, told, tells, dropped_of, without_requests}
use Rattle.journal.specs.Ejects.{deactivated, turned_away, gone_if_unkept, fresh, next_uid, born}
use Rattle.journal.specs.Crashes.{crashed, down, fallen}
use Rattle.journal.specs.Deliveries.{requested, tells_asker, received, heard}
use Rattle.journal.specs.Processes.{turn_of, turned, serving, with_start, start, without_process, asks_store, answers, refused_at_once}
use Rattle.journal.specs.Processes.{waits_or_told, creates, checkpoints, effected, process_turn}
use Rattle.journal.specs.Settling.{first_request, settled, unsynced, written_with, to_settle}
use Rattle.journal.specs.Stores.{Work, syncs, reads, unkept, without_room, calls, EndsSo, AllowsStore, work_of, more_made, doubted}
use Rattle.journal.specs.Stores.{tells_code}
use Rattle.journal.specs.Stores.{request_ended, removed, stored, done, worked, store_turn}
use Rattle.journal.specs.Starts.{start_of, misfits_answered, activated, start_settled, activation_turn}
use Rattle.journal.specs.Boots.{booted_node, boot_turn}
use Rattle.journal.specs.Step.{AllowsAt, site_turn}
use Rattle.journal.specs.Sites.{active_in}
use Rattle.history_laws.proofs.Frame.{eject-on_eject, eject-on_traffic}
use Rattle.history_laws.proofs.KeptTurns.{value-each}
use Rattle.history_laws.proofs.SiteStores.{first-is}
use Rattle.undisturbed_runs.specs.Puts.{IsPutOf, Includes}

abbrev pub is_part : RequestEnd → Bool
is_part end.Part = true
is_part _ = false

module _ (u : Uid) (q : ℕ) (bytes : List ℕ) where
  -- the put waits at the site, or the Eject is not active there
  abbrev pub Has : Site → Type 0
  Has s = Includes u q bytes s.node.requests

  abbrev pub IsPassive : Site → Type 0
  IsPassive s = active_in (eject_in s u) ≡ None

  abbrev pub Left : Site → Type 0
  Left s = Has s ⊎ IsPassive s

  -- 1. The primitives

  has-on_eject : (v : Uid) (f : Eject → Eject) (s : Site) → Has s → Has (on_eject v f s)
  unfolding on_eject
  has-on_eject v f s h = h

  has-on_traffic : (f : Traffic → Traffic) (s : Site) → Has s → Has (on_traffic f s)
  unfolding on_traffic
  has-on_traffic f s h = h

  has-on_node : (f : Node → Node) (s : Site) → Includes u q bytes (f s.node).requests → Has (on_node f s)
  unfolding on_node
  has-on_node f s h = h

  passive-on_traffic : (f : Traffic → Traffic) (s : Site) → IsPassive s → IsPassive (on_traffic f s)
  passive-on_traffic f s h = ap active_in (eject-on_traffic u f s) ∙ h

  passive-on_eject : (v : Uid) (f : Eject → Eject) → ((e : Eject) → e.active ≡ None → (f e).active ≡ None) → (s : Site)
      → IsPassive s → IsPassive (on_eject v f s)
  passive-on_eject v f keeps s h = ap active_in (eject-on_eject v u f s) ∙ go (eq_by_cmp uid_cmp u v) (eject_in s u) h
    where
      go : (b : Bool) (o : Option Eject) → active_in o ≡ None → active_in (cond b (option_map f o) o) ≡ None
      go true None h = refl
      go true (Some e) h = keeps e h
      go false o h = h

  left-item : {X : Type 0} (s : Site) (o : Option X) (f : X → Site) → ((x : X) → o ≡ Some x → Left (f x)) → Left s → Left (with_item o f s)
  left-item s None f each h = h
  left-item s (Some x) f each h = each x refl

  has-item : {X : Type 0} (s : Site) (o : Option X) (f : X → Site) → ((x : X) → Has (f x)) → Has s → Has (with_item o f s)
  has-item s None f each h = h
  has-item s (Some x) f each h = each x

  left-cond : (b : Bool) (s t : Site) → Left s → Left t → Left (cond b s t)
  left-cond true s t a b = a
  left-cond false s t a b = b

  has-cond : (b : Bool) (s t : Site) → Has s → Has t → Has (cond b s t)
  has-cond true s t a b = a
  has-cond false s t a b = b

  -- 2. The requests

  includes-more : (rs xs : List StoreRequest) → Includes u q bytes rs → Includes u q bytes (rs ++ xs)
  includes-more [] xs h = absurd h
  includes-more (r ∷ rs) xs (inl h) = inl h
  includes-more (r ∷ rs) xs (inr h) = inr (includes-more rs xs h)

  includes-option : (o : Option StoreRequest) (rs : List StoreRequest) → Includes u q bytes rs → Includes u q bytes (cons_option o rs)
  includes-option None rs h = h
  includes-option (Some r) rs h = inr h

  -- the requests of another Eject are left out
  includes-without : (v : Uid) → same_uid u v ≡ false → (rs : List StoreRequest) → Includes u q bytes rs
      → Includes u q bytes (filter_map (dropped_of v) rs)
  includes-without v other [] h = absurd h
  includes-without v other (r ∷ rs) (inl h) = subst (λ o. Includes u q bytes (cons_option o (filter_map (dropped_of v) rs)))
      (sym (ap (λ b. cond b (cond (r.made == 0) None (Some (record r { process = None }))) (Some r))
      (ap (λ x. same_uid x v) h.of_uid ∙ other))) (inl h)
  includes-without v other (r ∷ rs) (inr h) =
      includes-option (dropped_of v r) (filter_map (dropped_of v) rs) (includes-without v other rs h)

  -- the first of them makes a device call
  includes-made : (rs : List StoreRequest) → Includes u q bytes rs → Includes u q bytes (more_made rs)
  includes-made [] h = absurd h
  includes-made (r ∷ rs) (inl h) = inl (record { of_uid = h.of_uid; process = h.process; change = h.change })
  includes-made (r ∷ rs) (inr h) = inr h

  -- 3. The parts of a turn

  pub has-tells : (v : Uid) (p : ℕ) (a : Answer) (s : Site) → Has s → Has (tells v p a s)
  has-tells v p a s h = has-on_eject v (on_active (told p a)) s h

  passive-active : (f : Active → Active) (e : Eject) → e.active ≡ None → (on_active f e).active ≡ None
  passive-active f e h = go e.active h
    where
      go : (o : Option Active) → o ≡ None → (with_item o (λ it. with_active (Some (f it)) e) e).active ≡ None
      go None is = h
      go (Some it) is = absurd (cc is)

  pub passive-tells : (v : Uid) (p : ℕ) (a : Answer) (s : Site) → IsPassive s → IsPassive (tells v p a s)
  passive-tells v p a s h = passive-on_eject v (on_active (told p a)) (passive-active (told p a)) s h

  has-turned_away : (v : Uid) (why : Status) (s : Site) → Has s → Has (turned_away v why s)
  has-turned_away v why s h = has-item s (eject_in s v) _ (λ e. has-on_traffic (all_replied why e.queued) (on_eject v (with_queued []) s)
      (has-on_eject v (with_queued []) s h)) h

  passive-turned_away : (v : Uid) (why : Status) (s : Site) → IsPassive s → IsPassive (turned_away v why s)
  passive-turned_away v why s h = go (eject_in s v)
    where
      go : (o : Option Eject) → IsPassive (with_item o (λ e. on_traffic (all_replied why e.queued) (on_eject v (with_queued []) s)) s)
      go None = h
      go (Some e) = passive-on_traffic (all_replied why e.queued) (on_eject v (with_queued []) s)
          (passive-on_eject v (with_queued []) (λ x none. none) s h)

  left-turned_away : (v : Uid) (why : Status) (s : Site) → Left s → Left (turned_away v why s)
  left-turned_away v why s (inl h) = inl (has-turned_away v why s h)
  left-turned_away v why s (inr h) = inr (passive-turned_away v why s h)

  left-without : (v : Uid) (it : Active) (s : Site) → Has s → Left (on_traffic
      (λ t. all_replied status.Dropped (running it.crew) (orphaned v t)) (on_eject v (with_active None) (on_node (without_requests v) s)))
  left-without v it s h = go (same_uid u v) refl
    where
      part : Site
      part = on_node (without_requests v) s

      ended : (o : Option Eject) → active_in (option_map (with_active None) o) ≡ None
      ended None = refl
      ended (Some e) = refl

      go : (b : Bool) → same_uid u v ≡ b
          → Left (on_traffic (λ t. all_replied status.Dropped (running it.crew) (orphaned v t)) (on_eject v (with_active None) part))
      go true is = inr (passive-on_traffic (λ t. all_replied status.Dropped (running it.crew) (orphaned v t))
          (on_eject v (with_active None) part) (ap active_in (eject-on_eject v u (with_active None) part)
          ∙ ap (λ b. active_in (cond b (option_map (with_active None) (eject_in part u)) (eject_in part u))) is ∙ ended (eject_in part u)))
      go false is = inl (has-on_traffic (λ t. all_replied status.Dropped (running it.crew) (orphaned v t))
          (on_eject v (with_active None) part) (has-on_eject v (with_active None) part
          (has-on_node (without_requests v) s (includes-without v is s.node.requests h))))

  left-deactivated : (v : Uid) (s : Site) → Has s → Left (deactivated v s)
  left-deactivated v s h = left-item s (eject_in s v) _ (λ e is. left-item s e.active _ (λ it is_it. left-without v it s h) (inl h)) (inl h)

  left-gone : (v : Uid) (s : Site) → Left s → Left (gone_if_unkept v s)
  left-gone v s h = left-item s (eject_in s v) _
      (λ e is. left-cond (is_there e) s (turned_away v status.Gone s) h (left-turned_away v status.Gone s h)) h

  has-asks : (v : Uid) (p : ℕ) (c : EjectChange) (s : Site) → Has s → Has (asks_store v p c s)
  has-asks v p c s h = has-on_node _ (on_eject v (on_active (on_crew (set_waits p outside))) s)
      (includes-more _ _ (has-on_eject v (on_active (on_crew (set_waits p outside))) s h))

  has-checkpoints : (v : Uid) (p : ℕ) (put : List ℕ) (s : Site) → Has s → Has (checkpoints v p put s)
  has-checkpoints v p put s h = has-cond (nat_le (length put) BODY_LIMIT) (asks_store v p (body put) s) (tells v p (Code status.TooLarge) s)
      (has-asks v p (body put) s h) (has-tells v p (Code status.TooLarge) s h)

  pub has-born : (v : Uid) (it : Active) (s : Site) → Has s → Has (born v it s)
  has-born v it s h = has-on_node (λ node. born_in v it node (eject_in s v)) s h

  has-creates : (v : Uid) (p : ℕ) (t : Option Edentype) (made : Result Uid Status) (s : Site) → Has s → Has (creates v p t made s)
  has-creates v p None made s h = h
  has-creates v p (Some t) (Ok new) s h = has-tells v p (Made status.Ok (Some (full new))) (born new (fresh t (first_values t)) s)
      (has-born new (fresh t (first_values t)) s h)
  has-creates v p (Some t) (Err why) s h = has-tells v p (Made why None) s h

  left-effected : (reach : ℕ → Bool) (v : Uid) (p : ℕ) (i : Option Invocation) (t : Edentype) (vars : List Datum) (e : Effect) (s : Site)
      → Has s → Left (effected reach v p i t vars e s)
  left-effected reach v p i t vars (effect.Return results) s h = inl (has-on_traffic (answers i results)
      (on_eject v (on_active (without_process p)) s) (has-on_eject v (on_active (without_process p)) s h))
  left-effected reach v p i t vars effect.End s h = inl (has-on_eject v (on_active (without_process p)) s h)
  left-effected reach v p i t vars effect.Checkpoint s h = inl (has-checkpoints v p (spelling (rep_of t vars)) s h)
  left-effected reach v p i t vars effect.Destroy s h = inl (has-asks v p removal s h)
  left-effected reach v p i t vars effect.Deactivate s h = left-gone v (deactivated v s) (left-deactivated v s h)
  left-effected reach v p i t vars (effect.Fault cause) s h = left-turned_away v status.Dropped (deactivated v s) (left-deactivated v s h)
  left-effected reach v p i t vars (effect.Create type_name) s h = inl (has-creates v p (type_of s.types type_name) (next_uid s) s h)
  left-effected reach v p i t vars (effect.Invoke target operation args) s h =
      let at_once = refused_at_once (reach target.uid.node) args in
      inl (has-on_traffic (λ t. with_call (next_call t) (Process v p) target operation args at_once t)
      (on_eject v (on_active (waits_or_told p at_once)) s)
      (has-on_eject v (on_active (waits_or_told p at_once)) s h))
  left-effected reach v p i t vars (effect.Lock m) s h = inl (has-on_eject v (on_active (on_crew (locked p m))) s h)
  left-effected reach v p i t vars (effect.Leave m) s h = inl (has-on_eject v (on_active (on_crew (left m))) s h)
  left-effected reach v p i t vars (effect.Wait c) s h = inl (has-on_eject v (on_active (on_crew (waited p c))) s h)
  left-effected reach v p i t vars (effect.Signal c) s h = inl (has-on_eject v (on_active (on_crew (signalled c))) s h)
  left-effected reach v p i t vars effect.Yield s h = inl h

  left-process_turn : (reach : ℕ → Bool) (v : Uid) (p : ℕ) (s : Site) → Has s → Left (process_turn reach v p s)
  left-process_turn reach v p s h = left-item s (eject_in s v) _
      (λ e is. left-item s e.active _ (λ it is_it. left-item s (turn_of v it p) _ (λ t is_t.
      left-effected reach v p (serving it p) it.kind t.vars t.effect (on_eject v (on_active (turned p t)) s)
      (has-on_eject v (on_active (turned p t)) s h)) (inl h)) (inl h)) (inl h)

  -- 4. The other turns

  pub passive-crashed : (s : Site) → IsPassive (crashed s)
  unfolding on_node
  passive-crashed s = ap active_in (eject-on_traffic u (without_node s.number) (on_node down s) ∙ value-each u fallen s.node.ejects)
      ∙ go (eject_in s u)
    where
      go : (o : Option Eject) → active_in (option_map fallen o) ≡ None
      go None = refl
      go (Some e) = refl

  has-requested : (k : ℕ) (refused : Option Status) (s : Site) → Has s → Has (requested k refused s)
  has-requested k (Some why) s h = has-on_traffic (λ t. replied why [] k (taken k t)) s h
  has-requested k None s h = has-item s (call_at s.traffic k) _ (λ c.
      has-on_eject c.target.uid (λ e. record e { queued = e.queued ++ k ∷ [] })
      (on_traffic (λ t. changed_call k (at_place held) (taken k t)) s)
      (has-on_traffic (λ t. changed_call k (at_place held) (taken k t)) s h)) h

  has-tells_asker : (a : Asker) (why : Status) (values : List Datum) (s : Site) → Has s → Has (tells_asker a why values s)
  has-tells_asker (Shell name) why values s h = h
  has-tells_asker (Process v p) why values s h = has-tells v p (Told why values) s h

  has-heard : (k : ℕ) (why : Status) (values : List Datum) (s : Site) → Has s → Has (heard k why values s)
  has-heard k why values s h = has-item s (call_at s.traffic k) _ (λ c.
      has-cond c.open_ (tells_asker c.asker why values (on_traffic (received k) s)) (on_traffic (received k) s)
      (has-tells_asker c.asker why values (on_traffic (received k) s) (has-on_traffic (received k) s h))
      (has-on_traffic (received k) s h)) h

  has-start : (v : Uid) (k p : ℕ) (s : Site) → Has s → Has (start v k p s)
  has-start v k p s h = has-item s (call_at s.traffic k) _ (λ c.
      has-on_eject v (λ e. record (on_active (with_start s.traffic k p c) e) { queued = filter (λ j. not (j == k)) e.queued }) s
      h) h

  has-settled : (p : Option Pick) (s : Site) → Has s → Has (settled p s)
  unfolding on_node
  has-settled None s h = h
  has-settled (Some pick.Old) s h = h
  has-settled (Some pick.New) s h = h

  has-unsynced : (s : Site) → Has s → Has (unsynced s)
  has-unsynced s h = has-on_node (λ it. record it { synced = false }) s h

  has-start_settled : (p : Option Pick) (s : Site) → Has s → Has (start_settled p s)
  has-start_settled p s h = has-cond (to_settle s) (settled p (unsynced s)) s (has-settled p (unsynced s) (has-unsynced s h)) h

  has-awake : (v : Uid) (s : Site) → Has s → Has (activated v start_end.Ok s)
  has-awake v s h = has-item s (eject_in s v) _ (λ e. has-item s e.kept _ (λ kept. has-item s (start_of s.types kept v) _ (λ start.
      has-on_traffic (misfits_answered start.0 e.queued) _ (has-on_eject v _ s h)) h) h) h

  left-activation : (v : Uid) (how : StartEnd) (p : Option Pick) (s : Site) → Has s → Left (activation_turn v how p s)
  left-activation v start_end.Ok p s h = inl (has-awake v (start_settled p s) (has-start_settled p s h))
  left-activation v start_end.Gone p s h = inl (has-turned_away v status.Gone (start_settled p s) (has-start_settled p s h))
  left-activation v start_end.Fault p s h = inl (has-turned_away v status.StoreFault (start_settled p s) (has-start_settled p s h))
  left-activation v start_end.Damaged p s h = inl (has-turned_away v status.Damaged (start_settled p s) (has-start_settled p s h))
  left-activation v start_end.Stop p s h = inr (passive-crashed (start_settled p s))

  has-booted : (s : Site) (e : ℕ) (how : BootEnd) (began : Bool) (it : Node) → Includes u q bytes it.requests
      → Includes u q bytes (booted_node s e how began it).requests
  has-booted s e boot_end.Up began it h = h
  has-booted s e boot_end.DiskFault began it h = h
  has-booted s e boot_end.Stop began it h = h
  has-booted s e (boot_end.Damaged place) began it h = h
  has-booted s e boot_end.EpochsSpent began it h = h
  has-booted s e boot_end.Full began it h = h

  has-boot : (e : ℕ) (how : BootEnd) (p : Option Pick) (began : Bool) (s : Site) → Has s → Has (boot_turn e how p began s)
  has-boot e how p began s h = has-on_node (booted_node s e how began) (settled p s)
      (has-booted s e how began (settled p s).node (has-settled p s h))

  -- 5. The store

  -- the put waits behind the first request
  abbrev Behind : Site → Type 0
  Behind s = Includes u q bytes (rest s.node.requests)

  behind-on_eject : (v : Uid) (f : Eject → Eject) (s : Site) → Behind s → Behind (on_eject v f s)
  unfolding on_eject
  behind-on_eject v f s h = h

  behind-on_node : (f : Node → Node) (s : Site) → Includes u q bytes (rest (f s.node).requests) → Behind (on_node f s)
  unfolding on_node
  behind-on_node f s h = h

  has-ended : (r : StoreRequest) (why : Status) (s : Site) → Behind s → Has (request_ended r why s)
  has-ended r why s h = go r.process
    where
      go : (p : Option ℕ) → Has (tells_code r.uid p why (on_node (λ it. record it { requests = rest it.requests }) s))
      go None = has-on_node (λ it. record it { requests = rest it.requests }) s h
      go (Some p) = has-tells r.uid p (Code why) (on_node (λ it. record it { requests = rest it.requests }) s)
          (has-on_node (λ it. record it { requests = rest it.requests }) s h)

  left-removed : (v : Uid) (c : EjectChange) (s : Site) → Has s → Left (removed c v s)
  left-removed v (body put) s h = inl h
  left-removed v removal s h = left-turned_away v status.Gone (deactivated v s) (left-deactivated v s h)

  left-done : (r : StoreRequest) (s : Site) → Behind s → Left (done r s)
  left-done r s h = left-removed r.uid r.change (request_ended r status.Ok s) (has-ended r status.Ok s h)

  has-doubted : (r : StoreRequest) (s : Site) → Has s → Has (doubted r s)
  has-doubted r s h = has-on_eject r.uid (λ e. record e { doubt = Some r.change }) s h

  behind-doubted : (r : StoreRequest) (s : Site) → Behind s → Behind (doubted r s)
  behind-doubted r s h = behind-on_eject r.uid (λ e. record e { doubt = Some r.change }) s h

  behind-unsynced : (s : Site) → Behind s → Behind (unsynced s)
  behind-unsynced s h = behind-on_node (λ it. record it { synced = false }) s h

  behind-stored : (r : StoreRequest) (s : Site) → Behind s → Behind (stored r s)
  behind-stored r s h = behind-on_node (λ it. record it { ledger = written_with s.layout r.change it.ledger })
      (on_eject r.uid (λ e. record e { kept = kept_of r.change; doubt = None }) s)
      (behind-on_eject r.uid (λ e. record e { kept = kept_of r.change; doubt = None }) s h)

  -- a part of the work ends no request
  has-part : (w : Work) (r : StoreRequest) (p : Option Pick) (s : Site) → EndsSo w end.Part p → Has s → Has (worked w r end.Part p s)
  has-part syncs r p s ends h = has-on_node (λ it. record it { synced = true }) s h
  has-part reads r p s ends h = has-settled p s h
  has-part unkept r p s ends h = absurd ends
  has-part without_room r p s ends h = absurd ends
  has-part calls r p s ends h = has-on_node (λ it. record it { requests = more_made it.requests }) (doubted r s)
      (includes-made _ (has-doubted r s h))

  -- what waits behind the first request waits on
  left-behind : (w : Work) (r : StoreRequest) (how : RequestEnd) (p : Option Pick) (s : Site) → EndsSo w how p → Has s → Behind s
      → Left (worked w r how p s)
  left-behind w r end.Part p s ends h b = inl (has-part w r p s ends h)
  left-behind syncs r end.Done p s ends h b = absurd ends
  left-behind syncs r end.Full p s ends h b = absurd ends
  left-behind syncs r end.Fault p s ends h b = inl (has-ended r status.StoreFault (unsynced s) (behind-unsynced s b))
  left-behind syncs r end.Stop p s ends h b = inr (passive-crashed s)
  left-behind reads r end.Done p s ends h b = absurd ends
  left-behind reads r end.Full p s ends h b = absurd ends
  left-behind reads r end.Fault p s ends h b = inl (has-ended r status.StoreFault (unsynced s) (behind-unsynced s b))
  left-behind reads r end.Stop p s ends h b = inr (passive-crashed s)
  left-behind unkept r end.Done p s ends h b = left-done r s b
  left-behind unkept r end.Full p s ends h b = absurd ends
  left-behind unkept r end.Fault p s ends h b = absurd ends
  left-behind unkept r end.Stop p s ends h b = absurd ends
  left-behind without_room r end.Full p s ends h b = inl (has-ended r status.Full s b)
  left-behind without_room r end.Done p s ends h b = absurd ends
  left-behind without_room r end.Fault p s ends h b = absurd ends
  left-behind without_room r end.Stop p s ends h b = absurd ends
  left-behind calls r end.Done p s ends h b = left-done r (stored r s) (behind-stored r s b)
  left-behind calls r end.Full p s ends h b = absurd ends
  left-behind calls r end.Fault p s ends h b = inl (has-ended r status.StoreFault (doubted r s) (behind-doubted r s b))
  left-behind calls r end.Stop p s ends h b = inr (passive-crashed (doubted r s))

  -- the first request of the site is the put, and the event ends it
  abbrev pub EndsIt : Event → Site → Type 0
  EndsIt (event.Store v clock how p) s = (is_part how ≡ false) × IsSomeAnd (first_request s.node) (IsPutOf u q bytes)
  EndsIt _ s = ⊥

  left-store : (v : Uid) (clock : ℕ) (how : RequestEnd) (p : Option Pick) (s : Site)
      → IsSomeAnd (first_request s.node) (λ r. AllowsStore s v how p r) → Has s
      → Left (store_turn how p s) ⊎ EndsIt (event.Store v clock how p) s
  left-store v clock how p s allowed h = go (first_request s.node) refl allowed
    where
      parted : (b : Bool) → is_part how ≡ b → (r : StoreRequest) → first_request s.node ≡ Some r → AllowsStore s v how p r
          → IsPutOf u q bytes r → Left (worked (work_of s r) r how p s) ⊎ EndsIt (event.Store v clock how p) s
      parted false is r begins a put = inr (is, subst (λ o. IsSomeAnd o (IsPutOf u q bytes)) (sym begins) put)
      parted true is r begins a put = inl (inl (part how is a.ends))
        where
          part : (k : RequestEnd) → is_part k ≡ true → EndsSo (work_of s r) k p → Has (worked (work_of s r) r k p s)
          part end.Part is ends = has-part (work_of s r) r p s ends h
          part end.Done is ends = absurd (cc is)
          part end.Full is ends = absurd (cc is)
          part end.Fault is ends = absurd (cc is)
          part end.Stop is ends = absurd (cc is)

      first_or_not : (r : StoreRequest) → first_request s.node ≡ Some r → AllowsStore s v how p r
          → Includes u q bytes (r ∷ rest s.node.requests)
          → Left (worked (work_of s r) r how p s) ⊎ EndsIt (event.Store v clock how p) s
      first_or_not r begins a (inl put) = parted (is_part how) refl r begins a put
      first_or_not r begins a (inr b) = inl (left-behind (work_of s r) r how p s a.ends h b)

      go : (o : Option StoreRequest) → first_request s.node ≡ o → IsSomeAnd o (λ r. AllowsStore s v how p r)
          → Left (with_item o (λ r. worked (work_of s r) r how p s) s) ⊎ EndsIt (event.Store v clock how p) s
      go None begins a = absurd a
      go (Some r) begins a = first_or_not r begins a (subst (Includes u q bytes) (first-is s.node.requests r begins) h)

  -- 6. Every event

  pub left-turn : (reach : ℕ → Bool) (e : Event) (s : Site) → AllowsAt s e → Has s → Left (site_turn reach e s) ⊎ EndsIt e s
  left-turn reach (event.Request k a b refused) s allowed h = inl (inl (has-requested k refused s h))
  left-turn reach (event.Reply k a b name why values) s allowed h = inl (inl (has-heard k why values s h))
  left-turn reach (event.Activate v how p) s allowed h = inl (left-activation v how p s h)
  left-turn reach (event.Start k v p) s allowed h = inl (inl (has-start v k p s h))
  left-turn reach (event.Process v p said) s allowed h = inl (left-process_turn reach v p s h)
  left-turn reach (event.Store v clock how p) s allowed h = left-store v clock how p s allowed h
  left-turn reach (event.Boot n e how p began) s allowed h = inl (inl (has-boot e how p began s h))
  left-turn reach (event.Crash n) s allowed h = inl (inr (passive-crashed s))
  left-turn reach (event.Still n up) s allowed h = absurd allowed
  left-turn reach (event.Link a b joined) s allowed h = absurd allowed
  left-turn reach (event.Armed n what) s allowed h = absurd allowed
  left-turn reach (event.Made name why v) s allowed h = absurd allowed
  left-turn reach (event.Bound name kept) s allowed h = absurd allowed
  left-turn reach (event.Void name) s allowed h = absurd allowed
  left-turn reach (event.Asked k name at_once) s allowed h = absurd allowed
  left-turn reach event.Quiet s allowed h = absurd allowed
  left-turn reach event.Spent s allowed h = absurd allowed
  left-turn reach (event.Left names) s allowed h = absurd allowed
