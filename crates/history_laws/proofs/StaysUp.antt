-- A node that is up stays up in every turn that does not stop it.
use Rattle.std.proofs.Common.{◌≡◌, ◌==◌, ℕ, nat_le, Bool, true, false, cond, not, List, [], ◌∷◌, ◌++◌, Option, None, Some, Result, Ok}
use Rattle.std.proofs.Common.{Err, length, refl}
use Rattle.std.specs.List.{filter}
use Rattle.capability.specs.declared.Uid.{Uid}
use Rattle.capability.specs.declared.TheConstants.{BODY_LIMIT}
use Rattle.eden_value.specs.Datum.{Datum}
use Rattle.eden_value.specs.declared.status.Status.{Status}
use Rattle.eden_value.specs.declared.status.Status.TheVariants as status
use Rattle.eden_codec.specs.Spelling.{spelling}
use Rattle.eden_model.specs.Map.{with_item, rest}
use Rattle.eden_model.specs.Traffic.{Traffic, held, call_at, changed_call, at_place, taken, replied, all_replied, orphaned, next_call}
use Rattle.eden_model.specs.Traffic.{with_call}
use Rattle.eden_model.specs.declared.Asker.{Asker}
use Rattle.eden_model.specs.declared.Asker.TheVariants.{Shell, Eject as Process}
use Rattle.eden_model.specs.Crew.{Invocation, outside, set_waits, locked, left, waited, signalled, running}
use Rattle.epl_syntax.specs.declared.effect.Answer.{Answer}
use Rattle.epl_syntax.specs.declared.effect.Answer.TheVariants.{Code, Reply as Told, Created as Made}
use Rattle.epl_syntax.specs.declared.effect.Effect.{Effect}
use Rattle.epl_syntax.specs.declared.effect.Effect.TheVariants as effect
use Rattle.epl_syntax.specs.Edentype.{Edentype}
use Rattle.epl_syntax.specs.Meaning.{rep_of, type_of, first_values}
use Rattle.passive_store.specs.declared.store.Pick.{Pick}
use Rattle.passive_store.specs.declared.store.Pick.TheVariants as pick
use Rattle.journal.specs.EjectChange.{EjectChange, body, removal, kept_of}
use Rattle.journal.specs.declared.event.StartEnd.{StartEnd}
use Rattle.journal.specs.declared.event.StartEnd.TheVariants as start_end
use Rattle.journal.specs.declared.event.RequestEnd.{RequestEnd}
use Rattle.journal.specs.declared.event.RequestEnd.TheVariants as end
use Rattle.journal.specs.World.{Site, Node, Eject, Active, StoreRequest, eject_in, on_eject, on_node, on_traffic}
use Rattle.journal.specs.Ejects.{born_in, with_active, with_queued, on_active, on_crew, is_there, told, tells, without_requests}
use Rattle.journal.specs.Ejects.{deactivated, turned_away, gone_if_unkept, fresh, next_uid, born}
use Rattle.journal.specs.Deliveries.{requested, tells_asker, received, heard}
use Rattle.journal.specs.Processes.{turn_of, turned, serving, with_start, start, without_process, asks_store, answers, refused_at_once}
use Rattle.journal.specs.Processes.{waits_or_told, creates, checkpoints, effected, process_turn}
use Rattle.journal.specs.Settling.{first_request, settled, unsynced, written_with, to_settle}
use Rattle.journal.specs.Stores.{Work, syncs, reads, unkept, without_room, calls, work_of, more_made, doubted, tells_code, request_ended}
use Rattle.journal.specs.Stores.{removed, stored, done, worked, store_turn}
use Rattle.journal.specs.Starts.{start_of, misfits_answered, activated, start_settled, activation_turn}
use Rattle.capability.specs.Capability.{full}
use Rattle.history_laws.proofs.StoreLaw.{is_stop}
use Rattle.history_laws.proofs.StartWhole.{is_stopped}

abbrev pub IsUp : Site → Type 0
IsUp s = s.node.up ≡ true

-- 1. The primitives

up-on_eject : (v : Uid) (f : Eject → Eject) (s : Site) → IsUp s → IsUp (on_eject v f s)
unfolding on_eject
up-on_eject v f s h = h

up-on_traffic : (f : Traffic → Traffic) (s : Site) → IsUp s → IsUp (on_traffic f s)
unfolding on_traffic
up-on_traffic f s h = h

pub up-on_node : (f : Node → Node) (s : Site) → (f s.node).up ≡ true → IsUp (on_node f s)
unfolding on_node
up-on_node f s h = h

up-item : {X : Type 0} (s : Site) (o : Option X) (f : X → Site) → ((x : X) → o ≡ Some x → IsUp (f x)) → IsUp s → IsUp (with_item o f s)
up-item s None f each h = h
up-item s (Some x) f each h = each x refl

up-cond : (b : Bool) (s t : Site) → IsUp s → IsUp t → IsUp (cond b s t)
up-cond true s t a b = a
up-cond false s t a b = b

-- 4. The parts of a turn

pub up-tells : (v : Uid) (p : ℕ) (a : Answer) (s : Site) → IsUp s → IsUp (tells v p a s)
up-tells v p a s h = up-on_eject v (on_active (told p a)) s h

up-turned_away : (v : Uid) (why : Status) (s : Site) → IsUp s → IsUp (turned_away v why s)
up-turned_away v why s h = up-item s (eject_in s v) _
    (λ e is. up-on_traffic (all_replied why e.queued) (on_eject v (with_queued []) s) (up-on_eject v (with_queued []) s h)) h

up-deactivated : (v : Uid) (s : Site) → IsUp s → IsUp (deactivated v s)
up-deactivated v s h = up-item s (eject_in s v) _ (λ e is. up-item s e.active _ (λ it is_it.
    up-on_traffic (λ t. all_replied status.Dropped (running it.crew) (orphaned v t))
    (on_eject v (with_active None) (on_node (without_requests v) s))
    (up-on_eject v (with_active None) (on_node (without_requests v) s) (up-on_node (without_requests v) s h))) h) h

up-gone : (v : Uid) (s : Site) → IsUp s → IsUp (gone_if_unkept v s)
up-gone v s h = up-item s (eject_in s v) _
    (λ e is. up-cond (is_there e) s (turned_away v status.Gone s) h (up-turned_away v status.Gone s h)) h

up-asks : (v : Uid) (p : ℕ) (c : EjectChange) (s : Site) → IsUp s → IsUp (asks_store v p c s)
up-asks v p c s h = up-on_node _ (on_eject v (on_active (on_crew (set_waits p outside))) s)
    (up-on_eject v (on_active (on_crew (set_waits p outside))) s h)

up-checkpoints : (v : Uid) (p : ℕ) (bytes : List ℕ) (s : Site) → IsUp s → IsUp (checkpoints v p bytes s)
up-checkpoints v p bytes s h = up-cond (nat_le (length bytes) BODY_LIMIT) (asks_store v p (body bytes) s)
    (tells v p (Code status.TooLarge) s)
    (up-asks v p (body bytes) s h) (up-tells v p (Code status.TooLarge) s h)

pub up-born : (v : Uid) (it : Active) (s : Site) → IsUp s → IsUp (born v it s)
up-born v it s h = up-on_node (λ node. born_in v it node (eject_in s v)) s h

up-creates : (v : Uid) (p : ℕ) (t : Option Edentype) (made : Result Uid Status) (s : Site) → IsUp s → IsUp (creates v p t made s)
up-creates v p None made s h = h
up-creates v p (Some t) (Ok new) s h = up-tells v p (Made status.Ok (Some (full new))) (born new (fresh t (first_values t)) s)
    (up-born new (fresh t (first_values t)) s h)
up-creates v p (Some t) (Err why) s h = up-tells v p (Made why None) s h

up-effected : (reach : ℕ → Bool) (v : Uid) (p : ℕ) (i : Option Invocation) (t : Edentype) (vars : List Datum) (e : Effect) (s : Site)
    → IsUp s → IsUp (effected reach v p i t vars e s)
up-effected reach v p i t vars (effect.Return results) s h = up-on_traffic (answers i results)
    (on_eject v (on_active (without_process p)) s) (up-on_eject v (on_active (without_process p)) s h)
up-effected reach v p i t vars effect.End s h = up-on_eject v (on_active (without_process p)) s h
up-effected reach v p i t vars effect.Checkpoint s h = up-checkpoints v p (spelling (rep_of t vars)) s h
up-effected reach v p i t vars effect.Destroy s h = up-asks v p removal s h
up-effected reach v p i t vars effect.Deactivate s h = up-gone v (deactivated v s) (up-deactivated v s h)
up-effected reach v p i t vars (effect.Fault cause) s h = up-turned_away v status.Dropped (deactivated v s) (up-deactivated v s h)
up-effected reach v p i t vars (effect.Create type_name) s h = up-creates v p (type_of s.types type_name) (next_uid s) s h
up-effected reach v p i t vars (effect.Invoke target operation args) s h = let at_once = refused_at_once (reach target.uid.node) args in
    up-on_traffic (λ t. with_call (next_call t) (Process v p) target operation args at_once t)
    (on_eject v (on_active (waits_or_told p at_once)) s)
    (up-on_eject v (on_active (waits_or_told p at_once)) s h)
up-effected reach v p i t vars (effect.Lock m) s h = up-on_eject v (on_active (on_crew (locked p m))) s h
up-effected reach v p i t vars (effect.Leave m) s h = up-on_eject v (on_active (on_crew (left m))) s h
up-effected reach v p i t vars (effect.Wait c) s h = up-on_eject v (on_active (on_crew (waited p c))) s h
up-effected reach v p i t vars (effect.Signal c) s h = up-on_eject v (on_active (on_crew (signalled c))) s h
up-effected reach v p i t vars effect.Yield s h = h

pub up-process_turn : (reach : ℕ → Bool) (v : Uid) (p : ℕ) (s : Site) → IsUp s → IsUp (process_turn reach v p s)
up-process_turn reach v p s h = up-item s (eject_in s v) _
    (λ e is. up-item s e.active _ (λ it is_it. up-item s (turn_of v it p) _ (λ t is_t.
    up-effected reach v p (serving it p) it.kind t.vars t.effect (on_eject v (on_active (turned p t)) s)
    (up-on_eject v (on_active (turned p t)) s h)) h) h) h

-- 5. The other turns

pub up-requested : (k : ℕ) (refused : Option Status) (s : Site) → IsUp s → IsUp (requested k refused s)
up-requested k (Some why) s h = up-on_traffic (λ t. replied why [] k (taken k t)) s h
up-requested k None s h = up-item s (call_at s.traffic k) _ (λ c is.
    up-on_eject c.target.uid (λ e. record e { queued = e.queued ++ k ∷ [] })
    (on_traffic (λ t. changed_call k (at_place held) (taken k t)) s)
    (up-on_traffic (λ t. changed_call k (at_place held) (taken k t)) s h)) h

up-tells_asker : (a : Asker) (why : Status) (values : List Datum) (s : Site) → IsUp s → IsUp (tells_asker a why values s)
up-tells_asker (Shell name) why values s h = h
up-tells_asker (Process v p) why values s h = up-tells v p (Told why values) s h

pub up-heard : (k : ℕ) (why : Status) (values : List Datum) (s : Site) → IsUp s → IsUp (heard k why values s)
up-heard k why values s h = up-item s (call_at s.traffic k) _ (λ c is.
    up-cond c.open_ (tells_asker c.asker why values (on_traffic (received k) s)) (on_traffic (received k) s)
    (up-tells_asker c.asker why values (on_traffic (received k) s) (up-on_traffic (received k) s h)) (up-on_traffic (received k) s h)) h

pub up-start : (v : Uid) (k p : ℕ) (s : Site) → IsUp s → IsUp (start v k p s)
up-start v k p s h = up-item s (call_at s.traffic k) _ (λ c is.
    up-on_eject v (λ e. record (on_active (with_start s.traffic k p c) e) { queued = filter (λ j. not (j == k)) e.queued }) s
    h) h

pub up-settled : (p : Option Pick) (s : Site) → IsUp s → IsUp (settled p s)
unfolding on_node
up-settled None s h = h
up-settled (Some pick.Old) s h = h
up-settled (Some pick.New) s h = h

up-unsynced : (s : Site) → IsUp s → IsUp (unsynced s)
up-unsynced s h = up-on_node (λ it. record it { synced = false }) s h

pub up-ended : (r : StoreRequest) (why : Status) (s : Site) → IsUp s → IsUp (request_ended r why s)
up-ended r why s h = go r.process
  where
    go : (p : Option ℕ) → IsUp (tells_code r.uid p why (on_node (λ it. record it { requests = rest it.requests }) s))
    go None = up-on_node (λ it. record it { requests = rest it.requests }) s h
    go (Some p) = up-tells r.uid p (Code why) (on_node (λ it. record it { requests = rest it.requests }) s)
        (up-on_node (λ it. record it { requests = rest it.requests }) s h)

up-removed : (v : Uid) (c : EjectChange) (s : Site) → IsUp s → IsUp (removed c v s)
up-removed v (body bytes) s h = h
up-removed v removal s h = up-turned_away v status.Gone (deactivated v s) (up-deactivated v s h)

pub up-done : (r : StoreRequest) (s : Site) → IsUp s → IsUp (done r s)
up-done r s h = up-removed r.uid r.change (request_ended r status.Ok s) (up-ended r status.Ok s h)

up-doubted : (r : StoreRequest) (s : Site) → IsUp s → IsUp (doubted r s)
up-doubted r s h = up-on_eject r.uid (λ e. record e { doubt = Some r.change }) s h

up-stored : (r : StoreRequest) (s : Site) → IsUp s → IsUp (stored r s)
up-stored r s h = up-on_node (λ it. record it { ledger = written_with s.layout r.change it.ledger })
    (on_eject r.uid (λ e. record e { kept = kept_of r.change; doubt = None }) s)
    (up-on_eject r.uid (λ e. record e { kept = kept_of r.change; doubt = None }) s h)

up-worked : (w : Work) (r : StoreRequest) (how : RequestEnd) (p : Option Pick) (s : Site) → is_stop how ≡ false → IsUp s
    → IsUp (worked w r how p s)
up-worked syncs r end.Part p s on h = up-on_node (λ it. record it { synced = true }) s h
up-worked syncs r end.Done p s on h = h
up-worked syncs r end.Full p s on h = h
up-worked syncs r end.Fault p s on h = up-ended r status.StoreFault (unsynced s) (up-unsynced s h)
up-worked reads r end.Part p s on h = up-settled p s h
up-worked reads r end.Done p s on h = h
up-worked reads r end.Full p s on h = h
up-worked reads r end.Fault p s on h = up-ended r status.StoreFault (unsynced s) (up-unsynced s h)
up-worked unkept r how p s on h = up-done r s h
up-worked without_room r how p s on h = up-ended r status.Full s h
up-worked calls r end.Part p s on h = up-on_node (λ it. record it { requests = more_made it.requests }) (doubted r s) (up-doubted r s h)
up-worked calls r end.Done p s on h = up-done r (stored r s) (up-stored r s h)
up-worked calls r end.Full p s on h = h
up-worked calls r end.Fault p s on h = up-ended r status.StoreFault (doubted r s) (up-doubted r s h)
up-worked w r end.Stop p s on h = absurd (cc on)

pub up-store_turn : (how : RequestEnd) (p : Option Pick) (s : Site) → is_stop how ≡ false → IsUp s → IsUp (store_turn how p s)
up-store_turn how p s on h = up-item s (first_request s.node) _ (λ r is. up-worked (work_of s r) r how p s on h) h

up-start_settled : (p : Option Pick) (s : Site) → IsUp s → IsUp (start_settled p s)
up-start_settled p s h = up-cond (to_settle s) (settled p (unsynced s)) s (up-settled p (unsynced s) (up-unsynced s h)) h

up-awake : (v : Uid) (s : Site) → IsUp s → IsUp (activated v start_end.Ok s)
up-awake v s h = up-item s (eject_in s v) _ (λ e is. up-item s e.kept _ (λ bytes is_b. up-item s (start_of s.types bytes v) _ (λ start is_s.
    up-on_traffic (misfits_answered start.0 e.queued) _ (up-on_eject v _ s h)) h) h) h

pub up-activation : (v : Uid) (how : StartEnd) (p : Option Pick) (s : Site) → is_stopped how ≡ false → IsUp s
    → IsUp (activation_turn v how p s)
up-activation v start_end.Ok p s on h = up-awake v (start_settled p s) (up-start_settled p s h)
up-activation v start_end.Gone p s on h = up-turned_away v status.Gone (start_settled p s) (up-start_settled p s h)
up-activation v start_end.Fault p s on h = up-turned_away v status.StoreFault (start_settled p s) (up-start_settled p s h)
up-activation v start_end.Damaged p s on h = up-turned_away v status.Damaged (start_settled p s) (up-start_settled p s h)
up-activation v start_end.Stop p s on h = absurd (cc on)
