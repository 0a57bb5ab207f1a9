-- The calls go on through every event at a node, and a process of that node may have asked a new one.
use Rattle.std.proofs.Common.{◌≡◌, ℕ, nat_le, Bool, true, false, cond, List, [], Option, None, Some, is_some, Result, Ok, Err, length}
use Rattle.std.proofs.Common.{refl, ap, subst}
use Rattle.std.specs.Prelude.{IsSomeAnd}
use Rattle.capability.specs.declared.Uid.{Uid}
use Rattle.capability.specs.declared.TheConstants.{BODY_LIMIT}
use Rattle.capability.specs.Capability.{full}
use Rattle.capability.specs.declared.Cap.{Cap}
use Rattle.eden_value.specs.Datum.{Datum}
use Rattle.eden_value.specs.declared.status.Status.{Status}
use Rattle.eden_value.specs.declared.status.Status.TheVariants as status
use Rattle.eden_codec.specs.Spelling.{spelling}
use Rattle.eden_model.specs.Map.{with_item, rest}
use Rattle.eden_model.specs.Crew.{Invocation, outside, set_waits, locked, left, waited, signalled, running}
use Rattle.eden_model.specs.declared.Asker.{Asker}
use Rattle.eden_model.specs.declared.Asker.TheVariants.{Shell, Eject as Process}
use Rattle.eden_model.specs.Traffic.{Traffic, Call, asked, held, call_at, changed_call, at_place, taken, replied, all_replied, orphaned}
use Rattle.eden_model.specs.Traffic.{next_call, with_call, without_node}
use Rattle.epl_syntax.specs.declared.effect.Answer.{Answer}
use Rattle.epl_syntax.specs.declared.effect.Answer.TheVariants.{Code, Reply as Told, Created as Made}
use Rattle.epl_syntax.specs.declared.effect.Effect.{Effect}
use Rattle.epl_syntax.specs.declared.effect.Effect.TheVariants as effect
use Rattle.epl_syntax.specs.Edentype.{Edentype}
use Rattle.epl_syntax.specs.Meaning.{Turned, rep_of, type_of, first_values}
use Rattle.passive_store.specs.declared.store.Pick.{Pick}
use Rattle.journal.specs.EjectChange.{EjectChange, body, removal, kept_of}
use Rattle.journal.specs.declared.event.StartEnd.{StartEnd}
use Rattle.journal.specs.declared.event.StartEnd.TheVariants as start_end
use Rattle.journal.specs.declared.event.RequestEnd.{RequestEnd}
use Rattle.journal.specs.declared.event.RequestEnd.TheVariants as end
use Rattle.journal.specs.declared.event.Event.{Event}
use Rattle.journal.specs.declared.event.Event.TheVariants as event
use Rattle.journal.specs.World.{Active, Eject, StoreRequest, Node, Site, eject_in, on_eject, on_node, on_traffic}
use Rattle.journal.specs.Ejects.{with_active, with_queued, on_active, on_crew, is_there, told, tells, without_requests, deactivated}
use Rattle.journal.specs.Ejects.{turned_away, gone_if_unkept, fresh, next_uid, born_in, born}
use Rattle.journal.specs.Deliveries.{requested, tells_asker, received, heard, AllowsRequest, refusal_at}
use Rattle.journal.specs.Processes.{turn_of, turned, serving, start, without_process, asks_store, answers, refused_at_once}
use Rattle.journal.specs.Processes.{waits_or_told, creates, checkpoints, effected, process_turn}
use Rattle.journal.specs.Crashes.{down, crashed}
use Rattle.journal.specs.Stores.{Work, syncs, reads, unkept, without_room, calls, work_of, more_made, doubted, tells_code, request_ended}
use Rattle.journal.specs.Stores.{removed, stored, done, worked, store_turn}
use Rattle.journal.specs.Starts.{start_of, misfits_answered, activated, start_settled}
use Rattle.journal.specs.Boots.{booted_node, boot_turn}
use Rattle.journal.specs.Step.{site_turn, AllowsAt, IsActiveAnd}
use Rattle.journal.specs.Settling.{first_request, settled_node, settled, unsynced, to_settle}
use Rattle.journal.specs.declared.event.BootEnd.{BootEnd}
use Rattle.journal.specs.Sites.{AreNumbered, CallsGoOn, IsSoundSite, Sound}
use Rattle.history_laws.proofs.Goings.{GoOn, on-same, on-then, on-all_replied, on-refused, on-taken_in, on-received, on-orphaned}
use Rattle.history_laws.proofs.Goings.{on-without_node, on-answers, on-misfits, Around, on-around, around-call}

abbrev pub On : Site → Site → Type 0
On s new = GoOn s.traffic new.traffic

-- 1. The primitives

eject-on : (v : Uid) (f : Eject → Eject) (s mid : Site) → On s mid → On s (on_eject v f mid)
unfolding on_eject
eject-on v f s mid a = a

node-on : (f : Node → Node) (s mid : Site) → On s mid → On s (on_node f mid)
unfolding on_node
node-on f s mid a = a

traffic-on : (f : Traffic → Traffic) (s mid : Site) → On s mid → GoOn mid.traffic (f mid.traffic) → On s (on_traffic f mid)
unfolding on_traffic
traffic-on f s mid a b = on-then s.traffic mid.traffic (f mid.traffic) a b

pub same-on : (s : Site) → On s s
same-on s = on-same s.traffic

item-on : {X : Type 0} (s mid : Site) (o : Option X) (f : X → Site) → On s mid → ((x : X) → o ≡ Some x → On s (f x))
    → On s (with_item o f mid)
item-on s mid None f a each = a
item-on s mid (Some x) f a each = each x refl

cond-on : (b : Bool) (s one two : Site) → On s one → On s two → On s (cond b one two)
cond-on true s one two x y = x
cond-on false s one two x y = y

-- 2. The parts of a turn

tells-on : (v : Uid) (p : ℕ) (a : Answer) (s mid : Site) → On s mid → On s (tells v p a mid)
tells-on v p a s mid h = eject-on v (on_active (told p a)) s mid h

turned_away-on : (v : Uid) (why : Status) (s mid : Site) → On s mid → On s (turned_away v why mid)
turned_away-on v why s mid h = item-on s mid (eject_in mid v) _ h (λ e is.
    traffic-on (all_replied why e.queued) s (on_eject v (with_queued []) mid) (eject-on v (with_queued []) s mid h)
    (on-all_replied why e.queued (on_eject v (with_queued []) mid).traffic))

deactivated-on : (v : Uid) (s mid : Site) → On s mid → On s (deactivated v mid)
deactivated-on v s mid h = item-on s mid (eject_in mid v) _ h (λ e is. item-on s mid e.active _ h (λ it is_it.
    let ended : Site = on_eject v (with_active None) (on_node (without_requests v) mid) in
    traffic-on (λ t. all_replied status.Dropped (running it.crew) (orphaned v t)) s ended
    (eject-on v (with_active None) s (on_node (without_requests v) mid) (node-on (without_requests v) s mid h))
    (on-then ended.traffic (orphaned v ended.traffic) _ (on-orphaned v ended.traffic)
    (on-all_replied status.Dropped (running it.crew) (orphaned v ended.traffic)))))

gone-on : (v : Uid) (s mid : Site) → On s mid → On s (gone_if_unkept v mid)
gone-on v s mid h = item-on s mid (eject_in mid v) _ h (λ e is. cond-on (is_there e) s mid _ h (turned_away-on v status.Gone s mid h))

asks-on : (v : Uid) (p : ℕ) (c : EjectChange) (s mid : Site) → On s mid → On s (asks_store v p c mid)
asks-on v p c s mid h = node-on _ s (on_eject v (on_active (on_crew (set_waits p outside))) mid)
    (eject-on v (on_active (on_crew (set_waits p outside))) s mid h)

checkpoints-on : (v : Uid) (p : ℕ) (bytes : List ℕ) (s mid : Site) → On s mid → On s (checkpoints v p bytes mid)
checkpoints-on v p bytes s mid h = cond-on (nat_le (length bytes) BODY_LIMIT) s _ _ (asks-on v p (body bytes) s mid h)
    (tells-on v p (Code status.TooLarge) s mid h)

pub born-on : (v : Uid) (it : Active) (s mid : Site) → On s mid → On s (born v it mid)
born-on v it s mid h = node-on (λ node. born_in v it node (eject_in mid v)) s mid h

creates-on : (v : Uid) (p : ℕ) (t : Option Edentype) (made : Result Uid Status) (s mid : Site) → On s mid → On s (creates v p t made mid)
creates-on v p None made s mid h = h
creates-on v p (Some t) (Ok new) s mid h = tells-on v p (Made status.Ok (Some (full new))) s (born new (fresh t (first_values t)) mid)
    (born-on new (fresh t (first_values t)) s mid h)
creates-on v p (Some t) (Err why) s mid h = tells-on v p (Made why None) s mid h

-- 3. A turn of a process: its effect comes last, and may be a new call

invoked-around : (v : Uid) (p : ℕ) (target : Cap) (operation : List ℕ) (args : List Datum) (at_once : Option Status) (s : Site)
    → AreNumbered 1 s.traffic.calls
    → Around v.node s.traffic (on_traffic (λ t. with_call (next_call t) (Process v p) target operation args at_once t)
    (on_eject v (on_active (waits_or_told p at_once)) s)).traffic
unfolding on_traffic on_eject
invoked-around v p target operation args at_once s numbered = around-call v p target operation args at_once s.traffic numbered

effected-around : (reach : ℕ → Bool) (v : Uid) (p : ℕ) (i : Option Invocation) (t : Edentype) (vars : List Datum) (e : Effect) (s : Site)
    → AreNumbered 1 s.traffic.calls
    → Around v.node s.traffic (effected reach v p i t vars e s).traffic
effected-around reach v p i t vars (effect.Return results) s numbered = on-around v.node s.traffic _
    (traffic-on (answers i results) s (on_eject v (on_active (without_process p)) s)
    (eject-on v (on_active (without_process p)) s s (same-on s)) (on-answers i results _))
effected-around reach v p i t vars effect.End s numbered = on-around v.node s.traffic _
    (eject-on v (on_active (without_process p)) s s (same-on s))
effected-around reach v p i t vars effect.Checkpoint s numbered =
    on-around v.node s.traffic _ (checkpoints-on v p (spelling (rep_of t vars)) s s (same-on s))
effected-around reach v p i t vars effect.Destroy s numbered = on-around v.node s.traffic _ (asks-on v p removal s s (same-on s))
effected-around reach v p i t vars effect.Deactivate s numbered =
    on-around v.node s.traffic _ (gone-on v s (deactivated v s) (deactivated-on v s s (same-on s)))
effected-around reach v p i t vars (effect.Fault cause) s numbered =
    on-around v.node s.traffic _ (turned_away-on v status.Dropped s (deactivated v s) (deactivated-on v s s (same-on s)))
effected-around reach v p i t vars (effect.Create type_name) s numbered =
    on-around v.node s.traffic _ (creates-on v p (type_of s.types type_name) (next_uid s) s s (same-on s))
effected-around reach v p i t vars (effect.Invoke target operation args) s numbered =
    invoked-around v p target operation args (refused_at_once (reach target.uid.node) args) s numbered
effected-around reach v p i t vars (effect.Lock m) s numbered =
    on-around v.node s.traffic _ (eject-on v (on_active (on_crew (locked p m))) s s (same-on s))
effected-around reach v p i t vars (effect.Leave m) s numbered =
    on-around v.node s.traffic _ (eject-on v (on_active (on_crew (left m))) s s (same-on s))
effected-around reach v p i t vars (effect.Wait c) s numbered =
    on-around v.node s.traffic _ (eject-on v (on_active (on_crew (waited p c))) s s (same-on s))
effected-around reach v p i t vars (effect.Signal c) s numbered =
    on-around v.node s.traffic _ (eject-on v (on_active (on_crew (signalled c))) s s (same-on s))
effected-around reach v p i t vars effect.Yield s numbered = on-around v.node s.traffic _ (same-on s)

around-item : {X : Type 0} (n : ℕ) (s : Site) (o : Option X) (f : X → Site) → ((x : X) → Around n s.traffic (f x).traffic)
    → Around n s.traffic (with_item o f s).traffic
around-item n s None f each = on-around n s.traffic _ (same-on s)
around-item n s (Some x) f each = each x

turned-around : (reach : ℕ → Bool) (v : Uid) (p : ℕ) (it : Active) (t : Turned) (s : Site) → AreNumbered 1 s.traffic.calls
    → Around v.node s.traffic (effected reach v p (serving it p) it.kind t.vars t.effect (on_eject v (on_active (turned p t)) s)).traffic
unfolding on_eject
turned-around reach v p it t s numbered = effected-around reach v p (serving it p) it.kind t.vars t.effect
    (on_eject v (on_active (turned p t)) s) numbered

process_turn-around : (reach : ℕ → Bool) (v : Uid) (p : ℕ) (s : Site) → AreNumbered 1 s.traffic.calls
    → Around v.node s.traffic (process_turn reach v p s).traffic
process_turn-around reach v p s numbered = around-item v.node s (eject_in s v) _ (λ e.
    around-item v.node s e.active _ (λ it. around-item v.node s (turn_of v it p) _ (λ t. turned-around reach v p it t s numbered)))

-- 4. Deliveries, starts and crashes

requested-on : (k : ℕ) (refused : Option Status) (s : Site) → IsSomeAnd (call_at s.traffic k) (λ c. c.place ≡ asked)
    → On s (requested k refused s)
requested-on k (Some why) s place = traffic-on (λ t. replied why [] k (taken k t)) s s (same-on s) (on-refused why k s.traffic)
requested-on k None s place = item-on s s (call_at s.traffic k) _ (same-on s) (λ c is.
    eject-on c.target.uid _ s (on_traffic (λ t. changed_call k (at_place held) (taken k t)) s)
    (traffic-on (λ t. changed_call k (at_place held) (taken k t)) s s (same-on s) (on-taken_in k s.traffic place)))

tells_asker-on : (a : Asker) (why : Status) (values : List Datum) (s mid : Site) → On s mid → On s (tells_asker a why values mid)
tells_asker-on (Shell name) why values s mid h = h
tells_asker-on (Process v p) why values s mid h = tells-on v p (Told why values) s mid h

heard-on : (k : ℕ) (why : Status) (values : List Datum) (s : Site) → On s (heard k why values s)
heard-on k why values s = let x = traffic-on (received k) s s (same-on s) (on-received k s.traffic) in
    item-on s s (call_at s.traffic k) _ (same-on s) (λ c is. cond-on c.open_ s _ _
    (tells_asker-on c.asker why values s (on_traffic (received k) s) x) x)

start-on : (v : Uid) (k p : ℕ) (s : Site) → On s (start v k p s)
start-on v k p s = item-on s s (call_at s.traffic k) _ (same-on s) (λ c is. eject-on v _ s s (same-on s))

pub crashed-on : (s mid : Site) → On s mid → On s (crashed mid)
crashed-on s mid h = traffic-on (without_node mid.number) s (on_node down mid) (node-on down s mid h)
    (on-without_node mid.number (on_node down mid).traffic)

-- 5. The store, activations and boots

settled-on : (p : Option Pick) (s mid : Site) → On s mid → On s (settled p mid)
settled-on None s mid h = h
settled-on (Some p) s mid h = node-on (settled_node mid.layout mid.number p) s mid h

unsynced-on : (s mid : Site) → On s mid → On s (unsynced mid)
unsynced-on s mid h = node-on (λ it. record it { synced = false }) s mid h

ended-on : (r : StoreRequest) (why : Status) (s mid : Site) → On s mid → On s (request_ended r why mid)
ended-on r why s mid h = go r.process
  where
    ended : Site
    ended = on_node (λ it. record it { requests = rest it.requests }) mid

    go : (p : Option ℕ) → On s (tells_code r.uid p why ended)
    go None = node-on (λ it. record it { requests = rest it.requests }) s mid h
    go (Some p) = tells-on r.uid p (Code why) s ended (node-on (λ it. record it { requests = rest it.requests }) s mid h)

removed-on : (c : EjectChange) (v : Uid) (s mid : Site) → On s mid → On s (removed c v mid)
removed-on (body bytes) v s mid h = h
removed-on removal v s mid h = turned_away-on v status.Gone s (deactivated v mid) (deactivated-on v s mid h)

done-on : (r : StoreRequest) (s mid : Site) → On s mid → On s (done r mid)
done-on r s mid h = removed-on r.change r.uid s (request_ended r status.Ok mid) (ended-on r status.Ok s mid h)

doubted-on : (r : StoreRequest) (s mid : Site) → On s mid → On s (doubted r mid)
doubted-on r s mid h = eject-on r.uid (λ e. record e { doubt = Some r.change }) s mid h

stored-on : (r : StoreRequest) (s mid : Site) → On s mid → On s (stored r mid)
stored-on r s mid h = node-on _ s (on_eject r.uid (λ e. record e { kept = kept_of r.change; doubt = None }) mid)
    (eject-on r.uid (λ e. record e { kept = kept_of r.change; doubt = None }) s mid h)

worked-on : (w : Work) (r : StoreRequest) (how : RequestEnd) (p : Option Pick) (s : Site) → On s (worked w r how p s)
worked-on syncs r end.Part p s = node-on (λ it. record it { synced = true }) s s (same-on s)
worked-on syncs r end.Done p s = same-on s
worked-on syncs r end.Full p s = same-on s
worked-on syncs r end.Fault p s = ended-on r status.StoreFault s (unsynced s) (unsynced-on s s (same-on s))
worked-on syncs r end.Stop p s = crashed-on s s (same-on s)
worked-on reads r end.Part p s = settled-on p s s (same-on s)
worked-on reads r end.Done p s = same-on s
worked-on reads r end.Full p s = same-on s
worked-on reads r end.Fault p s = ended-on r status.StoreFault s (unsynced s) (unsynced-on s s (same-on s))
worked-on reads r end.Stop p s = crashed-on s s (same-on s)
worked-on unkept r how p s = done-on r s s (same-on s)
worked-on without_room r how p s = ended-on r status.Full s s (same-on s)
worked-on calls r end.Part p s = node-on (λ it. record it { requests = more_made it.requests }) s (doubted r s)
    (doubted-on r s s (same-on s))
worked-on calls r end.Done p s = done-on r s (stored r s) (stored-on r s s (same-on s))
worked-on calls r end.Full p s = same-on s
worked-on calls r end.Fault p s = ended-on r status.StoreFault s (doubted r s) (doubted-on r s s (same-on s))
worked-on calls r end.Stop p s = crashed-on s (doubted r s) (doubted-on r s s (same-on s))

store_turn-on : (how : RequestEnd) (p : Option Pick) (s : Site) → On s (store_turn how p s)
store_turn-on how p s = item-on s s (first_request s.node) _ (same-on s) (λ r is. worked-on (work_of s r) r how p s)

started-on : (p : Option Pick) (s : Site) → On s (start_settled p s)
started-on p s = cond-on (to_settle s) s _ s (settled-on p s (unsynced s) (unsynced-on s s (same-on s))) (same-on s)

activated-on : (v : Uid) (how : StartEnd) (s mid : Site) → On s mid → On s (activated v how mid)
activated-on v start_end.Ok s mid h = item-on s mid (eject_in mid v) _ h (λ e is.
    item-on s mid e.kept _ h (λ bytes is_kept. item-on s mid (start_of mid.types bytes v) _ h (λ start begins.
    traffic-on (misfits_answered start.0 e.queued) s _ (eject-on v _ s mid h) (on-misfits start.0 e.queued _))))
activated-on v start_end.Gone s mid h = turned_away-on v status.Gone s mid h
activated-on v start_end.Fault s mid h = turned_away-on v status.StoreFault s mid h
activated-on v start_end.Damaged s mid h = turned_away-on v status.Damaged s mid h
activated-on v start_end.Stop s mid h = crashed-on s mid h

pub boot-on : (e : ℕ) (how : BootEnd) (p : Option Pick) (began : Bool) (s : Site) → On s (boot_turn e how p began s)
boot-on e how p began s = node-on (booted_node s e how began) s (settled p s) (settled-on p s s (same-on s))

-- 6. Every event

placed : (s : Site) (k a b : ℕ) (refused : Option Status) → AllowsRequest s k a b refused
    → IsSomeAnd (call_at s.traffic k) (λ c. c.place ≡ asked)
placed s k a b refused allowed = go (call_at s.traffic k) allowed.delivered
  where
    go : (o : Option Call) → IsSomeAnd o (λ c. (c.place ≡ asked) × (refused ≡ refusal_at s c)) → IsSomeAnd o (λ c. c.place ≡ asked)
    go None x = x
    go (Some c) x = x.0

-- the node of an Eject that is active
pub of-site : (s : Site) (u : Uid) (P : Eject → Active → Type 0) → Sound s.number s.node → IsActiveAnd s u P → u.node ≡ s.number
of-site s u P sound active = go (eject_in s u) refl active
  where
    go : (o : Option Eject) → eject_in s u ≡ o → IsSomeAnd o (λ e. IsSomeAnd e.active (λ it. P e it)) → u.node ≡ s.number
    go None is x = absurd x
    go (Some e) is x = sound.of_node u (ap is_some is)

-- no turn of a process
abbrev pub IsNoTurn : Event → Type 0
IsNoTurn (event.Process u p said) = ⊥
IsNoTurn _ = Unit {0}

pub event-on : (reach : ℕ → Bool) (e : Event) (s : Site) → AllowsAt s e → IsNoTurn e → On s (site_turn reach e s)
event-on reach (event.Request k a b refused) s allowed other = requested-on k refused s (placed s k a b refused allowed)
event-on reach (event.Reply k a b name why values) s allowed other = heard-on k why values s
event-on reach (event.Activate u how p) s allowed other = activated-on u how s (start_settled p s) (started-on p s)
event-on reach (event.Start k u p) s allowed other = start-on u k p s
event-on reach (event.Process u p said) s allowed other = absurd other
event-on reach (event.Store u clock how p) s allowed other = store_turn-on how p s
event-on reach (event.Boot n e how p began) s allowed other = boot-on e how p began s
event-on reach (event.Crash n) s allowed other = crashed-on s s (same-on s)
event-on reach _ s allowed other = absurd allowed

pub calls-around : (reach : ℕ → Bool) (e : Event) (s : Site) → Sound s.number s.node → AreNumbered 1 s.traffic.calls → AllowsAt s e
    → Around s.number s.traffic (site_turn reach e s).traffic
calls-around reach (event.Process u p said) s sound numbered allowed =
    subst (λ n. Around n s.traffic (process_turn reach u p s).traffic) (of-site s u _ sound allowed)
    (process_turn-around reach u p s numbered)
calls-around reach (event.Request k a b refused) s sound numbered allowed =
    on-around s.number s.traffic _ (event-on reach (event.Request k a b refused) s allowed tt)
calls-around reach (event.Reply k a b name why values) s sound numbered allowed =
    on-around s.number s.traffic _ (event-on reach (event.Reply k a b name why values) s allowed tt)
calls-around reach (event.Activate u how p) s sound numbered allowed = on-around s.number s.traffic _
    (event-on reach (event.Activate u how p) s allowed tt)
calls-around reach (event.Start k u p) s sound numbered allowed = on-around s.number s.traffic _
    (event-on reach (event.Start k u p) s allowed tt)
calls-around reach (event.Store u clock how p) s sound numbered allowed =
    on-around s.number s.traffic _ (event-on reach (event.Store u clock how p) s allowed tt)
calls-around reach (event.Boot n e how p began) s sound numbered allowed =
    on-around s.number s.traffic _ (event-on reach (event.Boot n e how p began) s allowed tt)
calls-around reach (event.Crash n) s sound numbered allowed = on-around s.number s.traffic _ (event-on reach (event.Crash n) s allowed tt)
calls-around reach _ s sound numbered allowed = absurd allowed

pub calls-go-on : (reach : ℕ → Bool) (e : Event) (s : Site) → IsSoundSite s → AllowsAt s e
    → CallsGoOn s.number s.traffic (site_turn reach e s).traffic
calls-go-on reach e s sound allowed = (calls-around reach e s sound.node sound.numbered allowed).calls
