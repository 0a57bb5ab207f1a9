-- What each event at a node leaves of its site: the number, the types and the layout, most fields of the node; and each call goes on.
use Rattle.std.proofs.Common.{◌≡◌, ℕ, nat_le, Bool, true, false, cond, List, [], ◌∷◌, ◌++◌, Option, None, Some, Result}
use Rattle.std.proofs.Common.{Ok, Err, length, refl, sym, ◌∙◌, ap}
use Rattle.capability.specs.declared.Uid.{Uid}
use Rattle.capability.specs.declared.TheConstants.{BODY_LIMIT}
use Rattle.capability.specs.Capability.{full}
use Rattle.eden_value.specs.Datum.{Datum}
use Rattle.eden_value.specs.declared.status.Status.{Status}
use Rattle.eden_value.specs.declared.status.Status.TheVariants as status
use Rattle.eden_codec.specs.Spelling.{spelling}
use Rattle.eden_model.specs.Map.{with_item, rest}
use Rattle.eden_model.specs.Crew.{Invocation, outside, set_waits, locked, left, waited, signalled, running}
use Rattle.eden_model.specs.declared.Asker.{Asker}
use Rattle.eden_model.specs.declared.Asker.TheVariants.{Shell, Eject as Process}
use Rattle.eden_model.specs.Traffic.{Traffic, held, call_at, changed_call, at_place, taken, replied, all_replied, orphaned}
use Rattle.eden_model.specs.Traffic.{without_node}
use Rattle.epl_syntax.specs.declared.effect.Answer.{Answer}
use Rattle.epl_syntax.specs.declared.effect.Answer.TheVariants.{Code, Reply as Told, Created as Made}
use Rattle.epl_syntax.specs.declared.effect.Effect.{Effect}
use Rattle.epl_syntax.specs.declared.effect.Effect.TheVariants as effect
use Rattle.epl_syntax.specs.Edentype.{Edentype}
use Rattle.epl_syntax.specs.Meaning.{rep_of, type_of, first_values}
use Rattle.passive_store.specs.declared.store.Pick.{Pick}
use Rattle.journal.specs.EjectChange.{EjectChange, body, removal, kept_of}
use Rattle.journal.specs.declared.event.BootEnd.{BootEnd}
use Rattle.journal.specs.declared.event.BootEnd.TheVariants as boot_end
use Rattle.journal.specs.declared.event.StartEnd.{StartEnd}
use Rattle.journal.specs.declared.event.StartEnd.TheVariants as start_end
use Rattle.journal.specs.declared.event.RequestEnd.{RequestEnd}
use Rattle.journal.specs.declared.event.RequestEnd.TheVariants as end
use Rattle.journal.specs.declared.event.Event.{Event}
use Rattle.journal.specs.declared.event.Event.TheVariants as event
use Rattle.journal.specs.World.{Active, Eject, StoreRequest, Node, Site, eject_in, on_eject, on_node, on_traffic}
use Rattle.journal.specs.Ejects.{with_active, with_queued, on_active, on_crew, is_there, told, tells, without_requests, deactivated}
use Rattle.journal.specs.Ejects.{turned_away, gone_if_unkept, fresh, next_uid, born_in, born}
use Rattle.journal.specs.Deliveries.{requested, tells_asker, received, heard}
use Rattle.journal.specs.Processes.{turn_of, turned, serving, start, without_process, asks_store, answers}
use Rattle.journal.specs.Processes.{creates, checkpoints, effected, process_turn}
use Rattle.journal.specs.Settling.{first_request, settled_node, settled, unsynced, written_with, to_settle}
use Rattle.journal.specs.Crashes.{down, crashed}
use Rattle.journal.specs.Stores.{Work, syncs, reads, unkept, without_room, calls, work_of, more_made, doubted, tells_code, request_ended}
use Rattle.journal.specs.Stores.{removed, stored, done, worked, store_turn}
use Rattle.journal.specs.Starts.{start_of, misfits_answered, activated, start_settled, activation_turn}
use Rattle.journal.specs.Boots.{booted_node, boot_turn}
use Rattle.journal.specs.Step.{site_turn}
use Rattle.journal.specs.Sites.{with_ejects, with_work, with_births, with_doubts, with_store, with_fall, with_start, with_boot}
use Rattle.journal.specs.Sites.{with_changes_of, KeepsSite}

-- 1. Masks: with which fields of the second node the first may be changed

pub record IsMask (m : Node → Node → Node) : Type 0 where
  pub same : (a : Node) → a ≡ m a a
  pub twice : (a b c : Node) → m (m a b) c ≡ m a c

ejects : IsMask with_ejects
ejects = record { same = λ a. refl; twice = λ a b c. refl }

work : IsMask with_work
work = record { same = λ a. refl; twice = λ a b c. refl }

births : IsMask with_births
births = record { same = λ a. refl; twice = λ a b c. refl }

doubts : IsMask with_doubts
doubts = record { same = λ a. refl; twice = λ a b c. refl }

store : IsMask with_store
store = record { same = λ a. refl; twice = λ a b c. refl }

fall : IsMask with_fall
fall = record { same = λ a. refl; twice = λ a b c. refl }

starts : IsMask with_start
starts = record { same = λ a. refl; twice = λ a b c. refl }

boot : IsMask with_boot
boot = record { same = λ a. refl; twice = λ a b c. refl }

-- what a change leaves of a site
pub record Leaves (m : Node → Node → Node) (s new : Site) : Type 0 where
  pub number : new.number ≡ s.number
  pub types : new.types ≡ s.types
  pub layout : new.layout ≡ s.layout
  pub node : new.node ≡ m s.node new.node

pub leaves-same : (m : Node → Node → Node) → IsMask m → (s : Site) → Leaves m s s
leaves-same m mask s = record { number = refl; types = refl; layout = refl; node = mask.same s.node }

pub leaves-then : (m : Node → Node → Node) → IsMask m → (s new later : Site) → Leaves m s new → Leaves m new later → Leaves m s later
leaves-then m mask s new later a b = record {
  number = b.number ∙ a.number;
  types = b.types ∙ a.types;
  layout = b.layout ∙ a.layout;
  node = b.node ∙ ap (λ it. m it later.node) a.node ∙ mask.twice s.node new.node later.node;
}

-- a wider mask
pub leaves-wider : (m wide : Node → Node → Node) → ((a b : Node) → wide a (m a b) ≡ m a b) → (s new : Site) → Leaves m s new
    → Leaves wide s new
leaves-wider m wide covers s new a = record {
  number = a.number;
  types = a.types;
  layout = a.layout;
  node = a.node ∙ sym (covers s.node new.node) ∙ ap (wide s.node) (sym a.node);
}

leaves-item : {X : Type 0} (m : Node → Node → Node) → IsMask m → (s : Site) (o : Option X) (f : X → Site) → ((x : X) → Leaves m s (f x))
    → Leaves m s (with_item o f s)
leaves-item m mask s None f each = leaves-same m mask s
leaves-item m mask s (Some x) f each = each x

leaves-cond : (m : Node → Node → Node) (b : Bool) (s one two : Site) → Leaves m s one → Leaves m s two → Leaves m s (cond b one two)
leaves-cond m true s one two x y = x
leaves-cond m false s one two x y = y

-- 2. The primitives

pub leaves-on_eject : (v : Uid) (f : Eject → Eject) (s : Site) → Leaves with_ejects s (on_eject v f s)
unfolding on_eject
leaves-on_eject v f s = record { number = refl; types = refl; layout = refl; node = refl }

leaves-on_traffic : (f : Traffic → Traffic) (s : Site) → Leaves with_ejects s (on_traffic f s)
unfolding on_traffic
leaves-on_traffic f s = record { number = refl; types = refl; layout = refl; node = refl }

leaves-on_node : (m : Node → Node → Node) (f : Node → Node) (s : Site) → f s.node ≡ m s.node (f s.node) → Leaves m s (on_node f s)
unfolding on_node
leaves-on_node m f s is = record { number = refl; types = refl; layout = refl; node = is }

-- first one, then another
then-eject : (v : Uid) (f : Eject → Eject) (s mid : Site) → Leaves with_ejects s mid → Leaves with_ejects s (on_eject v f mid)
then-eject v f s mid a = leaves-then with_ejects ejects s mid _ a (leaves-on_eject v f mid)

then-traffic : (f : Traffic → Traffic) (s mid : Site) → Leaves with_ejects s mid → Leaves with_ejects s (on_traffic f mid)
then-traffic f s mid a = leaves-then with_ejects ejects s mid _ a (leaves-on_traffic f mid)

-- 3. The parts of a turn

pub leaves-tells : (v : Uid) (p : ℕ) (a : Answer) (s : Site) → Leaves with_ejects s (tells v p a s)
leaves-tells v p a s = leaves-on_eject v (on_active (told p a)) s

pub leaves-turned_away : (v : Uid) (why : Status) (s : Site) → Leaves with_ejects s (turned_away v why s)
leaves-turned_away v why s = leaves-item with_ejects ejects s (eject_in s v) _ (λ e.
    then-traffic (all_replied why e.queued) s (on_eject v (with_queued []) s) (leaves-on_eject v (with_queued []) s))

wider-work : (s new : Site) → Leaves with_ejects s new → Leaves with_work s new
wider-work s new a = leaves-wider with_ejects with_work (λ a b. refl) s new a

leaves-deactivated : (v : Uid) (s : Site) → Leaves with_work s (deactivated v s)
leaves-deactivated v s = leaves-item with_work work s (eject_in s v) _ (λ e. leaves-item with_work work s e.active _ (λ it.
    let gone : Site = on_node (without_requests v) s in
    leaves-then with_work work s gone _ (leaves-on_node with_work (without_requests v) s refl)
    (wider-work gone _ (then-traffic (λ t. all_replied status.Dropped (running it.crew) (orphaned v t)) gone
    (on_eject v (with_active None) gone) (leaves-on_eject v (with_active None) gone)))))

leaves-gone : (v : Uid) (s : Site) → Leaves with_ejects s (gone_if_unkept v s)
leaves-gone v s = leaves-item with_ejects ejects s (eject_in s v) _ (λ e.
    leaves-cond with_ejects (is_there e) s s _ (leaves-same with_ejects ejects s) (leaves-turned_away v status.Gone s))

leaves-asks : (v : Uid) (p : ℕ) (c : EjectChange) (s : Site) → Leaves with_work s (asks_store v p c s)
leaves-asks v p c s = let waits : Site = on_eject v (on_active (on_crew (set_waits p outside))) s in
    leaves-then with_work work s waits _ (wider-work s waits (leaves-on_eject v (on_active (on_crew (set_waits p outside))) s))
    (leaves-on_node with_work (λ it. record it {
      requests = it.requests ++ record {
        uid = v;
        process = Some p;
        change = c;
        made =
            0;
      } ∷ [];
    }) waits refl)

leaves-checkpoints : (v : Uid) (p : ℕ) (bytes : List ℕ) (s : Site) → Leaves with_work s (checkpoints v p bytes s)
leaves-checkpoints v p bytes s = leaves-cond with_work (nat_le (length bytes) BODY_LIMIT) s _ _ (leaves-asks v p (body bytes) s)
    (wider-work s _ (leaves-tells v p (Code status.TooLarge) s))

wider-births : (s new : Site) → Leaves with_work s new → Leaves with_births s new
wider-births s new a = leaves-wider with_work with_births (λ a b. refl) s new a

birth-wider : (s new : Site) → Leaves with_ejects s new → Leaves with_births s new
birth-wider s new a = leaves-wider with_ejects with_births (λ a b. refl) s new a

pub leaves-born : (v : Uid) (it : Active) (s : Site) → Leaves with_births s (born v it s)
leaves-born v it s = leaves-on_node with_births (λ node. born_in v it node (eject_in s v)) s refl

leaves-creates : (v : Uid) (p : ℕ) (t : Option Edentype) (made : Result Uid Status) (s : Site) → Leaves with_births s (creates v p t made s)
leaves-creates v p None made s = leaves-same with_births births s
leaves-creates v p (Some t) (Ok new) s = let with_it : Site = born new (fresh t (first_values t)) s in
    leaves-then with_births births s with_it _ (leaves-born new (fresh t (first_values t)) s)
    (birth-wider with_it _ (leaves-tells v p (Made status.Ok (Some (full new))) with_it))
leaves-creates v p (Some t) (Err why) s = birth-wider s _ (leaves-tells v p (Made why None) s)

-- 4. A turn of a process

leaves-effected : (reach : ℕ → Bool) (v : Uid) (p : ℕ) (i : Option Invocation) (t : Edentype) (vars : List Datum) (e : Effect) (s : Site)
    → Leaves with_births s (effected reach v p i t vars e s)
leaves-effected reach v p i t vars (effect.Return results) s =
    birth-wider s _ (then-traffic (answers i results) s _ (leaves-on_eject v (on_active (without_process p)) s))
leaves-effected reach v p i t vars effect.End s = birth-wider s _ (leaves-on_eject v (on_active (without_process p)) s)
leaves-effected reach v p i t vars effect.Checkpoint s = wider-births s _ (leaves-checkpoints v p (spelling (rep_of t vars)) s)
leaves-effected reach v p i t vars effect.Destroy s = wider-births s _ (leaves-asks v p removal s)
leaves-effected reach v p i t vars effect.Deactivate s = wider-births s _
    (leaves-then with_work work s (deactivated v s) _ (leaves-deactivated v s)
    (wider-work (deactivated v s) _ (leaves-gone v (deactivated v s))))
leaves-effected reach v p i t vars (effect.Fault cause) s = wider-births s _
    (leaves-then with_work work s (deactivated v s) _ (leaves-deactivated v s)
    (wider-work (deactivated v s) _ (leaves-turned_away v status.Dropped (deactivated v s))))
leaves-effected reach v p i t vars (effect.Create type_name) s = leaves-creates v p (type_of s.types type_name) (next_uid s) s
leaves-effected reach v p i t vars (effect.Invoke target operation args) s = birth-wider s _ (then-traffic _ s _ (leaves-on_eject v _ s))
leaves-effected reach v p i t vars (effect.Lock m) s = birth-wider s _ (leaves-on_eject v (on_active (on_crew (locked p m))) s)
leaves-effected reach v p i t vars (effect.Leave m) s = birth-wider s _ (leaves-on_eject v (on_active (on_crew (left m))) s)
leaves-effected reach v p i t vars (effect.Wait c) s = birth-wider s _ (leaves-on_eject v (on_active (on_crew (waited p c))) s)
leaves-effected reach v p i t vars (effect.Signal c) s = birth-wider s _ (leaves-on_eject v (on_active (on_crew (signalled c))) s)
leaves-effected reach v p i t vars effect.Yield s = leaves-same with_births births s

leaves-process_turn : (reach : ℕ → Bool) (v : Uid) (p : ℕ) (s : Site) → Leaves with_births s (process_turn reach v p s)
leaves-process_turn reach v p s = leaves-item with_births births s (eject_in s v) _ (λ e. leaves-item with_births births s e.active _ (λ it.
    leaves-item with_births births s (turn_of v it p) _ (λ t. let mid : Site = on_eject v (on_active (turned p t)) s in
    leaves-then with_births births s mid _ (birth-wider s mid (leaves-on_eject v (on_active (turned p t)) s))
    (leaves-effected reach v p (serving it p) it.kind t.vars t.effect mid))))

-- 5. Deliveries, starts and crashes

leaves-requested : (k : ℕ) (refused : Option Status) (s : Site) → Leaves with_ejects s (requested k refused s)
leaves-requested k (Some why) s = leaves-on_traffic (λ t. replied why [] k (taken k t)) s
leaves-requested k None s = leaves-item with_ejects ejects s (call_at s.traffic k) _ (λ c.
    then-eject c.target.uid _ s (on_traffic (λ t. changed_call k (at_place held) (taken k t)) s)
    (leaves-on_traffic (λ t. changed_call k (at_place held) (taken k t)) s))

leaves-tells_asker : (a : Asker) (why : Status) (values : List Datum) (s : Site) → Leaves with_ejects s (tells_asker a why values s)
leaves-tells_asker (Shell name) why values s = leaves-same with_ejects ejects s
leaves-tells_asker (Process v p) why values s = leaves-tells v p (Told why values) s

leaves-heard : (k : ℕ) (why : Status) (values : List Datum) (s : Site) → Leaves with_ejects s (heard k why values s)
leaves-heard k why values s = let over : Site = on_traffic (received k) s in
    leaves-item with_ejects ejects s (call_at s.traffic k) _ (λ c. leaves-cond with_ejects c.open_ s _ over
    (leaves-then with_ejects ejects s over _ (leaves-on_traffic (received k) s) (leaves-tells_asker c.asker why values over))
    (leaves-on_traffic (received k) s))

leaves-start : (v : Uid) (k p : ℕ) (s : Site) → Leaves with_ejects s (start v k p s)
leaves-start v k p s = leaves-item with_ejects ejects s (call_at s.traffic k) _ (λ c. leaves-on_eject v _ s)

pub leaves-crashed : (s : Site) → Leaves with_fall s (crashed s)
leaves-crashed s = leaves-then with_fall fall s (on_node down s) _ (leaves-on_node with_fall down s refl)
    (leaves-wider with_ejects with_fall (λ a b. refl) (on_node down s) _ (leaves-on_traffic (without_node s.number) (on_node down s)))

-- 6. The store

pub leaves-settled : (p : Option Pick) (s : Site) → Leaves with_doubts s (settled p s)
leaves-settled None s = leaves-same with_doubts doubts s
leaves-settled (Some p) s = leaves-on_node with_doubts (settled_node s.layout s.number p) s refl

pub leaves-unsynced : (s : Site) → Leaves with_doubts s (unsynced s)
leaves-unsynced s = leaves-on_node with_doubts (λ it. record it { synced = false }) s refl

pub leaves-ended : (r : StoreRequest) (why : Status) (s : Site) → Leaves with_work s (request_ended r why s)
leaves-ended r why s = leaves-then with_work work s ended _ (leaves-on_node with_work (λ it. record it { requests = rest it.requests }) s
    refl) (wider-work ended _ (code r.process))
  where
    ended : Site
    ended = on_node (λ it. record it { requests = rest it.requests }) s

    code : (p : Option ℕ) → Leaves with_ejects ended (tells_code r.uid p why ended)
    code None = leaves-same with_ejects ejects ended
    code (Some p) = leaves-tells r.uid p (Code why) ended

leaves-removed : (c : EjectChange) (v : Uid) (s : Site) → Leaves with_work s (removed c v s)
leaves-removed (body bytes) v s = leaves-same with_work work s
leaves-removed removal v s = leaves-then with_work work s (deactivated v s) _ (leaves-deactivated v s)
    (wider-work (deactivated v s) _ (leaves-turned_away v status.Gone (deactivated v s)))

pub leaves-done : (r : StoreRequest) (s : Site) → Leaves with_work s (done r s)
leaves-done r s = leaves-then with_work work s (request_ended r status.Ok s) _ (leaves-ended r status.Ok s)
    (leaves-removed r.change r.uid (request_ended r status.Ok s))

pub leaves-doubted : (r : StoreRequest) (s : Site) → Leaves with_ejects s (doubted r s)
leaves-doubted r s = leaves-on_eject r.uid (λ e. record e { doubt = Some r.change }) s

work-store : (s new : Site) → Leaves with_work s new → Leaves with_store s new
work-store s new a = leaves-wider with_work with_store (λ a b. refl) s new a

doubts-store : (s new : Site) → Leaves with_doubts s new → Leaves with_store s new
doubts-store s new a = leaves-wider with_doubts with_store (λ a b. refl) s new a

ejects-store : (s new : Site) → Leaves with_ejects s new → Leaves with_store s new
ejects-store s new a = leaves-wider with_ejects with_store (λ a b. refl) s new a

pub leaves-stored : (r : StoreRequest) (s : Site) → Leaves with_store s (stored r s)
leaves-stored r s = let kept : Site = on_eject r.uid (λ e. record e { kept = kept_of r.change; doubt = None }) s in
    leaves-then with_store store s kept _ (ejects-store s kept
    (leaves-on_eject r.uid (λ e. record e { kept = kept_of r.change; doubt = None }) s))
    (leaves-on_node with_store (λ it. record it { ledger = written_with s.layout r.change it.ledger }) kept refl)

-- a fault ends the request, and the settling begins anew
pub leaves-faulted : (r : StoreRequest) (s : Site) → Leaves with_store s (request_ended r status.StoreFault (unsynced s))
leaves-faulted r s = leaves-then with_store store s (unsynced s) _ (doubts-store s (unsynced s) (leaves-unsynced s))
    (work-store (unsynced s) _ (leaves-ended r status.StoreFault (unsynced s)))

abbrev IsNoStop : RequestEnd → Type 0
IsNoStop end.Stop = ⊥
IsNoStop _ = Unit {0}

leaves-worked : (w : Work) (r : StoreRequest) (how : RequestEnd) (p : Option Pick) (s : Site) → IsNoStop how
    → Leaves with_store s (worked w r how p s)
leaves-worked syncs r end.Part p s goes = leaves-on_node with_store (λ it. record it { synced = true }) s refl
leaves-worked syncs r end.Done p s goes = leaves-same with_store store s
leaves-worked syncs r end.Full p s goes = leaves-same with_store store s
leaves-worked syncs r end.Fault p s goes = leaves-faulted r s
leaves-worked syncs r end.Stop p s goes = absurd goes
leaves-worked reads r end.Part p s goes = doubts-store s _ (leaves-settled p s)
leaves-worked reads r end.Done p s goes = leaves-same with_store store s
leaves-worked reads r end.Full p s goes = leaves-same with_store store s
leaves-worked reads r end.Fault p s goes = leaves-faulted r s
leaves-worked reads r end.Stop p s goes = absurd goes
leaves-worked unkept r how p s goes = work-store s _ (leaves-done r s)
leaves-worked without_room r how p s goes = work-store s _ (leaves-ended r status.Full s)
leaves-worked calls r end.Part p s goes = leaves-then with_store store s (doubted r s) _ (ejects-store s (doubted r s) (leaves-doubted r s))
    (leaves-on_node with_store (λ it. record it { requests = more_made it.requests }) (doubted r s) refl)
leaves-worked calls r end.Done p s goes = leaves-then with_store store s (stored r s) _ (leaves-stored r s)
    (work-store (stored r s) _ (leaves-done r (stored r s)))
leaves-worked calls r end.Full p s goes = leaves-same with_store store s
leaves-worked calls r end.Fault p s goes = leaves-then with_store store s (doubted r s) _
    (ejects-store s (doubted r s) (leaves-doubted r s)) (work-store (doubted r s) _ (leaves-ended r status.StoreFault (doubted r s)))
leaves-worked calls r end.Stop p s goes = absurd goes

pub leaves-store_turn : (how : RequestEnd) (p : Option Pick) (s : Site) → IsNoStop how → Leaves with_store s (store_turn how p s)
leaves-store_turn how p s goes = leaves-item with_store store s (first_request s.node) _ (λ r. leaves-worked (work_of s r) r how p s goes)

work-fall : (s new : Site) → Leaves with_work s new → Leaves with_fall s new
work-fall s new a = leaves-wider with_work with_fall (λ a b. refl) s new a

leaves-stopped : (p : Option Pick) (s : Site) → Leaves with_fall s (store_turn end.Stop p s)
leaves-stopped p s = leaves-item with_fall fall s (first_request s.node) _ (λ r. by_work (work_of s r) r)
  where
    by_work : (w : Work) (r : StoreRequest) → Leaves with_fall s (worked w r end.Stop p s)
    by_work syncs r = leaves-crashed s
    by_work reads r = leaves-crashed s
    by_work unkept r = work-fall s _ (leaves-done r s)
    by_work without_room r = work-fall s _ (leaves-ended r status.Full s)
    by_work calls r = leaves-then with_fall fall s (doubted r s) _
        (leaves-wider with_ejects with_fall (λ a b. refl) s (doubted r s) (leaves-doubted r s)) (leaves-crashed (doubted r s))

-- 7. Activations and boots

pub leaves-started : (p : Option Pick) (s : Site) → Leaves with_doubts s (start_settled p s)
leaves-started p s = leaves-cond with_doubts (to_settle s) s _ s
    (leaves-then with_doubts doubts s (unsynced s) _ (leaves-unsynced s) (leaves-settled p (unsynced s))) (leaves-same with_doubts doubts s)

pub leaves-awake : (v : Uid) (s : Site) → Leaves with_ejects s (activated v start_end.Ok s)
leaves-awake v s = leaves-item with_ejects ejects s (eject_in s v) _ (λ e. leaves-item with_ejects ejects s e.kept _ (λ bytes.
    leaves-item with_ejects ejects s (start_of s.types bytes v) _ (λ start.
    then-traffic (misfits_answered start.0 e.queued) s _ (leaves-on_eject v _ s))))

ejects-doubts : (s new : Site) → Leaves with_ejects s new → Leaves with_doubts s new
ejects-doubts s new a = leaves-wider with_ejects with_doubts (λ a b. refl) s new a

activated-behind : (v : Uid) (how : StartEnd) (p : Option Pick) (s : Site)
    → Leaves with_ejects (start_settled p s) (activated v how (start_settled p s)) → Leaves with_doubts s (activation_turn v how p s)
activated-behind v how p s a = leaves-then with_doubts doubts s (start_settled p s) _ (leaves-started p s)
    (ejects-doubts (start_settled p s) _ a)

leaves-fallen : (v : Uid) (p : Option Pick) (s : Site) → Leaves with_start s (activation_turn v start_end.Stop p s)
leaves-fallen v p s = leaves-then with_start starts s (start_settled p s) _
    (leaves-wider with_doubts with_start (λ a b. refl) s (start_settled p s) (leaves-started p s))
    (leaves-wider with_fall with_start (λ a b. refl) (start_settled p s) _ (leaves-crashed (start_settled p s)))

pub leaves-boot : (e : ℕ) (how : BootEnd) (p : Option Pick) (began : Bool) (s : Site) → Leaves with_boot s (boot_turn e how p began s)
leaves-boot e how p began s = leaves-then with_boot boot s (settled p s) _
    (leaves-wider with_doubts with_boot (λ a b. refl) s (settled p s) (leaves-settled p s))
    (leaves-on_node with_boot (booted_node s e how began) (settled p s) (is how))
  where
    is : (how : BootEnd) → booted_node s e how began (settled p s).node
        ≡ with_boot (settled p s).node (booted_node s e how began (settled p s).node)
    is boot_end.Up = refl
    is boot_end.DiskFault = refl
    is boot_end.Stop = refl
    is (boot_end.Damaged place) = refl
    is boot_end.EpochsSpent = refl
    is boot_end.Full = refl

-- 8. Every event

keeps : (e : Event) (s new : Site) → Leaves (with_changes_of e) s new → KeepsSite e s new
keeps e s new a = record { number = a.number; types = a.types; layout = a.layout; node = a.node }

aside : (e : Event) (s : Site) → s.node ≡ with_changes_of e s.node s.node → KeepsSite e s s
aside e s is = record { number = refl; types = refl; layout = refl; node = is }

pub keeps-site : (reach : ℕ → Bool) (e : Event) (s : Site) → KeepsSite e s (site_turn reach e s)
keeps-site reach (event.Request k a b refused) s = keeps (event.Request k a b refused) s _ (leaves-requested k refused s)
keeps-site reach (event.Reply k a b name why values) s = keeps (event.Reply k a b name why values) s _ (leaves-heard k why values s)
keeps-site reach (event.Activate u start_end.Ok p) s = keeps (event.Activate u start_end.Ok p) s _
    (activated-behind u start_end.Ok p s (leaves-awake u (start_settled p s)))
keeps-site reach (event.Activate u start_end.Gone p) s = keeps (event.Activate u start_end.Gone p) s _
    (activated-behind u start_end.Gone p s (leaves-turned_away u status.Gone (start_settled p s)))
keeps-site reach (event.Activate u start_end.Fault p) s = keeps (event.Activate u start_end.Fault p) s _
    (activated-behind u start_end.Fault p s (leaves-turned_away u status.StoreFault (start_settled p s)))
keeps-site reach (event.Activate u start_end.Damaged p) s = keeps (event.Activate u start_end.Damaged p) s _
    (activated-behind u start_end.Damaged p s (leaves-turned_away u status.Damaged (start_settled p s)))
keeps-site reach (event.Activate u start_end.Stop p) s = keeps (event.Activate u start_end.Stop p) s _ (leaves-fallen u p s)
keeps-site reach (event.Start k u p) s = keeps (event.Start k u p) s _ (leaves-start u k p s)
keeps-site reach (event.Process u p said) s = keeps (event.Process u p said) s _ (leaves-process_turn reach u p s)
keeps-site reach (event.Store u clock end.Part p) s = keeps (event.Store u clock end.Part p) s _ (leaves-store_turn end.Part p s tt)
keeps-site reach (event.Store u clock end.Done p) s = keeps (event.Store u clock end.Done p) s _ (leaves-store_turn end.Done p s tt)
keeps-site reach (event.Store u clock end.Full p) s = keeps (event.Store u clock end.Full p) s _ (leaves-store_turn end.Full p s tt)
keeps-site reach (event.Store u clock end.Fault p) s = keeps (event.Store u clock end.Fault p) s _ (leaves-store_turn end.Fault p s tt)
keeps-site reach (event.Store u clock end.Stop p) s = keeps (event.Store u clock end.Stop p) s _ (leaves-stopped p s)
keeps-site reach (event.Boot n e how p began) s = keeps (event.Boot n e how p began) s _ (leaves-boot e how p began s)
keeps-site reach (event.Crash n) s = keeps (event.Crash n) s _ (leaves-crashed s)
keeps-site reach (event.Still n up) s = aside (event.Still n up) s refl
keeps-site reach (event.Link a b joined) s = aside (event.Link a b joined) s refl
keeps-site reach (event.Armed n what) s = aside (event.Armed n what) s refl
keeps-site reach (event.Made name why v) s = aside (event.Made name why v) s refl
keeps-site reach (event.Bound name kept) s = aside (event.Bound name kept) s refl
keeps-site reach (event.Void name) s = aside (event.Void name) s refl
keeps-site reach (event.Asked k name at_once) s = aside (event.Asked k name at_once) s refl
keeps-site reach event.Quiet s = aside event.Quiet s refl
keeps-site reach event.Spent s = aside event.Spent s refl
keeps-site reach (event.Left names) s = aside (event.Left names) s refl
