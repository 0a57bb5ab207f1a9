-- The uids of a node's Ejects are behind its epoch and its last serial, and no turn but a boot and a creation changes that.
use Rattle.std.proofs.Common.{◌≡◌, ◌==◌, ◌+◌, ◌<◌, ◌≤◌, ℕ, Bool, true, false, cond, not, List, [], ◌∷◌, ◌++◌, Option, None, Some, Result}
use Rattle.std.proofs.Common.{Ok, Err, is_some, refl, sym, ◌∙◌, ap, subst, nat_le, length, arith}
use Rattle.std.specs.List.{filter}
use Rattle.std.specs.Option.{option_map}
use Rattle.std.specs.Ordering.{eq_by_cmp}
use Rattle.std.specs.FinMap.Entries.{find-put}
use Rattle.capability.specs.declared.Uid.{Uid}
use Rattle.capability.specs.Capability.{full}
use Rattle.capability.specs.declared.TheConstants.{BODY_LIMIT}
use Rattle.eden_value.specs.Datum.{Datum}
use Rattle.eden_value.specs.declared.status.Status.{Status}
use Rattle.eden_value.specs.declared.status.Status.TheVariants as status
use Rattle.eden_codec.specs.Spelling.{spelling}
use Rattle.eden_model.specs.Map.{with_item, uid_cmp, value_at, each_value, rest}
use Rattle.eden_model.specs.Traffic.{Traffic, held, call_at, changed_call, at_place, taken, replied, all_replied, orphaned, next_call}
use Rattle.eden_model.specs.Traffic.{with_call, without_node}
use Rattle.eden_model.specs.declared.Asker.{Asker}
use Rattle.eden_model.specs.declared.Asker.TheVariants.{Shell, Eject as Process}
use Rattle.eden_model.specs.Crew.{Invocation, outside, set_waits, locked, left, waited, signalled, running}
use Rattle.capability.proofs.Uids.{uid_cmp_total, uid_cmp-IsAntisymmetric}
use Rattle.eden_model.proofs.Laws.{eq-same}
use Rattle.epl_syntax.specs.declared.effect.Answer.{Answer}
use Rattle.epl_syntax.specs.declared.effect.Answer.TheVariants.{Code, Reply as Told, Created as Made}
use Rattle.epl_syntax.specs.declared.effect.Effect.{Effect}
use Rattle.epl_syntax.specs.declared.effect.Effect.TheVariants as effect
use Rattle.epl_syntax.specs.Edentype.{Edentype}
use Rattle.epl_syntax.specs.Meaning.{rep_of, type_of, first_values}
use Rattle.passive_store.specs.declared.store.Pick.{Pick}
use Rattle.passive_store.specs.declared.store.Pick.TheVariants as pick
use Rattle.journal.specs.EjectChange.{EjectChange, body, removal, kept_of}
use Rattle.journal.specs.declared.event.RequestEnd.{RequestEnd}
use Rattle.journal.specs.declared.event.RequestEnd.TheVariants as end
use Rattle.journal.specs.declared.event.StartEnd.{StartEnd}
use Rattle.journal.specs.declared.event.StartEnd.TheVariants as start_end
use Rattle.journal.specs.World.{Site, Node, Eject, Active, StoreRequest, eject_in, on_eject, on_node, on_traffic}
use Rattle.journal.specs.Ejects.{with_active, with_queued, on_active, on_crew, is_there, told, tells, without_requests, deactivated}
use Rattle.journal.specs.Ejects.{turned_away, gone_if_unkept, fresh, next_uid, newborn, born}
use Rattle.journal.specs.Deliveries.{requested, tells_asker, received, heard}
use Rattle.journal.specs.Processes.{turn_of, turned, serving, with_start, start, without_process, asks_store, answers, refused_at_once}
use Rattle.journal.specs.Processes.{waits_or_told, creates, checkpoints, effected, active_turn, process_turn}
use Rattle.journal.specs.Settling.{first_request, settled_eject, settled, unsynced, written_with, to_settle}
use Rattle.journal.specs.Crashes.{fallen, down, crashed}
use Rattle.journal.specs.Stores.{Work, syncs, reads, unkept, without_room, calls, work_of, more_made, doubted, tells_code, request_ended}
use Rattle.journal.specs.Stores.{removed, stored, done, worked, store_turn}
use Rattle.journal.specs.Starts.{start_of, misfits_answered, awake_as, activated, start_settled, activation_turn}
use Rattle.journal.specs.Ejects.{epoch_or_zero}
use Rattle.journal.specs.Sites.{InOrder}
use Rattle.history_laws.proofs.Uids.{IsBehind, UidsFit, Fit}
use Rattle.history_laws.proofs.EveryNode.{following_uid, next-following}
use Rattle.history_laws.proofs.Ordered.{order-put, order-changed, order-each}
use Rattle.history_laws.proofs.Frame.{eject-on_eject}

-- 1. The primitives

-- which uids there are does not change
abbrev pub SameUids : List (Uid × Eject) → List (Uid × Eject) → Type 0
SameUids old new = (u : Uid) → is_some (value_at uid_cmp u new) ≡ is_some (value_at uid_cmp u old)

pub fit-same : {G : Uid → Type 0} (up : Bool) (epoch doubt : Option ℕ) (last : ℕ) (old new : List (Uid × Eject)) → SameUids old new
    → (InOrder old → InOrder new) → UidsFit G up epoch doubt last old → UidsFit G up epoch doubt last new
fit-same up epoch doubt last old new same ordered fit =
    record {
      up_keeps = fit.up_keeps;
      doubt_is_next = fit.doubt_is_next;
      in_order = ordered fit.in_order;
      behind = λ u is. fit.behind u (sym (same u) ∙ is);
      all_given = fit.all_given;
    }

some-changed : (b : Bool) (f : Eject → Eject) (o : Option Eject) → is_some (cond b (option_map f o) o) ≡ is_some o
some-changed true f None = refl
some-changed true f (Some e) = refl
some-changed false f o = refl

pub fit-on_eject : {G : Uid → Type 0} (v : Uid) (f : Eject → Eject) (s : Site) → Fit G s.node → Fit G (on_eject v f s).node
unfolding on_eject
fit-on_eject v f s fit = fit-same s.node.up s.node.epoch s.node.epoch_doubt s.node.last_serial s.node.ejects _
    (λ u. ap is_some (eject-on_eject v u f s) ∙ some-changed (eq_by_cmp uid_cmp u v) f (eject_in s u)) (order-changed v f s.node.ejects) fit

pub fit-on_traffic : {G : Uid → Type 0} (f : Traffic → Traffic) (s : Site) → Fit G s.node → Fit G (on_traffic f s).node
unfolding on_traffic
fit-on_traffic f s fit = fit

pub fit-on_node : {G : Uid → Type 0} (f : Node → Node) (s : Site) → Fit G (f s.node) → Fit G (on_node f s).node
unfolding on_node
fit-on_node f s fit = fit

pub fit-item : {G : Uid → Type 0} {X : Type 0} (s : Site) (o : Option X) (f : X → Site) → ((x : X) → Fit G (f x).node) → Fit G s.node
    → Fit G (with_item o f s).node
fit-item s None f each fit = fit
fit-item s (Some x) f each fit = each x

pub fit-cond : {G : Uid → Type 0} (b : Bool) (s t : Site) → Fit G s.node → Fit G t.node → Fit G (cond b s t).node
fit-cond true s t a b = a
fit-cond false s t a b = b

-- 2. The parts of a turn

pub fit-tells : {G : Uid → Type 0} (v : Uid) (p : ℕ) (a : Answer) (s : Site) → Fit G s.node → Fit G (tells v p a s).node
fit-tells v p a s fit = fit-on_eject v (on_active (told p a)) s fit

fit-turned_away : {G : Uid → Type 0} (v : Uid) (why : Status) (s : Site) → Fit G s.node → Fit G (turned_away v why s).node
fit-turned_away v why s fit = fit-item s (eject_in s v) (λ e. on_traffic (all_replied why e.queued) (on_eject v (with_queued []) s))
    (λ e. fit-on_traffic (all_replied why e.queued) (on_eject v (with_queued []) s) (fit-on_eject v (with_queued []) s fit)) fit

fit-deactivated : {G : Uid → Type 0} (v : Uid) (s : Site) → Fit G s.node → Fit G (deactivated v s).node
fit-deactivated v s fit = fit-item s (eject_in s v) _ (λ e. fit-item s e.active _ (λ it.
    fit-on_traffic (λ t. all_replied status.Dropped (running it.crew) (orphaned v t))
    (on_eject v (with_active None) (on_node (without_requests v) s))
    (fit-on_eject v (with_active None) (on_node (without_requests v) s) (fit-on_node (without_requests v) s fit))) fit) fit

fit-gone : {G : Uid → Type 0} (v : Uid) (s : Site) → Fit G s.node → Fit G (gone_if_unkept v s).node
fit-gone v s fit = fit-item s (eject_in s v) (λ e. cond (is_there e) s (turned_away v status.Gone s))
    (λ e. fit-cond (is_there e) s (turned_away v status.Gone s) fit (fit-turned_away v status.Gone s fit)) fit

fit-asks : {G : Uid → Type 0} (v : Uid) (p : ℕ) (c : EjectChange) (s : Site) → Fit G s.node → Fit G (asks_store v p c s).node
fit-asks v p c s fit = fit-on_node (λ it. record it { requests = _ }) (on_eject v (on_active (on_crew (set_waits p outside))) s)
    (fit-on_eject v (on_active (on_crew (set_waits p outside))) s fit)

fit-checkpoints : {G : Uid → Type 0} (v : Uid) (p : ℕ) (bytes : List ℕ) (s : Site) → Fit G s.node → Fit G (checkpoints v p bytes s).node
fit-checkpoints v p bytes s fit = fit-cond (nat_le (length bytes) BODY_LIMIT) (asks_store v p (body bytes) s)
    (tells v p (Code status.TooLarge) s)
    (fit-asks v p (body bytes) s fit) (fit-tells v p (Code status.TooLarge) s fit)

-- 3. Creations

later-behind : (u : Uid) (e last : ℕ) → IsBehind u e last → IsBehind u e (last + 1)
later-behind u e last b = record {
  epoch_counts = b.epoch_counts;
  serial_counts = b.serial_counts;
  epoch_given = b.epoch_given;
  serial_given = λ same. omega (arith, b.serial_given same);
}

pub fit-born : {G : Uid → Type 0} (v : Uid) (it : Active) (s : Site) → v ≡ following_uid s → 1 ≤ epoch_or_zero s.node.epoch
    → Fit G s.node → Fit G (born v it s).node
unfolding on_node
fit-born v it s is counts fit = record {
  up_keeps = fit.up_keeps;
  doubt_is_next = fit.doubt_is_next;
  in_order = order-put v _ s.node.ejects fit.in_order;
  behind = λ u there. go u (eq_by_cmp uid_cmp u v) refl
      (ap is_some (sym (find-put uid_cmp uid_cmp_total u v (with_item (eject_in s v) (with_active (Some it)) (newborn it)) s.node.ejects))
      ∙ there);
  all_given = λ u g. rw serial-is (later-behind u (epoch_or_zero s.node.epoch) s.node.last_serial (fit.all_given u g));
}
  where
    serial-is : v.serial ≡ s.node.last_serial + 1
    serial-is = ap (λ (w : Uid). w.serial) is

    go : (u : Uid) (b : Bool) → eq_by_cmp uid_cmp u v ≡ b
        → is_some (cond (eq_by_cmp uid_cmp u v) (Some (with_item (eject_in s v) (with_active (Some it)) (newborn it))) (eject_in s u))
        ≡ true
        → IsBehind u (epoch_or_zero s.node.epoch) v.serial
    go u true e there = let same : u ≡ v = eq-same uid_cmp uid_cmp-IsAntisymmetric u v e in
        record {
          epoch_counts = omega (arith, counts, ap (λ (w : Uid). w.epoch) (same ∙ is));
          serial_counts = omega (arith, ap (λ (w : Uid). w.serial) (same ∙ is));
          epoch_given = omega (arith, ap (λ (w : Uid). w.epoch) (same ∙ is));
          serial_given = λ here. omega (arith, ap (λ (w : Uid). w.serial) same);
        }
    go u false e there = rw serial-is (later-behind u (epoch_or_zero s.node.epoch) s.node.last_serial (fit.behind u
        (subst (λ c. is_some (cond c (Some (with_item (eject_in s v) (with_active (Some it)) (newborn it))) (eject_in s u)) ≡ true) e
        there)))

fit-creates : {G : Uid → Type 0} (v : Uid) (p : ℕ) (t : Option Edentype) (made : Result Uid Status) (s : Site) → next_uid s ≡ made
    → 1 ≤ epoch_or_zero s.node.epoch → Fit G s.node → Fit G (creates v p t made s).node
fit-creates v p None made s is counts fit = fit
fit-creates v p (Some t) (Ok new) s is counts fit = fit-tells v p (Made status.Ok (Some (full new))) (born new (fresh t (first_values t)) s)
    (fit-born new (fresh t (first_values t)) s (next-following s new is) counts fit)
fit-creates v p (Some t) (Err why) s is counts fit = fit-tells v p (Made why None) s fit

-- 4. A turn of a process

fit-effected : {G : Uid → Type 0} (reach : ℕ → Bool) (v : Uid) (p : ℕ) (i : Option Invocation) (t : Edentype) (vars : List Datum)
    (e : Effect) (s : Site) → 1 ≤ epoch_or_zero s.node.epoch → Fit G s.node → Fit G (effected reach v p i t vars e s).node
fit-effected reach v p i t vars (effect.Return results) s counts fit = fit-on_traffic (answers i results)
    (on_eject v (on_active (without_process p)) s) (fit-on_eject v (on_active (without_process p)) s fit)
fit-effected reach v p i t vars effect.End s counts fit = fit-on_eject v (on_active (without_process p)) s fit
fit-effected reach v p i t vars effect.Checkpoint s counts fit = fit-checkpoints v p (spelling (rep_of t vars)) s fit
fit-effected reach v p i t vars effect.Destroy s counts fit = fit-asks v p removal s fit
fit-effected reach v p i t vars effect.Deactivate s counts fit = fit-gone v (deactivated v s) (fit-deactivated v s fit)
fit-effected reach v p i t vars (effect.Fault cause) s counts fit = fit-turned_away v status.Dropped (deactivated v s)
    (fit-deactivated v s fit)
fit-effected reach v p i t vars (effect.Create type_name) s counts fit = fit-creates v p (type_of s.types type_name) (next_uid s) s
    refl counts fit
fit-effected reach v p i t vars (effect.Invoke target operation args) s counts fit =
    let at_once = refused_at_once (reach target.uid.node) args in
    fit-on_traffic (λ t. with_call (next_call t) (Process v p) target operation args at_once t)
    (on_eject v (on_active (waits_or_told p at_once)) s)
    (fit-on_eject v (on_active (waits_or_told p at_once)) s fit)
fit-effected reach v p i t vars (effect.Lock m) s counts fit = fit-on_eject v (on_active (on_crew (locked p m))) s fit
fit-effected reach v p i t vars (effect.Leave m) s counts fit = fit-on_eject v (on_active (on_crew (left m))) s fit
fit-effected reach v p i t vars (effect.Wait c) s counts fit = fit-on_eject v (on_active (on_crew (waited p c))) s fit
fit-effected reach v p i t vars (effect.Signal c) s counts fit = fit-on_eject v (on_active (on_crew (signalled c))) s fit
fit-effected reach v p i t vars effect.Yield s counts fit = fit

pub fit-process_turn : {G : Uid → Type 0} (reach : ℕ → Bool) (v : Uid) (p : ℕ) (s : Site) → Fit G s.node
    → Fit G (process_turn reach v p s).node
unfolding on_eject
fit-process_turn {G = G} reach v p s fit = go (eject_in s v) refl
  where
    -- the Eject that takes the turn is of an epoch that is counted, and the node's is no earlier
    counts : (e : Eject) → eject_in s v ≡ Some e → 1 ≤ epoch_or_zero s.node.epoch
    counts e at = let b : IsBehind v (epoch_or_zero s.node.epoch) s.node.last_serial = fit.behind v (ap is_some at) in
        omega (arith, b.epoch_counts, b.epoch_given)

    go : (o : Option Eject) → eject_in s v ≡ o
        → Fit G (with_item o (λ e. with_item e.active (λ it. active_turn reach v p it s) s) s).node
    go None at = fit
    go (Some e) at = fit-item s e.active _ (λ it. fit-item s (turn_of v it p) _ (λ t.
        fit-effected reach v p (serving it p) it.kind t.vars t.effect (on_eject v (on_active (turned p t)) s) (counts e at)
        (fit-on_eject v (on_active (turned p t)) s fit)) fit) fit

-- 5. Deliveries, starts and crashes

pub fit-requested : {G : Uid → Type 0} (k : ℕ) (refused : Option Status) (s : Site) → Fit G s.node → Fit G (requested k refused s).node
fit-requested k (Some why) s fit = fit-on_traffic (λ t. replied why [] k (taken k t)) s fit
fit-requested k None s fit = fit-item s (call_at s.traffic k) _ (λ c.
    fit-on_eject c.target.uid (λ e. record e { queued = e.queued ++ k ∷ [] })
    (on_traffic (λ t. changed_call k (at_place held) (taken k t)) s)
    (fit-on_traffic (λ t. changed_call k (at_place held) (taken k t)) s fit)) fit

fit-tells_asker : {G : Uid → Type 0} (a : Asker) (why : Status) (values : List Datum) (s : Site) → Fit G s.node
    → Fit G (tells_asker a why values s).node
fit-tells_asker (Shell name) why values s fit = fit
fit-tells_asker (Process v p) why values s fit = fit-tells v p (Told why values) s fit

pub fit-heard : {G : Uid → Type 0} (k : ℕ) (why : Status) (values : List Datum) (s : Site) → Fit G s.node
    → Fit G (heard k why values s).node
fit-heard k why values s fit = fit-item s (call_at s.traffic k) _ (λ c.
    fit-cond c.open_ (tells_asker c.asker why values (on_traffic (received k) s)) (on_traffic (received k) s)
    (fit-tells_asker c.asker why values (on_traffic (received k) s) (fit-on_traffic (received k) s fit))
    (fit-on_traffic (received k) s fit)) fit

pub fit-start : {G : Uid → Type 0} (v : Uid) (k p : ℕ) (s : Site) → Fit G s.node → Fit G (start v k p s).node
fit-start v k p s fit = fit-item s (call_at s.traffic k) _ (λ c.
    fit-on_eject v (λ e. record (on_active (with_start s.traffic k p c) e) { queued = filter (λ j. not (j == k)) e.queued }) s fit) fit

pub same-each : (f : Eject → Eject) (es : List (Uid × Eject)) → SameUids es (each_value f es)
same-each f [] u = refl
same-each f (e ∷ es) u = go (same-each f es u) (eq_by_cmp uid_cmp u e.0) refl
  where
    go : is_some (value_at uid_cmp u (each_value f es)) ≡ is_some (value_at uid_cmp u es) → (b : Bool) → eq_by_cmp uid_cmp u e.0 ≡ b
        → is_some (value_at uid_cmp u (each_value f (e ∷ es))) ≡ is_some (value_at uid_cmp u (e ∷ es))
    go later true is = rw is refl
    go later false is = rw is later

-- a node that is down owes no epoch
fit-down : {G : Uid → Type 0} {up : Bool} {epoch doubt : Option ℕ} {last : ℕ} {es : List (Uid × Eject)} → UidsFit G up epoch doubt last es
    → UidsFit G false epoch doubt last es
fit-down fit = record {
  up_keeps = λ is. absurd (cc is);
  doubt_is_next = fit.doubt_is_next;
  in_order = fit.in_order;
  behind = fit.behind;
  all_given = fit.all_given;
}

pub fit-crashed : {G : Uid → Type 0} (s : Site) → Fit G s.node → Fit G (crashed s).node
fit-crashed s fit = fit-on_traffic (without_node s.number) (on_node down s) (fit-on_node down s
    (fit-down (fit-same s.node.up s.node.epoch s.node.epoch_doubt s.node.last_serial s.node.ejects (each_value fallen s.node.ejects)
    (same-each fallen s.node.ejects) (order-each fallen s.node.ejects) fit)))

-- 6. Settling: a doubt that is found done raises the epoch

pub raised : (u : Uid) (e later last n : ℕ) → e < later → IsBehind u e last → IsBehind u later n
raised u e later last n up b = record {
  epoch_counts = b.epoch_counts;
  serial_counts = b.serial_counts;
  epoch_given = omega (arith, b.epoch_given, up);
  serial_given = λ same. absurd (omega (arith, b.epoch_given, up, same));
}

settled-new : {G : Uid → Type 0} (up : Bool) (epoch doubt : Option ℕ) (last : ℕ) (es : List (Uid × Eject))
    → UidsFit G up epoch doubt last es → UidsFit G up (with_item doubt (λ e. Some e) epoch) None last es
settled-new up epoch None last es fit = fit
settled-new up epoch (Some e) last es fit = record {
  up_keeps = λ is. omega (arith, fit.doubt_is_next);
  doubt_is_next = tt;
  in_order = fit.in_order;
  behind = λ u there. raised u (epoch_or_zero epoch) e last last fit.doubt_is_next (fit.behind u there);
  all_given = λ u g. raised u (epoch_or_zero epoch) e last last fit.doubt_is_next (fit.all_given u g);
}

settled-old : {G : Uid → Type 0} (up : Bool) (epoch doubt : Option ℕ) (last : ℕ) (es : List (Uid × Eject))
    → UidsFit G up epoch doubt last es → UidsFit G up epoch None last es
settled-old up epoch doubt last es fit = record {
  up_keeps = fit.up_keeps;
  doubt_is_next = tt;
  in_order = fit.in_order;
  behind = fit.behind;
  all_given = fit.all_given;
}

pub fit-settled : {G : Uid → Type 0} (p : Option Pick) (s : Site) → Fit G s.node → Fit G (settled p s).node
unfolding on_node
fit-settled None s fit = fit
fit-settled (Some pick.Old) s fit = settled-old s.node.up s.node.epoch s.node.epoch_doubt s.node.last_serial _
    (fit-same s.node.up s.node.epoch s.node.epoch_doubt s.node.last_serial s.node.ejects _
    (same-each (settled_eject pick.Old) s.node.ejects) (order-each (settled_eject pick.Old) s.node.ejects) fit)
fit-settled (Some pick.New) s fit = settled-new s.node.up s.node.epoch s.node.epoch_doubt s.node.last_serial _
    (fit-same s.node.up s.node.epoch s.node.epoch_doubt s.node.last_serial s.node.ejects _
    (same-each (settled_eject pick.New) s.node.ejects) (order-each (settled_eject pick.New) s.node.ejects) fit)

pub fit-unsynced : {G : Uid → Type 0} (s : Site) → Fit G s.node → Fit G (unsynced s).node
fit-unsynced s fit = fit-on_node (λ it. record it { synced = false }) s fit

-- 7. The store

fit-ended : {G : Uid → Type 0} (r : StoreRequest) (why : Status) (s : Site) → Fit G s.node → Fit G (request_ended r why s).node
fit-ended {G = G} r why s fit = go r.process
  where
    go : (p : Option ℕ) → Fit G (tells_code r.uid p why (on_node (λ it. record it { requests = rest it.requests }) s)).node
    go None = fit-on_node (λ it. record it { requests = rest it.requests }) s fit
    go (Some p) = fit-tells r.uid p (Code why) (on_node (λ it. record it { requests = rest it.requests }) s)
        (fit-on_node (λ it. record it { requests = rest it.requests }) s fit)

fit-removed : {G : Uid → Type 0} (v : Uid) (c : EjectChange) (s : Site) → Fit G s.node → Fit G (removed c v s).node
fit-removed v (body bytes) s fit = fit
fit-removed v removal s fit = fit-turned_away v status.Gone (deactivated v s) (fit-deactivated v s fit)

fit-done : {G : Uid → Type 0} (r : StoreRequest) (s : Site) → Fit G s.node → Fit G (done r s).node
fit-done r s fit = fit-removed r.uid r.change (request_ended r status.Ok s) (fit-ended r status.Ok s fit)

fit-doubted : {G : Uid → Type 0} (r : StoreRequest) (s : Site) → Fit G s.node → Fit G (doubted r s).node
fit-doubted r s fit = fit-on_eject r.uid (λ e. record e { doubt = Some r.change }) s fit

fit-stored : {G : Uid → Type 0} (r : StoreRequest) (s : Site) → Fit G s.node → Fit G (stored r s).node
fit-stored r s fit = fit-on_node (λ it. record it { ledger = written_with s.layout r.change it.ledger })
    (on_eject r.uid (λ e. record e { kept = kept_of r.change; doubt = None }) s)
    (fit-on_eject r.uid (λ e. record e { kept = kept_of r.change; doubt = None }) s fit)

fit-worked : {G : Uid → Type 0} (w : Work) (r : StoreRequest) (how : RequestEnd) (p : Option Pick) (s : Site) → Fit G s.node
    → Fit G (worked w r how p s).node
fit-worked syncs r end.Part p s fit = fit-on_node (λ it. record it { synced = true }) s fit
fit-worked syncs r end.Done p s fit = fit
fit-worked syncs r end.Full p s fit = fit
fit-worked syncs r end.Fault p s fit = fit-ended r status.StoreFault (unsynced s) (fit-unsynced s fit)
fit-worked syncs r end.Stop p s fit = fit-crashed s fit
fit-worked reads r end.Part p s fit = fit-settled p s fit
fit-worked reads r end.Done p s fit = fit
fit-worked reads r end.Full p s fit = fit
fit-worked reads r end.Fault p s fit = fit-ended r status.StoreFault (unsynced s) (fit-unsynced s fit)
fit-worked reads r end.Stop p s fit = fit-crashed s fit
fit-worked unkept r how p s fit = fit-done r s fit
fit-worked without_room r how p s fit = fit-ended r status.Full s fit
fit-worked calls r end.Part p s fit = fit-on_node (λ it. record it { requests = more_made it.requests }) (doubted r s) (fit-doubted r s fit)
fit-worked calls r end.Done p s fit = fit-done r (stored r s) (fit-stored r s fit)
fit-worked calls r end.Full p s fit = fit
fit-worked calls r end.Fault p s fit = fit-ended r status.StoreFault (doubted r s) (fit-doubted r s fit)
fit-worked calls r end.Stop p s fit = fit-crashed (doubted r s) (fit-doubted r s fit)

pub fit-store_turn : {G : Uid → Type 0} (how : RequestEnd) (p : Option Pick) (s : Site) → Fit G s.node → Fit G (store_turn how p s).node
fit-store_turn how p s fit = fit-item s (first_request s.node) _ (λ r. fit-worked (work_of s r) r how p s fit) fit

-- 8. Activations

fit-awake_as : {G : Uid → Type 0} (v : Uid) (e : Eject) (t : Edentype) (durable : List Datum) (s : Site) → Fit G s.node
    → Fit G (awake_as v e (t, durable) s).node
fit-awake_as v e t durable s fit = fit-on_traffic (misfits_answered t e.queued) _ (fit-on_eject v _ s fit)

fit-activated : {G : Uid → Type 0} (v : Uid) (how : StartEnd) (s : Site) → Fit G s.node → Fit G (activated v how s).node
fit-activated v start_end.Ok s fit = fit-item s (eject_in s v) _
    (λ e. fit-item s e.kept _ (λ bytes. fit-item s (start_of s.types bytes v) _ (λ start. fit-awake_as v e start.0 start.1 s fit) fit)
    fit) fit
fit-activated v start_end.Gone s fit = fit-turned_away v status.Gone s fit
fit-activated v start_end.Fault s fit = fit-turned_away v status.StoreFault s fit
fit-activated v start_end.Damaged s fit = fit-turned_away v status.Damaged s fit
fit-activated v start_end.Stop s fit = fit-crashed s fit

pub fit-activation : {G : Uid → Type 0} (v : Uid) (how : StartEnd) (p : Option Pick) (s : Site) → Fit G s.node
    → Fit G (activation_turn v how p s).node
fit-activation v how p s fit = fit-activated v how (start_settled p s)
    (fit-cond (to_settle s) (settled p (unsynced s)) s (fit-settled p (unsynced s) (fit-unsynced s fit)) fit)
