-- The stations that messages go to: a call that is asked goes to a node that is there, and no turn sends it elsewhere.
use Rattle.std.proofs.Common.{◌≡◌, ◌==◌, ℕ, nat_le, Bool, true, false, cond, ◌||◌, List, [], ◌∷◌, Option, None, Some, Result, Ok, Err}
use Rattle.std.proofs.Common.{length, refl, sym, ◌∙◌, ap, subst}
use Rattle.std.specs.Option.{option_map}
use Rattle.std.specs.Ordering.{nat_cmp, eq_by_cmp}
use Rattle.std.specs.Cmp.{nat_cmp_total}
use Rattle.std.specs.FinMap.{nat_cmp-IsAntisymmetric}
use Rattle.std.specs.FinMap.Entries.{find-put}
use Rattle.capability.specs.declared.Uid.{Uid}
use Rattle.capability.specs.declared.Cap.{Cap}
use Rattle.capability.specs.declared.TheConstants.{BODY_LIMIT, MESSAGE_LIMIT}
use Rattle.capability.specs.Capability.{full}
use Rattle.eden_value.specs.Datum.{Datum}
use Rattle.eden_value.specs.declared.status.Status.{Status}
use Rattle.eden_value.specs.declared.status.Status.TheVariants as status
use Rattle.eden_codec.specs.Spelling.{spelling, values_size}
use Rattle.eden_model.specs.Map.{with_item, rest, value_at, each_value}
use Rattle.eden_model.proofs.Laws.{value-changed}
use Rattle.eden_model.specs.Traffic.{Place, asked, held, answered, done as over, Traffic, Call, call_at, target_station, next_call}
use Rattle.eden_model.specs.Traffic.{changed_call, at_place, closed, sent, taken, replied, all_replied, new_call, with_call, asks}
use Rattle.eden_model.specs.Traffic.{orphaned, in_transit, touches, crashed_call, on_link, cut_call, without_node, without_link}
use Rattle.eden_model.specs.declared.Asker.{Asker}
use Rattle.eden_model.specs.declared.Asker.TheVariants.{Shell, Eject as Process}
use Rattle.eden_model.specs.Crew.{Invocation, outside, set_waits, locked, left, waited, signalled, running}
use Rattle.epl_syntax.specs.declared.effect.Answer.{Answer}
use Rattle.epl_syntax.specs.declared.effect.Answer.TheVariants.{Code, Reply as Told, Created as Made}
use Rattle.epl_syntax.specs.declared.effect.Effect.{Effect}
use Rattle.epl_syntax.specs.declared.effect.Effect.TheVariants as effect
use Rattle.epl_syntax.specs.Edentype.{Edentype}
use Rattle.epl_syntax.specs.Meaning.{rep_of, type_of, first_values}
use Rattle.passive_store.specs.declared.store.Pick.{Pick}
use Rattle.journal.specs.EjectChange.{EjectChange, body, removal, kept_of}
use Rattle.journal.specs.declared.event.BootEnd.{BootEnd}
use Rattle.journal.specs.declared.event.StartEnd.{StartEnd}
use Rattle.journal.specs.declared.event.StartEnd.TheVariants as start_end
use Rattle.journal.specs.declared.event.RequestEnd.{RequestEnd}
use Rattle.journal.specs.declared.event.RequestEnd.TheVariants as end
use Rattle.journal.specs.declared.event.Event.{Event}
use Rattle.journal.specs.declared.event.Event.TheVariants as event
use Rattle.journal.specs.World.{Site, Node, Eject, Active, StoreRequest, eject_in, on_eject, on_node, on_traffic}
use Rattle.journal.specs.Ejects.{with_active, with_queued, on_active, on_crew, is_there, told, tells, without_requests, deactivated}
use Rattle.journal.specs.Ejects.{turned_away, gone_if_unkept, fresh, next_uid, born_in, born}
use Rattle.journal.specs.Deliveries.{misfit, requested, tells_asker, received, heard}
use Rattle.journal.specs.Processes.{turn_of, turned, serving, start, without_process, asks_store, answers, refused_at_once}
use Rattle.journal.specs.Processes.{waits_or_told, creates, checkpoints, effected, process_turn}
use Rattle.journal.specs.Settling.{first_request, settled_node, settled, unsynced, written_with, to_settle}
use Rattle.journal.specs.Crashes.{down, crashed}
use Rattle.journal.specs.Stores.{Work, syncs, reads, unkept, without_room, calls, work_of, more_made, doubted, tells_code, request_ended}
use Rattle.journal.specs.Stores.{removed, stored, done, worked, store_turn}
use Rattle.journal.specs.Starts.{start_of, misfits_answered, activated, start_settled, activation_turn}
use Rattle.journal.specs.Boots.{booted_node, boot_turn}
use Rattle.journal.specs.Step.{site_turn}
use Rattle.journal.specs.Sites.{AskedAll}

-- 1. Changes of the traffic

-- a change that makes no call asked, and none go elsewhere
abbrev Calms : (Call → Call) → Type 0
Calms f = (c : Call) → (f c).place ≡ asked → (c.place ≡ asked) × (target_station (f c) ≡ target_station c)

calms-call : (Q : ℕ → Type 0) (f : Call → Call) → Calms f → (c d : Call) → Some (f c) ≡ Some d → (c.place ≡ asked → Q (target_station c))
    → d.place ≡ asked → Q (target_station d)
calms-call Q f calm c d same was place =
    let e : f c ≡ d = cc same in
    let x = calm c (ap (λ (y : Call). y.place) e ∙ place) in
    subst Q (sym x.1 ∙ ap target_station e) (was x.0)

pub asked-changed : {Q : ℕ → Type 0} (k : ℕ) (f : Call → Call) (t : Traffic) → Calms f → AskedAll Q t → AskedAll Q (changed_call k f t)
asked-changed {Q = Q} k f t calm all = record {
  at = λ j d is place. go j d place (eq_by_cmp nat_cmp j k) refl (call_at t j) refl
      (sym (value-changed nat_cmp nat_cmp_total nat_cmp-IsAntisymmetric j k f t.calls) ∙ is);
}
  where
    go : (j : ℕ) (d : Call) → d.place ≡ asked → (b : Bool) → eq_by_cmp nat_cmp j k ≡ b → (o : Option Call) → call_at t j ≡ o
        → cond (eq_by_cmp nat_cmp j k) (option_map f (call_at t j)) (call_at t j) ≡ Some d → Q (target_station d)
    go j d place false b o at same = all.at j d (subst (λ c. cond c (option_map f (call_at t j)) (call_at t j) ≡ Some d) b same) place
    go j d place true b None at same = absurd
        (let bad : None ≡ Some d = subst (λ o. option_map f o ≡ Some d) at
        (subst (λ c. cond c (option_map f (call_at t j)) (call_at t j) ≡ Some d) b same) in cc bad)
    go j d place true b (Some c) at same = calms-call Q f calm c d
        (subst (λ o. option_map f o ≡ Some d) at (subst (λ c. cond c (option_map f (call_at t j)) (call_at t j) ≡ Some d) b same))
        (λ x. all.at j c at x) place

-- what is on its way does not count
asked-transit : {Q : ℕ → Type 0} (t : Traffic) (transit : List ℕ) → AskedAll Q t → AskedAll Q (record t { transit = transit })
asked-transit t transit all = record { at = all.at }

pub value-calls : (j : ℕ) (f : Call → Call) (cs : List (ℕ × Call))
    → value_at nat_cmp j (each_value f cs) ≡ option_map f (value_at nat_cmp j cs)
value-calls j f [] = refl
value-calls j f (e ∷ es) = go (value-calls j f es) (eq_by_cmp nat_cmp j e.0) refl
  where
    go : value_at nat_cmp j (each_value f es) ≡ option_map f (value_at nat_cmp j es) → (b : Bool) → eq_by_cmp nat_cmp j e.0 ≡ b
        → value_at nat_cmp j (each_value f (e ∷ es)) ≡ option_map f (value_at nat_cmp j (e ∷ es))
    go later true is = rw is refl
    go later false is = rw is later

asked-each : {Q : ℕ → Type 0} (f : Call → Call) (t : Traffic) (transit : List ℕ) → Calms f → AskedAll Q t
    → AskedAll Q (record { calls = each_value f t.calls; transit = transit })
asked-each {Q = Q} f t transit calm all =
    record { at = λ j d is place. go j d place (call_at t j) refl (sym (value-calls j f t.calls) ∙ is) }
  where
    go : (j : ℕ) (d : Call) → d.place ≡ asked → (o : Option Call) → call_at t j ≡ o → option_map f (call_at t j) ≡ Some d
        → Q (target_station d)
    go j d place None at same = absurd (let bad : None ≡ Some d = subst (λ o. option_map f o ≡ Some d) at same in cc bad)
    go j d place (Some c) at same = calms-call Q f calm c d (subst (λ o. option_map f o ≡ Some d) at same) (λ x. all.at j c at x) place

calms-held : Calms (at_place held)
calms-held c is = absurd (cc is)

calms-answered : (s : Status) (results : List Datum) → Calms (at_place (answered s results))
calms-answered s results c is = absurd (cc is)

calms-over : Calms (at_place over)
calms-over c is = absurd (cc is)

calms-closed : Calms closed
calms-closed c is = absurd (cc is)

asked-replied : {Q : ℕ → Type 0} (s : Status) (results : List Datum) (k : ℕ) (t : Traffic) → AskedAll Q t
    → AskedAll Q (replied s results k t)
asked-replied {Q = Q} s results k t all = go (call_at t k)
  where
    one : (b : Bool) → AskedAll Q (cond b (sent k (answered s results) t) (changed_call k (at_place over) t))
    one true = asked-transit (changed_call k (at_place (answered s results)) t) _
        (asked-changed k (at_place (answered s results)) t (calms-answered s results) all)
    one false = asked-changed k (at_place over) t calms-over all

    go : (o : Option Call) → AskedAll Q (with_item o
        (λ c. cond c.open_ (sent k (answered s results) t) (changed_call k (at_place over) t)) t)
    go None = all
    go (Some c) = one c.open_

asked-all_replied : {Q : ℕ → Type 0} (s : Status) (ks : List ℕ) (t : Traffic) → AskedAll Q t → AskedAll Q (all_replied s ks t)
asked-all_replied s [] t all = all
asked-all_replied s (k ∷ ks) t all = asked-all_replied s ks (replied s [] k t) (asked-replied s [] k t all)

asked-orphaned : {Q : ℕ → Type 0} (u : Uid) (t : Traffic) → AskedAll Q t → AskedAll Q (orphaned u t)
asked-orphaned u t all = asked-each (λ c. cond (asks u c.asker) (record c { open_ = false }) c) t t.transit
    (λ c is. go (asks u c.asker) c is) all
  where
    go : (b : Bool) (c : Call) → (cond b (record c { open_ = false }) c).place ≡ asked → (c.place ≡ asked)
        × (target_station (cond b (record c { open_ = false }) c) ≡ target_station c)
    go true c is = (is, refl)
    go false c is = (is, refl)

-- a lost call is over, or as it was
lost-place : (b : Bool) (p : Place) → cond b over p ≡ asked → p ≡ asked
lost-place true p is = absurd (cc is)
lost-place false p is = is

calms-crashed : (n : ℕ) → Calms (crashed_call n)
calms-crashed n c is = go (touches n c) is
  where
    go : (b : Bool) → (cond b (record c { open_ = false; place = cond ((target_station c == n) || in_transit c.place) over c.place })
        c).place ≡ asked
        → (c.place ≡ asked) × (target_station (cond b
        (record c { open_ = false; place = cond ((target_station c == n) || in_transit c.place) over c.place }) c) ≡ target_station c)
    go true is = (lost-place ((target_station c == n) || in_transit c.place) c.place is, refl)
    go false is = (is, refl)

calms-cut : (a b : ℕ) → Calms (cut_call a b)
calms-cut a b c is = go (on_link a b c) is
  where
    go : (x : Bool) → (cond x (record c { open_ = false; place = cond (in_transit c.place) over c.place }) c).place ≡ asked
        → (c.place ≡ asked) × (target_station (cond x (record c { open_ = false; place = cond (in_transit c.place) over c.place }) c)
        ≡ target_station c)
    go true is = (lost-place (in_transit c.place) c.place is, refl)
    go false is = (is, refl)

pub asked-without_node : {Q : ℕ → Type 0} (n : ℕ) (t : Traffic) → AskedAll Q t → AskedAll Q (without_node n t)
asked-without_node n t all = asked-each (crashed_call n) t _ (calms-crashed n) all

pub asked-without_link : {Q : ℕ → Type 0} (a b : ℕ) (t : Traffic) → AskedAll Q t → AskedAll Q (without_link a b t)
asked-without_link a b t all = asked-each (cut_call a b) t _ (calms-cut a b) all

pub asked-received : {Q : ℕ → Type 0} (k : ℕ) (t : Traffic) → AskedAll Q t → AskedAll Q (received k t)
asked-received k t all = asked-changed k closed (taken k t) calms-closed (asked-transit t _ all)

-- a new call goes to a node of which Q holds, where it is sent
pub asked-with_call : {Q : ℕ → Type 0} (k : ℕ) (a : Asker) (target : Cap) (operation : List ℕ) (args : List Datum)
    (at_once : Option Status) (t : Traffic) → (at_once ≡ None → Q target.uid.node)
    → AskedAll Q t → AskedAll Q (with_call k a target operation args at_once t)
asked-with_call {Q = Q} k a target operation args at_once t reached all = record {
  at = λ j d is place.
      go j d place (eq_by_cmp nat_cmp j k) at_once reached
      (sym (find-put nat_cmp nat_cmp_total j k (new_call a target operation args at_once) t.calls) ∙ is);
}
  where
    new : (d : Call) → d.place ≡ asked → (o : Option Status) → (o ≡ None → Q target.uid.node)
        → Some (new_call a target operation args o) ≡ Some d → Q (target_station d)
    new d place None reached same = let e : new_call a target operation args None ≡ d = cc same in
        subst Q (ap target_station e) (reached refl)
    new d place (Some s) reached same = let e : new_call a target operation args (Some s) ≡ d = cc same in
        absurd (let bad : over ≡ asked = ap (λ (y : Call). y.place) e ∙ place in cc bad)

    go : (j : ℕ) (d : Call) → d.place ≡ asked → (b : Bool) (o : Option Status) → (o ≡ None → Q target.uid.node)
        → cond b (Some (new_call a target operation args o)) (call_at t j) ≡ Some d → Q (target_station d)
    go j d place true o reached same = new d place o reached same
    go j d place false o reached same = all.at j d same place

-- a call that is not refused at once reaches its node
pub none-refused : (reached : Bool) (args : List Datum) → refused_at_once reached args ≡ None → reached ≡ true
none-refused reached args is = go (nat_le (values_size args) MESSAGE_LIMIT) reached is
  where
    go : (b r : Bool) → cond b (cond r None (Some status.Unreachable)) (Some status.TooLarge) ≡ None → r ≡ true
    go true true e = refl
    go true false e = absurd (cc e)
    go false r e = absurd (cc e)

-- 2. The parts of a turn

abbrev pub Asks : (ℕ → Type 0) → Site → Type 0
Asks Q s = AskedAll Q s.traffic

asks-on_eject : {Q : ℕ → Type 0} (v : Uid) (f : Eject → Eject) (s : Site) → Asks Q s → Asks Q (on_eject v f s)
unfolding on_eject
asks-on_eject v f s h = h

asks-on_node : {Q : ℕ → Type 0} (f : Node → Node) (s : Site) → Asks Q s → Asks Q (on_node f s)
unfolding on_node
asks-on_node f s h = h

asks-on_traffic : {Q : ℕ → Type 0} (f : Traffic → Traffic) (s : Site) → AskedAll Q (f s.traffic) → Asks Q (on_traffic f s)
unfolding on_traffic
asks-on_traffic f s h = h

asks-item : {Q : ℕ → Type 0} {X : Type 0} (s : Site) (o : Option X) (f : X → Site) → ((x : X) → Asks Q (f x)) → Asks Q s
    → Asks Q (with_item o f s)
asks-item s None f each h = h
asks-item s (Some x) f each h = each x

asks-cond : {Q : ℕ → Type 0} (b : Bool) (s t : Site) → Asks Q s → Asks Q t → Asks Q (cond b s t)
asks-cond true s t a b = a
asks-cond false s t a b = b

pub asks-tells : {Q : ℕ → Type 0} (v : Uid) (p : ℕ) (a : Answer) (s : Site) → Asks Q s → Asks Q (tells v p a s)
asks-tells v p a s h = asks-on_eject v (on_active (told p a)) s h

asks-turned_away : {Q : ℕ → Type 0} (v : Uid) (why : Status) (s : Site) → Asks Q s → Asks Q (turned_away v why s)
asks-turned_away v why s h = asks-item s (eject_in s v) _ (λ e. asks-on_traffic (all_replied why e.queued) (on_eject v (with_queued []) s)
    (asked-all_replied why e.queued _ (asks-on_eject v (with_queued []) s h))) h

asks-deactivated : {Q : ℕ → Type 0} (v : Uid) (s : Site) → Asks Q s → Asks Q (deactivated v s)
asks-deactivated v s h = asks-item s (eject_in s v) _ (λ e. asks-item s e.active _ (λ it.
    asks-on_traffic (λ t. all_replied status.Dropped (running it.crew) (orphaned v t))
    (on_eject v (with_active None) (on_node (without_requests v) s))
    (asked-all_replied status.Dropped (running it.crew) _
    (asked-orphaned v _ (asks-on_eject v (with_active None) (on_node (without_requests v) s)
    (asks-on_node (without_requests v) s h))))) h) h

asks-gone : {Q : ℕ → Type 0} (v : Uid) (s : Site) → Asks Q s → Asks Q (gone_if_unkept v s)
asks-gone v s h = asks-item s (eject_in s v) _
    (λ e. asks-cond (is_there e) s (turned_away v status.Gone s) h (asks-turned_away v status.Gone s h)) h

asks-asks : {Q : ℕ → Type 0} (v : Uid) (p : ℕ) (c : EjectChange) (s : Site) → Asks Q s → Asks Q (asks_store v p c s)
asks-asks v p c s h = asks-on_node _ (on_eject v (on_active (on_crew (set_waits p outside))) s)
    (asks-on_eject v (on_active (on_crew (set_waits p outside))) s h)

asks-checkpoints : {Q : ℕ → Type 0} (v : Uid) (p : ℕ) (bytes : List ℕ) (s : Site) → Asks Q s → Asks Q (checkpoints v p bytes s)
asks-checkpoints v p bytes s h = asks-cond (nat_le (length bytes) BODY_LIMIT) (asks_store v p (body bytes) s)
    (tells v p (Code status.TooLarge) s)
    (asks-asks v p (body bytes) s h) (asks-tells v p (Code status.TooLarge) s h)

pub asks-born : {Q : ℕ → Type 0} (v : Uid) (it : Active) (s : Site) → Asks Q s → Asks Q (born v it s)
asks-born v it s h = asks-on_node (λ node. born_in v it node (eject_in s v)) s h

asks-creates : {Q : ℕ → Type 0} (v : Uid) (p : ℕ) (t : Option Edentype) (made : Result Uid Status) (s : Site) → Asks Q s
    → Asks Q (creates v p t made s)
asks-creates v p None made s h = h
asks-creates v p (Some t) (Ok new) s h = asks-tells v p (Made status.Ok (Some (full new))) (born new (fresh t (first_values t)) s)
    (asks-born new (fresh t (first_values t)) s h)
asks-creates v p (Some t) (Err why) s h = asks-tells v p (Made why None) s h

asked-answers : {Q : ℕ → Type 0} (i : Option Invocation) (results : List Datum) (t : Traffic) → AskedAll Q t
    → AskedAll Q (answers i results t)
asked-answers None results t all = all
asked-answers {Q = Q} (Some i) results t all = go (nat_le (values_size results) MESSAGE_LIMIT)
  where
    go : (b : Bool) → AskedAll Q (cond b (replied status.Ok results i.call t) (replied status.TooLarge [] i.call t))
    go true = asked-replied status.Ok results i.call t all
    go false = asked-replied status.TooLarge [] i.call t all

-- 3. A turn of a process

asks-effected : {Q : ℕ → Type 0} (reach : ℕ → Bool) → ((n : ℕ) → reach n ≡ true → Q n)
    → (v : Uid) (p : ℕ) (i : Option Invocation) (t : Edentype) (vars : List Datum) (e : Effect) (s : Site) → Asks Q s
    → Asks Q (effected reach v p i t vars e s)
asks-effected reach known v p i t vars (effect.Return results) s h = asks-on_traffic (answers i results)
    (on_eject v (on_active (without_process p)) s) (asked-answers i results _ (asks-on_eject v (on_active (without_process p)) s h))
asks-effected reach known v p i t vars effect.End s h = asks-on_eject v (on_active (without_process p)) s h
asks-effected reach known v p i t vars effect.Checkpoint s h = asks-checkpoints v p (spelling (rep_of t vars)) s h
asks-effected reach known v p i t vars effect.Destroy s h = asks-asks v p removal s h
asks-effected reach known v p i t vars effect.Deactivate s h = asks-gone v (deactivated v s) (asks-deactivated v s h)
asks-effected reach known v p i t vars (effect.Fault cause) s h = asks-turned_away v status.Dropped (deactivated v s)
    (asks-deactivated v s h)
asks-effected reach known v p i t vars (effect.Create type_name) s h = asks-creates v p (type_of s.types type_name) (next_uid s) s h
asks-effected reach known v p i t vars (effect.Invoke target operation args) s h = let at_once = refused_at_once
    (reach target.uid.node) args in
    asks-on_traffic (λ t. with_call (next_call t) (Process v p) target operation args at_once t)
    (on_eject v (on_active (waits_or_told p at_once)) s)
    (asked-with_call _ (Process v p) target operation args at_once _
    (λ none. known target.uid.node (none-refused (reach target.uid.node) args none))
    (asks-on_eject v (on_active (waits_or_told p at_once)) s h))
asks-effected reach known v p i t vars (effect.Lock m) s h = asks-on_eject v (on_active (on_crew (locked p m))) s h
asks-effected reach known v p i t vars (effect.Leave m) s h = asks-on_eject v (on_active (on_crew (left m))) s h
asks-effected reach known v p i t vars (effect.Wait c) s h = asks-on_eject v (on_active (on_crew (waited p c))) s h
asks-effected reach known v p i t vars (effect.Signal c) s h = asks-on_eject v (on_active (on_crew (signalled c))) s h
asks-effected reach known v p i t vars effect.Yield s h = h

asks-process_turn : {Q : ℕ → Type 0} (reach : ℕ → Bool) → ((n : ℕ) → reach n ≡ true → Q n) → (v : Uid) (p : ℕ) (s : Site) → Asks Q s
    → Asks Q (process_turn reach v p s)
asks-process_turn reach known v p s h = asks-item s (eject_in s v) _
    (λ e. asks-item s e.active _ (λ it. asks-item s (turn_of v it p) _ (λ t.
    asks-effected reach known v p (serving it p) it.kind t.vars t.effect (on_eject v (on_active (turned p t)) s)
    (asks-on_eject v (on_active (turned p t)) s h)) h) h) h

-- 4. The other turns

asks-requested : {Q : ℕ → Type 0} (k : ℕ) (refused : Option Status) (s : Site) → Asks Q s → Asks Q (requested k refused s)
asks-requested k (Some why) s h = asks-on_traffic (λ t. replied why [] k (taken k t)) s
    (asked-replied why [] k (taken k s.traffic) (asked-transit s.traffic _ h))
asks-requested k None s h = asks-item s (call_at s.traffic k) _ (λ c.
    asks-on_eject c.target.uid _ (on_traffic (λ t. changed_call k (at_place held) (taken k t)) s)
    (asks-on_traffic (λ t. changed_call k (at_place held) (taken k t)) s
    (asked-changed k (at_place held) (taken k s.traffic) calms-held (asked-transit s.traffic _ h)))) h

asks-tells_asker : {Q : ℕ → Type 0} (a : Asker) (why : Status) (values : List Datum) (s : Site) → Asks Q s
    → Asks Q (tells_asker a why values s)
asks-tells_asker (Shell name) why values s h = h
asks-tells_asker (Process v p) why values s h = asks-tells v p (Told why values) s h

asks-heard : {Q : ℕ → Type 0} (k : ℕ) (why : Status) (values : List Datum) (s : Site) → Asks Q s → Asks Q (heard k why values s)
asks-heard k why values s h = let x = asks-on_traffic (received k) s (asked-received k s.traffic h) in
    asks-item s (call_at s.traffic k) _ (λ c.
    asks-cond c.open_ (tells_asker c.asker why values (on_traffic (received k) s)) (on_traffic (received k) s)
    (asks-tells_asker c.asker why values (on_traffic (received k) s) x) x) h

asks-start : {Q : ℕ → Type 0} (v : Uid) (k p : ℕ) (s : Site) → Asks Q s → Asks Q (start v k p s)
asks-start v k p s h = asks-item s (call_at s.traffic k) _ (λ c. asks-on_eject v _ s h) h

pub asks-crashed : {Q : ℕ → Type 0} (s : Site) → Asks Q s → Asks Q (crashed s)
asks-crashed s h = asks-on_traffic (without_node s.number) (on_node down s) (asked-without_node s.number _ (asks-on_node down s h))

asks-settled : {Q : ℕ → Type 0} (p : Option Pick) (s : Site) → Asks Q s → Asks Q (settled p s)
asks-settled None s h = h
asks-settled (Some p) s h = asks-on_node (settled_node s.layout s.number p) s h

asks-unsynced : {Q : ℕ → Type 0} (s : Site) → Asks Q s → Asks Q (unsynced s)
asks-unsynced s h = asks-on_node (λ it. record it { synced = false }) s h

asks-ended : {Q : ℕ → Type 0} (r : StoreRequest) (why : Status) (s : Site) → Asks Q s → Asks Q (request_ended r why s)
asks-ended {Q = Q} r why s h = go r.process
  where
    go : (p : Option ℕ) → Asks Q (tells_code r.uid p why (on_node (λ it. record it { requests = rest it.requests }) s))
    go None = asks-on_node (λ it. record it { requests = rest it.requests }) s h
    go (Some p) = asks-tells r.uid p (Code why) (on_node (λ it. record it { requests = rest it.requests }) s)
        (asks-on_node (λ it. record it { requests = rest it.requests }) s h)

asks-removed : {Q : ℕ → Type 0} (v : Uid) (c : EjectChange) (s : Site) → Asks Q s → Asks Q (removed c v s)
asks-removed v (body bytes) s h = h
asks-removed v removal s h = asks-turned_away v status.Gone (deactivated v s) (asks-deactivated v s h)

asks-done : {Q : ℕ → Type 0} (r : StoreRequest) (s : Site) → Asks Q s → Asks Q (done r s)
asks-done r s h = asks-removed r.uid r.change (request_ended r status.Ok s) (asks-ended r status.Ok s h)

asks-doubted : {Q : ℕ → Type 0} (r : StoreRequest) (s : Site) → Asks Q s → Asks Q (doubted r s)
asks-doubted r s h = asks-on_eject r.uid (λ e. record e { doubt = Some r.change }) s h

asks-stored : {Q : ℕ → Type 0} (r : StoreRequest) (s : Site) → Asks Q s → Asks Q (stored r s)
asks-stored r s h = asks-on_node (λ it. record it { ledger = written_with s.layout r.change it.ledger })
    (on_eject r.uid (λ e. record e { kept = kept_of r.change; doubt = None }) s)
    (asks-on_eject r.uid (λ e. record e { kept = kept_of r.change; doubt = None }) s h)

asks-worked : {Q : ℕ → Type 0} (w : Work) (r : StoreRequest) (how : RequestEnd) (p : Option Pick) (s : Site) → Asks Q s
    → Asks Q (worked w r how p s)
asks-worked syncs r end.Part p s h = asks-on_node (λ it. record it { synced = true }) s h
asks-worked syncs r end.Done p s h = h
asks-worked syncs r end.Full p s h = h
asks-worked syncs r end.Fault p s h = asks-ended r status.StoreFault (unsynced s) (asks-unsynced s h)
asks-worked syncs r end.Stop p s h = asks-crashed s h
asks-worked reads r end.Part p s h = asks-settled p s h
asks-worked reads r end.Done p s h = h
asks-worked reads r end.Full p s h = h
asks-worked reads r end.Fault p s h = asks-ended r status.StoreFault (unsynced s) (asks-unsynced s h)
asks-worked reads r end.Stop p s h = asks-crashed s h
asks-worked unkept r how p s h = asks-done r s h
asks-worked without_room r how p s h = asks-ended r status.Full s h
asks-worked calls r end.Part p s h = asks-on_node (λ it. record it { requests = more_made it.requests }) (doubted r s) (asks-doubted r s h)
asks-worked calls r end.Done p s h = asks-done r (stored r s) (asks-stored r s h)
asks-worked calls r end.Full p s h = h
asks-worked calls r end.Fault p s h = asks-ended r status.StoreFault (doubted r s) (asks-doubted r s h)
asks-worked calls r end.Stop p s h = asks-crashed (doubted r s) (asks-doubted r s h)

asks-store_turn : {Q : ℕ → Type 0} (how : RequestEnd) (p : Option Pick) (s : Site) → Asks Q s → Asks Q (store_turn how p s)
asks-store_turn how p s h = asks-item s (first_request s.node) _ (λ r. asks-worked (work_of s r) r how p s h) h

asked-misfits : {Q : ℕ → Type 0} (t : Edentype) (ks : List ℕ) (traffic : Traffic) → AskedAll Q traffic
    → AskedAll Q (misfits_answered t ks traffic)
asked-misfits t [] traffic all = all
asked-misfits {Q = Q} t (k ∷ ks) traffic all = asked-misfits t ks _ (go (call_at traffic k))
  where
    one : (o : Option Status) → AskedAll Q (with_item o (λ status. replied status [] k traffic) traffic)
    one None = all
    one (Some why) = asked-replied why [] k traffic all

    go : (o : Option Call) → AskedAll Q (with_item o (λ c. with_item (misfit t c) (λ status. replied status [] k traffic) traffic) traffic)
    go None = all
    go (Some c) = one (misfit t c)

asks-activated : {Q : ℕ → Type 0} (v : Uid) (how : StartEnd) (s : Site) → Asks Q s → Asks Q (activated v how s)
asks-activated v start_end.Ok s h = asks-item s (eject_in s v) _
    (λ e. asks-item s e.kept _ (λ bytes. asks-item s (start_of s.types bytes v) _ (λ start.
    asks-on_traffic (misfits_answered start.0 e.queued) _ (asked-misfits start.0 e.queued _ (asks-on_eject v _ s h))) h) h) h
asks-activated v start_end.Gone s h = asks-turned_away v status.Gone s h
asks-activated v start_end.Fault s h = asks-turned_away v status.StoreFault s h
asks-activated v start_end.Damaged s h = asks-turned_away v status.Damaged s h
asks-activated v start_end.Stop s h = asks-crashed s h

asks-activation : {Q : ℕ → Type 0} (v : Uid) (how : StartEnd) (p : Option Pick) (s : Site) → Asks Q s → Asks Q (activation_turn v how p s)
asks-activation v how p s h = asks-activated v how (start_settled p s)
    (asks-cond (to_settle s) (settled p (unsynced s)) s (asks-settled p (unsynced s) (asks-unsynced s h)) h)

asks-boot : {Q : ℕ → Type 0} (e : ℕ) (how : BootEnd) (p : Option Pick) (began : Bool) (s : Site) → Asks Q s
    → Asks Q (boot_turn e how p began s)
asks-boot e how p began s h = asks-on_node (booted_node s e how began) (settled p s) (asks-settled p s h)

pub asks-site_turn : {Q : ℕ → Type 0} (reach : ℕ → Bool) → ((n : ℕ) → reach n ≡ true → Q n) → (e : Event) (s : Site) → Asks Q s
    → Asks Q (site_turn reach e s)
asks-site_turn reach known (event.Request k a b refused) s h = asks-requested k refused s h
asks-site_turn reach known (event.Reply k a b name why values) s h = asks-heard k why values s h
asks-site_turn reach known (event.Activate v how p) s h = asks-activation v how p s h
asks-site_turn reach known (event.Start k v p) s h = asks-start v k p s h
asks-site_turn reach known (event.Process v p said) s h = asks-process_turn reach known v p s h
asks-site_turn reach known (event.Store v c how p) s h = asks-store_turn how p s h
asks-site_turn reach known (event.Boot n e how p began) s h = asks-boot e how p began s h
asks-site_turn reach known (event.Crash n) s h = asks-crashed s h
asks-site_turn reach known (event.Still n up) s h = h
asks-site_turn reach known (event.Link a b joined) s h = h
asks-site_turn reach known (event.Armed n what) s h = h
asks-site_turn reach known (event.Made name why v) s h = h
asks-site_turn reach known (event.Bound name kept) s h = h
asks-site_turn reach known (event.Void name) s h = h
asks-site_turn reach known (event.Asked k name at_once) s h = h
asks-site_turn reach known event.Quiet s h = h
asks-site_turn reach known event.Spent s h = h
asks-site_turn reach known (event.Left names) s h = h
