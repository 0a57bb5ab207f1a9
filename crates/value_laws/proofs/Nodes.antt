-- The values of the Ejects of a node stay within the limits in every event at the node.
use Rattle.std.proofs.Common.{arith, ◌≡◌, ◌==◌, ◌+◌, ◌≤◌, ◌<◌, ℕ, nat_le, Bool, true, false, cond, not, List, [], ◌∷◌, ◌++◌, Option, None}
use Rattle.std.proofs.Common.{Some, is_some, Result, Ok, Err, length, refl, sym, ◌∙◌, ap, subst}
use Rattle.std.specs.Prelude.{IfSome, IsSomeAnd}
use Rattle.std.specs.FinMap.Entries.{find-put}
use Rattle.std.specs.List.{filter}
use Rattle.std.specs.Option.{option_map}
use Rattle.std.specs.Ordering.{eq_by_cmp}
use Rattle.std.proofs.lemmas.Bool.Decides.{nat_tests}
use Rattle.capability.specs.Capability.{full}
use Rattle.capability.specs.declared.TheConstants.{BODY_LIMIT}
use Rattle.capability.specs.declared.Uid.{Uid}
use Rattle.capability.proofs.Uids.{uid_cmp_total, uid_cmp-IsAntisymmetric}
use Rattle.eden_value.specs.Datum.{Datum}
use Rattle.eden_value.specs.declared.status.Status.{Status}
use Rattle.eden_value.specs.declared.status.Status.TheVariants as status
use Rattle.eden_codec.specs.Spelling.{spelling}
use Rattle.passive_store.specs.declared.store.Pick.{Pick}
use Rattle.passive_store.specs.declared.store.Pick.TheVariants as pick
use Rattle.eden_model.specs.Crew.{Crew, Invocation, Process as Worker, outside, set_waits, locked, left, waited, signalled, running}
use Rattle.eden_model.specs.Map.{with_item, rest, uid_cmp, value_at, each_value}
use Rattle.eden_model.specs.Traffic.{Traffic, Call, held, call_at, changed_call, at_place, taken, replied, all_replied, orphaned, next_call}
use Rattle.eden_model.specs.Traffic.{with_call, without_node}
use Rattle.eden_model.specs.declared.Asker.{Asker}
use Rattle.eden_model.specs.declared.Asker.TheVariants.{Shell, Eject as Process}
use Rattle.eden_model.proofs.Laws.{eq-same}
use Rattle.epl_syntax.specs.Edentype.{Edentype}
use Rattle.epl_syntax.specs.Meaning.{Turned, rep_of, type_of, first_values}
use Rattle.epl_syntax.specs.declared.effect.Answer.{Answer}
use Rattle.epl_syntax.specs.declared.effect.Answer.TheVariants.{Code, Reply as Told, Created as Made}
use Rattle.epl_syntax.specs.declared.effect.Effect.{Effect}
use Rattle.epl_syntax.specs.declared.effect.Effect.TheVariants as effect
use Rattle.journal.specs.Boots.{booted_node, boot_turn}
use Rattle.journal.specs.Crashes.{fallen, down, crashed}
use Rattle.journal.specs.Deliveries.{requested, tells_asker, received, heard}
use Rattle.journal.specs.EjectChange.{EjectChange, body, removal, kept_of}
use Rattle.journal.specs.Ejects.{with_active, with_queued, on_active, on_crew, is_there, told, tells, without_requests, deactivated}
use Rattle.journal.specs.Ejects.{turned_away, gone_if_unkept, fresh, stored_epoch, epoch_or_zero, next_uid, newborn, born, count}
use Rattle.journal.specs.Processes.{AllowsStart, AllowsTurn, turn_of, turned, serving, with_start, start, worker_at, without_process}
use Rattle.journal.specs.Processes.{asks_store, answers, refused_at_once, waits_or_told, creates, checkpoints, effected, process_turn}
use Rattle.journal.specs.Settling.{first_request, settled_eject, settled, unsynced, written_with, to_settle}
use Rattle.journal.specs.Sites.{InOrder}
use Rattle.journal.specs.Starts.{start_of, misfits_answered, activated, start_settled, activation_turn}
use Rattle.journal.specs.Step.{AllowsAt, IsActiveAnd, site_turn}
use Rattle.journal.specs.Stores.{Work, syncs, reads, unkept, without_room, calls, work_of, more_made, doubted, tells_code, request_ended}
use Rattle.journal.specs.Stores.{removed, stored, done, worked, store_turn}
use Rattle.journal.specs.World.{World, Site, Node, Eject, Active, StoreRequest, node_at, site_of, reaches, eject_in, on_eject, on_node}
use Rattle.journal.specs.World.{on_traffic}
use Rattle.journal.specs.declared.event.BootEnd.{BootEnd}
use Rattle.journal.specs.declared.event.BootEnd.TheVariants as boot_end
use Rattle.journal.specs.declared.event.Event.{Event}
use Rattle.journal.specs.declared.event.Event.TheVariants as event
use Rattle.journal.specs.declared.event.RequestEnd.{RequestEnd}
use Rattle.journal.specs.declared.event.RequestEnd.TheVariants as end
use Rattle.journal.specs.declared.event.Shown.{Shown}
use Rattle.journal.specs.declared.event.StartEnd.{StartEnd}
use Rattle.journal.specs.declared.event.StartEnd.TheVariants as start_end
use Rattle.history_laws.proofs.Creations.{next-active}
use Rattle.history_laws.proofs.EpochBounds.{AreBounded, kept-epochs}
use Rattle.history_laws.proofs.EveryNode.{IsKeptBy}
use Rattle.history_laws.proofs.Frame.{eject-on_eject, on_eject-twice}
use Rattle.history_laws.proofs.KeptTurns.{value-each}
use Rattle.history_laws.proofs.UidTurns.{kept-fit}
use Rattle.history_laws.proofs.Uids.{Fit, OfNode, CreatedIn}
use Rattle.value_laws.specs.Limited.{AreLimited, IsLimitedUid, TypeFits, AnswerFits, goes_on}
use Rattle.value_laws.proofs.ActiveParts.{ActiveHolds, MayBegin, active-fresh, active-told, active-crew, active-without, active-started}
use Rattle.value_laws.proofs.ActiveParts.{active-turned, active-ended, active-started_from, turn-left}
use Rattle.value_laws.proofs.Laws.{first_are_limited}
use Rattle.value_laws.proofs.Single.{SingleAs, SingleIfNative, single-waits, single-locked, single-left, single-waited, single-signalled}
use Rattle.value_laws.proofs.Single.{single-alone}
use Rattle.value_laws.proofs.Types.{TypesFit, type-fits}

-- 1. Ejects

-- what holds of the active part, where there is one
abbrev pub IfActive : Eject → Type 0
IfActive e = IfSome e.active ActiveHolds

pub record EjectHolds (u : Uid) (e : Eject) : Type 0 where
  pub own : IsLimitedUid u
  pub active : IfActive e

abbrev pub EntryHolds : Uid → Option Eject → Type 0
EntryHolds u o = IfSome o (EjectHolds u)

-- of each of these Ejects
pub record AllHold (es : List (Uid × Eject)) : Type 0 where
  pub at : (u : Uid) → EntryHolds u (value_at uid_cmp u es)

abbrev SiteHolds : Site → Type 0
SiteHolds s = AllHold s.node.ejects

-- 2. The primitives

holds-on_eject : (v : Uid) (f : Eject → Eject) (s : Site)
    → ((e : Eject) → eject_in s v ≡ Some e → IsLimitedUid v → IfActive e → IfActive (f e)) → SiteHolds s → SiteHolds (on_eject v f s)
unfolding on_eject
holds-on_eject v f s keep h = record {
  at = λ u. subst (EntryHolds u) (sym (eject-on_eject v u f s)) (go u (eq_by_cmp uid_cmp u v) refl (eject_in s u) refl (h.at u));
}
  where
    go : (u : Uid) (b : Bool) → eq_by_cmp uid_cmp u v ≡ b → (o : Option Eject) → eject_in s u ≡ o → EntryHolds u o
        → EntryHolds u (cond b (option_map f o) o)
    go u false b o is x = x
    go u true b None is x = tt
    go u true b (Some e) is x = let same : u ≡ v = eq-same uid_cmp uid_cmp-IsAntisymmetric u v b in
        record { own = x.own; active = keep e (ap (eject_in s) (sym same) ∙ is) (subst IsLimitedUid same x.own) x.active }

holds-on_traffic : (f : Traffic → Traffic) (s : Site) → SiteHolds s → SiteHolds (on_traffic f s)
unfolding on_traffic
holds-on_traffic f s h = h

holds-on_node : (f : Node → Node) (s : Site) → AllHold (f s.node).ejects → SiteHolds (on_node f s)
unfolding on_node
holds-on_node f s h = h

holds-item : {X : Type 0} (s : Site) (o : Option X) (f : X → Site) → ((x : X) → o ≡ Some x → SiteHolds (f x)) → SiteHolds s
    → SiteHolds (with_item o f s)
holds-item s None f each h = h
holds-item s (Some x) f each h = each x refl

holds-cond : (b : Bool) (s t : Site) → SiteHolds s → SiteHolds t → SiteHolds (cond b s t)
holds-cond true s t a b = a
holds-cond false s t a b = b

if-active : (f : Active → Active) → ((it : Active) → ActiveHolds it → ActiveHolds (f it)) → (e : Eject) → IfActive e
    → IfActive (on_active f e)
if-active f keep e h = go e.active refl h
  where
    go : (o : Option Active) → e.active ≡ o → IfSome o ActiveHolds → IfActive (with_item o (λ it. with_active (Some (f it)) e) e)
    go None is x = subst (λ o. IfSome o ActiveHolds) (sym is) tt
    go (Some it) is x = keep it x

holds-on_active : (v : Uid) (f : Active → Active) (s : Site) → ((it : Active) → ActiveHolds it → ActiveHolds (f it)) → SiteHolds s
    → SiteHolds (on_eject v (on_active f) s)
holds-on_active v f s keep h = holds-on_eject v (on_active f) s (λ e is own x. if-active f keep e x) h

holds-on_crew : (v : Uid) (f : Crew → Crew) (s : Site) → ((it : Active) → SingleIfNative it → SingleAs it.kind (on_crew f it)) → SiteHolds s
    → SiteHolds (on_eject v (on_active (on_crew f)) s)
holds-on_crew v f s keep h = holds-on_active v (on_crew f) s (λ it x. active-crew f it (keep it) x) h

holds-each : (f : Eject → Eject) (es : List (Uid × Eject)) → ((e : Eject) → IfActive e → IfActive (f e)) → AllHold es
    → AllHold (each_value f es)
holds-each f es keep h = record {
  at = λ u. subst (EntryHolds u) (sym (value-each u f es)) (go u (value_at uid_cmp u es) (h.at u));
}
  where
    go : (u : Uid) (o : Option Eject) → EntryHolds u o → EntryHolds u (option_map f o)
    go u None x = tt
    go u (Some e) x = record { own = x.own; active = keep e x.active }

-- 3. The parts of a turn

holds-tells : (v : Uid) (p : ℕ) (a : Answer) (s : Site) → AnswerFits a → SiteHolds s → SiteHolds (tells v p a s)
holds-tells v p a s new h = holds-on_active v (told p a) s (λ it x. active-told p a it new x) h

holds-turned_away : (v : Uid) (why : Status) (s : Site) → SiteHolds s → SiteHolds (turned_away v why s)
holds-turned_away v why s h = holds-item s (eject_in s v) _ (λ e is.
    holds-on_traffic (all_replied why e.queued) (on_eject v (with_queued []) s)
    (holds-on_eject v (with_queued []) s (λ e is own x. x) h)) h

holds-deactivated : (v : Uid) (s : Site) → SiteHolds s → SiteHolds (deactivated v s)
holds-deactivated v s h = holds-item s (eject_in s v) _ (λ e is. holds-item s e.active _ (λ it is_it.
    holds-on_traffic (λ t. all_replied status.Dropped (running it.crew) (orphaned v t))
    (on_eject v (with_active None) (on_node (without_requests v) s))
    (holds-on_eject v (with_active None) (on_node (without_requests v) s) (λ e is own x. tt) (holds-on_node (without_requests v) s h))) h) h

holds-gone : (v : Uid) (s : Site) → SiteHolds s → SiteHolds (gone_if_unkept v s)
holds-gone v s h = holds-item s (eject_in s v) _ (λ e is.
    holds-cond (is_there e) s (turned_away v status.Gone s) h (holds-turned_away v status.Gone s h)) h

holds-waits : (v : Uid) (p : ℕ) (s : Site) → SiteHolds s → SiteHolds (on_eject v (on_active (on_crew (set_waits p outside))) s)
holds-waits v p s h = holds-on_crew v (set_waits p outside) s (λ it x. single-waits it.kind p outside it x) h

holds-asks : (v : Uid) (p : ℕ) (c : EjectChange) (s : Site) → SiteHolds s → SiteHolds (asks_store v p c s)
holds-asks v p c s h = holds-on_node _ (on_eject v (on_active (on_crew (set_waits p outside))) s) (holds-waits v p s h)

holds-checkpoints : (v : Uid) (p : ℕ) (bytes : List ℕ) (s : Site) → SiteHolds s → SiteHolds (checkpoints v p bytes s)
holds-checkpoints v p bytes s h = holds-cond (nat_le (length bytes) BODY_LIMIT) (asks_store v p (body bytes) s)
    (tells v p (Code status.TooLarge) s) (holds-asks v p (body bytes) s h) (holds-tells v p (Code status.TooLarge) s tt h)

holds-born : (v : Uid) (t : Edentype) (s : Site) → TypeFits t → IsLimitedUid v → SiteHolds s
    → SiteHolds (born v (fresh t (first_values t)) s)
unfolding on_node
holds-born v t s fit own h = record {
  at = λ u. subst (EntryHolds u) (sym (find-put uid_cmp uid_cmp_total u v grown s.node.ejects))
      (go u (eq_by_cmp uid_cmp u v) refl (h.at u));
}
  where
    grown : Eject
    grown = with_item (eject_in s v) (with_active (Some (fresh t (first_values t)))) (newborn (fresh t (first_values t)))

    new : ActiveHolds (fresh t (first_values t))
    new = let x = first_are_limited t fit in active-fresh t (first_values t) fit x.0 x.1

    has : (o : Option Eject) → IfActive (with_item o (with_active (Some (fresh t (first_values t)))) (newborn (fresh t (first_values t))))
    has None = new
    has (Some e) = new

    go : (u : Uid) (b : Bool) → eq_by_cmp uid_cmp u v ≡ b → EntryHolds u (eject_in s u) → EntryHolds u (cond b (Some grown) (eject_in s u))
    go u true b x = record {
      own = subst IsLimitedUid (sym (eq-same uid_cmp uid_cmp-IsAntisymmetric u v b)) own;
      active = has (eject_in s v);
    }
    go u false b x = x

-- the uid that is given next, if one is, is within the limits
abbrev pub GivesLimited : Site → Type 0
GivesLimited s = (new : Uid) → next_uid s ≡ Ok new → IsLimitedUid new

holds-creates : (v : Uid) (p : ℕ) (t : Option Edentype) (made : Result Uid Status) (s : Site) → IfSome t TypeFits
    → ((new : Uid) → made ≡ Ok new → IsLimitedUid new) → SiteHolds s → SiteHolds (creates v p t made s)
holds-creates v p None made s fit gives h = h
holds-creates v p (Some t) (Ok new) s fit gives h = let x = gives new refl in
    holds-tells v p (Made status.Ok (Some (full new))) (born new (fresh t (first_values t)) s) x (holds-born new t s fit x h)
holds-creates v p (Some t) (Err why) s fit gives h = holds-tells v p (Made why None) s (tt, tt) h

holds-asked : (v : Uid) (p : ℕ) (o : Option Status) (s : Site) → SiteHolds s → SiteHolds (on_eject v (on_active (waits_or_told p o)) s)
holds-asked v p None s h = holds-waits v p s h
holds-asked v p (Some why) s h = holds-tells v p (Told why []) s tt h

-- what holds behind a turn that ends in this effect: where its process returns, it does once that is gone
abbrev TurnedHolds : Uid → ℕ → Effect → Site → Type 0
TurnedHolds v p (effect.Return results) s = SiteHolds (on_eject v (on_active (without_process p)) s)
TurnedHolds v p _ s = SiteHolds s

turned-holds : (v : Uid) (p : ℕ) (e : Effect) (s : Site) → (goes_on e ≡ true → SiteHolds s)
    → SiteHolds (on_eject v (on_active (without_process p)) s) → TurnedHolds v p e s
turned-holds v p (effect.Return results) s on gone = gone
turned-holds v p _ s on gone = on refl

holds-effected : (reach : ℕ → Bool) (v : Uid) (p : ℕ) (i : Option Invocation) (t : Edentype) (vars : List Datum) (e : Effect) (s : Site)
    → TypesFit s.types → GivesLimited s → TurnedHolds v p e s → SiteHolds (effected reach v p i t vars e s)
holds-effected reach v p i t vars (effect.Return results) s fit gives h =
    holds-on_traffic (answers i results) (on_eject v (on_active (without_process p)) s) h
holds-effected reach v p i t vars effect.End s fit gives h = holds-on_active v (without_process p) s (λ it x. active-without p it x) h
holds-effected reach v p i t vars effect.Checkpoint s fit gives h = holds-checkpoints v p (spelling (rep_of t vars)) s h
holds-effected reach v p i t vars effect.Destroy s fit gives h = holds-asks v p removal s h
holds-effected reach v p i t vars effect.Deactivate s fit gives h = holds-gone v (deactivated v s) (holds-deactivated v s h)
holds-effected reach v p i t vars (effect.Fault cause) s fit gives h = holds-turned_away v status.Dropped (deactivated v s)
    (holds-deactivated v s h)
holds-effected reach v p i t vars (effect.Create type_name) s fit gives h =
    holds-creates v p (type_of s.types type_name) (next_uid s) s (type-fits s.types type_name fit) gives h
holds-effected reach v p i t vars (effect.Invoke target operation args) s fit gives h =
    let at_once = refused_at_once (reach target.uid.node) args in
    holds-on_traffic (λ t. with_call (next_call t) (Process v p) target operation args at_once t)
    (on_eject v (on_active (waits_or_told p at_once)) s) (holds-asked v p at_once s h)
holds-effected reach v p i t vars (effect.Lock m) s fit gives h = holds-on_crew v (locked p m) s (λ it x. single-locked it.kind p m it x) h
holds-effected reach v p i t vars (effect.Leave m) s fit gives h = holds-on_crew v (left m) s (λ it x. single-left it.kind m it x) h
holds-effected reach v p i t vars (effect.Wait c) s fit gives h = holds-on_crew v (waited p c) s (λ it x. single-waited it.kind p c it x) h
holds-effected reach v p i t vars (effect.Signal c) s fit gives h =
    holds-on_crew v (signalled c) s (λ it x. single-signalled it.kind c it x) h
holds-effected reach v p i t vars effect.Yield s fit gives h = h

-- a change of an active part gives no other uid
gives-on_active : (v : Uid) (f : Active → Active) (s : Site) → InOrder s.node.ejects → GivesLimited s
    → GivesLimited (on_eject v (on_active f) s)
gives-on_active v f s order gives new is = gives new (sym (next-active v f s order) ∙ is)

same-types : (v : Uid) (f : Eject → Eject) (s : Site) → TypesFit s.types → TypesFit (on_eject v f s).types
unfolding on_eject
same-types v f s fit = fit

-- the Eject has this process, where it is active
abbrev HasProcess : Site → Uid → ℕ → Type 0
HasProcess s v p = IsActiveAnd s v (λ e it. is_some (worker_at it p) ≡ true)

holds-process_turn : (reach : ℕ → Bool) (v : Uid) (p : ℕ) (s : Site) → TypesFit s.types → GivesLimited s → InOrder s.node.ejects
    → HasProcess s v p → SiteHolds s → SiteHolds (process_turn reach v p s)
holds-process_turn reach v p s fit gives order there h = holds-item s (eject_in s v) _ (λ e is. holds-item s e.active _ (λ it is_it.
    holds-item s (turn_of v it p) _ (λ t is_t.
    let now = on_eject v (on_active (turned p t)) s in
    let some = process-of e it is is_it in
    holds-effected reach v p (serving it p) it.kind t.vars t.effect now
    (same-types v (on_active (turned p t)) s fit) (gives-on_active v (turned p t) s order gives)
    (turned-holds v p t.effect now
    (λ on. holds-on_eject v (on_active (turned p t)) s (λ x is_x own has. keep e it t x some is is_it is_t is_x own on has) h)
    (subst SiteHolds (sym (on_eject-twice v (on_active (turned p t)) (on_active (without_process p)) s))
    (holds-on_eject v (λ x. on_active (without_process p) (on_active (turned p t) x)) s
    (λ x is_x own has. gone e it t x some is is_it is_t is_x own has) h)))) h) h) h
  where
    process-of : (e : Eject) (it : Active) → eject_in s v ≡ Some e → e.active ≡ Some it → is_some (worker_at it p) ≡ true
    process-of e it is is_it = subst (λ o. IsSomeAnd o (λ it. is_some (worker_at it p) ≡ true)) is_it
        (subst (λ o. IsSomeAnd o (λ e. IsSomeAnd e.active (λ it. is_some (worker_at it p) ≡ true))) is there)

    mine : (e : Eject) (it : Active) (x : Eject) → eject_in s v ≡ Some e → e.active ≡ Some it → eject_in s v ≡ Some x → x.active ≡ Some it
    mine e it x is is_it is_x =
        let same : e ≡ x = let both : Some e ≡ Some x = sym is ∙ is_x in cc both in ap (λ (y : Eject). y.active) (sym same) ∙ is_it

    keep : (e : Eject) (it : Active) (t : Turned) (x : Eject) → is_some (worker_at it p) ≡ true → eject_in s v ≡ Some e
        → e.active ≡ Some it → turn_of v it p ≡ Some t → eject_in s v ≡ Some x → IsLimitedUid v → goes_on t.effect ≡ true → IfActive x
        → IfActive (on_active (turned p t) x)
    keep e it t x some is is_it is_t is_x own on has =
        let active : x.active ≡ Some it = mine e it x is is_it is_x in
        let old : ActiveHolds it = subst (λ o. IfSome o ActiveHolds) active has in
        subst (λ o. IfActive (with_item o (λ it. with_active (Some (turned p t it)) x) x)) (sym active)
        (active-turned p t it (single-alone it.kind it p some old.single) (turn-left v it p t is_t own old.limited) on old)

    gone : (e : Eject) (it : Active) (t : Turned) (x : Eject) → is_some (worker_at it p) ≡ true → eject_in s v ≡ Some e
        → e.active ≡ Some it → turn_of v it p ≡ Some t → eject_in s v ≡ Some x → IsLimitedUid v → IfActive x
        → IfActive (on_active (without_process p) (on_active (turned p t) x))
    gone e it t x some is is_it is_t is_x own has =
        let active : x.active ≡ Some it = mine e it x is is_it is_x in
        let old : ActiveHolds it = subst (λ o. IfSome o ActiveHolds) active has in
        subst (λ o. IfActive (on_active (without_process p) (with_item o (λ it. with_active (Some (turned p t it)) x) x))) (sym active)
        (active-ended p t it (single-alone it.kind it p some old.single) (turn-left v it p t is_t own old.limited) old)

-- 4. Deliveries, starts and crashes

holds-requested : (k : ℕ) (refused : Option Status) (s : Site) → SiteHolds s → SiteHolds (requested k refused s)
holds-requested k (Some why) s h = holds-on_traffic (λ t. replied why [] k (taken k t)) s h
holds-requested k None s h = holds-item s (call_at s.traffic k) _ (λ c is.
    holds-on_eject c.target.uid (λ e. record e { queued = e.queued ++ k ∷ [] })
    (on_traffic (λ t. changed_call k (at_place held) (taken k t)) s) (λ e is own x. x)
    (holds-on_traffic (λ t. changed_call k (at_place held) (taken k t)) s h)) h

holds-tells_asker : (a : Asker) (why : Status) (values : List Datum) (s : Site) → AreLimited values → SiteHolds s
    → SiteHolds (tells_asker a why values s)
holds-tells_asker (Shell name) why values s new h = h
holds-tells_asker (Process v p) why values s new h = holds-tells v p (Told why values) s new h

holds-heard : (k : ℕ) (why : Status) (values : List Datum) (s : Site) → AreLimited values → SiteHolds s → SiteHolds (heard k why values s)
holds-heard k why values s new h = holds-item s (call_at s.traffic k) _ (λ c is.
    holds-cond c.open_ (tells_asker c.asker why values (on_traffic (received k) s)) (on_traffic (received k) s)
    (holds-tells_asker c.asker why values (on_traffic (received k) s) new (holds-on_traffic (received k) s h))
    (holds-on_traffic (received k) s h)) h

-- the call that starts may begin at the Eject, where that is active
abbrev StartsFitly : Site → ℕ → Uid → Type 0
StartsFitly s k v = (c : Call) (e : Eject) (it : Active) → call_at s.traffic k ≡ Some c → eject_in s v ≡ Some e → e.active ≡ Some it
    → MayBegin it c

holds-start : (v : Uid) (k p : ℕ) (s : Site) → StartsFitly s k v → AllowsAt s (event.Start k v p) → SiteHolds s → SiteHolds (start v k p s)
holds-start v k p s may allowed h = holds-item s (call_at s.traffic k) _ (λ c is.
    holds-on_eject v (λ e. record (on_active (with_start s.traffic k p c) e) { queued = filter (λ j. not (j == k)) e.queued }) s
    (λ e is_e own x. began c is e is_e e.active refl (subst
    (λ o. IsSomeAnd o (λ e. IsSomeAnd e.active (λ it. AllowsStart s.traffic k p e it))) is_e allowed) x) h) h
  where
    began : (c : Call) → call_at s.traffic k ≡ Some c → (e : Eject) → eject_in s v ≡ Some e → (o : Option Active) → e.active ≡ o
        → IsSomeAnd o (λ it. AllowsStart s.traffic k p e it) → IfSome o ActiveHolds
        → IfSome (with_item o (λ it. with_active (Some (with_start s.traffic k p c it)) e) e).active ActiveHolds
    began c is e is_e None at starts x = absurd starts
    began c is e is_e (Some it) at starts x = active-started s.traffic k p c e it (may c e it is is_e at) starts x

holds-crashed : (s : Site) → SiteHolds s → SiteHolds (crashed s)
holds-crashed s h = holds-on_traffic (without_node s.number) (on_node down s)
    (holds-on_node down s (holds-each fallen s.node.ejects (λ e x. tt) h))

-- 5. The store

holds-settled : (p : Option Pick) (s : Site) → SiteHolds s → SiteHolds (settled p s)
unfolding on_node
holds-settled None s h = h
holds-settled (Some pick.Old) s h = holds-each (settled_eject pick.Old) s.node.ejects (λ e x. x) h
holds-settled (Some pick.New) s h = holds-each (settled_eject pick.New) s.node.ejects (λ e x. x) h

holds-unsynced : (s : Site) → SiteHolds s → SiteHolds (unsynced s)
holds-unsynced s h = holds-on_node (λ it. record it { synced = false }) s h

holds-ended : (r : StoreRequest) (why : Status) (s : Site) → SiteHolds s → SiteHolds (request_ended r why s)
holds-ended r why s h = go r.process
  where
    go : (p : Option ℕ) → SiteHolds (tells_code r.uid p why (on_node (λ it. record it { requests = rest it.requests }) s))
    go None = holds-on_node (λ it. record it { requests = rest it.requests }) s h
    go (Some p) = holds-tells r.uid p (Code why) (on_node (λ it. record it { requests = rest it.requests }) s) tt
        (holds-on_node (λ it. record it { requests = rest it.requests }) s h)

holds-removed : (v : Uid) (c : EjectChange) (s : Site) → SiteHolds s → SiteHolds (removed c v s)
holds-removed v (body bytes) s h = h
holds-removed v removal s h = holds-turned_away v status.Gone (deactivated v s) (holds-deactivated v s h)

holds-done : (r : StoreRequest) (s : Site) → SiteHolds s → SiteHolds (done r s)
holds-done r s h = holds-removed r.uid r.change (request_ended r status.Ok s) (holds-ended r status.Ok s h)

holds-doubted : (r : StoreRequest) (s : Site) → SiteHolds s → SiteHolds (doubted r s)
holds-doubted r s h = holds-on_eject r.uid (λ e. record e { doubt = Some r.change }) s (λ e is own x. x) h

holds-stored : (r : StoreRequest) (s : Site) → SiteHolds s → SiteHolds (stored r s)
holds-stored r s h = holds-on_node (λ it. record it { ledger = written_with s.layout r.change it.ledger })
    (on_eject r.uid (λ e. record e { kept = kept_of r.change; doubt = None }) s)
    (holds-on_eject r.uid (λ e. record e { kept = kept_of r.change; doubt = None }) s (λ e is own x. x) h)

holds-worked : (w : Work) (r : StoreRequest) (how : RequestEnd) (p : Option Pick) (s : Site) → SiteHolds s → SiteHolds (worked w r how p s)
holds-worked syncs r end.Part p s h = holds-on_node (λ it. record it { synced = true }) s h
holds-worked syncs r end.Done p s h = h
holds-worked syncs r end.Full p s h = h
holds-worked syncs r end.Fault p s h = holds-ended r status.StoreFault (unsynced s) (holds-unsynced s h)
holds-worked syncs r end.Stop p s h = holds-crashed s h
holds-worked reads r end.Part p s h = holds-settled p s h
holds-worked reads r end.Done p s h = h
holds-worked reads r end.Full p s h = h
holds-worked reads r end.Fault p s h = holds-ended r status.StoreFault (unsynced s) (holds-unsynced s h)
holds-worked reads r end.Stop p s h = holds-crashed s h
holds-worked unkept r how p s h = holds-done r s h
holds-worked without_room r how p s h = holds-ended r status.Full s h
holds-worked calls r end.Part p s h = holds-on_node (λ it. record it { requests = more_made it.requests }) (doubted r s)
    (holds-doubted r s h)
holds-worked calls r end.Done p s h = holds-done r (stored r s) (holds-stored r s h)
holds-worked calls r end.Full p s h = h
holds-worked calls r end.Fault p s h = holds-ended r status.StoreFault (doubted r s) (holds-doubted r s h)
holds-worked calls r end.Stop p s h = holds-crashed (doubted r s) (holds-doubted r s h)

holds-store_turn : (how : RequestEnd) (p : Option Pick) (s : Site) → SiteHolds s → SiteHolds (store_turn how p s)
holds-store_turn how p s h = holds-item s (first_request s.node) _ (λ r is. holds-worked (work_of s r) r how p s h) h

-- 6. Activations and boots

holds-start_settled : (p : Option Pick) (s : Site) → SiteHolds s → SiteHolds (start_settled p s)
holds-start_settled p s h = holds-cond (to_settle s) (settled p (unsynced s)) s (holds-settled p (unsynced s) (holds-unsynced s h)) h

holds-awake : (v : Uid) (s : Site) → TypesFit s.types → SiteHolds s → SiteHolds (activated v start_end.Ok s)
holds-awake v s fit h = holds-item s (eject_in s v) _ (λ e is. holds-item s e.kept _ (λ bytes is_b.
    holds-item s (start_of s.types bytes v) _ (λ start is_s.
    holds-on_traffic (misfits_answered start.0 e.queued) _
    (holds-on_eject v _ s (λ old at own x. active-started_from s.types bytes v start fit is_s own) h)) h) h) h

types-settled : (p : Option Pick) (s : Site) → TypesFit s.types → TypesFit (start_settled p s).types
unfolding on_node
types-settled p s fit = go (to_settle s) p
  where
    go : (b : Bool) (p : Option Pick) → TypesFit (cond b (settled p (unsynced s)) s).types
    go true None = fit
    go true (Some k) = fit
    go false p = fit

holds-activation : (v : Uid) (how : StartEnd) (p : Option Pick) (s : Site) → TypesFit s.types → SiteHolds s
    → SiteHolds (activation_turn v how p s)
holds-activation v start_end.Ok p s fit h = holds-awake v (start_settled p s) (types-settled p s fit) (holds-start_settled p s h)
holds-activation v start_end.Gone p s fit h = holds-turned_away v status.Gone (start_settled p s) (holds-start_settled p s h)
holds-activation v start_end.Fault p s fit h = holds-turned_away v status.StoreFault (start_settled p s) (holds-start_settled p s h)
holds-activation v start_end.Damaged p s fit h = holds-turned_away v status.Damaged (start_settled p s) (holds-start_settled p s h)
holds-activation v start_end.Stop p s fit h = holds-crashed (start_settled p s) (holds-start_settled p s h)

booted-same : (s : Site) (e : ℕ) (how : BootEnd) (began : Bool) (it : Node) → (booted_node s e how began it).ejects ≡ it.ejects
booted-same s e boot_end.Up began it = refl
booted-same s e boot_end.DiskFault began it = refl
booted-same s e boot_end.Stop began it = refl
booted-same s e (boot_end.Damaged place) began it = refl
booted-same s e boot_end.EpochsSpent began it = refl
booted-same s e boot_end.Full began it = refl

holds-boot : (e : ℕ) (how : BootEnd) (p : Option Pick) (began : Bool) (s : Site) → SiteHolds s → SiteHolds (boot_turn e how p began s)
holds-boot e how p began s h = holds-on_node (booted_node s e how began) (settled p s)
    (subst AllHold (sym (booted-same s e how began (settled p s).node)) (holds-settled p s h))

-- 7. Every turn

-- what has to be known of an event at a site: a reply has results within the limits, a call that starts may begin, and the uid that a
-- process is given is within the limits
abbrev pub IsFed : Site → Event → Type 0
IsFed s (event.Reply k a b name why values) = AreLimited values
IsFed s (event.Start k v p) = StartsFitly s k v
IsFed s (event.Process v p said) = GivesLimited s × InOrder s.node.ejects
IsFed s _ = Unit {0}

has-process : (s : Site) (v : Uid) (p : ℕ) (said : Shown) → AllowsAt s (event.Process v p said) → HasProcess s v p
has-process s v p said allowed = on-eject (eject_in s v) allowed
  where
    on-worker : (it : Active) (o : Option Worker) → IsSomeAnd o (λ q. AllowsTurn s v p said it q) → is_some o ≡ true
    on-worker it None x = absurd x
    on-worker it (Some q) x = refl

    on-part : (o : Option Active) → IsSomeAnd o (λ it. IsSomeAnd (worker_at it p) (λ q. AllowsTurn s v p said it q))
        → IsSomeAnd o (λ it. is_some (worker_at it p) ≡ true)
    on-part None x = x
    on-part (Some it) x = on-worker it (worker_at it p) x

    on-eject : (o : Option Eject)
        → IsSomeAnd o (λ e. IsSomeAnd e.active (λ it. IsSomeAnd (worker_at it p) (λ q. AllowsTurn s v p said it q)))
        → IsSomeAnd o (λ e. IsSomeAnd e.active (λ it. is_some (worker_at it p) ≡ true))
    on-eject None x = x
    on-eject (Some e) x = on-part e.active x

holds-site_turn : (reach : ℕ → Bool) (e : Event) (s : Site) → TypesFit s.types → IsFed s e → AllowsAt s e → SiteHolds s
    → SiteHolds (site_turn reach e s)
holds-site_turn reach (event.Request k a b refused) s fit fed allowed h = holds-requested k refused s h
holds-site_turn reach (event.Reply k a b name why values) s fit fed allowed h = holds-heard k why values s fed h
holds-site_turn reach (event.Activate v how p) s fit fed allowed h = holds-activation v how p s fit h
holds-site_turn reach (event.Start k v p) s fit fed allowed h = holds-start v k p s fed allowed h
holds-site_turn reach (event.Process v p said) s fit fed allowed h =
    holds-process_turn reach v p s fit fed.0 fed.1 (has-process s v p said allowed) h
holds-site_turn reach (event.Store v c how p) s fit fed allowed h = holds-store_turn how p s h
holds-site_turn reach (event.Boot n e how p began) s fit fed allowed h = holds-boot e how p began s h
holds-site_turn reach (event.Crash n) s fit fed allowed h = holds-crashed s h
holds-site_turn reach _ s fit fed allowed h = absurd allowed

-- 8. Every event

-- the number of a node is one of eight, its uids are behind what it gives next, its epochs have four bytes, and its Ejects are such
pub record NodeHolds (n : ℕ) (it : Node) : Type 0 where
  pub least : 1 ≤ n
  pub most : n ≤ 8
  pub uids : Fit (OfNode (CreatedIn []) n) it
  pub epochs : AreBounded it
  pub ejects : AllHold it.ejects

pub stored-small : (o : Option ℕ) → IfSome o (λ e. e ≤ 4294967295) → epoch_or_zero o ≤ 4294967295
stored-small None h = omega arith
stored-small (Some e) h = h

-- such a node gives uids within the limits while it is up
pub gives-limited : (s : Site) → NodeHolds s.number s.node → s.node.up ≡ true → GivesLimited s
gives-limited s h up new is = go (nat_le 4096 (count s.node)) (nat_le 4294967295 s.node.last_serial) refl is
  where
    here : Uid
    here = record { node = s.number; epoch = stored_epoch s.node; serial = s.node.last_serial + 1 }

    counts : 1 ≤ stored_epoch s.node
    counts = h.uids.up_keeps up

    small : stored_epoch s.node ≤ 4294967295
    small = stored-small s.node.epoch h.epochs.stored

    below : nat_le 4294967295 s.node.last_serial ≡ false → s.node.last_serial < 4294967295
    below e = grind (arith, nat_tests)

    own : nat_le 4294967295 s.node.last_serial ≡ false → IsLimitedUid here
    own e = (
      record { node_least = h.least; node_most = h.most; epoch = counts; serial = omega arith },
      record { epoch = omega (arith, small); serial = omega (arith, below e); rights = omega arith },
    )

    go : (a b : Bool) → nat_le 4294967295 s.node.last_serial ≡ b
        → cond a (Err status.TooMany) (cond b (Err status.SerialsSpent) (Ok here)) ≡ Ok new → IsLimitedUid new
    go true b at e = absurd (cc e)
    go false true at e = absurd (cc e)
    go false false at e = let same : here ≡ new = cc e in subst IsLimitedUid same (own at)

pub kept-limits : (w : World) (e : Event) → TypesFit w.types
    → ((n : ℕ) (it : Node) → node_at w n ≡ Some it → AllowsAt (site_of w n it) e → NodeHolds n it → IsFed (site_of w n it) e)
    → IsKeptBy NodeHolds w e
kept-limits w e fit fed = let uids = kept-fit (CreatedIn []) w e in let epochs = kept-epochs w e in record {
  turns = λ n it at place allowed h. record {
    least = h.least;
    most = h.most;
    uids = uids.turns n it at place allowed h.uids;
    epochs = epochs.turns n it at place allowed h.epochs;
    ejects = holds-site_turn (reaches w n) e (site_of w n it) fit (fed n it at allowed h) allowed h.ejects;
  };
  crashes = λ n s is number h. record {
    least = h.least;
    most = h.most;
    uids = uids.crashes n s is number h.uids;
    epochs = epochs.crashes n s is number h.epochs;
    ejects = holds-crashed s h.ejects;
  };
  broken = λ u p s h. record {
    least = h.least;
    most = h.most;
    uids = uids.tellings u p (Told status.Broken []) s h.uids;
    epochs = epochs.tellings u p (Told status.Broken []) s h.epochs;
    ejects = holds-tells u p (Told status.Broken []) s tt h.ejects;
  };
  births = λ u t s name why is gives on known h. record {
    least = h.least;
    most = h.most;
    uids = uids.births u t s gives on known h.uids;
    epochs = epochs.births u t s gives on known h.epochs;
    ejects = holds-born u t s (fit known.0 t known.1) (gives-limited s h on u gives) h.ejects;
  };
  clocks = λ n c it h. record {
    least = h.least;
    most = h.most;
    uids = uids.clocks n c it h.uids;
    epochs = epochs.clocks n c it h.epochs;
    ejects = h.ejects;
  };
}
