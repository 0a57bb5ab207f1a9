-- The store's turns, activations and boots keep a site sound.
use Rattle.std.proofs.Common.{◌≡◌, ◌+◌, ◌≤◌, ℕ, Bool, true, false, cond, not, ◌&&◌, List, [], ◌∷◌, Option, None, Some, is_some, refl}
use Rattle.std.proofs.Common.{sym, ◌∙◌, ap, subst, arith, inl, inr}
use Rattle.std.specs.Prelude.{IsSomeAnd, IfSome}
use Rattle.std.specs.List.{filter}
use Rattle.std.specs.Option.{option_map}
use Rattle.std.specs.Ordering.{nat_cmp, eq_by_cmp, is_eq}
use Rattle.std.proofs.lemmas.Cmp.{tied_itself}
use Rattle.capability.specs.declared.Uid.{Uid}
use Rattle.capability.proofs.Uids.{uid_cmp_total}
use Rattle.eden_value.specs.Datum.{Datum}
use Rattle.eden_value.specs.declared.status.Status.{Status}
use Rattle.eden_value.specs.declared.status.Status.TheVariants as status
use Rattle.eden_codec.specs.declared.rep.Rep.{Rep}
use Rattle.eden_codec.specs.Reading.{reading}
use Rattle.eden_model.specs.Map.{with_item, uid_cmp, value_at, rest, first, same_uid}
use Rattle.eden_model.proofs.Numbers.{same-self}
use Rattle.eden_model.specs.Crew.{outside, Waits, running}
use Rattle.eden_model.specs.Traffic.{Traffic, Call, Place, answered, call_at, changed_call, at_place, replied, sent, done as over}
use Rattle.epl_syntax.specs.declared.effect.Answer.TheVariants.{Code}
use Rattle.epl_syntax.specs.Edentype.{Edentype}
use Rattle.epl_syntax.specs.Meaning.{type_of, durable_from, started_from, values_from}
use Rattle.passive_store.specs.declared.store.Pick.{Pick}
use Rattle.passive_store.specs.declared.store.Pick.TheVariants as pick
use Rattle.journal.specs.EjectChange.{EjectChange, body, removal, kept_of}
use Rattle.journal.specs.World.{Eject, StoreRequest, Node, Site, eject_in, on_eject, on_node}
use Rattle.journal.specs.Ejects.{tells, deactivated, fresh}
use Rattle.journal.specs.Processes.{start}
use Rattle.journal.specs.Sites.{active_in, at_store, is_number}
use Rattle.journal.specs.declared.event.BootEnd.{BootEnd}
use Rattle.journal.specs.declared.event.BootEnd.TheVariants as boot_end
use Rattle.journal.specs.declared.event.StartEnd.{StartEnd}
use Rattle.journal.specs.declared.event.StartEnd.TheVariants as start_end
use Rattle.journal.specs.declared.event.RequestEnd.{RequestEnd}
use Rattle.journal.specs.declared.event.RequestEnd.TheVariants as end
use Rattle.journal.specs.Deliveries.{misfit}
use Rattle.journal.specs.Settling.{first_request, settled_eject, settled_node, settled, unsynced, written_with, to_settle}
use Rattle.journal.specs.Stores.{Work, syncs, reads, unkept, without_room, calls, work_of, more_made, doubted, tells_code, request_ended}
use Rattle.journal.specs.Stores.{removed, stored, done, worked, store_turn}
use Rattle.journal.specs.Starts.{start_of, misfits_answered, fits_at, awake_as, activated, start_settled, activation_turn}
use Rattle.journal.specs.Boots.{booted_node, boot_turn}
use Rattle.history_laws.proofs.Fits.{times, times_in, SoundSite}
use Rattle.history_laws.proofs.KeptTurns.{value-each}
use Rattle.history_laws.proofs.Times.{times-filter, Passes, passes-same, passes-replied, call-changed, passes-then}
use Rattle.history_laws.proofs.SiteChanges.{Claims, AddsNothing, StaysSound, stays-same, stays-then, nothing-stays, stays-item}
use Rattle.history_laws.proofs.SiteChanges.{nothing-on_traffic, SameParts, nothing-on_node, nothing-on_eject}
use Rattle.history_laws.proofs.SiteParts.{nothing-tells, loose-waits, eject-here, stays-turned_away, stays-deactivated, out-of}
use Rattle.history_laws.proofs.Tasks.{IsRuledType, Ruling}
use Rattle.history_laws.proofs.SiteTurns.{laid-fresh, runs-fresh}
use Rattle.history_laws.proofs.SiteEvents.{stays-crashed}

-- 1. A request ends

pub first-is : (rs : List StoreRequest) (r : StoreRequest) → first rs ≡ Some r → rs ≡ r ∷ rest rs
first-is [] r is = absurd (cc is)
first-is (x ∷ rs) r is = let same : x ≡ r = cc is in ap (λ y. y ∷ rs) same

at-rest : (u : Uid) (p : ℕ) (rs : List StoreRequest) → at_store u p (rest rs) ≤ at_store u p rs
at-rest u p [] = omega arith
at-rest u p (r ∷ rs) = go (same_uid r.uid u && is_number p r.process)
  where
    go : (b : Bool) → at_store u p rs ≤ cond b (at_store u p rs + 1) (at_store u p rs)
    go true = omega arith
    go false = omega arith

pub at-own : (r : StoreRequest) (p : ℕ) (rs : List StoreRequest) → r.process ≡ Some p → at_store r.uid p (r ∷ rs) ≡ at_store r.uid p rs + 1
at-own r p rs is = go (same_uid r.uid r.uid) (ap is_eq (tied_itself uid_cmp_total r.uid)) (is_number p r.process) (ap (is_number p) is
    ∙ same-self p)
  where
    go : (a : Bool) → a ≡ true → (b : Bool) → b ≡ true → cond (a && b) (at_store r.uid p rs + 1) (at_store r.uid p rs)
        ≡ at_store r.uid p rs + 1
    go true x true y = refl
    go true x false y = absurd (cc y)
    go false x b y = absurd (cc x)

stays-ended : (r : StoreRequest) (why : Status) (s : Site) → first s.node.requests ≡ Some r → r.uid.node ≡ s.number → SoundSite s
    → StaysSound s (request_ended r why s)
unfolding on_node
stays-ended r why s is here h = go r.process refl
  where
    after : Site
    after = on_node (λ it. record it { requests = rest it.requests }) s

    step : AddsNothing s after
    step = nothing-on_node (λ it. record it { requests = rest it.requests }) s (λ u. record { active = refl; queued = refl }) (λ u p.
        at-rest u p s.node.requests)

    own : (p : ℕ) → r.process ≡ Some p → at_store r.uid p s.node.requests ≡ at_store r.uid p (rest s.node.requests) + 1
    own p at = ap (at_store r.uid p) (first-is s.node.requests r is) ∙ at-own r p (rest s.node.requests) at

    free : (p : ℕ) → r.process ≡ Some p → Claims after r.uid p → ⊥
    free p at (inl x) = let none = ((h.fits r.uid here).asks p x.0 x.1).1 in omega (arith, own p at, none)
    free p at (inr some) = omega (arith, own p at, some, (h.fits r.uid here).alone p)

    go : (o : Option ℕ) → r.process ≡ o → StaysSound s (tells_code r.uid o why after)
    go None at = nothing-stays s after step h
    go (Some p) at = stays-then s after (tells r.uid p (Code why) after) (nothing-stays s after step h)
        (λ later. nothing-stays after (tells r.uid p (Code why) after)
        (nothing-tells r.uid p (Code why) after (free p at) (loose-waits (active_in (eject_in s r.uid)) p
        ((h.fits r.uid here).stores p (omega (arith, own p at))))) later)

-- 2. What does not count

pub same-settled : (p : Pick) (o : Option Eject) → SameParts o (option_map (settled_eject p) o)
same-settled p None = record { active = refl; queued = refl }
same-settled pick.Old (Some e) = record { active = refl; queued = refl }
same-settled pick.New (Some e) = record { active = refl; queued = refl }

stays-settled : (p : Option Pick) (s : Site) → SoundSite s → StaysSound s (settled p s)
stays-settled None s h = stays-same s h
stays-settled (Some p) s h = nothing-stays s (settled (Some p) s)
    (nothing-on_node (settled_node s.layout s.number p) s (λ u.
    subst (SameParts (eject_in s u)) (sym (value-each u (settled_eject p) s.node.ejects)) (same-settled p (eject_in s u))) (λ u q.
    omega arith)) h

stays-node : (f : Node → Node) (s : Site) → (f s.node).ejects ≡ s.node.ejects → (f s.node).requests ≡ s.node.requests → SoundSite s
    → StaysSound s (on_node f s)
stays-node f s ejects requests h = nothing-stays s (on_node f s)
    (nothing-on_node f s (λ u. subst (λ es. SameParts (eject_in s u) (value_at uid_cmp u es)) (sym ejects)
    (record { active = refl; queued = refl })) (λ u p. rw requests (omega arith))) h

stays-unsynced : (s : Site) → SoundSite s → StaysSound s (unsynced s)
stays-unsynced s h = stays-node (λ it. record it { synced = false }) s refl refl h

stays-aside : (v : Uid) (f : Eject → Eject) (s : Site) → ((e : Eject) → (f e).active ≡ e.active) → ((e : Eject) → (f e).queued ≡ e.queued)
    → SoundSite s → StaysSound s (on_eject v f s)
stays-aside v f s active queued h = nothing-stays s (on_eject v f s)
    (nothing-on_eject v f s (λ e at k. rw (active e, queued e) (omega arith)) (λ e at p claims w. rw (active e) w) (λ e at l.
    rw (active e) l)) h

stays-doubted : (r : StoreRequest) (s : Site) → SoundSite s → StaysSound s (doubted r s)
stays-doubted r s h = stays-aside r.uid (λ e. record e { doubt = Some r.change }) s (λ e. refl) (λ e. refl) h

stays-stored : (r : StoreRequest) (s : Site) → SoundSite s → StaysSound s (stored r s)
stays-stored r s h = let kept : Site = on_eject r.uid (λ e. record e { kept = kept_of r.change; doubt = None }) s in
    stays-then s kept (stored r s) (stays-aside r.uid (λ e. record e { kept = kept_of r.change; doubt = None }) s (λ e. refl) (λ e. refl) h)
    (λ later. stays-node (λ it. record it { ledger = written_with s.layout r.change it.ledger }) kept refl refl later)

made-same : (u : Uid) (p : ℕ) (rs : List StoreRequest) → at_store u p (more_made rs) ≤ at_store u p rs
made-same u p [] = omega arith
made-same u p (r ∷ rs) = omega arith

-- 3. A turn of the store

stays-removed : (c : EjectChange) (v : Uid) (s : Site) → v.node ≡ s.number → SoundSite s → StaysSound s (removed c v s)
stays-removed (body bytes) v s here h = stays-same s h
stays-removed removal v s here h = let one = stays-deactivated v s here h in
    stays-then s (deactivated v s) _ one (λ later. stays-turned_away v status.Gone (deactivated v s) (here ∙ sym one.number) later)

stays-done : (r : StoreRequest) (s : Site) → first s.node.requests ≡ Some r → r.uid.node ≡ s.number → SoundSite s → StaysSound s (done r s)
stays-done r s is here h = let one = stays-ended r status.Ok s is here h in
    stays-then s (request_ended r status.Ok s) _ one (λ later.
    stays-removed r.change r.uid (request_ended r status.Ok s) (here ∙ sym one.number) later)

first-doubted : (r : StoreRequest) (s : Site) → first (doubted r s).node.requests ≡ first s.node.requests
unfolding on_eject
first-doubted r s = refl

first-stored : (r : StoreRequest) (s : Site) → first (stored r s).node.requests ≡ first s.node.requests
unfolding on_eject on_node
first-stored r s = refl

first-unsynced : (s : Site) → first (unsynced s).node.requests ≡ first s.node.requests
unfolding on_node
first-unsynced s = refl

stays-worked : (w : Work) (r : StoreRequest) (how : RequestEnd) (p : Option Pick) (s : Site) → first s.node.requests ≡ Some r
    → r.uid.node ≡ s.number → SoundSite s → StaysSound s (worked w r how p s)
stays-worked syncs r end.Part p s is here h = stays-node (λ it. record it { synced = true }) s refl refl h
stays-worked syncs r end.Done p s is here h = stays-same s h
stays-worked syncs r end.Full p s is here h = stays-same s h
stays-worked syncs r end.Fault p s is here h = let one = stays-unsynced s h in
    stays-then s (unsynced s) _ one (λ later. stays-ended r status.StoreFault (unsynced s) (first-unsynced s ∙ is) (here ∙ sym one.number)
    later)
stays-worked syncs r end.Stop p s is here h = stays-crashed s h
stays-worked reads r end.Part p s is here h = stays-settled p s h
stays-worked reads r end.Done p s is here h = stays-same s h
stays-worked reads r end.Full p s is here h = stays-same s h
stays-worked reads r end.Fault p s is here h = let one = stays-unsynced s h in
    stays-then s (unsynced s) _ one (λ later. stays-ended r status.StoreFault (unsynced s) (first-unsynced s ∙ is) (here ∙ sym one.number)
    later)
stays-worked reads r end.Stop p s is here h = stays-crashed s h
stays-worked unkept r how p s is here h = stays-done r s is here h
stays-worked without_room r how p s is here h = stays-ended r status.Full s is here h
stays-worked calls r end.Part p s is here h = stays-then s (doubted r s) _ (stays-doubted r s h) (λ later.
    nothing-stays (doubted r s) _ (nothing-on_node (λ it. record it { requests = more_made it.requests }) (doubted r s) (λ u.
    record { active = refl; queued = refl }) (λ u q. made-same u q (doubted r s).node.requests)) later)
stays-worked calls r end.Done p s is here h = let one = stays-stored r s h in
    stays-then s (stored r s) _ one (λ later. stays-done r (stored r s) (first-stored r s ∙ is) (here ∙ sym one.number) later)
stays-worked calls r end.Full p s is here h = stays-same s h
stays-worked calls r end.Fault p s is here h = let one = stays-doubted r s h in
    stays-then s (doubted r s) _ one (λ later. stays-ended r status.StoreFault (doubted r s) (first-doubted r s ∙ is) (here
    ∙ sym one.number) later)
stays-worked calls r end.Stop p s is here h = stays-then s (doubted r s) _ (stays-doubted r s h) (λ later.
    stays-crashed (doubted r s) later)

pub stays-store_turn : (how : RequestEnd) (p : Option Pick) (s : Site)
    → ((r : StoreRequest) → first s.node.requests ≡ Some r → r.uid.node ≡ s.number) → SoundSite s → StaysSound s (store_turn how p s)
stays-store_turn how p s here h = stays-item s (first_request s.node) _ h (λ r is. stays-worked (work_of s r) r how p s is (here r is) h)

-- 4. Activations

-- which calls fit does not change as others are answered
pub fits-replied : (t : Edentype) (why : Status) (k : ℕ) (traffic : Traffic) (j : ℕ)
    → fits_at t (replied why [] k traffic) j ≡ fits_at t traffic j
fits-replied t why k traffic j = go (call_at traffic k)
  where
    changed : (place : Place) → fits_at t (changed_call k (at_place place) traffic) j ≡ fits_at t traffic j
    changed place = ap (λ o. with_item o (λ c. not (is_some (misfit t c))) false) (call-changed j k (at_place place) traffic)
        ∙ one (eq_by_cmp nat_cmp j k) (call_at traffic j)
      where
        one : (b : Bool) (o : Option Call) → with_item (cond b (option_map (at_place place) o) o) (λ c. not (is_some (misfit t c))) false
            ≡ with_item o (λ c. not (is_some (misfit t c))) false
        one true None = refl
        one true (Some c) = refl
        one false o = refl

    two : (b : Bool) → fits_at t (cond b (sent k (answered why []) traffic) (changed_call k (at_place over) traffic)) j
        ≡ fits_at t traffic j
    two true = changed (answered why [])
    two false = changed over

    go : (o : Option Call) → fits_at t (with_item o (λ c. cond c.open_ (sent k (answered why []) traffic)
        (changed_call k (at_place over) traffic)) traffic) j ≡ fits_at t traffic j
    go None = refl
    go (Some c) = two c.open_

passes-misfits : (t : Edentype) (ks : List ℕ) (fit : ℕ → Bool) (traffic : Traffic) → ((k : ℕ) → fits_at t traffic k ≡ fit k)
    → Passes (filter (λ k. not (fit k)) ks) traffic (misfits_answered t ks traffic)
passes-misfits t [] fit traffic same = passes-same traffic
passes-misfits t (k ∷ ks) fit traffic same = go (call_at traffic k) refl (fit k) (sym (same k)) (λ later more.
    passes-misfits t ks fit later more)
  where
    Goal : Bool → Traffic → Type 0
    Goal b later = Passes (cond (not b) (k ∷ filter (λ j. not (fit j)) ks) (filter (λ j. not (fit j)) ks)) traffic
        (misfits_answered t ks later)

    wider : (later : Traffic) → Passes (filter (λ j. not (fit j)) ks) traffic later
        → Passes (k ∷ filter (λ j. not (fit j)) ks) traffic later
    wider later x = record {
      held = λ u j out on. x.held u j (less (eq_by_cmp nat_cmp j k) (times j (filter (λ i. not (fit i)) ks)) out)
          on;
      opens = x.opens;
      numbered = x.numbered;
    }
      where
        less : (b : Bool) (n : ℕ) → cond b (n + 1) n ≡ 0 → n ≡ 0
        less true n is = omega (arith, is)
        less false n is = is

    one : (c : Call) (o : Option Status) (b : Bool) → b ≡ not (is_some o)
        → ((later : Traffic) → ((j : ℕ) → fits_at t later j ≡ fit j)
        → Passes (filter (λ j. not (fit j)) ks) later (misfits_answered t ks later))
        → Goal b (with_item o (λ status. replied status [] k traffic) traffic)
    one c None true is next = next traffic same
    one c None false is next = wider (misfits_answered t ks traffic) (next traffic same)
    one c (Some why) true is next = absurd (cc is)
    one c (Some why) false is next = passes-then (k ∷ []) (filter (λ j. not (fit j)) ks) traffic (replied why [] k traffic) _
        (passes-replied why [] k traffic) (next (replied why [] k traffic) (λ j. fits-replied t why k traffic j ∙ same j))

    go : (o : Option Call) → call_at traffic k ≡ o → (b : Bool) → b ≡ with_item (call_at traffic k) (λ c. not (is_some (misfit t c))) false
        → ((later : Traffic) → ((j : ℕ) → fits_at t later j ≡ fit j)
        → Passes (filter (λ j. not (fit j)) ks) later (misfits_answered t ks later))
        → Goal b (with_item o (λ c. with_item (misfit t c) (λ status. replied status [] k traffic) traffic) traffic)
    go None at true is next = next traffic same
    go None at false is next = wider (misfits_answered t ks traffic) (next traffic same)
    go (Some c) at b is next = one c (misfit t c) b (is ∙ ap (λ o. with_item o (λ c. not (is_some (misfit t c))) false) at) next

times-parted : (k : ℕ) (p : ℕ → Bool) (xs : List ℕ) → times k (filter p xs) + times k (filter (λ j. not (p j)) xs) ≤ times k xs
times-parted k p [] = omega arith
times-parted k p (x ∷ xs) = go (p x) (eq_by_cmp nat_cmp k x) refl (times-parted k p xs)
  where
    go : (a b : Bool) → eq_by_cmp nat_cmp k x ≡ b → times k (filter p xs) + times k (filter (λ j. not (p j)) xs) ≤ times k xs
        → times k (cond a (x ∷ filter p xs) (filter p xs)) + times k
        (cond (not a) (x ∷ filter (λ j. not (p j)) xs) (filter (λ j. not (p j)) xs)) ≤ cond b (times k xs + 1) (times k xs)
    go true true is ih = rw is (omega (arith, ih))
    go true false is ih = rw is ih
    go false true is ih = rw is (omega (arith, ih))
    go false false is ih = rw is ih

-- an Eject starts as one of a ruled type
pub ruled-start : (types : List Edentype) (s : Site) → Ruling types s → (bytes : List ℕ) (me : Uid) (start : Edentype × List Datum)
    → start_of s.types bytes me ≡ Some start
    → IsRuledType types start.0
ruled-start types s ruled bytes me start is = go (reading bytes) is
  where
    third : (t : Edentype) → IsRuledType types t → (o : Option (List Datum)) → with_item o (λ durable. Some (t, durable)) None ≡ Some start
        → IsRuledType types start.0
    third t h None is = absurd (cc is)
    third t h (Some durable) is = subst (λ o. IfSome o (λ (x : Edentype × List Datum). IsRuledType types x.0)) is h

    second : (rep : Rep) (o : Option Edentype) → type_of s.types rep.type_name ≡ o
        → with_item o (λ t. with_item (durable_from t rep me) (λ durable. Some (t, durable)) None) None ≡ Some start
        → IsRuledType types start.0
    second rep None at is = absurd (cc is)
    second rep (Some t) at is = third t (ruled rep.type_name t at) (durable_from t rep me) is

    go : (o : Option Rep) → with_item o (λ rep. started_from s.types rep me) None ≡ Some start → IsRuledType types start.0
    go None is = absurd (cc is)
    go (Some rep) is = second rep (type_of s.types rep.type_name) refl is

stays-awake_as : (types : List Edentype) (v : Uid) (e : Eject) (start : Edentype × List Datum) (s : Site) → v.node ≡ s.number
    → eject_in s v ≡ Some e
    → e.active ≡ None → IsRuledType types start.0 → SoundSite s → StaysSound s (awake_as v e start s)
unfolding on_eject
stays-awake_as types v e start s here is passive ruled h =
    let after : Site = on_eject v (λ old. record old {
      active = Some (fresh start.0 (values_from start.0 start.1));
      queued =
          filter (fits_at start.0 s.traffic) e.queued;
    }) s in
    let runs : running (fresh start.0 (values_from start.0 start.1)).crew ≡ [] = runs-fresh start.0 (values_from start.0 start.1) in
    stays-then s after (awake_as v e start s)
    (nothing-stays s after (nothing-on_eject v (λ old. record old {
      active = Some (fresh start.0 (values_from start.0 start.1));
      queued =
          filter (fits_at start.0 s.traffic) e.queued;
    }) s
    (λ x at k. let same : e ≡ x = same-eject (sym is ∙ at) in rw runs
    (omega (arith, times-filter k (fits_at start.0 s.traffic) e.queued, ap (λ (y : Eject). times k y.queued) same)))
    (λ x at p claims w. absurd (subst (λ o. IsSomeAnd o (λ it. Waits it.crew p outside))
    (sym (ap (λ (y : Eject). y.active) (same-eject (sym is ∙ at))) ∙ passive) w))
    (λ x at l. laid-fresh types start.0 (values_from start.0 start.1) ruled)) h)
    (λ later. nothing-stays after (awake_as v e start s) (nothing-on_traffic (filter (λ k. not (fits_at start.0 s.traffic k)) e.queued)
    (misfits_answered start.0 e.queued) after (passes-misfits start.0 e.queued (fits_at start.0 s.traffic) s.traffic (λ k. refl))
    (out-of s after v (filter (λ k. not (fits_at start.0 s.traffic k)) e.queued) e here is h (λ u k on. on) (λ k.
    omega (arith, times-filter k (λ j. not (fits_at start.0 s.traffic j)) e.queued))
    (λ k. subst (λ o. times_in k o + times k (filter (λ j. not (fits_at start.0 s.traffic j)) e.queued) ≤ times_in k (Some e))
    (sym (eject-here v (λ old. record old {
      active = Some (fresh start.0 (values_from start.0 start.1));
      queued =
          filter (fits_at start.0 s.traffic) e.queued;
    }) s e is))
    (rw runs (omega (arith, times-parted k (fits_at start.0 s.traffic) e.queued)))))) later)
  where
    same-eject : {x : Eject} → Some e ≡ Some x → e ≡ x
    same-eject same = cc same

stays-activated : (types : List Edentype) (v : Uid) (how : StartEnd) (s : Site) → Ruling types s → v.node ≡ s.number
    → ((e : Eject) → eject_in s v ≡ Some e → e.active ≡ None)
    → SoundSite s → StaysSound s (activated v how s)
stays-activated types v start_end.Ok s ruled here passive h = stays-item s (eject_in s v) _ h (λ e is.
    stays-item s e.kept _ h (λ bytes kept. stays-item s (start_of s.types bytes v) _ h (λ start from.
    stays-awake_as types v e start s here is (passive e is) (ruled-start types s ruled bytes v start from) h)))
stays-activated types v start_end.Gone s ruled here passive h = stays-turned_away v status.Gone s here h
stays-activated types v start_end.Fault s ruled here passive h = stays-turned_away v status.StoreFault s here h
stays-activated types v start_end.Damaged s ruled here passive h = stays-turned_away v status.Damaged s here h
stays-activated types v start_end.Stop s ruled here passive h = stays-crashed s h

-- settling leaves active parts as they are
active-settled : (p : Option Pick) (v : Uid) (s : Site) → active_in (eject_in (settled p s) v) ≡ active_in (eject_in s v)
unfolding on_node
active-settled None v s = refl
active-settled (Some p) v s = ap active_in (value-each v (settled_eject p) s.node.ejects) ∙ (same-settled p (eject_in s v)).active

active-unsynced : (v : Uid) (s : Site) → active_in (eject_in (unsynced s) v) ≡ active_in (eject_in s v)
unfolding on_node
active-unsynced v s = refl

stays-started : (p : Option Pick) (s : Site) → SoundSite s → StaysSound s (start_settled p s)
stays-started p s h = go (to_settle s)
  where
    go : (b : Bool) → StaysSound s (cond b (settled p (unsynced s)) s)
    go true = stays-then s (unsynced s) _ (stays-unsynced s h) (λ later. stays-settled p (unsynced s) later)
    go false = stays-same s h

pub active-started : (p : Option Pick) (v : Uid) (s : Site) → active_in (eject_in (start_settled p s) v) ≡ active_in (eject_in s v)
active-started p v s = go (to_settle s)
  where
    go : (b : Bool) → active_in (eject_in (cond b (settled p (unsynced s)) s) v) ≡ active_in (eject_in s v)
    go true = active-settled p v (unsynced s) ∙ active-unsynced v s
    go false = refl

ruling-settled : (types : List Edentype) (p : Option Pick) (s : Site) → Ruling types s → Ruling types (start_settled p s)
unfolding on_node
ruling-settled types p s ruled = go p (to_settle s)
  where
    go : (q : Option Pick) (b : Bool) → Ruling types (cond b (settled q (unsynced s)) s)
    go q false = ruled
    go None true = ruled
    go (Some x) true = ruled

pub stays-activation : (types : List Edentype) (v : Uid) (how : StartEnd) (p : Option Pick) (s : Site) → Ruling types s → v.node ≡ s.number
    → active_in (eject_in s v) ≡ None
    → SoundSite s → StaysSound s (activation_turn v how p s)
stays-activation types v how p s ruled here passive h = let one = stays-started p s h in
    stays-then s (start_settled p s) _ one (λ later. stays-activated types v how (start_settled p s) (ruling-settled types p s ruled) (here
    ∙ sym one.number) (λ e is.
    sym (ap active_in is) ∙ active-started p v s ∙ passive) later)

-- 5. Boots

pub stays-boot : (e : ℕ) (how : BootEnd) (p : Option Pick) (began : Bool) (s : Site) → SoundSite s
    → StaysSound s (boot_turn e how p began s)
stays-boot e how p began s h = stays-then s (settled p s) _ (stays-settled p s h) (λ later.
    stays-node (booted_node s e how began) (settled p s) (ejects how (settled p s).node) (requests how (settled p s).node) later)
  where
    ejects : (how : BootEnd) (it : Node) → (booted_node s e how began it).ejects ≡ it.ejects
    ejects boot_end.Up it = refl
    ejects boot_end.DiskFault it = refl
    ejects boot_end.Stop it = refl
    ejects (boot_end.Damaged place) it = refl
    ejects boot_end.EpochsSpent it = refl
    ejects boot_end.Full it = refl

    requests : (how : BootEnd) (it : Node) → (booted_node s e how began it).requests ≡ it.requests
    requests boot_end.Up it = refl
    requests boot_end.DiskFault it = refl
    requests boot_end.Stop it = refl
    requests (boot_end.Damaged place) it = refl
    requests boot_end.EpochsSpent it = refl
    requests boot_end.Full it = refl
