-- Every turn at a site keeps it sound: a process's turn, deliveries, starts, activations, the store's turns, boots and crashes.
use Rattle.std.proofs.Common.{◌≡◌, ◌==◌, ◌+◌, ◌≤◌, ◌<◌, ℕ, nat_lt, zero, suc, Bool, true, false, cond, not, List, [], ◌∷◌, ◌++◌, map}
use Rattle.std.proofs.Common.{Option, None, Some, is_some, length, refl, sym, ◌∙◌, ap, subst, arith, inl, inr}
use Rattle.std.specs.Prelude.{IsSomeAnd, IfSome, ◌⊎◌}
use Rattle.std.specs.List.{filter, find}
use Rattle.std.specs.Option.{option_map}
use Rattle.std.specs.Ordering.{nat_cmp, eq_by_cmp}
use Rattle.std.proofs.lemmas.Bool.{eq-eqb, eqb-true}
use Rattle.capability.specs.declared.Uid.{Uid}
use Rattle.capability.proofs.Uids.{uid_cmp-IsAntisymmetric}
use Rattle.eden_value.specs.Datum.{Datum}
use Rattle.eden_value.specs.declared.status.Status.{Status}
use Rattle.eden_model.specs.Map.{with_item, uid_cmp, value_at}
use Rattle.eden_model.proofs.Laws.{eq-same}
use Rattle.eden_model.proofs.Numbers.{same-true, same-self}
use Rattle.eden_model.specs.Crew.{Invocation, Process, outside, Waits, Runs, running, started, least_free, startable, may_start}
use Rattle.eden_model.proofs.FreeNumbers.{free-none, least_free-free}
use Rattle.eden_model.specs.Traffic.{Traffic, Call, asked, held, answered, call_at, changed_call, at_place, closed, taken, replied}
use Rattle.eden_model.specs.Traffic.{without_node}
use Rattle.eden_model.specs.declared.Asker.{Asker}
use Rattle.eden_model.specs.declared.Asker.TheVariants.{Shell, Eject as Asking}
use Rattle.epl_syntax.specs.declared.effect.Answer.TheVariants.{Reply as Told}
use Rattle.epl_syntax.specs.Edentype.{Edentype}
use Rattle.epl_syntax.specs.Meaning.{Turned}
use Rattle.journal.specs.World.{Active, Eject, Site, eject_in, on_eject, on_node, on_traffic}
use Rattle.journal.specs.Ejects.{with_active, on_active, tells}
use Rattle.journal.specs.Deliveries.{requested, tells_asker, received, heard}
use Rattle.journal.specs.Processes.{invocation, AllowsStart, with_start, start, AllowsTurn, worker_at, turn_of, turned, serving}
use Rattle.journal.specs.Processes.{effected, process_turn}
use Rattle.journal.specs.Crashes.{fallen, crashed}
use Rattle.journal.specs.Step.{IsActiveAnd}
use Rattle.journal.specs.Sites.{active_in, runs_of, IsHeldAt, IsOpenOf, at_store, IsLaid}
use Rattle.journal.specs.declared.event.Shown.{Shown}
use Rattle.history_laws.proofs.Fits.{times, times_in, LaidIn, Fits, SoundSite}
use Rattle.history_laws.proofs.KeptTurns.{value-each}
use Rattle.history_laws.proofs.Frame.{eject-on_eject}
use Rattle.history_laws.proofs.Times.{times-append, times-filter, times-gone, Passes, passes-replied, passes-place, passes-closed}
use Rattle.history_laws.proofs.Times.{held-without_node, open-without_node, numbered-without_node, call-changed, shut-without_node}
use Rattle.history_laws.proofs.SiteChanges.{Claims, AddsNothing, nothing-sound, StaysSound, stays-same}
use Rattle.history_laws.proofs.SiteChanges.{stays-then, nothing-stays, stays-item}
use Rattle.history_laws.proofs.SiteChanges.{nothing-on_traffic, nothing-on_eject}
use Rattle.history_laws.proofs.SiteCrews.{runs-started, laid-started, waits-put}
use Rattle.history_laws.proofs.SiteParts.{nothing-on_active, nothing-tells, loose-waits, eject-here}
use Rattle.history_laws.proofs.Tasks.{Ruling, EffectFits}
use Rattle.history_laws.proofs.SiteTurns.{stays-effected, IsNew}

-- 1. A turn of a process

pub ruling-on_eject : (types : List Edentype) (v : Uid) (f : Eject → Eject) (s : Site) → Ruling types s → Ruling types (on_eject v f s)
unfolding on_eject
ruling-on_eject types v f s ruled = ruled

pub stays-process_turn : (types : List Edentype) (reach : ℕ → Bool) (v : Uid) (p : ℕ) (said : Shown) (s : Site) → v.node ≡ s.number
    → EffectFits types s v p → Ruling types s → IsActiveAnd s v (λ e it. IsSomeAnd (worker_at it p) (λ q. AllowsTurn s v p said it q))
    → ((f : Eject → Eject) → IsNew (on_eject v f s)) → SoundSite s → StaysSound s (process_turn reach v p s)
stays-process_turn types reach v p said s here fits ruled allowed new h = stays-item s (eject_in s v) _ h (λ e is.
    stays-item s e.active _ h (λ it is_it. stays-item s (turn_of v it p) _ h (λ t is_t. go e is it is_it t is_t)))
  where
    runs : (it : Active) (o : Option Process) → value_at nat_cmp p it.crew.processes ≡ o → IsSomeAnd o (λ q. AllowsTurn s v p said it q)
        → Runs it.crew p
    runs it None at a = absurd a
    runs it (Some q) at a = ap (option_map (λ (x : Process). x.waits)) at ∙ ap Some a.ready

    allowed-at : (e : Eject) → eject_in s v ≡ Some e → (it : Active) → e.active ≡ Some it
        → IsSomeAnd (worker_at it p) (λ q. AllowsTurn s v p said it q)
    allowed-at e is it is_it = subst (λ o. IsSomeAnd o (λ x. IsSomeAnd (worker_at x p) (λ q. AllowsTurn s v p said x q))) is_it
        (subst (λ o. IsSomeAnd o (λ y. IsSomeAnd y.active (λ x. IsSomeAnd (worker_at x p) (λ q. AllowsTurn s v p said x q)))) is allowed)

    go : (e : Eject) → eject_in s v ≡ Some e → (it : Active) → e.active ≡ Some it → (t : Turned) → turn_of v it p ≡ Some t
        → StaysSound s (effected reach v p (serving it p) it.kind t.vars t.effect (on_eject v (on_active (turned p t)) s))
    go e is it is_it t is_t =
        let step : AddsNothing s (on_eject v (on_active (turned p t)) s) =
        nothing-on_active v (turned p t) s (λ x at k. omega arith) (λ x at q claims w. w) (λ x at l. l) in
        let part : active_in (eject_in (on_eject v (on_active (turned p t)) s) v) ≡ Some (turned p t it) =
        ap active_in (eject-here v (on_active (turned p t)) s e is) ∙ rw is_it refl in
        stays-then s (on_eject v (on_active (turned p t)) s) _ (nothing-stays s (on_eject v (on_active (turned p t)) s) step h)
        (λ later. stays-effected types (is_some (serving it p)) reach v p (serving it p) it.kind t.vars t.effect
        (on_eject v (on_active (turned p t)) s)
        (fits e is it is_it t is_t) (ruling-on_eject types v (on_active (turned p t)) s ruled)
        (record {
          here = here ∙ sym step.number;
          part = turned p t it;
          is = part;
          waits =
              runs it (value_at nat_cmp p it.crew.processes) refl (allowed-at e is it is_it);
        })
        (subst (λ o. IfSome o (λ x. serving x p ≡ serving it p)) (sym part) refl) (new (on_active (turned p t))) later)

-- 2. Deliveries

at-call : (t : Traffic) (k : ℕ) (P : Call → Type 0) (c : Call) → call_at t k ≡ Some c → IsSomeAnd (call_at t k) P → P c
at-call t k P c is p = subst (λ o. IsSomeAnd o P) is p

pub stays-refused : (k : ℕ) (why : Status) (s : Site) → IsSomeAnd (call_at s.traffic k) (λ c. c.place ≡ asked) → SoundSite s
    → StaysSound s (requested k (Some why) s)
stays-refused k why s asked_is h = nothing-stays s (requested k (Some why) s)
    (nothing-on_traffic (k ∷ []) (λ t. replied why [] k (taken k t)) s (passes (passes-replied why [] k (taken k s.traffic)))
    (λ u j on has. absurd (apart u j on (eq_by_cmp nat_cmp j k) refl has))) h
  where
    passes : Passes (k ∷ []) (taken k s.traffic) (replied why [] k (taken k s.traffic))
        → Passes (k ∷ []) s.traffic (replied why [] k (taken k s.traffic))
    passes x = record { held = x.held; opens = x.opens; numbered = x.numbered }

    never : (u : Uid) (o : Option Call) → IsSomeAnd o (λ c. c.place ≡ asked) → IsSomeAnd o (λ c. (c.place ≡ held) × (c.target.uid ≡ u)) → ⊥
    never u None a b = a
    never u (Some c) a b = let bad : asked ≡ held = sym a ∙ b.0 in cc bad

    apart : (u : Uid) (j : ℕ) → IsHeldAt s.traffic u j → (b : Bool) → eq_by_cmp nat_cmp j k ≡ b → 1 ≤ cond b (0 + 1) 0 → ⊥
    apart u j on true same has = never u (call_at s.traffic k) asked_is (subst (IsHeldAt s.traffic u) (same-true j k same) on)
    apart u j on false same has = omega (arith, has)

-- the request joins the queue
abbrev join : ℕ → Eject → Eject
join k e = record e { queued = e.queued ++ k ∷ [] }

times-join : (j k : ℕ) (e : Eject) → times_in j (Some (record e { queued = e.queued ++ k ∷ [] })) ≡ times_in j (Some e) + times j (k ∷ [])
times-join j k e = omega (arith, times-append j e.queued (k ∷ []))

stays-joined : (k : ℕ) (v : Uid) (s : Site) → v.node ≡ s.number → IsHeldAt s.traffic v k → times_in k (eject_in s v) ≡ 0 → SoundSite s
    → StaysSound s (on_eject v (λ e. record e { queued = e.queued ++ k ∷ [] }) s)
unfolding on_eject
stays-joined k v s here on none h = record {
  number = refl;
  away = record { held = λ u j other is. is; opens = λ u p j other is. is };
  sound = record {
    numbered = h.numbered;
    fits = λ u at. subst (Fits s.traffic s.node.requests u) (sym (eject-on_eject v u (join k) s))
        (go u (eq_by_cmp uid_cmp u v) refl (eject_in s u) refl (h.fits u at));
  };
}
  where
    one : (e : Eject) → times_in k (Some e) ≡ 0 → Fits s.traffic s.node.requests v (Some e)
        → Fits s.traffic s.node.requests v (Some (record e { queued = e.queued ++ k ∷ [] }))
    one e free fit = record {
      held = λ j has. held_too j (eq_by_cmp nat_cmp j k) refl (subst (λ n. 1 ≤ n) (times-join j k e) has);
      once = λ j. subst (λ n. n ≤ 1) (sym (times-join j k e)) (once_too j (eq_by_cmp nat_cmp j k) refl);
      asks = fit.asks;
      single = fit.single;
      stores = fit.stores;
      alone = fit.alone;
      laid = fit.laid;
    }
      where
        held_too : (j : ℕ) (b : Bool) → eq_by_cmp nat_cmp j k ≡ b → 1 ≤ times_in j (Some e) + cond b (0 + 1) 0 → IsHeldAt s.traffic v j
        held_too j true same has = subst (IsHeldAt s.traffic v) (sym (same-true j k same)) on
        held_too j false same has = fit.held j (omega (arith, has))

        once_too : (j : ℕ) (b : Bool) → eq_by_cmp nat_cmp j k ≡ b → times_in j (Some e) + cond b (0 + 1) 0 ≤ 1
        once_too j true same = let zero_now : times_in j (Some e) ≡ 0 = ap (λ n. times_in n (Some e)) (same-true j k same) ∙ free in
            omega (arith, zero_now)
        once_too j false same = omega (arith, fit.once j)

    go : (u : Uid) (b : Bool) → eq_by_cmp uid_cmp u v ≡ b → (o : Option Eject) → eject_in s u ≡ o → Fits s.traffic s.node.requests u o
        → Fits s.traffic s.node.requests u (cond b (option_map (join k) o) o)
    go u false same o at fit = fit
    go u true same None at fit = fit
    go u true same (Some e) at fit = let is : u ≡ v = eq-same uid_cmp uid_cmp-IsAntisymmetric u v same in
        subst (λ x. Fits s.traffic s.node.requests x (Some (record e { queued = e.queued ++ k ∷ [] }))) (sym is)
        (one e (sym (ap (times_in k) (ap (eject_in s) (sym is) ∙ at)) ∙ none)
        (subst (λ x. Fits s.traffic s.node.requests x (Some e)) is fit))

pub stays-accepted : (k : ℕ) (s : Site) → IsSomeAnd (call_at s.traffic k) (λ c. (c.place ≡ asked) × (c.target.uid.node ≡ s.number))
    → SoundSite s → StaysSound s (requested k None s)
unfolding on_traffic
stays-accepted k s asked_is h = stays-item s (call_at s.traffic k) _ h (λ c is.
    let taken_in : Site = on_traffic (λ t. changed_call k (at_place held) (taken k t)) s in
    let x = at-call s.traffic k (λ c. (c.place ≡ asked) × (c.target.uid.node ≡ s.number)) c is asked_is in
    stays-then s taken_in _ (nothing-stays s taken_in (nothing-on_traffic (k ∷ []) (λ t. changed_call k (at_place held) (taken k t)) s
    (passes (passes-place k held (taken k s.traffic))) (λ u j on has. absurd (apart u j c is x.0 on (eq_by_cmp nat_cmp j k) refl has)))
    h)
    (λ later. stays-joined k c.target.uid taken_in x.1 (now c is) (none c is x.0 x.1 (times_in k (eject_in s c.target.uid)) refl) later))
  where
    passes : Passes (k ∷ []) (taken k s.traffic) (changed_call k (at_place held) (taken k s.traffic))
        → Passes (k ∷ []) s.traffic (changed_call k (at_place held) (taken k s.traffic))
    passes x = record { held = x.held; opens = x.opens; numbered = x.numbered }

    not-held : (u : Uid) (c : Call) → call_at s.traffic k ≡ Some c → c.place ≡ asked → IsHeldAt s.traffic u k → ⊥
    not-held u c is place on = let x = at-call s.traffic k (λ c. (c.place ≡ held) × (c.target.uid ≡ u)) c is on in let bad : asked ≡ held =
        sym place ∙ x.0 in cc bad

    apart : (u : Uid) (j : ℕ) (c : Call) → call_at s.traffic k ≡ Some c → c.place ≡ asked → IsHeldAt s.traffic u j → (b : Bool)
        → eq_by_cmp nat_cmp j k ≡ b → 1 ≤ cond b (0 + 1) 0 → ⊥
    apart u j c is place on true same has = not-held u c is place (subst (IsHeldAt s.traffic u) (same-true j k same) on)
    apart u j c is place on false same has = omega (arith, has)

    now : (c : Call) → call_at s.traffic k ≡ Some c → IsHeldAt (changed_call k (at_place held) (taken k s.traffic)) c.target.uid k
    now c is =
        let after : call_at (changed_call k (at_place held) (taken k s.traffic)) k ≡ Some (at_place held c) =
        call-changed k k (at_place held) (taken k s.traffic) ∙ rw (same-self k, is) refl in
        subst (λ o. IsSomeAnd o (λ (d : Call). (d.place ≡ held) × (d.target.uid ≡ c.target.uid))) (sym after) (refl, refl)

    none : (c : Call) → call_at s.traffic k ≡ Some c → c.place ≡ asked → c.target.uid.node ≡ s.number → (n : ℕ)
        → times_in k (eject_in s c.target.uid) ≡ n → n ≡ 0
    none c is place at zero same = refl
    none c is place at (suc n) same = absurd (not-held c.target.uid c is place ((h.fits c.target.uid at).held k (omega (arith, same))))

-- 3. Replies

pub stays-heard : (k : ℕ) (why : Status) (values : List Datum) (s : Site)
    → IsSomeAnd (call_at s.traffic k) (λ c. (c.place ≡ answered why values)
    × ((u : Uid) (p : ℕ) → c.asker ≡ Asking u p → u.node ≡ s.number)) → SoundSite s → StaysSound s (heard k why values s)
unfolding on_traffic
stays-heard k why values s is_answered h = stays-item s (call_at s.traffic k) _ h (λ c is.
    go c is c.open_ refl (at-call s.traffic k (λ c. (c.place ≡ answered why values)
    × ((u : Uid) (p : ℕ) → c.asker ≡ Asking u p → u.node ≡ s.number)) c is is_answered))
  where
    after : Site
    after = on_traffic (received k) s

    apart : (u : Uid) (j : ℕ) (c : Call) → call_at s.traffic k ≡ Some c → c.place ≡ answered why values → IsHeldAt s.traffic u j
        → (b : Bool) → eq_by_cmp nat_cmp j k ≡ b → 1 ≤ cond b (0 + 1) 0 → ⊥
    apart u j c is place on true same has = let x = at-call s.traffic k (λ c. (c.place ≡ held) × (c.target.uid ≡ u)) c is
        (subst (IsHeldAt s.traffic u) (same-true j k same) on) in let bad : answered why values ≡ held = sym place ∙ x.0 in cc bad
    apart u j c is place on false same has = omega (arith, has)

    step : (c : Call) → call_at s.traffic k ≡ Some c → c.place ≡ answered why values → AddsNothing s after
    step c is place = nothing-on_traffic (k ∷ []) (received k) s (passes-closed k s.traffic) (λ u j on has.
        absurd (apart u j c is place on (eq_by_cmp nat_cmp j k) refl has))

    shut : (u : Uid) (p : ℕ) → IsOpenOf (received k s.traffic) u p k → ⊥
    shut u p is = off (call_at s.traffic k) (subst (λ o. IsSomeAnd o (λ (c : Call). (c.open_ ≡ true) × (c.asker ≡ Asking u p)))
        (call-changed k k closed (taken k s.traffic) ∙ rw (same-self k) refl) is)
      where
        off : (o : Option Call) → IsSomeAnd (option_map closed o) (λ c. (c.open_ ≡ true) × (c.asker ≡ Asking u p)) → ⊥
        off None x = x
        off (Some c) x = let bad : false ≡ true = x.0 in cc bad

    told_one : (c : Call) → call_at s.traffic k ≡ Some c → c.place ≡ answered why values → c.open_ ≡ true
        → ((u : Uid) (p : ℕ) → c.asker ≡ Asking u p → u.node ≡ s.number) → (a : Asker) → c.asker ≡ a
        → StaysSound after (tells_asker a why values after)
    told_one c is place opened here (Shell name) asker_is = stays-same after (nothing-sound s after (step c is place) h)
    told_one c is place opened here (Asking u p) asker_is =
        let open_k : IsOpenOf s.traffic u p k = subst (λ o. IsSomeAnd o (λ (d : Call). (d.open_ ≡ true) × (d.asker ≡ Asking u p))) (sym is)
        (opened, asker_is) in
        let fit = h.fits u (here u p asker_is) in
        nothing-stays after (tells u p (Told why values) after)
        (nothing-tells u p (Told why values) after (free u p open_k fit)
        (loose-waits (active_in (eject_in s u)) p (fit.asks p k open_k).0)) (nothing-sound s after (step c is place) h)
      where
        free : (u : Uid) (p : ℕ) → IsOpenOf s.traffic u p k → Fits s.traffic s.node.requests u (eject_in s u) → Claims after u p → ⊥
        free u p open_k fit (inl x) = let same : x.0 ≡ k = fit.single p x.0 k ((step c is place).opens u p x.0 x.1) open_k in
            shut u p (subst (IsOpenOf (received k s.traffic) u p) same x.1)
        free u p open_k fit (inr some) = omega (arith, some, (fit.asks p k open_k).1)

    go : (c : Call) → call_at s.traffic k ≡ Some c → (b : Bool) → c.open_ ≡ b
        → (c.place ≡ answered why values) × ((u : Uid) (p : ℕ) → c.asker ≡ Asking u p → u.node ≡ s.number)
        → StaysSound s (cond b (tells_asker c.asker why values after) after)
    go c is true opened x = stays-then s after (tells_asker c.asker why values after) (nothing-stays s after (step c is x.0) h) (λ later.
        told_one c is x.0 opened x.1 c.asker refl)
    go c is false opened x = nothing-stays s after (step c is x.0) h

-- 4. Starts

find-there : (t : Edentype) (traffic : Traffic) (test : Invocation → Bool) (ks : List ℕ) (i : Invocation)
    → find test (map (invocation t traffic) ks) ≡ Some i → 1 ≤ times i.call ks
find-there t traffic test [] i is = absurd (cc is)
find-there t traffic test (k ∷ ks) i is = go (test (invocation t traffic k)) is (find-there t traffic test ks i)
  where
    more : (b : Bool) → 1 ≤ times i.call ks → 1 ≤ cond b (times i.call ks + 1) (times i.call ks)
    more true h = omega (arith, h)
    more false h = h

    go : (b : Bool) → cond b (Some (invocation t traffic k)) (find test (map (invocation t traffic) ks)) ≡ Some i
        → (find test (map (invocation t traffic) ks) ≡ Some i → 1 ≤ times i.call ks) → 1 ≤ times i.call (k ∷ ks)
    go true found later = let same : invocation t traffic k ≡ i = cc found in let number : k ≡ i.call =
        ap (λ (x : Invocation). x.call) same in rw (sym number, same-self k) (omega arith)
    go false found later = more (eq_by_cmp nat_cmp i.call k) (later found)

pub startable-there : (it : Active) (traffic : Traffic) (ks : List ℕ) (i : Invocation)
    → startable it.crew (map (invocation it.kind traffic) ks) ≡ Some i → (1 ≤ times i.call ks) × (length it.crew.processes < 16)
startable-there it traffic ks i is = go (nat_lt (length it.crew.processes) 16) refl is
  where
    go : (b : Bool) → nat_lt (length it.crew.processes) 16 ≡ b
        → cond b (find (may_start it.crew) (map (invocation it.kind traffic) ks)) None ≡ Some i
        → (1 ≤ times i.call ks) × (length it.crew.processes < 16)
    go true few found = (find-there it.kind traffic (may_start it.crew) ks i found, grind (arith, few))
    go false few found = absurd (cc found)

pub stays-start : (v : Uid) (k p : ℕ) (s : Site) → IsActiveAnd s v (λ e it. AllowsStart s.traffic k p e it) → SoundSite s
    → StaysSound s (start v k p s)
stays-start v k p s allowed h = stays-item s (call_at s.traffic k) _ h (λ c is.
    nothing-stays s _ (nothing-on_eject v (λ e. record (on_active (with_start s.traffic k p c) e) {
      queued =
          filter (λ j. not (j == k)) e.queued;
    }) s
    (λ e at j. few c e j e.active refl (numbered e at))
    (λ e at q claims w. wait c e q e.active refl (numbered e at) w)
    (λ e at l. lay c e e.active refl (numbered e at) l)) h)
  where
    numbered : (e : Eject) → eject_in s v ≡ Some e → IsSomeAnd e.active (λ it. AllowsStart s.traffic k p e it)
    numbered e at = subst (λ o. IsSomeAnd o (λ e. IsSomeAnd e.active (λ it. AllowsStart s.traffic k p e it))) at allowed

    gone-k : not (k == k) ≡ false
    gone-k = rw (eq-eqb k k refl) refl

    less : (it : Active) (e : Eject) (j : ℕ) → (1 ≤ times k e.queued) → (b : Bool) → eq_by_cmp nat_cmp j k ≡ b
        → times j (running (started (invocation it.kind s.traffic k) it.crew))
        ≤ cond b (times j (running it.crew) + 1) (times j (running it.crew))
        → times j (running (started (invocation it.kind s.traffic k) it.crew)) + times j (filter (λ i. not (i == k)) e.queued)
        ≤ times j (running it.crew) + times j e.queued
    less it e j there true same runs = let is : j ≡ k = same-true j k same in
        let none : times j (filter (λ i. not (i == k)) e.queued) ≡ 0 =
        times-gone j (λ i. not (i == k)) e.queued (ap (λ n. not (n == k)) is ∙ gone-k) in
        let there_j : 1 ≤ times j e.queued = subst (λ n. 1 ≤ times n e.queued) (sym is) there in omega (arith, runs, none, there_j)
    less it e j there false same runs = omega (arith, runs, times-filter j (λ i. not (i == k)) e.queued)

    few : (c : Call) (e : Eject) (j : ℕ) (o : Option Active) → e.active ≡ o → IsSomeAnd o (λ it. AllowsStart s.traffic k p e it)
        → times j (runs_of (with_item o (λ it. with_active (Some (with_start s.traffic k p c it)) e) e).active) + times j
        (filter (λ i. not (i == k)) e.queued) ≤ times j (runs_of o) + times j e.queued
    few c e j None is a = absurd a
    few c e j (Some it) is a = less it e j (startable-there it s.traffic e.queued (invocation it.kind s.traffic k) a.earliest).0
        (eq_by_cmp nat_cmp j k) refl (runs-started j (invocation it.kind s.traffic k) it.crew)

    wait : (c : Call) (e : Eject) (q : ℕ) (o : Option Active) → e.active ≡ o → IsSomeAnd o (λ it. AllowsStart s.traffic k p e it)
        → IsSomeAnd o (λ it. Waits it.crew q outside)
        → IsSomeAnd (with_item o (λ it. with_active (Some (with_start s.traffic k p c it)) e) e).active (λ it. Waits it.crew q outside)
    wait c e q None is a w = absurd a
    wait c e q (Some it) is a w = waits-put (least_free it.crew) q _ it.crew
        (free-none (least_free it.crew) it.crew.processes (least_free-free it.crew
        (startable-there it s.traffic e.queued (invocation it.kind s.traffic k) a.earliest).1)) w

    lay : (c : Call) (e : Eject) (o : Option Active) → e.active ≡ o → IsSomeAnd o (λ it. AllowsStart s.traffic k p e it)
        → IfSome o (λ it. IsLaid it.crew)
        → IfSome (with_item o (λ it. with_active (Some (with_start s.traffic k p c it)) e) e).active (λ it. IsLaid it.crew)
    lay c e None is a l = absurd a
    lay c e (Some it) is a l = laid-started (invocation it.kind s.traffic k) it.crew
        (startable-there it s.traffic e.queued (invocation it.kind s.traffic k) a.earliest).1 l

-- 5. Crashes

nothing-crashed : (s : Site) → AddsNothing s (crashed s)
unfolding on_traffic on_node
nothing-crashed s = record {
  number = refl;
  held = λ u k is. go u k is (u.node == s.number) refl;
  opens = λ u p k is. open-without_node s.number s.traffic u p k is;
  numbered = λ h. numbered-without_node s.number s.traffic h;
  fewer = λ u k. subst (λ n. n ≤ times_in k (eject_in s u)) (sym (none u k)) (omega arith);
  stores = λ u p. omega arith;
  waits = λ u p at claims is. absurd (free u p at claims);
  laid = λ u at is. subst LaidIn (sym (value-each u fallen s.node.ejects)) (laid (eject_in s u));
}
  where
    none : (u : Uid) (k : ℕ) → times_in k (eject_in (crashed s) u) ≡ 0
    none u k = ap (times_in k) (value-each u fallen s.node.ejects) ∙ empty (eject_in s u)
      where
        empty : (o : Option Eject) → times_in k (option_map fallen o) ≡ 0
        empty None = refl
        empty (Some e) = refl

    laid : (o : Option Eject) → LaidIn (option_map fallen o)
    laid None = tt
    laid (Some e) = tt

    go : (u : Uid) (k : ℕ) → IsHeldAt s.traffic u k → (b : Bool) → (u.node == s.number) ≡ b
        → IsHeldAt (without_node s.number s.traffic) u k ⊎ ((u.node ≡ s.number) × (times_in k (eject_in (crashed s) u) ≡ 0))
    go u k is true same = inr (eqb-true u.node s.number same, none u k)
    go u k is false same = inl (held-without_node s.number s.traffic u k same is)

    free : (u : Uid) (p : ℕ) → u.node ≡ s.number → ((k : ℕ) × IsOpenOf (without_node s.number s.traffic) u p k) ⊎ (1 ≤ at_store u p []) → ⊥
    free u p at (inl x) = shut-without_node s.number s.traffic u p x.0 at x.1
    free u p at (inr some) = omega (arith, some)

pub stays-crashed : (s : Site) → SoundSite s → StaysSound s (crashed s)
stays-crashed s h = nothing-stays s (crashed s) (nothing-crashed s) h
