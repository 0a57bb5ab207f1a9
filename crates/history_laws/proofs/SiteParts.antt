-- The parts of a turn keep a site sound: answers to processes, the end of an active part, and what is asked of the store.
use Rattle.std.proofs.Common.{◌≡◌, ◌==◌, ◌+◌, ◌≤◌, ℕ, Bool, true, false, cond, ◌&&◌, List, [], ◌∷◌, Option, None, Some, refl, sym, ◌∙◌}
use Rattle.std.proofs.Common.{ap, subst, arith, inl, inr}
use Rattle.std.specs.Prelude.{IsSomeAnd, IfSome, ◌⊎◌}
use Rattle.std.specs.List.{filter_map, cons_option}
use Rattle.std.specs.Option.{option_map}
use Rattle.std.specs.Ordering.{nat_cmp, eq_by_cmp, is_eq}
use Rattle.std.proofs.lemmas.Cmp.{tied_itself}
use Rattle.capability.specs.declared.Uid.{Uid}
use Rattle.capability.proofs.Uids.{uid_cmp_total}
use Rattle.eden_value.specs.declared.status.Status.{Status}
use Rattle.eden_value.specs.declared.status.Status.TheVariants as status
use Rattle.eden_model.specs.Map.{with_item, same_uid}
use Rattle.eden_model.proofs.Numbers.{same-true}
use Rattle.eden_model.specs.Crew.{nothing, outside, Waits, Runs, set_waits, running}
use Rattle.eden_model.proofs.LineLaws.{set-other, set-same, set-free}
use Rattle.eden_model.specs.Traffic.{Traffic, Call, call_at, all_replied, asks, orphaned}
use Rattle.eden_model.specs.declared.Asker.TheVariants.{Eject as Asking}
use Rattle.epl_syntax.specs.declared.effect.Answer.{Answer}
use Rattle.journal.specs.World.{Active, Eject, StoreRequest, Site, eject_in, on_eject, on_node, on_traffic}
use Rattle.journal.specs.Ejects.{with_active, with_queued, on_active, on_crew, is_there, told, tells, dropped_of, without_requests}
use Rattle.journal.specs.Ejects.{without_active, deactivated, turned_away, gone_if_unkept}
use Rattle.journal.specs.Sites.{active_in, runs_of, IsHeldAt, IsOpenOf, is_number, at_store, WaitsIn, IsLaid}
use Rattle.history_laws.proofs.Fits.{times, times_in, LaidIn, SoundSite}
use Rattle.history_laws.proofs.Frame.{eject-on_eject}
use Rattle.history_laws.proofs.Messages.{value-calls}
use Rattle.history_laws.proofs.Times.{passes-orphaned, passes-all_replied}
use Rattle.history_laws.proofs.SiteChanges.{Claims, AddsNothing, StaysSound, stays-same, stays-then, nothing-stays, stays-item}
use Rattle.history_laws.proofs.SiteChanges.{nothing-on_traffic, nothing-quiet, nothing-on_node, nothing-on_eject, same-target}
use Rattle.history_laws.proofs.SiteCrews.{Loose, waits_outside, waits_not, laid-set, runs-set}

-- 1. Changes of the active part

-- the active part of this Eject
abbrev pub HasPart : Site → Uid → Active → Type 0
HasPart s v it = active_in (eject_in s v) ≡ Some it

pub nothing-on_active : (v : Uid) (f : Active → Active) (s : Site)
    → ((it : Active) → HasPart s v it → (k : ℕ) → times k (running (f it).crew) ≤ times k (running it.crew))
    → ((it : Active) → HasPart s v it → (p : ℕ) → Claims s v p → Waits it.crew p outside → Waits (f it).crew p outside)
    → ((it : Active) → HasPart s v it → IsLaid it.crew → IsLaid (f it).crew)
    → AddsNothing s (on_eject v (on_active f) s)
nothing-on_active v f s fewer waits laid = nothing-on_eject v (on_active f) s (λ e at k. few e at k e.active refl) (λ e at p claims w.
    wait e at p claims e.active refl w) (λ e at l. lay e at e.active refl l)
  where
    part : (e : Eject) (it : Active) → eject_in s v ≡ Some e → e.active ≡ Some it → HasPart s v it
    part e it at is = ap active_in at ∙ is

    few : (e : Eject) → eject_in s v ≡ Some e → (k : ℕ) (o : Option Active) → e.active ≡ o
        → times_in k (Some (with_item o (λ it. with_active (Some (f it)) e) e)) ≤ times k (runs_of e.active) + times k e.queued
    few e at k None is = omega arith
    few e at k (Some it) is = rw is (omega (arith, fewer it (part e it at is) k))

    wait : (e : Eject) → eject_in s v ≡ Some e → (p : ℕ) → Claims s v p → (o : Option Active) → e.active ≡ o
        → IsSomeAnd e.active (λ it. Waits it.crew p outside) → WaitsIn (Some (with_item o (λ it. with_active (Some (f it)) e) e)) p
    wait e at p claims None is w = w
    wait e at p claims (Some it) is w = waits it (part e it at is) p claims (subst (λ o. IsSomeAnd o (λ it. Waits it.crew p outside)) is w)

    lay : (e : Eject) → eject_in s v ≡ Some e → (o : Option Active) → e.active ≡ o → IfSome e.active (λ it. IsLaid it.crew)
        → LaidIn (Some (with_item o (λ it. with_active (Some (f it)) e) e))
    lay e at None is l = l
    lay e at (Some it) is l = laid it (part e it at is) (subst (λ o. IfSome o (λ it. IsLaid it.crew)) is l)

-- a process that has no claim is told
pub nothing-tells : (v : Uid) (p : ℕ) (a : Answer) (s : Site) → (Claims s v p → ⊥) → ((it : Active) → HasPart s v it → Loose it.crew p)
    → AddsNothing s (tells v p a s)
nothing-tells v p a s free loose = nothing-on_active v (told p a) s
    (λ it at k. rw (runs-set p nothing it.crew) (omega arith))
    (λ it at q claims w. set-other p q nothing it.crew.processes (apart q claims (eq_by_cmp nat_cmp q p) refl) ∙ w)
    (λ it at l. laid-set p nothing it.crew (loose it at) l)
  where
    apart : (q : ℕ) → Claims s v q → (b : Bool) → eq_by_cmp nat_cmp q p ≡ b → b ≡ false
    apart q claims true same = absurd (free (subst (Claims s v) (same-true q p same) claims))
    apart q claims false same = refl

-- who waits for what is outside is in no queue
pub loose-waits : (o : Option Active) (p : ℕ) → IsSomeAnd o (λ it. Waits it.crew p outside) → (it : Active) → o ≡ Some it → Loose it.crew p
loose-waits None p w it is = absurd w
loose-waits (Some x) p w it is = subst (λ o. IfSome o (λ y. Loose y.crew p)) is (waits_outside w)

-- 2. The queued calls are answered

pub eject-here : (v : Uid) (f : Eject → Eject) (s : Site) (e : Eject) → eject_in s v ≡ Some e → eject_in (on_eject v f s) v ≡ Some (f e)
eject-here v f s e is = eject-on_eject v v f s ∙ rw (tied_itself uid_cmp_total v, is) refl

-- a held call that is one of an Eject's is gone from it where it is left out
pub out-of : (s new : Site) (v : Uid) (ks : List ℕ) (e : Eject) → v.node ≡ s.number → eject_in s v ≡ Some e → SoundSite s
    → ((u : Uid) (k : ℕ) → IsHeldAt new.traffic u k → IsHeldAt s.traffic u k)
    → ((k : ℕ) → times k ks ≤ times_in k (Some e)) → ((k : ℕ) → times_in k (eject_in new v) + times k ks ≤ times_in k (Some e))
    → (u : Uid) (k : ℕ) → IsHeldAt new.traffic u k → 1 ≤ times k ks → (u.node ≡ s.number) × (times_in k (eject_in new u) ≡ 0)
out-of s new v ks e at is h back among left u k held_at has =
    let fit = h.fits v at in
    let there : 1 ≤ times_in k (eject_in s v) = subst (λ o. 1 ≤ times_in k o) (sym is) (omega (arith, has, among k)) in
    let once : times_in k (Some e) ≤ 1 = subst (λ o. times_in k o ≤ 1) is (fit.once k) in
    let same : u ≡ v = same-target s.traffic u v k (back u k held_at) (fit.held k there) in
    subst (λ x. (x.node ≡ s.number) × (times_in k (eject_in new x) ≡ 0)) (sym same) (at, omega (arith, has, once, left k))

pub stays-turned_away : (v : Uid) (why : Status) (s : Site) → v.node ≡ s.number → SoundSite s → StaysSound s (turned_away v why s)
unfolding on_eject
stays-turned_away v why s at h = stays-item s (eject_in s v) _ h (λ e is.
    let emptied : Site = on_eject v (with_queued []) s in
    stays-then s emptied (on_traffic (all_replied why e.queued) emptied)
    (nothing-stays s emptied (nothing-on_eject v (with_queued []) s (λ x here k. omega arith) (λ x here p claims w. w) (λ x here l. l)) h)
    (λ later. nothing-stays emptied (on_traffic (all_replied why e.queued) emptied)
    (nothing-on_traffic e.queued (all_replied why e.queued) emptied (passes-all_replied why e.queued s.traffic)
    (out-of s emptied v e.queued e at is h (λ u k on. on) (λ k. omega arith) (λ k.
    subst (λ o. times_in k o + times k e.queued ≤ times_in k (Some e)) (sym (eject-here v (with_queued []) s e is)) (omega arith)))) later))

-- 3. The active part ends

without-fewer : (v u : Uid) (p : ℕ) (rs : List StoreRequest) → at_store u p (filter_map (dropped_of v) rs) ≤ at_store u p rs
without-fewer v u p [] = omega arith
without-fewer v u p (r ∷ rs) = go (same_uid r.uid v) (r.made == 0) (same_uid r.uid u) (is_number p r.process) (without-fewer v u p rs)
  where
    go : (a b c d : Bool) → at_store u p (filter_map (dropped_of v) rs) ≤ at_store u p rs
        → at_store u p (cons_option (cond a (cond b None (Some (record r { process = None }))) (Some r)) (filter_map (dropped_of v) rs))
        ≤ at_store u p (r ∷ rs)
    go true true c d ih = two (same_uid r.uid u && is_number p r.process) ih
      where
        two : (x : Bool) → at_store u p (filter_map (dropped_of v) rs) ≤ at_store u p rs
            → at_store u p (filter_map (dropped_of v) rs) ≤ cond x (at_store u p rs + 1) (at_store u p rs)
        two true ih = omega (arith, ih)
        two false ih = ih
    go true false c d ih = two (same_uid r.uid u) (is_number p r.process) ih
      where
        two : (x y : Bool) → at_store u p (filter_map (dropped_of v) rs) ≤ at_store u p rs
            → cond (x && false) (at_store u p (filter_map (dropped_of v) rs) + 1) (at_store u p (filter_map (dropped_of v) rs))
            ≤ cond (x && y) (at_store u p rs + 1) (at_store u p rs)
        two true true ih = omega (arith, ih)
        two true false ih = ih
        two false y ih = ih
    go false b c d ih = two (same_uid r.uid u && is_number p r.process) ih
      where
        two : (x : Bool) → at_store u p (filter_map (dropped_of v) rs) ≤ at_store u p rs
            → cond x (at_store u p (filter_map (dropped_of v) rs) + 1) (at_store u p (filter_map (dropped_of v) rs))
            ≤ cond x (at_store u p rs + 1) (at_store u p rs)
        two true ih = omega (arith, ih)
        two false ih = ih

without-none : (v : Uid) (p : ℕ) (rs : List StoreRequest) → at_store v p (filter_map (dropped_of v) rs) ≡ 0
without-none v p [] = refl
without-none v p (r ∷ rs) = go (same_uid r.uid v) refl (r.made == 0) (without-none v p rs)
  where
    two : (x : Bool) → at_store v p (filter_map (dropped_of v) rs) ≡ 0
        → cond (x && false) (at_store v p (filter_map (dropped_of v) rs) + 1) (at_store v p (filter_map (dropped_of v) rs)) ≡ 0
    two true ih = ih
    two false ih = ih

    go : (a : Bool) → same_uid r.uid v ≡ a → (b : Bool) → at_store v p (filter_map (dropped_of v) rs) ≡ 0
        → at_store v p (cons_option (cond a (cond b None (Some (record r { process = None }))) (Some r)) (filter_map (dropped_of v) rs)) ≡ 0
    go true is true ih = ih
    go true is false ih = two (same_uid r.uid v) ih
    go false is b ih = rw is ih

none-open : (v : Uid) (p k : ℕ) (t : Traffic) → IsOpenOf (orphaned v t) v p k → ⊥
none-open v p k t h = go (call_at t k) (subst (λ o. IsSomeAnd o (λ (c : Call). (c.open_ ≡ true) × (c.asker ≡ Asking v p)))
    (value-calls k (λ c. cond (asks v c.asker) (record c { open_ = false }) c) t.calls) h)
  where
    one : (c : Call) (b : Bool) → asks v c.asker ≡ b → (cond b (record c { open_ = false }) c).open_ ≡ true
        → (cond b (record c { open_ = false }) c).asker ≡ Asking v p → ⊥
    one c true is open_is asker_is = let bad : false ≡ true = open_is in cc bad
    one c false is open_is asker_is = let bad : false ≡ true = sym is ∙ ap (asks v) asker_is ∙ ap is_eq (tied_itself uid_cmp_total v) in
        cc bad

    go : (o : Option Call) → IsSomeAnd (option_map (λ (c : Call). cond (asks v c.asker) (record c { open_ = false }) c) o) (λ c.
        (c.open_ ≡ true) × (c.asker ≡ Asking v p)) → ⊥
    go None x = x
    go (Some c) x = one c (asks v c.asker) refl x.0 x.1

-- the same in another order: first the calls of the Eject are closed, then its requests go, then its active part, and then its calls are
-- answered
in-order : (v : Uid) (it : Active) (s : Site) → without_active v it s
    ≡ on_traffic (all_replied status.Dropped (running it.crew))
    (on_eject v (with_active None) (on_node (without_requests v) (on_traffic (orphaned v) s)))
unfolding on_traffic on_eject on_node
in-order v it s = refl

pub stays-deactivated : (v : Uid) (s : Site) → v.node ≡ s.number → SoundSite s → StaysSound s (deactivated v s)
unfolding on_traffic on_eject on_node
stays-deactivated v s at h = stays-item s (eject_in s v) _ h (λ e is. stays-item s e.active _ h (λ it is_it.
    let closed : Site = on_traffic (orphaned v) s in
    let alone : Site = on_node (without_requests v) closed in
    let ended_part : Site = on_eject v (with_active None) alone in
    subst (StaysSound s) (sym (in-order v it s))
    (stays-then s closed (on_traffic (all_replied status.Dropped (running it.crew)) ended_part)
    (nothing-stays s closed (nothing-quiet (orphaned v) s (passes-orphaned v s.traffic)) h)
    (λ h1. stays-then closed alone _ (nothing-stays closed alone
    (nothing-on_node (without_requests v) closed (λ u. record { active = refl; queued = refl }) (λ u p.
    without-fewer v u p s.node.requests)) h1)
    (λ h2. stays-then alone ended_part _ (nothing-stays alone ended_part
    (nothing-on_eject v (with_active None) alone (λ x here k. omega arith) (λ x here p claims w. absurd (free v p s claims)) (λ x here l.
    tt)) h2)
    (λ h3. nothing-stays ended_part _ (nothing-on_traffic (running it.crew) (all_replied status.Dropped (running it.crew)) ended_part
    (passes-all_replied status.Dropped (running it.crew) (orphaned v s.traffic))
    (out-of alone ended_part v (running it.crew) e at is h2 (λ u k on. on) (λ k. rw is_it (omega arith))
    (λ k. subst (λ o. times_in k o + times k (running it.crew) ≤ times_in k (Some e)) (sym (eject-here v (with_active None) alone e is))
    (rw is_it (omega arith))))) h3))))))
  where
    free : (v : Uid) (p : ℕ) (s : Site) → ((k : ℕ) × IsOpenOf (orphaned v s.traffic) v p k)
        ⊎ (1 ≤ at_store v p (filter_map (dropped_of v) s.node.requests)) → ⊥
    free v p s (inl open_call) = none-open v p open_call.0 s.traffic open_call.1
    free v p s (inr some) = absurd (omega (arith, some, without-none v p s.node.requests))

pub stays-gone : (v : Uid) (s : Site) → v.node ≡ s.number → SoundSite s → StaysSound s (gone_if_unkept v s)
stays-gone v s at h = stays-item s (eject_in s v) _ h (λ e is. go (is_there e))
  where
    go : (b : Bool) → StaysSound s (cond b s (turned_away v status.Gone s))
    go true = stays-same s h
    go false = stays-turned_away v status.Gone s at h

-- 4. A process asks the store

-- a part of the site takes its turn: the process waits for nothing, so that it has no claim
pub record Ready (s : Site) (v : Uid) (p : ℕ) : Type 0 where
  pub here : v.node ≡ s.number
  pub part : Active
  pub is : HasPart s v part
  pub waits : Runs part.crew p

pub free-ready : (s : Site) (v : Uid) (p : ℕ) → SoundSite s → Ready s v p → Claims s v p → ⊥
free-ready s v p h ready claims = go claims
  where
    outside_not : WaitsIn (eject_in s v) p → ⊥
    outside_not w = let x : Waits ready.part.crew p outside = subst (λ o. IsSomeAnd o (λ it. Waits it.crew p outside)) ready.is w in
        let bad : Some outside ≡ Some nothing = sym x ∙ ready.waits in cc bad

    go : Claims s v p → ⊥
    go (inl open_call) = outside_not (((h.fits v ready.here).asks p open_call.0 open_call.1).0)
    go (inr some) = outside_not ((h.fits v ready.here).stores p some)

pub loose-ready : (s : Site) (v : Uid) (p : ℕ) → Ready s v p → (it : Active) → HasPart s v it → Loose it.crew p
loose-ready s v p ready it is = let same : Some ready.part ≡ Some it = sym ready.is ∙ is in
    subst (λ o. IfSome o (λ x. Loose x.crew p)) same (waits_not ready.waits)

pub stays-tells : (v : Uid) (p : ℕ) (a : Answer) (s : Site) → Ready s v p → SoundSite s → StaysSound s (tells v p a s)
stays-tells v p a s ready h = nothing-stays s (tells v p a s) (nothing-tells v p a s (free-ready s v p h ready) (loose-ready s v p ready)) h

-- the process waits for what is outside
pub nothing-waits : (v : Uid) (p : ℕ) (s : Site) → Ready s v p → AddsNothing s (on_eject v (on_active (on_crew (set_waits p outside))) s)
nothing-waits v p s ready = nothing-on_active v (on_crew (set_waits p outside)) s
    (λ it at k. rw (runs-set p outside it.crew) (omega arith))
    (λ it at q claims w. set-free q p outside it.crew.processes w)
    (λ it at l. laid-set p outside it.crew (loose-ready s v p ready it at) l)

pub waits-now : (v : Uid) (p : ℕ) (s : Site) → Ready s v p → WaitsIn
    (eject_in (on_eject v (on_active (on_crew (set_waits p outside))) s) v) p
waits-now v p s ready = go (eject_in s v) refl ready.is
  where
    part : (e : Eject) (o : Option Active) → e.active ≡ o → o ≡ Some ready.part
        → WaitsIn (Some (with_item o (λ it. with_active (Some (on_crew (set_waits p outside) it)) e) e)) p
    part e None at is = absurd (cc is)
    part e (Some it) at is = let same : it ≡ ready.part = cc is in
        set-same p nothing outside it.crew.processes (subst (λ (x : Active). Runs x.crew p) (sym same) ready.waits)

    go : (o : Option Eject) → eject_in s v ≡ o → active_in o ≡ Some ready.part
        → WaitsIn (eject_in (on_eject v (on_active (on_crew (set_waits p outside))) s) v) p
    go None at is = absurd (cc is)
    go (Some e) at is = subst (λ o. WaitsIn o p) (sym (eject-here v (on_active (on_crew (set_waits p outside))) s e at))
        (part e e.active refl is)
