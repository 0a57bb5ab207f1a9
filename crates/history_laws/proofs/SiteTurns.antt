-- Turns of processes, deliveries, starts and crashes keep a site sound.
use Rattle.std.proofs.Common.{◌≡◌, ◌+◌, ◌≤◌, ℕ, nat_le, zero, suc, Bool, true, false, cond, List, [], ◌∷◌, map, Option, None, Some}
use Rattle.std.proofs.Common.{Result, Ok, Err, length, refl, sym, ◌∙◌, ap, subst, arith, inl, inr}
use Rattle.std.specs.Prelude.{IfSome, slice_get}
use Rattle.std.specs.List.{AllByRecursion, filter_map}
use Rattle.std.specs.Ordering.{nat_cmp, eq_by_cmp}
use Rattle.std.specs.FinMap.Entries.{find-put}
use Rattle.capability.specs.declared.Uid.{Uid}
use Rattle.capability.specs.declared.Cap.{Cap}
use Rattle.capability.specs.Capability.{full}
use Rattle.capability.specs.declared.TheConstants.{BODY_LIMIT, MESSAGE_LIMIT}
use Rattle.capability.proofs.Uids.{uid_cmp_total, uid_cmp-IsAntisymmetric}
use Rattle.eden_value.specs.Datum.{Datum}
use Rattle.eden_value.specs.declared.status.Status.{Status}
use Rattle.eden_value.specs.declared.status.Status.TheVariants as status
use Rattle.eden_codec.specs.Spelling.{spelling, values_size}
use Rattle.eden_model.specs.Map.{with_item, uid_cmp}
use Rattle.eden_model.proofs.Laws.{eq-same}
use Rattle.eden_model.proofs.Numbers.{same-true}
use Rattle.eden_model.specs.Crew.{Crew, Condition, Invocation, fresh_crew, quiet_at, outside, Waits, Runs, locked, left, waited}
use Rattle.eden_model.specs.Crew.{signalled, set_waits, running, declared_from, call_of}
use Rattle.eden_model.proofs.Fresh.{fresh-lines}
use Rattle.eden_model.specs.Traffic.{next_call, replied, with_call}
use Rattle.eden_model.specs.declared.Asker.TheVariants.{Eject as Asking}
use Rattle.epl_syntax.specs.declared.effect.Answer.TheVariants.{Code, Reply as Told, Created as Made}
use Rattle.epl_syntax.specs.declared.effect.Effect.{Effect}
use Rattle.epl_syntax.specs.declared.effect.Effect.TheVariants as effect
use Rattle.epl_syntax.specs.declared.tree.CondDecl.{CondDecl}
use Rattle.epl_syntax.specs.declared.types.Native.{Native}
use Rattle.epl_syntax.specs.declared.types.Native.TheVariants as code
use Rattle.epl_syntax.specs.Edentype.{Edentype, native, declared}
use Rattle.epl_syntax.specs.Meaning.{setup_of, rep_of, type_of, first_values}
use Rattle.journal.specs.EjectChange.{body, removal}
use Rattle.journal.specs.World.{Active, Eject, Site, eject_in, on_eject, on_node, on_traffic}
use Rattle.journal.specs.Ejects.{with_active, on_active, on_crew, tells, deactivated, fresh, next_uid, newborn, born}
use Rattle.journal.specs.Processes.{serving, without_process, asks_store, answers, refused_at_once, waits_or_told, creates, checkpoints}
use Rattle.journal.specs.Processes.{effected}
use Rattle.journal.specs.Sites.{active_in, runs_of, IsHeldAt, WaitsIn, IsLaid}
use Rattle.history_laws.proofs.Fits.{times, times_in, LaidIn, SoundSite}
use Rattle.history_laws.proofs.Tasks.{IsRuledType, Ruling, FitsEffect}
use Rattle.history_laws.proofs.Times.{Passes, passes-same, passes-replied}
use Rattle.history_laws.proofs.SiteChanges.{Claims, AddsNothing, nothing-sound, StaysSound, stays-same, stays-then, nothing-stays}
use Rattle.history_laws.proofs.SiteChanges.{nothing-on_traffic, nothing-quiet, same-target}
use Rattle.history_laws.proofs.SiteCrews.{runs-ended, runs-served, runs-left, laid-ended, laid-left, waits-ended, waits-left}
use Rattle.history_laws.proofs.SiteQueues.{runs-locked, waits-locked, laid-locked, runs-waited, waits-waited, laid-waited, runs-signalled}
use Rattle.history_laws.proofs.SiteQueues.{waits-signalled, laid-signalled}
use Rattle.history_laws.proofs.SiteParts.{HasPart, nothing-on_active, eject-here, stays-turned_away, stays-deactivated, stays-gone, Ready}
use Rattle.history_laws.proofs.SiteParts.{free-ready, stays-tells, nothing-waits, waits-now}
use Rattle.history_laws.proofs.SiteCalls.{stays-asks, stays-called}

-- 1. A process ends, and its call is answered

ready-runs : (s : Site) (v : Uid) (p : ℕ) → Ready s v p → (it : Active) → HasPart s v it → Runs it.crew p
ready-runs s v p ready it is = let same : Some ready.part ≡ Some it = sym ready.is ∙ is in
    subst (λ o. IfSome o (λ x. Runs x.crew p)) same ready.waits

nothing-ends : (v : Uid) (p : ℕ) (s : Site) → Ready s v p → SoundSite s → AddsNothing s (on_eject v (on_active (without_process p)) s)
nothing-ends v p s ready h = nothing-on_active v (without_process p) s
    (λ it at k. runs-ended k p it.crew)
    (λ it at q claims w. waits-ended p q it.crew (laid it at).lines (ready-runs s v p ready it at) w)
    (λ it at l. laid-ended p it.crew (ready-runs s v p ready it at) l)
  where
    laid : (it : Active) → HasPart s v it → IsLaid it.crew
    laid it at = subst (λ o. IfSome o (λ x. IsLaid x.crew)) at (h.fits v ready.here).laid

stays-answers : (v : Uid) (p : ℕ) (i : Option Invocation) (results : List Datum) (s : Site) → Ready s v p
    → IfSome (active_in (eject_in s v)) (λ it. serving it p ≡ i) → SoundSite s
    → StaysSound s (on_traffic (answers i results) (on_eject v (on_active (without_process p)) s))
unfolding on_eject
stays-answers v p i results s ready serves h = let step = nothing-ends v p s ready h in
    let after : Site = on_eject v (on_active (without_process p)) s in
    stays-then s after (on_traffic (answers i results) after) (nothing-stays s after step h) (λ later. go i serves)
  where
    after : Site
    after = on_eject v (on_active (without_process p)) s

    step : AddsNothing s after
    step = nothing-ends v p s ready h

    gone : (j : Invocation) → IfSome (active_in (eject_in s v)) (λ it. serving it p ≡ Some j)
        → times_in j.call (eject_in after v) + 1 ≤ times_in j.call (eject_in s v)
    gone j is = by_eject (eject_in s v) refl is
      where
        part : (e : Eject) (o : Option Active) → e.active ≡ o → IfSome o (λ it. serving it p ≡ Some j)
            → active_in (Some e) ≡ Some ready.part
            → times j.call (runs_of (with_item o (λ it. with_active (Some (without_process p it)) e) e).active) + times j.call
            (with_item o (λ it. with_active (Some (without_process p it)) e) e).queued + 1
            ≤ times j.call (runs_of o) + times j.call e.queued
        part e None at is same = absurd (let bad : None ≡ Some ready.part = sym at ∙ same in cc bad)
        part e (Some it) at is same = omega (arith, runs-served p j it.crew is)

        by_eject : (o : Option Eject) → eject_in s v ≡ o → IfSome (active_in o) (λ it. serving it p ≡ Some j)
            → times_in j.call (eject_in after v) + 1 ≤ times_in j.call o
        by_eject None at is = absurd (let bad : None ≡ Some ready.part = sym (ap active_in at) ∙ ready.is in cc bad)
        by_eject (Some e) at is = subst (λ o. times_in j.call o + 1 ≤ times_in j.call (Some e))
            (sym (eject-here v (on_active (without_process p)) s e at))
            (part e e.active refl is (sym (ap active_in at) ∙ ready.is))

    out : (j : Invocation) → IfSome (active_in (eject_in s v)) (λ it. serving it p ≡ Some j) → (u : Uid) (k : ℕ)
        → IsHeldAt after.traffic u k → 1 ≤ times k (j.call ∷ []) → (u.node ≡ after.number) × (times_in k (eject_in after u) ≡ 0)
    out j is u k on has = let same : k ≡ j.call = one (eq_by_cmp nat_cmp k j.call) refl has in
        let fit = h.fits v ready.here in
        let less = gone j is in
        let there : 1 ≤ times_in k (eject_in s v) = subst (λ n. 1 ≤ times_in n (eject_in s v)) (sym same) (omega (arith, less)) in
        let here : u ≡ v = same-target s.traffic u v k on (fit.held k there) in (
          ap (λ (x : Uid). x.node) here ∙ ready.here,
          subst (λ x. times_in k (eject_in after x) ≡ 0) (sym here)
              (subst (λ n. times_in n (eject_in after v) ≡ 0) (sym same) (omega (arith, less, fit.once j.call))),
        )
      where
        one : (b : Bool) → eq_by_cmp nat_cmp k j.call ≡ b → 1 ≤ cond b (0 + 1) 0 → k ≡ j.call
        one true at has = same-true k j.call at
        one false at has = absurd (omega (arith, has))

    go : (i : Option Invocation) → IfSome (active_in (eject_in s v)) (λ it. serving it p ≡ i)
        → StaysSound after (on_traffic (answers i results) after)
    go None is = nothing-stays after (on_traffic (answers None results) after)
        (nothing-quiet (answers None results) after (passes-same after.traffic)) (nothing-sound s after step h)
    go (Some j) is = nothing-stays after (on_traffic (answers (Some j) results) after)
        (nothing-on_traffic (j.call ∷ []) (answers (Some j) results) after (passes (nat_le (values_size results) MESSAGE_LIMIT))
        (out j is)) (nothing-sound s after step h)
      where
        passes : (b : Bool) → Passes (j.call ∷ []) after.traffic
            (cond b (replied status.Ok results j.call after.traffic) (replied status.TooLarge [] j.call after.traffic))
        passes true = passes-replied status.Ok results j.call after.traffic
        passes false = passes-replied status.TooLarge [] j.call after.traffic

-- 2. Creations

runs-declared : (n k : ℕ) → filter_map call_of (declared_from n k) ≡ []
runs-declared n zero = refl
runs-declared n (suc k) = runs-declared (n + 1) k

-- native types have no conditions, and those of a declared type are of its monitors
no-conditions : (n : Native) (i : ℕ) (it : Condition) → slice_get (fresh_crew (setup_of (native n))).conditions i ≡ Some it → 1 ≤ it.monitor
no-conditions code.Cell i it at = absurd (cc at)
no-conditions code.Directory i it at = absurd (cc at)
no-conditions code.Lines i it at = absurd (cc at)
no-conditions code.Take i it at = absurd (cc at)
no-conditions code.Skip i it at = absurd (cc at)
no-conditions code.Only i it at = absurd (cc at)
no-conditions code.Number i it at = absurd (cc at)
no-conditions code.Sink i it at = absurd (cc at)

their-monitors : (n : ℕ) (cs : List CondDecl) → AllByRecursion (λ c. (1 ≤ c.monitor) × (c.monitor ≤ n)) cs → (i : ℕ) (it : Condition)
    → slice_get (map quiet_at (map (λ c. c.monitor) cs)) i ≡ Some it → 1 ≤ it.monitor
their-monitors n [] all i it at = absurd (cc at)
their-monitors n (c ∷ cs) all zero it at = subst (λ o. IfSome o (λ (x : Condition). 1 ≤ x.monitor)) at all.0.0
their-monitors n (c ∷ cs) all (suc i) it at = their-monitors n cs all.1 i it at

pub laid-fresh : (types : List Edentype) (t : Edentype) (vars : List Datum) → IsRuledType types t → IsLaid (fresh t vars).crew
laid-fresh types (native n) vars ruled = record { lines = fresh-lines (setup_of (native n)); monitors = no-conditions n }
laid-fresh types (declared t) vars ruled = record {
  lines = fresh-lines (setup_of (declared t));
  monitors = their-monitors (length t.monitors) t.conditions ruled.monitors;
}

pub runs-fresh : (t : Edentype) (vars : List Datum) → running (fresh t vars).crew ≡ []
runs-fresh t vars = runs-declared 1 (setup_of t).declared

-- an Eject that was not there is created
pub nothing-born : (types : List Edentype) (v : Uid) (t : Edentype) (vars : List Datum) (s : Site) → IsRuledType types t
    → eject_in s v ≡ None
    → AddsNothing s (born v (fresh t vars) s)
unfolding on_node
nothing-born types v t vars s ruled absent = record {
  number = refl;
  held = λ u k is. inl is;
  opens = λ u p k is. is;
  numbered = λ h. h;
  fewer = λ u k. subst (λ o. times_in k o ≤ times_in k (eject_in s u)) (sym (put u)) (few u k (eq_by_cmp uid_cmp u v) refl);
  stores = λ u p. omega arith;
  waits = λ u p at claims is. subst (λ o. WaitsIn o p) (sym (put u)) (wait u p (eq_by_cmp uid_cmp u v) refl is);
  laid = λ u at is. subst LaidIn (sym (put u)) (lay u (eq_by_cmp uid_cmp u v) is);
}
  where
    grown : Eject
    grown = with_item (eject_in s v) (with_active (Some (fresh t vars))) (newborn (fresh t vars))

    put : (u : Uid) → eject_in (born v (fresh t vars) s) u ≡ cond (eq_by_cmp uid_cmp u v) (Some grown) (eject_in s u)
    put u = find-put uid_cmp uid_cmp_total u v grown s.node.ejects

    few : (u : Uid) (k : ℕ) (b : Bool) → eq_by_cmp uid_cmp u v ≡ b
        → times_in k (cond b (Some grown) (eject_in s u)) ≤ times_in k (eject_in s u)
    few u k true is = rw (absent, runs-fresh t vars) (omega arith)
    few u k false is = omega arith

    wait : (u : Uid) (p : ℕ) (b : Bool) → eq_by_cmp uid_cmp u v ≡ b → WaitsIn (eject_in s u) p
        → WaitsIn (cond b (Some grown) (eject_in s u)) p
    wait u p true is w = absurd (subst (λ o. WaitsIn o p) (ap (eject_in s) (eq-same uid_cmp uid_cmp-IsAntisymmetric u v is) ∙ absent) w)
    wait u p false is w = w

    lay : (u : Uid) (b : Bool) → LaidIn (eject_in s u) → LaidIn (cond b (Some grown) (eject_in s u))
    lay u true l = rw absent (laid-fresh types t vars ruled)
    lay u false l = l

pub ready-born : (v new : Uid) (t : Edentype) (vars : List Datum) (s : Site) (p : ℕ) → eject_in s new ≡ None → Ready s v p
    → Ready (born new (fresh t vars) s) v p
unfolding on_node
ready-born v new t vars s p absent ready = record {
  here = ready.here;
  part = ready.part;
  is =
      ap active_in (find-put uid_cmp uid_cmp_total v new _ s.node.ejects) ∙ go (eq_by_cmp uid_cmp v new) refl;
  waits = ready.waits;
}
  where
    go : (b : Bool) → eq_by_cmp uid_cmp v new ≡ b → active_in (cond b
        (Some (with_item (eject_in s new) (with_active (Some (fresh t vars))) (newborn (fresh t vars)))) (eject_in s v)) ≡ Some ready.part
    go true same = absurd (let bad : None ≡ Some ready.part = sym
        (ap active_in (ap (eject_in s) (eq-same uid_cmp uid_cmp-IsAntisymmetric v new same) ∙ absent)) ∙ ready.is in cc bad)
    go false same = ready.is

-- the next uid is that of no Eject
abbrev pub IsNew : Site → Type 0
IsNew s = (u : Uid) → next_uid s ≡ Ok u → eject_in s u ≡ None

stays-creates : (types : List Edentype) (v : Uid) (p : ℕ) (t : Option Edentype) (made : Result Uid Status) (s : Site) → next_uid s ≡ made
    → IsNew s → ((x : Edentype) → t ≡ Some x → IsRuledType types x) → Ready s v p → SoundSite s → StaysSound s (creates v p t made s)
stays-creates types v p None made s is new ruled ready h = stays-same s h
stays-creates types v p (Some t) (Ok u) s is new ruled ready h = let absent = new u is in
    stays-then s (born u (fresh t (first_values t)) s) (creates v p (Some t) (Ok u) s)
    (nothing-stays s (born u (fresh t (first_values t)) s) (nothing-born types u t (first_values t) s (ruled t refl) absent) h)
    (λ later. stays-tells v p (Made status.Ok (Some (full u))) (born u (fresh t (first_values t)) s)
    (ready-born v u t (first_values t) s p absent ready) later)
stays-creates types v p (Some t) (Err why) s is new ruled ready h = stays-tells v p (Made why None) s ready h

-- 3. Effects

stays-invokes : (v : Uid) (p : ℕ) (target : Cap) (operation : List ℕ) (args : List Datum) (at_once : Option Status) (s : Site)
    → Ready s v p → SoundSite s
    → StaysSound s (on_traffic (λ t. with_call (next_call t) (Asking v p) target operation args at_once t)
    (on_eject v (on_active (waits_or_told p at_once)) s))
stays-invokes v p target operation args None s ready h = let step = nothing-waits v p s ready in
    let after : Site = on_eject v (on_active (on_crew (set_waits p outside))) s in
    stays-then s after _ (nothing-stays s after step h) (λ later.
    stays-called v p target operation args None after (ready.here ∙ sym step.number) (λ none claims.
    free-ready s v p h ready (was claims)) (λ none. waits-now v p s ready) later)
  where
    after : Site
    after = on_eject v (on_active (on_crew (set_waits p outside))) s

    was : Claims after v p → Claims s v p
    was (inl open_call) = inl (open_call.0, (nothing-waits v p s ready).opens v p open_call.0 open_call.1)
    was (inr some) = inr (omega (arith, some, (nothing-waits v p s ready).stores v p))
stays-invokes v p target operation args (Some why) s ready h = let one = stays-tells v p (Told why []) s ready h in
    stays-then s (tells v p (Told why []) s) _ one (λ later. stays-called v p target operation args (Some why) (tells v p (Told why []) s)
    (ready.here ∙ sym one.number) (λ none claims. (let bad : Some why ≡ None = none in cc bad)) (λ none.
    absurd (let bad : Some why ≡ None = none in cc bad)) later)

part-laid : (s : Site) (v : Uid) → SoundSite s → v.node ≡ s.number → (it : Active) → HasPart s v it → IsLaid it.crew
part-laid s v h here it at = subst (λ o. IfSome o (λ x. IsLaid x.crew)) at (h.fits v here).laid

stays-crew : (v : Uid) (f : Crew → Crew) (s : Site) → SoundSite s → v.node ≡ s.number → ((crew : Crew) → running (f crew) ≡ running crew)
    → ((it : Active) → HasPart s v it → (q : ℕ) → Waits it.crew q outside → Waits (f it.crew) q outside)
    → ((it : Active) → HasPart s v it → IsLaid it.crew → IsLaid (f it.crew)) → StaysSound s (on_eject v (on_active (on_crew f)) s)
stays-crew v f s h here runs waits laid = nothing-stays s (on_eject v (on_active (on_crew f)) s)
    (nothing-on_active v (on_crew f) s (λ it at k. rw (runs it.crew) (omega arith)) (λ it at q claims w. waits it at q w) laid) h

stays-checkpoints : (v : Uid) (p : ℕ) (bytes : List ℕ) (s : Site) → Ready s v p → SoundSite s → StaysSound s (checkpoints v p bytes s)
stays-checkpoints v p bytes s ready h = go (nat_le (length bytes) BODY_LIMIT)
  where
    go : (b : Bool) → StaysSound s (cond b (asks_store v p (body bytes) s) (tells v p (Code status.TooLarge) s))
    go true = stays-asks v p (body bytes) s ready h
    go false = stays-tells v p (Code status.TooLarge) s ready h

pub stays-effected : (types : List Edentype) (serves : Bool) (reach : ℕ → Bool) (v : Uid) (p : ℕ) (i : Option Invocation) (t : Edentype)
    (vars : List Datum) (e : Effect) (s : Site) → FitsEffect types serves e → Ruling types s → Ready s v p
    → IfSome (active_in (eject_in s v)) (λ it. serving it p ≡ i) → IsNew s → SoundSite s
    → StaysSound s (effected reach v p i t vars e s)
stays-effected types serving reach v p i t vars (effect.Return results) s fits ruled ready serves new h =
    stays-answers v p i results s ready serves h
stays-effected types serving reach v p i t vars effect.End s fits ruled ready serves new h =
    nothing-stays s (on_eject v (on_active (without_process p)) s) (nothing-ends v p s ready h) h
stays-effected types serving reach v p i t vars effect.Checkpoint s fits ruled ready serves new h =
    stays-checkpoints v p (spelling (rep_of t vars)) s ready h
stays-effected types serving reach v p i t vars effect.Destroy s fits ruled ready serves new h = stays-asks v p removal s ready h
stays-effected types serving reach v p i t vars effect.Deactivate s fits ruled ready serves new h =
    let one = stays-deactivated v s ready.here h in
    stays-then s (deactivated v s) _ one (λ later. stays-gone v (deactivated v s) (ready.here ∙ sym one.number) later)
stays-effected types serving reach v p i t vars (effect.Fault cause) s fits ruled ready serves new h =
    let one = stays-deactivated v s ready.here h in
    stays-then s (deactivated v s) _ one (λ later. stays-turned_away v status.Dropped (deactivated v s) (ready.here ∙ sym one.number) later)
stays-effected types serving reach v p i t vars (effect.Create type_name) s fits ruled ready serves new h =
    stays-creates types v p (type_of s.types type_name) (next_uid s) s refl new (λ x is. ruled type_name x is) ready h
stays-effected types serving reach v p i t vars (effect.Invoke target operation args) s fits ruled ready serves new h =
    stays-invokes v p target operation args (refused_at_once (reach target.uid.node) args) s ready h
stays-effected types serving reach v p i t vars (effect.Lock m) s fits ruled ready serves new h =
    stays-crew v (locked p m) s h ready.here (λ crew. runs-locked p m crew)
    (λ it at q w. waits-locked p q m it.crew (ready-runs s v p ready it at) w) (λ it at l.
    laid-locked p m it.crew (ready-runs s v p ready it at) fits l)
stays-effected types serving reach v p i t vars (effect.Leave m) s fits ruled ready serves new h =
    stays-crew v (left m) s h ready.here (λ crew. runs-left m crew)
    (λ it at q w. waits-left m q it.crew (part-laid s v h ready.here it at).lines w) (λ it at l. laid-left m it.crew l)
stays-effected types serving reach v p i t vars (effect.Wait c) s fits ruled ready serves new h =
    stays-crew v (waited p c) s h ready.here (λ crew. runs-waited p c crew)
    (λ it at q w. waits-waited p q c it.crew (part-laid s v h ready.here it at).lines (ready-runs s v p ready it at) w) (λ it at l.
    laid-waited p c it.crew (ready-runs s v p ready it at) l)
stays-effected types serving reach v p i t vars (effect.Signal c) s fits ruled ready serves new h =
    stays-crew v (signalled c) s h ready.here (λ crew. runs-signalled c crew)
    (λ it at q w. waits-signalled q c it.crew (part-laid s v h ready.here it at).lines w) (λ it at l. laid-signalled c it.crew l)
stays-effected types serving reach v p i t vars effect.Yield s fits ruled ready serves new h = stays-same s h
