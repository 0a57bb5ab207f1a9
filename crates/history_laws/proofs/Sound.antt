-- What every node keeps, so that each of its activities has a turn: its Ejects in order and of this node, each process with a task, the
-- requests
-- of Ejects that are there, and a device call left to the first of them.
use Rattle.std.proofs.Common.{◌≡◌, ◌==◌, ◌+◌, ◌*◌, ◌/◌, ◌≤◌, ℕ, nat_le, Bool, true, false, cond, not, List, [], ◌∷◌, ◌++◌, Option, None}
use Rattle.std.proofs.Common.{Some, Result, Ok, Err, is_some, length, refl, sym, ◌∙◌, ap, subst, arith}
use Rattle.std.specs.Prelude.{IsSomeAnd, IfSome}
use Rattle.std.specs.List.{filter, filter_map, cons_option}
use Rattle.std.specs.Option.{option_map}
use Rattle.std.specs.Ordering.{eq_by_cmp}
use Rattle.std.specs.FinMap.Entries.{find-put}
use Rattle.capability.specs.declared.Uid.{Uid}
use Rattle.capability.specs.declared.TheConstants.{BODY_LIMIT}
use Rattle.capability.specs.Capability.{full}
use Rattle.capability.proofs.Uids.{uid_cmp_total, uid_cmp-IsAntisymmetric}
use Rattle.eden_value.specs.Datum.{Datum}
use Rattle.eden_value.specs.declared.status.Status.{Status}
use Rattle.eden_value.specs.declared.status.Status.TheVariants as status
use Rattle.eden_codec.specs.Spelling.{spelling}
use Rattle.eden_model.specs.Map.{with_item, first, rest, uid_cmp, same_uid, value_at, each_value}
use Rattle.eden_model.proofs.Laws.{eq-same}
use Rattle.eden_model.specs.Traffic.{Traffic, Call, held, call_at, changed_call, at_place, taken, replied, all_replied, orphaned}
use Rattle.eden_model.specs.Traffic.{next_call, with_call, without_node}
use Rattle.eden_model.specs.declared.Asker.{Asker}
use Rattle.eden_model.specs.declared.Asker.TheVariants.{Shell, Eject as Process}
use Rattle.eden_model.specs.Crew.{Invocation, outside, set_waits, locked, left, waited, signalled, running}
use Rattle.epl_syntax.specs.declared.effect.Answer.{Answer}
use Rattle.epl_syntax.specs.declared.effect.Answer.TheVariants.{Code, Reply as Told, Created as Made}
use Rattle.epl_syntax.specs.declared.effect.Effect.{Effect}
use Rattle.epl_syntax.specs.declared.effect.Effect.TheVariants as effect
use Rattle.epl_syntax.specs.Edentype.{Edentype}
use Rattle.epl_syntax.specs.Meaning.{rep_of, type_of, first_values, values_from}
use Rattle.passive_store.specs.declared.store.Pick.{Pick}
use Rattle.passive_store.specs.declared.store.Pick.TheVariants as pick
use Rattle.journal.specs.EjectChange.{EjectChange, body, removal, kept_of}
use Rattle.journal.specs.declared.event.BootEnd.{BootEnd}
use Rattle.journal.specs.declared.event.BootEnd.TheVariants as boot_end
use Rattle.journal.specs.declared.event.StartEnd.{StartEnd}
use Rattle.journal.specs.declared.event.StartEnd.TheVariants as start_end
use Rattle.journal.specs.declared.event.RequestEnd.{RequestEnd}
use Rattle.journal.specs.declared.event.RequestEnd.TheVariants as end
use Rattle.journal.specs.declared.event.Event.{Event}
use Rattle.journal.specs.declared.event.Event.TheVariants as event
use Rattle.journal.specs.World.{World, reaches, site_of, Site, Node, Eject, Active, StoreRequest, eject_in, on_eject, on_node, on_traffic}
use Rattle.journal.specs.Ejects.{with_active, with_queued, on_active, on_crew, is_there, told, tells, dropped_of, without_requests}
use Rattle.journal.specs.Ejects.{deactivated, turned_away, gone_if_unkept, fresh, next_uid, newborn, born}
use Rattle.journal.specs.Deliveries.{requested, tells_asker, received, heard}
use Rattle.journal.specs.Processes.{AllowsStart, turn_of, turned, serving, with_start, start, without_process, asks_store, answers}
use Rattle.journal.specs.Processes.{refused_at_once, waits_or_told, creates, checkpoints, effected, process_turn}
use Rattle.journal.specs.Settling.{first_request, settled_eject, settled, unsynced, written_with, to_settle}
use Rattle.journal.specs.Crashes.{fallen, down, crashed}
use Rattle.journal.specs.Stores.{Work, syncs, reads, unkept, without_room, calls, work_of, makes_own_call, HasCallLeft, AllowsStore}
use Rattle.journal.specs.Stores.{more_made, doubted, tells_code, request_ended, removed, stored, done, worked, store_turn}
use Rattle.journal.specs.Starts.{start_of, misfits_answered, activated, start_settled, activation_turn}
use Rattle.journal.specs.Boots.{booted_node, boot_turn}
use Rattle.journal.specs.Step.{AllowsAt, IsActiveAnd, site_turn}
use Rattle.journal.specs.Sites.{IsManned, AllUnmade, AllThere, MannedEject, HasLeft, IsSound, Sound}
use Rattle.history_laws.proofs.Frame.{eject-on_eject}
use Rattle.history_laws.proofs.KeptTurns.{value-each}
use Rattle.history_laws.proofs.ChangeLaw.{all-there, there-changed, there-on_eject, there-more, rest-more, without_one, unmade-without}
use Rattle.history_laws.proofs.ChangeLaw.{there-without, rest-without, rest-unmade}
use Rattle.history_laws.proofs.StoreLaw.{requests-doubted}
use Rattle.history_laws.proofs.EveryNode.{IsKeptAt, next-following}
use Rattle.history_laws.proofs.Ordered.{order-put, order-changed, order-each}
use Rattle.history_laws.proofs.Manned.{manned-crew, manned-told, manned-turned, manned-waits_or_told, manned-start, manned-without}
use Rattle.history_laws.proofs.Manned.{manned-fresh, same-waits, same-locked, same-left, same-waited, same-signalled}

-- 1. The primitives

sound-on_eject : {n : ℕ} (v : Uid) (f : Eject → Eject) (s : Site)
    → ((e : Eject) → eject_in s v ≡ Some e → MannedEject e → MannedEject (f e)) → Sound n s.node → Sound n (on_eject v f s).node
unfolding on_eject
sound-on_eject v f s keep h = record {
  in_order = order-changed v f s.node.ejects h.in_order;
  of_node = λ u is. h.of_node u (was (eq_by_cmp uid_cmp u v) (eject_in s u) (sym (ap is_some (eject-on_eject v u f s)) ∙ is));
  manned = λ u e is. go u e (eq_by_cmp uid_cmp u v) refl (eject_in s u) refl (sym (eject-on_eject v u f s) ∙ is);
  there = all-there s.node.requests s.node.ejects _ (there-on_eject v f s) h.there;
  unmade = h.unmade;
  call_left = h.call_left;
}
  where
    was : (b : Bool) (o : Option Eject) → is_some (cond b (option_map f o) o) ≡ true → is_some o ≡ true
    was true None is = is
    was true (Some e) is = refl
    was false o is = is

    go : (u : Uid) (e : Eject) (b : Bool) → eq_by_cmp uid_cmp u v ≡ b → (o : Option Eject) → eject_in s u ≡ o
        → cond (eq_by_cmp uid_cmp u v) (option_map f (eject_in s u)) (eject_in s u) ≡ Some e → MannedEject e
    go u e false b o at same = h.manned u e (subst (λ c. cond c (option_map f (eject_in s u)) (eject_in s u) ≡ Some e) b same)
    go u e true b None at same = absurd (let bad : None ≡ Some e = subst (λ o. option_map f o ≡ Some e) at
        (subst (λ c. cond c (option_map f (eject_in s u)) (eject_in s u) ≡ Some e) b same) in cc bad)
    go u e true b (Some x) at same =
        let here : u ≡ v = eq-same uid_cmp uid_cmp-IsAntisymmetric u v b in
        let is : Some (f x) ≡ Some e = subst (λ o. option_map f o ≡ Some e) at
        (subst (λ c. cond c (option_map f (eject_in s u)) (eject_in s u) ≡ Some e) b same) in
        subst (λ o. IfSome o MannedEject) is (keep x (ap (eject_in s) (sym here) ∙ at) (h.manned u x at))

sound-on_traffic : {n : ℕ} (f : Traffic → Traffic) (s : Site) → Sound n s.node → Sound n (on_traffic f s).node
unfolding on_traffic
sound-on_traffic f s h = h

sound-on_node : {n : ℕ} (f : Node → Node) (s : Site) → Sound n (f s.node) → Sound n (on_node f s).node
unfolding on_node
sound-on_node f s h = h

sound-item : {n : ℕ} {X : Type 0} (s : Site) (o : Option X) (f : X → Site) → ((x : X) → o ≡ Some x → Sound n (f x).node) → Sound n s.node
    → Sound n (with_item o f s).node
sound-item s None f each h = h
sound-item s (Some x) f each h = each x refl

sound-cond : {n : ℕ} (b : Bool) (s t : Site) → Sound n s.node → Sound n t.node → Sound n (cond b s t).node
sound-cond true s t a b = a
sound-cond false s t a b = b

manned-on_active : (f : Active → Active) → ((it : Active) → IsManned it → IsManned (f it)) → (e : Eject) → MannedEject e
    → MannedEject (on_active f e)
manned-on_active f keep e m = go e.active refl m
  where
    go : (o : Option Active) → e.active ≡ o → IfSome o IsManned → MannedEject (with_item o (λ it. with_active (Some (f it)) e) e)
    go None is m = rw is tt
    go (Some it) is m = keep it m

sound-on_active : {n : ℕ} (v : Uid) (f : Active → Active) (s : Site) → ((it : Active) → IsManned it → IsManned (f it)) → Sound n s.node
    → Sound n (on_eject v (on_active f) s).node
sound-on_active v f s keep h = sound-on_eject v (on_active f) s (λ e is m. manned-on_active f keep e m) h

-- 2. Requests

left-unmade : (size : ℕ) (rs : List StoreRequest) → AllUnmade rs → HasLeft size rs
left-unmade size [] all = tt
left-unmade size (r ∷ rs) all = omega (arith, all.0)

sound-rest : (n size : ℕ) (rs : List StoreRequest) (es : List (Uid × Eject)) → IsSound n size rs es → IsSound n size (rest rs) es
sound-rest n size rs es h = record {
  in_order = h.in_order;
  of_node = h.of_node;
  manned = h.manned;
  there = go rs h.there;
  unmade = rest-unmade (rest rs) h.unmade;
  call_left = left-unmade size (rest rs) h.unmade;
}
  where
    go : (rs : List StoreRequest) → AllThere rs es → AllThere (rest rs) es
    go [] all = tt
    go (r ∷ rs) all = all.1

left-more : (size : ℕ) (rs : List StoreRequest) (new : StoreRequest) → new.made ≡ 0 → HasLeft size rs → HasLeft size (rs ++ new ∷ [])
left-more size [] new is left = omega (arith, is)
left-more size (r ∷ rs) new is left = left

sound-more : (n size : ℕ) (rs : List StoreRequest) (es : List (Uid × Eject)) (new : StoreRequest) → new.made ≡ 0
    → is_some (value_at uid_cmp new.uid es) ≡ true → IsSound n size rs es → IsSound n size (rs ++ new ∷ []) es
sound-more n size rs es new is there h = record {
  in_order = h.in_order;
  of_node = h.of_node;
  manned = h.manned;
  there = there-more rs new es there h.there;
  unmade = rest-more rs new is h.unmade;
  call_left = left-more size rs new is h.call_left;
}

left-without : (size : ℕ) (v : Uid) (rs : List StoreRequest) → AllUnmade (rest rs) → HasLeft size rs
    → HasLeft size (filter_map (dropped_of v) rs)
left-without size v [] all left = tt
left-without size v (r ∷ rs) all left = one (same_uid r.uid v) (r.made == 0)
  where
    one : (own unmade : Bool) → HasLeft size (cons_option (without_one own unmade r) (filter_map (dropped_of v) rs))
    one true true = left-unmade size (filter_map (dropped_of v) rs) (unmade-without v rs all)
    one true false = left
    one false unmade = left

sound-without : {n : ℕ} (v : Uid) (s : Site) → Sound n s.node → Sound n (on_node (without_requests v) s).node
sound-without v s h = sound-on_node (without_requests v) s (record {
  in_order = h.in_order;
  of_node = h.of_node;
  manned = h.manned;
  there = there-without v s.node.requests s.node.ejects h.there;
  unmade = rest-without v s.node.requests h.unmade;
  call_left = left-without s.node.size v s.node.requests h.unmade h.call_left;
})

-- one more device call of the first request, where another is left to it
sound-made : (n size : ℕ) (rs : List StoreRequest) (es : List (Uid × Eject)) (r : StoreRequest) → first rs ≡ Some r
    → r.made + 2 ≤ 2 * (size / 1024) + 4 → IsSound n size rs es → IsSound n size (more_made rs) es
sound-made n size [] es r is left h = absurd (cc is)
sound-made n size (x ∷ rs) es r is left h = record {
  in_order = h.in_order;
  of_node = h.of_node;
  manned = h.manned;
  there = h.there;
  unmade = h.unmade;
  call_left = let same : x ≡ r = cc is in omega (arith, left, ap (λ (y : StoreRequest). y.made) same);
}

-- 3. The parts of a turn

sound-tells : {n : ℕ} (v : Uid) (p : ℕ) (a : Answer) (s : Site) → Sound n s.node → Sound n (tells v p a s).node
sound-tells v p a s h = sound-on_active v (told p a) s (λ it m. manned-told p a it m) h

sound-turned_away : {n : ℕ} (v : Uid) (why : Status) (s : Site) → Sound n s.node → Sound n (turned_away v why s).node
sound-turned_away v why s h = sound-item s (eject_in s v) (λ e. on_traffic (all_replied why e.queued) (on_eject v (with_queued []) s))
    (λ e is. sound-on_traffic (all_replied why e.queued) (on_eject v (with_queued []) s)
    (sound-on_eject v (with_queued []) s (λ e is m. m) h)) h

sound-deactivated : {n : ℕ} (v : Uid) (s : Site) → Sound n s.node → Sound n (deactivated v s).node
sound-deactivated v s h = sound-item s (eject_in s v) _ (λ e is. sound-item s e.active _ (λ it is_it.
    sound-on_traffic (λ t. all_replied status.Dropped (running it.crew) (orphaned v t))
    (on_eject v (with_active None) (on_node (without_requests v) s))
    (sound-on_eject v (with_active None) (on_node (without_requests v) s) (λ e is m. tt) (sound-without v s h))) h) h

sound-gone : {n : ℕ} (v : Uid) (s : Site) → Sound n s.node → Sound n (gone_if_unkept v s).node
sound-gone v s h = sound-item s (eject_in s v) (λ e. cond (is_there e) s (turned_away v status.Gone s))
    (λ e is. sound-cond (is_there e) s (turned_away v status.Gone s) h (sound-turned_away v status.Gone s h)) h

sound-asks : {n : ℕ} (v : Uid) (p : ℕ) (c : EjectChange) (s : Site) → is_some (eject_in s v) ≡ true → Sound n s.node
    → Sound n (asks_store v p c s).node
sound-asks {n = n} v p c s is h = let t = on_eject v (on_active (on_crew (set_waits p outside))) s in
    sound-on_node (λ it. record it { requests = it.requests ++ record { uid = v; process = Some p; change = c; made = 0 } ∷ [] }) t
    (sound-more n t.node.size t.node.requests t.node.ejects (record { uid = v; process = Some p; change = c; made = 0 }) refl
    (there-on_eject v (on_active (on_crew (set_waits p outside))) s v is)
    (sound-on_active v (on_crew (set_waits p outside)) s (λ it m. manned-crew (set_waits p outside) (same-waits p outside) it m) h))

sound-checkpoints : {n : ℕ} (v : Uid) (p : ℕ) (bytes : List ℕ) (s : Site) → is_some (eject_in s v) ≡ true → Sound n s.node
    → Sound n (checkpoints v p bytes s).node
sound-checkpoints v p bytes s is h = sound-cond (nat_le (length bytes) BODY_LIMIT) (asks_store v p (body bytes) s)
    (tells v p (Code status.TooLarge) s)
    (sound-asks v p (body bytes) s is h) (sound-tells v p (Code status.TooLarge) s h)

sound-born : {n : ℕ} (v : Uid) (it : Active) (s : Site) → v.node ≡ n → IsManned it → Sound n s.node → Sound n (born v it s).node
unfolding on_node
sound-born {n = n} v it s number m h = record {
  in_order = order-put v grown s.node.ejects h.in_order;
  of_node = λ u is. was u (eq_by_cmp uid_cmp u v) refl (sym (ap is_some (put u)) ∙ is);
  manned = λ u e is. go u e (eq_by_cmp uid_cmp u v) refl (sym (put u) ∙ is);
  there = all-there s.node.requests s.node.ejects _ (λ u is. ap is_some (put u) ∙ some (eq_by_cmp uid_cmp u v) (eject_in s u) is) h.there;
  unmade = h.unmade;
  call_left = h.call_left;
}
  where
    grown : Eject
    grown = with_item (eject_in s v) (with_active (Some it)) (newborn it)

    put : (u : Uid) → eject_in (born v it s) u ≡ cond (eq_by_cmp uid_cmp u v) (Some grown) (eject_in s u)
    put u = find-put uid_cmp uid_cmp_total u v grown s.node.ejects

    manned-grown : (o : Option Eject) → MannedEject (with_item o (with_active (Some it)) (newborn it))
    manned-grown None = m
    manned-grown (Some e) = m

    some : (b : Bool) (o : Option Eject) → is_some o ≡ true → is_some (cond b (Some grown) o) ≡ true
    some true o is = refl
    some false o is = is

    was : (u : Uid) (b : Bool) → eq_by_cmp uid_cmp u v ≡ b → is_some (cond (eq_by_cmp uid_cmp u v) (Some grown) (eject_in s u)) ≡ true
        → u.node ≡ n
    was u true b is = ap (λ (x : Uid). x.node) (eq-same uid_cmp uid_cmp-IsAntisymmetric u v b) ∙ number
    was u false b is = h.of_node u (subst (λ c. is_some (cond c (Some grown) (eject_in s u)) ≡ true) b is)

    go : (u : Uid) (e : Eject) (b : Bool) → eq_by_cmp uid_cmp u v ≡ b → cond (eq_by_cmp uid_cmp u v) (Some grown) (eject_in s u) ≡ Some e
        → MannedEject e
    go u e true b same = subst (λ o. IfSome o MannedEject) (subst (λ c. cond c (Some grown) (eject_in s u) ≡ Some e) b same)
        (manned-grown (eject_in s v))
    go u e false b same = h.manned u e (subst (λ c. cond c (Some grown) (eject_in s u) ≡ Some e) b same)

sound-creates : {n : ℕ} (v : Uid) (p : ℕ) (t : Option Edentype) (made : Result Uid Status) (s : Site) → next_uid s ≡ made → s.number ≡ n
    → Sound n s.node → Sound n (creates v p t made s).node
sound-creates v p None made s is number h = h
sound-creates v p (Some t) (Ok new) s is number h = sound-tells v p (Made status.Ok (Some (full new)))
    (born new (fresh t (first_values t)) s)
    (sound-born new (fresh t (first_values t)) s (ap (λ (x : Uid). x.node) (next-following s new is) ∙ number)
    (manned-fresh t (first_values t)) h)
sound-creates v p (Some t) (Err why) s is number h = sound-tells v p (Made why None) s h

-- 4. A turn of a process

sound-effected : {n : ℕ} (reach : ℕ → Bool) (v : Uid) (p : ℕ) (i : Option Invocation) (t : Edentype) (vars : List Datum) (e : Effect)
    (s : Site) → is_some (eject_in s v) ≡ true → s.number ≡ n → Sound n s.node → Sound n (effected reach v p i t vars e s).node
sound-effected reach v p i t vars (effect.Return results) s is number h = sound-on_traffic (answers i results)
    (on_eject v (on_active (without_process p)) s) (sound-on_active v (without_process p) s (λ it m. manned-without p it m) h)
sound-effected reach v p i t vars effect.End s is number h = sound-on_active v (without_process p) s (λ it m. manned-without p it m) h
sound-effected reach v p i t vars effect.Checkpoint s is number h = sound-checkpoints v p (spelling (rep_of t vars)) s is h
sound-effected reach v p i t vars effect.Destroy s is number h = sound-asks v p removal s is h
sound-effected reach v p i t vars effect.Deactivate s is number h = sound-gone v (deactivated v s) (sound-deactivated v s h)
sound-effected reach v p i t vars (effect.Fault cause) s is number h = sound-turned_away v status.Dropped (deactivated v s)
    (sound-deactivated v s h)
sound-effected reach v p i t vars (effect.Create type_name) s is number h = sound-creates v p (type_of s.types type_name)
    (next_uid s) s refl number h
sound-effected reach v p i t vars (effect.Invoke target operation args) s is number h = let at_once = refused_at_once
    (reach target.uid.node) args in
    sound-on_traffic (λ t. with_call (next_call t) (Process v p) target operation args at_once t)
    (on_eject v (on_active (waits_or_told p at_once)) s)
    (sound-on_active v (waits_or_told p at_once) s (λ it m. manned-waits_or_told p at_once it m) h)
sound-effected reach v p i t vars (effect.Lock m) s is number h = sound-on_active v (on_crew (locked p m)) s
    (λ it x. manned-crew (locked p m) (same-locked p m) it x) h
sound-effected reach v p i t vars (effect.Leave m) s is number h = sound-on_active v (on_crew (left m)) s
    (λ it x. manned-crew (left m) (same-left m) it x) h
sound-effected reach v p i t vars (effect.Wait c) s is number h = sound-on_active v (on_crew (waited p c)) s
    (λ it x. manned-crew (waited p c) (same-waited p c) it x) h
sound-effected reach v p i t vars (effect.Signal c) s is number h = sound-on_active v (on_crew (signalled c)) s
    (λ it x. manned-crew (signalled c) (same-signalled c) it x) h
sound-effected reach v p i t vars effect.Yield s is number h = h

number-on_eject : (v : Uid) (f : Eject → Eject) (s : Site) → (on_eject v f s).number ≡ s.number
unfolding on_eject
number-on_eject v f s = refl

sound-process_turn : {n : ℕ} (reach : ℕ → Bool) (v : Uid) (p : ℕ) (s : Site) → s.number ≡ n → Sound n s.node
    → Sound n (process_turn reach v p s).node
sound-process_turn reach v p s number h = sound-item s (eject_in s v) _
    (λ e is. sound-item s e.active _ (λ it is_it. sound-item s (turn_of v it p) _ (λ t is_t.
    sound-effected reach v p (serving it p) it.kind t.vars t.effect (on_eject v (on_active (turned p t)) s)
    (there-on_eject v (on_active (turned p t)) s v (ap is_some is))
    (number-on_eject v (on_active (turned p t)) s ∙ number) (sound-on_active v (turned p t) s (λ it m. manned-turned p t it m) h)) h) h) h

-- 5. Deliveries, starts and crashes

sound-requested : {n : ℕ} (k : ℕ) (refused : Option Status) (s : Site) → Sound n s.node → Sound n (requested k refused s).node
sound-requested k (Some why) s h = sound-on_traffic (λ t. replied why [] k (taken k t)) s h
sound-requested k None s h = sound-item s (call_at s.traffic k) _ (λ c is.
    sound-on_eject c.target.uid (λ e. record e { queued = e.queued ++ k ∷ [] })
    (on_traffic (λ t. changed_call k (at_place held) (taken k t)) s) (λ e is m. m)
    (sound-on_traffic (λ t. changed_call k (at_place held) (taken k t)) s h)) h

sound-tells_asker : {n : ℕ} (a : Asker) (why : Status) (values : List Datum) (s : Site) → Sound n s.node
    → Sound n (tells_asker a why values s).node
sound-tells_asker (Shell name) why values s h = h
sound-tells_asker (Process v p) why values s h = sound-tells v p (Told why values) s h

sound-heard : {n : ℕ} (k : ℕ) (why : Status) (values : List Datum) (s : Site) → Sound n s.node → Sound n (heard k why values s).node
sound-heard k why values s h = sound-item s (call_at s.traffic k) _ (λ c is.
    sound-cond c.open_ (tells_asker c.asker why values (on_traffic (received k) s)) (on_traffic (received k) s)
    (sound-tells_asker c.asker why values (on_traffic (received k) s) (sound-on_traffic (received k) s h))
    (sound-on_traffic (received k) s h)) h

sound-start : {n : ℕ} (v : Uid) (k p : ℕ) (s : Site) → IsActiveAnd s v (λ e it. AllowsStart s.traffic k p e it) → Sound n s.node
    → Sound n (start v k p s).node
sound-start v k p s allowed h = sound-item s (call_at s.traffic k) _ (λ c is.
    sound-on_eject v (λ e. record (on_active (with_start s.traffic k p c) e) { queued = filter (λ j. not (j == k)) e.queued }) s
    (λ e at m. starts c e at m) h) h
  where
    numbered : (e : Eject) → eject_in s v ≡ Some e → IsSomeAnd e.active (λ it. AllowsStart s.traffic k p e it)
    numbered e at = subst (λ o. IsSomeAnd o (λ e. IsSomeAnd e.active (λ it. AllowsStart s.traffic k p e it))) at allowed

    go : (c : Call) (e : Eject) (o : Option Active) → e.active ≡ o → IsSomeAnd o (λ it. AllowsStart s.traffic k p e it)
        → IfSome o IsManned → IfSome (with_item o (λ it. with_active (Some (with_start s.traffic k p c it)) e) e).active IsManned
    go c e None is a m = absurd a
    go c e (Some it) is a m = manned-start s.traffic k p c it a.number m

    starts : (c : Call) (e : Eject) → eject_in s v ≡ Some e → MannedEject e
        → IfSome (on_active (with_start s.traffic k p c) e).active IsManned
    starts c e at m = go c e e.active refl (numbered e at) m

sound-each : (n size : ℕ) (rs : List StoreRequest) (es : List (Uid × Eject)) (f : Eject → Eject)
    → ((e : Eject) → MannedEject e → MannedEject (f e)) → IsSound n size rs es → IsSound n size rs (each_value f es)
sound-each n size rs es f keep h = record {
  in_order = order-each f es h.in_order;
  of_node = λ u is. h.of_node u (was (value_at uid_cmp u es) (sym (ap is_some (value-each u f es)) ∙ is));
  manned = λ u e is. go u e (value_at uid_cmp u es) refl (sym (value-each u f es) ∙ is);
  there = all-there rs es (each_value f es)
      (λ u is. ap is_some (value-each u f es) ∙ there-changed true f (value_at uid_cmp u es) is) h.there;
  unmade = h.unmade;
  call_left = h.call_left;
}
  where
    was : (o : Option Eject) → is_some (option_map f o) ≡ true → is_some o ≡ true
    was None is = is
    was (Some e) is = refl

    go : (u : Uid) (e : Eject) (o : Option Eject) → value_at uid_cmp u es ≡ o → option_map f (value_at uid_cmp u es) ≡ Some e
        → MannedEject e
    go u e None at same = absurd (let bad : None ≡ Some e = subst (λ o. option_map f o ≡ Some e) at same in cc bad)
    go u e (Some x) at same = subst (λ o. IfSome o MannedEject) (subst (λ o. option_map f o ≡ Some e) at same) (keep x (h.manned u x at))

sound-crashed : {n : ℕ} (s : Site) → Sound n s.node → Sound n (crashed s).node
sound-crashed {n = n} s h = let x = sound-each n s.node.size s.node.requests s.node.ejects fallen (λ e m. tt) h in
    sound-on_traffic (without_node s.number) (on_node down s)
    (sound-on_node down s (record {
      in_order = x.in_order;
      of_node = x.of_node;
      manned = x.manned;
      there = tt;
      unmade = tt;
      call_left = tt;
    }))

-- 6. The store

sound-settled : {n : ℕ} (p : Option Pick) (s : Site) → Sound n s.node → Sound n (settled p s).node
unfolding on_node
sound-settled None s h = h
sound-settled {n = n} (Some pick.Old) s h = sound-each n s.node.size s.node.requests s.node.ejects (settled_eject pick.Old) (λ e m. m) h
sound-settled {n = n} (Some pick.New) s h = sound-each n s.node.size s.node.requests s.node.ejects (settled_eject pick.New) (λ e m. m) h

sound-unsynced : {n : ℕ} (s : Site) → Sound n s.node → Sound n (unsynced s).node
sound-unsynced s h = sound-on_node (λ it. record it { synced = false }) s h

sound-ended : {n : ℕ} (r : StoreRequest) (why : Status) (s : Site) → Sound n s.node → Sound n (request_ended r why s).node
sound-ended {n = n} r why s h = go r.process
  where
    go : (p : Option ℕ) → Sound n (tells_code r.uid p why (on_node (λ it. record it { requests = rest it.requests }) s)).node
    go None = sound-on_node (λ it. record it { requests = rest it.requests }) s (sound-rest n s.node.size s.node.requests s.node.ejects h)
    go (Some p) = sound-tells r.uid p (Code why) (on_node (λ it. record it { requests = rest it.requests }) s)
        (sound-on_node (λ it. record it { requests = rest it.requests }) s (sound-rest n s.node.size s.node.requests s.node.ejects h))

sound-removed : {n : ℕ} (v : Uid) (c : EjectChange) (s : Site) → Sound n s.node → Sound n (removed c v s).node
sound-removed v (body bytes) s h = h
sound-removed v removal s h = sound-turned_away v status.Gone (deactivated v s) (sound-deactivated v s h)

sound-done : {n : ℕ} (r : StoreRequest) (s : Site) → Sound n s.node → Sound n (done r s).node
sound-done r s h = sound-removed r.uid r.change (request_ended r status.Ok s) (sound-ended r status.Ok s h)

sound-doubted : {n : ℕ} (r : StoreRequest) (s : Site) → Sound n s.node → Sound n (doubted r s).node
sound-doubted r s h = sound-on_eject r.uid (λ e. record e { doubt = Some r.change }) s (λ e is m. m) h

size-doubted : (r : StoreRequest) (s : Site) → (doubted r s).node.size ≡ s.node.size
unfolding on_eject
size-doubted r s = refl

sound-part : {n : ℕ} (r : StoreRequest) (s : Site) → first_request s.node ≡ Some r → r.made + 2 ≤ 2 * (s.node.size / 1024) + 4
    → Sound n s.node → Sound n (on_node (λ it. record it { requests = more_made it.requests }) (doubted r s)).node
sound-part {n = n} r s is left h = sound-on_node (λ it. record it { requests = more_made it.requests }) (doubted r s)
    (sound-made n (doubted r s).node.size (doubted r s).node.requests (doubted r s).node.ejects r (ap first (requests-doubted r s) ∙ is)
    (subst (λ size. r.made + 2 ≤ 2 * (size / 1024) + 4) (sym (size-doubted r s)) left) (sound-doubted r s h))

sound-stored : {n : ℕ} (r : StoreRequest) (s : Site) → Sound n s.node → Sound n (stored r s).node
sound-stored r s h = sound-on_node (λ it. record it { ledger = written_with s.layout r.change it.ledger })
    (on_eject r.uid (λ e. record e { kept = kept_of r.change; doubt = None }) s)
    (sound-on_eject r.uid (λ e. record e { kept = kept_of r.change; doubt = None }) s (λ e is m. m) h)

sound-worked : {n : ℕ} (w : Work) (r : StoreRequest) (how : RequestEnd) (p : Option Pick) (s : Site) → first_request s.node ≡ Some r
    → HasCallLeft (makes_own_call w) how r s.node → Sound n s.node → Sound n (worked w r how p s).node
sound-worked syncs r end.Part p s is left h = sound-on_node (λ it. record it { synced = true }) s h
sound-worked syncs r end.Done p s is left h = h
sound-worked syncs r end.Full p s is left h = h
sound-worked syncs r end.Fault p s is left h = sound-ended r status.StoreFault (unsynced s) (sound-unsynced s h)
sound-worked syncs r end.Stop p s is left h = sound-crashed s h
sound-worked reads r end.Part p s is left h = sound-settled p s h
sound-worked reads r end.Done p s is left h = h
sound-worked reads r end.Full p s is left h = h
sound-worked reads r end.Fault p s is left h = sound-ended r status.StoreFault (unsynced s) (sound-unsynced s h)
sound-worked reads r end.Stop p s is left h = sound-crashed s h
sound-worked unkept r how p s is left h = sound-done r s h
sound-worked without_room r how p s is left h = sound-ended r status.Full s h
sound-worked calls r end.Part p s is left h = sound-part r s is left h
sound-worked calls r end.Done p s is left h = sound-done r (stored r s) (sound-stored r s h)
sound-worked calls r end.Full p s is left h = h
sound-worked calls r end.Fault p s is left h = sound-ended r status.StoreFault (doubted r s) (sound-doubted r s h)
sound-worked calls r end.Stop p s is left h = sound-crashed (doubted r s) (sound-doubted r s h)

sound-store_turn : {n : ℕ} (how : RequestEnd) (p : Option Pick) (s : Site) (v : Uid)
    → IsSomeAnd (first_request s.node) (λ r. AllowsStore s v how p r) → Sound n s.node → Sound n (store_turn how p s).node
sound-store_turn how p s v allowed h = sound-item s (first_request s.node) _ (λ r is. sound-worked (work_of s r) r how p s is
    (subst (λ o. IsSomeAnd o (λ r. AllowsStore s v how p r)) is allowed).call_left h) h

-- 7. Activations and boots

sound-activated : {n : ℕ} (v : Uid) (how : StartEnd) (s : Site) → Sound n s.node → Sound n (activated v how s).node
sound-activated v start_end.Ok s h = sound-item s (eject_in s v) _
    (λ e is. sound-item s e.kept _ (λ bytes is_b. sound-item s (start_of s.types bytes v) _ (λ start is_s.
    sound-on_traffic (misfits_answered start.0 e.queued) _
    (sound-on_eject v _ s (λ old at m. manned-fresh start.0 (values_from start.0 start.1)) h)) h) h) h
sound-activated v start_end.Gone s h = sound-turned_away v status.Gone s h
sound-activated v start_end.Fault s h = sound-turned_away v status.StoreFault s h
sound-activated v start_end.Damaged s h = sound-turned_away v status.Damaged s h
sound-activated v start_end.Stop s h = sound-crashed s h

sound-activation : {n : ℕ} (v : Uid) (how : StartEnd) (p : Option Pick) (s : Site) → Sound n s.node
    → Sound n (activation_turn v how p s).node
sound-activation v how p s h = sound-activated v how (start_settled p s)
    (sound-cond (to_settle s) (settled p (unsynced s)) s (sound-settled p (unsynced s) (sound-unsynced s h)) h)

sound-booted : {n : ℕ} (s : Site) (e : ℕ) (how : BootEnd) (began : Bool) (it : Node) → Sound n it → Sound n (booted_node s e how began it)
sound-booted s e boot_end.Up began it h = h
sound-booted s e boot_end.DiskFault began it h = h
sound-booted s e boot_end.Stop began it h = h
sound-booted s e (boot_end.Damaged place) began it h = h
sound-booted s e boot_end.EpochsSpent began it h = h
sound-booted s e boot_end.Full began it h = h

sound-boot : {n : ℕ} (e : ℕ) (how : BootEnd) (p : Option Pick) (began : Bool) (s : Site) → Sound n s.node
    → Sound n (boot_turn e how p began s).node
sound-boot e how p began s h = sound-on_node (booted_node s e how began) (settled p s)
    (sound-booted s e how began (settled p s).node (sound-settled p s h))

-- 8. Every turn

sound-site_turn : (reach : ℕ → Bool) (e : Event) (s : Site) → AllowsAt s e → Sound s.number s.node
    → Sound s.number (site_turn reach e s).node
sound-site_turn reach (event.Request k a b refused) s allowed h = sound-requested k refused s h
sound-site_turn reach (event.Reply k a b name why values) s allowed h = sound-heard k why values s h
sound-site_turn reach (event.Activate v how p) s allowed h = sound-activation v how p s h
sound-site_turn reach (event.Start k v p) s allowed h = sound-start v k p s allowed h
sound-site_turn reach (event.Process v p said) s allowed h = sound-process_turn reach v p s refl h
sound-site_turn reach (event.Store v c how p) s allowed h = sound-store_turn how p s v allowed h
sound-site_turn reach (event.Boot n e how p began) s allowed h = sound-boot e how p began s h
sound-site_turn reach (event.Crash n) s allowed h = sound-crashed s h
sound-site_turn reach (event.Still n up) s allowed h = absurd allowed
sound-site_turn reach (event.Link a b joined) s allowed h = absurd allowed
sound-site_turn reach (event.Armed n what) s allowed h = absurd allowed
sound-site_turn reach (event.Made name why v) s allowed h = absurd allowed
sound-site_turn reach (event.Bound name kept) s allowed h = absurd allowed
sound-site_turn reach (event.Void name) s allowed h = absurd allowed
sound-site_turn reach (event.Asked k name at_once) s allowed h = absurd allowed
sound-site_turn reach event.Quiet s allowed h = absurd allowed
sound-site_turn reach event.Spent s allowed h = absurd allowed
sound-site_turn reach (event.Left names) s allowed h = absurd allowed

pub kept-sound : (w : World) (e : Event) → IsKeptAt Sound w e
kept-sound w e = record {
  turns = λ n it at place allowed h. sound-site_turn (reaches w n) e (site_of w n it) allowed h;
  crashes = λ n s is number h. sound-crashed s h;
  tellings = λ u p a s h. sound-tells u p a s h;
  births = λ u t s is on known h. sound-born u (fresh t (first_values t)) s (ap (λ (x : Uid). x.node) (next-following s u is))
      (manned-fresh t (first_values t)) h;
  clocks = λ n c it h. h;
}
