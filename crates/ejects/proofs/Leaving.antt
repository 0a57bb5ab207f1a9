-- An active part leaves the table.
use Rattle.std.proofs.Common.{◌≡◌, ℕ, Bool, true, false, cond, List, [], ◌∷◌, ◌++◌, Option, None, Some, refl, sym, ◌∙◌, ap, subst}
use Rattle.std.specs.Prelude.{is_some, filter_map}
use Rattle.std.specs.Option.{option_map}
use Rattle.std.specs.Ordering.{eq_by_cmp}
use Rattle.std.specs.FinMap.{FinMap, get, insert, remove, get-insert, get-remove}
use Rattle.std.proofs.lemmas.Cmp.{tied_itself}
use Rattle.capability.specs.declared.Uid.{Uid}
use Rattle.capability.proofs.Uids.{uid_cmp_total, uid_cmp-IsAntisymmetric}
use Rattle.eden_value.specs.declared.status.Status.{Status}
use Rattle.eden_value.specs.declared.status.Status.TheVariants as status
use Rattle.eden_model.specs.Map.{value_at, uid_cmp, same_uid}
use Rattle.eden_model.proofs.Laws.{eq-same}
use Rattle.eden_model.specs.Lines.{Distinct}
use Rattle.eden_model.specs.Crew.{Invocation, Process, running, call_of, serving_pairs}
use Rattle.eden_model.specs.Traffic.{Traffic, all_replied, orphaned}
use Rattle.eject_table.specs.Table.{Table, active_at, active_in, dropped, dropped_in, with_active}
use Rattle.epl_syntax.specs.Meaning.{types_in}
use Rattle.epl_syntax.specs.Rules.OfTypes.{TypeList}
use Rattle.invocation.specs.Mail.{Mail}
use Rattle.invocation.specs.Carries.{Carries}
use Rattle.active_part.specs.Body.{Body, calls_of}
use Rattle.ejects.specs.Parts.{Parts, queue_in, queue_of}
use Rattle.ejects.specs.Passive.{HoldsPassive}
use Rattle.active_part.specs.View.{body_of}
use Rattle.ejects.specs.View.{with_body}
use Rattle.active_part.specs.declared.part.Part.{Part}
use Rattle.ejects.specs.Replies.{AreOut, seconds, slept}
use Rattle.ejects.proofs.Replying.{out-after, distinct-first, distinct-second}

-- 1. Look-ups in the table

module _ (m : FinMap uid_cmp (Option Part)) (u : Uid) (a : Part) (at : active_in (get m u) ≡ Some a) where
  dropped-is : (stays : Bool) → dropped m u stays ≡ cond stays (insert m u None) (remove m u)
  dropped-is stays = ap (λ o. dropped_in o m u stays) at

  pub dropped-here : (stays : Bool) → get (dropped m u stays) u ≡ cond stays (Some None) None
  dropped-here true = ap (λ d. get d u) (dropped-is true) ∙ get-insert uid_cmp_total m u None u ∙ rw (tied_itself uid_cmp_total u) refl
  dropped-here false = ap (λ d. get d u) (dropped-is false) ∙ get-remove uid_cmp_total m u u ∙ rw (tied_itself uid_cmp_total u) refl

  pub dropped-other : (stays : Bool) (v : Uid) → same_uid v u ≡ false → get (dropped m u stays) v ≡ get m v
  dropped-other true v other = ap (λ d. get d v) (dropped-is true) ∙ get-insert uid_cmp_total m u None v ∙ rw other refl
  dropped-other false v other = ap (λ d. get d v) (dropped-is false) ∙ get-remove uid_cmp_total m u v ∙ rw other refl

pub flipped : (u v : Uid) → same_uid v u ≡ false → eq_by_cmp uid_cmp u v ≡ false
flipped u v other = go (eq_by_cmp uid_cmp u v) refl
  where
    go : (x : Bool) → eq_by_cmp uid_cmp u v ≡ x → x ≡ false
    go false is = refl
    go true is =
        let same : u ≡ v = eq-same uid_cmp uid_cmp-IsAntisymmetric u v is in
        let bad : true ≡ false = sym (rw (tied_itself uid_cmp_total u) refl) ∙ ap (λ w. eq_by_cmp uid_cmp w u) same ∙ other in
        absurd (cc bad)

-- what stands in the code's table, and the body that it is
abbrev pub body_in : TypeList → Option (Option Part) → Option (Option Body)
body_in ts o = option_map (option_map (body_of ts)) o

pub active-body : (ts : TypeList) (o : Option (Option Part)) (a : Part) → active_in o ≡ Some a
    → active_in (body_in ts o) ≡ Some (body_of ts a)
active-body ts None a is = absurd (let bad : None ≡ Some a = is in cc bad)
active-body ts (Some x) a is = ap (option_map (body_of ts)) is

pub active-other : (ts : TypeList) (o : Option (Option Part)) → active_in o ≡ None → active_in (body_in ts o) ≡ None
active-other ts None is = refl
active-other ts (Some x) is = ap (option_map (body_of ts)) is

abbrev pub parts_with : TypeList → Table Part → List (Uid × List ℕ) → Parts
parts_with ts t waiting = record {
  number = t.node;
  types = types_in ts;
  epoch = t.epoch;
  last_serial = t.last_serial;
  standing = λ v. body_in ts (get t.standings v);
  waiting = waiting;
}

-- the part in the table is the body in the parts
pub same-body : (ts : TypeList) (t : Table Part) (u : Uid) (a : Part) (b : Body) → Some a ≡ active_at t u
    → active_in (body_in ts (get t.standings u)) ≡ Some b → body_of ts a ≡ b
same-body ts t u a b at is =
    let both : Some (body_of ts a) ≡ Some b = sym (active-body ts (get t.standings u) a (sym at)) ∙ is in
    cc both

-- a part that is written in the table is written in the parts
pub part-written : (ts : TypeList) (t : Table Part) (waiting : List (Uid × List ℕ)) (u : Uid) (a : Part)
    → parts_with ts (with_active t u a) waiting ≡ with_body u (body_of ts a) (parts_with ts t waiting)
part-written ts t waiting u a = λ i. record {
  number = t.node;
  types = types_in ts;
  epoch = t.epoch;
  last_serial = t.last_serial;
  standing = λ v. each v i;
  waiting = waiting;
}
  where
    on : (b : Bool) (v : Uid) → body_in ts (cond b (Some (Some a)) (get t.standings v))
        ≡ cond b (Some (Some (body_of ts a))) (body_in ts (get t.standings v))
    on true v = refl
    on false v = refl

    each : (v : Uid) → body_in ts (get (with_active t u a).standings v) ≡ cond (same_uid v u) (Some (Some (body_of ts a)))
        (body_in ts (get t.standings v))
    each v = ap (body_in ts) (get-insert uid_cmp_total t.standings u (Some a) v) ∙ on (same_uid v u) v

-- the same, of a part that was changed
pub part-changed : (ts : TypeList) (t : Table Part) (waiting : List (Uid × List ℕ)) (u : Uid) (a new : Part) (b : Body)
    (f : Body → Body)
    → Some a ≡ active_at t u → active_in (body_in ts (get t.standings u)) ≡ Some b → body_of ts new ≡ f (body_of ts a)
    → parts_with ts (with_active t u new) waiting ≡ with_body u (f b) (parts_with ts t waiting)
part-changed ts t waiting u a new b f at is changed =
    part-written ts t waiting u new
    ∙ ap (λ y. with_body u y (parts_with ts t waiting))
    (changed ∙ ap f (same-body ts t u a b at is))

-- 2. The node without it

module _ (ts : TypeList) (t later : Table Part) (waits now : List (Uid × List ℕ)) (u : Uid) (a : Part) (stays : Bool) where
  pub left-passive : active_at t u ≡ Some a → later ≡ record t { standings = dropped t.standings u stays }
      → ((q : Uid) → value_at uid_cmp q now ≡ cond (eq_by_cmp uid_cmp u q) None (value_at uid_cmp q waits))
      → HoldsPassive u (parts_with ts t waits) (parts_with ts later now) [] stays
  left-passive at table waiting = record {
    only = record {
      node = record {
        number = ap (λ (t : Table Part). t.node) table;
        types = refl;
        epoch = ap (λ (t : Table Part). t.epoch) table;
        last_serial = ap (λ (t : Table Part). t.last_serial) table;
      };
      others = λ v other. record {
        standing = ap (body_in ts) (ap (λ (t : Table Part). get t.standings v) table ∙ dropped-other t.standings u a at stays v other);
        waiting = waiting v ∙ rw (flipped u v other) refl;
      };
    };
    none = active-other ts (get later.standings u) (ap active_in here ∙ none stays);
    queue = ap (λ o. queue_of o (value_at uid_cmp u now)) (active-other ts (get later.standings u) (ap active_in here ∙ none stays)) ∙ ap
        queue_in nothing;
    there = ap (λ o. is_some (body_in ts o)) here ∙ there stays;
  }
    where
      here : get later.standings u ≡ cond stays (Some None) None
      here = ap (λ (t : Table Part). get t.standings u) table ∙ dropped-here t.standings u a at stays

      nothing : value_at uid_cmp u now ≡ None
      nothing = waiting u ∙ rw (tied_itself uid_cmp_total u) refl

      none : (x : Bool) → active_in {A = Part} (cond x (Some None) None) ≡ None
      none true = refl
      none false = refl

      there : (x : Bool) → is_some (body_in ts (cond x (Some None) None)) ≡ x
      there true = refl
      there false = refl

-- 3. The node with its queue

module _ (ts : TypeList) (t later : Table Part) (waits now : List (Uid × List ℕ)) (u : Uid) (a : Part) (queued : List ℕ) where
  pub left-queued : active_at t u ≡ Some a → later ≡ record t { standings = dropped t.standings u true }
      → ((q : Uid) → value_at uid_cmp q now ≡ cond (eq_by_cmp uid_cmp u q) (Some queued) (value_at uid_cmp q waits))
      → HoldsPassive u (parts_with ts t waits) (parts_with ts later now) queued true
  left-queued at table waiting = record {
    only = record {
      node = record {
        number = ap (λ (t : Table Part). t.node) table;
        types = refl;
        epoch = ap (λ (t : Table Part). t.epoch) table;
        last_serial = ap (λ (t : Table Part). t.last_serial) table;
      };
      others = λ v other. record {
        standing = ap (body_in ts) (ap (λ (t : Table Part). get t.standings v) table ∙ dropped-other t.standings u a at true v other);
        waiting = waiting v ∙ rw (flipped u v other) refl;
      };
    };
    none = active-other ts (get later.standings u) (ap active_in here);
    queue = ap (λ o. queue_of o (value_at uid_cmp u now)) (active-other ts (get later.standings u) (ap active_in here)) ∙ ap queue_in kept;
    there = ap (λ o. is_some (body_in ts o)) here;
  }
    where
      here : get later.standings u ≡ Some None
      here = ap (λ (t : Table Part). get t.standings u) table ∙ dropped-here t.standings u a at true

      kept : value_at uid_cmp u now ≡ Some queued
      kept = waiting u ∙ rw (tied_itself uid_cmp_total u) refl

-- 4. What ran and what was queued

pub pairs-run : (ps : List (ℕ × Process)) → seconds (serving_pairs ps) ≡ filter_map call_of ps
pairs-run [] = refl
pairs-run (p ∷ ps) = go (p.1).serves refl (pairs-run ps)
  where
    go : (o : Option Invocation) → (p.1).serves ≡ o → seconds (serving_pairs ps) ≡ filter_map call_of ps
        → seconds (serving_pairs (p ∷ ps)) ≡ filter_map call_of (p ∷ ps)
    go None is h = rw is h
    go (Some i) is h = rw is (ap (λ l. i.call ∷ l) h)

module _ (u : Uid) (b : Body) (m orphans halfway later : Mail) where
  running-answered : (pairs : List (ℕ × ℕ)) → pairs ≡ serving_pairs b.crew.crew.processes
      → ((t : Traffic) → Carries m t → Carries orphans (orphaned u t))
      → ((t : Traffic) → Carries orphans t → AreOut t (seconds pairs) → Distinct (seconds pairs)
      → Carries halfway (all_replied status.Dropped (seconds pairs) t))
      → (t : Traffic) → Carries m t → AreOut t (running b.crew.crew) → Distinct (running b.crew.crew ++ calls_of b.crew.queued)
      → Carries halfway (all_replied status.Dropped (running b.crew.crew) (orphaned u t))
  running-answered pairs are orphan first t carries out_runs once =
      let runs : seconds pairs ≡ running b.crew.crew = ap seconds are ∙ pairs-run b.crew.crew.processes in
      subst (λ ks. Carries halfway (all_replied status.Dropped ks (orphaned u t))) runs (first (orphaned u t) (orphan t carries)
      (subst (AreOut t) (sym runs) out_runs)
      (subst Distinct (sym runs) (distinct-first (running b.crew.crew) (calls_of b.crew.queued) once)))

  -- the queue is answered besides
  pub all-answered : (why : Status) (pairs : List (ℕ × ℕ)) (queued : List ℕ) → pairs ≡ serving_pairs b.crew.crew.processes
      → queued ≡ calls_of b.crew.queued
      → ((t : Traffic) → Carries m t → Carries orphans (orphaned u t))
      → ((t : Traffic) → Carries orphans t → AreOut t (seconds pairs) → Distinct (seconds pairs)
      → Carries halfway (all_replied status.Dropped (seconds pairs) t))
      → ((t : Traffic) → Carries halfway t → AreOut t queued → Distinct queued → Carries later (all_replied why queued t))
      → (t : Traffic) → Carries m t → AreOut t (running b.crew.crew) → AreOut t (calls_of b.crew.queued)
      → Distinct (running b.crew.crew ++ calls_of b.crew.queued)
      → Carries later (all_replied why (calls_of b.crew.queued) (all_replied status.Dropped (running b.crew.crew) (orphaned u t)))
  all-answered why pairs queued are is orphan first second t carries out_runs out_queued once =
      let one = running-answered pairs are orphan first t carries out_runs once in
      let out = out-after status.Dropped (running b.crew.crew) (calls_of b.crew.queued) (orphaned u t) once out_queued in
      let two = second (all_replied status.Dropped (running b.crew.crew) (orphaned u t)) one
      (subst (AreOut (all_replied status.Dropped (running b.crew.crew) (orphaned u t))) (sym is) out)
      (subst Distinct (sym is) (distinct-second (running b.crew.crew) (calls_of b.crew.queued) once)) in
      subst (λ ks. Carries later (all_replied why ks (all_replied status.Dropped (running b.crew.crew) (orphaned u t)))) is two

  pub slept-with : (pairs : List (ℕ × ℕ)) → pairs ≡ serving_pairs b.crew.crew.processes
      → ((t : Traffic) → Carries m t → Carries orphans (orphaned u t))
      → ((t : Traffic) → Carries orphans t → AreOut t (seconds pairs) → Distinct (seconds pairs)
      → Carries halfway (all_replied status.Dropped (seconds pairs) t))
      → (t : Traffic) → Carries m t → AreOut t (running b.crew.crew) → AreOut t (calls_of b.crew.queued)
      → Distinct (running b.crew.crew ++ calls_of b.crew.queued)
      → Carries halfway (slept u true b t)
  slept-with pairs are orphan first t carries out_runs out_queued once = running-answered pairs are orphan first t carries out_runs once

  pub slept-without : (pairs : List (ℕ × ℕ)) (queued : List ℕ) → pairs ≡ serving_pairs b.crew.crew.processes
      → queued ≡ calls_of b.crew.queued
      → ((t : Traffic) → Carries m t → Carries orphans (orphaned u t))
      → ((t : Traffic) → Carries orphans t → AreOut t (seconds pairs) → Distinct (seconds pairs)
      → Carries halfway (all_replied status.Dropped (seconds pairs) t))
      → ((t : Traffic) → Carries halfway t → AreOut t queued → Distinct queued → Carries later (all_replied status.Gone queued t))
      → (t : Traffic) → Carries m t → AreOut t (running b.crew.crew) → AreOut t (calls_of b.crew.queued)
      → Distinct (running b.crew.crew ++ calls_of b.crew.queued)
      → Carries later (slept u false b t)
  slept-without = all-answered status.Gone
