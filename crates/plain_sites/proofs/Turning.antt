-- Turns of processes: what comes of them to their processes, and what their effects change of the site.
use Rattle.std.proofs.Common.{◌≡◌, ◌∙◌, ◌<◌, ◌≤◌, ℕ, Bool, true, false, cond, List, Option, None, Some, refl, sym, ap, subst}
use Rattle.std.proofs.Common.{arith, is_some, length, nat_le, IfSome, IsSomeAnd, Ok}
use Rattle.std.proofs.lemmas.Bool.Decides.{nat_tests}
use Rattle.std.specs.Option.{option_map}
use Rattle.std.specs.FinMap.Entries.{find-put}
use Rattle.std.specs.Prelude.{◌↔◌, IsTrue}
use Rattle.std.specs.Ordering.{nat_cmp, eq_by_cmp}
use Rattle.capability.specs.Capability.{full}
use Rattle.capability.specs.declared.Cap.{Cap}
use Rattle.capability.specs.declared.TheConstants.{BODY_LIMIT}
use Rattle.capability.specs.declared.Uid.{Uid}
use Rattle.capability.proofs.Uids.{uid_cmp_total, uid_cmp-IsAntisymmetric}
use Rattle.eden_value.specs.Datum.{Datum}
use Rattle.eden_value.specs.declared.status.Status.{Status}
use Rattle.eden_value.specs.declared.status.Status.TheVariants as status
use Rattle.eden_model.specs.Crew.{Invocation, Process as Worker, Runs, nothing, outside, set_waits}
use Rattle.eden_model.specs.declared.Asker.TheVariants.{Eject as Process}
use Rattle.eden_model.specs.Map.{changed_at, uid_cmp, value_at, with_item}
use Rattle.eden_model.specs.Traffic.{Traffic, next_call, with_call}
use Rattle.eden_model.proofs.Laws.{eq-same}
use Rattle.epl_syntax.specs.declared.effect.Effect.{Effect}
use Rattle.epl_syntax.specs.declared.effect.Effect.TheVariants as effect
use Rattle.epl_syntax.specs.declared.effect.Answer.TheVariants.{Created as Made}
use Rattle.epl_syntax.specs.Edentype.{Edentype}
use Rattle.epl_syntax.specs.Meaning as meaning
use Rattle.epl_syntax.specs.Meaning.{Turned}
use Rattle.epl_syntax.specs.Rules.OfTypes.{TypeList}
use Rattle.history_laws.proofs.Creations.{next-active}
use Rattle.history_laws.proofs.Frame.{eject-on_eject}
use Rattle.history_laws.proofs.Ordered.{order-changed, order-put}
use Rattle.history_laws.proofs.SiteParts.{eject-here}
use Rattle.active_part.specs.Bodies.{turned_body}
use Rattle.active_part.specs.Body.{active_of, calls_of}
use Rattle.active_part.specs.View.{body_of}
use Rattle.active_part.specs.declared.part.Part.{Part}
use Rattle.journal.specs.EjectChange.{EjectChange}
use Rattle.journal.specs.Ejects.{born, fresh, newborn, next_uid, on_active, on_crew, tells, with_active}
use Rattle.journal.specs.FitTurns.{TurnsAreFit}
use Rattle.journal.specs.Processes as processes
use Rattle.journal.specs.Processes.{AllowsTurn, process_turn, serving, shown_of, turn_of, turned, worker_at}
use Rattle.journal.specs.Sites.{InOrder, IsManned, IsSoundSite}
use Rattle.journal.specs.Step.{IsActiveAnd}
use Rattle.journal.specs.World.{Active, Eject, Site, Task, eject_in, on_eject, on_node, on_traffic}
use Rattle.journal.specs.declared.event.Shown.{Shown}
use Rattle.journal.specs.declared.event.Shown.TheVariants as shown
use Rattle.plain_ejects.specs.declared.PlainEject.{PlainEject}
use Rattle.plain_ejects.specs.View.{change_of, eject_of}
use Rattle.plain_sites.specs.Turns.{HasNewUid, IsRunning, MayCome, RunsAt, answered, come}
use Rattle.plain_sites.proofs.Sites.{made, made-same}
use Rattle.plain_stores.specs.declared.PlainNode.{PlainNode}
use Rattle.plain_stores.specs.View.{ejects_of, node_of, site_of, with_request}

-- 1. The active part of an Eject as the code has it

-- P holds of the part where it holds of the active part that it is
pub part-and : (ts : TypeList) (e : PlainEject) (it : Active) (P : Active → Type 0) → (eject_of ts e).active ≡ Some it → P it
    → IsSomeAnd e.part (λ a. P (active_of (body_of ts a)))
part-and ts e it P is holds = go e.part is
  where
    go : (o : Option Part) → option_map (λ (q : Part). active_of (body_of ts q)) o ≡ Some it
        → IsSomeAnd o (λ a. P (active_of (body_of ts a)))
    go None is = absurd (cc is)
    go (Some q) is = let same : active_of (body_of ts q) ≡ it = cc is in subst P (sym same) holds

pub part-if : (ts : TypeList) (e : PlainEject) (it : Active) (P : Active → Type 0) → (eject_of ts e).active ≡ Some it → P it
    → IfSome e.part (λ a. P (active_of (body_of ts a)))
part-if ts e it P is holds = go e.part is
  where
    go : (o : Option Part) → option_map (λ (q : Part). active_of (body_of ts q)) o ≡ Some it
        → IfSome o (λ a. P (active_of (body_of ts a)))
    go None is = tt
    go (Some q) is = let same : active_of (body_of ts q) ≡ it = cc is in subst P (sym same) holds

pub part-back : (ts : TypeList) (e : PlainEject) (P : Active → Type 0) → IsSomeAnd (eject_of ts e).active P
    → IsSomeAnd e.part (λ a. P (active_of (body_of ts a)))
part-back ts e P holds = go e.part holds
  where
    go : (o : Option Part) → IsSomeAnd (option_map (λ (q : Part). active_of (body_of ts q)) o) P
        → IsSomeAnd o (λ a. P (active_of (body_of ts a)))
    go None holds = holds
    go (Some q) holds = holds

pub and-part : (ts : TypeList) (e : PlainEject) (P : Active → Type 0) → IsSomeAnd e.part (λ a. P (active_of (body_of ts a)))
    → IsSomeAnd (eject_of ts e).active P
and-part ts e P holds = go e.part holds
  where
    go : (o : Option Part) → IsSomeAnd o (λ a. P (active_of (body_of ts a)))
        → IsSomeAnd (option_map (λ (q : Part). active_of (body_of ts q)) o) P
    go None holds = holds
    go (Some q) holds = holds

pub some-and : {X : Type 0} (o : Option X) (x : X) (P : X → Type 0) → o ≡ Some x → P x → IsSomeAnd o P
some-and o x P is holds = subst (λ y. IsSomeAnd y P) (sym is) holds

pub if-and : {X : Type 0} (o : Option X) (x : X) (P : X → Type 0) → IfSome o P → o ≡ Some x → P x
if-and o x P holds is = subst (λ y. IfSome y P) is holds

pub if-some : {X : Type 0} {P Q : X → Type 0} (o : Option X) → ((x : X) → P x → Q x) → IfSome o P → IfSome o Q
if-some None f h = tt
if-some (Some x) f h = f x h

-- what is the same where o is there
pub both-ways : (b : Bool) (P Q : Type 0) → ((b ≡ true) ↔ P) → (P → Q) → (Q → P) → (b ≡ true) ↔ Q
both-ways b P Q h there back = (λ is. there (h.0 is), λ q. h.1 (back q))

pub not-run : (b : Bool) (P : Type 0) → (IsTrue b ↔ P) → b ≡ false → P → ⊥
not-run b P both is holds = let bad : false ≡ true = sym is ∙ both.1 holds in cc bad

-- the active part is that of the part
pub same-active : (ts : TypeList) (e : PlainEject) (q : Part) (a : Active) → e.part ≡ Some q → (eject_of ts e).active ≡ Some a
    → active_of (body_of ts q) ≡ a
same-active ts e q a is active =
    let both : Some (active_of (body_of ts q)) ≡ Some a =
    sym (ap (option_map (λ (x : Part). active_of (body_of ts x))) is) ∙ active in cc both

-- the Eject behind a turn of its active part
pub taken-as : (ts : TypeList) (e : PlainEject) (q new : Part) (p : ℕ) (t : Turned) → e.part ≡ Some q
    → body_of ts new ≡ turned_body p t (body_of ts q)
    → eject_of ts (record e { part = Some new }) ≡ on_active (turned p t) (eject_of ts e)
taken-as ts e q new p t is took =
    ap (λ b. record {
      active = Some (active_of b);
      queued = calls_of b.crew.queued;
      kept = e.kept;
      doubt = option_map change_of e.doubt;
    }) took
    ∙ sym (ap (λ o. on_active (turned p t) (eject_of ts (record e { part = o }))) is)

-- 2. An Eject among those of a node

-- the one that is found is the one that runs
pub same-eject : (es : List (Uid × Eject)) (u : Uid) (p : ℕ) (e x : Eject) (it : Active) → RunsAt es u p e it
    → value_at uid_cmp u es ≡ Some x → x.active ≡ Some it
same-eject es u p e x it h found =
    let same : e ≡ x = let both : Some e ≡ Some x = sym h.is_there ∙ found in cc both in
    ap (λ (y : Eject). y.active) (sym same) ∙ h.is_active

pub not-there : (es : List (Uid × Eject)) (u : Uid) (p : ℕ) (e : Eject) (it : Active) → RunsAt es u p e it
    → value_at uid_cmp u es ≡ None → ⊥
not-there es u p e it h none = let bad : Some e ≡ None = sym h.is_there ∙ none in cc bad

pub is-running : (es : List (Uid × Eject)) (u : Uid) (p : ℕ) (x : Eject) → value_at uid_cmp u es ≡ Some x
    → IsSomeAnd x.active (λ it. Runs it.crew p) → IsRunning es u p
is-running es u p x found runs = subst (λ o. IsSomeAnd o (λ e. IsSomeAnd e.active (λ it. Runs it.crew p))) (sym found) runs

pub runs-found : (es : List (Uid × Eject)) (u : Uid) (p : ℕ) (x : Eject) → value_at uid_cmp u es ≡ Some x → IsRunning es u p
    → IsSomeAnd x.active (λ it. Runs it.crew p)
runs-found es u p x found runs = subst (λ o. IsSomeAnd o (λ e. IsSomeAnd e.active (λ it. Runs it.crew p))) found runs

pub runs-nowhere : (es : List (Uid × Eject)) (u : Uid) (p : ℕ) → value_at uid_cmp u es ≡ None → IsRunning es u p → ⊥
runs-nowhere es u p none runs = subst (λ o. IsSomeAnd o (λ e. IsSomeAnd e.active (λ it. Runs it.crew p))) none runs

-- 3. The site behind a change of an Eject

pub on_eject-as : (ts : TypeList) (n : PlainNode) (t : Traffic) (u : Uid) (f : Eject → Eject) (es : List (Uid × Eject))
    → es ≡ changed_at uid_cmp u f (ejects_of ts n.ejects.items)
    → made ts n.number (record (node_of ts n) { ejects = es }) t ≡ on_eject u f (site_of ts t n)
unfolding on_eject
on_eject-as ts n t u f es is = ap (λ l. made ts n.number (record (node_of ts n) { ejects = l }) t) is

-- 4. Calls

-- the call that is answered, by the invocation
pub answers-some : (i : Option Invocation) (k : ℕ) (results : List Datum) (t : Traffic) → Some k ≡ option_map (λ (j : Invocation). j.call) i
    → answered results k t ≡ processes.answers i results t
answers-some None k results t is = absurd (cc is)
answers-some (Some j) k results t is = let same : k ≡ j.call = cc is in ap (λ n. answered results n t) same

pub answers-none : (i : Option Invocation) (results : List Datum) (t : Traffic) → None ≡ option_map (λ (j : Invocation). j.call) i
    → t ≡ processes.answers i results t
answers-none None results t is = refl
answers-none (Some j) results t is = absurd (cc is)

pub return-some : (i : Option Invocation) (k : ℕ) → Some k ≡ option_map (λ (j : Invocation). j.call) i
    → shown.Return k ≡ processes.shown_return i
return-some None k is = absurd (cc is)
return-some (Some j) k is = let same : k ≡ j.call = cc is in ap (λ n. shown.Return n) same

pub return-none : (i : Option Invocation) → None ≡ option_map (λ (j : Invocation). j.call) i → shown.End ≡ processes.shown_return i
return-none None is = refl
return-none (Some j) is = absurd (cc is)

-- the site behind a return
pub returned-as : (ts : TypeList) (n : PlainNode) (t new : Traffic) (u : Uid) (f : Eject → Eject) (g : Traffic → Traffic)
    (es : List (Uid × Eject)) → es ≡ changed_at uid_cmp u f (ejects_of ts n.ejects.items) → new ≡ g t
    → made ts n.number (record (node_of ts n) { ejects = es }) new ≡ on_traffic g (on_eject u f (site_of ts t n))
unfolding on_eject on_traffic
returned-as ts n t new u f g es is traffic =
    made-same ts n.number n.number (record (node_of ts n) { ejects = es }) _ new (g t) refl
    (ap (λ l. record (node_of ts n) { ejects = l }) is) traffic

-- the site behind a request to the store
pub asked-as : (ts : TypeList) (n m k : PlainNode) (t : Traffic) (u : Uid) (p : ℕ) (change : EjectChange)
    → site_of ts t m ≡ on_eject u (on_active (on_crew (set_waits p outside))) (site_of ts t n) → k.number ≡ m.number
    → node_of ts k ≡ with_request u p change (node_of ts m) → site_of ts t k ≡ processes.asks_store u p change (site_of ts t n)
unfolding on_node
asked-as ts n m k t u p change mid number node =
    made-same ts k.number m.number (node_of ts k) (with_request u p change (node_of ts m)) t t number node refl
    ∙ ap (on_node (with_request u p change)) mid

-- the site behind a call
pub invoked-as : (ts : TypeList) (n m : PlainNode) (t new : Traffic) (u : Uid) (p k : ℕ) (target : Cap) (name : List ℕ) (args : List Datum)
    (once at_once : Option Status)
    → site_of ts t m ≡ on_eject u (on_active (processes.waits_or_told p once)) (site_of ts t n)
    → new ≡ with_call k (Process u p) target name args once t → k ≡ next_call t → once ≡ at_once
    → site_of ts new m ≡ processes.invokes u p target name args at_once (site_of ts t n)
unfolding on_eject on_traffic
invoked-as ts n m t new u p k target name args once at_once mid calls number same =
    ap (λ (x : Site). record x { traffic = new }) mid
    ∙ (ap (λ w. record (on_eject u (on_active (processes.waits_or_told p once)) (site_of ts t n)) { traffic = w })
    (calls ∙ ap (λ j. with_call j (Process u p) target name args once t) number)
    ∙ ap (λ o. processes.invokes u p target name args o (site_of ts t n)) same)

-- the site behind a creation, whose maker is told
pub runs-born : (s : Site) (u v : Uid) (p : ℕ) (e : Eject) (it a : Active) → RunsAt s.node.ejects u p e it → eject_in s v ≡ None
    → RunsAt (born v a s).node.ejects u p e it
unfolding on_node
runs-born s u v p e it a h none = record {
  in_order = order-put v _ s.node.ejects h.in_order;
  is_there = find-put uid_cmp uid_cmp_total u v _ s.node.ejects ∙ go (eq_by_cmp uid_cmp u v) refl;
  is_active = h.is_active;
  runs = h.runs;
}
  where
    go : (b : Bool) → eq_by_cmp uid_cmp u v ≡ b
        → cond b (Some (with_item (eject_in s v) (with_active (Some a)) (newborn a))) (value_at uid_cmp u s.node.ejects) ≡ Some e
    go true tied = absurd (let same : u ≡ v = eq-same uid_cmp uid_cmp-IsAntisymmetric u v tied in
        let bad : Some e ≡ None = sym h.is_there ∙ (ap (λ w. value_at uid_cmp w s.node.ejects) same ∙ none) in cc bad)
    go false tied = h.is_there

pub created-as : (s mid new : Site) (u v : Uid) (p : ℕ) (t : Edentype) (a : Active) (cap : Cap) → mid ≡ born v a s
    → a ≡ fresh t (meaning.first_values t) → new ≡ tells u p (Made status.Ok (Some cap)) mid → cap ≡ full v → Ok v ≡ next_uid s
    → new ≡ processes.creates u p (Some t) (next_uid s) s
created-as s mid new u v p t a cap made_so fresh_so told_so cap_so next =
    told_so ∙ (ap (tells u p (Made status.Ok (Some cap))) (made_so ∙ ap (λ y. born v y s) fresh_so)
    ∙ (ap (λ c. tells u p (Made status.Ok (Some c)) (born v (fresh t (meaning.first_values t)) s)) cap_so
    ∙ ap (λ r. processes.creates u p (Some t) r s) next))

-- 5. Limits

pub within-limit : (bytes : List ℕ) (X : Type 0) (x y : X) → length bytes ≤ BODY_LIMIT → cond (nat_le (length bytes) BODY_LIMIT) x y ≡ x
within-limit bytes X x y h = let e : nat_le (length bytes) BODY_LIMIT ≡ true = grind (arith, nat_tests, h) in rw e refl

pub past-limit : (bytes : List ℕ) (X : Type 0) (x y : X) → BODY_LIMIT < length bytes → cond (nat_le (length bytes) BODY_LIMIT) x y ≡ y
past-limit bytes X x y h = let e : nat_le (length bytes) BODY_LIMIT ≡ false = grind (arith, nat_tests, h) in rw e refl

-- 6. What a turn is

-- the site behind the turn, before its effect
abbrev pub behind : Uid → ℕ → Turned → Site → Site
behind u p t s = on_eject u (on_active (turned p t)) s

active-turned : (p : ℕ) (t : Turned) (e : Eject) (it : Active) → e.active ≡ Some it
    → (on_active (turned p t) e).active ≡ Some (turned p t it)
active-turned p t e it is = ap (λ o. (with_item o (λ (a : Active). with_active (Some (turned p t a)) e) e).active) is

pub runs-behind : (s : Site) (u : Uid) (p : ℕ) (t : Turned) (e : Eject) (it : Active) → RunsAt s.node.ejects u p e it
    → RunsAt (behind u p t s).node.ejects u p (on_active (turned p t) e) (turned p t it)
unfolding on_eject
runs-behind s u p t e it h = record {
  in_order = order-changed u (on_active (turned p t)) s.node.ejects h.in_order;
  is_there = eject-here u (on_active (turned p t)) s e h.is_there;
  is_active = active-turned p t e it h.is_active;
  runs = h.runs;
}

new-behind : (s : Site) (u v : Uid) (f : Eject → Eject) → eject_in s v ≡ None → eject_in (on_eject u f s) v ≡ None
new-behind s u v f none = eject-on_eject u v f s ∙ go (eq_by_cmp uid_cmp v u) (eject_in s v) none
  where
    go : (b : Bool) (o : Option Eject) → o ≡ None → cond b (option_map f o) o ≡ None
    go true None none = refl
    go true (Some e) none = absurd (cc none)
    go false o none = none

types-behind : (s : Site) (u : Uid) (f : Eject → Eject) → (on_eject u f s).types ≡ s.types
unfolding on_eject
types-behind s u f = refl

calls-behind : (s : Site) (u : Uid) (f : Eject → Eject) → (on_eject u f s).traffic ≡ s.traffic
unfolding on_eject
calls-behind s u f = refl

-- what its effect asks of the site behind it
pub comes : (s : Site) (u : Uid) (p : ℕ) (t : Turned) (e : Eject) (it : Active) → RunsAt s.node.ejects u p e it → HasNewUid s
    → TurnsAreFit s → turn_of u it p ≡ Some t
    → MayCome (behind u p t s) u p (on_active (turned p t) e) (turned p t it) t.effect
comes s u p t e it h new fit turns = record {
  runs = runs-behind s u p t e it h;
  is_new = λ v next. new-behind s u v (on_active (turned p t))
      (new v (sym (next-active u (turned p t) s h.in_order) ∙ next));
  known = subst (λ types. processes.CreatesKnown types t.effect) (sym (types-behind s u (on_active (turned p t))))
      (fit.known u e it p t h.is_there h.is_active turns);
  may_step = fit.steps u e it p t h.is_there h.is_active h.runs turns;
}

-- what is shown is by the site before it
pub shown-behind : (s : Site) (u : Uid) (f : Active → Active) (i : Option Invocation) (e : Effect) → InOrder s.node.ejects
    → shown_of (on_eject u (on_active f) s) i e ≡ shown_of s i e
shown-behind s u f i (effect.Return results) h = refl
shown-behind s u f i effect.Checkpoint h = refl
shown-behind s u f i effect.Deactivate h = refl
shown-behind s u f i effect.Destroy h = refl
shown-behind s u f i (effect.Create type_name) h = ap processes.shown_creation (next-active u f s h)
shown-behind s u f i (effect.Lock m) h = refl
shown-behind s u f i (effect.Leave m) h = refl
shown-behind s u f i (effect.Wait c) h = refl
shown-behind s u f i (effect.Signal c) h = refl
shown-behind s u f i effect.Yield h = refl
shown-behind s u f i effect.End h = refl
shown-behind s u f i (effect.Fault cause) h = refl
shown-behind s u f i (effect.Invoke target operation args) h =
    ap (λ t. shown.Invoke (next_call t)) (calls-behind s u (on_active f))

-- the whole turn
pub whole-turn : (reach : ℕ → Bool) (s : Site) (u : Uid) (p : ℕ) (t : Turned) (e : Eject) (it : Active) → RunsAt s.node.ejects u p e it
    → turn_of u it p ≡ Some t
    → come reach u p (turned p t it) t.effect (behind u p t s) ≡ process_turn reach u p s
whole-turn reach s u p t e it h turns =
    sym (ap (λ o. with_item o (λ x. with_item x.active (λ a. processes.active_turn reach u p a s) s) s) h.is_there
    ∙ ap (λ o. with_item o (λ a. processes.active_turn reach u p a s) s) h.is_active
    ∙ ap (λ o. with_item o (λ x. processes.turn_taken reach u p it x s) s) turns)

-- 7. A process that runs has a turn

-- a process that runs of an Eject that is active
pub record Running (s : Site) (u : Uid) (p : ℕ) : Type 0 where
  pub eject : Eject
  pub part : Active
  pub runs : RunsAt s.node.ejects u p eject part
  pub worker : Worker
  pub at : worker_at part p ≡ Some worker
  pub ready : worker.waits ≡ nothing
  pub turn : Turned
  pub turns : turn_of u part p ≡ Some turn

-- what it waits for
worker-of : (it : Active) (p : ℕ) → Runs it.crew p → (q : Worker) × (worker_at it p ≡ Some q) × (q.waits ≡ nothing)
worker-of it p runs = go (worker_at it p) refl runs
  where
    go : (o : Option Worker) → worker_at it p ≡ o → option_map (λ (q : Worker). q.waits) o ≡ Some nothing
        → (q : Worker) × (worker_at it p ≡ Some q) × (q.waits ≡ nothing)
    go None at waits = absurd (cc waits)
    go (Some q) at waits = (q, at, cc waits)

abbrev turn_by : Uid → Active → Option Task → Option Turned
turn_by u it o = with_item o (λ x. Some (meaning.turn it.kind it.vars x.rest x.answer u)) None

turn-there : (u : Uid) (it : Active) (p : ℕ) (q : Worker) → IsManned it → worker_at it p ≡ Some q → (t : Turned) × (turn_of u it p ≡ Some t)
turn-there u it p q manned at = go (value_at nat_cmp p it.tasks) refl (manned.tasked p (ap is_some at))
  where
    go : (o : Option Task) → value_at nat_cmp p it.tasks ≡ o → is_some o ≡ true → (t : Turned) × (turn_of u it p ≡ Some t)
    go None is some = absurd (cc some)
    go (Some x) is some = (meaning.turn it.kind it.vars x.rest x.answer u, ap (turn_by u it) is)

pub running : (s : Site) (u : Uid) (p : ℕ) → IsSoundSite s → IsRunning s.node.ejects u p → Running s u p
running s u p sound runs = go (eject_in s u) refl runs
  where
    by : (e : Eject) → eject_in s u ≡ Some e → (a : Option Active) → e.active ≡ a → IsSomeAnd a (λ it. Runs it.crew p) → Running s u p
    by e at None is x = absurd x
    by e at (Some it) is x =
        let w = worker-of it p x in
        let manned : IsManned it = if-and e.active it IsManned (sound.node.manned u e at) is in
        let t = turn-there u it p w.0 manned w.1 in
        record {
          eject = e;
          part = it;
          runs = record { in_order = sound.node.in_order; is_there = at; is_active = is; runs = x };
          worker = w.0;
          at = w.1;
          ready = w.2;
          turn = t.0;
          turns = t.1;
        }

    go : (o : Option Eject) → eject_in s u ≡ o → IsSomeAnd o (λ e. IsSomeAnd e.active (λ it. Runs it.crew p)) → Running s u p
    go None at x = absurd x
    go (Some e) at x = by e at e.active refl x

-- 8. What may be shown of a turn

-- the turn may be taken, and this is shown of it
abbrev pub MayShow : Site → Uid → ℕ → Shown → Type 0
MayShow s u p said = IsActiveAnd s u (λ e a. IsSomeAnd (worker_at a p) (AllowsTurn s u p said a))

pub may-show : (s : Site) (u : Uid) (p : ℕ) (said : Shown) → TurnsAreFit s → (x : Running s u p)
    → said ≡ shown_of s (serving x.part p) x.turn.effect → MayShow s u p said
may-show s u p said fit x shows =
    some-and (eject_in s u) x.eject (λ e. IsSomeAnd e.active (λ a. IsSomeAnd (worker_at a p) (AllowsTurn s u p said a))) x.runs.is_there
    (some-and x.eject.active x.part (λ a. IsSomeAnd (worker_at a p) (AllowsTurn s u p said a)) x.runs.is_active
    (some-and (worker_at x.part p) x.worker (AllowsTurn s u p said x.part) x.at (record {
      ready = x.ready;
      known = some-and (turn_of u x.part p) x.turn (λ t. processes.CreatesKnown s.types t.effect) x.turns
          (fit.known u x.eject x.part p x.turn x.runs.is_there x.runs.is_active x.turns);
      shows = some-and (turn_of u x.part p) x.turn (λ t. said ≡ shown_of s x.worker.serves t.effect) x.turns
          (shows ∙ ap (λ o. shown_of s (with_item o (λ (q : Worker). q.serves) None) x.turn.effect) x.at);
    })))

pub shown-so : (s : Site) (u : Uid) (p : ℕ) (said : Shown) → (x : Running s u p) → MayShow s u p said
    → said ≡ shown_of s (serving x.part p) x.turn.effect
shown-so s u p said x may =
    let on_eject = subst (λ o. IsSomeAnd o (λ e. IsSomeAnd e.active (λ a. IsSomeAnd (worker_at a p) (AllowsTurn s u p said a))))
    x.runs.is_there may in
    let on_part = subst (λ o. IsSomeAnd o (λ a. IsSomeAnd (worker_at a p) (AllowsTurn s u p said a))) x.runs.is_active on_eject in
    let allows = subst (λ o. IsSomeAnd o (AllowsTurn s u p said x.part)) x.at on_part in
    subst (λ o. IsSomeAnd o (λ t. said ≡ shown_of s x.worker.serves t.effect)) x.turns allows.shows
    ∙ sym (ap (λ o. shown_of s (with_item o (λ (q : Worker). q.serves) None) x.turn.effect) x.at)

-- a process that may take its turn runs
pub shown-runs : (s : Site) (u : Uid) (p : ℕ) (said : Shown) → MayShow s u p said → IsRunning s.node.ejects u p
shown-runs s u p said may = go (eject_in s u) refl may
  where
    ready : (a : Active) → IsSomeAnd (worker_at a p) (AllowsTurn s u p said a) → Runs a.crew p
    ready a x = at (worker_at a p) x
      where
        at : (o : Option Worker) → IsSomeAnd o (AllowsTurn s u p said a) → option_map (λ (q : Worker). q.waits) o ≡ Some nothing
        at None x = absurd x
        at (Some q) x = ap (λ w. Some w) x.ready

    by : (a : Option Active) → IsSomeAnd a (λ it. IsSomeAnd (worker_at it p) (AllowsTurn s u p said it))
        → IsSomeAnd a (λ it. Runs it.crew p)
    by None x = x
    by (Some it) x = ready it x

    go : (o : Option Eject) → eject_in s u ≡ o
        → IsSomeAnd o (λ e. IsSomeAnd e.active (λ a. IsSomeAnd (worker_at a p) (AllowsTurn s u p said a)))
        → IsRunning s.node.ejects u p
    go None at x = absurd x
    go (Some e) at x = is-running s.node.ejects u p e at (by e.active x)

-- 9. The turn as the code takes it: `made_of` is its effect, and m the site before that

pub turn-shows : (s m : Site) (u : Uid) (p : ℕ) (got said : Shown) (made_of : Effect) → TurnsAreFit s → HasNewUid s → (x : Running s u p)
    → made_of ≡ x.turn.effect → m ≡ behind u p x.turn s
    → ((e : Eject) (it : Active) → MayCome m u p e it made_of → got ≡ shown_of m (serving it p) made_of)
    → (Some got ≡ Some said) ↔ MayShow s u p said
turn-shows s m u p got said made_of fit new x same mid shows = (
  λ is. let one : got ≡ said = cc is in may-show s u p said fit x (sym one ∙ so),
  λ may. ap (λ w. Some w) (so ∙ sym (shown-so s u p said x may)),
)
  where
    may_come : MayCome m u p (on_active (turned p x.turn) x.eject) (turned p x.turn x.part) made_of
    may_come = subst (λ y. MayCome y u p (on_active (turned p x.turn) x.eject) (turned p x.turn x.part) made_of) (sym mid)
        (subst (MayCome (behind u p x.turn s) u p (on_active (turned p x.turn) x.eject) (turned p x.turn x.part)) (sym same)
        (comes s u p x.turn x.eject x.part x.runs new fit x.turns))

    so : got ≡ shown_of s (serving x.part p) x.turn.effect
    so = shows (on_active (turned p x.turn) x.eject) (turned p x.turn x.part) may_come
        ∙ (ap (λ y. shown_of y (serving x.part p) made_of) mid ∙ (ap (shown_of (behind u p x.turn s) (serving x.part p)) same
        ∙ shown-behind s u (turned p x.turn) (serving x.part p) x.turn.effect x.runs.in_order))

pub turn-so : (reach : ℕ → Bool) (s m later : Site) (u : Uid) (p : ℕ) (made_of : Effect) → TurnsAreFit s → HasNewUid s → (x : Running s u p)
    → made_of ≡ x.turn.effect → m ≡ behind u p x.turn s
    → ((e : Eject) (it : Active) → MayCome m u p e it made_of → later ≡ come reach u p it made_of m)
    → later ≡ process_turn reach u p s
turn-so reach s m later u p made_of fit new x same mid changes =
    changes (on_active (turned p x.turn) x.eject) (turned p x.turn x.part) may_come
    ∙ (ap (come reach u p (turned p x.turn x.part) made_of) mid
    ∙ (ap (λ e. come reach u p (turned p x.turn x.part) e (behind u p x.turn s)) same
    ∙ whole-turn reach s u p x.turn x.eject x.part x.runs x.turns))
  where
    may_come : MayCome m u p (on_active (turned p x.turn) x.eject) (turned p x.turn x.part) made_of
    may_come = subst (λ y. MayCome y u p (on_active (turned p x.turn) x.eject) (turned p x.turn x.part) made_of) (sym mid)
        (subst (MayCome (behind u p x.turn s) u p (on_active (turned p x.turn) x.eject) (turned p x.turn x.part)) (sym same)
        (comes s u p x.turn x.eject x.part x.runs new fit x.turns))
