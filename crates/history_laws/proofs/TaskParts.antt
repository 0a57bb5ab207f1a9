-- What changes of an active part leave of its tasks.
use Rattle.std.proofs.Common.{◌≡◌, ◌==◌, ◌-◌, ◌+◌, ◌≤◌, arith, ℕ, zero, suc, Bool, true, false, cond, not, List, [], ◌∷◌, ◌++◌, map}
use Rattle.std.proofs.Common.{length, Option, None, Some, is_some, refl, sym, ◌∙◌, ap, subst}
use Rattle.std.specs.Prelude.{IfSome, slice_get}
use Rattle.std.specs.List.{AllByRecursion, filter}
use Rattle.std.specs.Option.{option_map}
use Rattle.std.specs.Ordering.{nat_cmp, eq_by_cmp}
use Rattle.std.specs.Cmp.{nat_cmp_total}
use Rattle.std.specs.FinMap.{nat_cmp-IsAntisymmetric}
use Rattle.std.specs.FinMap.Entries.{find-put}
use Rattle.capability.specs.declared.Uid.{Uid}
use Rattle.eden_value.specs.Datum.{Datum}
use Rattle.eden_value.specs.declared.status.Status.{Status}
use Rattle.eden_model.specs.Map.{with_item, first, rest, value_at, changed_at}
use Rattle.eden_model.specs.Crew.{Waiting, nothing, outside, Process, Monitor, Condition, Crew, set_waits, set_monitor, set_condition}
use Rattle.eden_model.specs.Crew.{match_holder, locked, left, waited, queued_at, signalled, least_free, started, leave_held, ended}
use Rattle.eden_model.specs.Crew.{declared_from, entry, condition}
use Rattle.eden_model.specs.Traffic.{Traffic, Call, call_at}
use Rattle.eden_model.proofs.Laws.{value-changed}
use Rattle.eden_model.proofs.Numbers.{same-true}
use Rattle.epl_syntax.specs.declared.effect.Answer.{Answer}
use Rattle.epl_syntax.specs.declared.effect.Answer.TheVariants.{Go}
use Rattle.epl_syntax.specs.Edentype.{Edentype, native, declared as declared_type}
use Rattle.epl_syntax.specs.Tree.{TypeTree, Process as Body}
use Rattle.epl_syntax.specs.Turns.{process_left}
use Rattle.epl_syntax.specs.Meaning.{of_declared, Turned, turn, begin}
use Rattle.journal.specs.World.{Task, Active}
use Rattle.journal.specs.Ejects.{on_crew, told, fresh, tasks_from}
use Rattle.journal.specs.Deliveries.{misfit}
use Rattle.journal.specs.Processes.{invocation, with_start, turn_of, turned, serving, without_process, waits_or_told}
use Rattle.history_laws.proofs.Fits.{times}
use Rattle.history_laws.proofs.Times.{times-filter}
use Rattle.history_laws.proofs.Manned.{other-key}
use Rattle.history_laws.proofs.SiteCrews.{by-left, by-held, serves_at, serves-with_waits}
use Rattle.history_laws.proofs.Tasks.{IsRuledType, IsTask, FitsRest, FitsEffect, FitsCall, HasValues, FitsActive}
use Rattle.history_laws.proofs.LeftTurns.{declared-tasks, rest-turn, rest-effect, rest-begin, values-turn}

-- 1. Which call a process serves

-- a change that leaves who serves which call
abbrev pub KeepsServices : (Crew → Crew) → Type 0
KeepsServices f = (q : ℕ) (crew : Crew) → serves_at q (f crew).processes ≡ serves_at q crew.processes

pub serves-set : (p : ℕ) (w : Waiting) → KeepsServices (set_waits p w)
serves-set p w q crew = serves-with_waits q p w crew.processes

pub serves-left : (m : ℕ) → KeepsServices (left m)
serves-left m q crew = by-left (serves_at q) (λ p w es. serves-with_waits q p w es) m crew

pub serves-locked : (p m : ℕ) → KeepsServices (locked p m)
serves-locked p m q crew = go (slice_get crew.monitors (m - 1))
  where
    one : (it : Monitor) (o : Option ℕ) → serves_at q (match_holder o (set_monitor m (record it { holder = Some p }) crew)
        (set_waits p (entry m)
        (set_monitor m (record it { entering = it.entering ++ p ∷ [] }) crew))).processes ≡ serves_at q crew.processes
    one it None = refl
    one it (Some h) = serves-with_waits q p (entry m) crew.processes

    go : (o : Option Monitor) → serves_at q (with_item o (λ it. match_holder it.holder (set_monitor m (record it { holder = Some p }) crew)
        (set_waits p (entry m)
        (set_monitor m (record it { entering = it.entering ++ p ∷ [] }) crew))) crew).processes ≡ serves_at q crew.processes
    go None = refl
    go (Some it) = one it it.holder

pub serves-waited : (p c : ℕ) → KeepsServices (waited p c)
serves-waited p c q crew = go (slice_get crew.conditions c)
  where
    go : (o : Option Condition) → serves_at q (with_item o (λ it. set_waits p (condition c)
        (set_condition c (record it { waiters = it.waiters ++ p ∷ [] })
        (left it.monitor crew))) crew).processes ≡ serves_at q crew.processes
    go None = refl
    go (Some it) = serves-with_waits q p (condition c) (left it.monitor crew).processes ∙ serves-left it.monitor q crew

serves-queued : (o : Option ℕ) (m : ℕ) → KeepsServices (queued_at o m)
serves-queued None m q crew = refl
serves-queued (Some p) m q crew = go (slice_get crew.monitors (m - 1))
  where
    go : (o : Option Monitor) → serves_at q (with_item o (λ it. set_waits p (entry m)
        (set_monitor m (record it { entering = it.entering ++ p ∷ [] }) crew)) crew).processes ≡ serves_at q crew.processes
    go None = refl
    go (Some it) = serves-with_waits q p (entry m) crew.processes

pub serves-signalled : (c : ℕ) → KeepsServices (signalled c)
serves-signalled c q crew = go (slice_get crew.conditions c)
  where
    go : (o : Option Condition) → serves_at q (with_item o (λ it. queued_at (first it.waiters) it.monitor
        (set_condition c (record it { waiters = rest it.waiters }) crew)) crew).processes ≡ serves_at q crew.processes
    go None = refl
    go (Some it) = serves-queued (first it.waiters) it.monitor q (set_condition c (record it { waiters = rest it.waiters }) crew)

-- 2. Tasks

-- what holds of each task holds where one is changed
task-changed : (p : ℕ) (f : Task → Task) (ts : List (ℕ × Task)) (Q : ℕ → Task → Type 0)
    → ((q : ℕ) (t : Task) → value_at nat_cmp q ts ≡ Some t → Q q t) → ((t : Task) → value_at nat_cmp p ts ≡ Some t → Q p t → Q p (f t))
    → (q : ℕ) (t : Task) → value_at nat_cmp q (changed_at nat_cmp p f ts) ≡ Some t → Q q t
task-changed p f ts Q all new q t is = go (eq_by_cmp nat_cmp q p) refl (value_at nat_cmp q ts) refl
    (sym (value-changed nat_cmp nat_cmp_total nat_cmp-IsAntisymmetric q p f ts) ∙ is)
  where
    go : (b : Bool) → eq_by_cmp nat_cmp q p ≡ b → (o : Option Task) → value_at nat_cmp q ts ≡ o → cond b (option_map f o) o ≡ Some t → Q q t
    go true same None at is = absurd (cc is)
    go true same (Some x) at is = let here : q ≡ p = same-true q p same in
        subst (λ o. IfSome o (Q q)) is (subst (λ k. Q k (f x)) (sym here)
        (new x (ap (λ k. value_at nat_cmp k ts) (sym here) ∙ at) (subst (λ k. Q k x) here (all q x at))))
    go false same o at is = all q t (at ∙ is)

module _ (types : List Edentype) (calls : Traffic) (queued : List ℕ) where
  -- the tasks stay, or change in their answers alone
  pub fits-crew : (f : Crew → Crew) → KeepsServices f → (it : Active) → FitsActive types calls queued it
      → FitsActive types calls queued (on_crew f it)
  fits-crew f same it h = record {
    kind = h.kind;
    values = h.values;
    tasks = λ q t is. subst (λ i. FitsRest types it.kind (is_some i) t.rest) (sym (same q it.crew)) (h.tasks q t is);
    waiting = h.waiting;
  }

  pub fits-told : (p : ℕ) (a : Answer) (it : Active) → FitsActive types calls queued it → FitsActive types calls queued (told p a it)
  fits-told p a it h = record {
    kind = h.kind;
    values = h.values;
    tasks = λ q t is. subst (λ i. FitsRest types it.kind (is_some i) t.rest) (sym (serves-set p nothing q it.crew))
        (task-changed p (λ t. record t { answer = a }) it.tasks
        (λ q t. FitsRest types it.kind (is_some (serves_at q it.crew.processes)) t.rest)
        h.tasks (λ t at f. f) q t is);
    waiting = h.waiting;
  }

  pub fits-waits_or_told : (p : ℕ) (o : Option Status) (it : Active) → FitsActive types calls queued it
      → FitsActive types calls queued (waits_or_told p o it)
  fits-waits_or_told p None it h = fits-crew (set_waits p outside) (serves-set p outside) it h
  fits-waits_or_told p (Some why) it h = fits-told p _ it h

  -- a turn, and its effect
  turn-is : (v : Uid) (p : ℕ) (it : Active) (t : Turned) → turn_of v it p ≡ Some t → (x : Task) → value_at nat_cmp p it.tasks ≡ Some x
      → turn it.kind it.vars x.rest x.answer v ≡ t
  turn-is v p it t is x at =
      let same : Some (turn it.kind it.vars x.rest x.answer v) ≡ Some t =
      subst (λ o. with_item o (λ x. Some (turn it.kind it.vars x.rest x.answer v)) None ≡ Some t) at is in cc same

  turned-values : (v : Uid) (p : ℕ) (it : Active) (t : Turned) → turn_of v it p ≡ Some t → FitsActive types calls queued it
      → HasValues it.kind t.vars
  turned-values v p it t is h = go (value_at nat_cmp p it.tasks) refl is
    where
      go : (o : Option Task) → value_at nat_cmp p it.tasks ≡ o
          → with_item o (λ x. Some (turn it.kind it.vars x.rest x.answer v)) None ≡ Some t → HasValues it.kind t.vars
      go None at same = absurd (cc same)
      go (Some x) at same = subst (λ o. IfSome o (λ (y : Turned). HasValues it.kind y.vars)) same
          (values-turn types it.kind (is_some (serves_at p it.crew.processes)) it.vars x.rest x.answer v (h.tasks p x at) h.values)

  pub fits-turned : (v : Uid) (p : ℕ) (it : Active) (t : Turned) → turn_of v it p ≡ Some t → FitsActive types calls queued it
      → FitsActive types calls queued (turned p t it)
  fits-turned v p it t is h = record {
    kind = h.kind;
    values = turned-values v p it t is h;
    tasks = task-changed p (λ old. record { rest = t.rest; answer = Go }) it.tasks
        (λ q t. FitsRest types it.kind (is_some (serves_at q it.crew.processes)) t.rest) h.tasks (λ x at f.
        subst (λ (y : Turned). FitsRest types it.kind (is_some (serves_at p it.crew.processes)) y.rest) (turn-is v p it t is x at)
        (rest-turn types it.kind (is_some (serves_at p it.crew.processes)) it.vars x.rest x.answer v f));
    waiting = h.waiting;
  }

  pub fits-effect : (v : Uid) (p : ℕ) (it : Active) (t : Turned) → turn_of v it p ≡ Some t → FitsActive types calls queued it
      → FitsEffect types (is_some (serving it p)) t.effect
  fits-effect v p it t is h = go (value_at nat_cmp p it.tasks) refl is
    where
      go : (o : Option Task) → value_at nat_cmp p it.tasks ≡ o
          → with_item o (λ x. Some (turn it.kind it.vars x.rest x.answer v)) None ≡ Some t
          → FitsEffect types (is_some (serving it p)) t.effect
      go None at same = absurd (cc same)
      go (Some x) at same = subst (λ o. IfSome o (λ (y : Turned). FitsEffect types (is_some (serving it p)) y.effect)) same
          (rest-effect types it.kind (is_some (serving it p)) it.vars x.rest x.answer v (h.tasks p x at))

  -- a process that ends goes with its task
  pub fits-without : (p : ℕ) (it : Active) → FitsActive types calls queued it → FitsActive types calls queued (without_process p it)
  fits-without p it h = record {
    kind = h.kind;
    values = h.values;
    tasks = λ q t is. go q t (not (q == p)) refl (sym (other-key p q it.tasks) ∙ is);
    waiting = h.waiting;
  }
    where
      mid : Crew
      mid = leave_held p (length it.crew.monitors) it.crew

      served : (q : ℕ) (b : Bool) → not (q == p) ≡ b → b ≡ true → serves_at q (ended p it.crew).processes ≡ serves_at q it.crew.processes
      served q false same is = absurd (cc is)
      served q true same is = ap (λ o. with_item o (λ (x : Process). x.serves) None) (other-key p q mid.processes)
          ∙ ap (λ b. with_item (cond b (value_at nat_cmp q mid.processes) None) (λ (x : Process). x.serves) None) same
          ∙ by-held (serves_at q) (λ p w es. serves-with_waits q p w es) p (length it.crew.monitors) it.crew

      go : (q : ℕ) (t : Task) (b : Bool) → not (q == p) ≡ b → cond b (value_at nat_cmp q it.tasks) None ≡ Some t
          → FitsRest types it.kind (is_some (serves_at q (ended p it.crew).processes)) t.rest
      go q t false same is = absurd (cc is)
      go q t true same is = subst (λ i. FitsRest types it.kind (is_some i) t.rest) (sym (served q true same refl)) (h.tasks q t is)

-- 3. Starts

-- a process that starts has the task of its call
pub fits-start : (types : List Edentype) (calls traffic : Traffic) (queued : List ℕ) (k p : ℕ) (c : Call) (it : Active)
    → p ≡ least_free it.crew
    → misfit it.kind c ≡ None → FitsActive types calls queued it
    → FitsActive types calls (filter (λ j. not (j == k)) queued) (with_start traffic k p c it)
fits-start types calls traffic queued k p c it number fits h = record {
  kind = h.kind;
  values = h.values;
  tasks = λ q t is. go q t (eq_by_cmp nat_cmp q p) refl (sym (find-put nat_cmp nat_cmp_total q p task it.tasks) ∙ is);
  waiting = λ j has. h.waiting j (omega (arith, has, times-filter j (λ j. not (j == k)) queued));
}
  where
    one : Process
    one = record { serves = Some (invocation it.kind traffic k); waits = nothing }

    task : Task
    task = record { rest = begin it.kind c.operation c.args; answer = Go }

    served : (q : ℕ) (b : Bool) → eq_by_cmp nat_cmp q p ≡ b
        → serves_at q (started (invocation it.kind traffic k) it.crew).processes
        ≡ with_item (cond b (Some one) (value_at nat_cmp q it.crew.processes)) (λ (x : Process). x.serves) None
    served q b same = ap (λ o. with_item o (λ (x : Process). x.serves) None)
        (find-put nat_cmp nat_cmp_total q (least_free it.crew) one it.crew.processes)
        ∙ ap (λ n. with_item (cond (eq_by_cmp nat_cmp q n) (Some one) (value_at nat_cmp q it.crew.processes))
        (λ (x : Process). x.serves) None)
        (sym number)
        ∙ ap (λ b. with_item (cond b (Some one) (value_at nat_cmp q it.crew.processes)) (λ (x : Process). x.serves) None) same

    go : (q : ℕ) (t : Task) (b : Bool) → eq_by_cmp nat_cmp q p ≡ b → cond b (Some task) (value_at nat_cmp q it.tasks) ≡ Some t
        → FitsRest types it.kind (is_some (serves_at q (started (invocation it.kind traffic k) it.crew).processes)) t.rest
    go q t true same is = subst (λ i. FitsRest types it.kind (is_some i) t.rest) (sym (served q true same))
        (subst (λ o. IfSome o (λ (x : Task). FitsRest types it.kind true x.rest)) is (rest-begin types it.kind c h.kind fits))
    go q t false same is = subst (λ i. FitsRest types it.kind (is_some i) t.rest) (sym (served q false same)) (h.tasks q t is)

-- 4. A new active part

no-services : (n more p : ℕ) → serves_at p (declared_from n more) ≡ None
no-services n zero p = refl
no-services n (suc more) p = go (eq_by_cmp nat_cmp p n) (no-services (n + 1) more p)
  where
    go : (b : Bool) → serves_at p (declared_from (n + 1) more) ≡ None
        → with_item (cond b (Some (record { serves = None; waits = nothing })) (value_at nat_cmp p (declared_from (n + 1) more)))
        (λ (x : Process). x.serves) None ≡ None
    go true later = refl
    go false later = later

tasks-declared : (types : List Edentype) (t : TypeTree) (k : ℕ) (ps : List Body)
    → AllByRecursion (λ b. IsTask types t false (process_left b)) ps
    → (p : ℕ) (x : Task) → value_at nat_cmp p (tasks_from k (map (λ q. of_declared (process_left q)) ps)) ≡ Some x
    → FitsRest types (declared_type t) false x.rest
tasks-declared types t k [] all p x is = absurd (cc is)
tasks-declared types t k (b ∷ ps) all p x is = go (eq_by_cmp nat_cmp p k) is (tasks-declared types t (k + 1) ps all.1 p x)
  where
    go : (same : Bool) → cond same (Some (record { rest = of_declared (process_left b); answer = Go }))
        (value_at nat_cmp p (tasks_from (k + 1) (map (λ q. of_declared (process_left q)) ps))) ≡ Some x
        → (value_at nat_cmp p (tasks_from (k + 1) (map (λ q. of_declared (process_left q)) ps)) ≡ Some x
        → FitsRest types (declared_type t) false x.rest) → FitsRest types (declared_type t) false x.rest
    go true is later = subst (λ o. IfSome o (λ (y : Task). FitsRest types (declared_type t) false y.rest)) is all.0
    go false is later = later is

pub fits-fresh : (types : List Edentype) (calls : Traffic) (queued : List ℕ) (t : Edentype) (vars : List Datum) → IsRuledType types t
    → HasValues t vars → ((k : ℕ) → 1 ≤ times k queued → FitsCall t (call_at calls k)) → FitsActive types calls queued (fresh t vars)
fits-fresh types calls queued (native n) vars ruled many fits =
    record { kind = ruled; values = many; tasks = λ p x is. absurd (cc is); waiting = fits }
fits-fresh types calls queued (declared_type t) vars ruled many fits = record {
  kind = ruled;
  values = many;
  tasks = λ p x is. subst (λ i. FitsRest types (declared_type t) (is_some i) x.rest) (sym (no-services 1 (length t.processes) p))
      (tasks-declared types t 1 t.processes (declared-tasks types t ruled) p x is);
  waiting = fits;
}
