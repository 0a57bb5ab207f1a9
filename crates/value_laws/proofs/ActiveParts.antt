-- Changes of an active part keep its values within the limits, and one process at a time where its type is native.
use Rattle.std.proofs.Common.{arith, ◌≡◌, ◌==◌, ◌+◌, ℕ, Bool, true, false, cond, not, List, [], ◌∷◌, Option, None, Some, refl, sym, subst}
use Rattle.std.specs.Prelude.{IfSome}
use Rattle.std.specs.FinMap.Entries.{by_order}
use Rattle.std.specs.List.{AllByRecursion}
use Rattle.std.specs.Ordering.{nat_cmp, eq_by_cmp}
use Rattle.std.specs.declared.cmp.Ordering.{Ordering}
use Rattle.std.specs.declared.cmp.Ordering.TheVariants.{Less, Equal, Greater}
use Rattle.std.proofs.lemmas.Bool.Decides.{nat_tests}
use Rattle.capability.specs.declared.Uid.{Uid}
use Rattle.eden_value.specs.Datum.{Datum}
use Rattle.eden_codec.specs.Reading.{reading}
use Rattle.eden_codec.specs.declared.rep.Rep.{Rep}
use Rattle.eden_model.specs.Crew.{Crew}
use Rattle.eden_model.specs.Map.{with_item, value_at, put_at, changed_at, where_key}
use Rattle.eden_model.specs.Traffic.{Traffic, Call}
use Rattle.epl_syntax.specs.Edentype.{Edentype, native, declared as declared_type}
use Rattle.epl_syntax.specs.Kinds.{have_shapes}
use Rattle.epl_syntax.specs.Meaning.{Rest, Turned, turn, declared, type_of, values_from, durable_from, started_from, operation_of}
use Rattle.epl_syntax.specs.Outline.{Operation}
use Rattle.epl_syntax.specs.Tree.{TypeTree}
use Rattle.epl_syntax.specs.declared.effect.Answer.{Answer}
use Rattle.epl_syntax.specs.declared.effect.Answer.TheVariants.{Go}
use Rattle.journal.specs.Ejects.{fresh, on_crew, tasks_from, told}
use Rattle.journal.specs.Processes.{AllowsStart, turn_of, turned, with_start, without_process}
use Rattle.journal.specs.Starts.{start_of}
use Rattle.journal.specs.World.{Active, Eject, Task}
use Rattle.value_laws.specs.Limited.{AreLimited, IsLimitedUid, TypeFits, RestFits, HasRoom, VarsFit, AnswerFits, goes_on, IsLeftLimited}
use Rattle.value_laws.specs.Worlds.{TaskLimited, ActiveLimited}
use Rattle.value_laws.proofs.Kept.{bytes_give_limited}
use Rattle.value_laws.proofs.Laws.{turn_keeps_limits, begin_keeps_limits, declared_are_limited, start_keeps_limits}
use Rattle.value_laws.proofs.Single.{SingleAs, SingleIfNative, IsAlone, single-fresh, single-told, single-turned, single-without}
use Rattle.value_laws.proofs.Single.{single-start, one-changed}
use Rattle.value_laws.proofs.Types.{TypesFit}

-- 1. Tasks

abbrev TasksLimited : Edentype → List Datum → List (ℕ × Task) → Type 0
TasksLimited kind vars ts = AllByRecursion (λ t. TaskLimited kind vars t.1) ts

module _ (kind : Edentype) (vars : List Datum) where
  tasks-put : (p : ℕ) (t : Task) (ts : List (ℕ × Task)) → TaskLimited kind vars t → TasksLimited kind vars ts
      → TasksLimited kind vars (put_at nat_cmp p t ts)
  tasks-put p t [] new h = (new, tt)
  tasks-put p t (e ∷ ts) new h = go (nat_cmp p e.0) (tasks-put p t ts new h.1)
    where
      go : (o : Ordering) → TasksLimited kind vars (put_at nat_cmp p t ts)
          → TasksLimited kind vars (by_order o ((p, t) ∷ e ∷ ts) ((e.0, t) ∷ ts) (e ∷ put_at nat_cmp p t ts))
      go Less x = (new, h)
      go Equal x = (new, h.1)
      go Greater x = (h.0, x)

  tasks-found : (p : ℕ) (ts : List (ℕ × Task)) → TasksLimited kind vars ts → IfSome (value_at nat_cmp p ts) (TaskLimited kind vars)
  tasks-found p [] h = tt
  tasks-found p (e ∷ ts) h = go (eq_by_cmp nat_cmp p e.0) (tasks-found p ts h.1)
    where
      go : (b : Bool) → IfSome (value_at nat_cmp p ts) (TaskLimited kind vars)
          → IfSome (cond b (Some e.1) (value_at nat_cmp p ts)) (TaskLimited kind vars)
      go true x = h.0
      go false x = x

  tasks-changed : (p : ℕ) (f : Task → Task) (ts : List (ℕ × Task)) → ((t : Task) → TaskLimited kind vars t → TaskLimited kind vars (f t))
      → TasksLimited kind vars ts → TasksLimited kind vars (changed_at nat_cmp p f ts)
  tasks-changed p f ts keep h = go (value_at nat_cmp p ts) (tasks-found p ts h)
    where
      go : (o : Option Task) → IfSome o (TaskLimited kind vars)
          → TasksLimited kind vars (with_item o (λ t. put_at nat_cmp p (f t) ts) ts)
      go None x = h
      go (Some t) x = tasks-put p (f t) ts (keep t x) h

  tasks-where : (test : ℕ → Bool) (ts : List (ℕ × Task)) → TasksLimited kind vars ts → TasksLimited kind vars (where_key nat_cmp test ts)
  tasks-where test [] h = tt
  tasks-where test (e ∷ ts) h = go (test e.0) (tasks-where test ts h.1)
    where
      go : (b : Bool) → TasksLimited kind vars (where_key nat_cmp test ts)
          → TasksLimited kind vars (cond b (e ∷ where_key nat_cmp test ts) (where_key nat_cmp test ts))
      go true x = (h.0, x)
      go false x = x

  tasks-from : (n : ℕ) (rs : List Rest) → AllByRecursion (λ r. RestFits kind r × HasRoom kind vars r) rs
      → TasksLimited kind vars (tasks_from n rs)
  tasks-from n [] h = tt
  tasks-from n (r ∷ rs) h = (record { rest = h.0.0; room = h.0.1; answer = tt }, tasks-from (n + 1) rs h.1)

-- other values of the variables
other-vars : (t : TypeTree) (vars new : List Datum) (ts : List (ℕ × Task)) → TasksLimited (declared_type t) vars ts
    → TasksLimited (declared_type t) new ts
other-vars t vars new [] h = tt
other-vars t vars new (e ∷ ts) h = (record { rest = h.0.rest; room = tt; answer = h.0.answer }, other-vars t vars new ts h.1)

itself : (p : ℕ) → (p == p) ≡ true
itself p = grind (arith, nat_tests)

-- the process that has taken its turn goes on, and the variables have other values
tasks-turned : (kind : Edentype) (vars new : List Datum) (p : ℕ) (ts : List (ℕ × Task)) (x : Task) → IsAlone kind p ts
    → TasksLimited kind vars ts → TaskLimited kind new x → TasksLimited kind new (changed_at nat_cmp p (λ t. x) ts)
tasks-turned (native n) vars new p ts x alone h fits =
    subst (λ l. TasksLimited (native n) new (changed_at nat_cmp p (λ t. x) l)) (sym alone.1)
    (subst (TasksLimited (native n) new) (sym (one-changed p (λ t. x) alone.0)) (fits, tt))
tasks-turned (declared_type t) vars new p ts x alone h fits =
    tasks-changed (declared_type t) new p (λ t. x) ts (λ t y. fits) (other-vars t vars new ts h)

-- or it is gone
tasks-ended : (kind : Edentype) (vars new : List Datum) (p : ℕ) (ts : List (ℕ × Task)) (x : Task) → IsAlone kind p ts
    → TasksLimited kind vars ts → RestFits kind x.rest → AnswerFits x.answer
    → TasksLimited kind new (where_key nat_cmp (λ k. not (k == p)) (changed_at nat_cmp p (λ t. x) ts))
tasks-ended (native n) vars new p ts x alone h left answer =
    subst (λ l. TasksLimited (native n) new (where_key nat_cmp (λ k. not (k == p)) (changed_at nat_cmp p (λ t. x) l))) (sym alone.1)
    (subst (λ l. TasksLimited (native n) new (where_key nat_cmp (λ k. not (k == p)) l)) (sym (one-changed p (λ t. x) alone.0))
    (subst (λ b. TasksLimited (native n) new (cond (not b) ((p, x) ∷ []) [])) (sym (itself p)) tt))
tasks-ended (declared_type t) vars new p ts x alone h left answer =
    tasks-where (declared_type t) new (λ k. not (k == p)) (changed_at nat_cmp p (λ t. x) ts)
    (tasks-turned (declared_type t) vars new p ts x alone h (record { rest = left; room = tt; answer = answer }))

-- 2. Active parts

pub record ActiveHolds (it : Active) : Type 0 where
  pub limited : ActiveLimited it
  pub single : SingleIfNative it

pub active-fresh : (t : Edentype) (vars : List Datum) → TypeFits t → AreLimited vars → VarsFit t vars → ActiveHolds (fresh t vars)
active-fresh t vars fit h fits = record {
  limited = record {
    constants = fit;
    vars = h;
    fits = fits;
    tasks = tasks-from t vars 1 (declared t) (declared_are_limited t vars fit);
  };
  single = single-fresh t vars;
}

pub active-told : (p : ℕ) (a : Answer) (it : Active) → AnswerFits a → ActiveHolds it → ActiveHolds (told p a it)
active-told p a it new h = record {
  limited = record {
    constants = h.limited.constants;
    vars = h.limited.vars;
    fits = h.limited.fits;
    tasks = tasks-changed it.kind it.vars p (λ t. record t { answer = a }) it.tasks
        (λ t x. record { rest = x.rest; room = x.room; answer = new }) h.limited.tasks;
  };
  single = single-told it.kind p a it h.single;
}

pub active-crew : (f : Crew → Crew) (it : Active) → (SingleIfNative it → SingleAs it.kind (on_crew f it)) → ActiveHolds it
    → ActiveHolds (on_crew f it)
active-crew f it keep h = record {
  limited = record {
    constants = h.limited.constants;
    vars = h.limited.vars;
    fits = h.limited.fits;
    tasks = h.limited.tasks;
  };
  single = keep h.single;
}

pub active-without : (p : ℕ) (it : Active) → ActiveHolds it → ActiveHolds (without_process p it)
active-without p it h = record {
  limited = record {
    constants = h.limited.constants;
    vars = h.limited.vars;
    fits = h.limited.fits;
    tasks = tasks-where it.kind it.vars (λ k. not (k == p)) it.tasks h.limited.tasks;
  };
  single = single-without it.kind p it h.single;
}

-- a call may begin: the type has its operation, which takes its arguments, and these are within the limits
pub record MayBegin (it : Active) (c : Call) : Type 0 where
  pub operation : Operation
  pub is : operation_of it.kind c.operation ≡ Some operation
  pub shapes : have_shapes c.args operation.params ≡ true
  pub args : AreLimited c.args

pub active-started : (traffic : Traffic) (k p : ℕ) (c : Call) (e : Eject) (it : Active) → MayBegin it c → AllowsStart traffic k p e it
    → ActiveHolds it → ActiveHolds (with_start traffic k p c it)
active-started traffic k p c e it may allowed h =
    let x = begin_keeps_limits it.kind c.operation c.args may.operation it.vars h.limited.constants may.is may.shapes may.args in record {
      limited = record {
        constants = h.limited.constants;
        vars = h.limited.vars;
        fits = h.limited.fits;
        tasks = tasks-put it.kind it.vars p _ it.tasks (record { rest = x.0; room = x.1; answer = tt }) h.limited.tasks;
      };
      single = single-start traffic k p c e it allowed h.single;
    }

-- 3. A turn of a process

-- what it leaves
pub turn-left : (u : Uid) (it : Active) (p : ℕ) (t : Turned) → turn_of u it p ≡ Some t → IsLimitedUid u → ActiveLimited it
    → IsLeftLimited it.kind t
turn-left u it p t is own h = go (value_at nat_cmp p it.tasks) (tasks-found it.kind it.vars p it.tasks h.tasks) is
  where
    go : (o : Option Task) → IfSome o (TaskLimited it.kind it.vars)
        → with_item o (λ x. Some (turn it.kind it.vars x.rest x.answer u)) None ≡ Some t → IsLeftLimited it.kind t
    go None x e = absurd (cc e)
    go (Some task) x e =
        let same : turn it.kind it.vars task.rest task.answer u ≡ t = cc e in
        subst (IsLeftLimited it.kind) same (turn_keeps_limits it.kind it.vars task.rest task.answer u (record {
          constants = h.constants;
          vars = h.vars;
          fits = h.fits;
          rest = x.rest;
          room = x.room;
          answer = x.answer;
          own = own;
        }))

pub active-turned : (p : ℕ) (t : Turned) (it : Active) → IsAlone it.kind p it.tasks → IsLeftLimited it.kind t → goes_on t.effect ≡ true
    → ActiveHolds it → ActiveHolds (turned p t it)
active-turned p t it alone left on h = record {
  limited = record {
    constants = h.limited.constants;
    vars = left.vars;
    fits = left.fits;
    tasks = tasks-turned it.kind it.vars t.vars p it.tasks (record { rest = t.rest; answer = Go }) alone h.limited.tasks
        (record { rest = left.rest; room = left.room on; answer = tt });
  };
  single = single-turned it.kind p t it h.single;
}

-- behind a turn in which it returns, the process is gone
pub active-ended : (p : ℕ) (t : Turned) (it : Active) → IsAlone it.kind p it.tasks → IsLeftLimited it.kind t
    → ActiveHolds it → ActiveHolds (without_process p (turned p t it))
active-ended p t it alone left h = record {
  limited = record {
    constants = h.limited.constants;
    vars = left.vars;
    fits = left.fits;
    tasks = tasks-ended it.kind it.vars t.vars p it.tasks (record { rest = t.rest; answer = Go }) alone h.limited.tasks left.rest tt;
  };
  single = single-without it.kind p (turned p t it) (single-turned it.kind p t it h.single);
}

-- 4. An Eject that starts from bytes

pub active-started_from : (types : List Edentype) (bytes : List ℕ) (me : Uid) (start : Edentype × List Datum) → TypesFit types
    → start_of types bytes me ≡ Some start → IsLimitedUid me → ActiveHolds (fresh start.0 (values_from start.0 start.1))
active-started_from types bytes me start fit is own = go (reading bytes) refl is
  where
    Goal : Edentype × List Datum → Type 0
    Goal x = ActiveHolds (fresh x.0 (values_from x.0 x.1))

    by_durable : (rep : Rep) (t : Edentype) (o : Option (List Datum)) → TypeFits t → durable_from t rep me ≡ o
        → with_item o (λ durable. Some (t, durable)) None ≡ Some start → AreLimited rep.values → Goal start
    by_durable rep t None f at e h = absurd (cc e)
    by_durable rep t (Some durable) f at e h =
        let same : (t, durable) ≡ start = cc e in
        let x = start_keeps_limits t rep me durable f at h own in
        subst Goal same (active-fresh t (values_from t durable) f x.0 x.1)

    by_type : (rep : Rep) (o : Option Edentype) → type_of types rep.type_name ≡ o
        → with_item o (λ t. with_item (durable_from t rep me) (λ durable. Some (t, durable)) None) None ≡ Some start
        → AreLimited rep.values → Goal start
    by_type rep None at e h = absurd (cc e)
    by_type rep (Some t) at e h = by_durable rep t (durable_from t rep me) (fit rep.type_name t at) refl e h

    go : (o : Option Rep) → reading bytes ≡ o → with_item o (λ rep. started_from types rep me) None ≡ Some start → Goal start
    go None at e = absurd (cc e)
    go (Some rep) at e = by_type rep (type_of types rep.type_name) refl e (bytes_give_limited bytes rep at)
