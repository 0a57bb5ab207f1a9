-- An active part of a native type runs one process at a time: all operations of the type are of one class, and that has the limit 1.
use Rattle.std.proofs.Common.{◌≡◌, ◌⊎◌, inl, inr, ℕ, ◌+◌, ◌==◌, nat_lt, Bool, true, false, cond, not, List, [], ◌∷◌, map, length, Option}
use Rattle.std.proofs.Common.{None, Some, is_some, refl, ap, sym, ◌∙◌, subst}
use Rattle.std.specs.Prelude.{slice_index}
use Rattle.std.specs.Cmp.{nat_cmp_total, eq_by_cmp_equiv}
use Rattle.std.specs.FinMap.Entries.{by_order}
use Rattle.std.specs.List.{AllByRecursion, find, count_by}
use Rattle.std.specs.Ordering.{nat_cmp, eq_by_cmp}
use Rattle.std.proofs.lemmas.Cmp.{tied_itself}
use Rattle.eden_value.specs.Datum.{Datum}
use Rattle.eden_model.specs.Crew.{Crew, Invocation, Process as Worker, Waiting, nothing, with_waits, set_waits, locked, left, waited}
use Rattle.eden_model.specs.Crew.{signalled, class_is, serves_class, may_start, least_free, leave_held, ended}
use Rattle.eden_model.specs.Map.{with_item, value_at, put_at, changed_at, where_key}
use Rattle.eden_model.specs.Traffic.{Traffic, Call, call_at}
use Rattle.eden_model.proofs.Numbers.{same-true}
use Rattle.epl_syntax.specs.Edentype.{Edentype, native, declared}
use Rattle.epl_syntax.specs.Meaning.{Turned, begin}
use Rattle.epl_syntax.specs.Natives.{native_outline}
use Rattle.epl_syntax.specs.Outline.{Operation}
use Rattle.epl_syntax.specs.declared.effect.Answer.{Answer}
use Rattle.epl_syntax.specs.declared.effect.Answer.TheVariants.{Go}
use Rattle.epl_syntax.specs.declared.types.Native.{Native}
use Rattle.epl_syntax.specs.declared.types.Native.TheVariants as native_type
use Rattle.journal.specs.Ejects.{fresh, on_crew, told}
use Rattle.journal.specs.Processes.{AllowsStart, class_of, invocation, next_start, with_start, worker_at, turned, without_process}
use Rattle.journal.specs.World.{Active, Eject, Task}

-- 1. What is known of it

-- it runs no process
pub record RunsNone (it : Active) : Type 0 where
  pub processes : it.crew.processes ≡ []
  pub tasks : it.tasks ≡ []

-- it runs one process, which serves a call and has the one task
pub record RunsOne (it : Active) : Type 0 where
  pub number : ℕ
  pub worker : Worker
  pub call : Invocation
  pub task : Task
  pub processes : it.crew.processes ≡ (number, worker) ∷ []
  pub tasks : it.tasks ≡ (number, task) ∷ []
  pub serves : worker.serves ≡ Some call
  pub class : call.class ≡ 0

-- its one class has the limit 1, and it has no monitor
pub record IsSingle (it : Active) : Type 0 where
  pub limits : it.crew.limits ≡ 1 ∷ []
  pub monitors : it.crew.monitors ≡ []
  pub conditions : it.crew.conditions ≡ []
  pub work : RunsNone it ⊎ RunsOne it

-- it is so where this type is native
abbrev pub SingleAs : Edentype → Active → Type 0
SingleAs (native n) it = IsSingle it
SingleAs (declared t) it = Unit {0}

abbrev pub SingleIfNative : Active → Type 0
SingleIfNative it = SingleAs it.kind it

-- 2. A map with one entry

pub one-changed : (p : ℕ) (f : Task → Task) (t : Task) → changed_at nat_cmp p f ((p, t) ∷ []) ≡ (p, f t) ∷ []
one-changed p f t =
    ap (λ b. with_item (cond b (Some t) None) (λ x. put_at nat_cmp p (f x) ((p, t) ∷ [])) ((p, t) ∷ []))
    ((eq_by_cmp_equiv nat_cmp_total).refl p)
    ∙ ap (λ o. by_order o ((p, f t) ∷ (p, t) ∷ []) ((p, f t) ∷ []) ((p, t) ∷ (p, f t) ∷ [])) (tied_itself nat_cmp_total p)

-- a change at any key leaves the one key
still-one : (p n : ℕ) (f : Task → Task) (t : Task) → (u : Task) × (changed_at nat_cmp p f ((n, t) ∷ []) ≡ (n, u) ∷ [])
still-one p n f t = go (eq_by_cmp nat_cmp p n) refl
  where
    go : (b : Bool) → eq_by_cmp nat_cmp p n ≡ b → (u : Task) × (changed_at nat_cmp p f ((n, t) ∷ []) ≡ (n, u) ∷ [])
    go true is = (f t, subst (λ k. changed_at nat_cmp k f ((n, t) ∷ []) ≡ (n, f t) ∷ []) (sym (same-true p n is)) (one-changed n f t))
    go false is = (t, ap (λ b. with_item (cond b (Some t) None) (λ x. put_at nat_cmp p (f x) ((n, t) ∷ [])) ((n, t) ∷ [])) is)

-- 3. Changes that leave who runs

-- the work goes on where the processes and the tasks keep their numbers, and the processes what they serve
record KeepsWork (it new : Active) : Type 0 where
  none : RunsNone it → RunsNone new
  one : RunsOne it → RunsOne new

single-like : (it new : Active) → new.crew.limits ≡ it.crew.limits → new.crew.monitors ≡ it.crew.monitors
    → new.crew.conditions ≡ it.crew.conditions → KeepsWork it new → IsSingle it → IsSingle new
single-like it new limits monitors conditions keeps h = record {
  limits = limits ∙ h.limits;
  monitors = monitors ∙ h.monitors;
  conditions = conditions ∙ h.conditions;
  work = go h.work;
}
  where
    go : RunsNone it ⊎ RunsOne it → RunsNone new ⊎ RunsOne new
    go (inl x) = inl (keeps.none x)
    go (inr x) = inr (keeps.one x)

serves-still : (b : Bool) (w : Waiting) (worker : Worker) → (cond b (record worker { waits = w }) worker).serves ≡ worker.serves
serves-still true w worker = refl
serves-still false w worker = refl

-- a process waits for something else
pub single-waits : (t : Edentype) (p : ℕ) (w : Waiting) (it : Active) → SingleAs t it → SingleAs t (on_crew (set_waits p w) it)
single-waits (declared t) p w it h = tt
single-waits (native n) p w it h = single-like it (on_crew (set_waits p w) it) refl refl refl (record {
  none = λ x. record { processes = ap (map (with_waits p w)) x.processes; tasks = x.tasks };
  one = λ x. record {
    number = x.number;
    worker = cond (x.number == p) (record x.worker { waits = w }) x.worker;
    call = x.call;
    task = x.task;
    processes = ap (map (with_waits p w)) x.processes;
    tasks = x.tasks;
    serves = serves-still (x.number == p) w x.worker ∙ x.serves;
    class = x.class;
  };
}) h

single-tasks : (p : ℕ) (f : Task → Task) (vars : List Datum) (it : Active) → IsSingle it
    → IsSingle (record it { vars = vars; tasks = changed_at nat_cmp p f it.tasks })
single-tasks p f vars it h = single-like it (record it { vars = vars; tasks = changed_at nat_cmp p f it.tasks }) refl refl refl (record {
  none = λ x. record { processes = x.processes; tasks = ap (changed_at nat_cmp p f) x.tasks };
  one = λ x. record {
    number = x.number;
    worker = x.worker;
    call = x.call;
    task = (still-one p x.number f x.task).0;
    processes = x.processes;
    tasks = ap (changed_at nat_cmp p f) x.tasks ∙ (still-one p x.number f x.task).1;
    serves = x.serves;
    class = x.class;
  };
}) h

pub single-told : (t : Edentype) (p : ℕ) (a : Answer) (it : Active) → SingleAs t it → SingleAs t (told p a it)
single-told (declared t) p a it h = tt
single-told (native n) p a it h = single-tasks p (λ t. record t { answer = a }) it.vars (on_crew (set_waits p nothing) it)
    (single-waits (native n) p nothing it h)

pub single-turned : (t : Edentype) (p : ℕ) (x : Turned) (it : Active) → SingleAs t it → SingleAs t (turned p x it)
single-turned (declared t) p x it h = tt
single-turned (native n) p x it h = single-tasks p (λ old. record { rest = x.rest; answer = Go }) x.vars it h

-- 4. There are no monitors

single-same : (it : Active) (f : Crew → Crew) → f it.crew ≡ it.crew → IsSingle it → IsSingle (on_crew f it)
single-same it f same h = subst (λ crew. IsSingle (record it { crew = crew })) (sym same) h

pub single-locked : (t : Edentype) (p m : ℕ) (it : Active) → SingleAs t it → SingleAs t (on_crew (locked p m) it)
single-locked (declared t) p m it h = tt
single-locked (native n) p m it h = single-same it (locked p m) (rw h.monitors refl) h

pub single-left : (t : Edentype) (m : ℕ) (it : Active) → SingleAs t it → SingleAs t (on_crew (left m) it)
single-left (declared t) m it h = tt
single-left (native n) m it h = single-same it (left m) (rw h.monitors refl) h

pub single-waited : (t : Edentype) (p c : ℕ) (it : Active) → SingleAs t it → SingleAs t (on_crew (waited p c) it)
single-waited (declared t) p c it h = tt
single-waited (native n) p c it h = single-same it (waited p c) (rw h.conditions refl) h

pub single-signalled : (t : Edentype) (c : ℕ) (it : Active) → SingleAs t it → SingleAs t (on_crew (signalled c) it)
single-signalled (declared t) c it h = tt
single-signalled (native n) c it h = single-same it (signalled c) (rw h.conditions refl) h

-- 5. A process ends

ended-plain : (p : ℕ) (crew : Crew) → crew.monitors ≡ []
    → ended p crew ≡ record crew { processes = where_key nat_cmp (λ k. not (k == p)) crew.processes }
ended-plain p crew none =
    ap (λ n. record (leave_held p n crew) { processes = where_key nat_cmp (λ k. not (k == p)) (leave_held p n crew).processes })
    (ap length none)

pub single-without : (t : Edentype) (p : ℕ) (it : Active) → SingleAs t it → SingleAs t (without_process p it)
single-without (declared t) p it h = tt
single-without (native n) p it h = record {
  limits = ap (λ (c : Crew). c.limits) plain ∙ h.limits;
  monitors = ap (λ (c : Crew). c.monitors) plain ∙ h.monitors;
  conditions = ap (λ (c : Crew). c.conditions) plain ∙ h.conditions;
  work = go h.work;
}
  where
    plain : ended p it.crew ≡ record it.crew { processes = where_key nat_cmp (λ k. not (k == p)) it.crew.processes }
    plain = ended-plain p it.crew h.monitors

    left-of : {X : Type 0} → List (ℕ × X) → List (ℕ × X)
    left-of es = where_key nat_cmp (λ k. not (k == p)) es

    processes : (without_process p it).crew.processes ≡ left-of it.crew.processes
    processes = ap (λ (c : Crew). c.processes) plain

    by : (x : RunsOne it) (b : Bool) → not (x.number == p) ≡ b → RunsNone (without_process p it) ⊎ RunsOne (without_process p it)
    by x true is = inr (record {
      number = x.number;
      worker = x.worker;
      call = x.call;
      task = x.task;
      processes = processes ∙ ap left-of x.processes ∙ ap (λ b. cond b ((x.number, x.worker) ∷ []) []) is;
      tasks = ap left-of x.tasks ∙ ap (λ b. cond b ((x.number, x.task) ∷ []) []) is;
      serves = x.serves;
      class = x.class;
    })
    by x false is = inl (record {
      processes = processes ∙ ap left-of x.processes ∙ ap (λ b. cond b ((x.number, x.worker) ∷ []) []) is;
      tasks = ap left-of x.tasks ∙ ap (λ b. cond b ((x.number, x.task) ∷ []) []) is;
    })

    go : RunsNone it ⊎ RunsOne it → RunsNone (without_process p it) ⊎ RunsOne (without_process p it)
    go (inl x) = inl (record { processes = processes ∙ ap left-of x.processes; tasks = ap left-of x.tasks })
    go (inr x) = by x (not (x.number == p)) refl

-- 6. A new active part

pub single-fresh : (t : Edentype) (vars : List Datum) → SingleAs t (fresh t vars)
single-fresh (declared t) vars = tt
single-fresh (native n) vars = go n
  where
    as-set-up : (it : Active) → it.crew.limits ≡ 1 ∷ [] → it.crew.monitors ≡ [] → it.crew.conditions ≡ [] → it.crew.processes ≡ []
        → it.tasks ≡ [] → IsSingle it
    as-set-up it limits monitors conditions processes tasks = record {
      limits = limits;
      monitors = monitors;
      conditions = conditions;
      work = inl (record { processes = processes; tasks = tasks });
    }

    go : (n : Native) → IsSingle (fresh (native n) vars)
    go native_type.Cell = as-set-up _ refl refl refl refl refl
    go native_type.Directory = as-set-up _ refl refl refl refl refl
    go native_type.Lines = as-set-up _ refl refl refl refl refl
    go native_type.Take = as-set-up _ refl refl refl refl refl
    go native_type.Skip = as-set-up _ refl refl refl refl refl
    go native_type.Only = as-set-up _ refl refl refl refl refl
    go native_type.Number = as-set-up _ refl refl refl refl refl
    go native_type.Sink = as-set-up _ refl refl refl refl refl

-- 7. A call starts

-- each of these operations is of class 0
abbrev OfOneClass : List Operation → Type 0
OfOneClass os = AllByRecursion (λ (o : Operation). o.class ≡ 0) os

class-found : (test : Operation → Bool) (os : List Operation) → OfOneClass os → with_item (find test os) (λ o. o.class) 0 ≡ 0
class-found test [] h = refl
class-found test (o ∷ os) h = go (test o) (class-found test os h.1)
  where
    go : (b : Bool) → with_item (find test os) (λ o. o.class) 0 ≡ 0 → with_item (cond b (Some o) (find test os)) (λ o. o.class) 0 ≡ 0
    go true later = h.0
    go false later = later

of-one-class : (n : Native) → OfOneClass (native_outline n).operations
of-one-class native_type.Cell = (refl, (refl, (refl, (refl, (refl, tt)))))
of-one-class native_type.Directory = (refl, (refl, (refl, (refl, tt))))
of-one-class native_type.Lines = (refl, (refl, tt))
of-one-class native_type.Take = (refl, (refl, tt))
of-one-class native_type.Skip = (refl, (refl, tt))
of-one-class native_type.Only = (refl, (refl, tt))
of-one-class native_type.Number = (refl, (refl, tt))
of-one-class native_type.Sink = (refl, (refl, (refl, tt)))

invocation-class : (n : Native) (traffic : Traffic) (k : ℕ) → (invocation (native n) traffic k).class ≡ 0
invocation-class n traffic k = go (call_at traffic k)
  where
    go : (o : Option Call) → with_item o (class_of (native n)) 0 ≡ 0
    go None = refl
    go (Some c) = class-found _ (native_outline n).operations (of-one-class n)

-- while a process runs no other may start
none-may : (it : Active) (i : Invocation) → IsSingle it → RunsOne it → i.class ≡ 0 → may_start it.crew i ≡ true → ⊥
none-may it i h x class may = full (subst (λ o. nat_lt (0 + cond (class_is 0 o) 1 0) 1 ≡ true) x.serves
    (subst (λ (ps : List (ℕ × Worker)). nat_lt (count_by (λ (e : ℕ × Worker). serves_class 0 e.1) ps) 1 ≡ true) x.processes
    (subst (λ ls. nat_lt (count_by (λ (e : ℕ × Worker). serves_class 0 e.1) it.crew.processes) (slice_index ls 0) ≡ true) h.limits
    (subst (λ c. nat_lt (count_by (λ (e : ℕ × Worker). serves_class c e.1) it.crew.processes) (slice_index it.crew.limits c) ≡ true)
    class may))))
  where
    full : nat_lt (0 + cond (x.call.class == 0) 1 0) 1 ≡ true → ⊥
    full e = let bad : nat_lt 1 1 ≡ true = subst (λ c. nat_lt (0 + cond (c == 0) 1 0) 1 ≡ true) x.class e in cc bad

found-passes : {X : Type 0} (test : X → Bool) (xs : List X) (x : X) → find test xs ≡ Some x → test x ≡ true
found-passes test [] x is = absurd (cc is)
found-passes test (y ∷ ys) x is = go (test y) refl is (found-passes test ys x)
  where
    go : (b : Bool) → test y ≡ b → cond b (Some y) (find test ys) ≡ Some x → (find test ys ≡ Some x → test x ≡ true) → test x ≡ true
    go true passes e later = let same : y ≡ x = cc e in ap test (sym same) ∙ passes
    go false passes e later = later e

starts-alone : (it : Active) (e : Eject) (traffic : Traffic) (k : ℕ) → IsSingle it → (invocation it.kind traffic k).class ≡ 0
    → next_start traffic e it ≡ Some (invocation it.kind traffic k) → RunsNone it
starts-alone it e traffic k h class is = go h.work (nat_lt (length it.crew.processes) 16) is
  where
    go : RunsNone it ⊎ RunsOne it → (b : Bool)
        → cond b (find (may_start it.crew) (map (invocation it.kind traffic) e.queued)) None ≡ Some (invocation it.kind traffic k)
        → RunsNone it
    go (inl x) b found = x
    go (inr x) true found = absurd (none-may it (invocation it.kind traffic k) h x class (found-passes (may_start it.crew)
        (map (invocation it.kind traffic) e.queued) (invocation it.kind traffic k) found))
    go (inr x) false found = absurd (cc found)

pub single-start : (traffic : Traffic) (k p : ℕ) (c : Call) (e : Eject) (it : Active) → AllowsStart traffic k p e it → SingleIfNative it
    → SingleIfNative (with_start traffic k p c it)
single-start traffic k p c e it allowed h = go it.kind refl h
  where
    serving : Invocation
    serving = invocation it.kind traffic k

    class : (n : Native) → it.kind ≡ native n → serving.class ≡ 0
    class n kind = ap (λ t. (invocation t traffic k).class) kind ∙ invocation-class n traffic k

    worker : Worker
    worker = record { serves = Some serving; waits = nothing }

    started : (n : Native) → it.kind ≡ native n → RunsNone it → RunsOne (with_start traffic k p c it)
    started n kind x = record {
      number = p;
      worker = worker;
      call = serving;
      task = record { rest = begin it.kind c.operation c.args; answer = Go };
      processes = ap (put_at nat_cmp (least_free it.crew) worker) x.processes ∙ ap (λ (q : ℕ). (q, worker) ∷ []) (sym allowed.number);
      tasks = ap (put_at nat_cmp p (record { rest = begin it.kind c.operation c.args; answer = Go })) x.tasks;
      serves = refl;
      class = class n kind;
    }

    go : (t : Edentype) → it.kind ≡ t → SingleAs t it → SingleAs t (with_start traffic k p c it)
    go (declared t) kind h = tt
    go (native n) kind h = record {
      limits = h.limits;
      monitors = h.monitors;
      conditions = h.conditions;
      work = inr (started n kind (starts-alone it e traffic k h (class n kind) allowed.earliest));
    }

-- 8. A process of it is the only one

-- process p has the only task, where the type is native
abbrev pub IsAlone : Edentype → ℕ → List (ℕ × Task) → Type 0
IsAlone (native n) p ts = (t : Task) × (ts ≡ (p, t) ∷ [])
IsAlone (declared t) p ts = Unit {0}

pub single-alone : (t : Edentype) (it : Active) (p : ℕ) → is_some (worker_at it p) ≡ true → SingleAs t it → IsAlone t p it.tasks
single-alone (declared t) it p there h = tt
single-alone (native n) it p there h = go h.work
  where
    own : (x : RunsOne it) (b : Bool) → eq_by_cmp nat_cmp p x.number ≡ b → is_some (cond b (Some x.worker) None) ≡ true
        → (t : Task) × (it.tasks ≡ (p, t) ∷ [])
    own x true is some = (x.task, x.tasks ∙ ap (λ (q : ℕ). (q, x.task) ∷ []) (sym (same-true p x.number is)))
    own x false is some = absurd (cc some)

    go : RunsNone it ⊎ RunsOne it → (t : Task) × (it.tasks ≡ (p, t) ∷ [])
    go (inl x) = absurd (let bad : false ≡ true = sym (ap (λ ps. is_some (value_at nat_cmp p ps)) x.processes) ∙ there in cc bad)
    go (inr x) = own x (eq_by_cmp nat_cmp p x.number) refl (sym (ap (λ ps. is_some (value_at nat_cmp p ps)) x.processes) ∙ there)
