-- The processes of an active part stand in ascending order of their numbers, and each has its task; every change keeps that.
use Rattle.std.proofs.Common.{◌≡◌, ◌==◌, ◌-◌, ◌+◌, ◌<◌, arith, ℕ, zero, suc, Bool, true, false, cond, not, ◌&&◌, T, List, [], ◌∷◌, ◌++◌}
use Rattle.std.proofs.Common.{map, length, Option, None, Some, is_some, slice_get, refl, sym, ◌∙◌, ap, subst}
use Rattle.std.specs.Option.{option_map}
use Rattle.std.specs.Ordering.{nat_cmp, eq_by_cmp, is_lt}
use Rattle.std.specs.declared.cmp.Ordering.TheVariants.{Less}
use Rattle.std.specs.Cmp.{nat_cmp_total, nat_cmp_is}
use Rattle.std.specs.FinMap.{nat_cmp-IsAntisymmetric}
use Rattle.std.specs.FinMap.Entries.{is_sorted, below_all, is_sorted-put, is_sorted-where_key, find-put, find-where_key}
use Rattle.eden_value.specs.Datum.{Datum}
use Rattle.eden_model.specs.Map.{with_item, first, value_at, changed_at, where_key}
use Rattle.eden_model.specs.Crew.{Waiting, nothing, outside, Process, Monitor, Crew, with_waits, set_waits, set_waits_of, set_monitor}
use Rattle.eden_model.specs.Crew.{set_condition, match_holder, locked_by, locked, left, waited, queued_at, signalled, least_free}
use Rattle.eden_model.specs.Crew.{is_held_by, leave_held, declared_from, entry, condition}
use Rattle.eden_model.specs.Traffic.{Traffic, Call}
use Rattle.eden_model.proofs.Laws.{value-changed}
use Rattle.epl_syntax.specs.declared.effect.Answer.{Answer}
use Rattle.epl_syntax.specs.Edentype.{Edentype}
use Rattle.epl_syntax.specs.declared.types.Native.TheVariants as code
use Rattle.epl_syntax.specs.Edentype.{native, declared as declared_type}
use Rattle.epl_syntax.specs.Tree.{Process as Body}
use Rattle.epl_syntax.specs.Turns.{process_left}
use Rattle.epl_syntax.specs.declared.effect.Answer.TheVariants.{Go}
use Rattle.epl_syntax.specs.Meaning.{of_declared, Turned, begin}
use Rattle.eden_value.specs.declared.status.Status.{Status}
use Rattle.journal.specs.World.{Task, Active}
use Rattle.journal.specs.Ejects.{on_crew, told, fresh, tasks_from}
use Rattle.journal.specs.Processes.{invocation, with_start, turned, without_process, waits_or_told}
use Rattle.journal.specs.Sites.{IsManned}

-- 1. Changes that leave the numbers of a crew as they are

pub record SameNumbers (old new : Crew) : Type 0 where
  pub order : is_sorted nat_cmp new.processes ≡ is_sorted nat_cmp old.processes
  pub there : (p : ℕ) → is_some (value_at nat_cmp p new.processes) ≡ is_some (value_at nat_cmp p old.processes)

same-crew : (crew : Crew) → SameNumbers crew crew
same-crew crew = record { order = refl; there = λ p. refl }

both-same : (a b c : Crew) → SameNumbers a b → SameNumbers b c → SameNumbers a c
both-same a b c x y = record { order = y.order ∙ x.order; there = λ p. y.there p ∙ x.there p }

below-waits : (k p : ℕ) (w : Waiting) (es : List (ℕ × Process)) → below_all nat_cmp k (map (with_waits p w) es) ≡ below_all nat_cmp k es
below-waits k p w [] = refl
below-waits k p w (e ∷ es) = ap (λ b. is_lt (nat_cmp k e.0) && b) (below-waits k p w es)

pub sorted-waits : (p : ℕ) (w : Waiting) (es : List (ℕ × Process)) → is_sorted nat_cmp (map (with_waits p w) es) ≡ is_sorted nat_cmp es
sorted-waits p w [] = refl
sorted-waits p w (e ∷ es) = λ i. below-waits e.0 p w es i && sorted-waits p w es i

there-waits : (q p : ℕ) (w : Waiting) (es : List (ℕ × Process))
    → is_some (value_at nat_cmp q (map (with_waits p w) es)) ≡ is_some (value_at nat_cmp q es)
there-waits q p w [] = refl
there-waits q p w (e ∷ es) = go (there-waits q p w es) (eq_by_cmp nat_cmp q e.0) refl
  where
    go : is_some (value_at nat_cmp q (map (with_waits p w) es)) ≡ is_some (value_at nat_cmp q es) → (b : Bool) → eq_by_cmp nat_cmp q e.0 ≡ b
        → is_some (value_at nat_cmp q (map (with_waits p w) (e ∷ es))) ≡ is_some (value_at nat_cmp q (e ∷ es))
    go later true is = rw is refl
    go later false is = rw is later

pub same-waits : (p : ℕ) (w : Waiting) (crew : Crew) → SameNumbers crew (set_waits p w crew)
same-waits p w crew = record { order = sorted-waits p w crew.processes; there = λ q. there-waits q p w crew.processes }

same-waits_of : (o : Option ℕ) (w : Waiting) (crew : Crew) → SameNumbers crew (set_waits_of o w crew)
same-waits_of None w crew = same-crew crew
same-waits_of (Some p) w crew = same-waits p w crew

same-item : {X : Type 0} (o : Option X) (f : X → Crew) (crew : Crew) → ((x : X) → SameNumbers crew (f x))
    → SameNumbers crew (with_item o f crew)
same-item None f crew each = same-crew crew
same-item (Some x) f crew each = each x

same-monitor : (m : ℕ) (it : Monitor) (crew : Crew) → SameNumbers crew (set_monitor m it crew)
same-monitor m it crew = record { order = refl; there = λ p. refl }

same-locked_by : (p m : ℕ) (it : Monitor) (crew : Crew) → SameNumbers crew (locked_by p m it crew)
same-locked_by p m it crew = go it.holder
  where
    go : (o : Option ℕ) → SameNumbers crew (match_holder o (set_monitor m (record it { holder = Some p }) crew)
        (set_waits p (entry m) (set_monitor m (record it { entering = it.entering ++ p ∷ [] }) crew)))
    go None = same-monitor m _ crew
    go (Some h) = both-same crew (set_monitor m (record it { entering = it.entering ++ p ∷ [] }) crew) _ (same-monitor m _ crew)
        (same-waits p (entry m) _)

pub same-locked : (p m : ℕ) (crew : Crew) → SameNumbers crew (locked p m crew)
same-locked p m crew = same-item (slice_get crew.monitors (m - 1)) _ crew (λ it. same-locked_by p m it crew)

pub same-left : (m : ℕ) (crew : Crew) → SameNumbers crew (left m crew)
same-left m crew = same-item (slice_get crew.monitors (m - 1)) _ crew
    (λ it. both-same crew (set_monitor m _ crew) _ (same-monitor m _ crew)
    (same-waits_of (first it.entering) nothing (set_monitor m _ crew)))

pub same-waited : (p c : ℕ) (crew : Crew) → SameNumbers crew (waited p c crew)
same-waited p c crew = same-item (slice_get crew.conditions c) _ crew (λ it.
    both-same crew (left it.monitor crew) _ (same-left it.monitor crew)
    (both-same (left it.monitor crew) (set_condition c (record it { waiters = it.waiters ++ p ∷ [] }) (left it.monitor crew)) _
    (record { order = refl; there = λ q. refl }) (same-waits p (condition c) _)))

same-queued : (o : Option ℕ) (m : ℕ) (crew : Crew) → SameNumbers crew (queued_at o m crew)
same-queued None m crew = same-crew crew
same-queued (Some p) m crew = same-item (slice_get crew.monitors (m - 1)) _ crew
    (λ it. both-same crew (set_monitor m _ crew) _ (same-monitor m _ crew) (same-waits p (entry m) (set_monitor m _ crew)))

pub same-signalled : (c : ℕ) (crew : Crew) → SameNumbers crew (signalled c crew)
same-signalled c crew = same-item (slice_get crew.conditions c) _ crew (λ it.
    both-same crew (set_condition c _ crew) _ (record { order = refl; there = λ q. refl })
    (same-queued (first it.waiters) it.monitor (set_condition c _ crew)))

same-held : (p n : ℕ) (crew : Crew) → SameNumbers crew (leave_held p n crew)
same-held p zero crew = same-crew crew
same-held p (suc n) crew = go (same-held p n crew) (slice_get crew.monitors n)
  where
    one : SameNumbers crew (leave_held p n crew) → (b : Bool)
        → SameNumbers crew (cond b (left (n + 1) (leave_held p n crew)) (leave_held p n crew))
    one x true = both-same crew (leave_held p n crew) _ x (same-left (n + 1) (leave_held p n crew))
    one x false = x

    go : SameNumbers crew (leave_held p n crew) → (o : Option Monitor)
        → SameNumbers crew (with_item o (λ it. cond (is_held_by p it.holder) (left (n + 1) (leave_held p n crew)) (leave_held p n crew))
        (leave_held p n crew))
    go x None = x
    go x (Some it) = one x (is_held_by p it.holder)

-- 2. Changes of an active part

pub manned-crew : (f : Crew → Crew) → ((crew : Crew) → SameNumbers crew (f crew)) → (it : Active) → IsManned it → IsManned (on_crew f it)
manned-crew f same it m = record {
  numbered = subst T (sym (same it.crew).order) m.numbered;
  tasked = λ p is. m.tasked p (sym ((same it.crew).there p) ∙ is);
}

there-task : (q p : ℕ) (f : Task → Task) (ts : List (ℕ × Task))
    → is_some (value_at nat_cmp q (changed_at nat_cmp p f ts)) ≡ is_some (value_at nat_cmp q ts)
there-task q p f ts = ap is_some (value-changed nat_cmp nat_cmp_total nat_cmp-IsAntisymmetric q p f ts) ∙ some (eq_by_cmp nat_cmp q p)
    (value_at nat_cmp q ts)
  where
    some : (b : Bool) (o : Option Task) → is_some (cond b (option_map f o) o) ≡ is_some o
    some true None = refl
    some true (Some t) = refl
    some false o = refl

pub manned-told : (p : ℕ) (a : Answer) (it : Active) → IsManned it → IsManned (told p a it)
manned-told p a it m = record {
  numbered = subst T (sym (same-waits p nothing it.crew).order) m.numbered;
  tasked = λ q is. there-task q p (λ t. record t { answer = a }) it.tasks ∙ m.tasked q (sym ((same-waits p nothing it.crew).there q) ∙ is);
}

pub manned-turned : (p : ℕ) (t : Turned) (it : Active) → IsManned it → IsManned (turned p t it)
manned-turned p t it m = record { numbered = m.numbered; tasked = λ q is. there-task q p _ it.tasks ∙ m.tasked q is }

pub manned-waits_or_told : (p : ℕ) (o : Option Status) (it : Active) → IsManned it → IsManned (waits_or_told p o it)
manned-waits_or_told p None it m = manned-crew (set_waits p outside) (same-waits p outside) it m
manned-waits_or_told p (Some why) it m = manned-told p _ it m

-- an invocation that starts has the least free number
pub manned-start : (traffic : Traffic) (k p : ℕ) (c : Call) (it : Active) → p ≡ least_free it.crew → IsManned it
    → IsManned (with_start traffic k p c it)
manned-start traffic k p c it is m = record {
  numbered = is_sorted-put nat_cmp nat_cmp_total (least_free it.crew) one it.crew.processes m.numbered;
  tasked = λ q here. ap is_some (find-put nat_cmp nat_cmp_total q p task it.tasks)
      ∙ go q (eq_by_cmp nat_cmp q p) (ap (λ n. is_some (cond (eq_by_cmp nat_cmp q n) (Some one) (value_at nat_cmp q it.crew.processes))) is
      ∙ sym (ap is_some (find-put nat_cmp nat_cmp_total q (least_free it.crew) one it.crew.processes)) ∙ here);
}
  where
    one : Process
    one = record { serves = Some (invocation it.kind traffic k); waits = nothing }

    task : Task
    task = record { rest = begin it.kind c.operation c.args; answer = Go }

    go : (q : ℕ) (b : Bool) → is_some (cond b (Some one) (value_at nat_cmp q it.crew.processes)) ≡ true
        → is_some (cond b (Some task) (value_at nat_cmp q it.tasks)) ≡ true
    go q true h = refl
    go q false h = m.tasked q h

pub other-key : {X : Type 0} (p q : ℕ) (es : List (ℕ × X))
    → value_at nat_cmp q (where_key nat_cmp (λ k. not (k == p)) es) ≡ cond (not (q == p)) (value_at nat_cmp q es) None
other-key p q es = find-where_key nat_cmp (λ k. not (k == p)) q
    (λ x same. ap (λ k. not (k == p)) (sym (nat_cmp-IsAntisymmetric q x same))) es

-- a process that ends goes with its task
pub manned-without : (p : ℕ) (it : Active) → IsManned it → IsManned (without_process p it)
manned-without p it m = record {
  numbered = is_sorted-where_key nat_cmp (λ k. not (k == p)) crew.processes (subst T (sym same.order) m.numbered);
  tasked = λ q is. ap is_some (other-key p q it.tasks) ∙ go q (not (q == p)) (sym (ap is_some (other-key p q crew.processes)) ∙ is);
}
  where
    crew : Crew
    crew = leave_held p (length it.crew.monitors) it.crew

    same : SameNumbers it.crew crew
    same = same-held p (length it.crew.monitors) it.crew

    go : (q : ℕ) (b : Bool) → is_some (cond b (value_at nat_cmp q crew.processes) None) ≡ true
        → is_some (cond b (value_at nat_cmp q it.tasks) None) ≡ true
    go q true h = m.tasked q (sym (same.there q) ∙ h)
    go q false h = absurd (cc h)

-- 3. A new active part: the declared processes have the declared tasks

both : (a b : Bool) → T a → T b → T (a && b)
both true b x y = y
both false b x y = absurd x

below-declared : (k n more : ℕ) → k < n → T (below_all nat_cmp k (declared_from n more))
below-declared k n zero lt = tt
below-declared k n (suc more) lt = both (is_lt (nat_cmp k n)) (below_all nat_cmp k (declared_from (n + 1) more))
    (subst (λ o. T (is_lt o)) (nat_cmp_is k n Less lt) tt) (below-declared k (n + 1) more (omega (arith, lt)))

sorted-declared : (n more : ℕ) → T (is_sorted nat_cmp (declared_from n more))
sorted-declared n zero = tt
sorted-declared n (suc more) = both (below_all nat_cmp n (declared_from (n + 1) more)) (is_sorted nat_cmp (declared_from (n + 1) more))
    (below-declared n (n + 1) more (omega arith)) (sorted-declared (n + 1) more)

tasked-declared : (k : ℕ) (ps : List Body) (p : ℕ) → is_some (value_at nat_cmp p (declared_from k (length ps))) ≡ true
    → is_some (value_at nat_cmp p (tasks_from k (map (λ q. of_declared (process_left q)) ps))) ≡ true
tasked-declared k [] p is = is
tasked-declared k (b ∷ ps) p is = go (eq_by_cmp nat_cmp p k) is (tasked-declared (k + 1) ps p)
  where
    go : (same : Bool) → is_some (cond same (Some (record { serves = None; waits = nothing }))
        (value_at nat_cmp p (declared_from (k + 1) (length ps)))) ≡ true
        → (is_some (value_at nat_cmp p (declared_from (k + 1) (length ps))) ≡ true
        → is_some (value_at nat_cmp p (tasks_from (k + 1) (map (λ q. of_declared (process_left q)) ps))) ≡ true)
        → is_some (cond same (Some (record { rest = of_declared (process_left b); answer = Go }))
        (value_at nat_cmp p (tasks_from (k + 1) (map (λ q. of_declared (process_left q)) ps)))) ≡ true
    go true is more = refl
    go false is more = more is

pub manned-fresh : (t : Edentype) (vars : List Datum) → IsManned (fresh t vars)
manned-fresh (native code.Cell) vars = record { numbered = tt; tasked = λ p is. absurd (cc is) }
manned-fresh (native code.Directory) vars = record { numbered = tt; tasked = λ p is. absurd (cc is) }
manned-fresh (native code.Lines) vars = record { numbered = tt; tasked = λ p is. absurd (cc is) }
manned-fresh (native code.Take) vars = record { numbered = tt; tasked = λ p is. absurd (cc is) }
manned-fresh (native code.Skip) vars = record { numbered = tt; tasked = λ p is. absurd (cc is) }
manned-fresh (native code.Only) vars = record { numbered = tt; tasked = λ p is. absurd (cc is) }
manned-fresh (native code.Number) vars = record { numbered = tt; tasked = λ p is. absurd (cc is) }
manned-fresh (native code.Sink) vars = record { numbered = tt; tasked = λ p is. absurd (cc is) }
manned-fresh (declared_type t) vars = record {
  numbered = sorted-declared 1 (length t.processes);
  tasked = λ p is. tasked-declared 1 t.processes p is;
}
