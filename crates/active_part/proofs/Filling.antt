-- The tasks of declared processes, which stand under the numbers 1 upward.
use Rattle.std.proofs.Common.{◌≡◌, ◌≤◌, ◌<◌, ◌==◌, ℕ, ◌+◌, false, List, [], ◌∷◌, ◌++◌, map, length, length-append}
use Rattle.std.proofs.Common.{refl, sym, ◌∙◌, ap, arith}
use Rattle.std.specs.declared.cmp.Ordering.TheVariants.{Less}
use Rattle.std.specs.Ordering.{nat_cmp}
use Rattle.std.specs.Cmp.{nat_cmp_is}
use Rattle.std.specs.FinMap.Entries.{by_order}
use Rattle.coordinator.specs.View.{setup_of as layout_of}
use Rattle.coordinator.specs.declared.parts.Setup.{Setup as Layout}
use Rattle.eden_model.specs.Crew.{Coordination, declared_from, fresh_crew, fresh as fresh_coordination}
use Rattle.eden_model.specs.Map.{put_at, each_value}
use Rattle.eden_value.specs.Datum.{Datum}
use Rattle.epl_syntax.specs.Meaning.{Rest as Meant, of_declared, declared, setup_of}
use Rattle.epl_syntax.specs.Rules.OfTypes.{TypeList}
use Rattle.epl_syntax.specs.Edentype.{Edentype, native, declared as declared_type}
use Rattle.epl_syntax.specs.declared.types.Native.TheVariants as natives
use Rattle.epl_syntax.specs.Turns.{process_left}
use Rattle.std.proofs.lemmas.List.{length-map}
use Rattle.edentypes.specs.declared.Kind.{Kind}
use Rattle.std.proofs.lemmas.Bool.Decides.{nat_tests}
use Rattle.epl_syntax.specs.declared.effect.Answer.TheVariants.{Go}
use Rattle.edentypes.specs.View.{kind_in, rest_of}
use Rattle.edentypes.specs.declared.Rest.{Rest}
use Rattle.journal.specs.World.{Task}
use Rattle.journal.specs.Ejects.{fresh, tasks_from}
use Rattle.active_part.specs.Body.{active_of}
use Rattle.active_part.specs.Places.{is_number_in, keys}
use Rattle.active_part.specs.View.{task_of}
use Rattle.active_part.specs.declared.Doing.{Doing}
use Rattle.active_part.specs.declared.task_list.TaskList.{TaskList}
use Rattle.active_part.proofs.Keys.{each-keys}
use Rattle.active_part.proofs.Tasks.{body_with}

-- those behind what is left have their tasks
pub record IsFilling (all left : List Rest) (es : List (ℕ × Doing)) : Type 0 where
  pub done : List Rest
  pub split : all ≡ left ++ done
  pub tasks : (t : Edentype) → each_value (task_of t) es ≡ tasks_from (length left + 1) (map (rest_of t) done)

append-nothing : {X : Type 0} (xs : List X) → xs ++ [] ≡ xs
append-nothing [] = refl
append-nothing (x ∷ xs) = ap (λ l. x ∷ l) (append-nothing xs)

append-more : {X : Type 0} (xs : List X) (x : X) (ys : List X) → (xs ++ x ∷ []) ++ ys ≡ xs ++ x ∷ ys
append-more [] x ys = refl
append-more (y ∷ xs) x ys = ap (λ l. y ∷ l) (append-more xs x ys)

pub filling-start : (all : List Rest) → IsFilling all all []
filling-start all = record { done = []; split = sym (append-nothing all); tasks = λ t. refl }

below-next : (k : ℕ) → nat_cmp k (k + 1) ≡ Less
below-next k = let below : k < k + 1 = omega arith in sym (nat_cmp_is k (k + 1) Less below)

-- a task of a number below all others stands first
put-first : (t : Edentype) (k : ℕ) (x : Task) (rs : List Rest)
    → put_at nat_cmp k x (tasks_from (k + 1) (map (rest_of t) rs)) ≡ (k, x) ∷ tasks_from (k + 1) (map (rest_of t) rs)
put-first t k x [] = refl
put-first t k x (r ∷ rs) =
    let next : ℕ × Task = (k + 1, record { rest = rest_of t r; answer = Go }) in
    let others : List (ℕ × Task) = tasks_from (k + 1 + 1) (map (rest_of t) rs) in
    ap (λ o. by_order o ((k, x) ∷ next ∷ others) ((k + 1, x) ∷ others) (next ∷ put_at nat_cmp k x others)) (below-next k)

pub filling-on : (all left now : List Rest) (r : Rest) (es new : List (ℕ × Doing)) (k : ℕ) → IsFilling all left es → left ≡ now ++ r ∷ []
    → k ≡ length now + 1
    → ((t : Edentype) → each_value (task_of t) new
    ≡ put_at nat_cmp k (task_of t (record { rest = r; answer = Go })) (each_value (task_of t) es))
    → IsFilling all now new
filling-on all left now r es new k h popped number put = record {
  done = r ∷ h.done;
  split = h.split ∙ ap (λ l. l ++ h.done) popped ∙ append-more now r h.done;
  tasks = λ t. put t
      ∙ ap (λ n. put_at nat_cmp n (record { rest = rest_of t r; answer = Go }) (each_value (task_of t) es)) number
      ∙ ap (put_at nat_cmp (length now + 1) (record { rest = rest_of t r; answer = Go }))
      (h.tasks t ∙ ap (λ n. tasks_from (n + 1) (map (rest_of t) h.done)) many)
      ∙ put-first t (length now + 1) (record { rest = rest_of t r; answer = Go }) h.done;
}
  where
    many : length left ≡ length now + 1
    many = ap length popped ∙ length-append now (r ∷ [])

-- what is left is no more than all
pub few-left : (all left now : List Rest) (r : Rest) (es : List (ℕ × Doing)) → IsFilling all left es → left ≡ now ++ r ∷ []
    → length all ≤ 8 → length now ≤ 8
few-left all left now r es h popped few =
    let whole : length all ≡ length left + length h.done = ap length h.split ∙ length-append left h.done in
    let one : length left ≡ length now + 1 = ap length popped ∙ length-append now (r ∷ []) in
    omega (arith, whole, one, few)

pub filling-end : (all : List Rest) (es : List (ℕ × Doing)) (t : Edentype) → IsFilling all [] es
    → each_value (task_of t) es ≡ tasks_from 1 (map (rest_of t) all)
filling-end all es t h = h.tasks t ∙ ap (λ l. tasks_from 1 (map (rest_of t) l)) (sym h.split)

-- the whole of a fresh part
pub fresh-body : (ts : TypeList) (kind : Kind) (vars : List Datum) (list : TaskList) (it : Coordination) (setup : Layout)
    (rests : List Rest) → it ≡ fresh_coordination (layout_of setup) → layout_of setup ≡ setup_of (kind_in ts kind)
    → ((t : Edentype) → each_value (task_of t) list.entries.items ≡ tasks_from 1 (map (rest_of t) rests))
    → map (rest_of (kind_in ts kind)) rests ≡ declared (kind_in ts kind)
    → active_of (body_with ts kind vars list it) ≡ fresh (kind_in ts kind) vars
fresh-body ts kind vars list it setup rests crew laid tasks are = λ i. record {
  kind = kind_in ts kind;
  vars = vars;
  tasks = (tasks (kind_in ts kind) ∙ ap (tasks_from 1) are) i;
  crew = (ap (λ (c : Coordination). c.crew) crew ∙ ap fresh_crew laid) i;
}

pub fresh-queue : (it : Coordination) (setup : Layout) → it ≡ fresh_coordination (layout_of setup) → it.queued ≡ []
fresh-queue it setup crew = ap (λ (c : Coordination). c.queued) crew

-- the tasks so far have greater numbers

among-later : (p n : ℕ) (rs : List Meant) → p < n → is_number_in p (keys (tasks_from n rs)) ≡ false
among-later p n [] less = refl
among-later p n (r ∷ rs) less =
    let other : (n == p) ≡ false = grind (arith, nat_tests, less) in rw other (among-later p (n + 1) rs (omega (arith, less)))

pub not-yet : (all left now : List Rest) (r : Rest) (es : List (ℕ × Doing)) (k : ℕ) → IsFilling all left es → left ≡ now ++ r ∷ []
    → k ≡ length now + 1 → is_number_in k (keys es) ≡ false
not-yet all left now r es k h popped number =
    let t = native natives.Cell in
    let many : length left ≡ length now + 1 = ap length popped ∙ length-append now (r ∷ []) in
    ap (is_number_in k) (sym (each-keys (task_of t) es) ∙ ap keys (h.tasks t))
    ∙ among-later k (length left + 1) (map (rest_of t) h.done) (omega (arith, many, number))

-- each of them has a task, and so has each declared process
from-both : (n : ℕ) (rs : List Meant) → keys (tasks_from n rs) ≡ keys (declared_from n (length rs))
from-both n [] = refl
from-both n (r ∷ rs) = ap (λ l. n ∷ l) (from-both (n + 1) rs)

as-declared : (t : Edentype) → length (declared t) ≡ (setup_of t).declared
as-declared (native natives.Cell) = refl
as-declared (native natives.Directory) = refl
as-declared (native natives.Lines) = refl
as-declared (native natives.Take) = refl
as-declared (native natives.Skip) = refl
as-declared (native natives.Only) = refl
as-declared (native natives.Number) = refl
as-declared (native natives.Sink) = refl
as-declared (declared_type t) = length-map t.processes (λ p. of_declared (process_left p))

pub fresh-tasks : (t : Edentype) (es : List (ℕ × Doing)) (it : Coordination) (setup : Layout) (rests : List Rest)
    → it ≡ fresh_coordination (layout_of setup) → layout_of setup ≡ setup_of t
    → each_value (task_of t) es ≡ tasks_from 1 (map (rest_of t) rests) → map (rest_of t) rests ≡ declared t
    → keys es ≡ keys it.crew.processes
fresh-tasks t es it setup rests crew laid tasks are =
    sym (each-keys (task_of t) es) ∙ ap keys (tasks ∙ ap (tasks_from 1) are) ∙ from-both 1 (declared t)
    ∙ ap (λ n. keys (declared_from 1 n)) (as-declared t)
    ∙ sym (ap (λ (c : Coordination). keys c.crew.processes) crew ∙ ap (λ l. keys (fresh_crew l).processes) laid)
