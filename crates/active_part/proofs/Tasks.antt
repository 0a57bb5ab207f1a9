-- What the calls of an active part change of it.
use Rattle.std.proofs.Common.{◌≡◌, ◌≤◌, ℕ, ◌==◌, Bool, true, false, cond, List, [], ◌∷◌, map, Option, None, Some}
use Rattle.std.proofs.Common.{get_or, refl, sym, ◌∙◌, ap, subst, arith}
use Rattle.std.specs.Prelude.{IfSome, OnOk, Result, Ok, Err, is_some, slice_set}
use Rattle.std.proofs.lemmas.Bool.{eqb-true}
use Rattle.std.proofs.lemmas.Bool.Decides.{nat_tests}
use Rattle.std.specs.Ordering.{nat_cmp, eq_by_cmp, is_eq}
use Rattle.std.specs.Option.{option_map}
use Rattle.eden_model.specs.Map.{value_at, put_at, changed_at, each_value, with_item}
use Rattle.eden_model.specs.Crew.{Process, Invocation, Waiting, nothing, Runs, Crew, Coordination, waits_at, with_waits, set_waits}
use Rattle.eden_model.specs.Crew.{startable, least_free, started_in}
use Rattle.eden_model.proofs.Numbers.{same-true, same-self}
use Rattle.capability.specs.declared.Uid.{Uid}
use Rattle.eden_value.specs.Datum.{Datum}
use Rattle.coordinator.specs.Ready.{AscendPast}
use Rattle.coordinator.specs.declared.parts.Started.{Started}
use Rattle.invocation.specs.declared.call.Call.{Call}
use Rattle.epl_syntax.specs.declared.effect.Answer.{Answer}
use Rattle.epl_syntax.specs.declared.effect.Answer.TheVariants.{Go}
use Rattle.epl_syntax.specs.declared.effect.Effect.{Effect}
use Rattle.epl_syntax.specs.Edentype.{Edentype}
use Rattle.epl_syntax.specs.Meaning.{Turned, turn, begin}
use Rattle.epl_syntax.specs.Rules.OfTypes.{TypeList}
use Rattle.edentypes.specs.View.{kind_in, rest_of, turned_of}
use Rattle.journal.specs.World.{Task, Active}
use Rattle.journal.specs.Processes.{turn_of}
use Rattle.active_part.specs.Body.{Body, active_of}
use Rattle.active_part.specs.Bodies.{told_body, turned_body}
use Rattle.active_part.specs.Places.{StandsAt}
use Rattle.active_part.specs.View.{body_of, task_of, IsStarted, StartsNext}
use Rattle.edentypes.specs.declared.Kind.{Kind}
use Rattle.active_part.specs.declared.Doing.{Doing}
use Rattle.active_part.specs.declared.part.Part.{Part}
use Rattle.active_part.specs.declared.task_list.TaskList.{TaskList}
use Rattle.active_part.proofs.Entries.{found-at, written-at}

same-test : (p k : ℕ) → is_eq (nat_cmp p k) ≡ (k == p)
same-test p k = go (eq_by_cmp nat_cmp p k) refl (k == p) refl
  where
    go : (a : Bool) → eq_by_cmp nat_cmp p k ≡ a → (b : Bool) → (k == p) ≡ b → eq_by_cmp nat_cmp p k ≡ (k == p)
    go true a true b = a ∙ sym b
    go true a false b = let x : p ≡ k = same-true p k a in absurd (let bad : true ≡ false = sym (grind (arith, x)) ∙ b in cc)
    go false a true b = let x : k ≡ p = eqb-true k p b in
        let bad : true ≡ false = sym (same-self p) ∙ ap (λ j. eq_by_cmp nat_cmp p j) (sym x) ∙ a in cc
    go false a false b = a ∙ sym b

-- Who waits for nothing already

others-wait : (p k : ℕ) (w : Waiting) (es : List (ℕ × Process)) → p ≤ k → AscendPast k es → map (with_waits p w) es ≡ es
others-wait p k w [] past h = refl
others-wait p k w (e ∷ es) past h =
    let apart : (e.0 == p) ≡ false = grind (arith, nat_tests, past, h.0) in
    rw apart (ap (λ l. e ∷ l) (others-wait p e.0 w es (omega (arith, past, h.0)) h.2))

waits-already : (p k : ℕ) (es : List (ℕ × Process)) → AscendPast k es → waits_at p es ≡ Some nothing → map (with_waits p nothing) es ≡ es
waits-already p k [] h waits = refl
waits-already p k (e ∷ es) h waits = go (is_eq (nat_cmp p e.0)) refl (e.0 == p) refl waits (λ w. waits-already p e.0 es h.2 w)
  where
    go : (a : Bool) → is_eq (nat_cmp p e.0) ≡ a → (b : Bool) → (e.0 == p) ≡ b
        → option_map (λ (it : Process). it.waits) (cond a (Some e.1) (value_at nat_cmp p es)) ≡ Some nothing
        → (waits_at p es ≡ Some nothing → map (with_waits p nothing) es ≡ es) → map (with_waits p nothing) (e ∷ es) ≡ e ∷ es
    go true a false b w rest = absurd (let bad : true ≡ false = sym a ∙ same-test p e.0 ∙ b in cc bad)
    go false a true b w rest = absurd (let bad : true ≡ false = sym b ∙ sym (same-test p e.0) ∙ a in cc bad)
    go true a true b w rest =
        let is : e.1.waits ≡ nothing = cc w in
        let same : p ≡ e.0 = sym (eqb-true e.0 p b) in
        rw b (ap (λ x. (e.0, record e.1 { waits = x }) ∷ map (with_waits p nothing) es) (sym is)
        ∙ ap (λ l. e ∷ l) (others-wait p e.0 nothing es (omega (arith, same)) h.2))
    go false a false b w rest = rw b (ap (λ l. e ∷ l) (rest w))

-- it stays as it is where it is told at once
pub runs-already : (p : ℕ) (crew : Crew) → AscendPast 0 crew.processes → Runs crew p → set_waits p nothing crew ≡ crew
runs-already p crew h runs = ap (λ ps. record crew { processes = ps }) (waits-already p 0 crew.processes h runs)

-- a part as a body, by what it is made of
abbrev pub body_with : TypeList → Kind → List Datum → TaskList → Coordination → Body
body_with ts kind vars tasks crew = record {
  kind = kind_in ts kind;
  vars = vars;
  tasks = each_value (task_of (kind_in ts kind)) tasks.entries.items;
  crew = crew;
}

-- A process is told

pub answered-body : (ts : TypeList) (a : Part) (p : ℕ) (answer : Answer) (tasks : TaskList) (crew : Coordination)
    → ((t : Edentype) → each_value (task_of t) tasks.entries.items
    ≡ changed_at nat_cmp p (λ x. record x { answer = answer }) (each_value (task_of t) a.tasks.entries.items))
    → crew ≡ record a.crew { crew = set_waits p nothing a.crew.crew }
    → body_with ts a.kind a.vars tasks crew ≡ told_body p answer (body_of ts a)
answered-body ts a p answer tasks crew put waits = λ i. record (body_of ts a) { tasks = put (kind_in ts a.kind) i; crew = waits i }

-- A turn

turn-is : (it : Active) (p : ℕ) (me : Uid) (v : Doing) (t : Turned) → value_at nat_cmp p it.tasks ≡ Some (task_of it.kind v)
    → turn_of me it p ≡ Some t → turn it.kind it.vars (rest_of it.kind v.rest) v.answer me ≡ t
turn-is it p me v t at turns =
    let both : Some (turn it.kind it.vars (rest_of it.kind v.rest) v.answer me) ≡ Some t =
    sym (ap (λ o. with_item o (λ (x : Task). Some (turn it.kind it.vars x.rest x.answer me)) None) at) ∙ turns in
    cc both

module _ (ts : TypeList) (a : Part) (p place : ℕ) (me : Uid) (e : ℕ × Doing) (w : Doing) (vars : List Datum) (effect : Effect)
    (tasks : TaskList) where
  pub taken-body : StandsAt p place a.tasks.entries.items → e ≡ get_or a.tasks.entries.items place e
      → tasks.entries.items ≡ slice_set a.tasks.entries.items place (e.0, w)
      → turned_of vars (rest_of (kind_in ts a.kind) w.rest) effect
      ≡ turn (kind_in ts a.kind) a.vars (rest_of (kind_in ts a.kind) e.1.rest) e.1.answer me → w.answer ≡ Go
      → (t : Turned) → turn_of me (active_of (body_of ts a)) p ≡ Some t
      → (effect ≡ t.effect) × (body_with ts a.kind vars tasks a.crew ≡ turned_body p t (body_of ts a))
  taken-body stands found set took go_on t turns = (
    ap (λ (x : Turned). x.effect) is,
    λ i. record (body_of ts a) { vars = (is i).vars; tasks = written i },
  )
    where
      is : turned_of vars (rest_of (kind_in ts a.kind) w.rest) effect ≡ t
      is = took ∙ turn-is (active_of (body_of ts a)) p me e.1 t
          (found-at (task_of (kind_in ts a.kind)) p place e a.tasks.entries.items stands found) turns

      same : task_of (kind_in ts a.kind) w ≡ record { rest = t.rest; answer = Go }
      same = λ i. record { rest = (is i).rest; answer = go_on i }

      written : each_value (task_of (kind_in ts a.kind)) tasks.entries.items ≡ changed_at nat_cmp p
          (λ (old : Task). record { rest = t.rest; answer = Go })
          (each_value (task_of (kind_in ts a.kind)) a.tasks.entries.items)
      written = written-at (task_of (kind_in ts a.kind)) p place
          (λ (old : Task). record { rest = t.rest; answer = Go }) e w a.tasks.entries.items tasks.entries.items stands found set same

-- A start

-- the invocation that was found to have started
pub started-next : (old new : Coordination) (it : Option Started) (st : Started) → it ≡ Some st
    → option_map (λ (s : Started). s.call) it ≡ option_map (λ (i : Invocation). i.call) (startable old.crew old.queued)
    → IfSome it (λ s. s.process ≡ least_free old.crew)
    → new ≡ with_item (startable old.crew old.queued) (λ i. started_in i old) old → StartsNext old new st
started-next old new it st is call process after = record {
  call = sym (ap (option_map (λ (s : Started). s.call)) is) ∙ call;
  process = subst (λ o. IfSome o (λ s. s.process ≡ least_free old.crew)) is process;
  after = after;
}

module _ (ts : TypeList) (a : Part) (x : Call) (st : Started) (p : ℕ) (crew : Coordination) (tasks : TaskList) (doing : Doing) where
  pub begun-body : StartsNext a.crew crew st → p ≡ least_free a.crew.crew
      → ((t : Edentype) → each_value (task_of t) tasks.entries.items ≡ put_at nat_cmp p (task_of t doing)
      (each_value (task_of t) a.tasks.entries.items))
      → task_of (kind_in ts a.kind) doing ≡ record { rest = begin (kind_in ts a.kind) x.operation x.args; answer = Go }
      → IsStarted (body_of ts a) (body_with ts a.kind a.vars tasks crew) x st
  begun-body next free put begun i may = (called, next.process, λ j. record (body_of ts a) { tasks = tasked j; crew = crewed j })
    where
      called : st.call ≡ i.call
      called = let both : Some st.call ≡ Some i.call = next.call ∙ ap (option_map (λ (j : Invocation). j.call)) may in cc both

      crewed : crew ≡ started_in i a.crew
      crewed = next.after ∙ ap (λ o. with_item o (λ j. started_in j a.crew) a.crew) may

      tasked : each_value (task_of (kind_in ts a.kind)) tasks.entries.items ≡ put_at nat_cmp (least_free a.crew.crew)
          (record { rest = begin (kind_in ts a.kind) x.operation x.args; answer = Go })
          (each_value (task_of (kind_in ts a.kind)) a.tasks.entries.items)
      tasked = put (kind_in ts a.kind)
          ∙ (λ j. put_at nat_cmp (free j) (begun j) (each_value (task_of (kind_in ts a.kind)) a.tasks.entries.items))

-- where none is started, none may start
pub none-starts : {X Y : Type 0} (f : X → ℕ) (g : Y → ℕ) (it : Option X) (o : Option Y) → it ≡ None
    → option_map f it ≡ option_map g o → is_some o ≡ true → ⊥
none-starts f g it None is call some = absurd cc
none-starts f g it (Some y) is call some = let bad : None ≡ Some (g y) = sym (ap (option_map f) is) ∙ call in cc bad

pub on-ok : {X Y A B : Type 0} (r : Result X Y) → (A → B) → OnOk r A → OnOk r B
on-ok (Ok x) f h = f h
on-ok (Err y) f h = tt
