-- What is left to do of a process fits its type: as it begins, and after each turn; and the effect of a turn fits as well. There are as
-- many values as variables: as an Eject begins, and after each turn.
use Rattle.std.proofs.Common.{◌≡◌, ℕ, suc, Bool, true, false, cond, List, [], ◌∷◌, map, length, Option, None, Some, refl, sym, ◌∙◌, ap}
use Rattle.std.proofs.Common.{subst}
use Rattle.std.specs.List.{AllByRecursion, find}
use Rattle.std.specs.Option.{option_map}
use Rattle.capability.specs.declared.Uid.{Uid}
use Rattle.eden_value.specs.Datum.{Datum}
use Rattle.eden_value.specs.declared.status.Status.TheVariants as status
use Rattle.eden_model.specs.Map.{with_item, same_text, first, rest}
use Rattle.eden_model.specs.Traffic.{Call}
use Rattle.epl_syntax.specs.declared.effect.Answer.{Answer}
use Rattle.epl_syntax.specs.declared.effect.Effect.{Effect}
use Rattle.epl_syntax.specs.declared.effect.Effect.TheVariants as effect
use Rattle.epl_syntax.specs.declared.tree.ClassDecl.{ClassDecl}
use Rattle.epl_syntax.specs.Edentype.{Edentype, native, declared, declared_operation, slots_of}
use Rattle.epl_syntax.specs.Outline.{starts, with_kept}
use Rattle.epl_syntax.specs.Memory.{value_of_constant}
use Rattle.epl_syntax.specs.Tree.{TypeTree, Variable, Operation, Process}
use Rattle.epl_syntax.specs.Natives.{native_turn}
use Rattle.epl_syntax.specs.Turns.{Left, left_of, nothing_left, operation_left, process_left, process_turn}
use Rattle.epl_syntax.specs.Meaning.{Rest, of_native, of_declared, begin, turn, first_values, values_from}
use Rattle.epl_syntax.specs.Monitors.{IsGuardedOf, IsAllowed, SameWhere, inside, is_shut}
use Rattle.epl_syntax.proofs.GuardedBegins.{operations_begin_guarded, processes_begin_guarded}
use Rattle.epl_syntax.proofs.GuardedSteps.{turn_stays_guarded}
use Rattle.epl_syntax.proofs.GuardedTurns.{turn_keeps_monitors}
use Rattle.journal.specs.Deliveries.{misfit_of, misfit}
use Rattle.history_laws.proofs.Tasks.{AreKnown, IsRuled, IsRuledType, IsTask, FitsRest, FitsEffect, HasValues}
use Rattle.history_laws.proofs.NativeTurns.{IsPlain, plain-native}

-- 1. Of declared types

allowed-fits : (types : List Edentype) (earlier : List (List ℕ)) (t : TypeTree) (returns serves : Bool) (e : Effect)
    → AreKnown types (t.name.text ∷ earlier) → returns ≡ serves → IsAllowed earlier t returns e → FitsEffect types serves e
allowed-fits types earlier t returns serves (effect.Create name) known same is = known name is
allowed-fits types earlier t returns serves (effect.Lock m) known same is = is.0
allowed-fits types earlier t returns serves effect.End known same is = sym same ∙ is
allowed-fits types earlier t returns serves _ known same is = tt

task-turn : (types : List Edentype) (t : TypeTree) (serves : Bool) (vars : List Datum) (left : Left) (told : Answer) (me : Uid)
    → IsTask types t serves left → IsTask types t serves (process_turn t vars left told me).1
task-turn types t serves vars left told me h = let stays = turn_stays_guarded h.earlier t left vars told me h.guarded in
    record { earlier = h.earlier; known = h.known; guarded = stays.guarded; returns = stays.returns ∙ h.returns }

task-effect : (types : List Edentype) (t : TypeTree) (serves : Bool) (vars : List Datum) (left : Left) (told : Answer) (me : Uid)
    → IsTask types t serves left → FitsEffect types serves (process_turn t vars left told me).2
task-effect types t serves vars left told me h = allowed-fits types h.earlier t left.returns serves (process_turn t vars left told me).2
    h.known h.returns (turn_stays_guarded h.earlier t left vars told me h.guarded).allowed

-- a call that fits begins an operation that there is
found-declared : (classes : List ClassDecl) (os : List Operation) (name : List ℕ)
    → find (λ o. same_text o.name name) (map (declared_operation classes) os)
    ≡ option_map (declared_operation classes) (find (λ o. same_text o.name.text name) os)
found-declared classes [] name = refl
found-declared classes (o ∷ os) name = go (same_text o.name.text name) (found-declared classes os name)
  where
    go : (b : Bool) → find (λ o. same_text o.name name) (map (declared_operation classes) os)
        ≡ option_map (declared_operation classes) (find (λ o. same_text o.name.text name) os)
        → cond b (Some (declared_operation classes o)) (find (λ o. same_text o.name name) (map (declared_operation classes) os))
        ≡ option_map (declared_operation classes) (cond b (Some o) (find (λ o. same_text o.name.text name) os))
    go true later = refl
    go false later = later

returns-begun : (t : TypeTree) (c : Call) → misfit (declared t) c ≡ None → (operation_left t c.operation c.args).returns ≡ true
returns-begun t c fits = go (find (λ o. same_text o.name.text c.operation) t.operations)
    (subst (λ o. with_item o (misfit_of c) (Some status.NoOperation) ≡ None) (found-declared t.classes t.operations c.operation) fits)
  where
    go : (o : Option Operation) → with_item (option_map (declared_operation t.classes) o) (misfit_of c) (Some status.NoOperation) ≡ None
        → (with_item o (λ o. left_of o c.args) nothing_left).returns ≡ true
    go None is = absurd (cc is)
    go (Some o) is = refl

begin-declared : (types : List Edentype) (t : TypeTree) (c : Call) → IsRuled types t → misfit (declared t) c ≡ None
    → FitsRest types (declared t) true (begin (declared t) c.operation c.args)
begin-declared types t c h fits = record {
  earlier = h.earlier;
  known = h.known;
  guarded = operations_begin_guarded h.earlier t c.operation c.args h.keeps;
  returns = returns-begun t c fits;
}

pub declared-tasks : (types : List Edentype) (t : TypeTree) → IsRuled types t
    → AllByRecursion (λ b. IsTask types t false (process_left b)) t.processes
declared-tasks types t h = each t.processes (processes_begin_guarded h.earlier t h.keeps)
  where
    each : (ps : List Process) → AllByRecursion (λ b. IsGuardedOf h.earlier t (process_left b)) ps
        → AllByRecursion (λ b. IsTask types t false (process_left b)) ps
    each [] all = tt
    each (p ∷ ps) all = (record { earlier = h.earlier; known = h.known; guarded = all.0; returns = refl }, each ps all.1)

-- 2. Of all types

plain-fits : (types : List Edentype) (serves : Bool) (e : Effect) → IsPlain e → FitsEffect types serves e
plain-fits types serves (effect.Return results) h = tt
plain-fits types serves effect.Checkpoint h = tt
plain-fits types serves effect.Destroy h = tt
plain-fits types serves effect.Deactivate h = tt
plain-fits types serves (effect.Invoke target operation args) h = tt
plain-fits types serves _ h = absurd h

pub rest-turn : (types : List Edentype) (t : Edentype) (serves : Bool) (vars : List Datum) (rest : Rest) (told : Answer) (me : Uid)
    → FitsRest types t serves rest → FitsRest types t serves (turn t vars rest told me).rest
rest-turn types (native n) serves vars (of_native stage) told me h = tt
rest-turn types (declared t) serves vars (of_declared left) told me h = task-turn types t serves vars left told me h
rest-turn types (native n) serves vars (of_declared left) told me h = absurd h
rest-turn types (declared t) serves vars (of_native stage) told me h = absurd h

pub rest-effect : (types : List Edentype) (t : Edentype) (serves : Bool) (vars : List Datum) (rest : Rest) (told : Answer) (me : Uid)
    → FitsRest types t serves rest → FitsEffect types serves (turn t vars rest told me).effect
rest-effect types (native n) serves vars (of_native stage) told me h =
    plain-fits types serves (native_turn n vars stage told).2 (plain-native n vars stage told)
rest-effect types (declared t) serves vars (of_declared left) told me h = task-effect types t serves vars left told me h
rest-effect types (native n) serves vars (of_declared left) told me h = absurd h
rest-effect types (declared t) serves vars (of_native stage) told me h = absurd h

pub rest-begin : (types : List Edentype) (t : Edentype) (c : Call) → IsRuledType types t → misfit t c ≡ None
    → FitsRest types t true (begin t c.operation c.args)
rest-begin types (native n) c ruled fits = tt
rest-begin types (declared t) c ruled fits = begin-declared types t c ruled fits

-- 3. Values

-- as many as there are variables
pub as-many : (test : Variable → Bool) (vs : List Variable) (xs ys : List Datum) → SameWhere test vs xs ys → length ys ≡ length vs
as-many test [] [] [] h = refl
as-many test (v ∷ vs) (a ∷ xs) (b ∷ ys) h = ap suc (as-many test vs xs ys h.1)
as-many test [] (a ∷ xs) ys h = absurd h
as-many test [] [] (b ∷ ys) h = absurd h
as-many test (v ∷ vs) [] ys h = absurd h
as-many test (v ∷ vs) (a ∷ xs) [] h = absurd h

pub values-turn : (types : List Edentype) (t : Edentype) (serves : Bool) (vars : List Datum) (rest : Rest) (told : Answer) (me : Uid)
    → FitsRest types t serves rest → HasValues t vars → HasValues t (turn t vars rest told me).vars
values-turn types (native n) serves vars (of_native stage) told me h many = tt
values-turn types (declared t) serves vars (of_declared left) told me h many =
    as-many (is_shut (inside left.steps)) t.vars vars (process_turn t vars left told me).0
    (turn_keeps_monitors h.earlier t left vars told me h.guarded many).changes_no_other
values-turn types (native n) serves vars (of_declared left) told me h many = absurd h
values-turn types (declared t) serves vars (of_native stage) told me h many = absurd h

start-values : (vs : List Variable) → length (starts (slots_of vs)) ≡ length vs
start-values [] = refl
start-values (v ∷ vs) = ap suc (start-values vs)

kept-values : (vs : List Variable) (durable : List Datum) → length (with_kept (slots_of vs) durable) ≡ length vs
kept-values [] durable = refl
kept-values (v ∷ vs) durable = go v.durable (kept-values vs (rest durable)) (kept-values vs durable)
  where
    start : Datum
    start = value_of_constant v.start.value

    go : (b : Bool) → length (with_kept (slots_of vs) (rest durable)) ≡ length vs → length (with_kept (slots_of vs) durable) ≡ length vs
        → length (cond b (with_item (first durable) (λ d. d) start ∷ with_kept (slots_of vs) (rest durable))
        (start ∷ with_kept (slots_of vs) durable)) ≡ suc (length vs)
    go true later same = ap suc later
    go false later same = ap suc same

pub values-first : (t : Edentype) → HasValues t (first_values t)
values-first (native n) = tt
values-first (declared t) = start-values t.vars

pub values-kept : (t : Edentype) (durable : List Datum) → HasValues t (values_from t durable)
values-kept (native n) durable = tt
values-kept (declared t) durable = kept-values t.vars durable
