-- The laws of authority.
use Rattle.std.proofs.Common.{◌≡◌, List, [], ◌∷◌, ◌++◌, map, Option, None, Some, Result, Ok, Err, refl, subst, sym}
use Rattle.std.specs.Prelude.{IfOk, IfSome}
use Rattle.std.specs.List.{flat_map}
use Rattle.std.specs.Option.{option_map}
use Rattle.std.specs.Result.{result_ok}
use Rattle.std.proofs.Common.{ap, ◌∙◌}
use Rattle.capability.specs.declared.Uid.{Uid}
use Rattle.capability.specs.declared.Cap.{Cap}
use Rattle.capability.specs.Capability.{full}
use Rattle.eden_value.specs.Datum.{Datum}
use Rattle.eden_value.specs.Caps.{caps, caps_of}
use Rattle.eden_codec.specs.declared.rep.Rep.{Rep}
use Rattle.eden_model.specs.Map.{with_item, first, rest}
use Rattle.epl_syntax.specs.declared.effect.FaultCause.{FaultCause}
use Rattle.epl_syntax.specs.Tree.{Constant, integer, text, truth, absent, empty_list, Variable, Local, Process, UpgradeAssignment, Upgrade}
use Rattle.epl_syntax.specs.Tree.{TypeTree}
use Rattle.epl_syntax.specs.Memory.{Memory, value_of_constant, set, locals}
use Rattle.epl_syntax.specs.Expressions.{value_of}
use Rattle.epl_syntax.specs.Turns.{values_in, process_left}
use Rattle.epl_syntax.specs.Upgrades.{assigned, before_upgrade, made_by, upgrade_for, upgraded_by}
use Rattle.epl_syntax.specs.Meaning.{Edentype, of_native, of_declared, values_from, durable_of, upgraded, is_current, durable_from}
use Rattle.epl_syntax.specs.Edentype.{native, declared, outline_of, slots_of}
use Rattle.epl_syntax.specs.declared.types.Native.TheVariants as code
use Rattle.epl_syntax.specs.Outline.{Slot, starts, only_kept, with_kept}
use Rattle.epl_syntax.specs.Authority.{AllBelow, rest_caps, TurnKeepsCaps, BeginKeepsCaps, DeclaredHaveNone, FirstHaveNone}
use Rattle.epl_syntax.specs.Authority.{DurableKeepCaps, StartKeepsCaps, IsBelowOne}
use Rattle.epl_syntax.proofs.Owned.{Owned, AllOwned, owned_caps, caps_owned, either, found_through}
use Rattle.epl_syntax.proofs.Steps.{process_owned, operation_owned}
use Rattle.epl_syntax.proofs.Evaluated.{MemoryOwned, constant_owned, value_owned, set_owned, variables_owned, arguments_owned, values_owned}
use Rattle.epl_syntax.proofs.Natives.{native_owned, first_owned}

pub turn_keeps_caps : TurnKeepsCaps
turn_keeps_caps held (native n) vars (of_native stage) told me h = native_owned held n vars stage told h.vars h.rest
turn_keeps_caps held (declared t) vars (of_declared left) told me h = process_owned held t vars left told me h.vars h.rest h.answer h.own
turn_keeps_caps held (native n) vars (of_declared left) told me h = record { vars = h.vars; rest = h.rest; effect = tt }
turn_keeps_caps held (declared t) vars (of_native stage) told me h = record { vars = h.vars; rest = h.rest; effect = tt }

only_kept_owned : (held : List Cap) (slots : List Slot) (vars : List Datum) → AllOwned held vars → AllOwned held (only_kept slots vars)
only_kept_owned held [] vars h = tt
only_kept_owned held (v ∷ slots) [] h = tt
only_kept_owned held (v ∷ slots) (d ∷ vars) h =
    either (AllOwned held) v.durable (d ∷ only_kept slots vars) (only_kept slots vars) (h.0, only_kept_owned held slots vars h.1)
    (only_kept_owned held slots vars h.1)

pub durable_keep_caps : DurableKeepCaps
durable_keep_caps held t vars h = owned_caps held (durable_of t vars)
    (only_kept_owned held (outline_of t).slots vars (caps_owned held vars h))

pub begin_keeps_caps : BeginKeepsCaps
begin_keeps_caps held (native n) operation args h = first_owned held n operation args (caps_owned held args h)
begin_keeps_caps held (declared t) operation args h = operation_owned held t operation args (caps_owned held args h)

constant_caps : (c : Constant) → caps (value_of_constant c) ≡ []
constant_caps (integer n) = refl
constant_caps (text t) = refl
constant_caps (truth b) = refl
constant_caps absent = refl
constant_caps (empty_list k) = refl

declared_first : (vs : List Variable) → caps_of (starts (slots_of vs)) ≡ []
declared_first [] = refl
declared_first (v ∷ vs) = ap (λ l. l ++ caps_of (starts (slots_of vs))) (constant_caps v.start.value) ∙ declared_first vs

pub first_have_none : FirstHaveNone
first_have_none (native code.Cell) = refl
first_have_none (native code.Directory) = refl
first_have_none (native code.Lines) = refl
first_have_none (native code.Take) = refl
first_have_none (native code.Skip) = refl
first_have_none (native code.Only) = refl
first_have_none (native code.Number) = refl
first_have_none (native code.Sink) = refl
first_have_none (declared t) = declared_first t.vars

local_none : (vs : List Local) → caps_of (values_in (locals vs)) ≡ []
local_none [] = refl
local_none (v ∷ vs) = ap (λ l. l ++ caps_of (values_in (locals vs))) (constant_caps v.start.value) ∙ local_none vs

processes_none : (ps : List Process) → flat_map rest_caps (map (λ p. of_declared (process_left p)) ps) ≡ []
processes_none [] = refl
processes_none (p ∷ ps) = ap (λ l. l ++ flat_map rest_caps (map (λ p. of_declared (process_left p)) ps))
    (local_none p.locals) ∙ processes_none ps

pub declared_have_none : DeclaredHaveNone
declared_have_none (native n) = refl
declared_have_none (declared t) = processes_none t.processes

-- ---- starts
none_owned : (held : List Cap) (ds : List Datum) → caps_of ds ≡ [] → AllOwned held ds
none_owned held ds e = caps_owned held ds (subst (λ cs. AllBelow cs held) (sym e) tt)

given_or : (held : List Cap) (o : Option Datum) (d : Datum) → IfSome o (Owned held) → Owned held d → Owned held (with_item o (λ x. x) d)
given_or held None d h k = k
given_or held (Some x) d h k = h

first_given : (held : List Cap) (ds : List Datum) → AllOwned held ds → IfSome (first ds) (Owned held)
first_given held [] h = tt
first_given held (d ∷ ds) h = h.0

rest_given : (held : List Cap) (ds : List Datum) → AllOwned held ds → AllOwned held (rest ds)
rest_given held [] h = tt
rest_given held (d ∷ ds) h = h.1

with_kept_owned : (held : List Cap) (slots : List Slot) (durable : List Datum) → AllOwned held (starts slots) → AllOwned held durable
    → AllOwned held (with_kept slots durable)
with_kept_owned held [] durable h k = tt
with_kept_owned held (v ∷ slots) durable h k =
    either (AllOwned held) v.durable (with_item (first durable) (λ d. d) v.start ∷ with_kept slots (rest durable))
    (v.start ∷ with_kept slots durable) (
      given_or held (first durable) v.start (first_given held durable k) h.0,
      with_kept_owned held slots (rest durable) h.1
          (rest_given held durable k),
    )
    (h.0, with_kept_owned held slots durable h.1 k)

assigned_owned : (held : List Cap) (cs : List UpgradeAssignment) (m : Memory) → MemoryOwned held m → IfOk (assigned cs m) (MemoryOwned held)
assigned_owned held [] m h = h
assigned_owned held (c ∷ cs) m h =
    found_through (Owned held) (MemoryOwned held) (value_of m c.value) (λ d. assigned cs (set c.name.text d m))
    (value_owned held m h c.value)
    (λ d k. assigned_owned held cs (set c.name.text d m) (set_owned held c.name.text d m k h))

begin_values : (held : List Cap) (vs : List Variable) → AllOwned held (map (λ v. value_of_constant v.start.value) vs)
begin_values held [] = tt
begin_values held (v ∷ vs) = (constant_owned held v.start.value, begin_values held vs)

made_owned : (held : List Cap) (t : TypeTree) (u : Upgrade) (old : List Datum) (me : Uid) → AllOwned held old → IsBelowOne (full me) held
    → IfOk (made_by t u old me) (AllOwned held)
made_owned held t u old me h k =
    let m : Memory = before_upgrade t u old me in
    found_through (MemoryOwned held) (AllOwned held) (assigned u.changes m) (λ m. Ok (values_in m.shared))
    (assigned_owned held u.changes m
    (record {
      own = arguments_owned held u.params old h;
      shared = variables_owned held t.vars
          (map (λ v. value_of_constant v.start.value) t.vars) (begin_values held t.vars);
      me = k;
    }))
    (λ m x. values_owned held m.shared x.shared)

ok_owned : (held : List Cap) (r : Result (List Datum) FaultCause) → IfOk r (AllOwned held) → IfSome (result_ok r) (AllOwned held)
ok_owned held (Ok ds) h = h
ok_owned held (Err c) h = tt

upgraded_owned : (held : List Cap) (t : TypeTree) (rep : Rep) (me : Uid) → AllOwned held rep.values → IsBelowOne (full me) held
    → IfSome (upgraded_by t rep me) (AllOwned held)
upgraded_owned held t rep me h k = go (upgrade_for t rep)
  where
    go : (o : Option Upgrade) → IfSome (with_item o (λ u. result_ok (made_by t u rep.values me)) None) (AllOwned held)
    go None = tt
    go (Some u) = ok_owned held (made_by t u rep.values me) (made_owned held t u rep.values me h k)

durable_owned : (held : List Cap) (t : TypeTree) (o : Option (List Datum)) → IfSome o (AllOwned held)
    → IfSome (option_map (durable_of (declared t)) o) (AllOwned held)
durable_owned held t None h = tt
durable_owned held t (Some ds) h = only_kept_owned held (outline_of (declared t)).slots ds h

from_owned : (held : List Cap) (t : Edentype) (rep : Rep) (me : Uid) → AllOwned held rep.values → IsBelowOne (full me) held
    → IfSome (durable_from t rep me) (AllOwned held)
from_owned held (native n) rep me h k = either (λ o. IfSome o (AllOwned held)) (is_current (native n) rep) (Some rep.values) None h tt
from_owned held (declared t) rep me h k =
    either (λ o. IfSome o (AllOwned held)) (is_current (declared t) rep) (Some rep.values) (upgraded (declared t) rep me) h
    (durable_owned held t (upgraded_by t rep me) (upgraded_owned held t rep me h k))

pub start_keeps_caps : StartKeepsCaps
start_keeps_caps held t rep me durable is h k =
    let has : AllOwned held durable = subst (λ o. IfSome o (AllOwned held)) is
    (from_owned held t rep me (caps_owned held rep.values h) k) in
    owned_caps held (values_from t durable)
    (with_kept_owned held (outline_of t).slots durable (none_owned held (starts (outline_of t).slots) (first_have_none t)) has)
