-- The laws of values in types.
use Rattle.std.proofs.Common.{◌≡◌, List, [], ◌∷◌, map, Bool, Option, None, Some, Result, Ok, Err, subst}
use Rattle.std.specs.Prelude.{IfOk, IfSome}
use Rattle.std.specs.List.{AllByRecursion, find}
use Rattle.std.specs.Option.{option_map}
use Rattle.std.specs.Result.{result_ok}
use Rattle.capability.specs.declared.Uid.{Uid}
use Rattle.eden_value.specs.Datum.{Datum}
use Rattle.eden_codec.specs.declared.rep.Rep.{Rep}
use Rattle.eden_model.specs.Map.{with_item, first, rest}
use Rattle.epl_syntax.specs.Constants.{ConstantFits, ExpressionFits, LocalsFit, StatementFits, TreeFits}
use Rattle.epl_syntax.specs.Edentype.{native, declared, outline_of, slots_of}
use Rattle.epl_syntax.specs.Expressions.{value_of}
use Rattle.epl_syntax.specs.Meaning.{Edentype, of_native, of_declared, values_from, durable_of, upgraded, is_current, durable_from}
use Rattle.epl_syntax.specs.Memory.{Memory, value_of_constant, set}
use Rattle.epl_syntax.specs.Outline.{Slot, starts, only_kept, with_kept}
use Rattle.epl_syntax.specs.Tree.{Variable, Process, UpgradeAssignment, Upgrade, TypeTree}
use Rattle.epl_syntax.specs.Turns.{values_in, process_left}
use Rattle.epl_syntax.specs.Upgrades.{assigned, before_upgrade, made_by, upgrade_for, upgraded_by}
use Rattle.epl_syntax.specs.declared.effect.FaultCause.{FaultCause}
use Rattle.value_laws.specs.Limited.{IsLimited, AreLimited, IsLimitedUid, TypeFits, RestFits, VarsFit, HasRoom, TurnKeepsLimits}
use Rattle.value_laws.specs.Limited.{BeginKeepsLimits, DeclaredAreLimited, FirstAreLimited, DurableAreLimited, StartKeepsLimits}
use Rattle.value_laws.proofs.Evaluated.{MemoryLimited, value_limited, set_limited, variables_limited, arguments_limited, values_limited}
use Rattle.value_laws.proofs.NativeStarts.{first_limited, first_values_fit, started_fit}
use Rattle.value_laws.proofs.Natives.{native_limited}
use Rattle.value_laws.proofs.Steps.{process_limited, operation_limited, declared_limited}
use Rattle.value_laws.proofs.Values.{either, found_through}

-- 1. Turns, beginnings and checkpoints

pub turn_keeps_limits : TurnKeepsLimits
turn_keeps_limits (native n) vars (of_native stage) told me h = native_limited n vars stage told h.vars h.fits h.rest h.room h.answer
turn_keeps_limits (declared t) vars (of_declared left) told me h =
    process_limited t vars left told me h.vars h.rest.0 h.rest.1 h.answer h.own
turn_keeps_limits (native n) vars (of_declared left) told me h = absurd h.rest
turn_keeps_limits (declared t) vars (of_native stage) told me h = absurd h.rest

only_kept_limited : (slots : List Slot) (vars : List Datum) → AreLimited vars → AreLimited (only_kept slots vars)
only_kept_limited [] vars h = tt
only_kept_limited (v ∷ slots) [] h = tt
only_kept_limited (v ∷ slots) (d ∷ vars) h =
    either AreLimited v.durable (d ∷ only_kept slots vars) (only_kept slots vars) (h.0, only_kept_limited slots vars h.1)
    (only_kept_limited slots vars h.1)

pub durable_are_limited : DurableAreLimited
durable_are_limited t vars h = only_kept_limited (outline_of t).slots vars h

pub begin_keeps_limits : BeginKeepsLimits
begin_keeps_limits (native n) operation args o vars fit is shapes h = first_limited n vars operation args o is shapes h
begin_keeps_limits (declared t) operation args o vars fit is shapes h = (operation_limited t operation args fit h, tt)

processes_fit : (t : TypeTree) (vars : List Datum) (ps : List Process)
    → AllByRecursion (λ (p : Process). LocalsFit p.locals × AllByRecursion StatementFits p.body) ps
    → AllByRecursion (λ r. RestFits (declared t) r × HasRoom (declared t) vars r) (map (λ p. of_declared (process_left p)) ps)
processes_fit t vars [] h = tt
processes_fit t vars (p ∷ ps) h = ((declared_limited p h.0, tt), processes_fit t vars ps h.1)

pub declared_are_limited : DeclaredAreLimited
declared_are_limited (native n) vars fit = tt
declared_are_limited (declared t) vars fit = processes_fit t vars t.processes fit.processes

starts_limited : (vs : List Variable) → AllByRecursion (λ v. ConstantFits v.start.value) vs → AreLimited (starts (slots_of vs))
starts_limited [] h = tt
starts_limited (v ∷ vs) h = (h.0, starts_limited vs h.1)

pub first_are_limited : FirstAreLimited
first_are_limited (native n) fit = first_values_fit n
first_are_limited (declared t) fit = (starts_limited t.vars fit.vars, tt)

-- 2. Starts
given_or : (o : Option Datum) (d : Datum) → IfSome o IsLimited → IsLimited d → IsLimited (with_item o (λ x. x) d)
given_or None d h k = k
given_or (Some x) d h k = h

first_given : (ds : List Datum) → AreLimited ds → IfSome (first ds) IsLimited
first_given [] h = tt
first_given (d ∷ ds) h = h.0

rest_given : (ds : List Datum) → AreLimited ds → AreLimited (rest ds)
rest_given [] h = tt
rest_given (d ∷ ds) h = h.1

with_kept_limited : (slots : List Slot) (durable : List Datum) → AreLimited (starts slots) → AreLimited durable
    → AreLimited (with_kept slots durable)
with_kept_limited [] durable h k = tt
with_kept_limited (v ∷ slots) durable h k =
    either AreLimited v.durable (with_item (first durable) (λ d. d) v.start ∷ with_kept slots (rest durable))
    (v.start ∷ with_kept slots durable) (
      given_or (first durable) v.start (first_given durable k) h.0,
      with_kept_limited slots (rest durable) h.1 (rest_given durable k),
    )
    (h.0, with_kept_limited slots durable h.1 k)

assigned_limited : (cs : List UpgradeAssignment) (m : Memory) → AllByRecursion (λ c. ExpressionFits c.value) cs → MemoryLimited m
    → IfOk (assigned cs m) MemoryLimited
assigned_limited [] m f h = h
assigned_limited (c ∷ cs) m f h =
    found_through IsLimited MemoryLimited (value_of m c.value) (λ d. assigned cs (set c.name.text d m))
    (value_limited m h c.value f.0)
    (λ d k. assigned_limited cs (set c.name.text d m) f.1 (set_limited c.name.text d m k h))

begin_values : (vs : List Variable) → AllByRecursion (λ v. ConstantFits v.start.value) vs
    → AreLimited (map (λ v. value_of_constant v.start.value) vs)
begin_values [] h = tt
begin_values (v ∷ vs) h = (h.0, begin_values vs h.1)

-- each constant of what an upgrade assigns
abbrev UpgradeFits : Upgrade → Type 0
UpgradeFits u = AllByRecursion (λ c. ExpressionFits c.value) u.changes

made_limited : (t : TypeTree) (u : Upgrade) (old : List Datum) (me : Uid) → TreeFits t → UpgradeFits u → AreLimited old → IsLimitedUid me
    → IfOk (made_by t u old me) AreLimited
made_limited t u old me fit f h k =
    let m : Memory = before_upgrade t u old me in
    found_through MemoryLimited AreLimited (assigned u.changes m) (λ m. Ok (values_in m.shared))
    (assigned_limited u.changes m f
    (record {
      own = arguments_limited u.params old h;
      shared = variables_limited t.vars (map (λ v. value_of_constant v.start.value) t.vars) (begin_values t.vars fit.vars);
      me = k;
    }))
    (λ m x. values_limited m.shared x.shared)

ok_limited : (r : Result (List Datum) FaultCause) → IfOk r AreLimited → IfSome (result_ok r) AreLimited
ok_limited (Ok ds) h = h
ok_limited (Err c) h = tt

upgraded_limited : (t : TypeTree) (rep : Rep) (me : Uid) → TreeFits t → AreLimited rep.values → IsLimitedUid me
    → IfSome (upgraded_by t rep me) AreLimited
upgraded_limited t rep me fit h k = go (upgrade_for t rep) (found_fits _ t.upgrades fit.upgrades)
  where
    P : Option Upgrade → Type 0
    P o = IfSome o UpgradeFits

    found_fits : (test : Upgrade → Bool) (us : List Upgrade) → AllByRecursion UpgradeFits us → P (find test us)
    found_fits test [] f = tt
    found_fits test (u ∷ us) f = either P (test u) (Some u) (find test us) f.0 (found_fits test us f.1)

    go : (o : Option Upgrade) → P o → IfSome (with_item o (λ u. result_ok (made_by t u rep.values me)) None) AreLimited
    go None f = tt
    go (Some u) f = ok_limited (made_by t u rep.values me) (made_limited t u rep.values me fit f h k)

durable_limited : (t : TypeTree) (o : Option (List Datum)) → IfSome o AreLimited
    → IfSome (option_map (durable_of (declared t)) o) AreLimited
durable_limited t None h = tt
durable_limited t (Some ds) h = only_kept_limited (outline_of (declared t)).slots ds h

from_limited : (t : Edentype) (rep : Rep) (me : Uid) → TypeFits t → AreLimited rep.values → IsLimitedUid me
    → IfSome (durable_from t rep me) AreLimited
from_limited (native n) rep me fit h k = either (λ o. IfSome o AreLimited) (is_current (native n) rep) (Some rep.values) None h tt
from_limited (declared t) rep me fit h k =
    either (λ o. IfSome o AreLimited) (is_current (declared t) rep) (Some rep.values) (upgraded (declared t) rep me) h
    (durable_limited t (upgraded_by t rep me) (upgraded_limited t rep me fit h k))

start_fits : (t : Edentype) (rep : Rep) (me : Uid) (durable : List Datum) → durable_from t rep me ≡ Some durable
    → VarsFit t (values_from t durable)
start_fits (native n) rep me durable is = started_fit n rep me durable is
start_fits (declared t) rep me durable is = tt

pub start_keeps_limits : StartKeepsLimits
start_keeps_limits t rep me durable fit is h k =
    let has : AreLimited durable = subst (λ o. IfSome o AreLimited) is (from_limited t rep me fit h k) in (
      with_kept_limited (outline_of t).slots durable (first_are_limited t fit).0 has,
      start_fits t rep me durable is,
    )
