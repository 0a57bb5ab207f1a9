-- Values of the variables that a directory may have, each of which it may also start from.
use Rattle.std.specs.Prelude.{◌≡◌, ◌≤◌, true, List, length}
use Rattle.eden_value.specs.Datum.{Datum}
use Rattle.eden_value.specs.declared.value.TheConstants.{LIST_LIMIT}
use Rattle.epl_syntax.specs.declared.effect.Answer.{Answer}
use Rattle.epl_syntax.specs.declared.types.Native.TheVariants as types
use Rattle.epl_syntax.specs.Edentype.{native}
use Rattle.epl_syntax.specs.Kinds.{have_shapes}
use Rattle.epl_syntax.specs.Meaning.{durable_kinds}
use Rattle.epl_syntax.specs.Natives.{native_condition, native_turn}
use Rattle.epl_syntax.specs.Simple.{argument, items_in}
use Rattle.directory_eject.specs.declared.stage.Stage.{Stage}
use Rattle.directory_eject.specs.Stages.{stage_of}

-- They are of the kinds of the variables, with as many capabilities as names and no name twice. From such values a directory may start.
pub record MayStart (vars : List Datum) : Type 0 where
  pub kinds : have_shapes vars (durable_kinds (native types.Directory)) ≡ true
  pub condition : native_condition types.Directory vars ≡ true

-- A directory may start from them, and there are at most 256 names.
pub record IsDirectory (vars : List Datum) : Type 0 where
  pub starts : MayStart vars
  pub few : length (items_in (argument 0 vars)) ≤ LIST_LIMIT

-- a turn of a directory leaves one
abbrev pub TurnsStay : Type 0
TurnsStay = (vars : List Datum) (s : Stage) (a : Answer) → IsDirectory vars
    → IsDirectory (native_turn types.Directory vars (stage_of s) a).0

-- and from what it leaves of values from which a directory may start one may start again, however many names they have
abbrev pub TurnsMayStart : Type 0
TurnsMayStart = (vars : List Datum) (s : Stage) (a : Answer) → MayStart vars
    → MayStart (native_turn types.Directory vars (stage_of s) a).0
