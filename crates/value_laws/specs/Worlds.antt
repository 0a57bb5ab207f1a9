-- Worlds all of whose values are within the limits, and the law that no history of a fit script leads to another.
use Rattle.std.specs.Prelude.{◌≡◌, ℕ, ◌≤◌, List, [], Some, length, IfSome}
use Rattle.std.specs.List.{AllByRecursion}
use Rattle.capability.specs.declared.Uid.{Uid}
use Rattle.eden_value.specs.Datum.{Datum, cap}
use Rattle.eden_value.specs.declared.status.Status.{Status}
use Rattle.eden_codec.specs.Reading.{reading}
use Rattle.eden_codec.specs.declared.rep.Rep.{Rep}
use Rattle.passive_store.specs.Kept.{Layout}
use Rattle.passive_store.specs.Layout.{IsLayout}
use Rattle.eden_model.specs.Traffic.{Call, call_at, answered}
use Rattle.epl_syntax.specs.Edentype.{Edentype}
use Rattle.journal.specs.Fit.{IsFit, NamesAreValues}
use Rattle.journal.specs.Laws.{Begins}
use Rattle.journal.specs.LegalRun.{AreHandedIn, run_over}
use Rattle.journal.specs.Run.{EachStep}
use Rattle.journal.specs.Standing.{DiskRun}
use Rattle.journal.specs.World.{World, Task, Active, Eject, eject_at}
use Rattle.journal.specs.declared.command.Script.{Script}
use Rattle.journal.specs.declared.event.Entry.{Entry}
use Rattle.value_laws.specs.Limited.{IsLimited, AreLimited, IsLimitedUid, TypeFits, RestFits, HasRoom, VarsFit, AnswerFits}

-- 1. Ejects

-- a task of this type with these variables
pub record TaskLimited (kind : Edentype) (vars : List Datum) (t : Task) : Type 0 where
  -- what is left to do
  pub rest : RestFits kind t.rest
  -- for which there is room
  pub room : HasRoom kind vars t.rest
  -- what the process is told
  pub answer : AnswerFits t.answer

-- all values of an active part are within the limits
pub record ActiveLimited (it : Active) : Type 0 where
  -- the constants of its type
  pub constants : TypeFits it.kind
  -- the values of its variables
  pub vars : AreLimited it.vars
  -- which keep to what those of the type keep to
  pub fits : VarsFit it.kind it.vars
  -- what each of its processes has left to do, and is told
  pub tasks : AllByRecursion (λ t. TaskLimited it.kind it.vars t.1) it.tasks

-- bytes from which no value past the limits is read
abbrev pub BytesLimited : List ℕ → Type 0
BytesLimited bytes = (rep : Rep) → reading bytes ≡ Some rep → AreLimited rep.values

-- all values of the Eject `u`
pub record EjectLimited (u : Uid) (e : Eject) : Type 0 where
  -- its own capability
  pub own : IsLimitedUid u
  -- those of its active part, if it has one
  pub active : IfSome e.active ActiveLimited
  -- those that are kept of it, if something is
  pub kept : IfSome e.kept BytesLimited

-- 2. Calls

-- all values of a call
pub record CallLimited (c : Call) : Type 0 where
  -- the capability by which it is made
  pub target : IsLimited (cap (Some c.target))
  -- its arguments
  pub args : AreLimited c.args
  -- the results with which it is answered, as long as the reply is on its way
  pub results : (s : Status) (results : List Datum) → c.place ≡ answered s results → AreLimited results

-- 3. Worlds

-- all values of a world are within the limits
pub record WorldLimited (w : World) : Type 0 where
  -- those of each Eject
  pub ejects : (u : Uid) (e : Eject) → eject_at w u ≡ Some e → EjectLimited u e
  -- those of each call
  pub calls : (k : ℕ) (c : Call) → call_at w.traffic k ≡ Some c → CallLimited c
  -- those that the names of the script stand for
  pub names : NamesAreValues w

-- 4. The laws

-- whatever bytes are read, the values that they give back are within the limits
abbrev pub BytesGiveLimited : Type 0
BytesGiveLimited = (bytes : List ℕ) → BytesLimited bytes

-- In every history of a fit script, over at most eight disks that are handed in as they have to be and a layout that keeps what layouts
-- owe, all values are within the limits before each entry and behind it.
abbrev pub HistoriesKeepLimits : Type 0
HistoriesKeepLimits = (layout : Layout) (script : Script) (disks : List DiskRun) (history : List Entry)
    → IsLayout layout → AreHandedIn layout disks → length disks ≤ 8 → IsFit script → Begins layout script disks history
    → EachStep (λ past s. WorldLimited s.world × WorldLimited s.later) [] (run_over layout script disks history)
