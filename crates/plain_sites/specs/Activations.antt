-- Passive Ejects are activated.
use Rattle.std.specs.Prelude.{◌≡◌, ℕ, false, List, ◌++◌, map, Option, None, IsTrue, is_some}
use Rattle.std.specs.List.{filter}
use Rattle.capability.specs.declared.Uid.{Uid}
use Rattle.eden_value.specs.Datum.{Datum}
use Rattle.eden_model.specs.Crew.{Invocation}
use Rattle.eden_model.specs.Map.{first, with_item}
use Rattle.eden_model.specs.Traffic.{Traffic}
use Rattle.epl_syntax.specs.Edentype.{Edentype}
use Rattle.epl_syntax.specs.Meaning.{types_in, values_from}
use Rattle.epl_syntax.specs.Rules.OfTypes.{TypeList}
use Rattle.edentypes.specs.declared.starting.Begun.{Begun}
use Rattle.edentypes.specs.View.{kind_in}
use Rattle.journal.specs.Ejects.{fresh}
use Rattle.journal.specs.Processes.{invocation}
use Rattle.journal.specs.Starts.{fits_at, is_worked_on, misfits_answered, start_of}
use Rattle.journal.specs.World.{Eject, Site}
use Rattle.active_part.specs.Body.{Body, active_of}

-- 1. What starts

-- the type and the durable values of an Eject that starts, by the types of the script
abbrev pub begun_as : TypeList → Begun → Edentype × List Datum
begun_as ts b = (kind_in ts b.kind, b.durable)

-- the type and the durable values with which the Eject u starts from these bytes, where there are such and it does
abbrev pub start_of_kept : TypeList → Uid → Option (List ℕ) → Option (Edentype × List Datum)
start_of_kept ts u kept = with_item kept (λ bytes. start_of (types_in ts) bytes u) None

-- 2. Which Ejects are to start

-- a call is queued at it, and it has no active part
abbrev pub IsAsked : Eject → Type 0
IsAsked e = (e.active ≡ None) × IsTrue (is_some (first e.queued))

-- and the store does not work on it
abbrev pub MayWake : Site → Uid → Eject → Type 0
MayWake s u e = IsAsked e × (is_worked_on s u ≡ false)

-- 3. The queue

-- the invocations of these calls that fit the type, in order
abbrev pub fitting : Edentype → Traffic → List ℕ → List Invocation
fitting t traffic ks = map (invocation t traffic) (filter (fits_at t traffic) ks)

-- of these calls those that fit the type of an active part join its queue, and the others are answered
abbrev pub joined_all : List ℕ → Body × Traffic → Body × Traffic
joined_all ks x = (
  record x.0 { crew = record x.0.crew { queued = x.0.crew.queued ++ fitting x.0.kind x.1 ks } },
  misfits_answered x.0.kind ks x.1,
)

-- the active part of an Eject that starts so, and the calls behind that, by those that were queued
pub record IsStarted (start : Edentype × List Datum) (ks : List ℕ) (old new : Traffic) (b : Body) : Type 0 where
  -- it has the type and the values, and its declared processes begin
  pub active : active_of b ≡ fresh start.0 (values_from start.0 start.1)
  -- those that fit the type are queued in it
  pub queued : b.crew.queued ≡ fitting start.0 old ks
  -- the others are answered
  pub calls : new ≡ misfits_answered start.0 ks old
