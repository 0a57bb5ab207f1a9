-- What the shell's own commands come to, in each world for which the names stand.
use Rattle.std.specs.Prelude.{◌≡◌, ℕ, Bool, true, false, List, Option, Some, IsSome}
use Rattle.capability.specs.declared.Cap.{Cap}
use Rattle.eden_value.specs.Datum.{Datum}
use Rattle.eden_value.specs.declared.status.Status.{Status}
use Rattle.journal.specs.declared.command.Command.{Command}
use Rattle.journal.specs.declared.event.Event.{Event}
use Rattle.journal.specs.declared.event.Event.TheVariants as event
use Rattle.journal.specs.declared.event.Entry.{Entry}
use Rattle.journal.specs.World.{World}
use Rattle.journal.specs.Commands.{AllowsCommand, asked, ready_call}
use Rattle.journal.specs.Run.{is_open_call}
use Rattle.journal.specs.Step.{after_command, happened, heard_by_shell, next}
use Rattle.shell_names.specs.Names.{Names, NamesStand}

-- 1. Commands

-- the command allows this event
abbrev pub IsAllowed : Names → Command → Event → Type 0
IsAllowed names c e = (w : World) → NamesStand names w → AllowsCommand w c e

-- the new names stand for those of the world after this event of the command
abbrev pub StandsAfter : (old new : Names) → Command → Event → Type 0
StandsAfter old new c e = (w : World) → NamesStand old w → NamesStand new (after_command w c e)

-- the same where the command is a call that is ready
abbrev pub StandsAfterCall : (old new : Names) → Command → Event → Type 0
StandsAfterCall old new c e = (w : World) → NamesStand old w → IsSome (ready_call w c) → NamesStand new (after_command w c e)

-- the new names stand for those of the world in which a call of this name was asked, whatever it asks
abbrev pub StandsAsked : (old new : Names) → List ℕ → ℕ → Option Status → Type 0
StandsAsked old new name k at_once =
    (target : Cap) (operation : List ℕ) (args : List Datum) (w : World) → NamesStand old w
    → NamesStand new (asked name target operation args k at_once w)

-- 2. Replies

-- the new names stand for those of the world in which a reply to the shell was delivered, by whether its call was still open
abbrev pub StandsHeard : (old new : Names) → List ℕ → Status → List Datum → Bool → Type 0
StandsHeard old new name status values is_open =
    (k : ℕ) (w : World) → NamesStand old w → is_open_call w k ≡ is_open → NamesStand new (heard_by_shell k name status values w)

-- 3. All other events

-- an event that may bind a name
abbrev pub may_bind : Event → Bool
may_bind (event.Made name status u) = true
may_bind (event.Bound name held) = true
may_bind (event.Asked k name at_once) = true
may_bind (event.Reply k a b (Some name) status values) = true
may_bind _ = false

-- an entry with any other event leaves what names stand for
abbrev pub OthersBindNone : Type 0
OthersBindNone =
    (names : Names) (w : World) (c : Option Command) (e : Entry) → may_bind e.event ≡ false → NamesStand names w
    → NamesStand names (next w c e)

-- what stands after an event stands after its entry, which counts a turn and notes a clock besides
abbrev pub StandAfterEntries : Type 0
StandAfterEntries =
    (names : Names) (w : World) (c : Option Command) (e : Entry) → NamesStand names (happened w c e.event) → NamesStand names (next w c e)
