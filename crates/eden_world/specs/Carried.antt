-- What a command comes to, in each world for which the program stands: an entry carries it out, or memory is wanting.
use Rattle.std.specs.Prelude.{◌≡◌, ℕ, suc, Bool, List, [], ◌∷◌, Option, Some, Result, IfSome, IsTrue, codes}
use Rattle.capability.specs.declared.Uid.{Uid}
use Rattle.capability.specs.declared.Cap.{Cap}
use Rattle.eden_value.specs.Datum.{Datum}
use Rattle.eden_value.specs.declared.status.Status.{Status}
use Rattle.eden_value.specs.Limits.{IsText}
use Rattle.eden_disk.specs.declared.disk.Arm.{Arm}
use Rattle.eden_disk.specs.declared.disk.Arm.TheVariants as arm
use Rattle.epl_syntax.specs.Edentype.{Edentype}
use Rattle.epl_syntax.specs.Meaning.{type_of, types_in}
use Rattle.invocation.specs.Mail.{Mail}
use Rattle.passive_store.specs.Kept.{Layout}
use Rattle.passive_store.specs.Seen.{Seen, DiskSeen}
use Rattle.journal.specs.Argument.{Argument}
use Rattle.journal.specs.Commands.{ready_call}
use Rattle.journal.specs.declared.command.Command.{Command}
use Rattle.journal.specs.declared.command.Command.TheVariants as command
use Rattle.journal.specs.declared.command.Ref.{Ref}
use Rattle.journal.specs.declared.event.Entry.{Entry}
use Rattle.journal.specs.Run.{lookup_args}
use Rattle.journal.specs.World.{World, Site}
use Rattle.ejects.specs.Creations.{HasNewUid}
use Rattle.scheduled_node.specs.declared.ScheduledNode.{ScheduledNode}
use Rattle.scheduled_node.specs.Scheduled.{manned, ScheduledStands, ScheduledCreates}
use Rattle.runs.specs.Reached.{IsReached, IsFitIn, IsNamed}
use Rattle.eden_world.specs.Steps.{Goes, LooksUp}
use Rattle.eden_world.specs.Seated.{TakesPlace, station_at}
use Rattle.eden_world.specs.declared.seats.Seat.TheVariants as place
use Rattle.eden_world.specs.InHand.{in_hand, HaveAgendas, Stands, Ends}
use Rattle.eden_world.specs.declared.World.{World as Program}

-- 1. Commands

-- The entry leads from what was in hand to what is, and each node that is up has the agenda of its turns behind it.
pub record GoesOn {T D : Type 0} (layout : Layout) (seen : T → Seen) (disk : D → DiskSeen) (old new : Program T D) (more : ℕ) (w : World)
    (c : Option Command) (e : Entry) : Type 0 where
  pub goes : Goes layout more w c e (in_hand seen disk old) (in_hand seen disk new)
  pub agendas : HaveAgendas new

-- So it is in each world that a history reaches, for which the program stood and the command is fit.
abbrev pub CarriesBy : {T D : Type 0} → Bool → Layout → (T → Seen) → (D → DiskSeen) → Program T D → Program T D → Command → Entry → Type 0
CarriesBy tells layout seen disk old new c e = (more : ℕ) (w : World) → IsReached w → Stands tells layout seen disk old (suc more) w
    → IsFitIn w c → GoesOn layout seen disk old new more w (Some c) e

-- There was no memory for it: each disk did what the end of a run may do.
abbrev pub Starves : {T D : Type 0} → Bool → Layout → (T → Seen) → (D → DiskSeen) → Program T D → Program T D → Command → Type 0
Starves tells layout seen disk old new c = (more : ℕ) (w : World) → IsReached w → Stands tells layout seen disk old (suc more) w
    → IsFitIn w c → Ends layout seen disk old more w new

-- 2. Calls of the shell

-- by each `call` of this name and operation whose capability and arguments are these
abbrev pub CallsBy : {T D : Type 0} → Bool → Layout → (T → Seen) → (D → DiskSeen) → Program T D → Program T D → List ℕ → Cap → List ℕ
    → List Datum → Entry → Type 0
CallsBy tells layout seen disk old new name target operation args e = (more : ℕ) (w : World) (by : Ref) (given : List Argument)
    → IsReached w → Stands tells layout seen disk old (suc more) w
    → ready_call w (command.Call name by operation given) ≡ Some (target, args)
    → GoesOn layout seen disk old new more w (Some (command.Call name by operation given)) e

-- the call of a walk, which stands in no command
pub record LooksOn {T D : Type 0} (layout : Layout) (seen : T → Seen) (disk : D → DiskSeen) (old new : Program T D) (more : ℕ) (w : World)
    (name : List ℕ) (directory : Option Cap) (components : List (List ℕ)) (e : Entry) : Type 0 where
  pub goes : LooksUp layout more w name directory components e (in_hand seen disk old) (in_hand seen disk new)
  pub agendas : HaveAgendas new

-- by each walk under this name whose directory is asked so
abbrev pub WalksBy : {T D : Type 0} → Bool → Layout → (T → Seen) → (D → DiskSeen) → Program T D → Program T D → List ℕ → Cap → List ℕ
    → List Datum → Entry → Type 0
WalksBy tells layout seen disk old new name target operation args e = (more : ℕ) (w : World) (components : List (List ℕ)) → IsReached w
    → Stands tells layout seen disk old (suc more) w → operation ≡ codes "LookUp" → args ≡ lookup_args components
    → LooksOn layout seen disk old new more w name (Some target) components e

-- a component is looked up in a directory, if it is one
abbrev pub LooksUpBy : {T D : Type 0} → Bool → Layout → (T → Seen) → (D → DiskSeen) → Program T D → Program T D → List ℕ → Option Cap
    → List ℕ → Entry → Type 0
LooksUpBy tells layout seen disk old new name directory component e = (more : ℕ) (w : World) → IsReached w
    → Stands tells layout seen disk old (suc more) w → IfSome directory (IsNamed w) → IsText component
    → LooksOn layout seen disk old new more w name directory (component ∷ []) e

-- no disk was touched, and the run ends: whatever was to be done in this world
abbrev pub EndsStill : {T D : Type 0} → Bool → Layout → (T → Seen) → (D → DiskSeen) → Program T D → Program T D → Type 0
EndsStill tells layout seen disk old new = (more : ℕ) (w : World) → Stands tells layout seen disk old (suc more) w
    → Ends layout seen disk old more w new

-- 3. Commands of one node

-- the command that asks this of the disk of a node
abbrev pub arms_by : Arm → ℕ → Command
arms_by (arm.Fail after) n = command.Fail n after
arms_by (arm.Stop after mode) n = command.Stop n after mode

-- the node at a place created an Eject of this type, or said why not; nothing else changed
pub record CreatesIn {T D : Type 0} (tells : Bool) (layout : Layout) (seen : T → Seen) (n : ℕ) (type_name : List ℕ) (old new : Program T D)
    (made : Result Uid Status) : Type 0 where
  pub before : ScheduledNode T D
  pub after : ScheduledNode T D
  pub kind : Edentype
  pub was_up : station_at old n ≡ Some before
  pub takes : TakesPlace n (place.Up after) old new
  pub store : seen after.node.store ≡ seen before.node.store
  pub known : type_of (types_in old.types) type_name ≡ Some kind
  pub creates : IsTrue tells → (m : Mail) (s : Site) → HasNewUid s → ScheduledStands layout old.types (manned seen before) m s
      → ScheduledCreates layout old.types (manned seen before) (manned seen after) m kind made s
