-- What the commands of a script allow and change, but for those that take turns.
use Rattle.std.specs.Prelude.{◌≡◌, ℕ, Bool, true, false, cond, List, [], Option, None, Some, Result, Ok, Err, is_some, IsSomeAnd, IsTrue}
use Rattle.capability.specs.declared.Uid.{Uid}
use Rattle.capability.specs.declared.Cap.{Cap}
use Rattle.capability.specs.Capability.{full, restricted}
use Rattle.eden_value.specs.Datum.{Datum}
use Rattle.eden_value.specs.declared.status.Status.{Status}
use Rattle.eden_value.specs.declared.status.Status.TheVariants as status
use Rattle.eden_model.specs.Map.{with_item}
use Rattle.eden_model.specs.declared.Asker.TheVariants.{Shell}
use Rattle.eden_model.specs.Traffic.{next_call, with_call, names_of, is_open}
use Rattle.eden_disk.specs.declared.disk.Arm.TheVariants as arm
use Rattle.epl_syntax.specs.Edentype.{Edentype}
use Rattle.epl_syntax.specs.Meaning.{type_of, first_values}
use Rattle.journal.specs.declared.command.Command.{Command}
use Rattle.journal.specs.declared.command.Command.TheVariants as command
use Rattle.journal.specs.declared.event.Event.{Event}
use Rattle.journal.specs.declared.event.Event.TheVariants as event
use Rattle.journal.specs.World.{World, capability, nothing, at_node, site_at, reaches, is_up}
use Rattle.journal.specs.Ejects.{fresh, next_uid, born}
use Rattle.journal.specs.Processes.{refused_at_once}
use Rattle.journal.specs.Boots.{AllowsBoot}
use Rattle.journal.specs.References.{with_name, cap_at, args_of}

-- 1. Creations

-- the uid of a new Eject on this node, or why there is none
abbrev pub creation : World → ℕ → Result Uid Status
creation w n = cond (reaches w 0 n) (with_item (site_at w n) next_uid (Err status.Unreachable)) (Err status.Unreachable)

-- what is shown of a creation: `ok` with the new uid, or why there is none, with no uid
abbrev pub IsCreation : Result Uid Status → Status → Option Uid → Type 0
IsCreation (Ok u) s said = (s ≡ status.Ok) × (said ≡ Some u)
IsCreation (Err why) s said = (s ≡ why) × (said ≡ None)

-- an Eject of this type, with the type's first values, joins the node of its uid; without a type nothing is changed
abbrev pub born_as : Uid → Option Edentype → World → World
born_as u None w = w
born_as u (Some t) w = at_node u.node (born u (fresh t (first_values t))) w

-- the Eject of this uid is created, and the name stands for its capability with all rights; without a uid it stands for nothing
abbrev pub made : List ℕ → List ℕ → Option Uid → World → World
made name type_name (Some u) w = with_name name (capability (full u)) (born_as u (type_of w.types type_name) w)
made name type_name None w = with_name name nothing w

-- 2. Calls of the shell

-- a call of the shell to this target, with these arguments, may have this number, and be answered with this status at once, or not at once
pub record AllowsAsked (w : World) (k : ℕ) (at_once : Option Status) (target : Cap) (args : List Datum) : Type 0 where
  -- it has the next number
  pub number : k ≡ next_call w.traffic
  -- the status that answers it at once, if one does: for arguments that are too large, or a node that the shell does not reach
  pub refused : at_once ≡ refused_at_once (reaches w 0 target.uid.node) args

-- the shell's call is made, sent or answered at once, and its name stands for nothing as yet
abbrev pub asked : List ℕ → Cap → List ℕ → List Datum → ℕ → Option Status → World → World
asked name target operation args k at_once w =
    with_name name nothing (record w { traffic = with_call k (Shell name) target operation args at_once w.traffic })

-- of a `call` its present capability and the values of its arguments; None where one of these is wanting, and for other commands
abbrev pub ready_call : World → Command → Option (Cap × List Datum)
ready_call w (command.Call name target operation args) =
    with_item (cap_at w target) (λ c. with_item (args_of w args) (λ ds. Some (c, ds)) None) None
ready_call w _ = None

-- a `call` is made, where it has its capability and its arguments; no other command changes anything here
abbrev pub asked_by : Command → ℕ → Option Status → World → World
asked_by (command.Call name target operation args) k at_once w =
    with_item (ready_call w (command.Call name target operation args)) (λ c. asked name c.0 operation c.1 k at_once w) w
asked_by _ k at_once w = w

-- 3. Names

-- a `restrict` binds its name to the capability with those of its rights that are also in the mask, where there is one
abbrev pub restricted_by : Command → World → World
restricted_by (command.Restrict name target mask) w = with_item (cap_at w target) (λ c. with_name name (capability (restricted c mask)) w) w
restricted_by _ w = w

-- a `hold` binds its name to the capability of its uid with all rights
abbrev pub held_by : Command → World → World
held_by (command.Hold name u) w = with_name name (capability (full u)) w
held_by _ w = w

-- the name is bound as a `hold` (true) or a `restrict` (false) says
abbrev pub bound : Command → Bool → World → World
bound c true w = held_by c w
bound c false w = restricted_by c w

-- the type that a `create` names, empty for any other command
abbrev pub type_name_of : Command → List ℕ
type_name_of (command.Create name n type_name) = type_name
type_name_of _ = []

-- 4. The names of the shell's open calls, by call number

-- the names under which the shell made its open calls; `end` shows them
abbrev pub open_names : World → List (List ℕ)
open_names w = names_of is_open w.traffic

-- 5. Which events a command allows

-- the command may give this event in this world; `turn`, `go` and `walk` give none here
abbrev pub AllowsCommand : World → Command → Event → Type 0
AllowsCommand w (command.Create name n type_name) (event.Made said s u) =
    (said ≡ name) × IsTrue (is_some (type_of w.types type_name)) × IsCreation (creation w n) s u
AllowsCommand w (command.Hold name u) (event.Bound said held) = (said ≡ name) × (held ≡ true)
AllowsCommand w (command.Restrict name target mask) (event.Bound said held) =
    (said ≡ name) × (held ≡ false) × IsTrue (is_some (cap_at w target))
AllowsCommand w (command.Restrict name target mask) (event.Void said) = (said ≡ name) × (cap_at w target ≡ None)
AllowsCommand w (command.Call name target operation args) (event.Asked k said at_once) =
    (said ≡ name) × IsSomeAnd (ready_call w (command.Call name target operation args)) (λ c. AllowsAsked w k at_once c.0 c.1)
AllowsCommand w (command.Call name target operation args) (event.Void said) =
    (said ≡ name) × (ready_call w (command.Call name target operation args) ≡ None)
AllowsCommand w (command.Crash n mode) (event.Crash m) = (m ≡ n) × IsTrue (is_up w n)
AllowsCommand w (command.Crash n mode) (event.Still m up) = (m ≡ n) × (up ≡ false) × (is_up w n ≡ false)
AllowsCommand w (command.Restart n) (event.Still m up) = (m ≡ n) × (up ≡ true) × IsTrue (is_up w n)
AllowsCommand w (command.Restart n) (event.Boot m e how p began) = (m ≡ n) × IsSomeAnd (site_at w n) (λ s. AllowsBoot s e how p began)
AllowsCommand w (command.Cut a b) (event.Link c d joined) = (c ≡ a) × (d ≡ b) × (joined ≡ false)
AllowsCommand w (command.Join a b) (event.Link c d joined) = (c ≡ a) × (d ≡ b) × (joined ≡ true)
AllowsCommand w (command.Fail n after) (event.Armed m what) = (m ≡ n) × (what ≡ arm.Fail after)
AllowsCommand w (command.Stop n after mode) (event.Armed m what) = (m ≡ n) × (what ≡ arm.Stop after mode)
AllowsCommand w command.End (event.Left names) = names ≡ open_names w
AllowsCommand w _ _ = ⊥
