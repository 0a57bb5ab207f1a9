-- The modelled world: the nodes with their Ejects, the calls with their messages, the links, and what the script's names stand for.
use Rattle.std.specs.Prelude.{ℕ, ◌==◌, Bool, false, not, ◌&&◌, ◌||◌, List, Option, None, Some, is_some}
use Rattle.std.specs.Ordering.{nat_cmp}
use Rattle.std.specs.List.{list_any}
use Rattle.capability.specs.declared.Uid.{Uid}
use Rattle.capability.specs.declared.Cap.{Cap}
use Rattle.eden_value.specs.Datum.{Datum}
use Rattle.eden_model.specs.Map.{with_item, changed_at, value_at, put_at, uid_cmp}
use Rattle.eden_model.specs.Traffic.{Traffic}
use Rattle.eden_model.specs.Crew.{Crew}
use Rattle.epl_syntax.specs.declared.effect.Answer.{Answer}
use Rattle.epl_syntax.specs.Edentype.{Edentype}
use Rattle.epl_syntax.specs.Meaning.{Rest}
use Rattle.passive_store.specs.Kept.{Layout}
use Rattle.journal.specs.EjectChange.{EjectChange}
use Rattle.journal.specs.declared.event.Key.{Key}

-- 1. Ejects

-- what is left to do of a process, and what its next turn is told
pub record Task : Type 0 where
  -- what the process has left to do, as its type has it
  pub rest : Rest
  -- the answer to the effect in which its turn before ended, or that it may go on
  pub answer : Answer

-- an active part: the type, the values of all variables, and the processes by number: what each is to do, and who waits for whom
pub record Active : Type 0 where
  -- of which type the Eject is
  pub kind : Edentype
  -- the values of all its variables, durable and working ones
  pub vars : List Datum
  -- what each process is to do, by the number of the process
  pub tasks : List (ℕ × Task)
  -- what each process serves and waits for, with the limits of the classes, the monitors and the conditions
  pub crew : Crew

-- an Eject: its active part, its queued calls, what is kept of it, and what may be kept instead
pub record Eject : Type 0 where
  -- what of it is in memory; None where it is passive
  pub active : Option Active
  -- its invocations that are not started yet, by the numbers of their calls, the first to arrive in front
  pub queued : List ℕ
  -- the body that is kept under its uid, as far as is known; None where there is none
  pub kept : Option (List ℕ)
  -- the change to what is kept of which it is not known whether it was made, if there is one
  pub doubt : Option EjectChange

-- 2. Nodes

-- a put or a removal that waits for the store, or has made so many device calls; a dropped one answers no process
pub record StoreRequest : Type 0 where
  -- the Eject whose body is put or removed
  pub uid : Uid
  -- the process that is told how it ended; None where nobody is told any more
  pub process : Option ℕ
  -- the body that is put, or the removal
  pub change : EjectChange
  -- how many device calls of its own it has made
  pub made : ℕ

-- a node: what is known of its disk, the requests to its store, and all Ejects that were ever on it
pub record Node : Type 0 where
  -- the size of its disk, in bytes
  pub size : ℕ
  -- the first damaged place of the opening image, as a number of bytes from the front; None where it has none
  pub damaged : Option ℕ
  -- whether the opening image keeps too much to be opened
  pub overfull : Bool
  -- whether of the opening image, though it can be opened, the room is told for no change more, so that not even an epoch finds room
  pub untold : Bool
  -- whether a boot brought it up and it has not crashed since
  pub up : Bool
  -- the stored epoch; None where none is stored
  pub epoch : Option ℕ
  -- the epoch whose put was begun, and of which it is not known whether it is stored; None where there is none
  pub epoch_doubt : Option ℕ
  -- the serial that was given last in its epoch: 0 where a boot just began one, the greatest of all until a first boot has
  pub last_serial : ℕ
  -- the clock of the last entry on the disk; None where there was none yet
  pub clock : Option ℕ
  -- the requests to its store, the one that it serves first in front
  pub requests : List StoreRequest
  -- whether the settling's sync was made
  pub synced : Bool
  -- what else decides the room, in the words of the layout: of a log the lengths of all bodies written, of blocks nothing
  pub ledger : List ℕ
  -- all Ejects that were ever on the node, in ascending order
  pub ejects : List (Uid × Eject)

-- 3. The world

-- what a name of the script stands for
pub data Meaning : Type 0 where
  -- a capability, by which an Eject is invoked
  capability : Cap → Meaning
  -- the results of a call that was answered `ok`
  results : List Datum → Meaning
  -- no value: of a call that has no answer or was refused, and of a creation that was refused
  nothing : Meaning

-- all that is modelled, as it stands between two entries of a history: the nodes with their Ejects, the calls, the links and the names
pub record World : Type 0 where
  -- the types that the script has, native and declared ones
  pub types : List Edentype
  -- how the stores lie on the disks
  pub layout : Layout
  -- the nodes, each with its number, which are counted from 1
  pub nodes : List (ℕ × Node)
  -- all calls ever made, with the messages on their way
  pub traffic : Traffic
  -- the links that are cut, each by its two stations in any order
  pub cuts : List (ℕ × ℕ)
  -- what each name of the script stands for, the newest meaning in front: of two meanings of a name the first counts
  pub names : List (List ℕ × Meaning)
  -- how many turns were taken so far
  pub turns : ℕ
  -- the key that was taken last; None before the first turn
  pub last : Option Key

-- the node of this number, if the world has it
abbrev pub node_at : World → ℕ → Option Node
node_at w n = value_at nat_cmp n w.nodes

-- the Eject of this uid, if its birth node is there and has it
abbrev pub eject_at : World → Uid → Option Eject
eject_at w u = with_item (node_at w u.node) (λ it. value_at uid_cmp u it.ejects) None

-- whether the Eject has an active part
abbrev pub is_active_at : World → Uid → Bool
is_active_at w u = with_item (eject_at w u) (λ e. is_some e.active) false

-- 4. A site: a node and the calls, which is all that an event at the node changes

-- one node with the calls of the whole world, and what is the same for every node
pub record Site : Type 0 where
  -- the types of the script, as the world has them
  pub types : List Edentype
  -- how the store lies on the node's disk
  pub layout : Layout
  -- the number of the node
  pub number : ℕ
  -- the node as it stands
  pub node : Node
  -- all calls, also those between other stations
  pub traffic : Traffic

-- the site of this node, under this number, in the world
abbrev pub site_of : World → ℕ → Node → Site
site_of w n it = record { types = w.types; layout = w.layout; number = n; node = it; traffic = w.traffic }

-- the world with the node and the calls of this site, and all else as it was
abbrev pub with_site : Site → World → World
with_site s w = record w { nodes = put_at nat_cmp s.number s.node w.nodes; traffic = s.traffic }

-- the change of the site of node n in the world, if that has it: the node and the calls are as f leaves them, and all else as it was
unfoldable pub at_node : ℕ → (Site → Site) → World → World
at_node n f w = with_item (node_at w n) (λ it. with_site (record (f (site_of w n it)) { number = n }) w) w

-- the site of the node of this number, if the world has that
abbrev pub site_at : World → ℕ → Option Site
site_at w n = with_item (node_at w n) (λ it. Some (site_of w n it)) None

-- the Eject of this uid, if the node of the site has it
abbrev pub eject_in : Site → Uid → Option Eject
eject_in s u = value_at uid_cmp u s.node.ejects

-- the site with this Eject changed, where its node has it, and all else as it was
unfoldable pub on_eject : Uid → (Eject → Eject) → Site → Site
on_eject u f s = record s { node = record s.node { ejects = changed_at uid_cmp u f s.node.ejects } }

-- the site with its node changed, and all else as it was
unfoldable pub on_node : (Node → Node) → Site → Site
on_node f s = record s { node = f s.node }

-- the site with the calls changed, and all else as it was
unfoldable pub on_traffic : (Traffic → Traffic) → Site → Site
on_traffic f s = record s { traffic = f s.traffic }

-- 5. Links

-- whether the link l is the one between a and b, whichever of them it has first
abbrev pub joins : ℕ → ℕ → ℕ × ℕ → Bool
joins a b l = ((l.0 == a) && (l.1 == b)) || ((l.0 == b) && (l.1 == a))

-- whether the link between two stations is cut
abbrev pub is_cut : World → ℕ → ℕ → Bool
is_cut w a b = list_any (joins a b) w.cuts

-- whether there is such a node, and it is up
abbrev pub is_up : World → ℕ → Bool
is_up w n = with_item (node_at w n) (λ it. it.up) false

-- whether node b is reached from station a
abbrev pub reaches : World → ℕ → ℕ → Bool
reaches w a b = is_up w b && ((a == b) || not (is_cut w a b))
