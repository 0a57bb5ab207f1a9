-- Words for short histories: blank nodes with a log, and entries.
use Rattle.std.proofs.Common.{ℕ, zero, suc, ◌+◌, Bool, false, true, List, [], ◌∷◌, ◌++◌, map, None, Some, Ok}
use Rattle.std.specs.List.{count_by}
use Rattle.capability.specs.declared.Uid.{Uid}
use Rattle.eden_value.specs.Datum.{Datum, text, cap}
use Rattle.eden_value.specs.declared.status.Status.{Status}
use Rattle.eden_value.specs.declared.status.Status.TheVariants as status
use Rattle.passive_store.specs.LogLayout.{log_layout}
use Rattle.epl_syntax.specs.Tree.{TypeTree}
use Rattle.epl_syntax.specs.Natives.{native_types}
use Rattle.epl_syntax.specs.Edentype.{Edentype, native, declared}
use Rattle.epl_syntax.specs.Meaning.{types_in}
use Rattle.epl_syntax.specs.Rules.OfTypes.{native_only}
use Rattle.journal.specs.Argument.{Argument, several, arguments_of, plain as given}
use Rattle.journal.specs.declared.command.Ref.{Ref}
use Rattle.journal.specs.declared.event.Entry.{Entry}
use Rattle.journal.specs.declared.event.Event.{Event}
use Rattle.journal.specs.declared.event.Event.TheVariants as event
use Rattle.journal.specs.declared.event.Shown.{Shown}
use Rattle.journal.specs.declared.event.Shown.TheVariants as shown
use Rattle.journal.specs.declared.event.BootEnd.TheVariants as boot_end
use Rattle.journal.specs.declared.event.RequestEnd.TheVariants as request_end
use Rattle.journal.specs.World.{World, Node}
use Rattle.journal.specs.Opening.{opening_of, node_from, last_serial_of_all}
use Rattle.journal.specs.Settling.{kept_map}
pub use Rattle.journal.specs.RefusedRuns.{plain, on_disk, c_uid, ref_c, int}

-- 1. Nodes

-- a node whose disk has this size, and nothing on it
abbrev pub blank_node_of : ℕ → Node
blank_node_of size = record {
  size = size;
  damaged = None;
  overfull = false;
  untold = false;
  up = false;
  epoch = None;
  epoch_doubt = None;
  last_serial = last_serial_of_all;
  clock = None;
  requests = [];
  synced = false;
  ledger = [];
  ejects = [];
}

abbrev pub blank_node : Node
blank_node = blank_node_of 1048576

-- so many blank nodes, numbered from k on
abbrev pub blank_nodes : ℕ → ℕ → List (ℕ × Node)
blank_nodes k zero = []
blank_nodes k (suc n) = (k, blank_node) ∷ blank_nodes (k + 1) n

-- the native types, and these declared ones behind them
abbrev pub with_trees : List TypeTree → List Edentype
with_trees trees = map native native_types ++ map declared trees

-- the world of blank nodes with these types; `Blank` has the proof that blank disks open as it
abbrev pub blank_world_of : List Edentype → ℕ → World
blank_world_of types n = opening_of types log_layout (blank_nodes 1 n)

-- that of a script that declares no type
abbrev pub blank_world : ℕ → World
blank_world n = blank_world_of (types_in native_only) n

-- a node that is down, whose disk keeps what this one's keeps; nothing is in doubt there
abbrev pub asleep : ℕ × Node → ℕ × Node
asleep p = (p.0, node_from p.0 p.1.size (Ok (kept_map p.0 p.1)) false false p.1.ledger)

abbrev pub one_node : World
one_node = blank_world 1

abbrev pub two_blank_nodes : World
two_blank_nodes = blank_world 2

abbrev pub breaking : List (List ℕ) → Entry → Entry
breaking names e = record e { broken = names }

-- 2. Entries

-- the Eject of this serial number, which was made on a node in its first epoch
abbrev pub eject : ℕ → ℕ → Uid
eject n k = record { node = n; epoch = 1; serial = k }

-- the k-th result of a name, and the name alone
abbrev pub result_of : List ℕ → ℕ → Ref
result_of name k = record { name = name; result = k }

abbrev pub ref : List ℕ → Ref
ref name = result_of name 0

abbrev pub word : List ℕ → Datum
word t = text t

-- a list of texts, as an argument
abbrev pub words : List (List ℕ) → Argument
words ts = several (arguments_of (map (λ t. given (word t)) ts))

-- a capability of this Eject with these rights
abbrev pub right_on : Uid → ℕ → Datum
right_on u rights = cap (Some (record { uid = u; rights = record { bits = rights } }))

-- a node boots into an epoch, and its disk has this clock then
abbrev pub boots : ℕ → ℕ → ℕ → Entry
boots n epoch clock = on_disk n clock (event.Boot n epoch boot_end.Up None true)

abbrev pub made : List ℕ → Uid → Entry
made name u = plain (event.Made name status.Ok (Some u))

-- the shell asks a call under a name
abbrev pub asks : ℕ → List ℕ → Entry
asks k name = plain (event.Asked k name None)

-- a request comes from a station to a node, and joins the queue
abbrev pub comes : ℕ → ℕ → ℕ → Entry
comes k a b = plain (event.Request k a b None)

-- a call starts at an Eject, as the process of a number
abbrev pub starts : ℕ → Uid → ℕ → Entry
starts k u p = plain (event.Start k u p)

-- a process takes a turn
abbrev pub turn : Uid → ℕ → Shown → Entry
turn u p shown = plain (event.Process u p shown)

-- a reply comes to the shell, and one to a process elsewhere
abbrev pub answers : ℕ → ℕ → List ℕ → Status → List Datum → Entry
answers k a name s values = plain (event.Reply k a 0 (Some name) s values)

abbrev pub replies : ℕ → ℕ → ℕ → List Datum → Entry
replies k a b values = plain (event.Reply k a b None status.Ok values)

-- a device call of a store's request, which is not the last one, and the last one
abbrev pub part : Uid → ℕ → Entry
part u clock = on_disk u.node clock (event.Store u clock request_end.Part None)

abbrev pub done : Uid → ℕ → Entry
done u clock = on_disk u.node clock (event.Store u clock request_end.Done None)

-- the four device calls of a put, from this clock on
abbrev pub saves : Uid → ℕ → List Entry
saves u clock = part u clock ∷ part u (clock + 1) ∷ part u (clock + 2) ∷ done u (clock + 3) ∷ []

abbrev pub quiet : Entry
quiet = plain event.Quiet

-- the script ends, and these calls are open
abbrev pub left : List (List ℕ) → Entry
left names = plain (event.Left names)

-- how often a process invoked
abbrev pub invokes : Event → Bool
invokes (event.Process u p (shown.Invoke k)) = true
invokes _ = false

abbrev pub invocations : List Entry → ℕ
invocations history = count_by (λ e. invokes e.event) history

-- 3. A transcript, by its lines

abbrev pub printed : List (List ℕ) → List ℕ
printed [] = []
printed (line ∷ lines) = line ++ (10 ∷ printed lines)
