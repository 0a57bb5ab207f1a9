-- The node of the code as that of the definitions.
use Rattle.std.specs.Prelude.{ℕ, ◌==◌, Bool, not, cond, ◌&&◌, T, List, [], ◌∷◌, ◌++◌, map, length, Option, None, Some, IfSome}
use Rattle.std.specs.FinMap.Entries.{is_sorted}
use Rattle.capability.specs.declared.Uid.{Uid}
use Rattle.eden_model.specs.Crew.{Waits, outside}
use Rattle.eden_model.specs.Map.{same_uid, uid_cmp}
use Rattle.eden_model.specs.Traffic.{Traffic}
use Rattle.epl_syntax.specs.Meaning.{types_in}
use Rattle.epl_syntax.specs.Rules.OfTypes.{TypeList}
use Rattle.block_tables.specs.Blocks.{blocks_of}
use Rattle.passive_blocks.specs.BlockLayout.{block_layout}
use Rattle.journal.specs.EjectChange.{EjectChange}
use Rattle.journal.specs.Settling.{first_request, kept_map}
use Rattle.journal.specs.World.{Eject, Node, Site, StoreRequest, eject_in}
use Rattle.plain_ejects.specs.View.{eject_of, change_of}
use Rattle.plain_stores.specs.Places.{IsFirstWith}
use Rattle.plain_stores.specs.declared.entries.PlainEntry.{PlainEntry}
use Rattle.plain_stores.specs.declared.request.PlainRequest.{PlainRequest}
use Rattle.plain_stores.specs.declared.PlainNode.{PlainNode}

-- 1. A node

-- an Eject with its uid, by the types of the script
abbrev pub entry_of : TypeList → PlainEntry → Uid × Eject
entry_of ts e = (e.uid, eject_of ts e.eject)

-- the Ejects with their uids
abbrev pub ejects_of : TypeList → List PlainEntry → List (Uid × Eject)
ejects_of ts es = map (entry_of ts) es

-- a request to the store
abbrev pub request_of : PlainRequest → StoreRequest
request_of r = record { uid = r.uid; process = r.process; change = change_of r.wish; made = r.made }

-- the node, by the types of the script; over blocks nothing but what is kept decides the room, so that its ledger is empty
abbrev pub node_of : TypeList → PlainNode → Node
node_of ts n = record {
  size = n.size;
  damaged = n.damaged;
  overfull = n.overfull;
  untold = n.untold;
  up = n.up;
  epoch = n.epoch;
  epoch_doubt = n.epoch_doubt;
  last_serial = n.last_serial;
  clock = n.clock;
  requests = map request_of n.requests.items;
  synced = n.synced;
  ledger = [];
  ejects = ejects_of ts n.ejects.items;
}

-- its site, with blocks on its disk and these calls
abbrev pub site_of : TypeList → Traffic → PlainNode → Site
site_of ts traffic n = record {
  types = types_in ts;
  layout = block_layout;
  number = n.number;
  node = node_of ts n;
  traffic = traffic;
}

-- 2. Ejects by their uids

-- the first place where the Eject of this uid stands, or none
abbrev pub IsPlaceOf : Uid → List PlainEntry → Option ℕ → Type 0
IsPlaceOf u es = IsFirstWith (λ (e : PlainEntry). e.uid) u es

-- 3. Requests

-- the node with one more request, which answers this process
abbrev pub with_request : Uid → ℕ → EjectChange → Node → Node
with_request u p change it = record it { requests = it.requests ++ record { uid = u; process = Some p; change = change; made = 0 } ∷ [] }

-- a request of this Eject answers no process; others are as they were
abbrev pub freed : Uid → StoreRequest → StoreRequest
freed u r = cond (same_uid r.uid u) (record r { process = None }) r

-- whether a request stays where the active part of this Eject ends
abbrev pub stays : Uid → StoreRequest → Bool
stays u r = not (same_uid r.uid u && (r.made == 0))

-- 4. Room

-- how many blocks a kept body takes
abbrev pub size_kept : Uid × List ℕ → ℕ
size_kept e = blocks_of (length e.1)

-- 5. What holds of the nodes of a world that a history reaches

-- what is kept stands in ascending order of uids
abbrev pub KeptInOrder : Site → Type 0
KeptInOrder s = T (is_sorted uid_cmp (kept_map s.number s.node))

-- where the first request answers a process of an active Eject, that process waits for what is outside
abbrev pub AnswersWaiting : Site → Type 0
AnswersWaiting s = IfSome (first_request s.node) (λ r. IfSome r.process (λ p. IfSome (eject_in s r.uid) (λ e.
    IfSome e.active (λ it. Waits it.crew p outside))))
