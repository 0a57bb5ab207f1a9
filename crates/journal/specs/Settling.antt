-- Doubts: what may be kept instead, and how a pick settles it.
use Rattle.std.specs.Prelude.{ℕ, ◌/◌, ◌%◌, nat_lt, Bool, false, not, ◌&&◌, List, [], ◌∷◌, ◌++◌, Option, None, Some, is_some}
use Rattle.std.specs.List.{filter_map}
use Rattle.capability.specs.declared.Uid.{Uid}
use Rattle.eden_model.specs.Map.{with_item, first, each_value}
use Rattle.passive_store.specs.declared.store.Pick.{Pick}
use Rattle.passive_store.specs.declared.store.Pick.TheVariants as pick
use Rattle.std.specs.FinMap as finite
use Rattle.passive_store.specs.Kept.{Layout}
use Rattle.journal.specs.EjectChange.{EjectChange, body, kept_of}
use Rattle.journal.specs.World.{Eject, StoreRequest, Node, Site, on_node}

-- the reserved uid, under which node n keeps its epoch
abbrev pub epoch_uid : ℕ → Uid
epoch_uid n = record { node = n; epoch = 0; serial = 0 }

-- the four bytes of an epoch, the highest first
abbrev pub epoch_bytes : ℕ → List ℕ
epoch_bytes e = (e / 16777216) % 256 ∷ (e / 65536) % 256 ∷ (e / 256) % 256 ∷ e % 256 ∷ []

-- 1. What is in doubt on a node

-- the put of the epoch that node n has in doubt, if it has one
abbrev pub epoch_doubts : ℕ → Option ℕ → List (Uid × EjectChange)
epoch_doubts n None = []
epoch_doubts n (Some e) = (epoch_uid n, body (epoch_bytes e)) ∷ []

-- the change of an Eject that is in doubt, with its uid; None where none is
abbrev pub doubt_entry : Uid × Eject → Option (Uid × EjectChange)
doubt_entry e = with_item e.1.doubt (λ c. Some (e.0, c)) None

-- the changes of node n that may have been made: that of its epoch, and behind it those of its Ejects
abbrev pub doubts : ℕ → Node → List (Uid × EjectChange)
doubts n it = epoch_doubts n it.epoch_doubt ++ filter_map doubt_entry it.ejects

-- whether the node has a change in doubt
abbrev pub in_doubt : ℕ → Node → Bool
in_doubt n it = is_some (first (doubts n it))

-- the first of the store's requests, which is carried out before the others; None where there is none
abbrev pub first_request : Node → Option StoreRequest
first_request it = first it.requests

-- whether the first request has made a device call of its own, so that the store is at work on it
abbrev pub is_working : Node → Bool
is_working it = with_item (first_request it) (λ r. nat_lt 0 r.made) false

-- something is in doubt, and the store is at work on no request, so that the doubt is to be settled
abbrev pub to_settle : Site → Bool
to_settle s = in_doubt s.number s.node && not (is_working s.node)

-- 2. Settling

-- an Eject after a pick: of Old what is kept stays, of New the change in doubt is made; the doubt is gone
abbrev pub settled_eject : Pick → Eject → Eject
settled_eject pick.Old e = record e { doubt = None }
settled_eject pick.New e = record e { kept = with_item e.doubt kept_of e.kept; doubt = None }

-- the stored epoch after a pick: of Old as it was, of New the one in doubt, where there is one
abbrev pub settled_epoch : Pick → Node → Option ℕ
settled_epoch pick.Old it = it.epoch
settled_epoch pick.New it = with_item it.epoch_doubt (λ e. Some e) it.epoch

-- the ledger after one more change
abbrev pub written_with : Layout → EjectChange → List ℕ → List ℕ
written_with layout c ledger = ledger ++ layout.grows (kept_of c)

-- the same after these changes
abbrev pub all_written : Layout → List (Uid × EjectChange) → List ℕ → List ℕ
all_written layout [] ledger = ledger
all_written layout (c ∷ cs) ledger = all_written layout cs (written_with layout c.1 ledger)

-- the ledger after a pick: of Old as it was, of New with what the changes in doubt add to it
abbrev pub settled_ledger : Layout → ℕ → Pick → Node → List ℕ
settled_ledger layout n pick.Old it = it.ledger
settled_ledger layout n pick.New it = all_written layout (doubts n it) it.ledger

-- the old state or the new one holds, and nothing is in doubt
abbrev pub settled_node : Layout → ℕ → Pick → Node → Node
settled_node layout n p it = record it {
  epoch = settled_epoch p it;
  epoch_doubt = None;
  synced = false;
  ledger = settled_ledger layout n p it;
  ejects = each_value (settled_eject p) it.ejects;
}

-- the site once a settling has made this pick; where nothing was picked, as it was
abbrev pub settled : Option Pick → Site → Site
settled None s = s
settled (Some p) s = on_node (settled_node s.layout s.number p) s

-- the settling begins anew, with its sync
abbrev pub unsynced : Site → Site
unsynced s = on_node (λ it. record it { synced = false }) s

-- 3. Room, where nothing is in doubt

-- the uid of an Eject with the bytes that are kept of it; None where nothing is
abbrev pub kept_entry : Uid × Eject → Option (Uid × List ℕ)
kept_entry e = with_item e.1.kept (λ bytes. Some (e.0, bytes)) None

-- the stored epoch of node n under its reserved uid, if one is stored
abbrev pub epoch_entries : ℕ → Option ℕ → List (Uid × List ℕ)
epoch_entries n None = []
epoch_entries n (Some e) = (epoch_uid n, epoch_bytes e) ∷ []

-- what is kept on a node: the epoch and the representations, in ascending order of uids
abbrev pub kept_map : ℕ → Node → List (Uid × List ℕ)
kept_map n it = epoch_entries n it.epoch ++ filter_map kept_entry it.ejects

-- the longest body that finds room; None where none does
abbrev pub room : Site → Option ℕ
room s = s.layout.room_of s.node.size (finite.from_entries (kept_map s.number s.node)) s.node.ledger

-- whether a change of u finds room on the node's disk
abbrev pub finds_room : Uid → EjectChange → Site → Bool
finds_room u c s = s.layout.has_room (room s) u (kept_of c)
