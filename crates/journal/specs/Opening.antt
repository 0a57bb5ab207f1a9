-- The world before the first event: what the images hold; all Ejects passive, all nodes down, all links joined.
use Rattle.std.specs.Prelude.{ℕ, ◌+◌, ◌*◌, ◌==◌, ◌≤◌, ◌≡◌, Bool, true, false, not, ◌&&◌, cond, is_some, IsTrue, List, [], ◌∷◌, map, length}
use Rattle.std.specs.Prelude.{Option, None, Some, Result, Ok, Err}
use Rattle.std.specs.List.{filter_map}
use Rattle.capability.specs.declared.Uid.{Uid}
use Rattle.eden_model.specs.Map.{with_item, value_at, uid_cmp}
use Rattle.epl_syntax.specs.Edentype.{Edentype}
use Rattle.std.specs.FinMap as finite
use Rattle.passive_store.specs.Kept.{Layout, Kept}
use Rattle.journal.specs.World.{World, Eject, Node}
use Rattle.journal.specs.Ejects.{epoch_or_zero}
use Rattle.journal.specs.Settling.{epoch_uid}
use Rattle.journal.specs.Run.{most_turns}

-- a passive Eject of which these bytes are kept, with nothing queued and nothing in doubt
abbrev pub passive : List ℕ → Eject
passive bytes = record { active = None; queued = []; kept = Some bytes; doubt = None }

-- the passive Eject of a uid, by the bytes that are kept under it; None for the reserved uid, whose serial is 0
abbrev pub passive_entry : Uid × List ℕ → Option (Uid × Eject)
passive_entry e = cond (e.0.serial == 0) None (Some (e.0, passive e.1))

-- the number that these bytes spell behind n, the highest first
abbrev pub number_from : ℕ → List ℕ → ℕ
number_from n [] = n
number_from n (b ∷ bytes) = number_from (n * 256 + b) bytes

-- the epoch that node n has stored, by the bytes under its reserved uid; None where nothing is kept there
abbrev pub epoch_in : ℕ → List (Uid × List ℕ) → Option ℕ
epoch_in n kept = with_item (value_at uid_cmp (epoch_uid n) kept) (λ bytes. Some (number_from 0 bytes)) None

-- until a boot raises the epoch, no serial of the stored one is free
abbrev pub last_serial_of_all : ℕ
last_serial_of_all = 4294967295

-- a node by its number, the size of its disk, what the image keeps or its first damaged place, whether it is overfull and whether it is
-- untold, and the ledger
abbrev pub node_from : ℕ → ℕ → Result (List (Uid × List ℕ)) ℕ → Bool → Bool → List ℕ → Node
node_from n size (Ok kept) overfull untold ledger = record {
  size = size;
  damaged = None;
  overfull = overfull;
  untold = untold;
  up = false;
  epoch = epoch_in n kept;
  epoch_doubt = None;
  last_serial = last_serial_of_all;
  clock = None;
  requests = [];
  synced = false;
  ledger = ledger;
  ejects = filter_map passive_entry kept;
}
node_from n size (Err place) overfull untold ledger = record {
  size = size;
  damaged = Some place;
  overfull = overfull;
  untold = untold;
  up = false;
  epoch = None;
  epoch_doubt = None;
  last_serial = last_serial_of_all;
  clock = None;
  requests = [];
  synced = false;
  ledger = [];
  ejects = [];
}

-- the bytes that are found under each uid, in ascending order, without the numbers of their records
abbrev pub entries_of : Result Kept ℕ → Result (List (Uid × List ℕ)) ℕ
entries_of (Ok kept) = Ok (finite.entries kept.bodies)
entries_of (Err place) = Err place

-- the ledger that is found in an image; of a damaged one it is empty
abbrev pub ledger_of : Result Kept ℕ → List ℕ
ledger_of (Ok kept) = kept.ledger
ledger_of (Err place) = []

-- what an image of node n keeps, or its first damaged place
abbrev pub found_in : Layout → ℕ → List ℕ → Result (List (Uid × List ℕ)) ℕ
found_in layout n image = entries_of (layout.map_of n image)

-- what was found is nothing at all, or an epoch is there
abbrev pub has_epoch_first : ℕ → Result (List (Uid × List ℕ)) ℕ → Bool
has_epoch_first n (Ok []) = true
has_epoch_first n (Ok (e ∷ kept)) = is_some (epoch_in n (e ∷ kept))
has_epoch_first n (Err place) = false

-- An image that can be opened, of which the room is told for no change more. Over blocks the last sequence is used there, or no head or no
-- block is free, so that no put finds room, not even that of an epoch. It is not asked of an image that keeps Ejects and no epoch,
-- which is not fit for a run.
abbrev pub is_untold : Layout → ℕ → List ℕ → Bool
is_untold layout n image =
    (layout.changes_told n image == 0) && (not (layout.is_overfull n image) && has_epoch_first n (found_in layout n image))

-- A run makes fewer changes on a disk than this: each entry makes at most one; a script of at most 1,048,576 bytes has fewer commands
-- than that, with the boots of its nodes, and all else are turns.
abbrev pub most_changes : ℕ
most_changes = 1048576 + most_turns

-- for so many more changes the room of an image is told, if it has a map and is not too full to be opened
abbrev pub IsToldFor : Layout → ℕ → ℕ → List ℕ → Type 0
IsToldFor layout n more image = (kept : Kept) → layout.map_of n image ≡ Ok kept → layout.is_overfull n image ≡ false
    → more ≤ layout.changes_told n image

-- An image is fit for so many changes where it keeps nothing of an epoch past the stored one, and its room is told for them. An image that
-- has no map is fit.
pub record IsFitFor (layout : Layout) (n more : ℕ) (image : List ℕ) : Type 0 where
  -- the image keeps nothing under a uid whose epoch is past the stored one, or past 0 where none is stored
  pub epochs : (kept : List (Uid × List ℕ)) → found_in layout n image ≡ Ok kept → (u : Uid) → IsTrue (is_some (value_at uid_cmp u kept))
      → u.epoch ≤ epoch_or_zero (epoch_in n kept)
  -- where the image has a map and can be opened, its room is told for so many changes
  pub room_is_told : IsToldFor layout n more image

-- it is fit where it is fit for all that a run can change
abbrev pub IsFitImage : Layout → ℕ → List ℕ → Type 0
IsFitImage layout n image = IsFitFor layout n most_changes image

-- the node with this number and this image on its disk, before the first event: down, and with what the image keeps
abbrev pub node_of : Layout → ℕ × List ℕ → Node
node_of layout d = node_from d.0 (length d.1) (found_in layout d.0 d.1) (layout.is_overfull d.0 d.1) (is_untold layout d.0 d.1)
    (ledger_of (layout.map_of d.0 d.1))

-- the world of these nodes, whether they will be booted or not
abbrev pub opening_of : List Edentype → Layout → List (ℕ × Node) → World
opening_of types layout nodes = record {
  types = types;
  layout = layout;
  nodes = nodes;
  traffic = record { calls = []; transit = [] };
  cuts = [];
  names = [];
  turns = 0;
  last = None;
}

-- the world before the first event, by the types, the layout, and the images with the numbers of their nodes
abbrev pub opening : List Edentype → Layout → List (ℕ × List ℕ) → World
opening types layout images = opening_of types layout (map (λ d. (d.0, node_of layout d)) images)
