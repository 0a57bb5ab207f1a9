-- What two disks vouch for: that what is held on both, with or without a change begun, can be told from what is left of them.
use Rattle.std.specs.Prelude.{◌≡◌, ◌⊎◌, ℕ, ◌+◌, ◌≤◌, ◌<◌, ◌==◌, Bool, true, false, List, length, Option, None, Some, Result, Ok, Err}
use Rattle.std.specs.Prelude.{if◌then◌else◌}
use Rattle.std.specs.Int.{w32, from_be_bytes}
use Rattle.std.specs.FinMap as map
use Rattle.std.specs.FinMap.{FinMap}
use Rattle.capability.specs.declared.Uid.{Uid}
use Rattle.capability.specs.Uids.{uid_cmp}
use Rattle.passive_store.specs.Kept.{Kept, IsEject, reserved_uid, bodies_after}
use Rattle.passive_store.specs.Seen.{Asked}

-- the bytes under each uid
abbrev pub Bodies : Type 0
Bodies = FinMap uid_cmp (List ℕ)

-- two maps have the same bytes under each uid of an Eject of the node
abbrev pub SameEjects : ℕ → Bodies → Bodies → Type 0
SameEjects node m n = (uid : Uid) → IsEject node uid → map.get m uid ≡ map.get n uid

-- the map behind a change, if there is one
abbrev pub changed_by : Option Asked → Bodies → Bodies
changed_by None m = m
changed_by (Some c) m = bodies_after c.uid c.body m

-- the number that is kept as a generation: what four bytes spell, and 0 of other bytes or none
abbrev pub generation_by : Option (List ℕ) → ℕ
generation_by None = 0
generation_by (Some bytes) = if length bytes == 4 then from_be_bytes w32 bytes else 0

-- the generation of a map
abbrev pub generation_in : ℕ → Bodies → ℕ
generation_in node m = generation_by (map.get m (reserved_uid node))

-- What two disks of a node vouch for.
pub record Vow : Type 0 where
  pub node : ℕ
  -- what was acknowledged
  pub held : Bodies
  -- a change that was begun since
  pub begun : Option Asked
  -- whether the first disk was in use at the last acknowledgement, and has been neither blanked nor met a fault since
  pub first : Bool
  -- the same of the second
  pub second : Bool

-- a map has what is held, with or without the change begun
abbrev pub IsHeld : Vow → Bodies → Type 0
IsHeld v m = SameEjects v.node m v.held ⊎ SameEjects v.node m (changed_by v.begun v.held)

-- Nothing is held, and no change is begun, as at first.
abbrev pub IsNew : Vow → Type 0
IsNew v = SameEjects v.node v.held map.empty × (v.begun ≡ None)

-- The change begun, if there is one, is of an Eject of the node.
abbrev pub IsOwnChange : ℕ → Option Asked → Type 0
IsOwnChange node None = Unit {0}
IsOwnChange node (Some c) = IsEject node c.uid

-- the bytes under each uid that are found on a disk, or none where its image has no map
abbrev pub bodies_found : Result Kept ℕ → Option Bodies
bodies_found (Ok k) = Some k.bodies
bodies_found (Err place) = None

-- A disk that vouches has a map, which is what is held, and has a generation where anything is.
abbrev pub Vouches : Vow → Option Bodies → Type 0
Vouches v (Some m) = IsHeld v m × ((1 ≤ generation_in v.node m) ⊎ IsNew v)
Vouches v None = ⊥

-- nothing is held, and this map has nothing
abbrev pub IsBare : Vow → Bodies → Type 0
IsBare v m = IsNew v × SameEjects v.node m map.empty

-- The first disk gives way to the second, which vouches: it has no map, or a lesser generation, or the same and what is held.
abbrev pub FirstGivesWay : Vow → Option Bodies → ℕ → Type 0
FirstGivesWay v (Some m) generation =
    (generation_in v.node m < generation) ⊎ ((generation_in v.node m ≡ generation) × IsHeld v m)
FirstGivesWay v None generation = Unit {0}

-- The second disk gives way to the first, which vouches: it has no map, or a generation that is not greater, or nothing and the next one.
abbrev pub SecondGivesWay : Vow → Option Bodies → ℕ → Type 0
SecondGivesWay v (Some m) generation =
    (generation_in v.node m ≤ generation) ⊎ (IsBare v m × (generation_in v.node m ≡ generation + 1))
SecondGivesWay v None generation = Unit {0}

-- Two disks that vouch have one generation; or nothing is held, and the second has the next one already.
abbrev pub Agree : Vow → Option Bodies → Option Bodies → Type 0
Agree v (Some m) (Some n) =
    (generation_in v.node m ≡ generation_in v.node n) ⊎ (IsNew v × (generation_in v.node n ≡ generation_in v.node m + 1))
Agree v (Some m) None = Unit {0}
Agree v None found = Unit {0}

-- the generation that is found
abbrev pub generation_of : ℕ → Option Bodies → ℕ
generation_of node (Some m) = generation_in node m
generation_of node None = 0

-- What is found on both disks vouches: each that was in use has what is held, and the other gives way. Where no disk is left
-- that was in use, nothing is said.
abbrev pub VouchBy : Bool → Bool → Vow → Option Bodies → Option Bodies → Type 0
VouchBy true true v one two = Vouches v one × Vouches v two × Agree v one two
VouchBy true false v one two = Vouches v one × SecondGivesWay v two (generation_of v.node one)
VouchBy false true v one two = Vouches v two × FirstGivesWay v one (generation_of v.node two)
VouchBy false false v one two = Unit {0}

abbrev pub IsVouched : Vow → Option Bodies → Option Bodies → Type 0
IsVouched v one two = VouchBy v.first v.second v one two
