-- A log that becomes blocks: what stands on its disk, and that an opening finds the same of two images.
use Rattle.std.specs.Prelude.{◌≡◌, ◌⊎◌, ℕ, ◌^◌, ◌+◌, ◌≤◌, ◌<◌, ◌==◌, false, All, List, length, map, slice_index, slice_range}
use Rattle.std.specs.Prelude.{[], ◌∷◌, sum_by, Option, None, Some}
use Rattle.std.specs.BTreeMap.{BTreeMap}
use Rattle.capability.specs.declared.Uid.{Uid}
use Rattle.passive_store.specs.declared.index.Slot.{Slot}
use Rattle.passive_blocks.specs.declared.convert.Moved.{Moved}
use Rattle.block_tables.specs.Blocks.{Head, blocks_of}
use Rattle.passive_blocks.specs.Conversion.{Moved as Value}
use Rattle.block_tables.specs.HeadSeen.{head_of}
use Rattle.passive_blocks.specs.BlockLayout.{block_layout}

-- two images of which an opening finds the same
pub record SaysSame (node : ℕ) (xs ys : List ℕ) : Type 0 where
  pub found : block_layout.map_of node xs ≡ block_layout.map_of node ys
  pub overfull : block_layout.is_overfull node xs ≡ block_layout.is_overfull node ys
  pub told : block_layout.changes_told node xs ≡ block_layout.changes_told node ys

-- a log stands on the image, whose heads are not staged
pub record IsOldLog (image : List ℕ) : Type 0 where
  pub long : length image ≡ 4194304
  pub log : slice_index image 0 ≡ 237
  pub none : (slice_index image 1 == 235) ≡ false
  pub unstaged : (slice_index image 2 == 234) ≡ false

-- a log stands on the image, and its heads are staged
pub record IsStagedLog (image : List ℕ) : Type 0 where
  pub long : length image ≡ 4194304
  pub log : slice_index image 0 ≡ 237
  pub none : (slice_index image 1 == 235) ≡ false
  pub staged : slice_index image 2 ≡ 234

-- the heads of values that are to be moved
abbrev pub heads_planned : List Moved → List Head
heads_planned moved = map (λ (m : Moved). head_of m.head) moved

-- each of these values begins on a block that a head can name
abbrev pub ArePlanned : List Moved → Type 0
ArePlanned moved = All (λ (m : Moved). m.head.first < 65536) moved

-- a value that stands in the log, and whose blocks are behind it and before the staged heads
pub record IsMovable (m : Moved) : Type 0 where
  pub epoch : m.head.uid.epoch < 2 ^ 32
  pub serial : m.head.uid.serial < 2 ^ 32
  pub limit : m.head.size ≤ 262144
  pub log : m.place + m.head.size ≤ 1048576
  pub begins : 1024 ≤ m.head.first
  pub blocks : m.head.first + blocks_of m.head.size ≤ 3968

-- what is to be moved, with the body that stands on an image
abbrev pub moved_in : List ℕ → Moved → Value
moved_in image m = record { head = head_of m.head; body = slice_range image m.place (m.place + m.head.size) }

-- all that is to be moved, each with its body on the image, in their order
abbrev pub all_moved_in : List ℕ → List Moved → List Value
all_moved_in image moved = map (moved_in image) moved

-- the uid and the size of a value that a head of this node can spell
pub record IsGoodEntry (node : ℕ) (uid : Uid) (size : ℕ) : Type 0 where
  pub node_is : uid.node ≡ node
  pub epoch : uid.epoch < 2 ^ 32
  pub serial : uid.serial < 2 ^ 32
  pub limit : size ≤ 262144
  pub own : ((1 ≤ uid.epoch) × (1 ≤ uid.serial)) ⊎ ((uid.epoch ≡ 0) × (uid.serial ≡ 0) × (size ≡ 4))

-- an entry in front of those behind it, if it has a slot
abbrev pub with_slot : Uid → Option Slot → List (Uid × Slot) → List (Uid × Slot)
with_slot uid None slots = slots
with_slot uid (Some slot) slots = (uid, slot) ∷ slots

-- the uids that have a slot among these entries, each with its slot, in their order
abbrev pub slots_in : List (Uid × Option Slot) → List (Uid × Slot)
slots_in [] = []
slots_in (e ∷ es) = with_slot e.0 e.1 (slots_in es)

-- a value of the log, by its slot, with the head that it is to have
abbrev pub planned_at : ℕ → ℕ → Uid → Slot → Moved
planned_at number first uid slot = record {
  head = record { number = number; uid = uid; removal = false; sequence = number + 1; size = slot.length; first = first };
  place = slot.gate + 15;
}

-- These values get heads, sequences and blocks one behind the other, as `moved_from` says it of their bodies.
unfoldable pub planned_from : ℕ → ℕ → List (Uid × Slot) → List Moved
planned_from number first [] = []
planned_from number first (s ∷ ss) = planned_at number first s.0 s.1 ∷ planned_from (number + 1) (first + blocks_of s.1.length) ss

-- all values that an index has, as they are to be moved: to heads from 0 and blocks from 1,024 on
abbrev pub planned : BTreeMap Uid (Option Slot) → List Moved
planned index = planned_from 0 1024 (slots_in index.entries)

-- how many blocks these values take together
abbrev pub blocks_together : List (Uid × Slot) → ℕ
blocks_together slots = sum_by (λ (s : Uid × Slot). blocks_of s.1.length) slots
