-- What is made of what stands on a disk, before its blocks are read.
use Rattle.std.specs.Prelude.{◌≡◌, ℕ, ◌+◌, ◌==◌, Bool, true, false, List, [], ◌∷◌, ◌++◌, length, replicate, slice_index}
use Rattle.std.specs.Prelude.{slice_range, Result, Ok, Err, if◌then◌else◌}
use Rattle.eden_disk.specs.Told.{Told, Contents, contents, at_rest}
use Rattle.eden_disk.specs.Held.{Holds, Passes}
use Rattle.passive_store.specs.declared.store.StoreRefusal.{StoreRefusal}
use Rattle.passive_store.specs.Acts.{DiskCall, Read, AllTold}
use Rattle.passive_store.specs.Kept.{StoreChange, Kept, Stands, IsOverfull, IsDamagedFrom, OpeningMade, OpeningTold, kept_by}
use Rattle.passive_store.specs.Log.{log_map, records_of}
use Rattle.block_tables.specs.Blocks.{heads_of}
use Rattle.passive_blocks.specs.Conversion.{old_log, staged_bytes, staging_calls, finishing_calls, finished, is_too_much, blocks_moved}
use Rattle.passive_blocks.specs.Converting.{IsStagedLog}
use Rattle.passive_blocks.specs.BlockLayout.{Format, Blocks, Staged, OldLog, Foreign, Blank, format_of, block_map, block_changes}
use Rattle.passive_blocks.specs.BlockLayout.{overfull_by}
use Rattle.passive_blocks.specs.BlockLayout.{reads_of_blocks, format_calls, walk_reads, opening_by, block_layout}

-- the device calls that bring a log over, behind its reading, by what it keeps; none where it is damaged
abbrev pub moving_calls : Result Kept ℕ → List DiskCall
moving_calls (Ok kept) = staging_calls kept ++ finishing_calls (staged_bytes kept)
moving_calls (Err place) = []

-- what is found of the log on an image that has one
abbrev pub log_found : ℕ → List ℕ → Result Kept ℕ
log_found node image = kept_by (records_of node (old_log image))

-- the device calls that copy the values of a log and stage their heads, by what was found of it; none where it is too much or damaged
abbrev pub staging_of : Result Kept ℕ → List DiskCall
staging_of (Ok kept) = if is_too_much (Ok kept) then [] else staging_calls kept
staging_of (Err place) = []

-- the device calls that read the log of an image, copy its values and stage their heads, where they are not too much
abbrev pub log_calls : ℕ → List ℕ → List DiskCall
log_calls node image = walk_reads node (old_log image) ++ staging_of (log_found node image)

-- the device calls that make blocks of what stands on an image
abbrev pub making_by : Format → ℕ → List ℕ → List DiskCall
making_by Blocks node image = []
making_by Staged node image = finishing_calls (slice_range image 4063232 4194304)
making_by OldLog node image = walk_reads node (old_log image) ++ moving_calls (log_map node (old_log image))
making_by Foreign node image = []
making_by Blank node image = format_calls (length image)

-- Blocks stand on an image, which are what stood on another: their reading is what is left of the opening.
pub record IsPrepared (node : ℕ) (image now : List ℕ) : Type 0 where
  pub format : slice_index now 1 ≡ 235
  pub long : length now ≡ length image
  pub map : block_map node now ≡ block_map node image
  pub told : block_changes node now ≡ block_changes node image
  pub fits : overfull_by (format_of image) node image ≡ false
  pub calls : opening_by (format_of image) node image
      ≡ making_by (format_of image) node image ++ replicate (reads_of_blocks now (heads_of node now)) Read

-- the device calls of an opening behind its sync, up to where blocks stand on the disk
abbrev pub calls_to_blocks : ℕ → List ℕ → List DiskCall
calls_to_blocks node image = Read ∷ making_by (format_of image) node image

-- all device calls of an opening but its sync: the look, and those that follow by what stands on the image
abbrev pub calls_behind_sync : ℕ → List ℕ → List DiskCall
calls_behind_sync node image = Read ∷ opening_by (format_of image) node image

-- how many of these were made: all up to where blocks stand, or with a refusal as many as of an opening that is refused so
abbrev pub PreparingMade : ℕ → List ℕ → Result (Unit {0}) StoreRefusal → ℕ → Type 0
PreparingMade node image (Ok done) made = made ≡ length (calls_to_blocks node image)
PreparingMade node image (Err e) made = OpeningMade {S = Unit {0}} (length (calls_behind_sync node image)) (Err e) made

-- what a telling disk notes of them, likewise
abbrev pub PreparingTold : ℕ → List ℕ → Told → Told → Result (Unit {0}) StoreRefusal → Type 0
PreparingTold node image old new (Ok done) = AllTold (calls_to_blocks node image) old new
PreparingTold node image old new (Err e) = OpeningTold {S = Unit {0}} (calls_behind_sync node image) old new (Err e)

-- how many device calls were made to bring a log over: the same, but for the look
abbrev pub BringingMade : ℕ → List ℕ → Result (Unit {0}) StoreRefusal → ℕ → Type 0
BringingMade node image (Ok done) made = made ≡ length (making_by (format_of image) node image)
BringingMade node image (Err e) made = OpeningMade {S = Unit {0}} (length (opening_by (format_of image) node image)) (Err e) made

-- what a telling disk notes of a log that is brought over, by how that ended
abbrev pub BringingTold : ℕ → List ℕ → Told → Told → Result (Unit {0}) StoreRefusal → Type 0
BringingTold node image old new (Ok done) = AllTold (making_by (format_of image) node image) old new
BringingTold node image old new (Err e) = OpeningTold {S = Unit {0}} (opening_by (format_of image) node image) old new (Err e)

-- a disk of this size at rest
pub record IsSynced (size : ℕ) (c : Contents) : Type 0 where
  pub rest : c ≡ at_rest c.now
  pub long : length c.now ≡ size

-- a log stands on a disk at rest, with its heads staged or not
pub record IsLogDisk (staged : Bool) (c : Contents) : Type 0 where
  pub rest : c ≡ at_rest c.now
  pub format : (slice_index c.now 1 == 235) ≡ false
  pub log : (slice_index c.now 0 == 237) ≡ true
  pub byte : staged ≡ (slice_index c.now 2 == 234)

-- The values of the log of an image are copied on a disk at rest, and their heads are staged.
pub record AreStagedFor (node : ℕ) (image : List ℕ) (c : Contents) : Type 0 where
  pub kept : Kept
  pub log : log_found node image ≡ Ok kept
  pub fits : is_too_much (Ok kept) ≡ false
  pub rest : c ≡ at_rest c.now
  pub staged : IsStagedLog c.now
  pub spelled : slice_range c.now 4063232 4194304 ≡ staged_bytes kept
  pub reads : reads_of_blocks (finished c.now) (heads_of node (finished c.now)) ≡ 4096 + blocks_moved kept

-- blocks stand on a disk at rest, which are what stood on an image
pub record AreReady (node : ℕ) (image : List ℕ) (c : Contents) : Type 0 where
  pub rest : c ≡ at_rest c.now
  pub prepared : IsPrepared node image c.now

-- Whatever the images of a disk stood for, they stand for it at each moment of this stretch of time, and behind it.
pub record KeepsThrough (node : ℕ) (old new : Told) : Type 0 where
  pub mapped : (told : ℕ) (kept : Kept) (changes : List StoreChange) → Holds (Stands block_layout node told kept changes) (contents old)
      → Passes (Stands block_layout node told kept changes) old new
  pub overfull : (kept : Kept) → Holds (IsOverfull block_layout node kept) (contents old) → Passes
      (IsOverfull block_layout node kept) old new
  -- and a damaged disk stays damaged at its place
  pub unmapped : (place : ℕ) → Holds (IsDamagedFrom block_layout node place) (contents old)
      → Passes (IsDamagedFrom block_layout node place) old new
