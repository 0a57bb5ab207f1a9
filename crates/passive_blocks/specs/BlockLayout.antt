-- The layout of blocks: which images there are, what each keeps, its room, and the device calls of changes and openings.
use Rattle.std.specs.Prelude.{◌≡◌, ℕ, ◌+◌, ◌-◌, ◌*◌, ◌/◌, ◌^◌, ◌==◌, ◌&&◌, ◌||◌, nat_le, Bool, false, is_some, List, [], ◌∷◌}
use Rattle.std.specs.Prelude.{◌++◌, length, replicate, map, sum_by, slice_index, slice_range, Option, None, Some, Result, Ok, Err}
use Rattle.std.specs.Prelude.{if◌then◌else◌}
use Rattle.std.specs.FinMap as finite
use Rattle.std.specs.FinMap.{FinMap}
use Rattle.capability.specs.declared.Uid.{Uid}
use Rattle.capability.specs.Uids.{uid_cmp}
use Rattle.passive_store.specs.Acts.{DiskCall, Write, Sync, Read}
use Rattle.passive_store.specs.Kept.{Kept, Layout, nothing_kept, reserved_uid}
use Rattle.passive_store.specs.Log.{log_map, records_of}
use Rattle.passive_store.specs.LogLayout.{records_up_to, within_room}
use Rattle.block_tables.specs.Blocks.{Head, numbers, is_block_size, data_count, blocks_of, blocks_for, heads_of, heads_or_none}
use Rattle.block_tables.specs.Blocks.{greatest, chains_of, taken_by, blocks_map}
use Rattle.block_tables.specs.Changes.{free_head, blocks_job, is_removal, size_of}
use Rattle.passive_blocks.specs.Conversion.{old_log, finished, moved_map, moved_heads, is_too_much, staged_bytes, staging_calls}
use Rattle.passive_blocks.specs.Conversion.{finishing_calls, blocks_moved}

-- what stands on a disk
pub data Format : Type 0 where
  -- blocks
  Blocks : Format
  -- a log whose values are copied, with their heads staged
  Staged : Format
  -- a log that is to be converted, on a disk with room for that
  OldLog : Format
  -- a log on a disk of another size
  Foreign : Format
  -- neither blocks nor a log
  Blank : Format

-- what stands on an image, by its length and its first three bytes
abbrev pub format_of : List ℕ → Format
format_of image =
    if slice_index image 1 == 235 then Blocks
    else (if slice_index image 0 == 237
    then (if length image == 4194304 then (if slice_index image 2 == 234 then Staged else OldLog) else Foreign)
    else Blank)

-- what an image keeps on which this stands, or its first damaged place
abbrev pub map_by : Format → ℕ → List ℕ → Result Kept ℕ
map_by Blocks node image = blocks_map node image
map_by Staged node image = blocks_map node (finished image)
map_by OldLog node image = moved_map (log_map node (old_log image))
map_by Foreign node image = Err 0
map_by Blank node image = Ok nothing_kept

-- what an image keeps by its format, or its first damaged place; one of a size that is not allowed is damaged at byte 0
abbrev pub block_map : ℕ → List ℕ → Result Kept ℕ
block_map node image = if is_block_size (length image) then map_by (format_of image) node image else Err 0

-- whether an image keeps too much to be opened, as only a log that is to be converted may
abbrev pub overfull_by : Format → ℕ → List ℕ → Bool
overfull_by Blocks node image = false
overfull_by Staged node image = false
overfull_by OldLog node image = is_too_much (log_map node (old_log image))
overfull_by Foreign node image = false
overfull_by Blank node image = false

-- the heads that the conversion of a log gives, or none where the log is damaged
abbrev pub heads_moved : Result Kept ℕ → List Head
heads_moved (Ok kept) = moved_heads kept
heads_moved (Err place) = []

-- the open heads of an image once blocks stand on it; none on a blank or foreign one, and where a head or the log is damaged
abbrev pub heads_by : Format → ℕ → List ℕ → List Head
heads_by Blocks node image = heads_or_none (heads_of node image)
heads_by Staged node image = heads_or_none (heads_of node (finished image))
heads_by OldLog node image = heads_moved (log_map node (old_log image))
heads_by Foreign node image = []
heads_by Blank node image = []

-- how many blocks these values take
abbrev pub blocks_needed : FinMap uid_cmp (List ℕ) → ℕ
blocks_needed bodies = sum_by (λ (entry : Uid × List ℕ). blocks_of (length entry.1)) (finite.entries bodies)

-- how many blocks for data these values leave free on a disk of this size
abbrev pub blocks_left : ℕ → FinMap uid_cmp (List ℕ) → ℕ
blocks_left size bodies = data_count size - blocks_needed bodies

-- the longest body that finds room, or none: its blocks and one more have to be free
abbrev pub block_room : ℕ → FinMap uid_cmp (List ℕ) → Option ℕ
block_room size bodies = if nat_le 2 (blocks_left size bodies) then Some (1022 * (blocks_left size bodies - 1)) else None

-- A removal has room, and so has the value under the reserved uid, which takes the block that all others leave.
abbrev pub block_has_room : Option ℕ → Uid → Option (List ℕ) → Bool
block_has_room room uid body = is_removal body || (uid.epoch == 0 || within_room room (size_of body))

-- For how many more changes the room is what is said above: as many as have a sequence left, where a head and a block are free,
-- and else none. Of a damaged image there is nothing to say: 2^63.
abbrev pub changes_left : ℕ → List Head → Result Kept ℕ → ℕ
changes_left size heads (Ok kept) =
    if is_some (free_head size heads) && nat_le 1 (blocks_left size kept.bodies) then 2 ^ 63 - greatest heads else 0
changes_left size heads (Err place) = 2 ^ 63

-- for how many more changes the room of an image is told, by what stands on it; 2^63 where it is not opened
abbrev pub block_changes : ℕ → List ℕ → ℕ
block_changes node image =
    if overfull_by (format_of image) node image then 2 ^ 63
    else changes_left (length image) (heads_by (format_of image) node image) (block_map node image)

-- how many reads an image of blocks takes: of its heads up to the first that is damaged, and then of the chains, likewise
abbrev pub reads_of_blocks : List ℕ → Result (List Head) ℕ → ℕ
reads_of_blocks image (Ok heads) = length image / 1024 + length (taken_by (chains_of image heads))
reads_of_blocks image (Err place) = (place - 1024) / 32 + 1

-- the calls that make blocks on a blank disk: all heads are closed before a byte says that blocks stand there
abbrev pub format_calls : ℕ → List DiskCall
format_calls size =
    map (λ block. Write (block * 1024) (replicate 1024 0)) (numbers 1 (size / 32768)) ++ (Sync ∷ Write 1 (235 ∷ []) ∷ Sync ∷ [])

-- the reads of a walk over a log: one for each record up to its end or to a damaged one, and one there
abbrev pub walk_reads : ℕ → List ℕ → List DiskCall
walk_reads node log = replicate (length (records_up_to node log (records_of node log)) + 1) Read

-- the device calls behind the reading of a log: it is converted, and its blocks are read; none where it is damaged or too much
abbrev pub conversion_calls : Result Kept ℕ → List DiskCall
conversion_calls (Ok kept) =
    if is_too_much (Ok kept) then []
    else (staging_calls kept ++ (finishing_calls (staged_bytes kept) ++ replicate (4096 + blocks_moved kept) Read))
conversion_calls (Err place) = []

-- the device calls of an opening behind its sync and its look, by what stands on the image
abbrev pub opening_by : Format → ℕ → List ℕ → List DiskCall
opening_by Blocks node image = replicate (reads_of_blocks image (heads_of node image)) Read
opening_by Staged node image =
    finishing_calls (slice_range image 4063232 4194304)
    ++ replicate (reads_of_blocks (finished image) (heads_of node (finished image))) Read
opening_by OldLog node image = walk_reads node (old_log image) ++ conversion_calls (log_map node (old_log image))
opening_by Foreign node image = []
opening_by Blank node image = format_calls (length image) ++ replicate (length image / 1024) Read

-- all device calls of an opening, in their order; none on a disk of a size that is not allowed
abbrev pub block_opening : ℕ → List ℕ → List DiskCall
block_opening node image = if is_block_size (length image) then Sync ∷ Read ∷ opening_by (format_of image) node image else []

-- blocks as a layout: no ledger, a room by what is kept and the size, and jobs of four device calls or more
abbrev pub block_layout : Layout
block_layout = record {
  allows = is_block_size;
  map_of = block_map;
  is_overfull = λ node image. is_block_size (length image) && overfull_by (format_of image) node image;
  grows = λ body. [];
  room_of = λ size bodies ledger. block_room size bodies;
  has_room = block_has_room;
  changes_told = block_changes;
  job_calls = blocks_job;
  is_job = λ body calls. nat_le 4 calls;
  opening_calls = block_opening;
  reading_calls = blocks_for;
}

-- What is found of an image on which a log stands that is to be converted, by what is found of the log: the same bodies, or the
-- same damaged place.
abbrev pub KeepsAsLog : Result Kept ℕ → Result Kept ℕ → Type 0
KeepsAsLog (Ok log) found = (kept : Kept) × (found ≡ Ok kept) × (kept.bodies ≡ log.bodies)
KeepsAsLog (Err place) found = found ≡ Err place
