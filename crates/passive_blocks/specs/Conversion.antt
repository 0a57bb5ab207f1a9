-- How a log becomes blocks: its values are copied behind it, their heads are staged on the last blocks, and moved from there
-- to their places.
use Rattle.std.specs.Prelude.{ℕ, zero, suc, ◌+◌, ◌*◌, nat_lt, Bool, false, List, [], ◌∷◌, ◌++◌, length, replicate, take, drop}
use Rattle.std.specs.Prelude.{map, flat_map, sum_by, slice_range, Some, Result, Ok, Err}
use Rattle.std.specs.FinMap as finite
use Rattle.capability.specs.declared.Uid.{Uid}
use Rattle.passive_store.specs.Acts.{DiskCall, Write, Sync, Read}
use Rattle.passive_store.specs.Kept.{StoreChange, Kept, kept_from, nothing_kept}
use Rattle.block_tables.specs.Blocks.{Head, numbers, blocks_of}
use Rattle.block_tables.specs.Changes.{chain_writes, spelled_head}

-- the log on an image, its first 1,048,576 bytes
abbrev pub old_log : List ℕ → List ℕ
old_log image = take 1048576 image

-- the image with the staged heads in their places, and with the byte that says that blocks stand on it
abbrev pub finished : List ℕ → List ℕ
finished image = take 1 image ++ 235 ∷ (slice_range image 2 1024 ++ (slice_range image 4063232 4194304 ++ drop 132096 image))

-- a value of a log, with the head that it is to have
pub record Moved : Type 0 where
  pub head : Head
  pub body : List ℕ

-- These values get, in their order, heads from this number on, sequences from one more on, and blocks from this one on.
unfoldable pub moved_from : ℕ → ℕ → List (Uid × List ℕ) → List Moved
moved_from number first [] = []
moved_from number first (entry ∷ entries) =
    record {
      head = record { number = number; uid = entry.0; removal = false; sequence = number + 1; size = length entry.1; first = first };
      body = entry.1;
    }
    ∷ moved_from (number + 1) (first + blocks_of (length entry.1)) entries

-- what a log keeps as values to be moved, in the order of uids: to heads from 0 and blocks from 1,024 on
abbrev pub moved : Kept → List Moved
moved kept = moved_from 0 1024 (finite.entries kept.bodies)

-- the heads that the values of a log get, in the order of uids
abbrev pub moved_heads : Kept → List Head
moved_heads kept = map (λ (m : Moved). m.head) (moved kept)

-- a moved value as a change of its uid, with the sequence of its head for the mark
abbrev pub moved_change : Moved → StoreChange
moved_change m = record { uid = m.head.uid; body = Some m.body; mark = m.head.sequence; wrote = [] }

-- what blocks keep once a log was converted: what the log keeps, each value under its new sequence; or the damaged place of the log
abbrev pub moved_map : Result Kept ℕ → Result Kept ℕ
moved_map (Ok kept) = Ok (kept_from nothing_kept (map moved_change (moved kept)))
moved_map (Err place) = Err place

-- how many blocks all values of a log take together
abbrev pub blocks_moved : Kept → ℕ
blocks_moved kept = sum_by (λ (m : Moved). blocks_of m.head.size) (moved kept)

-- whether the values of a log find no room between it and the staged heads
abbrev pub is_too_much : Result Kept ℕ → Bool
is_too_much (Ok kept) = nat_lt 2944 (blocks_moved kept)
is_too_much (Err place) = false

-- the 32 bytes of the first of these heads, its gate open; or as many zeros, where there are none
abbrev pub head_or_blank : List Head → List ℕ
head_or_blank [] = replicate 32 0
head_or_blank (h ∷ hs) = 225 ∷ spelled_head h

-- the bytes of so many heads: of these from the first on, and zeros once there are no more
unfoldable pub heads_spelled : ℕ → List Head → List ℕ
heads_spelled zero hs = []
heads_spelled (suc n) hs = head_or_blank hs ++ heads_spelled n (drop 1 hs)

-- what is staged of a log: the bytes of all 4,096 heads of the disk that it becomes
abbrev pub staged_bytes : Kept → List ℕ
staged_bytes kept = heads_spelled 4096 (moved_heads kept)

-- the part of these bytes with this number, from 0 on; each is of 1,024
abbrev pub part_of : List ℕ → ℕ → List ℕ
part_of bytes i = slice_range bytes (i * 1024) (i * 1024 + 1024)

-- the device calls that copy a value: a read in the log, and a write of each of its blocks
abbrev pub move_calls : Moved → List DiskCall
move_calls m = Read ∷ chain_writes (numbers m.head.first (blocks_of m.head.size)) m.body

-- the calls that stage these bytes on the last 128 blocks, and then, between two syncs, write the byte that says so
abbrev pub staged_calls : List ℕ → List DiskCall
staged_calls bytes = map (λ i. Write ((3968 + i) * 1024) (part_of bytes i)) (numbers 0 128) ++ (Sync ∷ Write 2 (234 ∷ []) ∷ Sync ∷ [])

-- the device calls behind the reading of a log: those that copy each value, and then those that stage the heads
abbrev pub staging_calls : Kept → List DiskCall
staging_calls kept = flat_map move_calls (moved kept) ++ staged_calls (staged_bytes kept)

-- the calls that move these staged heads to their places, and then, between two syncs, write the byte that says that blocks stand there
abbrev pub finishing_calls : List ℕ → List DiskCall
finishing_calls bytes =
    flat_map (λ i. Read ∷ Write ((1 + i) * 1024) (part_of bytes i) ∷ []) (numbers 0 128) ++ (Sync ∷ Write 1 (235 ∷ []) ∷ Sync ∷ [])
