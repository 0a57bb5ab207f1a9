-- What a crash leaves of a disk at each stage of a conversion, and what stands on it then.
use Rattle.std.specs.Prelude.{◌≡◌, ◌⊎◌, ℕ, suc, zero, ◌+◌, ◌*◌, ◌≤◌, ◌<◌, true, List, [], ◌∷◌, length, take, drop, slice_index}
use Rattle.std.specs.Prelude.{slice_range}
use Rattle.capability.specs.declared.Uid.{Uid}
use Rattle.block_tables.specs.Blocks.{Head, numbers, blocks_of, next_block, head_in, is_head}
use Rattle.block_tables.specs.Changes.{spelled_head, first_or_zero}
use Rattle.passive_blocks.specs.Conversion.{Moved}

-- blocks stand on the image, which had a log
pub record IsConverted (image : List ℕ) : Type 0 where
  pub long : length image ≡ 4194304
  pub blocks : slice_index image 1 ≡ 235

-- Which bytes may stand at a place, by the image at the beginning of a stage. While values are copied and heads are staged: as
-- they were in the log, and any behind it.
abbrev pub may_copy : List ℕ → ℕ → ℕ → Type 0
may_copy start k byte = k < 1048576 → byte ≡ slice_index start k

-- while one byte is written: any at its place, and elsewhere as they were
abbrev pub may_write : ℕ → List ℕ → ℕ → ℕ → Type 0
may_write place start k byte = (k ≡ place → ⊥) → byte ≡ slice_index start k

-- while heads are moved: any on their blocks, and elsewhere as they were
abbrev pub may_move : List ℕ → ℕ → ℕ → Type 0
may_move start k byte = (k < 1024) ⊎ (132096 ≤ k) → byte ≡ slice_index start k

-- this head under this number, with the sequence behind it, spelled as it reads, and of the format
pub record IsGoodHead (node size number : ℕ) (h : Head) : Type 0 where
  pub sequence : h.sequence ≡ number + 1
  pub reads : head_in number (225 ∷ spelled_head h) ≡ h
  pub fits : is_head node size (225 ∷ spelled_head h) h ≡ true

-- the same of these heads, under the numbers from one on
abbrev pub AreGoodHeads : ℕ → ℕ → ℕ → List Head → Type 0
AreGoodHeads node size number [] = Unit {0}
AreGoodHeads node size number (h ∷ hs) = IsGoodHead node size number h × AreGoodHeads node size (number + 1) hs

-- This body stands on so many blocks from one on, each of which names the next.
abbrev pub IsWritten : List ℕ → ℕ → ℕ → List ℕ → Type 0
IsWritten image block zero body = Unit {0}
IsWritten image block (suc more) body =
    (next_block image block ≡ first_or_zero (numbers (block + 1) more))
    × (take (length (take 1022 body)) (slice_range image (block * 1024 + 2) (block * 1024 + 1024)) ≡ take 1022 body)
    × IsWritten image (block + 1) more (drop 1022 body)

-- the same of these values, each on its own blocks
abbrev pub AreWritten : List ℕ → List Moved → Type 0
AreWritten image [] = Unit {0}
AreWritten image (m ∷ ms) = IsWritten image m.head.first (blocks_of m.head.size) m.body × AreWritten image ms

-- the blocks that these values need
abbrev pub blocks_for_all : List (Uid × List ℕ) → ℕ
blocks_for_all [] = 0
blocks_for_all (entry ∷ entries) = blocks_of (length entry.1) + blocks_for_all entries

-- A body was written on so many blocks from one on, and nothing else.
pub record IsCopied (block count : ℕ) (body old new : List ℕ) : Type 0 where
  pub long : length new ≡ length old
  pub outside : (k : ℕ) → (k < block * 1024) ⊎ ((block + count) * 1024 ≤ k) → slice_index new k ≡ slice_index old k
  pub written : IsWritten new block count body
