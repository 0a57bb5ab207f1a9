-- A disk of blocks: heads of 32 bytes from byte 1,024 on, one for each block of the disk, and data blocks behind them.
use Rattle.std.specs.Prelude.{ℕ, zero, suc, ◌+◌, ◌-◌, ◌*◌, ◌/◌, ◌%◌, ◌^◌, Bool, true, false, ◌&&◌, ◌||◌, not, ◌==◌, nat_le}
use Rattle.std.specs.Prelude.{nat_lt, max, List, [], ◌∷◌, length, take, filter, flat_map, slice_index, slice_range, Option, None}
use Rattle.std.specs.Prelude.{Some, Result, Ok, Err, if◌then◌else◌}
use Rattle.std.specs.Int.{w16, w32, w64, from_be_bytes}
use Rattle.std.specs.List.{list_any, list_all}
use Rattle.std.specs.Ordering.{eq_by_cmp}
use Rattle.capability.specs.declared.Uid.{Uid}
use Rattle.capability.specs.Uids.{uid_cmp}
use Rattle.passive_store.specs.Kept.{StoreChange, Kept, kept_by}
pub use Rattle.passive_store.specs.Log.{are_fields}
use Rattle.passive_store.specs.Log.{with_record}

-- so many numbers, from one on
unfoldable pub numbers : ℕ → ℕ → List ℕ
numbers from zero = []
numbers from (suc n) = from ∷ numbers (from + 1) n

-- a size of whole blocks of heads, within the reach of a block's two bytes
abbrev pub is_block_size : ℕ → Bool
is_block_size size = size % 32768 == 0 && nat_le 32768 size && nat_le size 67108864

-- the numbers of the heads on a disk of this size, one for each of its blocks
abbrev pub head_numbers : ℕ → List ℕ
head_numbers size = numbers 0 (size / 1024)

-- how many data blocks a disk of this size has: all blocks but the first and those of the heads
abbrev pub data_count : ℕ → ℕ
data_count size = size / 1024 - (1 + size / 32768)

-- the numbers of the data blocks on a disk of this size: those behind the heads, ascending
abbrev pub data_blocks : ℕ → List ℕ
data_blocks size = numbers (1 + size / 32768) (data_count size)

-- on a disk of this size the block with this number is one for data
abbrev pub is_data : ℕ → ℕ → Bool
is_data size block = nat_lt (size / 32768) block && nat_lt block (size / 1024)

-- how many blocks a value of this size takes
abbrev pub blocks_of : ℕ → ℕ
blocks_of size = max 1 ((size + 1021) / 1022)

-- how many blocks a change takes: those of its body; a removal takes none
abbrev pub blocks_for : Option (List ℕ) → ℕ
blocks_for None = 0
blocks_for (Some body) = blocks_of (length body)

-- what an open head says: a value or a removal, under its sequence
pub record Head : Type 0 where
  pub number : ℕ
  pub uid : Uid
  pub removal : Bool
  pub sequence : ℕ
  pub size : ℕ
  pub first : ℕ

-- where a head begins on the disk, in bytes; heads are numbered from 0
abbrev pub head_place : ℕ → ℕ
head_place number = 1024 + 32 * number

-- the 32 bytes of this head on an image, its gate first
abbrev pub head_bytes : List ℕ → ℕ → List ℕ
head_bytes image number = slice_range image (head_place number) (head_place number + 32)

-- the kind of a head, by its bytes: 1 is that of a value, 2 that of a removal
abbrev pub kind_in : List ℕ → ℕ
kind_in bytes = slice_index bytes 1

-- the uid of which a head speaks, by its bytes: node, epoch and serial
abbrev pub uid_in : List ℕ → Uid
uid_in bytes = record {
  node = slice_index bytes 2;
  epoch = from_be_bytes w32 (slice_range bytes 3 7);
  serial = from_be_bytes w32
      (slice_range bytes 7 11);
}

-- what the bytes of a head say under this number, whether they are of the format or not
abbrev pub head_in : ℕ → List ℕ → Head
head_in number bytes = record {
  number = number;
  uid = uid_in bytes;
  removal = kind_in bytes == 2;
  sequence = from_be_bytes w64 (slice_range bytes 11 19);
  size = from_be_bytes w32 (slice_range bytes 19 23);
  first = from_be_bytes w16 (slice_range bytes 23 25);
}

-- each of these bytes is 0
abbrev pub are_blank : List ℕ → Bool
are_blank bytes = list_all (λ byte. byte == 0) bytes

-- The fields of a head are of the format. A value begins in a data block; a removal has no block.
abbrev pub is_head : ℕ → ℕ → List ℕ → Head → Bool
is_head node size bytes h =
    are_fields node h.size h.uid (kind_in bytes)
    && (if h.removal then h.first == 0 else is_data size h.first)
    && nat_le 1 h.sequence && nat_le h.sequence (2 ^ 63)
    && are_blank (slice_range bytes 25 32)

-- a head in front of those that were read behind it, or the place of one of these that is damaged
abbrev pub with_head : Head → Result (List Head) ℕ → Result (List Head) ℕ
with_head h (Ok hs) = Ok (h ∷ hs)
with_head h (Err place) = Err place

-- the head under a number joins those behind it, where its gate is open; it is damaged where it does not fit
abbrev pub joined_head : Bool → Bool → Head → Result (List Head) ℕ → Result (List Head) ℕ
joined_head false fits h rest = rest
joined_head true false h rest = Err (head_place h.number)
joined_head true true h rest = with_head h rest

-- The open heads among these numbers, none of them with a sequence that came before; or the place of the first that is damaged.
unfoldable pub heads_among : ℕ → List ℕ → List ℕ → List ℕ → Result (List Head) ℕ
heads_among node image before [] = Ok []
heads_among node image before (number ∷ rest) =
    let bytes = head_bytes image number in
    let h = head_in number bytes in
    joined_head (slice_index bytes 0 == 225) (is_head node (length image) bytes h && not (list_any (λ s. s == h.sequence) before)) h
    (heads_among node image (if slice_index bytes 0 == 225 then h.sequence ∷ before else before) rest)

-- the open heads on an image of this node, in the order of their numbers; or the place of the first that is damaged
abbrev pub heads_of : ℕ → List ℕ → Result (List Head) ℕ
heads_of node image = heads_among node image [] (head_numbers (length image))

-- both heads speak of one uid
abbrev pub same_uid : Head → Head → Bool
same_uid g h = eq_by_cmp uid_cmp g.uid h.uid

-- Of the open heads of a uid the one with the greatest sequence counts.
abbrev pub counts : List Head → Head → Bool
counts heads h = list_all (λ g. not (same_uid g h) || nat_le g.sequence h.sequence) heads

-- the only open head of its uid
abbrev pub is_alone : List Head → Head → Bool
is_alone heads h = list_all (λ g. not (same_uid g h) || g.number == h.number) heads

-- the heads that keep a value
abbrev pub keeping : List Head → List Head
keeping heads = filter (λ h. counts heads h && not h.removal) heads

-- The heads that the next change closes: those that do not count, and removals that are alone.
abbrev pub closing : List Head → List Head
closing heads = filter (λ h. not (counts heads h) || (h.removal && is_alone heads h)) heads

-- the greatest sequence among these heads, 0 where there are none
unfoldable pub greatest : List Head → ℕ
greatest [] = 0
greatest (h ∷ hs) = max h.sequence (greatest hs)

-- The blocks of a head's value, as far as they were followed, and whether that is the whole value.
pub record Chain : Type 0 where
  pub head : Head
  pub blocks : List ℕ
  pub whole : Bool

-- the block is one of these
abbrev pub has : ℕ → List ℕ → Bool
has block blocks = list_any (λ b. b == block) blocks

-- the blocks of the second list that are not in the first, in their order
abbrev pub without : List ℕ → List ℕ → List ℕ
without taken blocks = filter (λ b. not (has b taken)) blocks

-- the number of the block behind this one, as its first two bytes say it; 0 stands for none
abbrev pub next_block : List ℕ → ℕ → ℕ
next_block image block = from_be_bytes w16 (slice_range image (block * 1024) (block * 1024 + 2))

-- the chain with this block in front
abbrev pub on_block : ℕ → Chain → Chain
on_block block c = record c { blocks = block ∷ c.blocks }

-- The chain of so many blocks from one on, each of the free ones and none twice; it is whole where the last one names none behind it.
unfoldable pub chain_from : Head → List ℕ → List ℕ → ℕ → ℕ → Chain
chain_from h image free block zero = record { head = h; blocks = []; whole = block == 0 }
chain_from h image free block (suc more) =
    if has block free then on_block block (chain_from h image (without (block ∷ []) free) (next_block image block) more)
    else record { head = h; blocks = []; whole = false }

-- the chain of a head, followed from its first block over free ones, for as many blocks as its value takes
abbrev pub chain_of : List ℕ → List ℕ → Head → Chain
chain_of image free h = chain_from h image free h.first (blocks_of h.size)

-- the chains of these heads, each on the blocks that those before it left, up to the first that is not whole
unfoldable pub chains_among : List ℕ → List ℕ → List Head → List Chain
chains_among image free [] = []
chains_among image free (h ∷ hs) =
    let c = chain_of image free h in
    c ∷ (if c.whole then chains_among image (without c.blocks free) hs else [])

-- the chains of those of these heads that keep a value, up to the first that is not whole
abbrev pub chains_of : List ℕ → List Head → List Chain
chains_of image heads = chains_among image (data_blocks (length image)) (keeping heads)

-- the blocks of all these chains, one chain behind the other
abbrev pub taken_by : List Chain → List ℕ
taken_by chains = flat_map (λ c. c.blocks) chains

-- the bytes that stand on a chain
abbrev pub body_on : List ℕ → Chain → List ℕ
body_on image c = take c.head.size (flat_map (λ block. slice_range image (block * 1024 + 2) (block * 1024 + 1024)) c.blocks)

-- a chain as a change of its uid: to the value that stands on it, with the sequence of its head for the mark
abbrev pub change_on : List ℕ → Chain → StoreChange
change_on image c = record { uid = c.head.uid; body = Some (body_on image c); mark = c.head.sequence; wrote = [] }

-- the values on these chains, or the place of the head whose chain is damaged
abbrev pub changes_on : List ℕ → List Chain → Result (List StoreChange) ℕ
changes_on image [] = Ok []
changes_on image (c ∷ cs) = if c.whole then with_record (change_on image c) (changes_on image cs) else Err (head_place c.head.number)

-- what an image of blocks keeps by its heads, or its first damaged place
abbrev pub kept_in_blocks : List ℕ → Result (List Head) ℕ → Result Kept ℕ
kept_in_blocks image (Ok heads) = kept_by (changes_on image (chains_of image heads))
kept_in_blocks image (Err place) = Err place

-- what an image of blocks keeps as one of this node, or its first damaged place
abbrev pub blocks_map : ℕ → List ℕ → Result Kept ℕ
blocks_map node image = kept_in_blocks image (heads_of node image)

-- the heads that were read, none where one was damaged
abbrev pub heads_or_none : Result (List Head) ℕ → List Head
heads_or_none (Ok hs) = hs
heads_or_none (Err place) = []
