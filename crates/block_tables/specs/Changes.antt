-- The device calls by which a change is made on an image of blocks.
use Rattle.std.specs.Prelude.{ℕ, ◌+◌, ◌*◌, Bool, true, false, not, ◌==◌, List, [], ◌∷◌, ◌++◌, length, replicate, take, drop, map}
use Rattle.std.specs.Prelude.{find, slice_set, Option, None, Some}
use Rattle.std.specs.Int.{w16, w32, w64, to_be_bytes}
use Rattle.std.specs.List.{list_any}
use Rattle.capability.specs.declared.Uid.{Uid}
use Rattle.passive_store.specs.Acts.{DiskCall, Write, Sync}
use Rattle.block_tables.specs.Blocks.{Head, head_place, head_numbers, data_blocks, blocks_for, heads_of, heads_or_none}
use Rattle.block_tables.specs.Blocks.{chains_of, taken_by, closing, greatest, without}

-- one of these heads has this number
abbrev pub is_taken : List Head → ℕ → Bool
is_taken heads number = list_any (λ (h : Head). h.number == number) heads

-- the number, or 0 where there is none
abbrev pub number_or_zero : Option ℕ → ℕ
number_or_zero None = 0
number_or_zero (Some n) = n

-- on a disk of this size the least number of a head that none of these has, if there is one
abbrev pub free_head : ℕ → List Head → Option ℕ
free_head size heads = find (λ number. not (is_taken heads number)) (head_numbers size)

-- the data blocks that are on no chain of a value which these heads keep, ascending
abbrev pub free_blocks : List ℕ → List Head → List ℕ
free_blocks image heads = without (taken_by (chains_of image heads)) (data_blocks (length image))

-- the first of these blocks, or 0 where there are none
abbrev pub first_or_zero : List ℕ → ℕ
first_or_zero [] = 0
first_or_zero (block ∷ blocks) = block

-- a write of each block of a body: the block behind it, 0 for none, and its bytes
unfoldable pub chain_writes : List ℕ → List ℕ → List DiskCall
chain_writes [] body = []
chain_writes (block ∷ blocks) body =
    Write (block * 1024) (to_be_bytes w16 (first_or_zero blocks) ++ take 1022 body)
    ∷ chain_writes blocks (drop 1022 body)

-- the byte of a head for its kind: 1 for a value, 2 for a removal
abbrev pub kind_of : Bool → ℕ
kind_of false = 1
kind_of true = 2

-- the bytes of a head behind its gate
abbrev pub spelled_head : Head → List ℕ
spelled_head h =
    kind_of h.removal ∷ h.uid.node ∷ (to_be_bytes w32 h.uid.epoch ++ (to_be_bytes w32 h.uid.serial
    ++ (to_be_bytes w64 h.sequence ++ (to_be_bytes w32 h.size ++ (to_be_bytes w16 h.first ++ replicate 7 0)))))

-- the change has no body, so that it is a removal
abbrev pub is_removal : Option (List ℕ) → Bool
is_removal None = true
is_removal (Some body) = false

-- the length of a body in bytes, 0 for a removal
abbrev pub size_of : Option (List ℕ) → ℕ
size_of None = 0
size_of (Some body) = length body

-- the bytes of a body, none for a removal
abbrev pub bytes_of : Option (List ℕ) → List ℕ
bytes_of None = []
bytes_of (Some body) = body

-- the head of a change: a free one, with the sequence behind all others
abbrev pub new_head : ℕ → List Head → List ℕ → Uid → Option (List ℕ) → Head
new_head size heads blocks uid body = record {
  number = number_or_zero (free_head size heads);
  uid = uid;
  removal = is_removal body;
  sequence = greatest heads + 1;
  size = size_of body;
  first = first_or_zero blocks;
}

-- The calls: each head that is to be closed, a write of its gate; the blocks of the body; the new head behind its gate; a
-- sync; a write of its gate, which opens it; a sync.
abbrev pub calls_with : List Head → List ℕ → Head → Option (List ℕ) → List DiskCall
calls_with closed blocks h body =
    map (λ (c : Head). Write (head_place c.number) (0 ∷ [])) closed
    ++ (chain_writes blocks (bytes_of body)
    ++ (Write (head_place h.number + 1) (spelled_head h) ∷ Sync ∷ Write (head_place h.number) (225 ∷ []) ∷ Sync ∷ []))

-- the calls of a change on an image with these open heads: its body goes to the free blocks that come first
abbrev pub calls_over : List ℕ → List Head → Uid → Option (List ℕ) → List DiskCall
calls_over image heads uid body =
    let blocks = take (blocks_for body) (free_blocks image heads) in
    calls_with (closing heads) blocks (new_head (length image) heads blocks uid body) body

-- A write that was refused may have closed a gate or not: to the store it is still open.
abbrev pub as_known : Option ℕ → List ℕ → List ℕ
as_known None image = image
as_known (Some place) image = slice_set image place 225

-- the calls of a change on an image as one of this node; a gate whose write was refused counts as open
abbrev pub blocks_job : ℕ → Option ℕ → List ℕ → Uid → Option (List ℕ) → List DiskCall
blocks_job node refused image uid body =
    let known = as_known refused image in
    calls_over known (heads_or_none (heads_of node known)) uid body
