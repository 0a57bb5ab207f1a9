-- What a read of a head on a disk says.
use Rattle.std.specs.Prelude.{◌≡◌, ◌==◌, ℕ, true, false, List, length, slice_index, Option, None, Some}
use Rattle.block_tables.specs.declared.heads.HeadFields.{HeadFields}
use Rattle.block_tables.specs.Blocks.{Head, head_bytes, head_in, is_head}

-- the head that these fields are of
abbrev pub head_of : HeadFields → Head
head_of h = record {
  number = h.number;
  uid = h.uid;
  removal = h.removal;
  sequence = h.sequence;
  size = h.size;
  first = h.first;
}

-- the gate of a head is closed, or it is open and says this
abbrev pub IsHeadThere : ℕ → List ℕ → ℕ → Option HeadFields → Type 0
IsHeadThere node image number None = (slice_index (head_bytes image number) 0 == 225) ≡ false
IsHeadThere node image number (Some h) = (slice_index (head_bytes image number) 0 ≡ 225)
    × (is_head node (length image) (head_bytes image number) (head_in number (head_bytes image number)) ≡ true)
    × (head_of h ≡ head_in number (head_bytes image number))

-- the gate is open, and the fields are not of the format
abbrev pub IsHeadDamaged : ℕ → List ℕ → ℕ → Type 0
IsHeadDamaged node image number = (slice_index (head_bytes image number) 0 ≡ 225)
    × (is_head node (length image) (head_bytes image number) (head_in number (head_bytes image number)) ≡ false)
