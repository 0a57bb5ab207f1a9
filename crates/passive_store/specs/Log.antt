-- The log: open records one behind the other from byte 16 on, up to the first closed gate.
use Rattle.std.specs.Prelude.{◌≡◌, ◌⊎◌, ℕ, ◌+◌, Bool, true, false, ◌&&◌, ◌||◌, not, ◌==◌, nat_le, nat_lt, suc, zero, List, [], ◌∷◌, ◌++◌}
use Rattle.std.specs.Prelude.{length, take, slice_index, slice_range, Option, None, Some, Result, Ok, Err, if◌then◌else◌}
use Rattle.std.specs.Int.{w32, from_be_bytes}
use Rattle.capability.specs.declared.Uid.{Uid}
use Rattle.passive_store.specs.Kept.{StoreChange, Kept, nothing_kept, kept_by}

-- the length of the body of a record, in the first four of the bytes behind its gate
abbrev pub length_of : List ℕ → ℕ
length_of bytes = from_be_bytes w32 (take 4 bytes)

-- the uid, behind the length: one byte of node, four of epoch, four of serial
abbrev pub uid_of : List ℕ → Uid
uid_of bytes = record
    { node = slice_index bytes 4; epoch = from_be_bytes w32 (slice_range bytes 5 9); serial = from_be_bytes w32 (slice_range bytes 9 13) }

-- the kind, in the byte behind the uid: 1 gives the uid a body, 2 removes it
abbrev pub kind_of : List ℕ → ℕ
kind_of bytes = slice_index bytes 13

-- the body, behind the kind; a record that is not of kind 1 has none
abbrev pub body_of : List ℕ → Option (List ℕ)
body_of bytes = if kind_of bytes == 1 then Some (slice_range bytes 14 (14 + length_of bytes)) else None

-- what a record adds to the ledger: the length of its body
abbrev pub body_size : Option (List ℕ) → ℕ
body_size None = 0
body_size (Some body) = length body

-- that length as a list of one, as a ledger takes it
abbrev pub log_grows : Option (List ℕ) → List ℕ
log_grows body = body_size body ∷ []

-- the fields of a record are of the format: a body within its limit, a kind that there is, and a uid of this node
abbrev pub are_fields : ℕ → ℕ → Uid → ℕ → Bool
are_fields node size uid kind =
    nat_le size 262144
    && (kind == 1 || (kind == 2 && size == 0))
    && uid.node == node
    && ((uid.epoch == 0 && uid.serial == 0 && kind == 1 && size == 4) || (not (uid.epoch == 0) && not (uid.serial == 0)))

-- the record and one byte behind it fit, and its fields are of the format
abbrev pub is_record : ℕ → List ℕ → Bool
is_record node bytes = nat_le (14 + length_of bytes + 1) (length bytes) && are_fields node (length_of bytes) (uid_of bytes) (kind_of bytes)

-- the change of a record whose gate is at this place, by the bytes behind the gate; the place is its mark
abbrev pub record_of : ℕ → List ℕ → StoreChange
record_of place bytes = record { uid = uid_of bytes; body = body_of bytes; mark = place; wrote = log_grows (body_of bytes) }

-- a record in front of those behind it; or, where one of these is damaged, the place of that
abbrev pub with_record : StoreChange → Result (List StoreChange) ℕ → Result (List StoreChange) ℕ
with_record r (Ok rs) = Ok (r ∷ rs)
with_record r (Err place) = Err place

-- The records from a place on, once so many bytes are passed over; or the place of the first damaged one.
unfoldable pub records_behind : ℕ → ℕ → ℕ → List ℕ → Result (List StoreChange) ℕ
records_behind node skip place [] = Ok []
records_behind node (suc skip) place (byte ∷ bytes) = records_behind node skip (place + 1) bytes
records_behind node zero place (gate ∷ bytes) =
    if gate == 225 then
    (if is_record node bytes then with_record (record_of place bytes) (records_behind node (14 + length_of bytes) (place + 1) bytes) else
    Err place)
    else Ok []

-- several records in front of those behind them; a damaged place stays
abbrev pub with_records : List StoreChange → Result (List StoreChange) ℕ → Result (List StoreChange) ℕ
with_records rs (Ok ts) = Ok (rs ++ ts)
with_records rs (Err place) = Err place

-- the records of a whole image, from byte 16 on; or the place of the first damaged one
abbrev pub records_of : ℕ → List ℕ → Result (List StoreChange) ℕ
records_of node image = records_behind node 16 0 image

-- What an image keeps: nothing where no log stands on it, and else what its open records leave. One of fewer than 17
-- bytes has no room for a log, and is damaged at its first byte.
abbrev pub log_map : ℕ → List ℕ → Result Kept ℕ
log_map node image = if nat_lt (length image) 17 then Err 0 else
    (if slice_index image 0 == 237 then kept_by (records_of node image) else Ok nothing_kept)

-- These bytes are whole records from byte 16 on, and the log goes on behind them.
abbrev pub IsFront : ℕ → List ℕ → List StoreChange → Type 0
IsFront node front rs = (gate : ℕ) (rest : List ℕ)
    → records_of node (front ++ gate ∷ rest) ≡ with_records rs (records_behind node 0 (length front) (gate ∷ rest))

-- These bytes stand for a change, as a record behind its gate, wherever they stand.
pub record SpellsRecord (node : ℕ) (bytes : List ℕ) (uid : Uid) (body : Option (List ℕ)) : Type 0 where
  pub whole : (gate : ℕ) (rest : List ℕ) → is_record node (bytes ++ gate ∷ rest) ≡ true
  pub size : (gate : ℕ) (rest : List ℕ) → 14 + length_of (bytes ++ gate ∷ rest) ≡ length bytes
  pub reads : (place gate : ℕ) (rest : List ℕ)
      → record_of place (bytes ++ gate ∷ rest) ≡ record { uid = uid; body = body; mark = place; wrote = log_grows body }

-- the gate behind a front is closed
abbrev pub IsShutBehind : List ℕ → List ℕ → Type 0
IsShutBehind front image = (gate : ℕ) × (rest : List ℕ) × ((gate == 225) ≡ false) × (image ≡ front ++ gate ∷ rest)

-- an image in which a record that is being written does not count, whatever stands behind its gate
abbrev pub Unwritten : ℕ → List ℕ → List ℕ → Type 0
Unwritten size front image = (length image ≡ size) × IsShutBehind front image

-- An image in which a record is being written behind a front: its gate is closed, or it stands there whole, with what follows it.
abbrev pub HalfWritten : ℕ → List ℕ → List ℕ → List ℕ → Type 0
HalfWritten size front bytes image = (length image ≡ size)
    × (IsShutBehind front image
    ⊎ ((rest : List ℕ) × (image ≡ front ++ 225 ∷ (bytes ++ rest))))
