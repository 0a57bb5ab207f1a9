-- The layout of a log: its room, the device calls of changes and openings, and how many of them read a value.
use Rattle.std.specs.Prelude.{ℕ, ◌+◌, ◌-◌, ◌^◌, ◌==◌, Bool, true, false, nat_le, nat_lt, List, [], ◌∷◌, ◌++◌, length, replicate, take}
use Rattle.std.specs.Prelude.{map, slice_index, Option, None, Some, Result, Ok, Err, if◌then◌else◌}
use Rattle.std.specs.Int.{w32, to_be_bytes}
use Rattle.capability.specs.declared.Uid.{Uid}
use Rattle.passive_store.specs.Acts.{DiskCall, Write, Sync, Read}
use Rattle.passive_store.specs.Kept.{StoreChange, Kept, Layout, nothing_kept, kept_from}
use Rattle.passive_store.specs.Log.{records_of, body_size, log_grows, log_map}

-- the records that were found, or none where a damaged place was found
abbrev pub records_or_none : Result (List StoreChange) ℕ → List StoreChange
records_or_none (Ok rs) = rs
records_or_none (Err place) = []

-- the records of a log that ends at this tail, by the bytes before it; none where one of them is damaged
abbrev pub records_before : ℕ → ℕ → List ℕ → List StoreChange
records_before node tail bytes = records_or_none (records_of node (take tail bytes ++ 0 ∷ []))

-- the length of the body of a change, 0 for a removal
abbrev pub body_length : StoreChange → ℕ
body_length c = body_size c.body

-- how many bytes the records of a log take, by the lengths of their bodies: for each its body, and 15 more
abbrev pub used_by : List ℕ → ℕ
used_by [] = 0
used_by (n ∷ ns) = 15 + n + used_by ns

-- what a log of this node keeps that ends at this tail, by the bytes of its disk
abbrev pub log_kept : ℕ → ℕ → List ℕ → Kept
log_kept node tail bytes = kept_from nothing_kept (records_before node tail bytes)

-- the longest body that finds room behind bodies of these lengths, or none: it needs 16 bytes more, for its record and the next gate
abbrev pub log_room : ℕ → List ℕ → Option ℕ
log_room size lengths = if nat_le (32 + used_by lengths) size then Some (size - (32 + used_by lengths)) else None

-- whether a body of this length finds room, where that is the longest that does; with None no body does
abbrev pub within_room : Option ℕ → ℕ → Bool
within_room None n = false
within_room (Some room) n = nat_le n room

-- the records of the log on an image; none where no log stands there, or where it is damaged
abbrev pub records_found : ℕ → List ℕ → List StoreChange
records_found node image = if slice_index image 0 == 237 then records_or_none (records_of node image) else []

-- the bytes of a record behind its gate
abbrev pub spelled_record : ℕ → Uid → ℕ → ℕ → List ℕ → List ℕ
spelled_record node uid kind n body =
    to_be_bytes w32 n ++ (node ∷ (to_be_bytes w32 uid.epoch ++ (to_be_bytes w32 uid.serial ++ (kind ∷ body))))

-- the bytes of the record of a put or a removal, from behind its gate to the closed gate that follows
abbrev pub bytes_for : ℕ → Uid → Option (List ℕ) → List ℕ
bytes_for node uid None = spelled_record node uid 2 0 [] ++ 0 ∷ []
bytes_for node uid (Some body) = spelled_record node uid 1 (length body) body ++ 0 ∷ []

-- for how many more changes the room of a log is told: for more than there can be
abbrev pub log_changes : ℕ
log_changes = 2 ^ 63

-- where the log of an image ends
abbrev pub log_tail : ℕ → List ℕ → ℕ
log_tail node image = 16 + used_by (map body_length (records_found node image))

-- The job of a record at the tail: a write of it behind its gate, with the next gate, which is closed; a sync; a write of
-- its gate, which opens it; a sync.
abbrev pub record_job : ℕ → List ℕ → List DiskCall
record_job tail bytes = Write (tail + 1) bytes ∷ Sync ∷ Write tail (225 ∷ []) ∷ Sync ∷ []

-- the job of a put of this body, or of a removal: its record at the tail, whatever write was refused before
abbrev pub log_job : ℕ → Option ℕ → List ℕ → Uid → Option (List ℕ) → List DiskCall
log_job node refused image uid body = record_job (log_tail node image) (bytes_for node uid body)

-- how many reads of a log give what is kept under a uid: one, or none where nothing is
abbrev pub reads_for : Option (List ℕ) → ℕ
reads_for None = 0
reads_for (Some body) = 1

-- the records that an opening reads: all, or those before the first damaged one
abbrev pub records_up_to : ℕ → List ℕ → Result (List StoreChange) ℕ → List StoreChange
records_up_to node image (Ok rs) = rs
records_up_to node image (Err place) = records_before node place image

-- the records that an opening reads on an image; none where no log stands there
abbrev pub records_read : ℕ → List ℕ → List StoreChange
records_read node image = if slice_index image 0 == 237 then records_up_to node image (records_of node image) else []

-- the device calls that make a log on a blank disk: its first gate is closed before its first byte says that it is a log
abbrev pub log_format : List DiskCall
log_format = Write 1 (replicate 16 0) ∷ Sync ∷ Write 0 (237 ∷ []) ∷ Sync ∷ []

-- a look at the first byte, and a format where it does not say that it is a log
abbrev pub looks : Bool → List DiskCall
looks true = Read ∷ []
looks false = Read ∷ log_format

-- The device calls of an opening, in their order: a sync, a look and perhaps a format, and a read at each gate up to the
-- first that is closed, or whose record is damaged. On a disk that is too small there is none.
abbrev pub log_opening : ℕ → List ℕ → List DiskCall
log_opening node image =
    if nat_lt (length image) 17 then []
    else (Sync ∷ (looks (slice_index image 0 == 237) ++ replicate (length (records_read node image) + 1) Read))

-- a log as a layout: the ledger and the size decide the room, no image is overfull, and a job has four device calls
abbrev pub log_layout : Layout
log_layout = record {
  allows = λ size. nat_le 17 size;
  map_of = log_map;
  is_overfull = λ node image. false;
  grows = log_grows;
  room_of = λ size bodies ledger. log_room size ledger;
  has_room = λ room uid body. within_room room (body_size body);
  changes_told = λ node image. log_changes;
  job_calls = log_job;
  is_job = λ body calls. calls == 4;
  opening_calls = log_opening;
  reading_calls = reads_for;
}
