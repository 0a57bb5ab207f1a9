-- What a read of a record's place on a disk says.
use Rattle.std.specs.Prelude.{◌≡◌, ℕ, ◌+◌, ◌==◌, true, false, not, List, drop, slice_index, Option, None, Some}
use Rattle.passive_store.specs.declared.records.Header.{Header}
use Rattle.passive_store.specs.Log.{length_of, uid_of, kind_of, is_record}

-- a header that says what these bytes spell
pub record IsHeader (h : Header) (bytes : List ℕ) : Type 0 where
  pub uid : h.uid ≡ uid_of bytes
  pub size : h.length ≡ length_of bytes
  pub removal : h.removal ≡ not (kind_of bytes == 1)

-- at a place the gate is closed, or a whole record stands there with this header
abbrev pub IsHeaderAt : ℕ → List ℕ → ℕ → Option Header → Type 0
IsHeaderAt node bytes place None = (slice_index bytes place == 225) ≡ false
IsHeaderAt node bytes place (Some h) = (slice_index bytes place ≡ 225) × (is_record node (drop (place + 1) bytes) ≡ true)
    × IsHeader h (drop (place + 1) bytes)

-- at a place the gate is open, and no record stands there
abbrev pub IsDamagedAt : ℕ → List ℕ → ℕ → Type 0
IsDamagedAt node bytes place = (slice_index bytes place ≡ 225) × (is_record node (drop (place + 1) bytes) ≡ false)
