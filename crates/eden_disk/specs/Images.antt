-- The images that a disk in memory leaves.
use Rattle.std.specs.Prelude.{ℕ, ◌+◌, ◌/◌, ◌++◌, take, slice_range, List, [], ◌∷◌, length, replicate}
use Rattle.eden_disk.specs.declared.disk.ImageMode.{ImageMode}
use Rattle.eden_disk.specs.declared.disk.ImageMode.TheVariants.{Keep, Lose, Garble}
use Rattle.eden_disk.specs.Told.{Contents, Range, Told, Cut, contents, overlay, noted}

-- one byte at each of these places
abbrev pub garbled : ℕ → List Range → List ℕ → List ℕ
garbled byte [] bytes = bytes
garbled byte (r ∷ rs) bytes = overlay r.at (replicate r.len byte) (garbled byte rs bytes)

-- What an armed failure leaves of a write: the first half of its bytes, rounded down, and behind them what stood there.
abbrev pub half_written : ℕ → List ℕ → List ℕ → List ℕ
half_written at bytes now = take (length bytes / 2) bytes ++ slice_range now (at + length bytes / 2) (at + length bytes)

-- What a power cut leaves: at the unsynced places the bytes of now, those of the last sync, or one byte, and elsewhere
-- what was synced.
abbrev pub image_left : ImageMode → Contents → List ℕ
image_left Keep c = c.now
image_left Lose c = c.stable
image_left (Garble byte) c = garbled byte c.unsynced c.stable

-- a power cut is noted where anything is unsynced
abbrev pub cut_by : ImageMode → ℕ → List Range → Told → Told
cut_by mode clock [] t = t
cut_by mode clock (r ∷ rs) t = noted (Cut clock (image_left mode (contents t))) t

-- what a disk tells behind a power cut
abbrev pub after_cut : ImageMode → ℕ → Told → Told
after_cut mode clock t = cut_by mode clock (contents t).unsynced t
