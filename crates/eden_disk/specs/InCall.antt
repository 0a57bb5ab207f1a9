-- What is unsynced in the middle of a write.
use Rattle.std.specs.Prelude.{ℕ, ◌∷◌}
use Rattle.eden_disk.specs.Told.{Contents}

-- these contents with one more range unsynced
abbrev pub unsynced_too : ℕ → ℕ → Contents → Contents
unsynced_too at len c = record { now = c.now; stable = c.stable; unsynced = record { at = at; len = len } ∷ c.unsynced }
