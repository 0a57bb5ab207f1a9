-- What a request does to what is kept of an Eject.
use Rattle.std.specs.Prelude.{ℕ, List, Option, None, Some}

-- bytes are put, or what is kept is removed
pub data EjectChange : Type 0 where
  -- these bytes are kept, in place of what was kept before
  body : List ℕ → EjectChange
  -- nothing is kept any more
  removal : EjectChange

-- the bytes that are kept after a change
abbrev pub kept_of : EjectChange → Option (List ℕ)
kept_of (body bytes) = Some bytes
kept_of removal = None
