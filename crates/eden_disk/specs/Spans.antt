-- The places that are unsynced, as a disk in memory keeps them, and the bytes there.
use Rattle.std.specs.Prelude.{◌≡◌, ℕ, ◌+◌, ◌≤◌, All, slice_range, slice_index, false, List, [], ◌∷◌, length, map, reverse}
use Rattle.eden_disk.specs.declared.medium.Span.{Span}
use Rattle.eden_disk.specs.Told.{Contents, Range, overlay, Left, is_unsynced}

-- the range that a span is
abbrev pub range_of : Span → Range
range_of s = record { at = s.at; len = s.len }

-- each span lies within so many bytes
abbrev pub AllFit : ℕ → List Span → Type 0
AllFit size spans = All (λ (s : Span). s.at + s.len ≤ size) spans

-- the bytes of one list at each of these places, over another
abbrev pub copied : List ℕ → List Range → List ℕ → List ℕ
copied from [] bytes = bytes
copied from (r ∷ rs) bytes = overlay r.at (slice_range from r.at (r.at + r.len)) (copied from rs bytes)

-- two lists agree but for these places
abbrev pub AgreeElsewhere : List Range → List ℕ → List ℕ → Type 0
AgreeElsewhere rs xs ys = (k : ℕ) → is_unsynced k rs ≡ false → slice_index xs k ≡ slice_index ys k

-- What is kept is what is told: both images, and the unsynced places, which are kept the oldest first.
pub record IsKeptBy (c : Contents) (now stable : List ℕ) (spans : List Span) : Type 0 where
  pub holds : c ≡ record { now = now; stable = stable; unsynced = map range_of (reverse spans) }
  pub left : Left c c.now
  pub same_size : length now ≡ length stable
  pub fit : AllFit (length now) spans

-- Memory holds both images at each of these places.
pub record AreHeld (now stable : ℕ) (spans : List Span) : Type 0 where
  pub now_held : AllFit now spans
  pub stable_held : AllFit stable spans
