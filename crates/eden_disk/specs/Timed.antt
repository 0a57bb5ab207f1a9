-- When the contents of a disk changed, and that no later call changes what a crash may have left up to an earlier one.
use Rattle.std.specs.Prelude.{◌≡◌, ℕ, ◌-◌, ◌≤◌, List, [], ◌∷◌, ◌++◌}
use Rattle.eden_disk.specs.Told.{Contents, Act, Wrote, Synced, Cut, Told, contents, contents_from, Left}
use Rattle.eden_disk.specs.Moments.{clock_of}

-- the clock just before an act: a write and a sync are made by the call of their clock, a cut comes behind it
abbrev pub clock_before : Act → ℕ
clock_before (Wrote clock at bytes) = clock - 1
clock_before (Synced clock) = clock - 1
clock_before (Cut clock image) = clock

-- an act that may come to these contents
abbrev pub MayCome : Contents → Act → Type 0
MayCome c (Wrote clock at bytes) = 1 ≤ clock
MayCome c (Synced clock) = 1 ≤ clock
MayCome c (Cut clock image) = Left c image

-- From these contents at one clock the acts came in order up to another, the newest first, each write and sync in a call of its own.
abbrev pub InOrder : Contents → ℕ → List Act → ℕ → Type 0
InOrder c before [] after = before ≤ after
InOrder c before (act ∷ acts) after = (clock_of act ≤ after) × MayCome (contents_from c acts) act × InOrder c before acts (clock_before act)

-- What changed between two states of a disk changed between their clocks.
pub record Timed (before : ℕ) (old : Told) (after : ℕ) (new : Told) : Type 0 where
  pub acts : List Act
  pub image : new.image ≡ old.image
  pub since : new.acts ≡ acts ++ old.acts
  pub order : InOrder (contents old) before acts after
