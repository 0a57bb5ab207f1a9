-- What a crash may have left in the middle of a device call, and behind it.
use Rattle.std.specs.Prelude.{◌⊎◌, ℕ, ◌-◌, ◌≤◌, ◌<◌, List, [], ◌∷◌, length, take}
use Rattle.eden_disk.specs.Told.{Contents, Act, Wrote, Synced, Cut, Told, contents, contents_from, Left}

-- the clock behind a change
abbrev pub clock_of : Act → ℕ
clock_of (Wrote clock at bytes) = clock
clock_of (Synced clock) = clock
clock_of (Cut clock image) = clock

-- what stood before an act still stood behind device call m: a cut comes behind the call of its clock
abbrev pub StoodBehind : Act → ℕ → Type 0
StoodBehind (Wrote clock at bytes) m = m < clock
StoodBehind (Synced clock) m = m < clock
StoodBehind (Cut clock image) m = m ≤ clock

-- in the middle of call m an act was done already; a write may be on its way as well, and then its range is unsynced
abbrev pub StandsIn : Act → ℕ → Type 0
StandsIn (Wrote clock at bytes) m = clock ≤ m
StandsIn (Synced clock) m = clock < m
StandsIn (Cut clock image) m = clock < m

-- in the middle of call m what stood before an act still stood: also in a sync itself, and in the call behind which a cut comes
abbrev pub StoodIn : Act → ℕ → Type 0
StoodIn (Wrote clock at bytes) m = m < clock
StoodIn (Synced clock) m = m ≤ clock
StoodIn (Cut clock image) m = m ≤ clock

-- by the acts, the newest first, since a clock at which these contents stood:
-- a crash behind device call m and before the next may have left this image
abbrev pub LeftBehind : Contents → ℕ → List Act → ℕ → List ℕ → Type 0
LeftBehind c clock [] m image = (clock ≤ m) × Left c image
LeftBehind c clock (act ∷ acts) m image = ((clock_of act ≤ m) × Left (contents_from c (act ∷ acts)) image)
    ⊎ (StoodBehind act m × LeftBehind c clock acts m image)

-- by the same acts: a crash in the middle of device call m may have left this image
abbrev pub LeftWithin : Contents → ℕ → List Act → ℕ → List ℕ → Type 0
LeftWithin c clock [] m image = (clock < m) × Left c image
LeftWithin c clock (act ∷ acts) m image = (StandsIn act m × Left (contents_from c (act ∷ acts)) image)
    ⊎ (StoodIn act m × LeftWithin c clock acts m image)

-- what a disk tells that it did not tell before
abbrev pub acts_since : Told → Told → List Act
acts_since old new = take (length new.acts - length old.acts) new.acts

-- the image may be left by a crash behind device call m and before the next, by what the disk told since it was handed in
abbrev pub LeftAfter : Told → ℕ → Told → ℕ → List ℕ → Type 0
LeftAfter old clock new m image = LeftBehind (contents old) clock (acts_since old new) m image

-- the image may be left by a crash in the middle of device call m, by what the disk told since it was handed in
abbrev pub LeftIn : Told → ℕ → Told → ℕ → List ℕ → Type 0
LeftIn old clock new m image = LeftWithin (contents old) clock (acts_since old new) m image
