-- What follows of two disks that vouch.
use Rattle.std.specs.Prelude.{◌≡◌, ◌⊎◌, ℕ, ◌≤◌, ◌<◌, false, List, Option, None, Some, IsTrue, ◌||◌}
use Rattle.std.specs.FinMap as map
use Rattle.capability.specs.declared.Uid.{Uid}
use Rattle.eden_disk.specs.Told.{Told, contents, Left}
use Rattle.passive_store.specs.Kept.{Layout, IsEject}
use Rattle.twin_store.specs.Vouched.{Bodies, SameEjects, generation_in, bodies_found, Vow, IsHeld, IsOwnChange, IsVouched}
use Rattle.twin_store.specs.Footings.{AreVouched}

-- a map has under each uid what one of two others has
abbrev pub IsMixed : ℕ → Bodies → Bodies → Bodies → Type 0
IsMixed node m n x = (uid : Uid) → IsEject node uid → (map.get x uid ≡ map.get m uid) ⊎ (map.get x uid ≡ map.get n uid)

-- what is mixed of what is held is held
abbrev pub MixedIsHeld : Type 0
MixedIsHeld = (v : Vow) (m n x : Bodies) → IsOwnChange v.node v.begun → IsHeld v m → IsHeld v n → IsMixed v.node m n x → IsHeld v x

-- the same with one disk less
abbrev pub without_first : Vow → Vow
without_first v = record { node = v.node; held = v.held; begun = v.begun; first = false; second = v.second }

abbrev pub without_second : Vow → Vow
without_second v = record { node = v.node; held = v.held; begun = v.begun; first = v.first; second = false }

-- Where a disk is left that vouches, the greater generation is right, and at equal ones the first disk.
abbrev pub GreaterIsRight : Type 0
GreaterIsRight = (v : Vow) (k l : Bodies) → IsTrue (v.first || v.second) → IsVouched v (Some k) (Some l)
    → ((generation_in v.node l ≤ generation_in v.node k) → IsHeld v k)
    × ((generation_in v.node k < generation_in v.node l) → IsHeld v l)

-- A disk that meets a fault leaves the other to vouch.
abbrev pub FaultLeavesOther : Type 0
FaultLeavesOther = (v : Vow) (one two : Option Bodies) → IsVouched v one two
    → IsVouched (without_first v) one two × IsVouched (without_second v) one two

-- A disk that is blanked leaves the other to vouch.
abbrev pub BlankLeavesOther : Type 0
BlankLeavesOther = (v : Vow) (one two : Option Bodies) → IsVouched v one two
    → IsVouched (without_first v) (Some map.empty) two × IsVouched (without_second v) one (Some map.empty)

-- At equal generations the second disk may have, of each uid, what it has or what the first has.
abbrev pub SecondMayBeBrought : Type 0
SecondMayBeBrought = (v : Vow) (k l x : Bodies) → IsOwnChange v.node v.begun → IsVouched v (Some k) (Some l)
    → generation_in v.node k ≡ generation_in v.node l → generation_in v.node x ≡ generation_in v.node l
    → IsMixed v.node k l x → IsVouched v (Some k) (Some x)

-- a map has under each uid what one of two others has, or nothing
abbrev pub IsPartOf : ℕ → Bodies → Bodies → Bodies → Type 0
IsPartOf node m n x = (uid : Uid) → IsEject node uid
    → (map.get x uid ≡ map.get m uid) ⊎ ((map.get x uid ≡ map.get n uid) ⊎ (map.get x uid ≡ None))

-- A disk of a lesser generation may be emptied and filled.
abbrev pub LesserMayBeRefilled : Type 0
LesserMayBeRefilled = (v : Vow) (k l x : Bodies) → IsVouched v (Some k) (Some l)
    → (generation_in v.node l < generation_in v.node k → generation_in v.node x ≡ generation_in v.node l
    → IsPartOf v.node k l x → IsVouched v (Some k) (Some x))
    × (generation_in v.node k < generation_in v.node l → generation_in v.node x ≡ generation_in v.node k
    → IsPartOf v.node k l x → IsVouched v (Some x) (Some l))

-- A disk of a lesser generation that has what the other has may get the other's generation.
abbrev pub LesserMayBeRaised : Type 0
LesserMayBeRaised = (v : Vow) (k l x : Bodies) → IsVouched v (Some k) (Some l)
    → (generation_in v.node l < generation_in v.node k → generation_in v.node x ≡ generation_in v.node k
    → SameEjects v.node x k → IsVouched v (Some k) (Some x))
    × (generation_in v.node k < generation_in v.node l → generation_in v.node x ≡ generation_in v.node l
    → SameEjects v.node x l → IsVouched v (Some x) (Some l))

-- Where both disks have the same and neither has a generation, the second may get the first one.
abbrev pub SecondMayBegin : Type 0
SecondMayBegin = (v : Vow) (k l x : Bodies) → IsVouched v (Some k) (Some l) → SameEjects v.node l k
    → generation_in v.node k ≡ 0 → generation_in v.node l ≡ 0 → generation_in v.node x ≡ 1
    → SameEjects v.node x l → IsVouched v (Some k) (Some x)

-- A disk that is left alone may get a greater generation.
abbrev pub OneMayBeRaised : Type 0
OneMayBeRaised = (v : Vow) (one : Option Bodies) (m x : Bodies)
    → generation_in v.node m < generation_in v.node x → SameEjects v.node x m
    → (v.second ≡ false → IsVouched v (Some m) one → IsVouched v (Some x) one)
    × (v.first ≡ false → IsVouched v one (Some m) → IsVouched v one (Some x))

-- Of two disks that vouch each pair of images that a crash may leave is vouched for.
abbrev pub ImagesAreVouched : Type 0
ImagesAreVouched = (layout : Layout) (v : Vow) (one two : Told) (a b : List ℕ) → AreVouched layout v one two
    → Left (contents one) a → Left (contents two) b
    → IsVouched v (bodies_found (layout.map_of v.node a)) (bodies_found (layout.map_of v.node b))
