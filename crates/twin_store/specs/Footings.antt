-- What may be found on a disk after a crash, and what two disks vouch for after one of each.
use Rattle.std.specs.Prelude.{◌≡◌, ℕ, List, Option, None, Some, Result, Ok, Err}
use Rattle.eden_disk.specs.Told.{Told, contents, LeavesOnly}
use Rattle.passive_store.specs.Kept.{Kept, Layout, StoreChange, IsAnyOf, Stands, IsDamagedFrom, IsOverfull}
use Rattle.twin_store.specs.Vouched.{Bodies, bodies_found, Vow, IsVouched}

-- What is known of all images that a crash may leave of a disk, and what an opening of it keeps, whatever comes in it: they stand
-- for this map with any of these changes; or are damaged first at this place; or keep this, and too much to be opened.
pub data Footing : Type 0 where
  Standing : Kept → List StoreChange → Footing
  Damaged : ℕ → Footing
  TooMuch : Kept → Footing

-- what may be found on such an image
abbrev pub MayFind : Footing → Result Kept ℕ → Type 0
MayFind (Standing kept changes) found = IsAnyOf kept changes found
MayFind (Damaged place) found = found ≡ Err place
MayFind (TooMuch kept) found = found ≡ Ok kept

-- an image is of this kind
abbrev pub IsOn : Layout → ℕ → Footing → List ℕ → Type 0
IsOn layout node (Standing kept changes) image = Stands layout node 0 kept changes image
IsOn layout node (Damaged place) image = IsDamagedFrom layout node place image
IsOn layout node (TooMuch kept) image = IsOverfull layout node kept image

-- a crash leaves only images of this kind
abbrev pub IsFooted : Layout → ℕ → Footing → Told → Type 0
IsFooted layout node footing told = LeavesOnly (IsOn layout node footing) (contents told)

-- What is found on a disk after a crash has S.
pub record Finds (layout : Layout) (node : ℕ) (S : Option Bodies → Type 0) (told : Told) : Type 0 where
  pub footing : Footing
  pub is : IsFooted layout node footing told
  pub only : (found : Result Kept ℕ) → MayFind footing found → S (bodies_found found)
  -- and something is found
  pub found : Result Kept ℕ
  pub there : MayFind footing found

-- there is a map, and it has P
abbrev pub IsMapped : (Bodies → Type 0) → Option Bodies → Type 0
IsMapped P (Some m) = P m
IsMapped P None = ⊥

-- where there is a map, it has P
abbrev pub IfMapped : (Bodies → Type 0) → Option Bodies → Type 0
IfMapped P (Some m) = P m
IfMapped P None = Unit {0}

-- What is found on two disks after a crash of each is vouched for.
pub record AreVouched (layout : Layout) (v : Vow) (one two : Told) : Type 0 where
  pub first : Footing
  pub second : Footing
  pub first_is : IsFooted layout v.node first one
  pub second_is : IsFooted layout v.node second two
  pub vouched : (a b : Result Kept ℕ) → MayFind first a → MayFind second b → IsVouched v (bodies_found a) (bodies_found b)
