-- How the mark of a uid tells which state of a change in doubt is there.
use Rattle.std.specs.Prelude.{◌≡◌, ◌≢◌, ◌⊎◌, ◌↔◌, ℕ, Option, Some, Result, Ok, Bool}
use Rattle.std.specs.FinMap as map
use Rattle.capability.specs.declared.Uid.{Uid}
use Rattle.passive_store.specs.declared.store.Pick.{Pick}
use Rattle.passive_store.specs.declared.store.Pick.TheVariants.{New}
use Rattle.passive_store.specs.Kept.{Kept, StoreChange, Unsettled, settled}

-- The settling found the new state exactly where it changed the mark of the uid in doubt.
abbrev pub PickTellsMark : Option Pick → StoreChange → Bool → Kept → Type 0
PickTellsMark pick c synced s = (pick ≡ Some New) ↔ (map.get (settled pick (Unsettled c synced) s).marks c.uid ≢ map.get s.marks c.uid)

-- What is found in an image: the uid of the change has its old mark and body, or another mark and its new body; and every
-- other uid has its mark and body.
pub record IsOldOrNew (kept : Kept) (c : StoreChange) (found : Result Kept ℕ) : Type 0 where
  pub there : Kept
  pub is : found ≡ Ok there
  pub state : ((map.get there.marks c.uid ≡ map.get kept.marks c.uid) × (map.get there.bodies c.uid ≡ map.get kept.bodies c.uid))
      ⊎ ((map.get there.marks c.uid ≢ map.get kept.marks c.uid) × (map.get there.bodies c.uid ≡ c.body))
  pub marks : (uid : Uid) → uid ≢ c.uid → map.get there.marks uid ≡ map.get kept.marks uid
  pub bodies : (uid : Uid) → uid ≢ c.uid → map.get there.bodies uid ≡ map.get kept.bodies uid
