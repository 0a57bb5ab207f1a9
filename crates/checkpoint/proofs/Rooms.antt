-- What stands on a disk has room.
use Rattle.std.proofs.Common.{ℕ, ◌+◌, ◌≤◌, List}
use Rattle.eden_disk.specs.Told.{Told, contents, LeavesOnly}
use Rattle.passive_store.specs.Kept.{Layout, Kept, StoreChange, Stands}
use Rattle.checkpoint.specs.Room.{KeepsRoom}

pub kept-room : (layout : Layout) (n more left : ℕ) (kept : Kept) (cs : List StoreChange) (told : Told) → more ≤ left + 1
    → LeavesOnly (Stands layout n left kept cs) (contents told) → KeepsRoom layout n more told
kept-room layout n more left kept cs told enough stands = (left, enough, λ image is its map opens. (stands image is).told)
