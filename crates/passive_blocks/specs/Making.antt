-- Device calls that are made one behind the other, on whatever disk.
use Rattle.std.specs.Prelude.{◌≡◌, ℕ, ◌≤◌, Bool, IsTrue, List, length, Result}
use Rattle.eden_disk.specs.Calls.{End, Fine, AtFault, AtStop, DeviceCalls, Obeyed}
use Rattle.eden_disk.specs.Timed.{Timed}
use Rattle.passive_store.specs.declared.store.StoreRefusal.{StoreRefusal}
use Rattle.passive_store.specs.Acts.{DiskCall, CallsTold}
use Rattle.passive_store.specs.Kept.{OpeningMade, OpeningTold, end_of_store}
use Rattle.passive_store.specs.Seen.{DiskSeen}

-- of so many calls all were made, or some up to one that was refused
abbrev pub IsMadeOf : ℕ → End → ℕ → Type 0
IsMadeOf calls Fine made = made ≡ calls
IsMadeOf calls AtFault made = 1 ≤ made
IsMadeOf calls AtStop made = 1 ≤ made

-- These calls were made in their order, or some of them up to one that was refused; and no others.
pub record Makes (tells obeys : Bool) (calls : List DiskCall) (old new : DiskSeen) (end : End) : Type 0 where
  pub made : ℕ
  pub number : IsMadeOf (length calls) end made
  pub counts : DeviceCalls made old.counts new.counts end
  pub obeyed : IsTrue obeys → Obeyed old.due new.due old.counts new.counts end
  pub timed : IsTrue tells → Timed old.counts.clock old.told new.counts.clock new.told
  pub order : IsTrue tells → CallsTold calls old.told new.told end

-- The same of calls that want of memory may end too, behind any of them; with Full or Damaged all of them were made.
pub record Runs {T : Type 0} (tells obeys : Bool) (calls : List DiskCall) (old new : DiskSeen) (result : Result T StoreRefusal) : Type 0
  where
    pub made : ℕ
    pub counts : DeviceCalls made old.counts new.counts (end_of_store result)
    pub number : IsTrue tells → OpeningMade (length calls) result made
    pub obeyed : IsTrue obeys → Obeyed old.due new.due old.counts new.counts (end_of_store result)
    pub timed : IsTrue tells → Timed old.counts.clock old.told new.counts.clock new.told
    pub order : IsTrue tells → OpeningTold calls old.told new.told result
