-- A settling that begins anew: what is seen of a store behind it.
use Rattle.std.specs.Prelude.{◌≡◌, Bool, IsTrue, None, IfSome}
use Rattle.passive_store.specs.Kept.{Layout, IsFresh, LeavesKept, doubt_in, is_unsettled, unsynced}
use Rattle.passive_store.specs.Seen.{Seen}

-- Nothing is changed but that a change in doubt wants its sync again, and that nothing is picked.
pub record IsAnew (tells : Bool) (layout : Layout) (unsettled : Bool) (old new : Seen) : Type 0 where
  pub node : new.node ≡ old.node
  pub disk : new.disk ≡ old.disk
  pub unsettled_is : unsettled ≡ is_unsettled old.work
  pub work : new.work ≡ unsynced old.work
  pub picked : new.picked ≡ None
  pub more : new.more ≡ old.more
  pub at : new.refused_at ≡ old.refused_at
  pub kept : IsTrue tells → new.kept ≡ old.kept
  pub fresh : IsTrue tells → IfSome (doubt_in old.work) (λ c. IsFresh c old.kept)
  -- a crash leaves what is kept, with or without the change in doubt
  pub stands : IsTrue tells → LeavesKept layout new.node new.more new.kept new.work new.disk.told
