-- How a store's refusal ends a request, and a store that stays as it was.
use Rattle.std.specs.Prelude.{◌≡◌, Bool, IsTrue}
use Rattle.passive_store.specs.declared.store.StoreRefusal.{StoreRefusal}
use Rattle.passive_store.specs.declared.store.StoreRefusal.TheVariants as refusal
use Rattle.passive_store.specs.Seen.{Seen}
use Rattle.checkpoint.specs.declared.worker.StoreEnd.{StoreEnd}
use Rattle.checkpoint.specs.declared.worker.StoreEnd.TheVariants.{Stopped, Fault}

-- how a device call that was refused ends a request
abbrev pub end_of_refusal : StoreRefusal → StoreEnd
end_of_refusal refusal.Stopped = Stopped
end_of_refusal _ = Fault

-- a store as it was, where there was no memory
pub record Stays (tells : Bool) (old new : Seen) : Type 0 where
  pub node : new.node ≡ old.node
  pub work : new.work ≡ old.work
  pub picked : new.picked ≡ old.picked
  pub more : new.more ≡ old.more
  pub at : new.refused_at ≡ old.refused_at
  pub disk : new.disk ≡ old.disk
  pub kept : IsTrue tells → new.kept ≡ old.kept
