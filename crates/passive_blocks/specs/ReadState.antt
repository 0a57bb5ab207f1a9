-- A read of what is kept under a uid.
use Rattle.std.specs.Prelude.{◌≡◌, ◌⊎◌, ℕ, Bool, IsTrue, List, Option, Result, IfOk, IfErr, IsSome}
use Rattle.passive_store.specs.declared.store.StoreRefusal.{StoreRefusal}
use Rattle.passive_store.specs.declared.store.StoreRefusal.TheVariants.{OutOfMemory}
use Rattle.passive_store.specs.Acts.{CallsTold}
use Rattle.passive_store.specs.Kept.{Idle, Ran, IsDiskRefusal, StandsThrough, changes_in, doubt_in, reads_due, body_at, end_of_store}
use Rattle.passive_store.specs.Seen.{Seen, Goes}
use Rattle.capability.specs.declared.Uid.{Uid}
use Rattle.passive_blocks.specs.BlockLayout.{block_layout}

-- What is kept under a uid was read, or the read was refused: nothing that is seen of the store but its disk changes.
pub record ReadsBody (tells obeys : Bool) (uid : Uid) (result : Result (Option (List ℕ)) StoreRefusal) (old new : Seen) : Type 0 where
  pub goes : Goes tells obeys block_layout result old new
  pub only : IfErr result (λ e. IsDiskRefusal e ⊎ (e ≡ OutOfMemory))
  pub calls : ℕ
  pub ran : Ran 0 calls result old.disk.counts new.disk.counts
  pub found : IfOk result (λ body. calls ≡ block_layout.reading_calls body)
  pub by_layout : IsTrue tells → calls ≡ block_layout.reading_calls (body_at old.kept uid)
  pub order : IsTrue tells → CallsTold (reads_due Idle calls result) old.disk.told new.disk.told (end_of_store result)
  pub reads : IsTrue tells → IfErr result (λ e. IsDiskRefusal e → IsSome (body_at old.kept uid))
  pub picked : new.picked ≡ old.picked
  pub work : new.work ≡ old.work
  pub more : new.more ≡ old.more
  pub at : new.refused_at ≡ old.refused_at
  pub kept : IsTrue tells → new.kept ≡ old.kept
  pub body : IsTrue tells → IfOk result (λ body. body ≡ body_at old.kept uid)
  pub moments : IsTrue tells
      → StandsThrough block_layout old.node old.more old.kept (changes_in (doubt_in old.work)) old.disk.told new.disk.told
