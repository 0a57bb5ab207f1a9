-- What a store's step says of one device call, where its disk tells.
use Rattle.std.proofs.Common.{◌≡◌, ℕ, Bool, true, nat_le, ◌&&◌, List, Option, Result, is_some, is_ok, subst}
use Rattle.std.specs.Prelude.{IsTrue, IfOk, IfErr, OnErr}
use Rattle.capability.specs.declared.Uid.{Uid}
use Rattle.eden_disk.specs.Calls.{DeviceCalls, End}
use Rattle.eden_disk.specs.Timed.{Timed}
use Rattle.passive_store.specs.Acts.{DiskCall, CallTold, CallsTold, settling_call}
use Rattle.passive_store.specs.declared.store.Pick.{Pick}
use Rattle.passive_store.specs.declared.store.Progress.{Progress}
use Rattle.passive_store.specs.declared.store.StoreRefusal.{StoreRefusal}
use Rattle.passive_store.specs.Kept.{Layout, LeavesKept, StandsThrough, NextTold, IsDiskRefusal, doubt_in, changes_in, is_synced}
use Rattle.passive_store.specs.Kept.{is_unsettled, is_busy, calls_left, progress_at, end_of_store, settled, work_stepped, work_advanced}
use Rattle.passive_store.specs.Kept.{kept_advanced, Ran, settling_calls, settling_of, work_settled, reads_due}
use Rattle.passive_store.specs.Seen.{Seen, SettlesOneCall, Settled, Advances, Gets}

-- a call of a settling; `pick` is what it found
pub record SettlesOnce (layout : Layout) (n : ℕ) (x y : Seen) (result : Result Progress StoreRefusal) (pick : Option Pick) : Type 0 where
  pub unsettled : is_unsettled x.work ≡ true
  pub counts : DeviceCalls 1 x.disk.counts y.disk.counts (end_of_store result)
  pub timed : Timed x.disk.counts.clock x.disk.told y.disk.counts.clock y.disk.told
  pub only : IfErr result IsDiskRefusal
  pub last : IfOk result (λ progress. progress ≡ progress_at (is_synced x.work))
  pub told : CallTold (settling_call (is_synced x.work)) y.disk.counts.clock x.disk.told y.disk.told (end_of_store result)
  pub work : y.work ≡ work_stepped x.work result
  pub found : is_some pick ≡ (is_ok result && is_synced x.work)
  pub more : y.more ≡ x.more
  pub kept : y.kept ≡ settled pick x.work x.kept
  pub stands : LeavesKept layout n y.more y.kept y.work y.disk.told
  pub moments : StandsThrough layout n x.more x.kept (changes_in (doubt_in x.work)) x.disk.told y.disk.told

-- a call of a job
pub record AdvancesOnce (layout : Layout) (n : ℕ) (x y : Seen) (result : Result Progress StoreRefusal) : Type 0 where
  pub busy : is_busy x.work ≡ true
  pub counts : DeviceCalls 1 x.disk.counts y.disk.counts (end_of_store result)
  pub timed : Timed x.disk.counts.clock x.disk.told y.disk.counts.clock y.disk.told
  pub only : IfErr result IsDiskRefusal
  pub last : IfOk result (λ progress. progress ≡ progress_at (nat_le (calls_left x.work) 1))
  pub told : NextTold x.work y.disk.counts.clock x.disk.told y.disk.told (end_of_store result)
  pub work : y.work ≡ work_advanced x.work result
  pub more : y.more ≡ x.more
  pub kept : y.kept ≡ kept_advanced x.work x.kept result
  pub stands : LeavesKept layout n y.more y.kept y.work y.disk.told
  pub moments : StandsThrough layout n x.more x.kept (changes_in (doubt_in x.work)) x.disk.told y.disk.told

pub settles-once : (tells obeys : Bool) (layout : Layout) (result : Result Progress StoreRefusal) (x y : Seen) → IsTrue tells
    → IsTrue (is_unsettled x.work)
    → SettlesOneCall tells obeys layout result x y → SettlesOnce layout x.node x y result y.picked
settles-once tells obeys layout result x y so unsettled f = record {
  unsettled = unsettled;
  counts = f.counts;
  timed = f.goes.timed so;
  only = f.only;
  last = f.last;
  told = f.told so;
  work = f.work;
  found = f.picked;
  more = f.more;
  kept = f.kept so;
  stands = subst (λ n. LeavesKept layout n y.more y.kept y.work y.disk.told) f.goes.node (f.goes.stands so);
  moments = f.moments so;
}

pub advances-once : (tells obeys : Bool) (layout : Layout) (result : Result Progress StoreRefusal) (x y : Seen) → IsTrue tells
    → IsTrue (is_busy x.work)
    → Advances tells obeys layout result x y → AdvancesOnce layout x.node x y result
advances-once tells obeys layout result x y so busy f = record {
  busy = busy;
  counts = f.counts;
  timed = f.goes.timed so;
  only = f.only;
  last = f.last;
  told = f.told so;
  work = f.work;
  more = f.more;
  kept = f.kept so;
  stands = subst (λ n. LeavesKept layout n y.more y.kept y.work y.disk.told) f.goes.node (f.goes.stands so);
  moments = f.moments so;
}

-- a whole settling
pub record SettlesWhole {T : Type 0} (layout : Layout) (n : ℕ) (x y : Seen) (result : Result T StoreRefusal)
    (pick : Option Pick) : Type 0 where
  pub ran : Ran (settling_calls x.work) 0 result x.disk.counts y.disk.counts
  pub order : CallsTold (settling_of x.work) x.disk.told y.disk.told (end_of_store result)
  pub timed : Timed x.disk.counts.clock x.disk.told y.disk.counts.clock y.disk.told
  pub only : IfErr result IsDiskRefusal
  pub refused : OnErr result (IsTrue (is_unsettled x.work))
  pub found : is_some pick ≡ (is_ok result && is_unsettled x.work)
  pub work : y.work ≡ work_settled pick x.work
  pub more : y.more ≡ x.more
  pub kept : y.kept ≡ settled pick x.work x.kept
  pub stands : LeavesKept layout n y.more y.kept y.work y.disk.told
  pub moments : StandsThrough layout n x.more x.kept (changes_in (doubt_in x.work)) x.disk.told y.disk.told

pub settles-whole : (tells obeys : Bool) (layout : Layout) (result : Result (Unit {0}) StoreRefusal) (x y : Seen) → IsTrue tells
    → Settled tells obeys layout result x y → SettlesWhole layout x.node x y result y.picked
settles-whole tells obeys layout result x y so f = record {
  ran = f.ran;
  order = f.order so;
  timed = f.goes.timed so;
  only = f.only;
  refused = f.refused;
  found = f.picked;
  work = f.work;
  more = f.more;
  kept = f.kept so;
  stands = subst (λ n. LeavesKept layout n y.more y.kept y.work y.disk.told) f.goes.node (f.goes.stands so);
  moments = f.moments so;
}

-- a read
pub record ReadsOnce (layout : Layout) (n : ℕ) (x y : Seen) : Type 0 where
  pub calls : List DiskCall
  pub ended : End
  pub size : y.disk.counts.size ≡ x.disk.counts.size
  pub timed : Timed x.disk.counts.clock x.disk.told y.disk.counts.clock y.disk.told
  pub told : CallsTold calls x.disk.told y.disk.told ended
  pub found : Option Pick
  pub work : y.work ≡ work_settled found x.work
  pub kept : y.kept ≡ settled found x.work x.kept
  pub more : y.more ≡ x.more
  pub stands : LeavesKept layout n y.more y.kept y.work y.disk.told
  pub moments : StandsThrough layout n x.more x.kept (changes_in (doubt_in x.work)) x.disk.told y.disk.told

pub reads-once : (tells obeys : Bool) (layout : Layout) (uid : Uid) (result : Result (Option (List ℕ)) StoreRefusal) (x y : Seen)
    → IsTrue tells
    → Gets tells obeys layout uid result x y → ReadsOnce layout x.node x y
reads-once tells obeys layout uid result x y so f = record {
  calls = reads_due x.work f.calls result;
  ended = end_of_store result;
  size = f.ran.counts.size;
  timed = f.goes.timed so;
  told = f.order so;
  found = y.picked;
  work = f.work;
  kept = f.kept so;
  more = f.more;
  stands = subst (λ n. LeavesKept layout n y.more y.kept y.work y.disk.told) f.goes.node (f.goes.stands so);
  moments = f.moments so;
}
