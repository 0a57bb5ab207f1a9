use Rattle.std.proofs.Common.{◌≡◌, ◌<◌, ℕ, map, take, IsTrue}
use Rattle.std.specs.Prelude.{IfSome, slice_get}
use Rattle.passive_store.specs.Seen.{disk_seen}
use Rattle.eden_world.specs.Legal.{IsSized}
use Rattle.eden_shell.proofs.carry.wants_of.Given as goal

abbrev pub invariant-loop-disk : goal.invariant-loop-disk
invariant-loop-disk g l = record {
  wants : l.wants.items ≡ map (λ d. (g.D.Disk.counts d).wants) (take l.disk-index l.disks);
  sized : IsTrue g.D.Disk.tells → (m : ℕ) → m < l.disk-index
      → IfSome (slice_get l.disks m) (λ d. IsSized (disk_seen g.D.Disk.counts g.D.Disk.told g.D.Disk.due d));
}
