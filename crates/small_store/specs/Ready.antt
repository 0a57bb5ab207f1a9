-- Between two commands a store has power, works on nothing, and is that of node 1.
use Rattle.std.specs.Prelude.{◌≡◌, IsTrue}
use Rattle.passive_store.specs.Kept.{Idle}
use Rattle.passive_store.specs.Seen.{Seen}

-- a store over a disk that has power, with no change under way or in doubt
pub record IsReady (s : Seen) : Type 0 where
  pub power : IsTrue s.disk.counts.power
  pub idle : s.work ≡ Idle
  pub node : s.node ≡ 1
