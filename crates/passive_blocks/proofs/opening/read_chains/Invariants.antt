use Rattle.std.proofs.Common.{◌≡◌}
use Rattle.block_tables.specs.HeadState.{heads_in}
use Rattle.passive_blocks.proofs.OpeningLinked.{Linking}
use Rattle.passive_blocks.proofs.opening.read_chains.Given as goal

abbrev pub invariant-loop-number : goal.invariant-loop-number
invariant-loop-number g l = record {
  heads : l.table.heads ≡ l.fn.table.heads;
  links : Linking g.D.Disk.tells g.D.Disk.obeys (g.D.Disk.told l.fn.disk) (g.D.Disk.told l.disk) (g.D.Disk.counts l.fn.disk)
      (g.D.Disk.counts l.disk) (g.D.Disk.due l.fn.disk) (g.D.Disk.due l.disk) (heads_in l.fn.table.heads.slots.items) l.table l.number;
  size : l.table.blocks.size ≡ l.fn.table.blocks.size;
}
