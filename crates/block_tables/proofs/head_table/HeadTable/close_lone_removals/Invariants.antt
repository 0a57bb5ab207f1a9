use Rattle.block_tables.proofs.Ending.{Joining}
use Rattle.block_tables.proofs.head_table.HeadTable.close_lone_removals.Given as goal

abbrev pub invariant-loop-number : goal.invariant-loop-number
invariant-loop-number l = Joining l.fn.self l.self l.number
