use Rattle.block_tables.proofs.Taking.{Taking}
use Rattle.block_tables.proofs.block_table.BlockTable.take_chain.Given as goal

abbrev pub invariant-loop : goal.invariant-loop
invariant-loop l = Taking l.fn.self l.self l.first l.last l.counter
