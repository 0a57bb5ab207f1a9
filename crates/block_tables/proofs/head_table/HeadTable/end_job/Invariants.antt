use Rattle.std.proofs.Common.{length}
use Rattle.block_tables.proofs.Listing.{members_of}
use Rattle.block_tables.proofs.Ending.{Ending}
use Rattle.block_tables.proofs.head_table.HeadTable.end_job.Given as goal

abbrev pub invariant-loop-number : goal.invariant-loop-number
invariant-loop-number l = Ending l.fn.self l.self

abbrev pub decreases-loop-number : goal.decreases-loop-number
decreases-loop-number l = length (members_of l.self.lone)
