use Rattle.block_tables.proofs.Listing.{fewer_members}
use Rattle.block_tables.proofs.head_table.HeadTable.end_job.Goals as goal

pub loop-number-smaller : goal.loop-number-smaller
loop-number-smaller c =
    fewer_members c.loop-number.self.lone c.remove.new.self c.in-Some.number c.remove.ensures.long c.in-Some.ensures.0
    c.in-Some.ensures.1 c.remove.ensures.members
