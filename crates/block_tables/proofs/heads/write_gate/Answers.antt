use Rattle.eden_disk.proofs.Timed.{timed_write}
use Rattle.block_tables.proofs.heads.write_gate.Goals as goal

pub returns-clause-timed : goal.returns-clause-timed
returns-clause-timed g c = λ tells. timed_write _ _ (g.D.Disk.counts c.args.disk.now) (g.D.Disk.counts c.write.new.self)
    (g.D.Disk.told c.args.disk.now) (g.D.Disk.told c.write.new.self) _ c.write.ensures.counts.clock (c.write.ensures.spent tells)
    (c.write.ensures.told tells)
