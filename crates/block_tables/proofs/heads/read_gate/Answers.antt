use Rattle.eden_disk.proofs.Timed.{timed_read}
use Rattle.block_tables.proofs.heads.read_gate.Goals as goal

pub returns-in_err-read-clause-timed : goal.returns-in_err-read-clause-timed
returns-in_err-read-clause-timed g c = λ tells. timed_read (g.D.Disk.counts c.args.disk.now).clock (g.D.Disk.counts c.read.new.self).clock
    (g.D.Disk.told c.args.disk.now) (g.D.Disk.told c.read.new.self) _ c.read.ensures.counts.clock (c.read.ensures.told tells)
