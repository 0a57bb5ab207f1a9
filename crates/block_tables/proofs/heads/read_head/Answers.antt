use Rattle.std.proofs.Common.{ap, sym, ◌∙◌}
use Rattle.block_tables.specs.Blocks.{Head}
use Rattle.block_tables.proofs.OpenHeads.{good_head}
use Rattle.eden_disk.proofs.Timed.{timed_read}
use Rattle.block_tables.proofs.heads.read_head.Goals as goal

pub returns-in_err-read-clause-timed : goal.returns-in_err-read-clause-timed
returns-in_err-read-clause-timed g c = λ tells. timed_read (g.D.Disk.counts c.args.disk.now).clock (g.D.Disk.counts c.read.new.self).clock
    (g.D.Disk.told c.args.disk.now) (g.D.Disk.told c.read.new.self) _ c.read.ensures.counts.clock (c.read.ensures.told tells)

pub returns-then-is_good-clause-fields : goal.returns-then-is_good-clause-fields
returns-then-is_good-clause-fields g c =
    good_head c.args.node c.size-size.result c.args.number c.read.new.out c.fields_in-head.result
    (ap (λ (h : Head). h.number) c.fields_in-head.ensures) (sym c.is_good.ensures ∙ c.if-is_good.true)
