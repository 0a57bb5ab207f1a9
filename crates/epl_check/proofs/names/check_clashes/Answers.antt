use Rattle.std.proofs.Common.{sym, map}
use Rattle.epl_check.proofs.Doubled.{past_clashes}
use Rattle.epl_check.proofs.names.check_clashes.Goals as goal

pub returns-then-is_past : goal.returns-then-is_past
returns-then-is_past g c = past_clashes c.args.first.now c.args.name.now (map g.T.Named.named c.args.others.now) (sym c.if-is_past.ensures)
