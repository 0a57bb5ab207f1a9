use Rattle.epl_values.proofs.Operands.{equal_is, different_is}
use Rattle.epl_values.proofs.operator.of_both.Goals as goal

pub returns-in-Equal : goal.returns-in-Equal
returns-in-Equal c = equal_is c.args.operator c.args.a c.args.b c.equal.result c.in-Equal.is c.equal.ensures

pub returns-in-Different : goal.returns-in-Different
returns-in-Different c =
    different_is c.args.operator c.args.a c.args.b c.equal-in-Different.result c.in-Different.is c.equal-in-Different.ensures
