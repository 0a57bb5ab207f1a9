use Rattle.std.proofs.Common.{arith}
use Rattle.epl_syntax.proofs.Leading.{number_past}
use Rattle.epl_syntax.proofs.lexer.number.Goals as goal

pub returns-then-value : goal.returns-then-value
returns-then-value c =
    number_past c.args.digits.now c.loop-d.d-index c.loop-d.value c.loop-d-test.true c.loop-d.invariant.so_far (omega arith)
