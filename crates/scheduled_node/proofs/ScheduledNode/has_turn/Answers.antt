use Rattle.std.proofs.Common.{arith}
use Rattle.scheduled_node.proofs.ScheduledNode.has_turn.Goals as goal

pub returns-in-2 : goal.returns-in-2
returns-in-2 g c = λ ts. let is = c.in-2.is in (
  λ yes. record {
    kind = (omega (arith, is), omega (arith, is));
    delivery = λ other. absurd (omega (arith, is, other));
    activation = λ same. (c.may_activate.ensures ts).0 yes;
    start = λ other. absurd (omega (arith, is, other));
    process = λ other. absurd (omega (arith, is, other));
    store = λ other. absurd (omega (arith, is, other));
  },
  λ has. (c.may_activate.ensures ts).1 (has.activation is),
)

pub returns-in-3 : goal.returns-in-3
returns-in-3 g c = λ ts. let is = c.in-3.is in (
  λ yes. record {
    kind = (omega (arith, is), omega (arith, is));
    delivery = λ other. absurd (omega (arith, is, other));
    activation = λ other. absurd (omega (arith, is, other));
    start = λ same. (c.may_start.ensures ts).0 yes;
    process = λ other. absurd (omega (arith, is, other));
    store = λ other. absurd (omega (arith, is, other));
  },
  λ has. (c.may_start.ensures ts).1 (has.start is),
)

pub returns-in-4 : goal.returns-in-4
returns-in-4 g c = λ ts. let is = c.in-4.is in (
  λ yes. record {
    kind = (omega (arith, is), omega (arith, is));
    delivery = λ other. absurd (omega (arith, is, other));
    activation = λ other. absurd (omega (arith, is, other));
    start = λ other. absurd (omega (arith, is, other));
    process = λ same. (c.may_process.ensures ts).0 yes;
    store = λ other. absurd (omega (arith, is, other));
  },
  λ has. (c.may_process.ensures ts).1 (has.process is),
)
