use Rattle.std.proofs.Common.{ap, arith}
use Rattle.std.proofs.lemmas.List.{drop_all}
use Rattle.runs.specs.Room.{entries_in}
use Rattle.runs.proofs.Asked.{entries-at}
use Rattle.world_tests.proofs.script_steps.have_numbers.Goals as goal

pub loop-command-preserved : goal.loop-command-preserved
loop-command-preserved g c = omega (
  arith,
  c.loop-command.invariant,
  c.entries-needed.ensures,
  c.if-needed-left.false,
  entries-at c.args.commands.now c.loop-command.command-index c.command-item.result c.loop-command-test.true c.command-item.is,
)

pub returns : goal.returns
returns g c = λ _. omega (
  arith,
  c.if-calls_asked-gt1000000.false,
  c.calls_asked.ensures,
  c.loop-command.invariant,
  ap entries_in (drop_all c.loop-command.command-index c.args.commands.now c.loop-command-test.false),
)
