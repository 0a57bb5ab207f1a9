use Rattle.std.proofs.Common.{◌≡◌, ap, arith, length}
use Rattle.journal.specs.Run.{components}
use Rattle.runs.specs.Room.{entries_of}
use Rattle.runs.proofs.Few.{components-few}
use Rattle.world_tests.proofs.script_steps.entries.Goals as goal

pub returns-in-Walk : goal.returns-in-Walk
returns-in-Walk c =
    let is : entries_of c.args.command.now ≡ length (components c.in-Walk.path) = ap entries_of c.in-Walk.is in
    omega (arith, is, components-few c.in-Walk.path, ap length c.as_slice.ensures)
