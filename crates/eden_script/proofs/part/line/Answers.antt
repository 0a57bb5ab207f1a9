use Rattle.std.proofs.Common.{rules}
use Rattle.eden_script.specs.View.{seen_of, line_of}
use Rattle.eden_script.proofs.PartLaws.{line_said, line_cause}
use Rattle.eden_script.proofs.part.line.Goals as goal

pub returns-in-Ok : goal.returns-in-Ok
returns-in-Ok c = line_said (seen_of c.args.seen.now) c.args.bytes.now (line_of c.in-Ok.said) (search rules)

pub returns-in-Err-Bad : goal.returns-in-Err-Bad
returns-in-Err-Bad c = line_cause (seen_of c.args.seen.now) c.args.bytes.now c.in-Err-Bad.cause (search rules)
