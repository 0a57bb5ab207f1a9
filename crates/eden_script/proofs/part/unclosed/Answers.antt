use Rattle.std.proofs.Common.{rules}
use Rattle.script_words.specs.Lines.{lines_of}
use Rattle.eden_script.specs.View.{seen_of, place_of}
use Rattle.eden_script.proofs.FlawLaws.{unclosed_cause, unclosed_said}
use Rattle.eden_script.proofs.part.unclosed.Goals as goal

pub returns-in-Some : goal.returns-in-Some
returns-in-Some c = unclosed_cause (seen_of c.args.seen.now) (lines_of c.args.bytes.now) (place_of c.in-Some.at) (search rules)

pub returns-in-None : goal.returns-in-None
returns-in-None c = unclosed_said (seen_of c.args.seen.now) (lines_of c.args.bytes.now) (search rules)
