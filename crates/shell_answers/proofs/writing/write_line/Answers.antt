use Rattle.std.proofs.Common.{rules}
use Rattle.shell_answers.specs.Answers.{writing}
use Rattle.shell_answers.specs.Outcomes.{line_of}
use Rattle.shell_answers.proofs.Delivered.{wrote-whole}
use Rattle.shell_answers.proofs.writing.write_line.Goals as goal

pub returns-in-Ok-clause-delivers : goal.returns-in-Ok-clause-delivers
returns-in-Ok-clause-delivers g c = wrote-whole (writing g.K.Sink.written g.K.Sink.faults c.args.sink.now c.write_all.new.sink)
    c.args.due (line_of c.args.due)
    c.requires (search rules)
