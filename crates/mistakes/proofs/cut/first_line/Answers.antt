use Rattle.script_words.proofs.Lines.{line_taken, line_last}
use Rattle.script_words.proofs.Cutting.{first_taken, first_last}
use Rattle.mistakes.proofs.cut.first_line.Goals as goal

pub returns-then-n-bytes-clause-line : goal.returns-then-n-bytes-clause-line
returns-then-n-bytes-clause-line c = line_taken c.args.bytes.now c.line_length-n.result c.requires c.line_length-n.ensures

pub returns-then-n-bytes-clause-first : goal.returns-then-n-bytes-clause-first
returns-then-n-bytes-clause-first c = first_taken c.args.bytes.now c.line_length-n.result c.line_length-n.ensures c.if-n-bytes.true

pub returns-else-n-bytes-clause-line : goal.returns-else-n-bytes-clause-line
returns-else-n-bytes-clause-line c = line_last c.args.bytes.now c.line_length-n.result c.requires c.line_length-n.ensures c.if-n-bytes.false

pub returns-else-n-bytes-clause-first : goal.returns-else-n-bytes-clause-first
returns-else-n-bytes-clause-first c = first_last c.args.bytes.now c.line_length-n.result c.line_length-n.ensures c.if-n-bytes.false
