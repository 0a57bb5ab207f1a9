use Rattle.std.proofs.Common.{rules, ◌∙◌, ap, sym}
use Rattle.script_words.specs.Lines.{lines_of}
use Rattle.line_forms.specs.View.{kind_of, row_of}
use Rattle.line_forms.proofs.Spots.{slice_back, read_row}
use Rattle.line_forms.proofs.script.row_at.Goals as goal

pub returns-in-Ok-Does : goal.returns-in-Ok-Does
returns-in-Ok-Does c =
    λ r h. read_row (kind_of c.args.kind.now) c.args.bytes.now c.args.most c.args.spot r h c.requires.plain c.first_line.result.0.now
    (lines_of c.first_line.result.1.now) (row_of c.in-Ok-Does.row)
    (ap lines_of (sym (slice_back c.args.bytes.now c.args.spot)) ∙ c.first_line.ensures.line) (search rules)
