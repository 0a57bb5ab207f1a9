use Rattle.std.proofs.Common.{◌-◌, length}
use Rattle.grammar.proofs.FirstBad.{spelled_whole, bad_whole}
use Rattle.eden_codec.specs.Spells.{SpellsRep}
use Rattle.eden_codec.specs.Reading.{rep_at}
use Rattle.eden_codec.proofs.Whole.{rep_exact}
use Rattle.eden_codec.proofs.OneSpelling.{spelled_has_form}
use Rattle.eden_codec.proofs.NotRep.{same_place}
use Rattle.eden_codec.proofs.decode.decode_rep.Goals as goal

pub overflow_sub-result : goal.overflow_sub-result
overflow_sub-result c =
    (bad_whole SpellsRep rep_at rep_exact c.args.bytes.now c.in-Err-At.left (rw c.in-Err-At.field-0-is at c.in-Err-At.ensures)).0

pub returns-in-Ok-clause-ok : goal.returns-in-Ok-clause-ok
returns-in-Ok-clause-ok c = spelled_whole SpellsRep rep_at rep_exact c.args.bytes.now c.in-Ok.rep c.in-Ok.ensures

pub returns-in-Ok-clause-form : goal.returns-in-Ok-clause-form
returns-in-Ok-clause-form c = (spelled_has_form c.args.bytes.now c.in-Ok.rep
    (spelled_whole SpellsRep rep_at rep_exact c.args.bytes.now c.in-Ok.rep c.in-Ok.ensures)).0

pub returns-in-Err-At-clause-not_rep : goal.returns-in-Err-At-clause-not_rep
returns-in-Err-At-clause-not_rep c =
    same_place c.args.bytes.now (length c.args.bytes.now - c.in-Err-At.left)
    (bad_whole SpellsRep rep_at rep_exact c.args.bytes.now c.in-Err-At.left (rw c.in-Err-At.field-0-is at c.in-Err-At.ensures)).1
