use Rattle.std.proofs.Common.{ap, length, Err}
use Rattle.eden_move.proofs.Recorded.{read-spelled, read-fits, none-spelled, none-long, not-long}
use Rattle.eden_move.proofs.record.record_of.Goals as goal

pub returns-in-Ok-clause-read : goal.returns-in-Ok-clause-read
returns-in-Ok-clause-read c = read-spelled c.args.bytes.now c.in-Ok.rep c.record_of_rep.result
    (not-long (length c.args.bytes.now) (λ l. absurd (let e = c.in-Ok.ensures.too_large.1 l in cc e))) c.in-Ok.ensures.ok
    c.record_of_rep.ensures

pub returns-in-Ok-clause-fits : goal.returns-in-Ok-clause-fits
returns-in-Ok-clause-fits c = read-fits c.in-Ok.rep c.record_of_rep.result c.in-Ok.ensures.form c.record_of_rep.ensures

pub returns-in-Err-TooLarge-clause-read : goal.returns-in-Err-TooLarge-clause-read
returns-in-Err-TooLarge-clause-read c = none-long c.args.bytes.now
    (c.in-Err-TooLarge.ensures.too_large.0 (ap Err c.in-Err-TooLarge.field-0-is))

pub returns-in-Err-NotRep-clause-read : goal.returns-in-Err-NotRep-clause-read
returns-in-Err-NotRep-clause-read c = none-spelled c.args.bytes.now
    (c.in-Err-NotRep.ensures.not_rep c.in-Err-NotRep.field-0-0 (ap Err c.in-Err-NotRep.field-0-is)).no_spelling
