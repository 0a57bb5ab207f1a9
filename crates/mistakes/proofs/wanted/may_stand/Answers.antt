use Rattle.std.proofs.Common.{rules}
use Rattle.epl_syntax.specs.Tree.{type_tree}
use Rattle.mistakes.proofs.Sifting.{taken, decided_bad, decided_deep}
use Rattle.mistakes.proofs.wanted.may_stand.Goals as goal

pub returns-in-Ok : goal.returns-in-Ok
returns-in-Ok c =
    taken c.refusals_are_one.ensures.never_both c.args.before.now c.args.word.now c.deref.result.now (type_tree c.in-Ok.field-0)
    (search rules) c.in-Ok.ensures.answers

pub returns-in-Err-BadToken : goal.returns-in-Err-BadToken
returns-in-Err-BadToken c =
    decided_bad c.refusals_are_one.ensures.one_place c.args.before.now c.args.word.now c.deref.result.now c.len.result
    c.in-Err-BadToken.place c.in-Err-BadToken.field-0 (search rules) (search rules) (search rules) c.in-Err-BadToken.ensures.answers

pub returns-in-Err-TooDeep : goal.returns-in-Err-TooDeep
returns-in-Err-TooDeep c =
    decided_deep c.refusals_are_one.ensures.one_place c.args.before.now c.args.word.now c.deref.result.now c.len-in-Err-TooDeep.result
    c.in-Err-TooDeep.place c.in-Err-TooDeep.field-0 (search rules) (search rules) (search rules) c.in-Err-TooDeep.ensures.answers
