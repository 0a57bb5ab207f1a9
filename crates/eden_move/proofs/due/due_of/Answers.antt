use Rattle.std.proofs.Common.{subst, sym}
use Rattle.std.specs.Prelude.{IfOk}
use Rattle.eden_move.specs.Calls.{seen_call, AnswersFor}
use Rattle.eden_move.proofs.due.due_of.Goals as goal

pub returns-in-Make-clause-answers : goal.returns-in-Make-clause-answers
returns-in-Make-clause-answers c = subst (λ k. IfOk c.make_due.result (AnswersFor c.args.uid (seen_call k))) (sym c.in-Make.is)
    (c.make_due.ensures.answers c.args.uid)

pub returns-in-Wake-clause-answers : goal.returns-in-Wake-clause-answers
returns-in-Wake-clause-answers c = subst (λ k. IfOk c.wake_due.result (AnswersFor c.args.uid (seen_call k))) (sym c.in-Wake.is)
    (c.wake_due.ensures.answers c.args.uid)

pub returns-in-Save-clause-answers : goal.returns-in-Save-clause-answers
returns-in-Save-clause-answers c = subst (λ k. IfOk c.save_due.result (AnswersFor c.args.uid (seen_call k))) (sym c.in-Save.is)
    (c.save_due.ensures.answers c.args.uid)

pub returns-in-Lend-clause-answers : goal.returns-in-Lend-clause-answers
returns-in-Lend-clause-answers c = subst (λ k. IfOk c.lend_due.result (AnswersFor c.args.uid (seen_call k))) (sym c.in-Lend.is)
    c.lend_due.ensures.answers

pub returns-in-Take-clause-answers : goal.returns-in-Take-clause-answers
returns-in-Take-clause-answers c = subst (λ k. AnswersFor c.args.uid (seen_call k) c.take_due.result) (sym c.in-Take.is)
    c.take_due.ensures.answers

pub returns-in-Close-clause-answers : goal.returns-in-Close-clause-answers
returns-in-Close-clause-answers c = subst (λ k. AnswersFor c.args.uid (seen_call k) c.close_due.result) (sym c.in-Close.is)
    (c.close_due.ensures.answers c.args.uid c.in-Close.from)
