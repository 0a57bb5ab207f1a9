use Rattle.std.proofs.Common.{◌∙◌, sym}
use Rattle.journal.specs.Ejects.{on_active}
use Rattle.journal.specs.Processes.{answers, serving, without_process}
use Rattle.plain_calls.specs.View.{traffic_of}
use Rattle.plain_sites.proofs.Turning.{answers-none, answers-some, return-none, return-some, returned-as}
use Rattle.plain_sites.proofs.effects.returns.Goals as goal

pub returns-in_ok-send_results-in-Some-clause-shows : goal.returns-in_ok-send_results-in-Some-clause-shows
returns-in_ok-send_results-in-Some-clause-shows c ts e it h = return-some (serving it c.args.process) c.in-Some.call
    (sym c.in-Some.is ∙ c.end_at.ensures.served ts e it h)

pub returns-in_ok-send_results-in-Some-clause-changes : goal.returns-in_ok-send_results-in-Some-clause-changes
returns-in_ok-send_results-in-Some-clause-changes c ts e it h = returned-as ts c.args.node.now (traffic_of c.args.calls.now) _ c.args.uid
    (on_active (without_process c.args.process)) (answers (serving it c.args.process) c.args.results) _ (c.end_at.ensures.after ts e it h)
    (c.in_ok-send_results-in-Some.ensures ∙ answers-some (serving it c.args.process) c.in-Some.call c.args.results
    (traffic_of c.args.calls.now) (sym c.in-Some.is ∙ c.end_at.ensures.served ts e it h))

pub returns-in-None-clause-shows : goal.returns-in-None-clause-shows
returns-in-None-clause-shows c ts e it h = return-none (serving it c.args.process)
    (sym c.in-None.is ∙ c.end_at.ensures.served ts e it h)

pub returns-in-None-clause-changes : goal.returns-in-None-clause-changes
returns-in-None-clause-changes c ts e it h = returned-as ts c.args.node.now (traffic_of c.args.calls.now) _ c.args.uid
    (on_active (without_process c.args.process)) (answers (serving it c.args.process) c.args.results) _ (c.end_at.ensures.after ts e it h)
    (answers-none (serving it c.args.process) c.args.results (traffic_of c.args.calls.now)
    (sym c.in-None.is ∙ c.end_at.ensures.served ts e it h))
