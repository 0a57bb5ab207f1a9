use Rattle.std.proofs.Common.{◌∙◌, ap, subst, sym}
use Rattle.std.proofs.lemmas.Result.{IfOk-weaker, on_ok_weaker}
use Rattle.epl_syntax.specs.declared.effect.Effect.TheVariants as effect
use Rattle.journal.specs.Processes.{CreatesKnown, effected, serving, shown_of}
use Rattle.journal.specs.FitTurns.{MayStep}
use Rattle.plain_calls.specs.View.{traffic_of}
use Rattle.plain_sites.specs.Turns.{come}
use Rattle.plain_sites.specs.View.{site_at}
use Rattle.plain_sites.proofs.effects.carry_out.Goals as goal

pub returns-in-Return-clause-shows : goal.returns-in-Return-clause-shows
returns-in-Return-clause-shows c =
    let s = site_at c.args.types.now c.args.node.now c.args.calls.now in
    IfOk-weaker c.returns.result _ _ (λ said told e it h. told c.args.types.now e it h.runs
    ∙ ap (shown_of s (serving it c.args.process)) (sym c.in-Return.is)) c.returns.ensures.shows

pub returns-in-Return-clause-changes : goal.returns-in-Return-clause-changes
returns-in-Return-clause-changes c =
    let s = site_at c.args.types.now c.args.node.now c.args.calls.now in
    on_ok_weaker c.returns.result (λ told reach e it reached h. told c.args.types.now e it h.runs
    ∙ ap (λ x. come reach c.args.uid c.args.process it x s) (sym c.in-Return.is)) c.returns.ensures.changes

pub returns-in-End-clause-shows : goal.returns-in-End-clause-shows
returns-in-End-clause-shows c e it h =
    let s = site_at c.args.types.now c.args.node.now c.args.calls.now in
    ap (shown_of s (serving it c.args.process)) (sym c.in-End.is)

pub returns-in_ok-checkpoints-in-Checkpoint-clause-shows : goal.returns-in_ok-checkpoints-in-Checkpoint-clause-shows
returns-in_ok-checkpoints-in-Checkpoint-clause-shows c e it h =
    let s = site_at c.args.types.now c.args.node.now c.args.calls.now in
    ap (shown_of s (serving it c.args.process)) (sym c.in-Checkpoint.is)

pub returns-in_ok-ask_store-in-Destroy-clause-shows : goal.returns-in_ok-ask_store-in-Destroy-clause-shows
returns-in_ok-ask_store-in-Destroy-clause-shows c e it h =
    let s = site_at c.args.types.now c.args.node.now c.args.calls.now in
    ap (shown_of s (serving it c.args.process)) (sym c.in-Destroy.is)

pub returns-in_ok-deactivates-in-Deactivate-clause-shows : goal.returns-in_ok-deactivates-in-Deactivate-clause-shows
returns-in_ok-deactivates-in-Deactivate-clause-shows c e it h =
    let s = site_at c.args.types.now c.args.node.now c.args.calls.now in
    ap (shown_of s (serving it c.args.process)) (sym c.in-Deactivate.is)

pub returns-in_ok-faults-in-Fault-clause-shows : goal.returns-in_ok-faults-in-Fault-clause-shows
returns-in_ok-faults-in-Fault-clause-shows c e it h =
    let s = site_at c.args.types.now c.args.node.now c.args.calls.now in
    ap (shown_of s (serving it c.args.process)) (sym c.in-Fault.is)

pub returns-in-Yield-clause-shows : goal.returns-in-Yield-clause-shows
returns-in-Yield-clause-shows c e it h =
    let s = site_at c.args.types.now c.args.node.now c.args.calls.now in
    ap (shown_of s (serving it c.args.process)) (sym c.in-Yield.is)

pub returns-in-End-clause-changes : goal.returns-in-End-clause-changes
returns-in-End-clause-changes c reach e it reached h =
    let s = site_at c.args.types.now c.args.node.now c.args.calls.now in
    c.ends.ensures c.args.types.now (traffic_of c.args.calls.now) e it h.runs
    ∙ ap (λ x. come reach c.args.uid c.args.process it x s) (sym c.in-End.is)

pub returns-in_ok-checkpoints-in-Checkpoint-clause-changes : goal.returns-in_ok-checkpoints-in-Checkpoint-clause-changes
returns-in_ok-checkpoints-in-Checkpoint-clause-changes c reach e it reached h =
    let s = site_at c.args.types.now c.args.node.now c.args.calls.now in
    c.in_ok-checkpoints-in-Checkpoint.ensures (traffic_of c.args.calls.now) e it h.runs
    ∙ ap (λ x. come reach c.args.uid c.args.process it x s) (sym c.in-Checkpoint.is)

pub returns-in_ok-ask_store-in-Destroy-clause-changes : goal.returns-in_ok-ask_store-in-Destroy-clause-changes
returns-in_ok-ask_store-in-Destroy-clause-changes c reach e it reached h =
    let s = site_at c.args.types.now c.args.node.now c.args.calls.now in
    c.in_ok-ask_store-in-Destroy.ensures c.args.types.now (traffic_of c.args.calls.now) e it h.runs
    ∙ ap (λ x. come reach c.args.uid c.args.process it x s) (sym c.in-Destroy.is)

pub returns-in_ok-deactivates-in-Deactivate-clause-changes : goal.returns-in_ok-deactivates-in-Deactivate-clause-changes
returns-in_ok-deactivates-in-Deactivate-clause-changes c reach e it reached h =
    let s = site_at c.args.types.now c.args.node.now c.args.calls.now in
    c.in_ok-deactivates-in-Deactivate.ensures c.args.types.now h.runs.in_order
    ∙ ap (λ x. come reach c.args.uid c.args.process it x s) (sym c.in-Deactivate.is)

pub returns-in_ok-faults-in-Fault-clause-changes : goal.returns-in_ok-faults-in-Fault-clause-changes
returns-in_ok-faults-in-Fault-clause-changes c reach e it reached h =
    let s = site_at c.args.types.now c.args.node.now c.args.calls.now in
    c.in_ok-faults-in-Fault.ensures c.args.types.now h.runs.in_order
    ∙ ap (λ x. come reach c.args.uid c.args.process it x s) (sym c.in-Fault.is)

pub returns-in-Yield-clause-changes : goal.returns-in-Yield-clause-changes
returns-in-Yield-clause-changes c reach e it reached h =
    let s = site_at c.args.types.now c.args.node.now c.args.calls.now in
    ap (λ x. come reach c.args.uid c.args.process it x s) (sym c.in-Yield.is)

pub returns-in-Create-clause-shows : goal.returns-in-Create-clause-shows
returns-in-Create-clause-shows c =
    let s = site_at c.args.types.now c.args.node.now c.args.calls.now in
    IfOk-weaker c.creates.result _ _ (λ said told e it h. told (traffic_of c.args.calls.now)
    (subst (CreatesKnown s.types) c.in-Create.is h.known)
    ∙ ap (shown_of s (serving it c.args.process)) (sym c.in-Create.is)) c.creates.ensures.shows

pub returns-in-Create-clause-changes : goal.returns-in-Create-clause-changes
returns-in-Create-clause-changes c =
    let s = site_at c.args.types.now c.args.node.now c.args.calls.now in
    on_ok_weaker c.creates.result (λ told reach e it reached h. told (traffic_of c.args.calls.now) e it h.runs h.is_new
    (subst (CreatesKnown s.types) c.in-Create.is h.known)
    ∙ ap (λ x. come reach c.args.uid c.args.process it x s) (sym c.in-Create.is)) c.creates.ensures.changes

pub returns-in-Invoke-clause-shows : goal.returns-in-Invoke-clause-shows
returns-in-Invoke-clause-shows c =
    let s = site_at c.args.types.now c.args.node.now c.args.calls.now in
    IfOk-weaker c.invokes.result _ _ (λ said told e it h. told ∙ ap (shown_of s (serving it c.args.process)) (sym c.in-Invoke.is))
    c.invokes.ensures.shows

pub returns-in-Invoke-clause-changes : goal.returns-in-Invoke-clause-changes
returns-in-Invoke-clause-changes c =
    let s = site_at c.args.types.now c.args.node.now c.args.calls.now in
    on_ok_weaker c.invokes.result (λ told reach e it reached h. told c.args.types.now e it h.runs
    ∙ (ap (λ b. effected (λ n. b) c.args.uid c.args.process (serving it c.args.process) it.kind it.vars
    (effect.Invoke c.in-Invoke.target c.in-Invoke.operation c.in-Invoke.args) s)
    (c.is_reached-reached.ensures ∙ sym (reached c.in-Invoke.target.uid.node))
    ∙ ap (λ x. come reach c.args.uid c.args.process it x s) (sym c.in-Invoke.is))) c.invokes.ensures.changes

pub returns-in-Lock-clause-shows : goal.returns-in-Lock-clause-shows
returns-in-Lock-clause-shows c e it h =
    let s = site_at c.args.types.now c.args.node.now c.args.calls.now in
    c.coordinates.ensures.shows ∙ ap (shown_of s (serving it c.args.process)) (sym c.in-Lock.is)

pub returns-in-Lock-clause-changes : goal.returns-in-Lock-clause-changes
returns-in-Lock-clause-changes c reach e it reached h =
    let s = site_at c.args.types.now c.args.node.now c.args.calls.now in
    c.coordinates.ensures.changes c.args.types.now (traffic_of c.args.calls.now) e it h.runs
    (subst (MayStep it.crew c.args.process) c.in-Lock.is h.may_step)
    ∙ ap (λ x. come reach c.args.uid c.args.process it x s) (sym c.in-Lock.is)

pub returns-in-Leave-clause-shows : goal.returns-in-Leave-clause-shows
returns-in-Leave-clause-shows c e it h =
    let s = site_at c.args.types.now c.args.node.now c.args.calls.now in
    c.coordinates-in-Leave.ensures.shows ∙ ap (shown_of s (serving it c.args.process)) (sym c.in-Leave.is)

pub returns-in-Leave-clause-changes : goal.returns-in-Leave-clause-changes
returns-in-Leave-clause-changes c reach e it reached h =
    let s = site_at c.args.types.now c.args.node.now c.args.calls.now in
    c.coordinates-in-Leave.ensures.changes c.args.types.now (traffic_of c.args.calls.now) e it h.runs
    (subst (MayStep it.crew c.args.process) c.in-Leave.is h.may_step)
    ∙ ap (λ x. come reach c.args.uid c.args.process it x s) (sym c.in-Leave.is)

pub returns-in-Wait-clause-shows : goal.returns-in-Wait-clause-shows
returns-in-Wait-clause-shows c e it h =
    let s = site_at c.args.types.now c.args.node.now c.args.calls.now in
    c.coordinates-in-Wait.ensures.shows ∙ ap (shown_of s (serving it c.args.process)) (sym c.in-Wait.is)

pub returns-in-Wait-clause-changes : goal.returns-in-Wait-clause-changes
returns-in-Wait-clause-changes c reach e it reached h =
    let s = site_at c.args.types.now c.args.node.now c.args.calls.now in
    c.coordinates-in-Wait.ensures.changes c.args.types.now (traffic_of c.args.calls.now) e it h.runs
    (subst (MayStep it.crew c.args.process) c.in-Wait.is h.may_step)
    ∙ ap (λ x. come reach c.args.uid c.args.process it x s) (sym c.in-Wait.is)

pub returns-in-Signal-clause-shows : goal.returns-in-Signal-clause-shows
returns-in-Signal-clause-shows c e it h =
    let s = site_at c.args.types.now c.args.node.now c.args.calls.now in
    c.coordinates-in-Signal.ensures.shows ∙ ap (shown_of s (serving it c.args.process)) (sym c.in-Signal.is)

pub returns-in-Signal-clause-changes : goal.returns-in-Signal-clause-changes
returns-in-Signal-clause-changes c reach e it reached h =
    let s = site_at c.args.types.now c.args.node.now c.args.calls.now in
    c.coordinates-in-Signal.ensures.changes c.args.types.now (traffic_of c.args.calls.now) e it h.runs
    (subst (MayStep it.crew c.args.process) c.in-Signal.is h.may_step)
    ∙ ap (λ x. come reach c.args.uid c.args.process it x s) (sym c.in-Signal.is)
