use Rattle.std.proofs.Common.{inl, refl}
use Rattle.passive_store.specs.Seen.{disk_seen}
use Rattle.shell_answers.specs.declared.outcome.Outcome.TheVariants.{OutOfMemory}
use Rattle.shell_answers.proofs.Answering.{refused, delivered, wired, complete}
use Rattle.eden_shell.proofs.Carrying.{untouched}
use Rattle.eden_shell.proofs.Called.{asked-fit, given-back, concluded-in, moved-nodes, moved-so, twins-reach, twinned-so}
use Rattle.eden_shell.proofs.shell.eden.Goals as goal

pub returns-in-Err-clause-answers : goal.returns-in-Err-clause-answers
returns-in-Err-clause-answers g c = refused _ c.refuse-in-Err.result.history
    c.refuse-in-Err.result.further (c.refuse-in-Err.ensures.history, c.refuse-in-Err.ensures.further)
    (untouched g.D.Disk.obeys (disk_seen g.D.Disk.counts g.D.Disk.told g.D.Disk.due) c.args.disks.now.items) c.in-Err.outcome
    c.refuse-in-Err.result.outcome c.in-Err.ensures.refuses c.refuse-in-Err.ensures.delivers c.refuse-in-Err.ensures.nothing c.refuse-in-Err.ensures.memory

pub returns-in-Err-clause-complete : goal.returns-in-Err-clause-complete
returns-in-Err-clause-complete g c task bytes asks spells left few reads writes =
    complete _ bytes (c.one_reading.ensures bytes) c.scripts_are_one.ensures left c.refuse-in-Err.result.history c.refuse-in-Err.result.further
    task asks spells few reads writes c.refuse-in-Err.result.outcome (returns-in-Err-clause-answers g c)

pub returns-in-Ok-clause-answers : goal.returns-in-Ok-clause-answers
returns-in-Ok-clause-answers g c = concluded-in _ c.in-Ok-History.job c.in-Ok-History.script
    c.in-Ok.carried.history c.in-Ok.carried.whole c.conclude.result.further c.conclude.ensures.further (rw c.in-Ok-History.field-0-is at c.in-Ok-History.ensures.asked) c.in-Ok.ensures.carried
    c.mode_of.result c.conclude.result.history c.mode_of.ensures c.conclude.ensures.history c.conclude.result.outcome
    c.conclude.ensures.delivers c.conclude.ensures.short c.conclude.ensures.part

pub returns-in-Err-carry_script-clause-answers : goal.returns-in-Err-carry_script-clause-answers
returns-in-Err-carry_script-clause-answers g c = refused _ c.refuse.result.history
    c.refuse.result.further (c.refuse.ensures.history, c.refuse.ensures.further)
    (given-back g.D.Disk.obeys (disk_seen g.D.Disk.counts g.D.Disk.told g.D.Disk.due) c.args.disks.now.items c.carry_script.new.disks.items
    c.in-Err-carry_script.ensures.untouched) OutOfMemory c.refuse.result.outcome (inl refl)
    c.refuse.ensures.delivers c.refuse.ensures.nothing c.refuse.ensures.memory

pub returns-in-Ok-Wire-clause-answers : goal.returns-in-Ok-Wire-clause-answers
returns-in-Ok-Wire-clause-answers g c = delivered _ c.deliver.result.history c.deliver.result.further _
    (wired _ c.deliver.result.history c.deliver.result.further _ (c.deliver.ensures.history, c.deliver.ensures.further)
    (untouched g.D.Disk.obeys (disk_seen g.D.Disk.counts g.D.Disk.told g.D.Disk.due) c.args.disks.now.items)
    (rw c.in-Ok-Wire.field-0-is at c.in-Ok-Wire.ensures.asked))
    c.deliver.result.outcome c.deliver.ensures.memory (rw c.deref.ensures.value at c.deliver.ensures.delivers)

pub returns-in-Ok-Move-clause-answers : goal.returns-in-Ok-Move-clause-answers
returns-in-Ok-Move-clause-answers g c = moved-so _ c.tell_moves.result.history _ _
    (rw c.in-Ok-Move.field-0-is at c.in-Ok-Move.ensures.asked) c.tell_moves.ensures.history c.tell_moves.result.outcome
    c.tell_moves.result.further c.tell_moves.ensures.moved

pub tell_moves-requires-clause-nodes : goal.tell_moves-requires-clause-nodes
tell_moves-requires-clause-nodes g c = (moved-nodes _ _ _ _ (rw c.in-Ok-Move.field-0-is at c.in-Ok-Move.ensures.asked)).0

pub tell_moves-requires-clause-reach : goal.tell_moves-requires-clause-reach
tell_moves-requires-clause-reach g c = (moved-nodes _ _ _ _ (rw c.in-Ok-Move.field-0-is at c.in-Ok-Move.ensures.asked)).1

pub carry_script-requires-clause-fit : goal.carry_script-requires-clause-fit
carry_script-requires-clause-fit g c =
    asked-fit _ _ c.in-Ok-History.job c.in-Ok-History.script (rw c.in-Ok-History.field-0-is at c.in-Ok-History.ensures.asked) c.a_script_is_fit.ensures.fit

pub returns-in-Ok-Twin-clause-answers : goal.returns-in-Ok-Twin-clause-answers
returns-in-Ok-Twin-clause-answers g c = twinned-so _ c.tell_twins.result.history _
    (rw c.in-Ok-Twin.field-0-is at c.in-Ok-Twin.ensures.asked) c.tell_twins.ensures.history c.tell_twins.result.outcome
    c.tell_twins.result.further c.tell_twins.ensures.twinned

pub tell_twins-requires-clause-reach : goal.tell_twins-requires-clause-reach
tell_twins-requires-clause-reach g c = twins-reach _ _ _ (rw c.in-Ok-Twin.field-0-is at c.in-Ok-Twin.ensures.asked)
