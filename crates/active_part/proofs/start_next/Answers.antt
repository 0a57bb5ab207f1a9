use Rattle.eden_model.specs.Crew.{Invocation, startable}
use Rattle.coordinator.specs.declared.parts.Started.{Started}
use Rattle.active_part.proofs.Tasks.{none-starts, started-next}
use Rattle.active_part.proofs.start_next.Goals as goal

pub returns-in-Ok-Some-clause-started : goal.returns-in-Ok-Some-clause-started
returns-in-Ok-Some-clause-started c =
    let made = c.in-Ok-Some.ensures in
    started-next c.args.crew.now c.start.new.self c.in-Ok-Some.field-0 c.in-Ok-Some.started c.in-Ok-Some.field-0-is made.call made.process
    made.after

pub unreachable-requires : goal.unreachable-requires
unreachable-requires c =
    none-starts (λ (s : Started). s.call) (λ (i : Invocation). i.call) c.in-Ok-None.field-0
    (startable c.args.crew.now.crew c.args.crew.now.queued) c.in-Ok-None.field-0-is c.in-Ok-None.ensures.call c.requires.may
