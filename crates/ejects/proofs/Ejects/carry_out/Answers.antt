use Rattle.std.proofs.Common.{refl}
use Rattle.std.proofs.lemmas.Result.{IfOk-weaker}
use Rattle.journal.specs.declared.event.Shown.TheVariants as shown
use Rattle.active_part.specs.declared.Step.TheVariants as step
use Rattle.epl_syntax.specs.declared.effect.Effect.TheVariants as effect
use Rattle.ejects.proofs.Askings.{asks-nothing, asks-by-fault, asks-by-sleep, asks-removal, asks-put}
use Rattle.ejects.proofs.Acting.{process-checkpoints, process-destroys, process-returns, process-invokes, process-faults, process-sleeps}
use Rattle.ejects.proofs.Acting.{process-ends, process-steps, process-yields}
use Rattle.ejects.proofs.CreatingTurns.{process-creates}
use Rattle.eden_model.specs.Crew.{Runs}
use Rattle.ejects.specs.View.{part_at, parts_of}
use Rattle.ejects.proofs.Active.{may-active}
use Rattle.std.proofs.lemmas.Result.{on_ok_weaker}
use Rattle.ejects.proofs.Counting.{any-on_ok, none-one}
use Rattle.ejects.proofs.Ejects.carry_out.Goals as goal

pub returns-in-Return-clause-parts : goal.returns-in-Return-clause-parts
returns-in-Return-clause-parts c = IfOk-weaker c.returns.result _ _ (λ said told reach n s sound at took kept reached ready.
    process-returns reach n (parts_of c.args.types.now c.args.self.now)
    (parts_of c.args.types.now c.returns.new.self) c.args.calls.now c.returns.new.calls s c.args.uid c.args.process
    said sound at
    c.args.effect c.in-Return.results took.runs took.turned
    c.in-Return.is (told c.args.types.now))
    c.returns.ensures.returned

pub returns-in-Invoke-clause-parts : goal.returns-in-Invoke-clause-parts
returns-in-Invoke-clause-parts c = IfOk-weaker c.invokes.result _ _ (λ said told reach n s sound at took kept reached ready.
    process-invokes reach n (parts_of c.args.types.now c.args.self.now)
    (parts_of c.args.types.now c.invokes.new.self) c.args.calls.now c.invokes.new.calls s c.args.uid c.args.process
    said sound at
    c.args.places.now c.args.effect c.in-Invoke.target c.in-Invoke.operation c.in-Invoke.args reached
    took.runs took.turned c.in-Invoke.is
    (told c.args.types.now))
    c.invokes.ensures.invoked

pub returns-in_ok-faults-in-Fault-clause-parts : goal.returns-in_ok-faults-in-Fault-clause-parts
returns-in_ok-faults-in-Fault-clause-parts c reach n s sound at took kept reached ready =
    process-faults reach n (parts_of c.args.types.now c.args.self.now)
    (parts_of c.args.types.now c.faults.new.self) c.args.calls.now c.faults.new.calls s c.args.uid c.args.process
    (shown.Fault c.in-Fault.cause) sound at
    c.args.effect c.in-Fault.cause c.args.stays kept refl took.runs
    took.turned c.in-Fault.is (c.in_ok-faults-in-Fault.ensures.faulted c.args.types.now)

pub returns-in_ok-sleeps-in-Deactivate-clause-parts : goal.returns-in_ok-sleeps-in-Deactivate-clause-parts
returns-in_ok-sleeps-in-Deactivate-clause-parts c reach n s sound at took kept reached ready =
    process-sleeps reach n (parts_of c.args.types.now c.args.self.now)
    (parts_of c.args.types.now c.sleeps.new.self)
    c.args.calls.now c.sleeps.new.calls s c.args.uid c.args.process shown.Deactivate sound at c.args.effect c.args.stays kept refl
    took.runs took.turned c.in-Deactivate.is
    (c.in_ok-sleeps-in-Deactivate.ensures.slept c.args.types.now)

pub returns-in-End-clause-parts : goal.returns-in-End-clause-parts
returns-in-End-clause-parts c reach n s sound at took kept reached ready =
    process-ends reach n (parts_of c.args.types.now c.args.self.now)
    (parts_of c.args.types.now c.end_at-served.new.self)
    c.args.calls.now c.args.calls.now s c.args.uid c.args.process shown.End sound at c.args.effect refl
    took.runs took.turned c.in-End.is
    (λ b is. (c.end_at-served.ensures c.args.types.now b is).1) at.calls

pub returns-in-Lock-clause-parts : goal.returns-in-Lock-clause-parts
returns-in-Lock-clause-parts c reach n s sound at took kept reached may =
    process-steps reach n (parts_of c.args.types.now c.args.self.now)
    (parts_of c.args.types.now c.coordinates.new.self)
    c.args.calls.now c.args.calls.now s c.args.uid c.args.process c.coordinates.result sound at c.args.effect
    (step.Lock c.in-Lock.monitor) c.coordinates.ensures.shown
    took.runs took.turned c.in-Lock.is
    (c.coordinates.ensures.parts c.args.types.now) at.calls may.turns

pub returns-in-Leave-clause-parts : goal.returns-in-Leave-clause-parts
returns-in-Leave-clause-parts c reach n s sound at took kept reached may =
    process-steps reach n (parts_of c.args.types.now c.args.self.now)
    (parts_of c.args.types.now c.coordinates-in-Leave.new.self)
    c.args.calls.now c.args.calls.now s c.args.uid c.args.process c.coordinates-in-Leave.result sound at c.args.effect
    (step.Leave c.in-Leave.monitor) c.coordinates-in-Leave.ensures.shown
    took.runs took.turned c.in-Leave.is
    (c.coordinates-in-Leave.ensures.parts c.args.types.now) at.calls may.turns

pub returns-in-Wait-clause-parts : goal.returns-in-Wait-clause-parts
returns-in-Wait-clause-parts c reach n s sound at took kept reached may =
    process-steps reach n (parts_of c.args.types.now c.args.self.now)
    (parts_of c.args.types.now c.coordinates-in-Wait.new.self)
    c.args.calls.now c.args.calls.now s c.args.uid c.args.process c.coordinates-in-Wait.result sound at c.args.effect
    (step.Wait c.in-Wait.condition) c.coordinates-in-Wait.ensures.shown
    took.runs took.turned c.in-Wait.is
    (c.coordinates-in-Wait.ensures.parts c.args.types.now) at.calls may.turns

pub returns-in-Signal-clause-parts : goal.returns-in-Signal-clause-parts
returns-in-Signal-clause-parts c reach n s sound at took kept reached may =
    process-steps reach n (parts_of c.args.types.now c.args.self.now)
    (parts_of c.args.types.now c.coordinates-in-Signal.new.self)
    c.args.calls.now c.args.calls.now s c.args.uid c.args.process c.coordinates-in-Signal.result sound at c.args.effect
    (step.Signal c.in-Signal.condition) c.coordinates-in-Signal.ensures.shown
    took.runs took.turned c.in-Signal.is
    (c.coordinates-in-Signal.ensures.parts c.args.types.now) at.calls may.turns

pub returns-in-Yield-clause-parts : goal.returns-in-Yield-clause-parts
returns-in-Yield-clause-parts c reach n s sound at took kept reached ready =
    process-yields reach n (parts_of c.args.types.now c.args.self.now)
    (parts_of c.args.types.now c.args.self.now)
    c.args.calls.now c.args.calls.now s c.args.uid c.args.process shown.Yield sound at c.args.effect refl
    took.runs took.turned c.in-Yield.is refl at.calls

pub returns-in_ok-checkpoints-in-Checkpoint-clause-parts : goal.returns-in_ok-checkpoints-in-Checkpoint-clause-parts
returns-in_ok-checkpoints-in-Checkpoint-clause-parts c reach n s sound at took kept reached ready =
    process-checkpoints reach n (parts_of c.args.types.now c.args.self.now)
    (parts_of c.args.types.now c.checkpoints.new.self)
    c.args.calls.now c.args.calls.now s c.args.uid c.args.process shown.Checkpoint sound at c.args.effect refl
    took.runs took.turned c.in-Checkpoint.is
    c.in_ok-checkpoints-in-Checkpoint.ensures.parts at.calls

pub returns-in_ok-destroys-in-Destroy-clause-parts : goal.returns-in_ok-destroys-in-Destroy-clause-parts
returns-in_ok-destroys-in-Destroy-clause-parts c reach n s sound at took kept reached ready =
    process-destroys reach n (parts_of c.args.types.now c.args.self.now)
    (parts_of c.args.types.now c.destroys.new.self)
    c.args.calls.now c.args.calls.now s c.args.uid c.args.process shown.Destroy sound at c.args.effect refl
    took.runs took.turned c.in-Destroy.is
    (c.in_ok-destroys-in-Destroy.ensures.parts c.args.types.now) at.calls

pub returns-in-Return-clause-requests : goal.returns-in-Return-clause-requests
returns-in-Return-clause-requests c = IfOk-weaker c.returns.result _ _ (λ said told reach n s work size sound at took kept q.
    asks-nothing reach n (parts_of c.args.types.now c.args.self.now) c.args.calls.now s
    c.args.uid
    c.args.process sound at c.args.effect took.runs took.turned
    work size c.args.worker.now q c.args.worker.now.requests.items
    (effect.Return c.in-Return.results) tt c.in-Return.is refl)
    c.returns.ensures.returned

pub returns-in-Invoke-clause-requests : goal.returns-in-Invoke-clause-requests
returns-in-Invoke-clause-requests c = IfOk-weaker c.invokes.result _ _ (λ said told reach n s work size sound at took kept q.
    asks-nothing reach n (parts_of c.args.types.now c.args.self.now) c.args.calls.now s
    c.args.uid
    c.args.process sound at c.args.effect took.runs took.turned
    work size c.args.worker.now q c.args.worker.now.requests.items
    (effect.Invoke c.in-Invoke.target c.in-Invoke.operation c.in-Invoke.args) tt c.in-Invoke.is refl)
    c.invokes.ensures.invoked

pub returns-in-End-clause-requests : goal.returns-in-End-clause-requests
returns-in-End-clause-requests c reach n s work size sound at took kept q =
    asks-nothing reach n (parts_of c.args.types.now c.args.self.now) c.args.calls.now s
    c.args.uid
    c.args.process sound at c.args.effect took.runs took.turned
    work size c.args.worker.now q c.args.worker.now.requests.items
    (effect.End) tt c.in-End.is refl

pub returns-in-Lock-clause-requests : goal.returns-in-Lock-clause-requests
returns-in-Lock-clause-requests c reach n s work size sound at took kept q =
    asks-nothing reach n (parts_of c.args.types.now c.args.self.now) c.args.calls.now s
    c.args.uid
    c.args.process sound at c.args.effect took.runs took.turned
    work size c.args.worker.now q c.args.worker.now.requests.items
    (effect.Lock c.in-Lock.monitor) tt c.in-Lock.is refl

pub returns-in-Leave-clause-requests : goal.returns-in-Leave-clause-requests
returns-in-Leave-clause-requests c reach n s work size sound at took kept q =
    asks-nothing reach n (parts_of c.args.types.now c.args.self.now) c.args.calls.now s
    c.args.uid
    c.args.process sound at c.args.effect took.runs took.turned
    work size c.args.worker.now q c.args.worker.now.requests.items
    (effect.Leave c.in-Leave.monitor) tt c.in-Leave.is refl

pub returns-in-Wait-clause-requests : goal.returns-in-Wait-clause-requests
returns-in-Wait-clause-requests c reach n s work size sound at took kept q =
    asks-nothing reach n (parts_of c.args.types.now c.args.self.now) c.args.calls.now s
    c.args.uid
    c.args.process sound at c.args.effect took.runs took.turned
    work size c.args.worker.now q c.args.worker.now.requests.items
    (effect.Wait c.in-Wait.condition) tt c.in-Wait.is refl

pub returns-in-Signal-clause-requests : goal.returns-in-Signal-clause-requests
returns-in-Signal-clause-requests c reach n s work size sound at took kept q =
    asks-nothing reach n (parts_of c.args.types.now c.args.self.now) c.args.calls.now s
    c.args.uid
    c.args.process sound at c.args.effect took.runs took.turned
    work size c.args.worker.now q c.args.worker.now.requests.items
    (effect.Signal c.in-Signal.condition) tt c.in-Signal.is refl

pub returns-in-Yield-clause-requests : goal.returns-in-Yield-clause-requests
returns-in-Yield-clause-requests c reach n s work size sound at took kept q =
    asks-nothing reach n (parts_of c.args.types.now c.args.self.now) c.args.calls.now s
    c.args.uid
    c.args.process sound at c.args.effect took.runs took.turned
    work size c.args.worker.now q c.args.worker.now.requests.items
    (effect.Yield) tt c.in-Yield.is refl

pub returns-in_ok-faults-in-Fault-clause-requests : goal.returns-in_ok-faults-in-Fault-clause-requests
returns-in_ok-faults-in-Fault-clause-requests c reach n s work size sound at took kept q =
    asks-by-fault reach n (parts_of c.args.types.now c.args.self.now) c.args.calls.now s
    c.args.uid
    c.args.process sound at c.args.effect took.runs took.turned
    work size c.args.worker.now q c.drop_requests.new.self.requests.items
    c.args.stays c.in-Fault.cause kept c.in-Fault.is c.drop_requests.ensures.requests

pub returns-in_ok-sleeps-in-Deactivate-clause-requests : goal.returns-in_ok-sleeps-in-Deactivate-clause-requests
returns-in_ok-sleeps-in-Deactivate-clause-requests c reach n s work size sound at took kept q =
    asks-by-sleep reach n (parts_of c.args.types.now c.args.self.now) c.args.calls.now s
    c.args.uid
    c.args.process sound at c.args.effect took.runs took.turned
    work size c.args.worker.now q c.drop_requests-in-Deactivate.new.self.requests.items
    c.args.stays kept c.in-Deactivate.is c.drop_requests-in-Deactivate.ensures.requests

pub returns-in_ok-destroys-in-Destroy-clause-requests : goal.returns-in_ok-destroys-in-Destroy-clause-requests
returns-in_ok-destroys-in-Destroy-clause-requests c reach n s work size sound at took kept q =
    asks-removal reach n (parts_of c.args.types.now c.args.self.now) c.args.calls.now s
    c.args.uid
    c.args.process sound at c.args.effect took.runs took.turned
    work size c.args.worker.now q c.destroys.new.worker.requests.items
    c.in-Destroy.is c.in_ok-destroys-in-Destroy.ensures.requests

pub returns-in_ok-checkpoints-in-Checkpoint-clause-requests : goal.returns-in_ok-checkpoints-in-Checkpoint-clause-requests
returns-in_ok-checkpoints-in-Checkpoint-clause-requests c reach n s work size sound at took kept q =
    asks-put reach n (parts_of c.args.types.now c.args.self.now) c.args.calls.now s c.args.uid
    c.args.process sound at c.args.effect took.runs took.turned
    work size c.args.worker.now q c.checkpoints.new.worker.requests.items
    c.in-Checkpoint.is c.in_ok-checkpoints-in-Checkpoint.ensures.requests

pub returns-in_ok-faults-in-Fault-clause-of_node : goal.returns-in_ok-faults-in-Fault-clause-of_node
returns-in_ok-faults-in-Fault-clause-of_node c k eject all =
    c.drop_requests.ensures.of_node k all

pub returns-in_ok-sleeps-in-Deactivate-clause-of_node : goal.returns-in_ok-sleeps-in-Deactivate-clause-of_node
returns-in_ok-sleeps-in-Deactivate-clause-of_node c k eject all =
    c.drop_requests-in-Deactivate.ensures.of_node k all

pub returns-in_ok-faults-in-Fault-clause-answers : goal.returns-in_ok-faults-in-Fault-clause-answers
returns-in_ok-faults-in-Fault-clause-answers c all = c.drop_requests.ensures.answers all

pub returns-in_ok-sleeps-in-Deactivate-clause-answers : goal.returns-in_ok-sleeps-in-Deactivate-clause-answers
returns-in_ok-sleeps-in-Deactivate-clause-answers c all = c.drop_requests-in-Deactivate.ensures.answers all

pub returns-in-Create-clause-parts : goal.returns-in-Create-clause-parts
returns-in-Create-clause-parts c = IfOk-weaker c.creates.result _ _ (λ said told reach n s sound at took kept reached ready.
    process-creates reach n (parts_of c.args.types.now c.args.self.now)
    (parts_of c.args.types.now c.creates.new.self) c.args.calls.now c.args.calls.now s c.args.uid c.args.process
    said sound at c.args.effect c.in-Create.type_name ready
    took.runs took.turned c.in-Create.is
    told at.calls)
    c.creates.ensures

pub returns-in-Create-clause-requests : goal.returns-in-Create-clause-requests
returns-in-Create-clause-requests c = IfOk-weaker c.creates.result _ _ (λ said told reach n s work size sound at took kept q.
    asks-nothing reach n (parts_of c.args.types.now c.args.self.now) c.args.calls.now s
    c.args.uid
    c.args.process sound at c.args.effect took.runs took.turned
    work size c.args.worker.now q c.args.worker.now.requests.items
    (effect.Create c.in-Create.type_name) tt c.in-Create.is refl)
    c.creates.ensures

pub faults-requires : goal.faults-requires
faults-requires c = may-active (λ crew queued. Runs crew c.args.process) (part_at c.args.self.now c.args.uid) c.requires.runs

pub sleeps-requires : goal.sleeps-requires
sleeps-requires c = may-active (λ crew queued. Runs crew c.args.process) (part_at c.args.self.now c.args.uid) c.requires.runs

pub returns-in-Return-clause-asks : goal.returns-in-Return-clause-asks
returns-in-Return-clause-asks c = on_ok_weaker c.returns.result (none-one c.args.calls.now c.returns.new.calls) c.returns.ensures.asks

pub returns-in_ok-faults-in-Fault-clause-asks : goal.returns-in_ok-faults-in-Fault-clause-asks
returns-in_ok-faults-in-Fault-clause-asks c = none-one c.args.calls.now c.faults.new.calls c.in_ok-faults-in-Fault.ensures.asks

pub returns-in_ok-sleeps-in-Deactivate-clause-asks : goal.returns-in_ok-sleeps-in-Deactivate-clause-asks
returns-in_ok-sleeps-in-Deactivate-clause-asks c = none-one c.args.calls.now c.sleeps.new.calls c.in_ok-sleeps-in-Deactivate.ensures.asks

pub returns-in-End-clause-asks : goal.returns-in-End-clause-asks
returns-in-End-clause-asks c = none-one c.args.calls.now c.args.calls.now refl

pub returns-in-Lock-clause-asks : goal.returns-in-Lock-clause-asks
returns-in-Lock-clause-asks c = none-one c.args.calls.now c.args.calls.now refl

pub returns-in-Leave-clause-asks : goal.returns-in-Leave-clause-asks
returns-in-Leave-clause-asks c = none-one c.args.calls.now c.args.calls.now refl

pub returns-in-Wait-clause-asks : goal.returns-in-Wait-clause-asks
returns-in-Wait-clause-asks c = none-one c.args.calls.now c.args.calls.now refl

pub returns-in-Signal-clause-asks : goal.returns-in-Signal-clause-asks
returns-in-Signal-clause-asks c = none-one c.args.calls.now c.args.calls.now refl

pub returns-in-Yield-clause-asks : goal.returns-in-Yield-clause-asks
returns-in-Yield-clause-asks c = none-one c.args.calls.now c.args.calls.now refl

pub returns-in_ok-checkpoints-in-Checkpoint-clause-asks : goal.returns-in_ok-checkpoints-in-Checkpoint-clause-asks
returns-in_ok-checkpoints-in-Checkpoint-clause-asks c = none-one c.args.calls.now c.args.calls.now refl

pub returns-in_ok-destroys-in-Destroy-clause-asks : goal.returns-in_ok-destroys-in-Destroy-clause-asks
returns-in_ok-destroys-in-Destroy-clause-asks c = none-one c.args.calls.now c.args.calls.now refl

pub returns-in-Create-clause-asks : goal.returns-in-Create-clause-asks
returns-in-Create-clause-asks c = any-on_ok c.creates.result (none-one c.args.calls.now c.args.calls.now refl)
