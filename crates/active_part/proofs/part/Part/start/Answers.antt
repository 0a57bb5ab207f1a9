use Rattle.std.proofs.Common.{None, sym, ap, ◌∙◌}
use Rattle.std.specs.Ordering.{nat_cmp}
use Rattle.epl_syntax.specs.declared.effect.Answer.TheVariants.{Go}
use Rattle.epl_syntax.specs.declared.types.Native.TheVariants as natives
use Rattle.epl_syntax.specs.Edentype.{Edentype, native}
use Rattle.eden_model.specs.Crew.{Coordination, Process, is_taken, nothing}
use Rattle.eden_model.specs.Map.{put_at}
use Rattle.eden_model.proofs.FreeNumbers.{least_free-free}
use Rattle.active_part.specs.Places.{is_number_in, keys}
use Rattle.active_part.specs.View.{task_of}
use Rattle.active_part.specs.declared.Doing.{Doing}
use Rattle.active_part.proofs.Keys.{added-keys, any-key, each-keys, few-start, started-keys}
use Rattle.active_part.proofs.Rests.{added-fit, same-fit}
use Rattle.active_part.proofs.Tasks.{begun-body}
use Rattle.active_part.proofs.part.Part.start.Goals as goal

pub returns-in-Ok-clause-started : goal.returns-in-Ok-clause-started
returns-in-Ok-clause-started c =
    begun-body c.args.types.now c.args.self.now c.args.asked.now c.in-Ok.started c.next_number-process.result
    c.start_next.new.crew c.add.new.self (record { rest = c.in_ok-rest.rest; answer = Go }) c.in-Ok.ensures.started
    c.next_number-process.ensures c.in_ok-add.ensures.after
    (ap (λ r. record { rest = r; answer = Go }) c.in_ok-rest.ensures.same)

pub add-requires : goal.add-requires
add-requires c =
    let a = c.args.self.now in
    ap (is_number_in c.next_number-process.result) a.tasks_are ∙ sym (any-key c.next_number-process.result a.crew.crew.processes)
    ∙ ap (λ p. is_taken p a.crew.crew.processes) c.next_number-process.ensures
    ∙ least_free-free a.crew.crew (few-start a.crew.crew a.crew.queued c.requires.may)

-- the process that runs now has the task that was added
pub invariant_of-self-in-Ok-1 : goal.invariant_of-self-in-Ok-1
invariant_of-self-in-Ok-1 c =
    let a = c.args.self.now in
    let t : Edentype = native natives.Cell in
    let doing : Doing = record { rest = c.in_ok-rest.rest; answer = Go } in
    let one : Process = record { serves = None; waits = nothing } in
    let p = c.next_number-process.result in
    record {
      tasks_are = added-keys (task_of t) p (task_of t doing) one c.add.new.self.entries.items a.tasks.entries.items a.crew.crew.processes
          (c.in_ok-add.ensures.after t) a.tasks_are
          ∙ ap (λ k. keys (put_at nat_cmp k one a.crew.crew.processes)) c.next_number-process.ensures
          ∙ sym (started-keys a.crew one c.requires.may)
          ∙ sym (ap (λ (it : Coordination). keys it.crew.processes) c.in-Ok.ensures.started.after);
      values_fit = a.values_fit;
      rests_fit = added-fit a.kind t p doing c.add.new.self.entries.items a.tasks.entries.items (c.in_ok-add.ensures.after t)
          c.in_ok-rest.ensures.fits a.rests_fit;
    }

-- it is taken away again where the process does not run
pub invariant_of-self-in-Err : goal.invariant_of-self-in-Err
invariant_of-self-in-Err c =
    let a = c.args.self.now in
    let t : Edentype = native natives.Cell in
    record {
      tasks_are = sym (each-keys (task_of t) c.remove.new.self.entries.items)
          ∙ ap keys (c.remove.ensures t ∙ c.in_ok-add.ensures.others t) ∙ each-keys (task_of t) a.tasks.entries.items ∙ a.tasks_are
          ∙ sym (ap (λ (it : Coordination). keys it.crew.processes) c.in-Err.ensures.unchanged);
      values_fit = a.values_fit;
      rests_fit = same-fit a.kind t c.remove.new.self.entries.items a.tasks.entries.items
          (c.remove.ensures t ∙ c.in_ok-add.ensures.others t) a.rests_fit;
    }
