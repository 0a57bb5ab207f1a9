use Rattle.std.proofs.Common.{sym, ap, subst, ◌∙◌}
use Rattle.eden_model.specs.Crew.{nothing}
use Rattle.active_part.specs.Places.{Ascend, is_number_in}
use Rattle.active_part.proofs.Keys.{ascend-keys, process-among}
use Rattle.active_part.proofs.Tasks.{answered-body, runs-already}
use Rattle.active_part.proofs.part.Part.tell_at_once.Goals as goal

pub answer-requires-clause-ascend : goal.answer-requires-clause-ascend
answer-requires-clause-ascend c =
    let a = c.args.self.now in subst (Ascend 0) (sym a.tasks_are) (ascend-keys 0 a.crew.crew.processes c.processes_ascend.ensures)

pub answer-requires-clause-there : goal.answer-requires-clause-there
answer-requires-clause-there c =
    let a = c.args.self.now in
    ap (is_number_in c.args.process) a.tasks_are ∙ process-among c.args.process nothing a.crew.crew.processes c.requires

pub returns : goal.returns
returns c ts =
    let a = c.args.self.now in
    answered-body ts a c.args.process c.args.answer c.answer.new.self a.crew c.answer.ensures.after
    (ap (λ crew. record a.crew { crew = crew }) (sym (runs-already c.args.process a.crew.crew c.processes_ascend.ensures c.requires)))

pub invariant_of-self : goal.invariant_of-self
invariant_of-self c =
    let a = c.args.self.now in
    record {
      tasks_are = c.answer.ensures.numbers ∙ a.tasks_are;
      values_fit = a.values_fit;
      rests_fit = c.answer.ensures.fit a.kind a.rests_fit;
    }
