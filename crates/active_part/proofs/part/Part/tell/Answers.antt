use Rattle.std.proofs.Common.{sym, ap, subst, ◌∙◌}
use Rattle.eden_model.specs.Crew.{Coordination, nothing, outside}
use Rattle.active_part.specs.Places.{Ascend, is_number_in, keys}
use Rattle.active_part.proofs.Keys.{ascend-keys, process-among, set-keeps}
use Rattle.active_part.proofs.part.Part.tell.Goals as goal

pub answer-requires-clause-ascend : goal.answer-requires-clause-ascend
answer-requires-clause-ascend c =
    let a = c.args.self.now in subst (Ascend 0) (sym a.tasks_are) (ascend-keys 0 a.crew.crew.processes c.processes_ascend.ensures)

pub answer-requires-clause-there : goal.answer-requires-clause-there
answer-requires-clause-there c =
    let a = c.args.self.now in
    ap (is_number_in c.args.process) a.tasks_are
    ∙ process-among c.args.process outside a.crew.crew.processes (c.awaits.ensures.0 c.if-not-awaits.false)

pub invariant_of-self : goal.invariant_of-self
invariant_of-self c = record {
  tasks_are = c.answer.ensures.numbers ∙ c.args.self.now.tasks_are
      ∙ sym (ap (λ (it : Coordination). keys it.crew.processes) c.resume.ensures
      ∙ set-keeps c.args.process nothing c.args.self.now.crew.crew);
  values_fit = c.args.self.now.values_fit;
  rests_fit = c.answer.ensures.fit c.args.self.now.kind c.args.self.now.rests_fit;
}
