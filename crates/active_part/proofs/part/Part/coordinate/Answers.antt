use Rattle.std.proofs.Common.{sym, ap, ◌∙◌}
use Rattle.eden_model.specs.Crew.{Coordination}
use Rattle.active_part.specs.Places.{keys}
use Rattle.active_part.proofs.Keys.{stepped-keeps}
use Rattle.active_part.proofs.part.Part.coordinate.Goals as goal

pub invariant_of-self : goal.invariant_of-self
invariant_of-self c = record {
  tasks_are = c.args.self.now.tasks_are
      ∙ sym (ap (λ (it : Coordination). keys it.crew.processes) c.take_step.ensures
      ∙ stepped-keeps c.args.step c.args.process c.args.self.now.crew.crew);
  values_fit = c.args.self.now.values_fit;
  rests_fit = c.args.self.now.rests_fit;
}
