use Rattle.std.proofs.Common.{sym, ap, ◌∙◌}
use Rattle.eden_model.specs.Crew.{Coordination, outside}
use Rattle.active_part.specs.Places.{keys}
use Rattle.active_part.proofs.Keys.{set-keeps}
use Rattle.active_part.proofs.part.Part.block.Goals as goal

pub invariant_of-self : goal.invariant_of-self
invariant_of-self c = record {
  tasks_are = c.args.self.now.tasks_are
      ∙ sym (ap (λ (it : Coordination). keys it.crew.processes) c.block.ensures
      ∙ set-keeps c.args.process outside c.args.self.now.crew.crew);
  values_fit = c.args.self.now.values_fit;
  rests_fit = c.args.self.now.rests_fit;
}
