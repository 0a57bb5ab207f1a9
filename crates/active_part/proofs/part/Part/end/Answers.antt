use Rattle.std.proofs.Common.{ℕ, ◌==◌, not, sym, ap, ◌∙◌}
use Rattle.std.specs.List.{filter}
use Rattle.eden_model.specs.Crew.{Coordination}
use Rattle.epl_syntax.specs.Edentype.{native}
use Rattle.epl_syntax.specs.declared.types.Native.TheVariants.{Cell}
use Rattle.active_part.specs.Places.{keys}
use Rattle.active_part.specs.View.{task_of}
use Rattle.active_part.proofs.Keys.{removed-keys, ended-keys}
use Rattle.active_part.proofs.Rests.{removed-fit}
use Rattle.active_part.proofs.part.Part.end.Goals as goal

pub invariant_of-self : goal.invariant_of-self
invariant_of-self c =
    let a = c.args.self.now in
    let others = λ (k : ℕ). not (k == c.args.process) in
    record {
      tasks_are = removed-keys (task_of (native Cell)) others c.remove.new.self.entries.items a.tasks.entries.items
          (c.remove.ensures (native Cell))
          ∙ ap (filter others) a.tasks_are
          ∙ sym (ap (λ (it : Coordination). keys it.crew.processes) c.end.ensures ∙ ended-keys c.args.process a.crew.crew);
      values_fit = a.values_fit;
      rests_fit = removed-fit a.kind (native Cell) others c.remove.new.self.entries.items a.tasks.entries.items
          (c.remove.ensures (native Cell)) a.rests_fit;
    }
