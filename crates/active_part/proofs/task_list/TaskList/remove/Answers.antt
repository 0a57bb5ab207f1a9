use Rattle.std.proofs.Common.{ℕ, not, ◌==◌, rules, ap, ◌∙◌}
use Rattle.std.proofs.lemmas.Fn.{filter_same}
use Rattle.active_part.specs.View.{task_of}
use Rattle.active_part.specs.declared.Doing.{Doing}
use Rattle.eden_model.specs.Map.{each_value}
use Rattle.active_part.proofs.Entries.{kept-where}
use Rattle.active_part.proofs.task_list.TaskList.remove.Goals as goal

pub returns : goal.returns
returns c t =
    ap (each_value (task_of t)) (filter_same _ (λ (e : ℕ × Doing). not (e.0 == c.args.process)) _ (λ x b f' k. search rules) _ _
    c.retain.ensures.filtered)
    ∙ kept-where (task_of t) c.args.process c.args.self.now.entries.items
