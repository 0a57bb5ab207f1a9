use Rattle.std.proofs.Common.{◌≡◌, ◌==◌, ◌∙◌, ℕ, List, false, ap}
use Rattle.std.specs.List.{insert, list_any}
use Rattle.std.specs.Ordering.{nat_cmp}
use Rattle.eden_model.specs.Map.{each_value, put_at}
use Rattle.active_part.specs.View.{task_of}
use Rattle.epl_syntax.specs.Edentype.{Edentype}
use Rattle.active_part.specs.declared.Doing.{Doing}
use Rattle.active_part.proofs.Entries.{inserted-at, put-others}
use Rattle.active_part.proofs.Keys.{any-key}
use Rattle.active_part.proofs.task_list.TaskList.add.Goals as goal

none-has : (c : goal.In_ok-insert) → list_any (λ e. e.0 == c.args.process) c.args.self.now.entries.items ≡ false
none-has c = any-key c.args.process c.args.self.now.entries.items ∙ c.requires

put : (c : goal.In_ok-insert) (t : Edentype) → each_value (task_of t) c.insert.new.self.items
    ≡ put_at nat_cmp c.args.process (task_of t c.args.doing) (each_value (task_of t) c.args.self.now.entries.items)
put c t =
    let same : c.deref.result.now ≡ c.args.self.now.entries.items = c.deref.ensures.value ∙ c.in_ok-reserve_exact.ensures.items in
    let place = rw same at c.place_of-place.ensures in
    ap (each_value (task_of t)) (c.in_ok-insert.ensures.items
    ∙ ap (λ (es : List (ℕ × Doing)). insert es c.place_of-place.result (c.args.process, c.args.doing)) c.in_ok-reserve_exact.ensures.items)
    ∙ inserted-at (task_of t) c.args.process c.place_of-place.result c.args.doing c.args.self.now.entries.items place.within place.before
    place.behind (none-has c)

pub returns-clause-after : goal.returns-clause-after
returns-clause-after c t = put c t

pub returns-clause-others : goal.returns-clause-others
returns-clause-others c t =
    put-others (task_of t) c.args.process c.args.doing c.args.self.now.entries.items c.insert.new.self.items (put c t) (none-has c)
