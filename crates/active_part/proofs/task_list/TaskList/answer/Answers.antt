use Rattle.std.proofs.Common.{ℕ, refl, sym, ap, ◌∙◌}
use Rattle.active_part.specs.View.{task_of}
use Rattle.active_part.specs.declared.Doing.{Doing}
use Rattle.active_part.proofs.Entries.{written-at}
use Rattle.active_part.proofs.Keys.{set-keys}
use Rattle.active_part.proofs.Rests.{read-fit, set-fit}
use Rattle.active_part.proofs.task_list.TaskList.answer.Goals as goal

pub returns-clause-after : goal.returns-clause-after
returns-clause-after c = λ t.
    let e = c.index_mut.result.now in
    written-at (task_of t) c.args.process c.find-place.result (λ x. record x { answer = c.args.answer }) e
    (record e.1 { answer = c.args.answer }) c.args.self.now.entries.items _ c.find-place.ensures c.index_mut.ensures.value refl refl

pub returns-clause-numbers : goal.returns-clause-numbers
returns-clause-numbers c =
    let e = c.index_mut.result.now in
    set-keys c.find-place.result e.0 (record e.1 { answer = c.args.answer }) c.args.self.now.entries.items
    (λ less d. c.find-place.ensures.here d
    ∙ sym (ap (λ (x : ℕ × Doing). x.0) c.index_mut.ensures.value ∙ c.find-place.ensures.here e))

pub returns-clause-fit : goal.returns-clause-fit
returns-clause-fit c k fit =
    let e = c.index_mut.result.now in
    let es = c.args.self.now.entries.items in
    set-fit k c.find-place.result (e.0, record e.1 { answer = c.args.answer }) es
    (read-fit k c.find-place.result e e es c.index_mut.ensures.value c.find-place.ensures.within fit) fit
