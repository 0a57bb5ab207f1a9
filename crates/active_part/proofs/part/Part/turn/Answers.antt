use Rattle.std.proofs.Common.{ℕ, refl, sym, ap, subst, ◌∙◌}
use Rattle.std.specs.Vec.{with_item}
use Rattle.eden_model.specs.Crew.{nothing}
use Rattle.active_part.specs.Places.{Ascend, is_number_in}
use Rattle.active_part.specs.declared.Doing.{Doing}
use Rattle.active_part.proofs.Keys.{ascend-keys, process-among, set-keys}
use Rattle.active_part.proofs.Rests.{read-fit, set-fit}
use Rattle.active_part.proofs.Tasks.{taken-body}
use Rattle.active_part.proofs.part.Part.turn.Goals as goal

pub find-place-requires-clause-ascend : goal.find-place-requires-clause-ascend
find-place-requires-clause-ascend c =
    let a = c.args.self.now in subst (Ascend 0) (sym a.tasks_are) (ascend-keys 0 a.crew.crew.processes c.processes_ascend.ensures)

pub find-place-requires-clause-there : goal.find-place-requires-clause-there
find-place-requires-clause-there c =
    let a = c.args.self.now in
    ap (is_number_in c.args.process) a.tasks_are ∙ process-among c.args.process nothing a.crew.crew.processes c.requires

pub returns-clause-turned : goal.returns-clause-turned
returns-clause-turned c t turns =
    let a = c.args.self.now in
    let e = c.index_mut.result.now in
    let w = c.take_turn.new.doing in
    taken-body c.args.types.now a c.args.process c.find-place.result c.args.me e w c.take_turn.new.vars c.in_ok-effect.effect
    (record { entries = with_item a.tasks.entries c.find-place.result (e.0, w) }) c.find-place.ensures c.index_mut.ensures.value refl
    c.in_ok-effect.ensures.turned c.in_ok-effect.ensures.answer t turns

pub invariant_of-self : goal.invariant_of-self
invariant_of-self c =
    let a = c.args.self.now in
    let e = c.index_mut.result.now in
    record {
      tasks_are = set-keys c.find-place.result e.0 c.take_turn.new.doing a.tasks.entries.items
          (λ less d. c.find-place.ensures.here d
          ∙ sym (ap (λ (x : ℕ × Doing). x.0) c.index_mut.ensures.value ∙ c.find-place.ensures.here e))
          ∙ a.tasks_are;
      values_fit = c.take_turn.ensures.vars;
      rests_fit = set-fit a.kind c.find-place.result (e.0, c.take_turn.new.doing) a.tasks.entries.items c.take_turn.ensures.rest
          a.rests_fit;
    }

pub take_turn-requires-clause-rest : goal.take_turn-requires-clause-rest
take_turn-requires-clause-rest c =
    let a = c.args.self.now in
    let e = c.index_mut.result.now in
    read-fit a.kind c.find-place.result e e a.tasks.entries.items c.index_mut.ensures.value c.find-place.ensures.within a.rests_fit
