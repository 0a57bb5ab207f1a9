use Rattle.std.proofs.Common.{◌≡◌, ◌+◌, ◌≤◌, ◌∷◌, true, sym, ap, subst, ◌∙◌, arith}
use Rattle.std.specs.Prelude.{Option, Some, is_ok, not}
use Rattle.std.specs.Map.Iter.{deref_pair}
use Rattle.std.proofs.lemmas.Map.Iter.{rest_more, rest_all}
use Rattle.passive_store.specs.declared.index.Slot.{Slot}
use Rattle.block_tables.specs.Blocks.{blocks_of}
use Rattle.passive_blocks.specs.Converting.{IsMovable, planned_at}
use Rattle.passive_blocks.proofs.PlanningLoop.{Planning, slot_of_turn, planning_with, planning_done, pushed}
use Rattle.passive_blocks.proofs.convert.plan_heads.Goals as goal

pub overflow_add-end : goal.overflow_add-end
overflow_add-end c =
    let limit : c.in-Some-entry.slot.length ≤ 262144 =
    slot_of_turn (λ s. s.length ≤ 262144) c.args.index.now c.loop-uid.yielded c.into_iter-uid-iterator.result c.loop-uid.uid-iterator
    c.next.new.self c.next.result c.in-Some.uid c.in-Some.entry c.in-Some-entry.slot c.loop-uid.yielded_by c.in-Some.is
    c.next.ensures.steps c.into_iter-uid-iterator.ensures.into_iter_gives.0 c.into_iter-uid-iterator.ensures.into_iter_gives.5
    c.in-Some-entry.is c.requires.limit in
    omega (arith, c.loop-uid.invariant.room, c.blocks_of.ensures)

pub plan_head-value-requires-clause-limit : goal.plan_head-value-requires-clause-limit
plan_head-value-requires-clause-limit c =
    slot_of_turn (λ s. s.length ≤ 262144) c.args.index.now c.loop-uid.yielded c.into_iter-uid-iterator.result c.loop-uid.uid-iterator
    c.next.new.self c.next.result c.in-Some.uid c.in-Some.entry c.in-Some-entry.slot c.loop-uid.yielded_by c.in-Some.is
    c.next.ensures.steps c.into_iter-uid-iterator.ensures.into_iter_gives.0 c.into_iter-uid-iterator.ensures.into_iter_gives.5
    c.in-Some-entry.is c.requires.limit

pub plan_head-value-requires-clause-placed : goal.plan_head-value-requires-clause-placed
plan_head-value-requires-clause-placed c =
    slot_of_turn (λ s. s.gate + 15 + s.length ≤ 1048576) c.args.index.now c.loop-uid.yielded c.into_iter-uid-iterator.result
    c.loop-uid.uid-iterator c.next.new.self c.next.result c.in-Some.uid c.in-Some.entry c.in-Some-entry.slot c.loop-uid.yielded_by
    c.in-Some.is
    c.next.ensures.steps c.into_iter-uid-iterator.ensures.into_iter_gives.0 c.into_iter-uid-iterator.ensures.into_iter_gives.5
    c.in-Some-entry.is c.requires.placed

pub loop-uid-preserved-in-Some-entry : goal.loop-uid-preserved-in-Some-entry
loop-uid-preserved-in-Some-entry c =
    let u = c.in-Some.uid.now in
    let slot = c.in-Some-entry.slot in
    let m = c.args.index.now in
    let left = c.loop-uid.uid-iterator in
    let rest = c.next.new.self in
    let more = c.push.new.self.items in
    let at = planned_at c.loop-uid.number c.loop-uid.first u slot in
    let is : left ≡ (u, Some slot) ∷ rest = rest_more deref_pair left rest c.next.result (c.in-Some.uid, c.in-Some.entry) c.in-Some.is
    c.next.ensures.steps ∙ ap (λ (e : Option Slot). (u, e) ∷ rest) c.in-Some-entry.is in
    let room : c.loop-uid.first + blocks_of slot.length ≤ 3968 = omega (arith, c.if-end-gt-STAGE.false, c.blocks_of.ensures) in
    let ok : is_ok c.push.result ≡ true = c.is_err.ensures.negation ∙ ap not c.if-is_err.false in
    subst (λ n. Planning m rest more (c.loop-uid.number + 1) (c.loop-uid.first + n)) (sym c.blocks_of.ensures)
    (planning_with m left rest c.loop-uid.moved.items more c.loop-uid.number c.loop-uid.first u slot is c.loop-uid.invariant
    (pushed (is_ok c.push.result) more c.loop-uid.moved.items c.plan_head-value.result at c.push.ensures.items ok
    c.plan_head-value.ensures.planned)
    (subst IsMovable c.plan_head-value.ensures.planned c.plan_head-value.ensures.movable) room)

pub returns-clause-planned : goal.returns-clause-planned
returns-clause-planned c =
    planning_done c.args.index.now c.loop-uid.uid-iterator c.loop-uid.moved.items c.loop-uid.number c.loop-uid.first
    (rest_all deref_pair c.loop-uid.uid-iterator c.next.new.self c.next.result c.in-None.is c.next.ensures.steps) c.loop-uid.invariant
