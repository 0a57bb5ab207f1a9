use Rattle.std.proofs.Common.{◌≡◌, ◌∙◌, true, [], cond, subst, sym, ap}
use Rattle.eden_model.specs.Crew.{serving_pairs}
use Rattle.invocation.specs.Carries.{Carries}
use Rattle.eject_table.specs.Table.{dropped}
use Rattle.active_part.specs.Body.{Body, calls_of}
use Rattle.ejects.specs.View.{parts_of}
use Rattle.ejects.specs.Passive.{HoldsPassive}
use Rattle.ejects.specs.Replies.{Slept, slept}
use Rattle.ejects.proofs.Leaving.{same-body, parts_with, left-passive, left-queued, slept-with, slept-without}
use Rattle.ejects.proofs.Counting.{orphaned-none}
use Rattle.ejects.proofs.Ejects.sleeps.Goals as goal

pub returns-then-stays-clause-slept : goal.returns-then-stays-clause-slept
returns-then-stays-clause-slept c ts b is =
    let part = c.in-Some.part in
    let table = c.args.self.now.table in
    let same = same-body ts table c.args.uid part b c.in-Some.ensures.part is in
    let later = parts_with ts c.drop_active.new.self c.put_waiting.new.waiting.entries in
    let queue = c.into_parts-parts.ensures.queued ts ∙ ap (λ (y : Body). calls_of y.crew.queued) same in
    let held = left-queued ts table c.drop_active.new.self c.args.self.now.waiting.entries
    c.put_waiting.new.waiting.entries c.args.uid
    part c.into_parts-parts.result.queued (sym c.in-Some.ensures.part)
    (subst (λ x. c.drop_active.new.self ≡ record table { standings = dropped table.standings c.args.uid x }) c.if-stays.true
    c.in-Some.ensures.after)
    c.in_ok-put_waiting.ensures in
    subst (λ x. Slept c.args.uid x b (parts_of ts c.args.self.now) later c.args.calls.now c.reply_pairs.new.calls) (sym c.if-stays.true)
    (record {
      parts = subst (λ ks. HoldsPassive c.args.uid (parts_of ts c.args.self.now) later ks true) queue held;
      calls = slept-with c.args.uid b c.args.calls.now c.orphan.new.self c.reply_pairs.new.calls c.reply_pairs.new.calls
          c.into_parts-parts.result.running
          (c.into_parts-parts.ensures.running ts ∙ ap (λ (y : Body). serving_pairs y.crew.crew.processes) same)
          c.orphan.ensures.model c.in_ok-reply_pairs.ensures.model;
    })

pub returns-clause-slept : goal.returns-clause-slept
returns-clause-slept c ts b is =
    let part = c.in-Some.part in
    let table = c.args.self.now.table in
    let same = same-body ts table c.args.uid part b c.in-Some.ensures.part is in
    let later = parts_with ts c.drop_active.new.self c.take_waiting-none.new.waiting.entries in
    let held = left-passive ts table c.drop_active.new.self c.args.self.now.waiting.entries
    c.take_waiting-none.new.waiting.entries c.args.uid
    part c.args.stays (sym c.in-Some.ensures.part) c.in-Some.ensures.after c.take_waiting-none.ensures.at in
    record {
      parts = subst (λ ks. HoldsPassive c.args.uid (parts_of ts c.args.self.now) later ks c.args.stays)
          (sym (ap (λ x. cond x (calls_of b.crew.queued) []) c.if-stays.false)) held;
      calls = λ t carries out_runs out_queued once. subst (λ x. Carries c.reply_all.new.calls (slept c.args.uid x b t))
          (sym c.if-stays.false)
          (slept-without c.args.uid b c.args.calls.now c.orphan.new.self c.reply_pairs.new.calls c.reply_all.new.calls
          c.into_parts-parts.result.running
          c.into_parts-parts.result.queued
          (c.into_parts-parts.ensures.running ts ∙ ap (λ (y : Body). serving_pairs y.crew.crew.processes) same)
          (c.into_parts-parts.ensures.queued ts ∙ ap (λ (y : Body). calls_of y.crew.queued) same)
          c.orphan.ensures.model c.in_ok-reply_pairs.ensures.model c.in_ok-reply_all.ensures.model t carries out_runs out_queued once);
    }

pub returns-then-stays-clause-asks : goal.returns-then-stays-clause-asks
returns-then-stays-clause-asks c = c.in_ok-reply_pairs.ensures.asks
    ∙ orphaned-none c.args.uid c.args.calls.now c.orphan.new.self c.orphan.ensures.after

pub returns-clause-asks : goal.returns-clause-asks
returns-clause-asks c = c.in_ok-reply_all.ensures.asks ∙ c.in_ok-reply_pairs.ensures.asks
    ∙ orphaned-none c.args.uid c.args.calls.now c.orphan.new.self c.orphan.ensures.after
