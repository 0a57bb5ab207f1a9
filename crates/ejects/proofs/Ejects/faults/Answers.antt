use Rattle.std.proofs.Common.{◌∙◌, sym, ap}
use Rattle.eden_value.specs.declared.status.Status.TheVariants as status
use Rattle.eden_model.specs.Crew.{serving_pairs}
use Rattle.active_part.specs.Body.{Body, calls_of}
use Rattle.ejects.proofs.Leaving.{same-body, left-passive, all-answered}
use Rattle.ejects.proofs.Counting.{orphaned-none}
use Rattle.ejects.proofs.Ejects.faults.Goals as goal

pub returns-clause-faulted : goal.returns-clause-faulted
returns-clause-faulted c ts b is =
    let part = c.in-Some.part in
    let table = c.args.self.now.table in
    let same = same-body ts table c.args.uid part b c.in-Some.ensures.part is in
    record {
      parts = left-passive ts table c.drop_active.new.self c.args.self.now.waiting.entries
          c.take_waiting-none.new.waiting.entries c.args.uid
          part c.args.stays (sym c.in-Some.ensures.part) c.in-Some.ensures.after c.take_waiting-none.ensures.at;
      calls = all-answered c.args.uid b c.args.calls.now c.orphan.new.self c.reply_pairs.new.calls c.reply_all.new.calls status.Dropped
          c.into_parts-parts.result.running
          c.into_parts-parts.result.queued
          (c.into_parts-parts.ensures.running ts ∙ ap (λ (y : Body). serving_pairs y.crew.crew.processes) same)
          (c.into_parts-parts.ensures.queued ts ∙ ap (λ (y : Body). calls_of y.crew.queued) same)
          c.orphan.ensures.model c.in_ok-reply_pairs.ensures.model c.in_ok-reply_all.ensures.model;
    }

pub returns-clause-asks : goal.returns-clause-asks
returns-clause-asks c = c.in_ok-reply_all.ensures.asks ∙ c.in_ok-reply_pairs.ensures.asks
    ∙ orphaned-none c.args.uid c.args.calls.now c.orphan.new.self c.orphan.ensures.after
