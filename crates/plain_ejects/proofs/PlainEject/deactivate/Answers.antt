use Rattle.std.proofs.Common.{◌≡◌, ◌∙◌, ◌≤◌, ℕ, length, List, Option, None, Some, ap}
use Rattle.std.specs.Option.{option_map}
use Rattle.eden_model.specs.Crew.{serving_pairs}
use Rattle.epl_syntax.specs.Rules.OfTypes.{TypeList}
use Rattle.journal.specs.Ejects.{with_active}
use Rattle.journal.specs.World.{Eject}
use Rattle.active_part.specs.Body.{active_of, calls_of}
use Rattle.active_part.specs.View.{body_of}
use Rattle.active_part.specs.declared.part.Part.{Part}
use Rattle.plain_ejects.specs.declared.PlainEject.{PlainEject}
use Rattle.plain_ejects.specs.View.{eject_of, change_of, queue_of}
use Rattle.plain_ejects.proofs.PlainEject.deactivate.Goals as goal

-- the Eject with no active part and this queue
abbrev asleep : PlainEject → List ℕ → Eject
asleep e queued = record { active = None; queued = queued; kept = e.kept; doubt = option_map change_of e.doubt }

deactivated-as : (ts : TypeList) (e : PlainEject) (p : Part) (new : Option Part) (queued : List ℕ) (h : length queued ≤ 64)
    → Some p ≡ e.part → new ≡ None → queued ≡ calls_of (body_of ts p).crew.queued
    → eject_of ts (record e { part = new; waiting = queued; few = h }) ≡ with_active None (eject_of ts e)
deactivated-as ts e p new queued h is gone left = ap (λ n. eject_of ts (record e { part = n; waiting = queued; few = h })) gone
    ∙ (ap (asleep e) left ∙ ap (λ o. asleep e (queue_of ts o e.waiting)) is)

pub returns-in-Some-clause-running : goal.returns-in-Some-clause-running
returns-in-Some-clause-running c ts = ap Some (c.taken_apart-queued.ensures.running ts)
    ∙ ap (λ o. option_map (λ it. serving_pairs it.crew.processes) (option_map (λ (p : Part). active_of (body_of ts p)) o))
    c.in-Some.ensures.value

pub returns-in-None-clause-running : goal.returns-in-None-clause-running
returns-in-None-clause-running c ts =
    ap (λ o. option_map (λ it. serving_pairs it.crew.processes) (option_map (λ (p : Part). active_of (body_of ts p)) o))
    c.in-None.ensures.value

pub returns-in-Some-clause-after : goal.returns-in-Some-clause-after
returns-in-Some-clause-after c ts = deactivated-as ts c.args.self.now c.in-Some.part c.replace.new.dest c.taken_apart-queued.result.0
    c.taken_apart-queued.ensures.few c.in-Some.ensures.value c.in-Some.ensures.after (c.taken_apart-queued.ensures.queued ts)
