use Rattle.std.proofs.Common.{refl, sym, subst, ◌∙◌, ap, arith, ◌≤◌, ◌+◌}
use Rattle.passive_store.specs.Kept.{Idle}
use Rattle.passive_store.specs.Seen.{Seen, DiskSeen}
use Rattle.checkpoint.specs.Asked.{body_asked, IsUnderJob, StepsTo, end_of_step}
use Rattle.eden_disk.specs.Calls.{DeviceCalls}
use Rattle.checkpoint.proofs.WorkerSteps.{quiet-done, quiet-full, keeps-telling, head-needs, head-room, head-begun, steps-from, made-none}
use Rattle.checkpoint.proofs.OneCalls.{no-calls, one-from}
use Rattle.checkpoint.proofs.Touching.{none-ended, once-made, touched-unkept, touched-full, touched-job, obeyed-still, obeyed-from}
use Rattle.checkpoint.proofs.Touching.{raises-ended, raises-one}
use Rattle.checkpoint.proofs.worker.Worker.begin.Goals as goal

pub returns-then-not-needs_calls-clause-steps : goal.returns-then-not-needs_calls-clause-steps
returns-then-not-needs_calls-clause-steps g c = λ so s told h.
    let x : Seen = g.St.Store.seen c.args.store.now in (
      quiet-done _ _ s c.args.self.now.requests.items c.end.new.self.requests.items x _ c.end.ensures.ended c.requires.idle h
          (head-needs c.args.self.now.requests.items x.kept _ c.in-Some.request.now c.in-Some.ensures.lookup
          (c.if-not-needs_calls.ensures so) c.end.new.self.requests.items),
      omega arith,
    )

pub returns-in-Err-Full-clause-steps : goal.returns-in-Err-Full-clause-steps
returns-in-Err-Full-clause-steps g c = λ so s told h.
    let x : Seen = g.St.Store.seen c.args.store.now in
    let y : Seen = g.St.Store.seen c.begin_job.new.store in
    let b = c.in-Err-Full.ensures in (
      quiet-full _ _ s c.args.self.now.requests.items c.end-in-Err-Full.new.self.requests.items x y _ c.end-in-Err-Full.ensures.ended
          c.requires.idle
          (b.work ∙ c.requires.idle) h (b.kept so) (ap (λ (d : DiskSeen). d.counts) b.disk) (ap (λ (d : DiskSeen). d.told) b.disk) b.same
          (head-needs c.args.self.now.requests.items x.kept _ c.in-Some.request.now c.in-Some.ensures.lookup
          (c.if-not-needs_calls.ensures so) c.end-in-Err-Full.new.self.requests.items)
          (head-room g.St.Store.layout x.disk.counts.size c.args.self.now.requests.items x.kept c.in-Some.request.now
          c.in-Some.ensures.lookup (b.full so told c.in-Err-Full.field-0-is) c.end-in-Err-Full.new.self.requests.items),
      omega (arith, b.same),
    )

pub returns-in-Ok-clause-steps : goal.returns-in-Ok-clause-steps
returns-in-Ok-clause-steps g c = λ so s told h.
    let x : Seen = g.St.Store.seen c.args.store.now in
    let y : Seen = g.St.Store.seen c.begin_job.new.store in
    let z : Seen = g.St.Store.seen c.advance.new.store in
    let b = c.in-Ok.ensures in
    let before : IsUnderJob g.St.Store.layout x.node s c.args.self.now.requests.items y Idle x.more =
    head-begun _ g.St.Store.layout x.node s c.args.self.now.requests.items c.in-Some.request.now _ x y so c.requires.some
    c.in-Some.ensures.lookup c.requires.idle h told b
    (sym (c.if-not-needs_calls.ensures so)) in
    let there : IsUnderJob g.St.Store.layout y.node s c.args.self.now.requests.items y Idle x.more =
    subst (λ k. IsUnderJob g.St.Store.layout k s c.args.self.now.requests.items y Idle x.more) (sym b.node) before in
    let one : x.more ≤ y.more + 1 = b.first so (keeps-telling _ _ s _ x h) in (
      steps-from g.St.Store.layout x.node s c.args.self.now.requests.items c.advance.new.self.requests.items x y z c.advance.result
          (made-none _ g.St.Store.layout _ _ x y c.requires.idle b) (ap (λ (d : DiskSeen). d.told) b.disk)
          (ap (λ (d : DiskSeen). d.counts) b.disk)
          (subst (λ k. StepsTo g.St.Store.layout k s c.args.self.now.requests.items y c.advance.new.self.requests.items z c.advance.result)
          b.node
          (c.advance.ensures.steps so s Idle x.more there)),
      omega (arith, c.advance.ensures.more, one),
    )

pub returns-then-not-needs_calls-clause-calls : goal.returns-then-not-needs_calls-clause-calls
returns-then-not-needs_calls-clause-calls g c = no-calls _ _ _ _ _ _ refl refl c.requires.power c.end.ensures.ended

pub returns-in-Err-Full-clause-calls : goal.returns-in-Err-Full-clause-calls
returns-in-Err-Full-clause-calls g c = no-calls _ _ _ _ _ _ refl
    (ap (λ (d : DiskSeen). d.counts) c.in-Err-Full.ensures.disk) c.requires.power c.end-in-Err-Full.ensures.ended

pub returns-in-Ok-clause-calls : goal.returns-in-Ok-clause-calls
returns-in-Ok-clause-calls g c = one-from _ _ _ _ (ap (λ (d : DiskSeen). d.counts) c.in-Ok.ensures.disk) c.advance.ensures.calls

pub returns-then-not-needs_calls-clause-touches : goal.returns-then-not-needs_calls-clause-touches
returns-then-not-needs_calls-clause-touches g c = λ so s told h.
    let x : Seen = g.St.Store.seen c.args.store.now in
    none-ended _ _ _ _ _ _ _
    (touched-unkept g.St.Store.layout x.node s c.args.self.now.requests.items c.in-Some.request.now x c.requires.some
    c.in-Some.ensures.lookup c.requires.idle (sym (c.if-not-needs_calls.ensures so)) h)
    refl c.end.ensures.ended refl c.requires.power

pub returns-in-Err-Full-clause-touches : goal.returns-in-Err-Full-clause-touches
returns-in-Err-Full-clause-touches g c = λ so s told h.
    let x : Seen = g.St.Store.seen c.args.store.now in
    let b = c.in-Err-Full.ensures in
    none-ended _ _ _ _ _ _ _
    (touched-full g.St.Store.layout x.node s c.args.self.now.requests.items c.in-Some.request.now x c.requires.some
    c.in-Some.ensures.lookup c.requires.idle (sym (c.if-not-needs_calls.ensures so)) (b.full so told c.in-Err-Full.field-0-is) h)
    refl c.end-in-Err-Full.ensures.ended (ap (λ (d : DiskSeen). d.counts) b.disk) c.requires.power

pub returns-in-Ok-clause-touches : goal.returns-in-Ok-clause-touches
returns-in-Ok-clause-touches g c = λ so s told h.
    let x : Seen = g.St.Store.seen c.args.store.now in
    let y : Seen = g.St.Store.seen c.begin_job.new.store in
    let z : Seen = g.St.Store.seen c.advance.new.store in
    let b = c.in-Ok.ensures in
    let before : IsUnderJob g.St.Store.layout x.node s c.args.self.now.requests.items y Idle x.more =
    head-begun _ g.St.Store.layout x.node s c.args.self.now.requests.items c.in-Some.request.now _ x y so c.requires.some
    c.in-Some.ensures.lookup c.requires.idle h told b
    (sym (c.if-not-needs_calls.ensures so)) in
    once-made _ _ _ _ (touched-job g.St.Store.layout x.node s c.args.self.now.requests.items y Idle x.more before)
    (subst (λ (d : DiskSeen). DeviceCalls 1 d.counts z.disk.counts (end_of_step c.advance.result)) b.disk c.advance.ensures.one)

pub returns-then-not-needs_calls-clause-obeyed : goal.returns-then-not-needs_calls-clause-obeyed
returns-then-not-needs_calls-clause-obeyed g c = obeyed-still _ _ _ _ _
    (g.St.Store.seen c.args.store.now).disk _ refl c.end.ensures.ended refl

pub returns-in-Err-Full-clause-obeyed : goal.returns-in-Err-Full-clause-obeyed
returns-in-Err-Full-clause-obeyed g c = obeyed-still _ _ _ _ _ _ _ refl c.end-in-Err-Full.ensures.ended c.in-Err-Full.ensures.disk

pub returns-in-Ok-clause-obeyed : goal.returns-in-Ok-clause-obeyed
returns-in-Ok-clause-obeyed g c = obeyed-from _ _ _ _ _ _ c.in-Ok.ensures.disk c.advance.ensures.obeyed

pub returns-then-not-needs_calls-clause-raises : goal.returns-then-not-needs_calls-clause-raises
returns-then-not-needs_calls-clause-raises g c = raises-ended _ _ _ _ _ _ refl c.end.ensures.ended

pub returns-in-Err-Full-clause-raises : goal.returns-in-Err-Full-clause-raises
returns-in-Err-Full-clause-raises g c = raises-ended _ _ _ _ _ _ refl c.end-in-Err-Full.ensures.ended

pub returns-in-Ok-clause-raises : goal.returns-in-Ok-clause-raises
returns-in-Ok-clause-raises g c = raises-one _ _ _
    (subst (λ (d : DiskSeen). DeviceCalls 1 d.counts (g.St.Store.seen c.advance.new.store).disk.counts (end_of_step c.advance.result))
    c.in-Ok.ensures.disk c.advance.ensures.one)
