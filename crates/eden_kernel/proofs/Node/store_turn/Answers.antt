use Rattle.std.proofs.Common.{◌≡◌, ◌≤◌, false, ◌&&◌, None, refl, sym, subst, ap, ◌∙◌}
use Rattle.std.specs.Prelude.{is_some}
use Rattle.passive_store.specs.Kept.{is_busy, unsure_in}
use Rattle.passive_store.specs.Seen.{Seen}
use Rattle.journal.specs.Step.{touches_store}
use Rattle.journal.specs.declared.event.Event.TheVariants as event
use Rattle.checkpoint.specs.Asked.{StepsTo, QueueGoes, EndsJob, StaysBegun, KeepsPower, OneCall, requests_of}
use Rattle.checkpoint.proofs.Answering.{behind-answer, going-answer}
use Rattle.checkpoint.proofs.Activations.{any-err}
use Rattle.ejects.specs.Parts.{body_at}
use Rattle.ejects.specs.StoreEnds.{takes_eject}
use Rattle.ejects.specs.View.{parts_of}
use Rattle.eden_kernel.specs.DiskTurns.{Stops, IsStoreTurn, asks_removal, left_behind}
use Rattle.eden_kernel.specs.Turns.{Turns}
use Rattle.eden_kernel.proofs.StoreTurn.{turn-goes, turn-ends, turn-stops, power-up, one-ended}
use Rattle.eden_kernel.proofs.Starving.{starves-still, starves-stepped}
use Rattle.journal.specs.declared.event.RequestEnd.TheVariants as end
use Rattle.checkpoint.specs.Asked.{end_of_step, call_end, TellsWhose}
use Rattle.eden_disk.specs.Calls.{DeviceCalls}
use Rattle.checkpoint.specs.Touches.{TouchesOnce, ObeyedIn, RaisesClock}
use Rattle.disk_faults.specs.Elsewhere.{shown_of}
use Rattle.disk_faults.specs.Shows.{ShowsCounts}
use Rattle.eden_kernel.specs.DiskTurns.{shown_as, call_of_request}
use Rattle.eden_kernel.specs.Shows.{call_of_event}
use Rattle.eden_kernel.proofs.StoreTurn.{call-shown, stops-shown, stops-not, stops-once}
use Rattle.eden_kernel.proofs.Showing.{shows-store, first-own, ended-own, left-behind, left-still}
use Rattle.eden_kernel.proofs.Node.store_turn.Goals as goal

pub returns-then-not-is_up_behind-clause-turn : goal.returns-then-not-is_up_behind-clause-turn
returns-then-not-is_up_behind-clause-turn g c = λ so ts reach s sound more h.
    let n = c.args.self.now in
    let later = c.step.new.self in
    let q = c.in-Ended.request in
    let x : Seen = g.St.Store.seen n.store in
    let y : Seen = g.St.Store.seen c.step.new.store in
    subst (λ e. Stops g.St.Store.layout (record { number = n.number; ejects = n.ejects; worker = later; seen = y }) reach
    (record { number = n.number; ejects = n.ejects; worker = n.worker; seen = x }) s e)
    (sym c.turn_of-event-then-not-is_up_behind.ensures)
    (turn-stops g.St.Store.layout ts n.number x y n.ejects n.ejects n.worker later c.args.calls.now c.args.calls.now reach s
    c.step.ensures.node h q later.requests.items
    (subst (λ r. QueueGoes n.worker.requests.items later.requests.items r) c.in-Ended.is c.in_ok-settled.ensures.queue) c.in-Ended.end
    (sym c.is_up_behind.ensures ∙ c.if-not-is_up_behind.true)
    (subst (λ r. StepsTo g.St.Store.layout x.node s n.worker.requests.items x later.requests.items y r) c.in-Ended.is
    (c.in_ok-settled.ensures.steps so s more h.disk).0))

pub returns-in-Going-clause-turn : goal.returns-in-Going-clause-turn
returns-in-Going-clause-turn g c = λ so ts reach s sound more h.
    let n = c.args.self.now in
    let later = c.step.new.self in
    let new = c.request_goes.new.ejects in
    let x : Seen = g.St.Store.seen n.store in
    let y : Seen = g.St.Store.seen c.step.new.store in
    subst (λ e. Turns g.St.Store.layout ts (record { number = n.number; ejects = new; worker = later; seen = y }) c.args.calls.now reach
    (record { number = n.number; ejects = n.ejects; worker = n.worker; seen = x }) s e)
    (sym (c.turn_of-event.ensures ∙ ap (λ p. event.Store c.in-Some.uid y.disk.counts.clock end.Part p) c.pick_in.ensures))
    (turn-goes g.St.Store.layout ts n.number x y n.ejects new n.worker later c.args.calls.now c.args.calls.now reach s
    c.step.ensures.node h c.requires.whole.begun c.requires.whole.answers c.in-Some.uid c.in-Going.settled c.in-Some.ensures.first
    (subst (λ r. StepsTo g.St.Store.layout x.node s n.worker.requests.items x later.requests.items y r) c.in-Going.is
    (c.in_ok-settled.ensures.steps so s more h.disk).0)
    (subst (TellsWhose (unsure_in x.work)) c.in-Going.is c.in_ok-settled.ensures.whose)
    (λ first settles allowed. c.request_goes.ensures so ts c.args.calls.now reach y.disk.counts.clock s sound h.calls first settles
    allowed))

pub returns-in-Going-clause-whole : goal.returns-in-Going-clause-whole
returns-in-Going-clause-whole g c =
    let old = c.args.self.now.worker in
    let new = c.step.new.self in
    let y : Seen = g.St.Store.seen c.step.new.store in
    record {
      number = c.requires.whole.number ∙ sym c.step.ensures.node;
      first = subst (λ n. 1 ≤ n) (sym c.step.ensures.node) c.requires.whole.first;
      last = subst (λ n. n ≤ 8) (sym c.step.ensures.node) c.requires.whole.last;
      power = subst (λ r. KeepsPower y.disk.counts r) c.in-Going.is c.in_ok-settled.ensures.power;
      begun = c.step.ensures.begun;
      of_node = c.step.ensures.of_node;
      answers = going-answer old.begun new.begun old.requests.items new.requests.items
          (subst (λ r. QueueGoes old.requests.items new.requests.items r) c.in-Going.is c.in_ok-settled.ensures.queue)
          (λ was. subst (λ r. StaysBegun new.begun r) c.in-Going.is (c.in_ok-settled.ensures.stays was)) c.requires.whole.answers;
    }

pub returns-in_ok-request_ends-in-Ended-clause-whole : goal.returns-in_ok-request_ends-in-Ended-clause-whole
returns-in_ok-request_ends-in-Ended-clause-whole g c =
    let y : Seen = g.St.Store.seen c.step.new.store in
    let still : is_busy y.work ≡ false = subst (λ r. EndsJob (is_busy y.work) r) c.in-Ended.is c.in_ok-settled.ensures.ended in
    record {
      number = c.requires.whole.number ∙ sym c.step.ensures.node;
      first = subst (λ n. 1 ≤ n) (sym c.step.ensures.node) c.requires.whole.first;
      last = subst (λ n. n ≤ 8) (sym c.step.ensures.node) c.requires.whole.last;
      power = power-up c.in-Ended.end y.disk.counts (sym c.is_up_behind.ensures ∙ c.if-not-is_up_behind.false)
          (subst (λ r. KeepsPower y.disk.counts r) c.in-Ended.is c.in_ok-settled.ensures.power);
      begun = c.request_ends.ensures.begun ∙ c.step.ensures.begun;
      of_node = c.request_ends.ensures.of_node y.node c.step.ensures.of_node;
      answers = c.request_ends.ensures.answers (behind-answer c.args.self.now.worker.begun c.step.new.self.begun c.in-Ended.request
          c.args.self.now.worker.requests.items c.step.new.self.requests.items
          (subst (λ r. QueueGoes c.args.self.now.worker.requests.items c.step.new.self.requests.items r) c.in-Ended.is
          c.in_ok-settled.ensures.queue) (c.step.ensures.begun ∙ still) c.requires.whole.answers);
    }

pub returns-in_ok-request_ends-in-Ended-clause-event : goal.returns-in_ok-request_ends-in-Ended-clause-event
returns-in_ok-request_ends-in-Ended-clause-event g c =
    let x : Seen = g.St.Store.seen c.args.self.now.store in
    let y : Seen = g.St.Store.seen c.step.new.store in
    subst (λ e. IsStoreTurn x.disk.counts y.disk.counts e)
    (sym (c.turn_of-event-in-Ended.ensures
    ∙ ap (λ how. event.Store c.in-Ended.request.uid y.disk.counts.clock how None) c.end_shown.ensures)) (
      refl,
      one-ended x.disk.counts y.disk.counts c.in-Ended.request c.in-Ended.end
          (subst (λ r. OneCall x.disk.counts y.disk.counts r) c.in-Ended.is c.in_ok-settled.ensures.calls),
    )

pub returns-in_ok-request_ends-in-Ended-clause-turn : goal.returns-in_ok-request_ends-in-Ended-clause-turn
returns-in_ok-request_ends-in-Ended-clause-turn g c = λ so ts reach s sound more h.
    let n = c.args.self.now in
    let later = c.request_ends.new.worker in
    let left = c.step.new.self.requests.items in
    let new = c.request_ends.new.ejects in
    let q = c.in-Ended.request in
    let x : Seen = g.St.Store.seen n.store in
    let y : Seen = g.St.Store.seen c.step.new.store in
    let still : is_busy y.work ≡ false = subst (λ r. EndsJob (is_busy y.work) r) c.in-Ended.is c.in_ok-settled.ensures.ended in
    subst (λ e. Turns g.St.Store.layout ts (record { number = n.number; ejects = new; worker = later; seen = y })
    c.request_ends.new.calls reach (record { number = n.number; ejects = n.ejects; worker = n.worker; seen = x }) s e)
    (sym (c.turn_of-event-in-Ended.ensures ∙ ap (λ how. event.Store q.uid y.disk.counts.clock how None) c.end_shown.ensures))
    (turn-ends g.St.Store.layout ts n.number x y n.ejects new n.worker later c.args.calls.now c.request_ends.new.calls reach s
    c.step.ensures.node h q left (subst (λ r. QueueGoes n.worker.requests.items left r) c.in-Ended.is c.in_ok-settled.ensures.queue)
    c.requires.whole.begun c.requires.whole.answers c.in-Ended.end (sym c.is_up_behind.ensures ∙ c.if-not-is_up_behind.false) still
    (subst (λ r. StepsTo g.St.Store.layout x.node s n.worker.requests.items x left y r) c.in-Ended.is
    (c.in_ok-settled.ensures.steps so s more h.disk).0)
    (c.in_ok-request_ends-in-Ended.ensures.requests ts
    ∙ ap (λ b. left_behind (takes_eject (asks_removal q.wish) c.in-Ended.end && is_some (body_at (parts_of ts n.ejects) q.uid)) b q.uid
    left) (c.step.ensures.begun ∙ still))
    (λ first shown allowed. c.in_ok-request_ends-in-Ended.ensures.ends ts reach y.disk.counts.clock s sound h.calls first shown allowed))

pub returns-in_err-settled-clause-starves : goal.returns-in_err-settled-clause-starves
returns-in_err-settled-clause-starves g c = λ so.
    let n = c.args.self.now in
    let x : Seen = g.St.Store.seen n.store in
    let y : Seen = g.St.Store.seen c.step.new.store in
    any-err c.from_residual.result _ (λ ts s more h.
    starves-still g.St.Store.layout s (requests_of x.work n.worker.requests.items) x y h.disk c.in_err-settled.ensures.unchanged.1.disk)

pub returns-in_err-request_ends-in-Ended-clause-starves : goal.returns-in_err-request_ends-in-Ended-clause-starves
returns-in_err-request_ends-in-Ended-clause-starves g c = λ so.
    let n = c.args.self.now in
    let x : Seen = g.St.Store.seen n.store in
    let y : Seen = g.St.Store.seen c.step.new.store in
    any-err c.from_residual-in_err-request_ends-in-Ended.result _ (λ ts s more h.
    starves-stepped g.St.Store.layout s n.worker.requests.items c.step.new.self.requests.items x y c.in-Some.uid c.in_ok-settled.field-0
    c.in-Some.ensures.first (c.in_ok-settled.ensures.steps so s more h.disk).0 (c.in_ok-settled.ensures.steps so s more h.disk).1)

-- its event is of the node
pub returns-in-Going-clause-of_node : goal.returns-in-Going-clause-of_node
returns-in-Going-clause-of_node g c =
    let n = c.args.self.now in
    let x : Seen = g.St.Store.seen n.store in
    ap shown_of c.turn_of-event.ensures
    ∙ first-own x.node n.worker.requests.items c.in-Some.uid c.requires.whole.of_node c.in-Some.ensures.first ∙ sym c.requires.whole.number

pub returns-then-not-is_up_behind-clause-of_node : goal.returns-then-not-is_up_behind-clause-of_node
returns-then-not-is_up_behind-clause-of_node g c =
    let n = c.args.self.now in
    let x : Seen = g.St.Store.seen n.store in
    ap shown_of c.turn_of-event-then-not-is_up_behind.ensures
    ∙ ended-own x.node n.worker.requests.items c.step.new.self.requests.items c.in-Ended.request c.requires.whole.of_node
    (subst (λ r. QueueGoes n.worker.requests.items c.step.new.self.requests.items r) c.in-Ended.is c.in_ok-settled.ensures.queue)
    ∙ sym c.requires.whole.number

pub returns-in_ok-request_ends-in-Ended-clause-of_node : goal.returns-in_ok-request_ends-in-Ended-clause-of_node
returns-in_ok-request_ends-in-Ended-clause-of_node g c =
    let n = c.args.self.now in
    let x : Seen = g.St.Store.seen n.store in
    ap shown_of c.turn_of-event-in-Ended.ensures
    ∙ ended-own x.node n.worker.requests.items c.step.new.self.requests.items c.in-Ended.request c.requires.whole.of_node
    (subst (λ r. QueueGoes n.worker.requests.items c.step.new.self.requests.items r) c.in-Ended.is c.in_ok-settled.ensures.queue)
    ∙ sym c.requires.whole.number

-- what it shows of the disk
pub returns-in-Going-clause-shows : goal.returns-in-Going-clause-shows
returns-in-Going-clause-shows g c =
    let n = c.args.self.now in
    let x : Seen = g.St.Store.seen n.store in
    let y : Seen = g.St.Store.seen c.step.new.store in
    let one = subst (λ r. OneCall x.disk.counts y.disk.counts r) c.in-Going.is c.in_ok-settled.ensures.calls in
    subst (λ e. ShowsCounts g.St.Device.Disk.obeys n.number e x.disk y.disk) (sym c.turn_of-event.ensures)
    (shows-store g.St.Device.Disk.obeys n.number c.in-Some.uid y.disk.counts.clock end.Part c.pick_in.result x.disk y.disk one.made
    (first-own x.node n.worker.requests.items c.in-Some.uid c.requires.whole.of_node c.in-Some.ensures.first ∙ sym c.requires.whole.number)
    one.counts (subst (λ r. ObeyedIn g.St.Device.Disk.obeys x.disk y.disk (end_of_step r)) c.in-Going.is c.in_ok-settled.ensures.obeyed) tt)

pub returns-then-not-is_up_behind-clause-shows : goal.returns-then-not-is_up_behind-clause-shows
returns-then-not-is_up_behind-clause-shows g c =
    let n = c.args.self.now in
    let q = c.in-Ended.request in
    let x : Seen = g.St.Store.seen n.store in
    let y : Seen = g.St.Store.seen c.step.new.store in
    let one = subst (λ r. OneCall x.disk.counts y.disk.counts r) c.in-Ended.is c.in_ok-settled.ensures.calls in
    let stops : call_end c.in-Ended.end ≡ call_of_request end.Stop = stops-shown c.in-Ended.end
    (sym c.is_up_behind.ensures ∙ c.if-not-is_up_behind.true) in
    subst (λ e. ShowsCounts g.St.Device.Disk.obeys n.number e x.disk y.disk) (sym c.turn_of-event-then-not-is_up_behind.ensures)
    (shows-store g.St.Device.Disk.obeys n.number q.uid y.disk.counts.clock end.Stop None x.disk y.disk one.made
    (ended-own x.node n.worker.requests.items c.step.new.self.requests.items q c.requires.whole.of_node
    (subst (λ r. QueueGoes n.worker.requests.items c.step.new.self.requests.items r) c.in-Ended.is c.in_ok-settled.ensures.queue)
    ∙ sym c.requires.whole.number)
    (subst (λ k. DeviceCalls one.made x.disk.counts y.disk.counts k) stops one.counts)
    (subst (λ k. ObeyedIn g.St.Device.Disk.obeys x.disk y.disk k) stops
    (subst (λ r. ObeyedIn g.St.Device.Disk.obeys x.disk y.disk (end_of_step r)) c.in-Ended.is c.in_ok-settled.ensures.obeyed))
    (subst (λ k. RaisesClock k x.disk.counts.clock y.disk.counts.clock) stops
    (subst (λ r. RaisesClock (end_of_step r) x.disk.counts.clock y.disk.counts.clock) c.in-Ended.is c.in_ok-settled.ensures.raises)))

pub returns-in_ok-request_ends-in-Ended-clause-shows : goal.returns-in_ok-request_ends-in-Ended-clause-shows
returns-in_ok-request_ends-in-Ended-clause-shows g c =
    let n = c.args.self.now in
    let q = c.in-Ended.request in
    let x : Seen = g.St.Store.seen n.store in
    let y : Seen = g.St.Store.seen c.step.new.store in
    let one = subst (λ r. OneCall x.disk.counts y.disk.counts r) c.in-Ended.is c.in_ok-settled.ensures.calls in
    let shown : call_end c.in-Ended.end ≡ call_of_request (shown_as c.in-Ended.end) = call-shown c.in-Ended.end in
    subst (λ e. ShowsCounts g.St.Device.Disk.obeys n.number e x.disk y.disk)
    (sym (c.turn_of-event-in-Ended.ensures ∙ ap (λ how. event.Store q.uid y.disk.counts.clock how None) c.end_shown.ensures))
    (shows-store g.St.Device.Disk.obeys n.number q.uid y.disk.counts.clock (shown_as c.in-Ended.end) None x.disk y.disk one.made
    (ended-own x.node n.worker.requests.items c.step.new.self.requests.items q c.requires.whole.of_node
    (subst (λ r. QueueGoes n.worker.requests.items c.step.new.self.requests.items r) c.in-Ended.is c.in_ok-settled.ensures.queue)
    ∙ sym c.requires.whole.number)
    (subst (λ k. DeviceCalls one.made x.disk.counts y.disk.counts k) shown one.counts)
    (subst (λ k. ObeyedIn g.St.Device.Disk.obeys x.disk y.disk k) shown
    (subst (λ r. ObeyedIn g.St.Device.Disk.obeys x.disk y.disk (end_of_step r)) c.in-Ended.is c.in_ok-settled.ensures.obeyed))
    (subst (λ k. RaisesClock k x.disk.counts.clock y.disk.counts.clock) shown
    (subst (λ r. RaisesClock (end_of_step r) x.disk.counts.clock y.disk.counts.clock) c.in-Ended.is c.in_ok-settled.ensures.raises)))

-- whether its disk stopped
pub returns-in-Going-clause-stops : goal.returns-in-Going-clause-stops
returns-in-Going-clause-stops g c =
    let x : Seen = g.St.Store.seen c.args.self.now.store in
    let y : Seen = g.St.Store.seen c.step.new.store in
    let one = subst (λ r. OneCall x.disk.counts y.disk.counts r) c.in-Going.is c.in_ok-settled.ensures.calls in
    one.counts.stops

pub returns-then-not-is_up_behind-clause-stops : goal.returns-then-not-is_up_behind-clause-stops
returns-then-not-is_up_behind-clause-stops g c =
    let x : Seen = g.St.Store.seen c.args.self.now.store in
    let y : Seen = g.St.Store.seen c.step.new.store in
    stops-once x.disk.counts y.disk.counts c.in-Ended.request c.in-Ended.end (sym c.is_up_behind.ensures ∙ c.if-not-is_up_behind.true)
    (subst (λ r. OneCall x.disk.counts y.disk.counts r) c.in-Ended.is c.in_ok-settled.ensures.calls)

pub returns-in_ok-request_ends-in-Ended-clause-stops : goal.returns-in_ok-request_ends-in-Ended-clause-stops
returns-in_ok-request_ends-in-Ended-clause-stops g c =
    let x : Seen = g.St.Store.seen c.args.self.now.store in
    let y : Seen = g.St.Store.seen c.step.new.store in
    stops-not x.disk.counts y.disk.counts c.in-Ended.request c.in-Ended.end (sym c.is_up_behind.ensures ∙ c.if-not-is_up_behind.false)
    (subst (λ r. OneCall x.disk.counts y.disk.counts r) c.in-Ended.is c.in_ok-settled.ensures.calls)

-- where it makes its device call
pub returns-in-Going-clause-touches : goal.returns-in-Going-clause-touches
returns-in-Going-clause-touches g c = λ so ts s more h.
    let n = c.args.self.now in
    let x : Seen = g.St.Store.seen n.store in
    let y : Seen = g.St.Store.seen c.step.new.store in
    subst (λ e. TouchesOnce (touches_store s) x.disk.counts y.disk.counts (call_of_event e)) (sym c.turn_of-event.ensures)
    (subst (λ r. TouchesOnce (touches_store s) x.disk.counts y.disk.counts (end_of_step r)) c.in-Going.is
    (c.in_ok-settled.ensures.touches so s more h.disk))

pub returns-then-not-is_up_behind-clause-touches : goal.returns-then-not-is_up_behind-clause-touches
returns-then-not-is_up_behind-clause-touches g c = λ so ts s more h.
    let n = c.args.self.now in
    let x : Seen = g.St.Store.seen n.store in
    let y : Seen = g.St.Store.seen c.step.new.store in
    let stops : call_end c.in-Ended.end ≡ call_of_request end.Stop = stops-shown c.in-Ended.end
    (sym c.is_up_behind.ensures ∙ c.if-not-is_up_behind.true) in
    subst (λ e. TouchesOnce (touches_store s) x.disk.counts y.disk.counts (call_of_event e))
    (sym c.turn_of-event-then-not-is_up_behind.ensures)
    (subst (λ k. TouchesOnce (touches_store s) x.disk.counts y.disk.counts k) stops
    (subst (λ r. TouchesOnce (touches_store s) x.disk.counts y.disk.counts (end_of_step r)) c.in-Ended.is
    (c.in_ok-settled.ensures.touches so s more h.disk)))

pub returns-in_ok-request_ends-in-Ended-clause-touches : goal.returns-in_ok-request_ends-in-Ended-clause-touches
returns-in_ok-request_ends-in-Ended-clause-touches g c = λ so ts s more h.
    let n = c.args.self.now in
    let q = c.in-Ended.request in
    let x : Seen = g.St.Store.seen n.store in
    let y : Seen = g.St.Store.seen c.step.new.store in
    let shown : call_end c.in-Ended.end ≡ call_of_request (shown_as c.in-Ended.end) = call-shown c.in-Ended.end in
    subst (λ e. TouchesOnce (touches_store s) x.disk.counts y.disk.counts (call_of_event e))
    (sym (c.turn_of-event-in-Ended.ensures ∙ ap (λ how. event.Store q.uid y.disk.counts.clock how None) c.end_shown.ensures))
    (subst (λ k. TouchesOnce (touches_store s) x.disk.counts y.disk.counts k) shown
    (subst (λ r. TouchesOnce (touches_store s) x.disk.counts y.disk.counts (end_of_step r)) c.in-Ended.is
    (c.in_ok-settled.ensures.touches so s more h.disk)))

-- where there was no memory
pub returns-in_err-settled-clause-left : goal.returns-in_err-settled-clause-left
returns-in_err-settled-clause-left g c = any-err c.from_residual.result _ (left-still g.St.Device.Disk.obeys
    (g.St.Store.seen c.args.self.now.store).disk (g.St.Store.seen c.step.new.store).disk c.in_err-settled.ensures.unchanged.1.disk)

pub returns-in_err-request_ends-in-Ended-clause-left : goal.returns-in_err-request_ends-in-Ended-clause-left
returns-in_err-request_ends-in-Ended-clause-left g c = any-err c.from_residual-in_err-request_ends-in-Ended.result _
    (let one = c.in_ok-settled.ensures.calls in left-behind g.St.Device.Disk.obeys one.made (g.St.Store.seen c.args.self.now.store).disk
    (g.St.Store.seen c.step.new.store).disk _ one.counts c.in_ok-settled.ensures.obeyed)
