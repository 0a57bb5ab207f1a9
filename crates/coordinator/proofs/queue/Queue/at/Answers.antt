use Rattle.std.proofs.Common.{◌<◌, sym, length, arith}
use Rattle.coordinator.proofs.Queues.{length-invocations, invocations-get}
use Rattle.coordinator.proofs.queue.Queue.at.Goals as goal

pub index-call-requires : goal.index-call-requires
index-call-requires c =
    let within : c.args.place < length c.self.inside.calls.items =
    rw (← c.self.view_is, length-invocations c.self.inside.calls.items c.self.inside.classes.items c.self.invariant) at c.requires in
    omega (arith, within)

pub index-class-requires : goal.index-class-requires
index-class-requires c =
    let within : c.args.place < length c.self.inside.calls.items =
    rw (← c.self.view_is, length-invocations c.self.inside.calls.items c.self.inside.classes.items c.self.invariant) at c.requires in
    omega (arith, within, c.self.invariant)

pub returns : goal.returns
returns c =
    let ks = c.self.inside.calls.items in
    let cs = c.self.inside.classes.items in
    let within : c.args.place < length ks = rw (← c.self.view_is, length-invocations ks cs c.self.invariant) at c.requires in
    rw (← c.self.view_is)
    (invocations-get ks cs c.args.place c.index-call.result.now c.index-class.result.now c.self.invariant within (sym c.index-call.ensures)
    (sym c.index-class.ensures))
