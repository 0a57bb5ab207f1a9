use Rattle.passive_store.specs.Seen.{Seen}
use Rattle.eden_kernel.proofs.Looking.{waits}
use Rattle.eden_kernel.proofs.Node.pending.Goals as goal

pub returns-clause-waits : goal.returns-clause-waits
returns-clause-waits g c = λ so ts m s h.
    let n = c.args.self.now in
    let x : Seen = g.St.Store.seen n.store in
    waits g.St.Store.layout x.node s n.worker.requests.items x c.pending.result h.disk c.pending.ensures
