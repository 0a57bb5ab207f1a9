use Rattle.passive_store.specs.Seen.{Seen}
use Rattle.eden_kernel.proofs.Fallen.{broken-stands}
use Rattle.eden_kernel.proofs.Node.broken.Goals as goal

pub returns-clause-told : goal.returns-clause-told
returns-clause-told g c = λ so ts m s loose h.
    let x : Seen = g.St.Store.seen c.args.self.now.store in
    broken-stands g.St.Store.layout ts c.args.self.now.number x c.args.self.now.ejects c.broken.new.self c.args.self.now.worker m c.args.uid
    c.args.process s h (c.broken.ensures ts s h.calls.parts loose)
