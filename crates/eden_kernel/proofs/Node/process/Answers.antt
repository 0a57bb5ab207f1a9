use Rattle.std.proofs.Common.{subst}
use Rattle.passive_store.specs.Kept.{IsEject}
use Rattle.passive_store.specs.Seen.{Seen}
use Rattle.ejects.specs.Passive.{IsKeptIn}
use Rattle.checkpoint.specs.Asked.{requests_of}
use Rattle.eden_kernel.proofs.Outcomes.{three-ok}
use Rattle.eden_kernel.proofs.Processing.{kept-in, requests-are, turns-process}
use Rattle.eden_kernel.proofs.Node.process.Goals as goal

pub returns-clause-turn : goal.returns-clause-turn
returns-clause-turn g c = λ so.
    let x : Seen = g.St.Store.seen c.args.self.now.store in
    let own : IsEject x.node c.args.uid =
    subst (λ k. IsEject k c.args.uid) c.requires.whole.number c.requires.may.own in
    three-ok _ _ _ _ c.process.result c.process.ensures.event c.process.ensures.parts c.process.ensures.requests
    (λ e is parts requests reach s reached sound fresh h.
    let kept : IsKeptIn s c.args.uid c.is_kept-stays.result =
    kept-in g.St.Store.layout x.node s c.args.uid (requests_of x.work c.args.self.now.worker.requests.items) x c.is_kept-stays.result
    h.disk own
    (c.is_kept-stays.ensures so) in
    turns-process g.St.Store.layout c.args.types.now c.args.self.now.number x c.args.self.now.ejects c.process.new.self
    c.args.self.now.worker c.process.new.worker c.args.calls.now c.process.new.calls reach s c.args.uid c.args.process e is
    (parts reach s sound h.calls kept reached fresh) h
    (requests reach s x.work x.disk.counts.size sound h.calls kept
    (requests-are g.St.Store.layout x.node s c.args.self.now.worker x h.disk c.requires.whole.begun)))
