use Rattle.passive_store.specs.Seen.{Seen}
use Rattle.eden_kernel.proofs.Outcomes.{both-ok}
use Rattle.eden_kernel.proofs.Still.{turns-shifted, shift-started}
use Rattle.eden_kernel.proofs.Node.start.Goals as goal

pub returns-clause-turn : goal.returns-clause-turn
returns-clause-turn g c = λ so.
    let x : Seen = g.St.Store.seen c.args.self.now.store in
    both-ok _ _ _ c.start.result c.start.ensures.event c.start.ensures.steps (λ e is steps reach s sound h.
    turns-shifted g.St.Store.layout c.args.types.now c.args.self.now.number x c.args.self.now.ejects c.start.new.self c.args.self.now.worker
    c.args.calls.now c.args.calls.now reach s e (shift-started reach c.args.uid e s is) (steps reach s sound h.calls) h)
