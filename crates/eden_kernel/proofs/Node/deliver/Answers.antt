use Rattle.passive_store.specs.Seen.{Seen}
use Rattle.ejects.specs.View.{number_of}
use Rattle.eden_kernel.proofs.Outcomes.{both-ok}
use Rattle.eden_kernel.proofs.Still.{turns-shifted, shift-delivery}
use Rattle.eden_kernel.proofs.Node.deliver.Goals as goal

pub returns-clause-turn : goal.returns-clause-turn
returns-clause-turn g c = λ so.
    let x : Seen = g.St.Store.seen c.args.self.now.store in
    both-ok _ _ _ c.deliver.result c.deliver.ensures.event c.deliver.ensures.steps (λ e is steps reach s sound h.
    turns-shifted g.St.Store.layout c.args.types.now c.args.self.now.number x c.args.self.now.ejects c.deliver.new.self
    c.args.self.now.worker
    c.args.calls.now c.deliver.new.calls reach s e (shift-delivery reach c.args.from (number_of c.args.self.now.ejects) e s is) (steps
    reach s sound h.calls) h)
