use Rattle.std.proofs.Common.{false, sym, ap, ◌∙◌}
use Rattle.eden_model.specs.Map.{with_item, same_uid}
use Rattle.passive_store.specs.Seen.{Seen}
use Rattle.checkpoint.specs.Asked.{requests_of}
use Rattle.eden_kernel.proofs.Looking.{works-on}
use Rattle.eden_kernel.proofs.Node.worked_on.Goals as goal

pub returns : goal.returns
returns g c = λ so ts m s h u.
    let n = c.args.self.now in
    let x : Seen = g.St.Store.seen n.store in
    works-on g.St.Store.layout x.node s (requests_of x.work n.worker.requests.items) x h.disk u
    ∙ sym (ap (λ o. with_item o (λ v. same_uid v u) false) c.working_on.ensures)
