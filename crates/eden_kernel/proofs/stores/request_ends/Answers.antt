use Rattle.std.proofs.Common.{None, sym, subst, ◌∙◌}
use Rattle.ejects.specs.StoreEnds.{IsFirst}
use Rattle.eden_kernel.specs.DiskTurns.{shown_as}
use Rattle.eden_kernel.proofs.StoreTurn.{goes-too, stays-inactive, stays-unremoved}
use Rattle.eden_kernel.proofs.stores.request_ends.Goals.{else-removed-via-then-removed+else-active, else-removed-via-else-removed}
use Rattle.eden_kernel.proofs.stores.request_ends.Goals as goal

pub returns-then-active-clause-ends : goal.returns-then-active-clause-ends
returns-then-active-clause-ends c = λ ts reach clock s sound at first shown allowed.
    c.in_ok-store_ends.ensures.turn ts reach clock (shown_as c.args.end) None s sound at
    (subst (λ b. IsFirst c.args.request.now.uid c.args.request.now.process b s) (sym c.is_removal.ensures) first) shown allowed

pub returns-then-active-clause-requests : goal.returns-then-active-clause-requests
returns-then-active-clause-requests c = λ ts.
    c.drop_requests.ensures.requests
    ∙ goes-too _ _ c.args.worker.now.begun c.args.request.now.uid c.args.worker.now.requests.items
    (sym c.is_removed-removed.ensures ∙ c.if-removed.true) (sym (c.is_active-active.ensures ts) ∙ c.if-active.true)

pub returns-else-removed-clause-ends : goal.returns-else-removed-clause-ends
returns-else-removed-clause-ends c = λ ts reach clock s sound at first shown allowed.
    c.in_ok-store_ends.ensures.turn ts reach clock (shown_as c.args.end) None s sound at
    (subst (λ b. IsFirst c.args.request.now.uid c.args.request.now.process b s) (sym c.is_removal.ensures) first) shown allowed

pub returns-else-removed-clause-requests : goal.returns-else-removed-clause-requests
returns-else-removed-clause-requests c = λ ts. elim c.else-removed.branch [
  | else-removed-via-then-removed+else-active w ↦ stays-inactive _ _ c.args.worker.now.begun c.args.request.now.uid
      c.args.worker.now.requests.items (sym (c.is_active-active.ensures ts) ∙ w.if-active.false)
  | else-removed-via-else-removed w ↦ stays-unremoved _ _ c.args.worker.now.begun c.args.request.now.uid
      c.args.worker.now.requests.items (sym c.is_removed-removed.ensures ∙ w.if-removed.false)
]
