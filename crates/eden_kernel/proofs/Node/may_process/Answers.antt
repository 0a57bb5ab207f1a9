use Rattle.eden_kernel.proofs.Node.may_process.Goals as goal

pub returns-then-is_eject : goal.returns-then-is_eject
returns-then-is_eject g c ts = (
  λ ready. record { own = c.is_eject.ensures.0 c.if-is_eject.true; ready = (c.is_ready.ensures ts).0 ready },
  λ may. (c.is_ready.ensures ts).1 may.ready,
)
