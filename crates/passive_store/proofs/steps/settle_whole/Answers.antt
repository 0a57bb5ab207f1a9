use Rattle.std.proofs.lemmas.Result.{err_from_is_err_and}
use Rattle.passive_store.proofs.Joining.{sync_refused, read_refused, both_settled}
use Rattle.passive_store.proofs.steps.settle_whole.Goals as goal

pub returns-in_err-settle_step : goal.returns-in_err-settle_step
returns-in_err-settle_step g c =
    let p = err_from_is_err_and c.from_residual.result c.from_residual.ensures.1 in
    rw (p.1, p.2) (sync_refused _ _ _ _ _ _ c.requires.unsettled c.requires.unsynced c.in_err-settle_step.ensures)

pub returns-in_err-settle_step-2 : goal.returns-in_err-settle_step-2
returns-in_err-settle_step-2 g c =
    let p = err_from_is_err_and c.from_residual-in_err-settle_step-2.result c.from_residual-in_err-settle_step-2.ensures.1 in
    rw (p.1, p.2) (read_refused _ _ _ _ _ _ _ _ c.requires.unsettled c.requires.unsynced c.in_ok-settle_step.ensures
    c.in_err-settle_step-2.ensures)

pub returns : goal.returns
returns g c = both_settled _ _ _ _ _ _ _ _ c.requires.unsettled c.requires.unsynced c.in_ok-settle_step.ensures
    c.in_ok-settle_step-2.ensures
