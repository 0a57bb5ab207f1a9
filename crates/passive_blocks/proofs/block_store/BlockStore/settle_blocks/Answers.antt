use Rattle.std.proofs.Common.{sym, subst}
use Rattle.std.proofs.lemmas.Result.{err_from_is_err_and}
use Rattle.passive_store.proofs.Joining.{sync_refused, read_refused, both_settled}
use Rattle.passive_blocks.specs.StoreState.{HasEntry}
use Rattle.passive_blocks.proofs.StageAnew.{anew_waits, settled_anew, settled_none}
use Rattle.passive_blocks.proofs.block_store.BlockStore.settle_blocks.Goals as goal

pub returns-in_err-settle_once-clause-settled : goal.returns-in_err-settle_once-clause-settled
returns-in_err-settle_once-clause-settled g c =
    let p = err_from_is_err_and c.from_residual.result c.from_residual.ensures.1 in
    let waits = anew_waits _ _ _ _ _ c.begin_settling.ensures.anew c.if-begin_settling.true in
    rw (p.1, p.2) (settled_anew _ _ _ _ _ _ _ _ c.begin_settling.ensures.anew
    (sync_refused _ _ _ _ _ _ waits.0 waits.1 c.in_err-settle_once.ensures.settles))

pub returns-in_err-settle_once-2-clause-settled : goal.returns-in_err-settle_once-2-clause-settled
returns-in_err-settle_once-2-clause-settled g c =
    let p = err_from_is_err_and c.from_residual-in_err-settle_once-2.result c.from_residual-in_err-settle_once-2.ensures.1 in
    let waits = anew_waits _ _ _ _ _ c.begin_settling.ensures.anew c.if-begin_settling.true in
    rw (p.1, p.2) (settled_anew _ _ _ _ _ _ _ _ c.begin_settling.ensures.anew
    (read_refused _ _ _ _ _ _ _ _ waits.0 waits.1 c.in_ok-settle_once.ensures.settles c.in_err-settle_once-2.ensures.settles))

pub returns-in_ok-settle_once-2-clause-settled : goal.returns-in_ok-settle_once-2-clause-settled
returns-in_ok-settle_once-2-clause-settled g c =
    let waits = anew_waits _ _ _ _ _ c.begin_settling.ensures.anew c.if-begin_settling.true in
    settled_anew _ _ _ _ _ _ _ _ c.begin_settling.ensures.anew
    (both_settled _ _ _ _ _ _ _ _ waits.0 waits.1 c.in_ok-settle_once.ensures.settles c.in_ok-settle_once-2.ensures.settles)

pub returns-else-begin_settling-clause-settled : goal.returns-else-begin_settling-clause-settled
returns-else-begin_settling-clause-settled g c = settled_none _ _ _ _ _ _ c.requires c.if-begin_settling.false c.begin_settling.ensures.anew

pub returns-in_err-settle_once-clause-entries : goal.returns-in_err-settle_once-clause-entries
returns-in_err-settle_once-clause-entries g c = λ q here.
    c.settle_once.ensures.entries q (subst (λ e. HasEntry e q) (sym c.begin_settling.ensures.entries) here)

pub returns-in_err-settle_once-2-clause-entries : goal.returns-in_err-settle_once-2-clause-entries
returns-in_err-settle_once-2-clause-entries g c = λ q here.
    c.settle_once-then-begin_settling.ensures.entries q
    (c.settle_once.ensures.entries q (subst (λ e. HasEntry e q) (sym c.begin_settling.ensures.entries) here))

pub returns-in_ok-settle_once-2-clause-entries : goal.returns-in_ok-settle_once-2-clause-entries
returns-in_ok-settle_once-2-clause-entries g c = λ q here.
    c.settle_once-then-begin_settling.ensures.entries q
    (c.settle_once.ensures.entries q (subst (λ e. HasEntry e q) (sym c.begin_settling.ensures.entries) here))

pub returns-else-begin_settling-clause-entries : goal.returns-else-begin_settling-clause-entries
returns-else-begin_settling-clause-entries g c = λ q here. subst (λ e. HasEntry e q) (sym c.begin_settling.ensures.entries) here
