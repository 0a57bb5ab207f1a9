use Rattle.std.proofs.Common.{[], refl, subst, arith, inl}
use Rattle.std.specs.Prelude.{Ok}
use Rattle.std.proofs.lemmas.Result.{err_from_is_err_and}
use Rattle.eden_disk.proofs.Held.{calls_none, obeyed_none}
use Rattle.passive_store.specs.Seen.{Seen, Advances}
use Rattle.passive_store.proofs.Joining.{timed_still, goes_on, last_done, last_refused}
use Rattle.passive_blocks.specs.BlockLayout.{block_layout}
use Rattle.passive_blocks.specs.StoreState.{block_seen}
use Rattle.passive_blocks.proofs.block_store.BlockStore.finish_job.Goals as goal

pub loop-init : goal.loop-init
loop-init g c = record {
  made = 0;
  counts = calls_none _ c.requires.power;
  obeyed = λ so. obeyed_none _ _;
  timed = λ so. timed_still _ _ _ _ (omega arith) refl;
  done = [];
  order = refl;
  told = λ so. refl;
  node = refl;
  picked = refl;
  more = refl;
  busy = c.requires.busy;
  change = refl;
  left = omega arith;
  some = c.requires.some;
  kept = λ so. refl;
  moments = λ so. inl refl;
}

pub loop-preserved : goal.loop-preserved
loop-preserved g c =
    let here : Seen = block_seen g.D.Disk.counts g.D.Disk.told g.D.Disk.due c.loop.self in
    let next : Seen = block_seen g.D.Disk.counts g.D.Disk.told g.D.Disk.due c.advance_job.new.self in
    goes_on _ _ _ _ here next c.loop.invariant
    (subst (λ p. Advances g.D.Disk.tells g.D.Disk.obeys block_layout (Ok p) here next) c.in-Going.is c.in_ok-advance_job.ensures)

pub returns-in_err-advance_job : goal.returns-in_err-advance_job
returns-in_err-advance_job g c =
    let p = err_from_is_err_and c.from_residual.result c.from_residual.ensures.1 in
    let here : Seen = block_seen g.D.Disk.counts g.D.Disk.told g.D.Disk.due c.loop.self in
    let next : Seen = block_seen g.D.Disk.counts g.D.Disk.told g.D.Disk.due c.advance_job.new.self in
    rw (p.1, p.2) (last_refused _ _ _ _ here next _ c.requires.busy c.loop.invariant c.in_err-advance_job.ensures)

pub returns : goal.returns
returns g c =
    let here : Seen = block_seen g.D.Disk.counts g.D.Disk.told g.D.Disk.due c.loop.self in
    let next : Seen = block_seen g.D.Disk.counts g.D.Disk.told g.D.Disk.due c.advance_job.new.self in
    last_done _ _ _ _ here next c.requires.busy c.loop.invariant
    (subst (λ p. Advances g.D.Disk.tells g.D.Disk.obeys block_layout (Ok p) here next) c.in_default.is c.in_ok-advance_job.ensures)
