use Rattle.std.proofs.Common.{[], refl, subst, arith, inl}
use Rattle.std.specs.Prelude.{Ok, Err}
use Rattle.std.proofs.lemmas.Result.{err_from_is_err_and}
use Rattle.eden_disk.proofs.Held.{calls_none, obeyed_none}
use Rattle.passive_store.specs.Kept.{job_left}
use Rattle.passive_store.specs.LogLayout.{log_layout}
use Rattle.passive_store.specs.LogState.{log_seen}
use Rattle.passive_store.specs.Seen.{Seen, Advances}
use Rattle.passive_store.proofs.Joining.{timed_still, none_refused_after, goes_on, last_done, last_refused}
use Rattle.passive_store.proofs.log_store.LogStore.finish_job.Goals as goal

pub loop-init : goal.loop-init
loop-init g c = record {
  made = 0;
  counts = calls_none _ c.requires.power;
  obeyed = λ so. obeyed_none _ _;
  timed = λ so. timed_still _ _ _ _ (omega arith) refl;
  done = [];
  order = refl;
  told = λ so. refl;
  node = refl;
  picked = refl;
  more = refl;
  busy = c.requires.busy;
  change = refl;
  left = omega arith;
  some = c.requires.some;
  kept = λ so. refl;
  moments = λ so. inl refl;
}

pub loop-preserved : goal.loop-preserved
loop-preserved g c =
    let here : Seen = log_seen g.D.Disk.counts g.D.Disk.told g.D.Disk.due c.loop.self in
    let next : Seen = log_seen g.D.Disk.counts g.D.Disk.told g.D.Disk.due c.advance_job.new.self in
    let e = c.in_ok-advance_job.ensures in
    let went : Advances g.D.Disk.tells g.D.Disk.obeys log_layout (Ok c.in_ok-advance_job.field-0) here next = record {
      goes = record { node = e.node; obeyed = e.obeyed; timed = e.timed; stands = e.stands };
      only = e.only;
      counts = e.counts;
      last = e.last;
      told = e.told;
      work = e.work;
      picked = e.picked;
      more = refl;
      at = none_refused_after (job_left here.work) (Ok c.in_ok-advance_job.field-0);
      kept = e.kept;
      moments = e.moments;
    } in
    goes_on _ _ _ _ here next c.loop.invariant
    (subst (λ p. Advances g.D.Disk.tells g.D.Disk.obeys log_layout (Ok p) here next) c.in-Going.is went)

pub returns-in_err-advance_job : goal.returns-in_err-advance_job
returns-in_err-advance_job g c =
    let p = err_from_is_err_and c.from_residual.result c.from_residual.ensures.1 in
    let here : Seen = log_seen g.D.Disk.counts g.D.Disk.told g.D.Disk.due c.loop.self in
    let next : Seen = log_seen g.D.Disk.counts g.D.Disk.told g.D.Disk.due c.advance_job.new.self in
    let e = c.in_err-advance_job.ensures in
    let went : Advances g.D.Disk.tells g.D.Disk.obeys log_layout (Err c.in_err-advance_job.field-0.0) here next = record {
      goes = record { node = e.node; obeyed = e.obeyed; timed = e.timed; stands = e.stands };
      only = e.only;
      counts = e.counts;
      last = e.last;
      told = e.told;
      work = e.work;
      picked = e.picked;
      more = refl;
      at = none_refused_after (job_left here.work) (Err c.in_err-advance_job.field-0.0);
      kept = e.kept;
      moments = e.moments;
    } in
    rw (p.1, p.2) (last_refused _ _ _ _ here next _ c.requires.busy c.loop.invariant went)

pub returns : goal.returns
returns g c =
    let here : Seen = log_seen g.D.Disk.counts g.D.Disk.told g.D.Disk.due c.loop.self in
    let next : Seen = log_seen g.D.Disk.counts g.D.Disk.told g.D.Disk.due c.advance_job.new.self in
    let e = c.in_ok-advance_job.ensures in
    let went : Advances g.D.Disk.tells g.D.Disk.obeys log_layout (Ok c.in_ok-advance_job.field-0) here next = record {
      goes = record { node = e.node; obeyed = e.obeyed; timed = e.timed; stands = e.stands };
      only = e.only;
      counts = e.counts;
      last = e.last;
      told = e.told;
      work = e.work;
      picked = e.picked;
      more = refl;
      at = none_refused_after (job_left here.work) (Ok c.in_ok-advance_job.field-0);
      kept = e.kept;
      moments = e.moments;
    } in
    last_done _ _ _ _ here next c.requires.busy c.loop.invariant
    (subst (λ p. Advances g.D.Disk.tells g.D.Disk.obeys log_layout (Ok p) here next) c.in_default.is went)
