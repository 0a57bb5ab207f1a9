use Rattle.std.proofs.Common.{[], refl, subst, arith, inl}
use Rattle.std.specs.Prelude.{Ok}
use Rattle.std.proofs.lemmas.Result.{err_from_is_err_and}
use Rattle.eden_disk.proofs.Held.{calls_none, obeyed_none}
use Rattle.passive_store.specs.Seen.{Advances}
use Rattle.passive_store.proofs.Joining.{timed_still, goes_on, last_done, last_refused}
use Rattle.passive_store.proofs.steps.finish.Goals as goal

pub loop-init : goal.loop-init
loop-init g c = record {
  made = 0;
  counts = calls_none _ c.requires.power;
  obeyed = λ so. obeyed_none _ _;
  timed = λ so. timed_still _ _ _ _ (omega arith) refl;
  done = [];
  order = refl;
  told = λ so. refl;
  node = refl;
  picked = refl;
  more = refl;
  busy = c.requires.busy;
  change = refl;
  left = omega arith;
  some = c.requires.some;
  kept = λ so. refl;
  moments = λ so. inl refl;
}

pub loop-preserved : goal.loop-preserved
loop-preserved g c =
    let here = g.St.Store.seen c.loop.store in
    let next = g.St.Store.seen c.advance.new.self in
    goes_on _ _ _ _ here next c.loop.invariant
    (subst (λ p. Advances g.St.Device.Disk.tells g.St.Device.Disk.obeys g.St.Store.layout (Ok p) here next) c.in-Going.is
    c.in_ok-advance.ensures)

pub returns-in_err-advance : goal.returns-in_err-advance
returns-in_err-advance g c =
    let p = err_from_is_err_and c.from_residual.result c.from_residual.ensures.1 in
    rw (p.1, p.2) (last_refused _ _ _ _ _ _ _ c.requires.busy c.loop.invariant c.in_err-advance.ensures)

pub returns : goal.returns
returns g c =
    let here = g.St.Store.seen c.loop.store in
    let next = g.St.Store.seen c.advance.new.self in
    last_done _ _ _ _ here next c.requires.busy c.loop.invariant
    (subst (λ p. Advances g.St.Device.Disk.tells g.St.Device.Disk.obeys g.St.Store.layout (Ok p) here next) c.in_default.is
    c.in_ok-advance.ensures)
