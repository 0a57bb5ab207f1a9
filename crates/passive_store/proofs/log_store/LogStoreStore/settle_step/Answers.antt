use Rattle.std.proofs.Common.{refl}
use Rattle.passive_store.proofs.log_store.LogStoreStore.settle_step.Goals as goal

pub returns : goal.returns
returns g c =
    let e = c.settle_once.ensures in
    record {
      goes = record { node = e.node; obeyed = e.obeyed; timed = e.timed; stands = e.stands };
      only = e.only;
      counts = e.counts;
      last = e.last;
      told = e.told;
      work = e.work;
      picked = e.picked;
      more = refl;
      at = refl;
      kept = e.kept;
      fresh = e.fresh;
      moments = e.moments;
    }
