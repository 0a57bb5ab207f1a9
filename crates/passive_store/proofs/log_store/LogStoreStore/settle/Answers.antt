use Rattle.std.proofs.Common.{refl}
use Rattle.passive_store.proofs.log_store.LogStoreStore.settle.Goals as goal

pub returns : goal.returns
returns g c =
    let e = c.settle_log.ensures in
    record {
      goes = record { node = e.node; obeyed = e.obeyed; timed = e.timed; stands = e.stands };
      only = e.only;
      refused = e.refused;
      ran = e.ran;
      order = e.order;
      work = e.work;
      picked = e.picked;
      more = refl;
      at = refl;
      kept = e.kept;
      fresh = e.fresh;
      moments = e.moments;
    }
