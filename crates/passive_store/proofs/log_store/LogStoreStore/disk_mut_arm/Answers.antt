use Rattle.std.proofs.Common.{refl, ap}
use Rattle.eden_disk.specs.Told.{contents}
use Rattle.passive_store.specs.LogLayout.{log_kept}
use Rattle.passive_store.proofs.log_store.LogStoreStore.disk_mut_arm.Goals as goal

pub returns : goal.returns
returns g c =
    let s = c.self.inside in
    let e = c.arm.ensures in
    rw (← c.self.view_is) (record {
      node = refl;
      work = refl;
      picked = refl;
      more = refl;
      at = refl;
      counts = e.counts;
      told = e.told;
      due = e.due;
      kept = λ tells. ap (λ t. log_kept s.node s.tail (contents t).now) e.told;
    })
