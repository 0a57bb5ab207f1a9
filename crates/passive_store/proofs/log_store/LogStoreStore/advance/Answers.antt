use Rattle.std.proofs.Common.{refl}
use Rattle.passive_store.specs.Kept.{job_left}
use Rattle.passive_store.proofs.Joining.{none_refused_after}
use Rattle.passive_store.proofs.log_store.LogStoreStore.advance.Goals as goal

pub returns : goal.returns
returns g c =
    let e = c.advance_job.ensures in
    record {
      goes = record { node = e.node; obeyed = e.obeyed; timed = e.timed; stands = e.stands };
      only = e.only;
      counts = e.counts;
      last = e.last;
      told = e.told;
      work = e.work;
      picked = e.picked;
      more = refl;
      at = none_refused_after (job_left c.args.self.now.work) c.advance_job.result;
      kept = e.kept;
      moments = e.moments;
    }
