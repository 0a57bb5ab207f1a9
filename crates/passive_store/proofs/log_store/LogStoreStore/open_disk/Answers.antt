use Rattle.std.proofs.Common.{None, refl}
use Rattle.std.proofs.lemmas.Bool.{false≢true}
use Rattle.eden_disk.specs.Told.{contents}
use Rattle.passive_store.specs.declared.opening.Found.{Found}
use Rattle.passive_store.specs.Seen.{Seen}
use Rattle.passive_store.proofs.Joining.{counts_alike, obeyed_alike, made_alike, opening_alike, unless_full}
use Rattle.passive_store.proofs.Tails.{log_stands}
use Rattle.passive_store.proofs.log_store.LogStoreStore.open_disk.Goals as goal

pub returns-in-Ok-clause-opens : goal.returns-in-Ok-clause-opens
returns-in-Ok-clause-opens g c =
    let e = c.in-Ok.ensures in
    record {
      whole = e.whole;
      made = e.ran.0;
      counts = e.ran.1.0;
      number = e.ran.1.1;
      order = e.order;
      obeyed = e.obeyed;
      timed = e.timed;
      node_is = refl;
      idle = (refl, refl, refl);
      map = e.map;
      damaged = λ tells. tt;
      full = λ tells. refl;
      never_full = λ never. tt;
      more = λ tells. refl;
      stands = λ tells.
          log_stands c.args.node c.in-Ok.found.size c.in-Ok.found.tail (contents (g.D.Disk.told c.open_log.new.disk))
          (g.D.Disk.counts c.open_log.new.disk) c.in-Ok.found.index None e.placed (e.log tells);
      moments = λ tells told then changes h. ((e.keeps tells).mapped told then changes h).moments;
      overfull = λ tells then h. absurd (false≢true h.now.1);
      unmapped = λ tells place h. ((e.keeps tells).unmapped place h).moments;
    }

pub returns-in-Err-clause-opens : goal.returns-in-Err-clause-opens
returns-in-Err-clause-opens g c =
    let e = c.in-Err.ensures in
    let refusal = c.in-Err.refusal in
    record {
      whole = e.whole;
      made = e.ran.0;
      counts = counts_alike Found Seen refusal _ _ _ e.ran.1.0;
      number = λ tells. made_alike Found Seen refusal _ _ (e.ran.1.1 tells);
      order = λ tells. opening_alike Found Seen refusal _ _ _ (e.order tells);
      obeyed = λ so. obeyed_alike Found Seen refusal _ _ _ _ (e.obeyed so);
      timed = e.timed;
      node_is = tt;
      idle = tt;
      map = λ tells. tt;
      damaged = e.damaged;
      full = λ tells. unless_full Seen refusal e.never_full;
      never_full = λ never. e.never_full;
      more = λ tells. tt;
      stands = λ tells. tt;
      moments = λ tells told then changes h. ((e.keeps tells).mapped told then changes h).moments;
      overfull = λ tells then h. absurd (false≢true h.now.1);
      unmapped = λ tells place h. ((e.keeps tells).unmapped place h).moments;
    }
