use Rattle.std.proofs.Common.{◌≡◌, true, refl, sym, ap, subst, ◌∙◌}
use Rattle.std.specs.Prelude.{Ok, Err}
use Rattle.std.proofs.lemmas.Result.{err_from_is_err_and}
use Rattle.passive_store.specs.Kept.{is_unsettled}
use Rattle.passive_store.specs.LogLayout.{log_layout}
use Rattle.passive_store.specs.LogState.{log_seen, HasEntry}
use Rattle.passive_store.specs.Seen.{Seen, SettlesOneCall, disk_seen}
use Rattle.passive_store.proofs.Joining.{sync_refused, read_refused, both_settled}
use Rattle.passive_store.proofs.Pendings.{anew_unsettled}
use Rattle.passive_store.proofs.Settling.{settled_anew}
use Rattle.passive_store.proofs.log_store.LogStore.settle_log.Goals as goal

pub returns-in_err-settle_once : goal.returns-in_err-settle_once
returns-in_err-settle_once g c =
    let seen = log_seen g.D.Disk.counts g.D.Disk.told g.D.Disk.due in
    let old : Seen = seen c.args.self.now in
    let begun : Seen = seen c.begin_settling.new.self in
    let mid : Seen = seen c.settle_once.new.self in
    let p = err_from_is_err_and c.from_residual.result c.from_residual.ensures.1 in
    let begin = c.begin_settling.ensures in
    let unsettled : is_unsettled old.work ≡ true = sym begin.unsettled ∙ c.if-begin_settling.true in
    let u = anew_unsettled old.work begun.work begin.work unsettled in
    let first : SettlesOneCall g.D.Disk.tells g.D.Disk.obeys log_layout (Err _) begun mid =
    let e = c.in_err-settle_once.ensures in
    record {
      goes = record { node = e.node; obeyed = e.obeyed; timed = e.timed; stands = e.stands };
      only = e.only;
      counts = e.counts;
      last = e.last;
      told = e.told;
      work = e.work;
      picked = e.picked;
      more = refl;
      at = refl;
      kept = e.kept;
      fresh = e.fresh;
      moments = e.moments;
    } in
    let s = settled_anew g.D.Disk.tells g.D.Disk.obeys _ old begun mid begin.node
    (ap (disk_seen g.D.Disk.counts g.D.Disk.told g.D.Disk.due) begin.device) refl refl begin.kept begin.work begin.fresh
    (sync_refused _ _ log_layout begun mid _ u.0 u.1 first) in
    rw (p.1, p.2) (record {
      node = s.goes.node;
      order = s.order;
      ran = s.ran;
      obeyed = s.goes.obeyed;
      timed = s.goes.timed;
      only = s.only;
      refused = s.refused;
      picked = s.picked;
      work = s.work;
      entries = λ q h. c.in_err-settle_once.ensures.entries q (subst (λ l. HasEntry l q) (sym begin.entries) h);
      kept = s.kept;
      fresh = s.fresh;
      stands = s.goes.stands;
      moments = s.moments;
    })

pub returns-in_err-settle_once-2 : goal.returns-in_err-settle_once-2
returns-in_err-settle_once-2 g c =
    let seen = log_seen g.D.Disk.counts g.D.Disk.told g.D.Disk.due in
    let old : Seen = seen c.args.self.now in
    let begun : Seen = seen c.begin_settling.new.self in
    let mid : Seen = seen c.settle_once.new.self in
    let new : Seen = seen c.settle_once-then-begin_settling.new.self in
    let p = err_from_is_err_and c.from_residual-in_err-settle_once-2.result c.from_residual-in_err-settle_once-2.ensures.1 in
    let begin = c.begin_settling.ensures in
    let unsettled : is_unsettled old.work ≡ true = sym begin.unsettled ∙ c.if-begin_settling.true in
    let u = anew_unsettled old.work begun.work begin.work unsettled in
    let first : SettlesOneCall g.D.Disk.tells g.D.Disk.obeys log_layout (Ok _) begun mid =
    let e = c.in_ok-settle_once.ensures in
    record {
      goes = record { node = e.node; obeyed = e.obeyed; timed = e.timed; stands = e.stands };
      only = e.only;
      counts = e.counts;
      last = e.last;
      told = e.told;
      work = e.work;
      picked = e.picked;
      more = refl;
      at = refl;
      kept = e.kept;
      fresh = e.fresh;
      moments = e.moments;
    } in
    let second : SettlesOneCall g.D.Disk.tells g.D.Disk.obeys log_layout (Err _) mid new =
    let e = c.in_err-settle_once-2.ensures in
    record {
      goes = record { node = e.node; obeyed = e.obeyed; timed = e.timed; stands = e.stands };
      only = e.only;
      counts = e.counts;
      last = e.last;
      told = e.told;
      work = e.work;
      picked = e.picked;
      more = refl;
      at = refl;
      kept = e.kept;
      fresh = e.fresh;
      moments = e.moments;
    } in
    let s = settled_anew g.D.Disk.tells g.D.Disk.obeys _ old begun new begin.node
    (ap (disk_seen g.D.Disk.counts g.D.Disk.told g.D.Disk.due) begin.device) refl refl begin.kept begin.work begin.fresh
    (read_refused _ _ log_layout begun mid new _ _ u.0 u.1 first second) in
    rw (p.1, p.2) (record {
      node = s.goes.node;
      order = s.order;
      ran = s.ran;
      obeyed = s.goes.obeyed;
      timed = s.goes.timed;
      only = s.only;
      refused = s.refused;
      picked = s.picked;
      work = s.work;
      entries = λ q h. c.in_err-settle_once-2.ensures.entries q (c.in_ok-settle_once.ensures.entries q
          (subst (λ l. HasEntry l q) (sym begin.entries) h));
      kept = s.kept;
      fresh = s.fresh;
      stands = s.goes.stands;
      moments = s.moments;
    })

pub returns-in_ok-settle_once-2 : goal.returns-in_ok-settle_once-2
returns-in_ok-settle_once-2 g c =
    let seen = log_seen g.D.Disk.counts g.D.Disk.told g.D.Disk.due in
    let old : Seen = seen c.args.self.now in
    let begun : Seen = seen c.begin_settling.new.self in
    let mid : Seen = seen c.settle_once.new.self in
    let new : Seen = seen c.settle_once-then-begin_settling.new.self in
    let begin = c.begin_settling.ensures in
    let unsettled : is_unsettled old.work ≡ true = sym begin.unsettled ∙ c.if-begin_settling.true in
    let u = anew_unsettled old.work begun.work begin.work unsettled in
    let first : SettlesOneCall g.D.Disk.tells g.D.Disk.obeys log_layout (Ok _) begun mid =
    let e = c.in_ok-settle_once.ensures in
    record {
      goes = record { node = e.node; obeyed = e.obeyed; timed = e.timed; stands = e.stands };
      only = e.only;
      counts = e.counts;
      last = e.last;
      told = e.told;
      work = e.work;
      picked = e.picked;
      more = refl;
      at = refl;
      kept = e.kept;
      fresh = e.fresh;
      moments = e.moments;
    } in
    let second : SettlesOneCall g.D.Disk.tells g.D.Disk.obeys log_layout (Ok _) mid new =
    let e = c.in_ok-settle_once-2.ensures in
    record {
      goes = record { node = e.node; obeyed = e.obeyed; timed = e.timed; stands = e.stands };
      only = e.only;
      counts = e.counts;
      last = e.last;
      told = e.told;
      work = e.work;
      picked = e.picked;
      more = refl;
      at = refl;
      kept = e.kept;
      fresh = e.fresh;
      moments = e.moments;
    } in
    let s = settled_anew g.D.Disk.tells g.D.Disk.obeys _ old begun new begin.node
    (ap (disk_seen g.D.Disk.counts g.D.Disk.told g.D.Disk.due) begin.device) refl refl begin.kept begin.work begin.fresh
    (both_settled _ _ log_layout begun mid new _ _ u.0 u.1 first second) in
    record {
      node = s.goes.node;
      order = s.order;
      ran = s.ran;
      obeyed = s.goes.obeyed;
      timed = s.goes.timed;
      only = s.only;
      refused = s.refused;
      picked = s.picked;
      work = s.work;
      entries = λ q h. c.in_ok-settle_once-2.ensures.entries q (c.in_ok-settle_once.ensures.entries q
          (subst (λ l. HasEntry l q) (sym begin.entries) h));
      kept = s.kept;
      fresh = s.fresh;
      stands = s.goes.stands;
      moments = s.moments;
    }
