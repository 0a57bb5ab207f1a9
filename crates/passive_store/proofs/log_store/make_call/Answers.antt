use Rattle.std.proofs.Common.{◌+◌, [], ◌∷◌, sym, ap, subst}
use Rattle.std.specs.Prelude.{OnOk}
use Rattle.eden_disk.specs.Told.{contents}
use Rattle.passive_store.specs.LogState.{IsJobAfter, made_at, WhereBegun}
use Rattle.eden_disk.proofs.Timed.{timed_write, timed_sync}
use Rattle.eden_disk.specs.Held.{Passes}
use Rattle.passive_store.specs.Log.{Unwritten}
use Rattle.passive_store.proofs.Jobs.{record_first, record_next, gate_next, record_sync_next, gate_sync_next, other_sync_next}
use Rattle.passive_store.proofs.log_store.make_call.Goals as goal

pub returns-in-Begun-clause-whole : goal.returns-in-Begun-clause-whole
returns-in-Begun-clause-whole g c = λ tells front at job.
    (record_next (g.D.Disk.counts c.args.disk.now).size _ (c.args.tail + 1) front c.args.bytes.now _ _ c.write.result (ap (λ n. n + 1) at)
    (subst (λ x. IsJobAfter (g.D.Disk.counts c.args.disk.now).size front c.args.bytes.now (made_at x)
    (contents (g.D.Disk.told c.args.disk.now))) c.in-Begun.is job) (c.write.ensures.told tells)).0

pub returns-in-Begun-clause-next : goal.returns-in-Begun-clause-next
returns-in-Begun-clause-next g c = λ tells front at job.
    subst (λ x. OnOk c.write.result (IsJobAfter (g.D.Disk.counts c.args.disk.now).size front c.args.bytes.now (made_at x + 1)
    (contents (g.D.Disk.told c.write.new.self)))) (sym c.in-Begun.is)
    (record_next (g.D.Disk.counts c.args.disk.now).size _ (c.args.tail + 1) front c.args.bytes.now _ _ c.write.result (ap (λ n. n + 1) at)
    (subst (λ x. IsJobAfter (g.D.Disk.counts c.args.disk.now).size front c.args.bytes.now (made_at x)
    (contents (g.D.Disk.told c.args.disk.now))) c.in-Begun.is job) (c.write.ensures.told tells)).1

pub returns-in-Written-clause-whole : goal.returns-in-Written-clause-whole
returns-in-Written-clause-whole g c = λ tells front at job.
    (record_sync_next (g.D.Disk.counts c.args.disk.now).size _ front c.args.bytes.now _ _ c.sync.result
    (subst (λ x. IsJobAfter (g.D.Disk.counts c.args.disk.now).size front c.args.bytes.now (made_at x)
    (contents (g.D.Disk.told c.args.disk.now))) c.in-Written.is job) (c.sync.ensures.told tells)).0

pub returns-in-Written-clause-next : goal.returns-in-Written-clause-next
returns-in-Written-clause-next g c = λ tells front at job.
    subst (λ x. OnOk c.sync.result (IsJobAfter (g.D.Disk.counts c.args.disk.now).size front c.args.bytes.now (made_at x + 1)
    (contents (g.D.Disk.told c.sync.new.self)))) (sym c.in-Written.is)
    (record_sync_next (g.D.Disk.counts c.args.disk.now).size _ front c.args.bytes.now _ _ c.sync.result
    (subst (λ x. IsJobAfter (g.D.Disk.counts c.args.disk.now).size front c.args.bytes.now (made_at x)
    (contents (g.D.Disk.told c.args.disk.now))) c.in-Written.is job) (c.sync.ensures.told tells)).1

pub returns-in-Synced-clause-whole : goal.returns-in-Synced-clause-whole
returns-in-Synced-clause-whole g c = λ tells front at job.
    (gate_next (g.D.Disk.counts c.args.disk.now).size _ c.args.tail front c.args.bytes.now _ _ c.write-in-Synced.result at
    (subst (λ x. IsJobAfter (g.D.Disk.counts c.args.disk.now).size front c.args.bytes.now (made_at x)
    (contents (g.D.Disk.told c.args.disk.now))) c.in-Synced.is job) (c.write-in-Synced.ensures.told tells)).0

pub returns-in-Synced-clause-next : goal.returns-in-Synced-clause-next
returns-in-Synced-clause-next g c = λ tells front at job.
    subst (λ x. OnOk c.write-in-Synced.result
    (IsJobAfter (g.D.Disk.counts c.args.disk.now).size front c.args.bytes.now (made_at x + 1)
    (contents (g.D.Disk.told c.write-in-Synced.new.self)))) (sym c.in-Synced.is)
    (gate_next (g.D.Disk.counts c.args.disk.now).size _ c.args.tail front c.args.bytes.now _ _ c.write-in-Synced.result at
    (subst (λ x. IsJobAfter (g.D.Disk.counts c.args.disk.now).size front c.args.bytes.now (made_at x)
    (contents (g.D.Disk.told c.args.disk.now))) c.in-Synced.is job) (c.write-in-Synced.ensures.told tells)).1

pub returns-in-Opened-clause-whole : goal.returns-in-Opened-clause-whole
returns-in-Opened-clause-whole g c = λ tells front at job.
    (gate_sync_next (g.D.Disk.counts c.args.disk.now).size _ front c.args.bytes.now _ _ c.sync-in-Opened.result
    (subst (λ x. IsJobAfter (g.D.Disk.counts c.args.disk.now).size front c.args.bytes.now (made_at x)
    (contents (g.D.Disk.told c.args.disk.now))) c.in-Opened.is job) (c.sync-in-Opened.ensures.told tells)).0

pub returns-in-Opened-clause-next : goal.returns-in-Opened-clause-next
returns-in-Opened-clause-next g c = λ tells front at job.
    subst (λ x. OnOk c.sync-in-Opened.result (IsJobAfter (g.D.Disk.counts c.args.disk.now).size front c.args.bytes.now (made_at x + 1)
    (contents (g.D.Disk.told c.sync-in-Opened.new.self)))) (sym c.in-Opened.is)
    (gate_sync_next (g.D.Disk.counts c.args.disk.now).size _ front c.args.bytes.now _ _ c.sync-in-Opened.result
    (subst (λ x. IsJobAfter (g.D.Disk.counts c.args.disk.now).size front c.args.bytes.now (made_at x)
    (contents (g.D.Disk.told c.args.disk.now))) c.in-Opened.is job) (c.sync-in-Opened.ensures.told tells)).1

pub returns-in-Ended-clause-whole : goal.returns-in-Ended-clause-whole
returns-in-Ended-clause-whole g c = λ tells front at job.
    (other_sync_next (g.D.Disk.counts c.args.disk.now).size _ front c.args.bytes.now _ _ c.sync-in-Ended.result
    (subst (λ x. IsJobAfter (g.D.Disk.counts c.args.disk.now).size front c.args.bytes.now (made_at x)
    (contents (g.D.Disk.told c.args.disk.now))) c.in-Ended.is job) (c.sync-in-Ended.ensures.told tells)).0

pub returns-in-Ended-clause-next : goal.returns-in-Ended-clause-next
returns-in-Ended-clause-next g c = λ tells front at job.
    subst (λ x. OnOk c.sync-in-Ended.result (IsJobAfter (g.D.Disk.counts c.args.disk.now).size front c.args.bytes.now (made_at x + 1)
    (contents (g.D.Disk.told c.sync-in-Ended.new.self)))) (sym c.in-Ended.is)
    (other_sync_next (g.D.Disk.counts c.args.disk.now).size _ front c.args.bytes.now _ _ c.sync-in-Ended.result
    (subst (λ x. IsJobAfter (g.D.Disk.counts c.args.disk.now).size front c.args.bytes.now (made_at x)
    (contents (g.D.Disk.told c.args.disk.now))) c.in-Ended.is job) (c.sync-in-Ended.ensures.told tells)).1

pub returns-in-Begun-clause-first : goal.returns-in-Begun-clause-first
returns-in-Begun-clause-first g c = λ tells front at job.
    subst (λ x. WhereBegun x (Passes (Unwritten (g.D.Disk.counts c.args.disk.now).size front) (g.D.Disk.told c.args.disk.now)
    (g.D.Disk.told c.write.new.self))) (sym c.in-Begun.is)
    (record_first (g.D.Disk.counts c.args.disk.now).size _ (c.args.tail + 1) front c.args.bytes.now _ _ _ (ap (λ n. n + 1) at)
    (subst (λ x. IsJobAfter (g.D.Disk.counts c.args.disk.now).size front c.args.bytes.now (made_at x)
    (contents (g.D.Disk.told c.args.disk.now))) c.in-Begun.is job) (c.write.ensures.told tells))

pub returns-in-Begun-clause-timed : goal.returns-in-Begun-clause-timed
returns-in-Begun-clause-timed g c = λ tells. timed_write (c.args.tail + 1) c.args.bytes.now (g.D.Disk.counts c.args.disk.now)
    (g.D.Disk.counts c.write.new.self) (g.D.Disk.told c.args.disk.now) (g.D.Disk.told c.write.new.self) _ c.write.ensures.counts.clock
    (c.write.ensures.spent tells) (c.write.ensures.told tells)

pub returns-in-Written-clause-timed : goal.returns-in-Written-clause-timed
returns-in-Written-clause-timed g c = λ tells. timed_sync (g.D.Disk.counts c.args.disk.now) (g.D.Disk.counts c.sync.new.self)
    (g.D.Disk.told c.args.disk.now) (g.D.Disk.told c.sync.new.self) _ c.sync.ensures.counts.clock (c.sync.ensures.spent tells)
    (c.sync.ensures.told tells)

pub returns-in-Synced-clause-timed : goal.returns-in-Synced-clause-timed
returns-in-Synced-clause-timed g c = λ tells. timed_write c.args.tail (225 ∷ []) (g.D.Disk.counts c.args.disk.now)
    (g.D.Disk.counts c.write-in-Synced.new.self) (g.D.Disk.told c.args.disk.now)
    (g.D.Disk.told c.write-in-Synced.new.self) _ c.write-in-Synced.ensures.counts.clock (c.write-in-Synced.ensures.spent tells)
    (c.write-in-Synced.ensures.told tells)

pub returns-in-Opened-clause-timed : goal.returns-in-Opened-clause-timed
returns-in-Opened-clause-timed g c = λ tells. timed_sync (g.D.Disk.counts c.args.disk.now) (g.D.Disk.counts c.sync-in-Opened.new.self)
    (g.D.Disk.told c.args.disk.now) (g.D.Disk.told c.sync-in-Opened.new.self) _ c.sync-in-Opened.ensures.counts.clock
    (c.sync-in-Opened.ensures.spent tells) (c.sync-in-Opened.ensures.told tells)

pub returns-in-Ended-clause-timed : goal.returns-in-Ended-clause-timed
returns-in-Ended-clause-timed g c = λ tells. timed_sync (g.D.Disk.counts c.args.disk.now) (g.D.Disk.counts c.sync-in-Ended.new.self)
    (g.D.Disk.told c.args.disk.now) (g.D.Disk.told c.sync-in-Ended.new.self) _ c.sync-in-Ended.ensures.counts.clock
    (c.sync-in-Ended.ensures.spent tells) (c.sync-in-Ended.ensures.told tells)
