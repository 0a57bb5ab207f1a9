use Rattle.std.proofs.Common.{None, [], sym, ap, subst, ◌∙◌, arith, refl, inr}
use Rattle.std.specs.Prelude.{IfSome}
use Rattle.std.proofs.lemmas.Result.{err_from_is_err_and}
use Rattle.passive_store.specs.Kept.{IsEject, HasJob, IsFresh, change_in}
use Rattle.eden_disk.specs.Told.{contents}
use Rattle.passive_store.specs.LogLayout.{log_layout, log_kept, record_job}
use Rattle.passive_store.specs.LogState.{pending_work, state_kept}
use Rattle.passive_store.specs.Seen.{disk_seen}
use Rattle.passive_store.proofs.Changing.{memory_is_not_room, early_full, on_refusal, full_then}
use Rattle.passive_store.proofs.Pendings.{job_bounded, begins_job}
use Rattle.passive_store.proofs.Spelling.{record_of_removal}
use Rattle.passive_store.proofs.log_store.LogStoreStore.begin_delete.Goals as goal

pub returns-in_err-record_bytes : goal.returns-in_err-record_bytes
returns-in_err-record_bytes g c =
    let p = err_from_is_err_and c.from_residual.result c.from_residual.ensures.1 in
    rw (p.1, p.2) (record {
      node = refl;
      disk = refl;
      only = inr refl;
      picked = refl;
      at = refl;
      mark = 0;
      calls = record_job 0 [];
      bounded = job_bounded _ 0 [];
      job = refl;
      work = refl;
      by_layout = λ tells. subst (HasJob log_layout c.args.self.now.node None (contents (g.D.Disk.told c.args.self.now.device)).now)
          (sym c.requires.idle) tt;
      one = λ other. omega arith;
      first = λ tells keeps. omega arith;
      same = refl;
      room = λ tells some. tt;
      full = λ tells some is. absurd (memory_is_not_room is);
      kept = λ tells. refl;
      fresh = λ tells. subst (λ w. IfSome (change_in w) (λ x. IsFresh x (state_kept g.D.Disk.told c.args.self.now))) (sym c.requires.idle)
          tt;
    })

pub returns-in_err-make_entry : goal.returns-in_err-make_entry
returns-in_err-make_entry g c =
    let s = c.self.inside in
    let p = err_from_is_err_and c.from_residual-in_err-make_entry.result c.from_residual-in_err-make_entry.ensures.1 in
    let idle = ap (λ v. v.work) c.self.view_is ∙ c.requires.idle in
    rw (p.1, p.2, ← c.self.view_is) (record {
      node = refl;
      disk = refl;
      only = inr refl;
      picked = refl;
      at = refl;
      mark = 0;
      calls = record_job 0 [];
      bounded = job_bounded _ 0 [];
      job = refl;
      work = refl;
      by_layout = λ tells. subst (HasJob log_layout s.node None (contents (g.D.Disk.told s.disk)).now) (sym idle) tt;
      one = λ other. omega arith;
      first = λ tells keeps. omega arith;
      same = refl;
      room = λ tells some. tt;
      full = λ tells some is. absurd (memory_is_not_room is);
      kept = λ tells. refl;
      fresh = λ tells. subst (λ w. IfSome (change_in w) (λ x. IsFresh x (log_kept s.node s.tail (contents (g.D.Disk.told s.disk)).now)))
          (sym idle) tt;
    })

pub start-requires-clause-spelled : goal.start-requires-clause-spelled
start-requires-clause-spelled g c =
    record_of_removal c.self.inside.node c.args.uid c.in_ok-record_bytes.record_bytes.items (omega arith) (omega arith)
    (subst (λ v. IsEject v.node c.args.uid) (sym c.self.view_is) c.requires.eject) c.in_ok-record_bytes.ensures.record_of

pub returns : goal.returns
returns g c =
    let s = c.self.inside in
    let items = c.in_ok-record_bytes.record_bytes.items in
    let image = (contents (g.D.Disk.told s.disk)).now in
    let idle = ap (λ v. v.work) c.self.view_is ∙ c.requires.idle in
    let e = c.start.ensures in
    let work = c.start.ensures.work in
    rw (← c.self.view_is) (record {
      node = e.node;
      disk = ap (disk_seen g.D.Disk.counts g.D.Disk.told g.D.Disk.due) e.device;
      only = early_full c.start.result e.only;
      picked = e.picked;
      at = refl;
      mark = s.tail;
      calls = record_job s.tail items;
      bounded = job_bounded _ s.tail items;
      job = refl;
      work = work;
      by_layout = λ tells. subst
          (λ n. HasJob log_layout n None (contents (g.D.Disk.told c.start.new.self.device)).now c.start.new.self.work) (sym e.node)
          (subst (λ d. HasJob log_layout s.node None (contents (g.D.Disk.told d)).now c.start.new.self.work) (sym e.device)
          (begins_job s.node s.tail s.tail image items c.args.uid None (pending_work s.tail s.pending) c.start.new.self.work c.start.result
          idle work (e.tail tells) c.in_ok-record_bytes.ensures.record_of));
      one = λ other. omega arith;
      first = λ tells keeps. omega arith;
      same = on_refusal _ c.start.result refl;
      room = λ tells some. e.room tells;
      full = λ tells some. full_then _ c.start.result (e.full tells);
      kept = e.kept;
      fresh = e.fresh;
    })
