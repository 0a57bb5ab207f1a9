use Rattle.std.proofs.Common.{◌≡◌, ◌+◌, IsTrue, None, Some, [], length, inr, refl, sym, ap, subst, ◌∙◌, arith}
use Rattle.passive_store.proofs.Joining.{timed_still, none_refused}
use Rattle.std.proofs.lemmas.Result.{err_from_is_err_and}
use Rattle.eden_disk.specs.Told.{contents}
use Rattle.eden_disk.proofs.Held.{calls_none, obeyed_none}
use Rattle.passive_store.specs.Kept.{Kept, IsOwn}
use Rattle.passive_store.specs.LogState.{pending_work}
use Rattle.passive_store.proofs.Tails.{log_stands}
use Rattle.passive_store.proofs.Getting.{still_moments}
use Rattle.std.specs.Prelude.{slice_range}
use Rattle.passive_store.specs.Seen.{Seen, Changes, asked, disk_seen}
use Rattle.passive_store.specs.LogLayout.{log_layout, log_changes, log_job, bytes_for, log_kept}
use Rattle.passive_store.specs.LogState.{log_seen}
use Rattle.passive_store.proofs.Pendings.{job_bounded, doubt_fresh}
use Rattle.passive_store.proofs.Spelling.{body_is}
use Rattle.passive_store.proofs.Changing.{after_memory, unless_memory, undamaged_whole, changes_anew}
use Rattle.passive_store.proofs.Spelling.{record_of_value}
use Rattle.passive_store.proofs.log_store.LogStoreStore.put.Goals as goal

pub returns-in_err-record_bytes : goal.returns-in_err-record_bytes
returns-in_err-record_bytes g c =
    let s = c.self.inside in
    let power : IsTrue (g.D.Disk.counts s.disk).power =
    subst (λ v. IsTrue (g.D.Disk.counts v.device).power) (sym c.self.view_is) c.requires.power in
    let job = log_job s.node None (contents (g.D.Disk.told s.disk)).now c.args.uid (Some c.args.body.now) in
    let p = err_from_is_err_and c.from_residual.result c.from_residual.ensures.1 in
    rw (p.1, p.2, ← c.self.view_is) (record {
      whole = record {
        goes = record {
          node = refl;
          obeyed = λ so. obeyed_none _ _;
          timed = λ tells. timed_still _ _ _ _ (omega arith) refl;
          stands = λ tells. log_stands s.node s.size s.tail (contents (g.D.Disk.told s.disk)) (g.D.Disk.counts s.disk) s.index s.pending
              c.self.invariant.0 (c.self.invariant.1 tells);
        };
        picked = refl;
        undamaged = inr (inr refl);
        unchanged = λ is. refl;
        one = λ other. omega arith;
        first = λ tells keeps. omega arith;
        fresh = λ tells. doubt_fresh s.node s.size s.tail (contents (g.D.Disk.told s.disk)) s.index s.pending (c.self.invariant.1 tells);
      };
      changes = record {
        mark = 0;
        calls = job;
        bounded = job_bounded _ 0 [];
        job = refl;
        ran = record { made = 0; number = refl; counts = calls_none (g.D.Disk.counts s.disk) power };
        by_layout = λ tells. refl;
        at = none_refused job;
        order = λ tells. refl;
        work = refl;
        kept = λ tells. refl;
        moments = λ tells. still_moments s.node s.size s.tail (g.D.Disk.told s.disk) (g.D.Disk.counts s.disk) s.index s.pending
            c.self.invariant.0 (c.self.invariant.1 tells);
      };
      full = λ tells some. tt;
    })

pub returns-in_err-make_entry : goal.returns-in_err-make_entry
returns-in_err-make_entry g c =
    let s = c.self.inside in
    let power : IsTrue (g.D.Disk.counts s.disk).power =
    subst (λ v. IsTrue (g.D.Disk.counts v.device).power) (sym c.self.view_is) c.requires.power in
    let job = log_job s.node None (contents (g.D.Disk.told s.disk)).now c.args.uid (Some c.args.body.now) in
    let p = err_from_is_err_and c.from_residual-in_err-make_entry.result c.from_residual-in_err-make_entry.ensures.1 in
    rw (p.1, p.2, ← c.self.view_is) (record {
      whole = record {
        goes = record {
          node = refl;
          obeyed = λ so. obeyed_none _ _;
          timed = λ tells. timed_still _ _ _ _ (omega arith) refl;
          stands = λ tells. log_stands s.node s.size s.tail (contents (g.D.Disk.told s.disk)) (g.D.Disk.counts s.disk) s.index s.pending
              c.self.invariant.0 (c.self.invariant.1 tells);
        };
        picked = refl;
        undamaged = inr (inr refl);
        unchanged = λ is. refl;
        one = λ other. omega arith;
        first = λ tells keeps. omega arith;
        fresh = λ tells. doubt_fresh s.node s.size s.tail (contents (g.D.Disk.told s.disk)) s.index s.pending (c.self.invariant.1 tells);
      };
      changes = record {
        mark = 0;
        calls = job;
        bounded = job_bounded _ 0 [];
        job = refl;
        ran = record { made = 0; number = refl; counts = calls_none (g.D.Disk.counts s.disk) power };
        by_layout = λ tells. refl;
        at = none_refused job;
        order = λ tells. refl;
        work = refl;
        kept = λ tells. refl;
        moments = λ tells. still_moments s.node s.size s.tail (g.D.Disk.told s.disk) (g.D.Disk.counts s.disk) s.index s.pending
            c.self.invariant.0 (c.self.invariant.1 tells);
      };
      full = λ tells some. tt;
    })

pub put_record-requires-clause-spelled : goal.put_record-requires-clause-spelled
put_record-requires-clause-spelled g c =
    record_of_value c.self.inside.node (length c.args.body.now) c.args.uid c.args.body.now c.in_ok-record_bytes.record_bytes.items refl
    c.requires.limit (omega arith) (omega arith)
    (subst (λ v. IsOwn v.node c.args.uid (length c.args.body.now)) (sym c.self.view_is) c.requires.own)
    c.in_ok-record_bytes.ensures.record_of

pub put_record-requires-clause-written : goal.put_record-requires-clause-written
put_record-requires-clause-written g c =
    let items = c.in_ok-record_bytes.record_bytes.items in
    let part : slice_range items 14 (14 + length c.args.body.now) ≡ c.args.body.now =
    ap (λ l. slice_range l 14 (14 + length c.args.body.now)) c.in_ok-record_bytes.ensures.record_of
    ∙ body_is c.self.inside.node (length c.args.body.now) c.args.uid c.args.body.now 0 [] refl in
    c.in_ok-record_bytes.ensures.record_of ∙ sym (ap (λ b. bytes_for c.self.inside.node c.args.uid (Some b)) part)

pub returns : goal.returns
returns g c =
    let s = c.self.inside in
    let e = c.put_record.ensures in
    let new = c.put_record.new.self in
    let result = c.put_record.result in
    let work = pending_work s.tail s.pending in
    let kept : Kept = log_kept s.node s.tail (contents (g.D.Disk.told s.disk)).now in
    let old : Seen = record {
      node = s.node;
      work = work;
      picked = s.picked;
      kept = kept;
      more = log_changes;
      refused_at = None;
      disk =
          disk_seen g.D.Disk.counts g.D.Disk.told g.D.Disk.due s.disk;
    } in
    let now : Seen = log_seen g.D.Disk.counts g.D.Disk.told g.D.Disk.due new in
    let part : slice_range c.in_ok-record_bytes.record_bytes.items 14 (14 + length c.args.body.now) ≡ c.args.body.now =
    ap (λ l. slice_range l 14 (14 + length c.args.body.now)) c.in_ok-record_bytes.ensures.record_of
    ∙ body_is s.node (length c.args.body.now) c.args.uid c.args.body.now 0 [] refl in
    rw (← c.self.view_is) (record {
      whole = record {
        goes = record { node = e.node; obeyed = e.obeyed; timed = e.timed; stands = e.stands };
        picked = after_memory new.picked work result e.undamaged e.picked;
        undamaged = undamaged_whole result e.undamaged;
        unchanged = unless_memory _ result e.undamaged;
        one = λ other. omega arith;
        first = λ tells keeps. omega arith;
        fresh = e.fresh;
      };
      changes = changes_anew g.D.Disk.tells log_layout (asked c.args.uid (Some c.args.body.now)) result old now None
          (subst (λ b. Changes g.D.Disk.tells log_layout (asked c.args.uid (Some b)) result (record old { picked = None }) now) part
          e.changes);
      full = λ tells some. e.full tells;
    })
