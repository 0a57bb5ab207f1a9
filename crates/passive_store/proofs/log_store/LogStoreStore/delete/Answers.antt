use Rattle.std.proofs.Common.{IsTrue, None, refl, sym, subst, inl, inr, arith}
use Rattle.passive_store.proofs.Joining.{timed_still}
use Rattle.std.proofs.lemmas.Result.{err_from_is_err_and}
use Rattle.eden_disk.specs.Told.{contents}
use Rattle.eden_disk.proofs.Held.{calls_none, obeyed_none}
use Rattle.passive_store.specs.Kept.{Kept, IsEject}
use Rattle.passive_store.specs.Seen.{Seen, asked, disk_seen}
use Rattle.passive_store.specs.LogLayout.{log_layout, log_changes, log_kept}
use Rattle.passive_store.specs.LogState.{pending_work, log_seen}
use Rattle.passive_store.proofs.Tails.{log_stands}
use Rattle.passive_store.proofs.Getting.{still_moments}
use Rattle.passive_store.proofs.Pendings.{doubt_fresh}
use Rattle.passive_store.proofs.Changing.{memory_is_not_room, never_full, after_memory, unless_memory, undamaged_whole, changes_anew}
use Rattle.passive_store.proofs.Changing.{settles_anew, on_done}
use Rattle.passive_store.proofs.Spelling.{record_of_removal}
use Rattle.passive_store.proofs.log_store.LogStoreStore.delete.Goals as goal

pub returns-in_err-record_bytes : goal.returns-in_err-record_bytes
returns-in_err-record_bytes g c =
    let s = c.self.inside in
    let power : IsTrue (g.D.Disk.counts s.disk).power =
    subst (λ v. IsTrue (g.D.Disk.counts v.device).power) (sym c.self.view_is) c.requires.power in
    let p = err_from_is_err_and c.from_residual.result c.from_residual.ensures.1 in
    rw (p.1, p.2, ← c.self.view_is) (record {
      whole = record {
        goes = record {
          node = refl;
          obeyed = λ so. obeyed_none _ _;
          timed = λ tells. timed_still _ _ _ _ (omega arith) refl;
          stands = λ tells. log_stands s.node s.size s.tail (contents (g.D.Disk.told s.disk)) (g.D.Disk.counts s.disk) s.index s.pending
              c.self.invariant.0 (c.self.invariant.1 tells);
        };
        picked = refl;
        undamaged = inr (inr refl);
        unchanged = λ is. refl;
        one = λ other. omega arith;
        first = λ tells keeps. omega arith;
        fresh = λ tells. doubt_fresh s.node s.size s.tail (contents (g.D.Disk.told s.disk)) s.index s.pending (c.self.invariant.1 tells);
      };
      at = tt;
      changes = inl (record {
        settles = record {
          ran = record { made = 0; number = refl; counts = calls_none (g.D.Disk.counts s.disk) power };
          order = λ tells. refl;
          work = refl;
          kept = λ tells. refl;
          moments = λ tells. still_moments s.node s.size s.tail (g.D.Disk.told s.disk) (g.D.Disk.counts s.disk) s.index s.pending
              c.self.invariant.0 (c.self.invariant.1 tells);
        };
        room = memory_is_not_room;
        none = λ tells. tt;
      });
    })

pub returns-in_err-make_entry : goal.returns-in_err-make_entry
returns-in_err-make_entry g c =
    let s = c.self.inside in
    let power : IsTrue (g.D.Disk.counts s.disk).power =
    subst (λ v. IsTrue (g.D.Disk.counts v.device).power) (sym c.self.view_is) c.requires.power in
    let p = err_from_is_err_and c.from_residual-in_err-make_entry.result c.from_residual-in_err-make_entry.ensures.1 in
    rw (p.1, p.2, ← c.self.view_is) (record {
      whole = record {
        goes = record {
          node = refl;
          obeyed = λ so. obeyed_none _ _;
          timed = λ tells. timed_still _ _ _ _ (omega arith) refl;
          stands = λ tells. log_stands s.node s.size s.tail (contents (g.D.Disk.told s.disk)) (g.D.Disk.counts s.disk) s.index s.pending
              c.self.invariant.0 (c.self.invariant.1 tells);
        };
        picked = refl;
        undamaged = inr (inr refl);
        unchanged = λ is. refl;
        one = λ other. omega arith;
        first = λ tells keeps. omega arith;
        fresh = λ tells. doubt_fresh s.node s.size s.tail (contents (g.D.Disk.told s.disk)) s.index s.pending (c.self.invariant.1 tells);
      };
      at = tt;
      changes = inl (record {
        settles = record {
          ran = record { made = 0; number = refl; counts = calls_none (g.D.Disk.counts s.disk) power };
          order = λ tells. refl;
          work = refl;
          kept = λ tells. refl;
          moments = λ tells. still_moments s.node s.size s.tail (g.D.Disk.told s.disk) (g.D.Disk.counts s.disk) s.index s.pending
              c.self.invariant.0 (c.self.invariant.1 tells);
        };
        room = memory_is_not_room;
        none = λ tells. tt;
      });
    })

pub remove_record-requires-clause-spelled : goal.remove_record-requires-clause-spelled
remove_record-requires-clause-spelled g c =
    record_of_removal c.self.inside.node c.args.uid c.in_ok-record_bytes.record_bytes.items (omega arith) (omega arith)
    (subst (λ v. IsEject v.node c.args.uid) (sym c.self.view_is) c.requires.eject) c.in_ok-record_bytes.ensures.record_of

pub returns : goal.returns
returns g c =
    let s = c.self.inside in
    let e = c.remove_record.ensures in
    let new = c.remove_record.new.self in
    let result = c.remove_record.result in
    let work = pending_work s.tail s.pending in
    let kept : Kept = log_kept s.node s.tail (contents (g.D.Disk.told s.disk)).now in
    let old : Seen = record {
      node = s.node;
      work = work;
      picked = s.picked;
      kept = kept;
      more = log_changes;
      refused_at = None;
      disk =
          disk_seen g.D.Disk.counts g.D.Disk.told g.D.Disk.due s.disk;
    } in
    let now : Seen = log_seen g.D.Disk.counts g.D.Disk.told g.D.Disk.due new in
    rw (← c.self.view_is) (record {
      whole = record {
        goes = record { node = e.node; obeyed = e.obeyed; timed = e.timed; stands = e.stands };
        picked = after_memory new.picked work result e.undamaged e.picked;
        undamaged = undamaged_whole result e.undamaged;
        unchanged = unless_memory _ result e.undamaged;
        one = λ other. omega arith;
        first = λ tells keeps. omega arith;
        fresh = e.fresh;
      };
      at = on_done _ result (inl refl);
      changes = elim e.changes [
        | inl k ↦ inl (record
            { settles = settles_anew g.D.Disk.tells log_layout result old now None k.0; room = never_full result k.1; none = k.2 })
        | inr k ↦ inr (record {
          changes = changes_anew g.D.Disk.tells log_layout (asked c.args.uid None) result old now None k.0;
          some = k.1;
          full =
              λ tells some. k.2 tells;
        })
      ];
    })
