use Rattle.std.proofs.Common.{◌≡◌, ◌+◌, ℕ, false, IsTrue, inl, inr, Option, None, Some, List, [], ◌∷◌, ◌++◌, sym, ap, subst, ◌∙◌, refl}
use Rattle.eden_disk.specs.Timed.{Timed}
use Rattle.eden_disk.proofs.Timed.{timed_join}
use Rattle.std.specs.Prelude.{slice_range, Err, is_some}
use Rattle.std.proofs.lemmas.Bool.{false≢true}
use Rattle.std.proofs.lemmas.Result.{err_from_is_err_and}
use Rattle.eden_disk.specs.Told.{contents, EachMoment}
use Rattle.eden_disk.proofs.Held.{moments_join, moments_weaker, obeyed_more}
use Rattle.eden_disk.specs.Calls.{End, Fine, DeviceCalls, Obeyed}
use Rattle.passive_store.specs.Kept.{Kept, StoreChange, settling_of, job_left, end_of_store, changes_begun, Busy, Stands, Ran, changes_in}
use Rattle.passive_store.specs.Kept.{change_in, is_busy, doubt_in, settled, settling_calls, calls_left, work_finished, kept_finished}
use Rattle.passive_store.specs.Kept.{work_changed, kept_changed, IsAnyOf}
use Rattle.passive_store.specs.Acts.{DiskCall, AllTold, CallsTold}
use Rattle.passive_store.proofs.Pendings.{job_bounded, log_job_is}
use Rattle.passive_store.specs.Log.{log_map, log_grows}
use Rattle.passive_store.specs.LogLayout.{log_layout, log_changes, record_job, log_job, within_room, log_room}
use Rattle.passive_store.specs.LogState.{state_kept, IsRecordOf}
use Rattle.passive_store.specs.declared.store.StoreRefusal.TheVariants.{Full}
use Rattle.passive_store.proofs.Joining.{as_before, stands_weaker, none_refused, settled_now, calls_told_more}
use Rattle.passive_store.proofs.Changing.{fresh_settled, fresh_idle, fresh_finished, begun_order, refused_order, moments_more}
use Rattle.passive_store.proofs.Changing.{begun_moments, refused_changes, settled_then, idle_then, work_then, shown_then, refused_work}
use Rattle.passive_store.proofs.Changing.{match_disk, refused_more, full_ran, done_ran}
use Rattle.passive_store.proofs.Changing.{first_refused, first_settled, room_unknown, room_had}
use Rattle.passive_store.proofs.Settling.{leaves_as_before, disk_or_full}
use Rattle.passive_store.proofs.log_store.LogStore.put_record.Goals as goal

pub returns-in_err-settle_log-clause-changes : goal.returns-in_err-settle_log-clause-changes
returns-in_err-settle_log-clause-changes g c =
    let w = c.args.self.now.work in
    let s : Kept = state_kept g.D.Disk.told c.args.self.now in
    let body : Option (List ℕ) = Some (slice_range c.args.record_bytes.items 14 (14 + c.args.length)) in
    let new : StoreChange = record { uid = c.args.uid; body = body; mark = 0; wrote = log_grows body } in
    let p = err_from_is_err_and c.from_residual.result c.from_residual.ensures.1 in
    rw (p.1, p.2) (record {
      mark = 0;
      calls = log_job c.args.self.now.node None (contents (g.D.Disk.told c.args.self.now.device)).now c.args.uid body;
      bounded = job_bounded _ 0 [];
      job = refl;
      at = none_refused (log_job c.args.self.now.node None (contents (g.D.Disk.told c.args.self.now.device)).now c.args.uid body);
      ran = refused_more w 4 _ _ _ c.in_err-settle_log.ensures.only c.in_err-settle_log.ensures.ran;
      work = refused_work _ w _ new _ c.in_err-settle_log.ensures.only c.in_err-settle_log.ensures.picked
          c.in_err-settle_log.ensures.refused c.in_err-settle_log.ensures.work;
      kept = λ tells. c.in_err-settle_log.ensures.kept tells;
      by_layout = λ tells. refl;
      order = λ tells. refused_order w (log_job c.args.self.now.node None
          (contents (g.D.Disk.told c.args.self.now.device)).now c.args.uid body) _ _ _ c.in_err-settle_log.ensures.only
          (c.in_err-settle_log.ensures.order tells);
      moments = λ tells. subst (λ cs. EachMoment (Stands log_layout c.args.self.now.node log_changes s cs)
          (g.D.Disk.told c.args.self.now.device) (g.D.Disk.told c.settle_log.new.self.device))
          (refused_changes _ w new _ c.in_err-settle_log.ensures.only c.in_err-settle_log.ensures.picked
          c.in_err-settle_log.ensures.refused) (c.in_err-settle_log.ensures.moments tells);
    })

pub returns-in_err-start-clause-changes : goal.returns-in_err-start-clause-changes
returns-in_err-start-clause-changes g c =
    let w = c.args.self.now.work in
    let s : Kept = state_kept g.D.Disk.told c.args.self.now in
    let body : Option (List ℕ) = Some (slice_range c.args.record_bytes.items 14 (14 + c.args.length)) in
    let new : StoreChange = record { uid = c.args.uid; body = body; mark = 0; wrote = log_grows body } in
    let p = err_from_is_err_and c.from_residual-in_err-start.result c.from_residual-in_err-start.ensures.1 in
    rw (p.1, p.2, c.in_err-start.ensures.only) (record {
      mark = 0;
      calls = log_job c.args.self.now.node None (contents (g.D.Disk.told c.args.self.now.device)).now c.args.uid body;
      bounded = job_bounded _ 0 [];
      job = refl;
      at = none_refused (log_job c.args.self.now.node None (contents (g.D.Disk.told c.args.self.now.device)).now c.args.uid body);
      ran = subst (λ d. Ran {T = Unit {0}} (settling_calls w) 4 (Err Full) (g.D.Disk.counts c.args.self.now.device) (g.D.Disk.counts d))
          (sym c.in_err-start.ensures.device) (full_ran w 4 _ _ c.in_ok-settle_log.ensures.ran);
      work = c.in_err-start.ensures.work ∙ idle_then _ w _ c.requires.idle c.in_ok-settle_log.ensures.picked
          c.in_ok-settle_log.ensures.work;
      kept = λ tells. c.in_err-start.ensures.kept tells ∙ c.in_ok-settle_log.ensures.kept tells ∙ ap (λ x. settled x w s)
          (sym c.in_err-start.ensures.picked);
      by_layout = λ tells. refl;
      order = λ tells. subst (λ d. AllTold (settling_of w) (g.D.Disk.told c.args.self.now.device) (g.D.Disk.told d))
          (sym c.in_err-start.ensures.device) (c.in_ok-settle_log.ensures.order tells);
      moments = λ tells. subst (λ d. EachMoment (Stands log_layout c.args.self.now.node log_changes s (changes_in (doubt_in w)))
          (g.D.Disk.told c.args.self.now.device) (g.D.Disk.told d)) (sym c.in_err-start.ensures.device)
          (c.in_ok-settle_log.ensures.moments tells);
    })

pub returns-clause-changes : goal.returns-clause-changes
returns-clause-changes g c =
    let w = c.args.self.now.work in
    let s : Kept = state_kept g.D.Disk.told c.args.self.now in
    let body : Option (List ℕ) = Some (slice_range c.args.record_bytes.items 14 (14 + c.args.length)) in
    let new : StoreChange = record { uid = c.args.uid; body = body; mark = c.settle_log.new.self.tail; wrote = log_grows body } in
    let job : List DiskCall = record_job c.settle_log.new.self.tail c.args.record_bytes.items in
    let busy : c.start.new.self.work ≡ Busy new 0 job = c.in_ok-start.ensures.work in
    let mid : Kept = state_kept g.D.Disk.told c.settle_log.new.self in
    let pk = c.finish_job.ensures.picked ∙ c.in_ok-start.ensures.picked in
    let only = match_disk c.finish_job.result c.finish_job.ensures.only in
    let P : List ℕ → Type 0 = Stands log_layout c.args.self.now.node log_changes s (changes_in (doubt_in w) ++ new ∷ []) in
    let moments_of = λ (each : EachMoment P (g.D.Disk.told c.args.self.now.device) (g.D.Disk.told c.finish_job.new.self.device)).
    subst (λ x. EachMoment (Stands log_layout c.args.self.now.node log_changes s
    (changes_begun {T = Unit {0}} x new w c.finish_job.result)) (g.D.Disk.told c.args.self.now.device)
    (g.D.Disk.told c.finish_job.new.self.device)) (sym pk)
    (begun_moments log_layout c.args.self.now.node log_changes s c.settle_log.new.self.picked w new c.finish_job.result _ _ only
    c.in_ok-settle_log.ensures.picked each) in
    record {
      mark = c.settle_log.new.self.tail;
      calls = job;
      bounded = job_bounded _ 0 [];
      job = refl;
      at = none_refused job;
      ran = done_ran w 4 c.finish_job.result _ _ _ only c.in_ok-settle_log.ensures.ran
          (subst (λ d. Ran {T = Unit {0}} 0 4 c.finish_job.result (g.D.Disk.counts d) (g.D.Disk.counts c.finish_job.new.self.device))
          c.in_ok-start.ensures.device
          (subst (λ n. Ran {T = Unit {0}} 0 n c.finish_job.result (g.D.Disk.counts c.start.new.self.device)
          (g.D.Disk.counts c.finish_job.new.self.device)) (ap calls_left busy) c.finish_job.ensures.ran));
      work = subst (λ x. c.finish_job.new.self.work ≡ work_changed x new w c.finish_job.result) (sym pk)
          (work_then c.settle_log.new.self.picked w c.finish_job.new.self.work new job c.finish_job.result c.requires.idle
          c.in_ok-settle_log.ensures.picked only (c.finish_job.ensures.work ∙ ap (λ x. work_finished x c.finish_job.result) busy));
      kept = λ tells. subst (λ x. state_kept g.D.Disk.told c.finish_job.new.self ≡ kept_changed x new w s c.finish_job.result) (sym pk)
          (shown_then c.settle_log.new.self.picked w s (state_kept g.D.Disk.told c.finish_job.new.self) mid new job c.finish_job.result
          (c.in_ok-settle_log.ensures.kept tells)
          (c.finish_job.ensures.kept tells ∙ ap (λ x. kept_finished x (state_kept g.D.Disk.told c.start.new.self) c.finish_job.result)
          busy ∙ ap (λ (x : Kept). kept_finished (Busy new 0 job) x c.finish_job.result) (c.in_ok-start.ensures.kept tells)));
      by_layout = λ tells. log_job_is c.args.self.now.node c.settle_log.new.self.node c.settle_log.new.self.tail
          (contents (g.D.Disk.told c.args.self.now.device)).now
          (contents (g.D.Disk.told c.settle_log.new.self.device)).now c.args.record_bytes.items c.args.uid body
          c.in_ok-settle_log.ensures.node (settled_now w _ _ (c.in_ok-settle_log.ensures.order tells))
          (c.in_ok-start.ensures.tail tells) c.requires.written;
      order = λ tells. begun_order w job c.finish_job.result _ _ only
          (calls_told_more (settling_of w) job _ _ _ _ (c.in_ok-settle_log.ensures.order tells)
          (subst (λ d. CallsTold job (g.D.Disk.told d) (g.D.Disk.told c.finish_job.new.self.device) (end_of_store c.finish_job.result))
          c.in_ok-start.ensures.device
          (subst (λ l. CallsTold l (g.D.Disk.told c.start.new.self.device) (g.D.Disk.told c.finish_job.new.self.device)
          (end_of_store c.finish_job.result)) (ap job_left busy) (c.finish_job.ensures.order tells))));
      moments = λ tells.
          moments_of (moments_join P (g.D.Disk.told c.args.self.now.device) (g.D.Disk.told c.settle_log.new.self.device)
          (g.D.Disk.told c.finish_job.new.self.device)
          (moments_more log_layout c.args.self.now.node log_changes s (changes_in (doubt_in w)) new _ _
          (c.in_ok-settle_log.ensures.moments tells))
          (moments_weaker (Stands log_layout c.args.self.now.node log_changes mid (new ∷ [])) P _ _
          (λ image h. stands_weaker log_layout c.args.self.now.node log_changes mid s (new ∷ []) (changes_in (doubt_in w) ++ new ∷ []) image
          (λ is. settled_then c.settle_log.new.self.picked w s new
          (log_map c.args.self.now.node image) c.requires.idle c.in_ok-settle_log.ensures.picked
          (c.in_ok-settle_log.ensures.fresh tells)
          (subst (λ (x : Kept). IsAnyOf x (new ∷ []) (log_map c.args.self.now.node image)) (c.in_ok-settle_log.ensures.kept tells) is)) h)
          (subst (λ d. EachMoment (Stands log_layout c.args.self.now.node log_changes mid (new ∷ [])) (g.D.Disk.told d)
          (g.D.Disk.told c.finish_job.new.self.device)) c.in_ok-start.ensures.device
          (as_before log_layout c.args.self.now.node c.start.new.self.node log_changes log_changes mid
          (state_kept g.D.Disk.told c.start.new.self) (Some new) (change_in c.start.new.self.work) _ _
          (c.in_ok-start.ensures.node ∙ c.in_ok-settle_log.ensures.node) refl (c.in_ok-start.ensures.kept tells) (ap change_in busy)
          (c.finish_job.ensures.moments tells)))));
    }

pub returns-clause-timed : goal.returns-clause-timed
returns-clause-timed g c = λ tells.
    timed_join _ _ _ _ _ _ (c.in_ok-settle_log.ensures.timed tells)
    (subst (λ d. Timed (g.D.Disk.counts d).clock (g.D.Disk.told d) (g.D.Disk.counts c.finish_job.new.self.device).clock
    (g.D.Disk.told c.finish_job.new.self.device)) c.in_ok-start.ensures.device (c.finish_job.ensures.goes.timed tells))

pub returns-in_err-settle_log-clause-fresh : goal.returns-in_err-settle_log-clause-fresh
returns-in_err-settle_log-clause-fresh g c = λ tells. fresh_settled _ c.args.self.now.work _
    (state_kept g.D.Disk.told c.args.self.now) _ c.in_err-settle_log.ensures.work (c.in_err-settle_log.ensures.kept tells)
    (c.in_err-settle_log.ensures.fresh tells)

pub returns-in_err-start-clause-fresh : goal.returns-in_err-start-clause-fresh
returns-in_err-start-clause-fresh g c = λ tells.
    let w = c.args.self.now.work in
    fresh_idle _ (state_kept g.D.Disk.told c.start.new.self)
    (c.in_err-start.ensures.work ∙ idle_then _ w _ c.requires.idle c.in_ok-settle_log.ensures.picked c.in_ok-settle_log.ensures.work)

pub returns-clause-fresh : goal.returns-clause-fresh
returns-clause-fresh g c = λ tells.
    fresh_finished (Unit {0}) c.start.new.self.work _
    (state_kept g.D.Disk.told c.start.new.self) _ c.finish_job.result c.finish_job.ensures.work (c.finish_job.ensures.kept tells)
    (c.in_ok-start.ensures.fresh tells)

pub returns-clause-obeyed : goal.returns-clause-obeyed
returns-clause-obeyed g c = λ so.
    let e = c.in_ok-settle_log.ensures in
    let f = c.finish_job.ensures in
    let last = c.finish_job.new.self.device in
    let end : End = end_of_store c.finish_job.result in
    let began = c.in_ok-start.ensures.device in
    obeyed_more e.ran.made f.ran.made _ _ _ _ _ _ end e.ran.counts
    (subst (λ d. DeviceCalls f.ran.made (g.D.Disk.counts d) (g.D.Disk.counts last) end) began f.ran.counts) (e.obeyed so)
    (subst (λ d. Obeyed (g.D.Disk.due d) (g.D.Disk.due last) (g.D.Disk.counts d) (g.D.Disk.counts last) end) began (f.goes.obeyed so))

pub returns-in_err-settle_log-clause-node : goal.returns-in_err-settle_log-clause-node
returns-in_err-settle_log-clause-node g c = c.in_err-settle_log.ensures.node

pub returns-in_err-settle_log-clause-obeyed : goal.returns-in_err-settle_log-clause-obeyed
returns-in_err-settle_log-clause-obeyed g c =
    let p = err_from_is_err_and c.from_residual.result c.from_residual.ensures.1 in
    rw (p.1, p.2) (λ so. c.in_err-settle_log.ensures.obeyed so)

pub returns-in_err-settle_log-clause-timed : goal.returns-in_err-settle_log-clause-timed
returns-in_err-settle_log-clause-timed g c = λ tells. c.in_err-settle_log.ensures.timed tells

pub returns-in_err-settle_log-clause-picked : goal.returns-in_err-settle_log-clause-picked
returns-in_err-settle_log-clause-picked g c =
    let p = err_from_is_err_and c.from_residual.result c.from_residual.ensures.1 in
    rw (p.1, p.2) (first_refused (Unit {0}) _ c.args.self.now.work _ c.in_err-settle_log.ensures.only c.in_err-settle_log.ensures.picked)

pub returns-in_err-settle_log-clause-undamaged : goal.returns-in_err-settle_log-clause-undamaged
returns-in_err-settle_log-clause-undamaged g c =
    let p = err_from_is_err_and c.from_residual.result c.from_residual.ensures.1 in
    rw (p.1, p.2) (inl c.in_err-settle_log.ensures.only)

pub returns-in_err-settle_log-clause-full : goal.returns-in_err-settle_log-clause-full
returns-in_err-settle_log-clause-full g c =
    let p = err_from_is_err_and c.from_residual.result c.from_residual.ensures.1 in
    rw (p.1, p.2) (λ tells. room_unknown _ _ c.args.self.now.work _ c.in_err-settle_log.ensures.only
    c.in_err-settle_log.ensures.picked c.in_err-settle_log.ensures.refused)

pub returns-in_err-settle_log-clause-stands : goal.returns-in_err-settle_log-clause-stands
returns-in_err-settle_log-clause-stands g c = λ tells. c.in_err-settle_log.ensures.stands tells

pub returns-in_err-start-clause-node : goal.returns-in_err-start-clause-node
returns-in_err-start-clause-node g c = c.in_err-start.ensures.node ∙ c.in_ok-settle_log.ensures.node

pub returns-in_err-start-clause-obeyed : goal.returns-in_err-start-clause-obeyed
returns-in_err-start-clause-obeyed g c =
    let p = err_from_is_err_and c.from_residual-in_err-start.result c.from_residual-in_err-start.ensures.1 in
    let old = c.args.self.now.device in
    rw (p.1, p.2, c.in_err-start.ensures.only) (λ so.
    subst (λ d. Obeyed (g.D.Disk.due old) (g.D.Disk.due d) (g.D.Disk.counts old) (g.D.Disk.counts d) Fine)
    (sym c.in_err-start.ensures.device) (c.in_ok-settle_log.ensures.obeyed so))

pub returns-in_err-start-clause-timed : goal.returns-in_err-start-clause-timed
returns-in_err-start-clause-timed g c = λ tells.
    let old = c.args.self.now.device in
    subst (λ d. Timed (g.D.Disk.counts old).clock (g.D.Disk.told old) (g.D.Disk.counts d).clock (g.D.Disk.told d))
    (sym c.in_err-start.ensures.device) (c.in_ok-settle_log.ensures.timed tells)

pub returns-in_err-start-clause-picked : goal.returns-in_err-start-clause-picked
returns-in_err-start-clause-picked g c =
    let p = err_from_is_err_and c.from_residual-in_err-start.result c.from_residual-in_err-start.ensures.1 in
    rw (p.1, p.2, c.in_err-start.ensures.only) (ap is_some c.in_err-start.ensures.picked ∙ c.in_ok-settle_log.ensures.picked)

pub returns-in_err-start-clause-undamaged : goal.returns-in_err-start-clause-undamaged
returns-in_err-start-clause-undamaged g c =
    let p = err_from_is_err_and c.from_residual-in_err-start.result c.from_residual-in_err-start.ensures.1 in
    rw (p.1, p.2, c.in_err-start.ensures.only) (inr refl)

pub returns-in_err-start-clause-full : goal.returns-in_err-start-clause-full
returns-in_err-start-clause-full g c =
    let w = c.args.self.now.work in
    let s : Kept = state_kept g.D.Disk.told c.args.self.now in
    let mid : Kept = state_kept g.D.Disk.told c.settle_log.new.self in
    let size = (g.D.Disk.counts c.args.self.now.device).size in
    let p = err_from_is_err_and c.from_residual-in_err-start.result c.from_residual-in_err-start.ensures.1 in
    rw (p.1, p.2, c.in_err-start.ensures.only) (λ tells.
    subst (λ x. within_room (log_room size (settled x w s).ledger) c.args.length ≡ false) (sym c.in_err-start.ensures.picked)
    (subst (λ (x : Kept). within_room (log_room size x.ledger) c.args.length ≡ false) (c.in_ok-settle_log.ensures.kept tells)
    (subst (λ n. within_room (log_room n mid.ledger) c.args.length ≡ false) c.in_ok-settle_log.ensures.ran.counts.size
    (c.in_err-start.ensures.full tells))))

pub returns-in_err-start-clause-stands : goal.returns-in_err-start-clause-stands
returns-in_err-start-clause-stands g c = λ tells.
    leaves_as_before c.settle_log.new.self.node c.start.new.self.node (state_kept g.D.Disk.told c.settle_log.new.self)
    (state_kept g.D.Disk.told c.start.new.self) c.settle_log.new.self.work c.start.new.self.work _ _ c.in_err-start.ensures.node
    (c.in_err-start.ensures.kept tells) c.in_err-start.ensures.work (ap g.D.Disk.told c.in_err-start.ensures.device)
    (c.in_ok-settle_log.ensures.stands tells)

pub returns-clause-node : goal.returns-clause-node
returns-clause-node g c = c.finish_job.ensures.goes.node ∙ c.in_ok-start.ensures.node ∙ c.in_ok-settle_log.ensures.node

pub returns-clause-picked : goal.returns-clause-picked
returns-clause-picked g c = first_settled _ c.args.self.now.work c.finish_job.result
    (match_disk c.finish_job.result c.finish_job.ensures.only)
    (ap is_some (c.finish_job.ensures.picked ∙ c.in_ok-start.ensures.picked) ∙ c.in_ok-settle_log.ensures.picked)

pub returns-clause-undamaged : goal.returns-clause-undamaged
returns-clause-undamaged g c = disk_or_full (Unit {0}) c.finish_job.result c.finish_job.ensures.only

pub returns-clause-full : goal.returns-clause-full
returns-clause-full g c = λ tells.
    let w = c.args.self.now.work in
    let s : Kept = state_kept g.D.Disk.told c.args.self.now in
    let mid : Kept = state_kept g.D.Disk.told c.settle_log.new.self in
    let size = (g.D.Disk.counts c.args.self.now.device).size in
    room_had _ _ w c.finish_job.result (match_disk c.finish_job.result c.finish_job.ensures.only)
    (subst (λ x. IsTrue (within_room (log_room size (settled x w s).ledger) c.args.length))
    (sym (c.finish_job.ensures.picked ∙ c.in_ok-start.ensures.picked))
    (subst (λ (x : Kept). IsTrue (within_room (log_room size x.ledger) c.args.length)) (c.in_ok-settle_log.ensures.kept tells)
    (subst (λ n. IsTrue (within_room (log_room n mid.ledger) c.args.length)) c.in_ok-settle_log.ensures.ran.counts.size
    (c.in_ok-start.ensures.room tells))))

pub returns-clause-stands : goal.returns-clause-stands
returns-clause-stands g c = λ tells. c.finish_job.ensures.goes.stands tells

pub start-requires-clause-idle : goal.start-requires-clause-idle
start-requires-clause-idle g c = idle_then _ c.args.self.now.work _ c.requires.idle c.in_ok-settle_log.ensures.picked
    c.in_ok-settle_log.ensures.work

pub start-requires-clause-entry : goal.start-requires-clause-entry
start-requires-clause-entry g c = c.in_ok-settle_log.ensures.entries c.args.uid c.requires.entry

pub start-requires-clause-spelled : goal.start-requires-clause-spelled
start-requires-clause-spelled g c = subst (λ n. IsRecordOf n c.args.record_bytes.items c.args.uid false c.args.length)
    (sym c.in_ok-settle_log.ensures.node) c.requires.spelled

pub start-requires-clause-kept : goal.start-requires-clause-kept
start-requires-clause-kept g c = λ no. absurd (false≢true no)

pub finish_job-requires-clause-power : goal.finish_job-requires-clause-power
finish_job-requires-clause-power g c = subst (λ d. IsTrue (g.D.Disk.counts d).power) (sym c.in_ok-start.ensures.device)
    c.in_ok-settle_log.ensures.ran.counts.power

pub finish_job-requires-clause-busy : goal.finish_job-requires-clause-busy
finish_job-requires-clause-busy g c = ap is_busy c.in_ok-start.ensures.work
