use Rattle.std.proofs.Common.{◌≡◌, ◌+◌, true, false, IsTrue, None, Some, take, refl, sym, ap, subst, ◌∙◌, arith}
use Rattle.std.proofs.lemmas.Bool.{false≢true}
use Rattle.eden_disk.specs.Told.{Told, contents}
use Rattle.eden_disk.specs.Calls.{Counts, DeviceCalls, Obeyed}
use Rattle.passive_store.specs.declared.log_store.Pending.{Pending}
use Rattle.passive_store.specs.declared.log_store.Stage.TheVariants.{Ended}
use Rattle.passive_store.specs.Kept.{is_busy, refused}
use Rattle.passive_store.specs.LogLayout.{log_kept}
use Rattle.passive_store.specs.LogState.{IsPlaced, IsLog, IsStaged, SetsSlot, pending_work, stage_call}
use Rattle.passive_store.specs.declared.store.Progress.{Progress}
use Rattle.passive_store.proofs.Tails.{log_stands, placed_more}
use Rattle.passive_store.proofs.Pendings.{Keeps, keeps_of, keeps_placed, keeps_log, keeps_shown, step_moments, next_told, told_refused}
use Rattle.passive_store.proofs.Pendings.{keeps_next, job_at, front_long, job_done, with_stage, shown_refused, shown_going, shown_done}
use Rattle.passive_store.proofs.Settling.{next_work, last_work, refused_call_work, refused_only, refused_end, restaged_log}
use Rattle.passive_store.proofs.log_store.LogStore.advance_job.Goals as goal

pub returns-in_default : goal.returns-in_default
returns-in_default g c =
    let s = c.self.inside in
    let none : s.pending ≡ None = sym c.in_default.ensures.value in
    let busy : is_busy (pending_work s.tail s.pending) ≡ true = subst (λ v. IsTrue (is_busy v.work)) (sym c.self.view_is)
    c.requires.busy in absurd (false≢true (ap (λ q. is_busy (pending_work s.tail q)) (sym none) ∙ busy))

pub invariant_of-self-in-Err : goal.invariant_of-self-in-Err
invariant_of-self-in-Err g c =
    let s = c.self.inside in
    let p : Pending = c.in-Some.pending in
    let items = c.deref.result.now in
    let same = c.deref.ensures.value in
    let e : s.pending ≡ Some p = sym c.take.ensures.value ∙ c.in-Some.is in
    let t0 : Told = g.D.Disk.told s.disk in
    let t1 : Told = g.D.Disk.told c.make_call.new.disk in
    let k0 : Counts = g.D.Disk.counts s.disk in
    let k1 : Counts = g.D.Disk.counts c.make_call.new.disk in
    let power : IsTrue k0.power = subst (λ v. IsTrue (g.D.Disk.counts v.device).power) (sym c.self.view_is) c.requires.power in
    let job = λ (tells : IsTrue g.D.Disk.tells). job_at s.node s.size s.tail (contents t0) k0 s.index s.pending p items e same
    c.self.invariant.0 (c.self.invariant.1 tells) (c.self.invariant.2 tells power) in
    let at = λ (tells : IsTrue g.D.Disk.tells). front_long s.node s.size s.tail (contents t0) k0 s.index s.pending c.self.invariant.0
    (c.self.invariant.1 tells) in
    let keeps : IsTrue g.D.Disk.tells → Keeps s.node s.size s.tail t0 t1 k0 k1 s.index s.pending p = λ tells.
    keeps_of s.node s.size s.tail t0 t1 k0 k1 s.index s.pending p items e same c.self.invariant.0 (c.self.invariant.1 tells)
    c.in-Err.ensures.counts.size (c.in-Err.ensures.whole tells (take s.tail (contents t0).now) (at tells) (job tells)) in
    restaged_log _ _ s.node s.size s.tail t0 t1 k0 k1 s.index s.pending p (Ended false) e c.self.invariant.0
    c.in-Err.ensures.counts.size keeps (λ tells. tt) (λ tells on. tt)

pub returns-in-Err : goal.returns-in-Err
returns-in-Err g c =
    let s = c.self.inside in
    let p : Pending = c.in-Some.pending in
    let items = c.deref.result.now in
    let same = c.deref.ensures.value in
    let e : s.pending ≡ Some p = sym c.take.ensures.value ∙ c.in-Some.is in
    let t0 : Told = g.D.Disk.told s.disk in
    let t1 : Told = g.D.Disk.told c.make_call.new.disk in
    let k0 : Counts = g.D.Disk.counts s.disk in
    let k1 : Counts = g.D.Disk.counts c.make_call.new.disk in
    let power : IsTrue k0.power = subst (λ v. IsTrue (g.D.Disk.counts v.device).power) (sym c.self.view_is) c.requires.power in
    let job = λ (tells : IsTrue g.D.Disk.tells). job_at s.node s.size s.tail (contents t0) k0 s.index s.pending p items e same
    c.self.invariant.0 (c.self.invariant.1 tells) (c.self.invariant.2 tells power) in
    let at = λ (tells : IsTrue g.D.Disk.tells). front_long s.node s.size s.tail (contents t0) k0 s.index s.pending c.self.invariant.0
    (c.self.invariant.1 tells) in
    let keeps : IsTrue g.D.Disk.tells → Keeps s.node s.size s.tail t0 t1 k0 k1 s.index s.pending p = λ tells.
    keeps_of s.node s.size s.tail t0 t1 k0 k1 s.index s.pending p items e same c.self.invariant.0 (c.self.invariant.1 tells)
    c.in-Err.ensures.counts.size (c.in-Err.ensures.whole tells (take s.tail (contents t0).now) (at tells) (job tells)) in
    let busy : is_busy (pending_work s.tail s.pending) ≡ true = subst (λ v. IsTrue (is_busy v.work)) (sym c.self.view_is)
    c.requires.busy in
    let refusal = c.in-Err.refusal in
    let ends = refused_end (Unit {0}) Progress refusal in
    rw (c.into.ensures, ← c.self.view_is) (record {
      node = refl;
      counts = subst (DeviceCalls 1 k0 k1) ends c.in-Err.ensures.counts;
      obeyed = λ so. subst (Obeyed (g.D.Disk.due s.disk) (g.D.Disk.due c.make_call.new.disk) k0 k1) ends (c.in-Err.ensures.obeyed so);
      timed = λ tells. c.make_call.ensures.timed tells;
      only = refused_only refusal;
      last = tt;
      told = λ tells. next_told s.tail s.pending p items _ _ _ _ e same
          (told_refused (Unit {0}) Progress (stage_call s.tail items p.stage) _ _ _ _ (c.in-Err.ensures.told tells));
      work = refused_call_work s.tail s.pending p (refused refusal) e busy;
      picked = refl;
      kept = λ tells. keeps_shown s.node s.size s.tail t0 t1 k0 k1 s.index s.pending p (keeps tells)
          ∙ shown_refused (pending_work s.tail s.pending) (log_kept s.node s.tail (contents t0).now) _;
      stands = λ tells. log_stands s.node s.size s.tail (contents t1) k1 s.index (Some (with_stage p (Ended false)))
          (keeps_placed s.node s.size s.tail t0 t1 k0 k1 s.index s.pending p (Ended false) (keeps tells))
          (keeps_log s.node s.size s.tail t0 t1 k0 k1 s.index s.pending p (Ended false) (keeps tells) tt);
      moments = λ tells. step_moments s.node s.size s.tail t0 t1 k0 k1 s.index s.pending p (keeps tells)
          (c.in-Err.ensures.first tells (take s.tail (contents t0).now) (at tells) (job tells));
    })

pub invariant_of-self-in-Some-next_stage : goal.invariant_of-self-in-Some-next_stage
invariant_of-self-in-Some-next_stage g c =
    let s = c.self.inside in
    let p : Pending = c.in-Some.pending in
    let items = c.deref.result.now in
    let same = c.deref.ensures.value in
    let e : s.pending ≡ Some p = sym c.take.ensures.value ∙ c.in-Some.is in
    let t0 : Told = g.D.Disk.told s.disk in
    let t1 : Told = g.D.Disk.told c.make_call.new.disk in
    let k0 : Counts = g.D.Disk.counts s.disk in
    let k1 : Counts = g.D.Disk.counts c.make_call.new.disk in
    let power : IsTrue k0.power = subst (λ v. IsTrue (g.D.Disk.counts v.device).power) (sym c.self.view_is) c.requires.power in
    let job = λ (tells : IsTrue g.D.Disk.tells). job_at s.node s.size s.tail (contents t0) k0 s.index s.pending p items e same
    c.self.invariant.0 (c.self.invariant.1 tells) (c.self.invariant.2 tells power) in
    let at = λ (tells : IsTrue g.D.Disk.tells). front_long s.node s.size s.tail (contents t0) k0 s.index s.pending c.self.invariant.0
    (c.self.invariant.1 tells) in
    let keeps : IsTrue g.D.Disk.tells → Keeps s.node s.size s.tail t0 t1 k0 k1 s.index s.pending p = λ tells.
    keeps_of s.node s.size s.tail t0 t1 k0 k1 s.index s.pending p items e same c.self.invariant.0 (c.self.invariant.1 tells)
    c.in-Ok.ensures.counts.size (c.in-Ok.ensures.whole tells (take s.tail (contents t0).now) (at tells) (job tells)) in
    let next = c.in-Some-next_stage.stage in
    let after = sym c.next_stage.ensures ∙ c.in-Some-next_stage.is in
    let facts = λ (tells : IsTrue g.D.Disk.tells).
    keeps_next s.node s.size s.tail t0 t1 k0 k1 s.index s.pending p items next (keeps tells) same after
    (c.in-Ok.ensures.next tells (take s.tail (contents t0).now) (at tells) (job tells)) in
    restaged_log _ _ s.node s.size s.tail t0 t1 k0 k1 s.index s.pending p next e c.self.invariant.0
    c.in-Ok.ensures.counts.size keeps (λ tells. (facts tells).0) (λ tells on. (facts tells).1)

pub returns-in-Some-next_stage : goal.returns-in-Some-next_stage
returns-in-Some-next_stage g c =
    let s = c.self.inside in
    let p : Pending = c.in-Some.pending in
    let items = c.deref.result.now in
    let same = c.deref.ensures.value in
    let e : s.pending ≡ Some p = sym c.take.ensures.value ∙ c.in-Some.is in
    let t0 : Told = g.D.Disk.told s.disk in
    let t1 : Told = g.D.Disk.told c.make_call.new.disk in
    let k0 : Counts = g.D.Disk.counts s.disk in
    let k1 : Counts = g.D.Disk.counts c.make_call.new.disk in
    let power : IsTrue k0.power = subst (λ v. IsTrue (g.D.Disk.counts v.device).power) (sym c.self.view_is) c.requires.power in
    let job = λ (tells : IsTrue g.D.Disk.tells). job_at s.node s.size s.tail (contents t0) k0 s.index s.pending p items e same
    c.self.invariant.0 (c.self.invariant.1 tells) (c.self.invariant.2 tells power) in
    let at = λ (tells : IsTrue g.D.Disk.tells). front_long s.node s.size s.tail (contents t0) k0 s.index s.pending c.self.invariant.0
    (c.self.invariant.1 tells) in
    let keeps : IsTrue g.D.Disk.tells → Keeps s.node s.size s.tail t0 t1 k0 k1 s.index s.pending p = λ tells.
    keeps_of s.node s.size s.tail t0 t1 k0 k1 s.index s.pending p items e same c.self.invariant.0 (c.self.invariant.1 tells)
    c.in-Ok.ensures.counts.size (c.in-Ok.ensures.whole tells (take s.tail (contents t0).now) (at tells) (job tells)) in
    let next = c.in-Some-next_stage.stage in
    let after = sym c.next_stage.ensures ∙ c.in-Some-next_stage.is in
    let facts = λ (tells : IsTrue g.D.Disk.tells).
    keeps_next s.node s.size s.tail t0 t1 k0 k1 s.index s.pending p items next (keeps tells) same after
    (c.in-Ok.ensures.next tells (take s.tail (contents t0).now) (at tells) (job tells)) in
    let work = next_work s.tail s.pending p next e after in
    rw (← c.self.view_is) (record {
      node = refl;
      counts = c.in-Ok.ensures.counts;
      obeyed = λ so. c.in-Ok.ensures.obeyed so;
      timed = λ tells. c.make_call.ensures.timed tells;
      only = tt;
      last = work.1;
      told = λ tells. next_told s.tail s.pending p items _ _ _ _ e same (c.in-Ok.ensures.told tells);
      work = work.0;
      picked = refl;
      kept = λ tells. keeps_shown s.node s.size s.tail t0 t1 k0 k1 s.index s.pending p (keeps tells)
          ∙ shown_going (pending_work s.tail s.pending) (log_kept s.node s.tail (contents t0).now);
      stands = λ tells. log_stands s.node s.size s.tail (contents t1) k1 s.index (Some (with_stage p next))
          (keeps_placed s.node s.size s.tail t0 t1 k0 k1 s.index s.pending p next (keeps tells))
          (keeps_log s.node s.size s.tail t0 t1 k0 k1 s.index s.pending p next (keeps tells) (facts tells).0);
      moments = λ tells. step_moments s.node s.size s.tail t0 t1 k0 k1 s.index s.pending p (keeps tells)
          (c.in-Ok.ensures.first tells (take s.tail (contents t0).now) (at tells) (job tells));
    })

pub invariant_of-self-in-None-next_stage : goal.invariant_of-self-in-None-next_stage
invariant_of-self-in-None-next_stage g c =
    let s = c.self.inside in
    let p : Pending = c.in-Some.pending in
    let items = c.deref.result.now in
    let same = c.deref.ensures.value in
    let e : s.pending ≡ Some p = sym c.take.ensures.value ∙ c.in-Some.is in
    let t0 : Told = g.D.Disk.told s.disk in
    let t1 : Told = g.D.Disk.told c.make_call.new.disk in
    let k0 : Counts = g.D.Disk.counts s.disk in
    let k1 : Counts = g.D.Disk.counts c.make_call.new.disk in
    let power : IsTrue k0.power = subst (λ v. IsTrue (g.D.Disk.counts v.device).power) (sym c.self.view_is) c.requires.power in
    let job = λ (tells : IsTrue g.D.Disk.tells). job_at s.node s.size s.tail (contents t0) k0 s.index s.pending p items e same
    c.self.invariant.0 (c.self.invariant.1 tells) (c.self.invariant.2 tells power) in
    let at = λ (tells : IsTrue g.D.Disk.tells). front_long s.node s.size s.tail (contents t0) k0 s.index s.pending c.self.invariant.0
    (c.self.invariant.1 tells) in
    let keeps : IsTrue g.D.Disk.tells → Keeps s.node s.size s.tail t0 t1 k0 k1 s.index s.pending p = λ tells.
    keeps_of s.node s.size s.tail t0 t1 k0 k1 s.index s.pending p items e same c.self.invariant.0 (c.self.invariant.1 tells)
    c.in-Ok.ensures.counts.size (c.in-Ok.ensures.whole tells (take s.tail (contents t0).now) (at tells) (job tells)) in
    let busy : is_busy (pending_work s.tail s.pending) ≡ true = subst (λ v. IsTrue (is_busy v.work)) (sym c.self.view_is)
    c.requires.busy in
    let none : c.take.new.self ≡ None = c.take.ensures.after in
    let after = sym c.next_stage.ensures ∙ c.in-None.is in
    let done = λ (tells : IsTrue g.D.Disk.tells).
    job_done s.node s.size s.tail t0 t1 k0 k1 s.index c.set_slot.new.index s.pending p items c.make_slot-slot.result (keeps tells) same
    after busy (c.in-Ok.ensures.next tells (take s.tail (contents t0).now) (at tells) (job tells)) c.make_slot-slot.ensures
    c.set_slot.ensures.sets in
    let placed : IsPlaced s.size s.tail k0 s.index (Some p) = subst (IsPlaced s.size s.tail k0 s.index) e c.self.invariant.0 in (
      subst (IsPlaced s.size (s.tail + p.length + 15) k1 c.set_slot.new.index) (sym none)
          (placed_more s.size s.tail p.length k0 k1 s.index c.set_slot.new.index s.pending p.uid p.removal c.self.invariant.0
          c.in-Ok.ensures.counts.size (omega (arith, placed.placed.0, placed.placed.2))
          (subst (SetsSlot s.index c.set_slot.new.index p.uid) c.make_slot-slot.ensures c.set_slot.ensures.sets)),
      λ tells. subst (IsLog s.node s.size (s.tail + p.length + 15) (contents t1) c.set_slot.new.index) (sym none) (done tells).1,
      λ tells on. subst (IsStaged (s.tail + p.length + 15) (contents t1)) (sym none) tt,
    )

pub returns-in-None : goal.returns-in-None
returns-in-None g c =
    let s = c.self.inside in
    let p : Pending = c.in-Some.pending in
    let items = c.deref.result.now in
    let same = c.deref.ensures.value in
    let e : s.pending ≡ Some p = sym c.take.ensures.value ∙ c.in-Some.is in
    let t0 : Told = g.D.Disk.told s.disk in
    let t1 : Told = g.D.Disk.told c.make_call.new.disk in
    let k0 : Counts = g.D.Disk.counts s.disk in
    let k1 : Counts = g.D.Disk.counts c.make_call.new.disk in
    let power : IsTrue k0.power = subst (λ v. IsTrue (g.D.Disk.counts v.device).power) (sym c.self.view_is) c.requires.power in
    let job = λ (tells : IsTrue g.D.Disk.tells). job_at s.node s.size s.tail (contents t0) k0 s.index s.pending p items e same
    c.self.invariant.0 (c.self.invariant.1 tells) (c.self.invariant.2 tells power) in
    let at = λ (tells : IsTrue g.D.Disk.tells). front_long s.node s.size s.tail (contents t0) k0 s.index s.pending c.self.invariant.0
    (c.self.invariant.1 tells) in
    let keeps : IsTrue g.D.Disk.tells → Keeps s.node s.size s.tail t0 t1 k0 k1 s.index s.pending p = λ tells.
    keeps_of s.node s.size s.tail t0 t1 k0 k1 s.index s.pending p items e same c.self.invariant.0 (c.self.invariant.1 tells)
    c.in-Ok.ensures.counts.size (c.in-Ok.ensures.whole tells (take s.tail (contents t0).now) (at tells) (job tells)) in
    let busy : is_busy (pending_work s.tail s.pending) ≡ true = subst (λ v. IsTrue (is_busy v.work)) (sym c.self.view_is)
    c.requires.busy in
    let none : c.take.new.self ≡ None = c.take.ensures.after in
    let after = sym c.next_stage.ensures ∙ c.in-None.is in
    let done = λ (tells : IsTrue g.D.Disk.tells).
    job_done s.node s.size s.tail t0 t1 k0 k1 s.index c.set_slot.new.index s.pending p items c.make_slot-slot.result (keeps tells) same
    after busy (c.in-Ok.ensures.next tells (take s.tail (contents t0).now) (at tells) (job tells)) c.make_slot-slot.ensures
    c.set_slot.ensures.sets in
    let work = last_work s.tail s.pending p e after busy in
    rw (← c.self.view_is, none) (record {
      node = refl;
      counts = c.in-Ok.ensures.counts;
      obeyed = λ so. c.in-Ok.ensures.obeyed so;
      timed = λ tells. c.make_call.ensures.timed tells;
      only = tt;
      last = work.1;
      told = λ tells. next_told s.tail s.pending p items _ _ _ _ e same (c.in-Ok.ensures.told tells);
      work = work.0;
      picked = refl;
      kept = λ tells. (done tells).2 ∙ shown_done s.tail s.pending p (log_kept s.node s.tail (contents t0).now) e busy;
      stands = λ tells. log_stands s.node s.size (s.tail + p.length + 15) (contents t1) k1 c.set_slot.new.index None
          (done tells).0 (done tells).1;
      moments = λ tells. step_moments s.node s.size s.tail t0 t1 k0 k1 s.index s.pending p (keeps tells)
          (c.in-Ok.ensures.first tells (take s.tail (contents t0).now) (at tells) (job tells));
    })
