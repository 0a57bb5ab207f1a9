use Rattle.std.proofs.Common.{◌≡◌, ◌+◌, Bool, true, false, IsTrue, None, Some, refl, sym, ap, subst, ◌∙◌, arith}
use Rattle.std.specs.Prelude.{Ok, Err}
use Rattle.std.proofs.lemmas.Bool.{false≢true}
use Rattle.eden_disk.specs.Told.{Told, contents}
use Rattle.eden_disk.proofs.Held.{calls_one, obeyed_one}
use Rattle.eden_disk.proofs.Timed.{timed_sync}
use Rattle.eden_disk.specs.Calls.{Counts, Fine, DeviceCalls, Obeyed, SyncTold, ReadTold}
use Rattle.passive_store.specs.declared.log_store.Pending.{Pending}
use Rattle.passive_store.specs.declared.log_store.Stage.TheVariants.{Ended}
use Rattle.passive_store.specs.declared.store.Progress.{Progress}
use Rattle.passive_store.specs.declared.store.Progress.TheVariants.{Going, Done}
use Rattle.passive_store.specs.Acts.{CallTold, settling_call}
use Rattle.passive_store.specs.Kept.{Unsettled, is_unsettled, is_synced, progress_at, work_stepped, refused, end_of_store}
use Rattle.passive_store.specs.LogLayout.{log_kept}
use Rattle.passive_store.specs.LogState.{IsPlaced, IsLog, IsStaged, SetsSlot, pending_work, change_of}
use Rattle.passive_store.proofs.Tails.{log_stands, placed_more}
use Rattle.passive_store.proofs.Jobs.{rests}
use Rattle.passive_store.proofs.Pendings.{Keeps, keeps_sync, keeps_read, keeps_placed, keeps_log, keeps_shown, doubt_moments, read_rest}
use Rattle.passive_store.proofs.Pendings.{settled_old, settled_new, with_stage, shown_new, doubt_fresh}
use Rattle.passive_store.proofs.Settling.{in_doubt_at, refused_only, refused_end, restaged_log}
use Rattle.passive_store.proofs.log_store.LogStore.settle_once.Goals as goal

pub returns-in_default : goal.returns-in_default
returns-in_default g c =
    let s = c.self.inside in
    let none : s.pending ≡ None = sym c.in_default.ensures.value in
    let unsettled : is_unsettled (pending_work s.tail s.pending) ≡ true = subst (λ v. IsTrue (is_unsettled v.work))
    (sym c.self.view_is) c.requires.unsettled in
    absurd (false≢true (ap (λ q. is_unsettled (pending_work s.tail q)) (sym none) ∙ unsettled))

pub invariant_of-self-in-Ok : goal.invariant_of-self-in-Ok
invariant_of-self-in-Ok g c =
    let s = c.self.inside in
    let p : Pending = c.in-Some.pending in
    let e : s.pending ≡ Some p = sym c.take.ensures.value ∙ c.in-Some.is in
    let t0 : Told = g.D.Disk.told s.disk in
    let t1 : Told = g.D.Disk.told c.sync.new.self in
    let k0 : Counts = g.D.Disk.counts s.disk in
    let k1 : Counts = g.D.Disk.counts c.sync.new.self in
    let keeps : IsTrue g.D.Disk.tells → Keeps s.node s.size s.tail t0 t1 k0 k1 s.index s.pending p = λ tells.
    keeps_sync s.node s.size s.tail _ t0 t1 k0 k1 s.index s.pending p Fine e c.self.invariant.0 (c.self.invariant.1 tells)
    c.in-Ok.ensures.counts.size (c.in-Ok.ensures.told tells) in
    restaged_log _ _ s.node s.size s.tail t0 t1 k0 k1 s.index s.pending p (Ended true) e c.self.invariant.0
    c.in-Ok.ensures.counts.size keeps (λ tells. tt) (λ tells on. rests (contents t0) (contents t1)
    (ap contents (c.in-Ok.ensures.told tells)))

pub returns-in-Ok : goal.returns-in-Ok
returns-in-Ok g c =
    let s = c.self.inside in
    let p : Pending = c.in-Some.pending in
    let e : s.pending ≡ Some p = sym c.take.ensures.value ∙ c.in-Some.is in
    let t0 : Told = g.D.Disk.told s.disk in
    let t1 : Told = g.D.Disk.told c.sync.new.self in
    let k0 : Counts = g.D.Disk.counts s.disk in
    let k1 : Counts = g.D.Disk.counts c.sync.new.self in
    let unsettled : is_unsettled (pending_work s.tail s.pending) ≡ true = subst (λ v. IsTrue (is_unsettled v.work))
    (sym c.self.view_is) c.requires.unsettled in
    let is : pending_work s.tail s.pending ≡ Unsettled (change_of s.tail p) false =
    in_doubt_at s.tail s.pending p false e unsettled (sym c.has_synced.ensures ∙ c.if-not-has_synced.true) in
    let keeps : IsTrue g.D.Disk.tells → Keeps s.node s.size s.tail t0 t1 k0 k1 s.index s.pending p = λ tells.
    keeps_sync s.node s.size s.tail _ t0 t1 k0 k1 s.index s.pending p Fine e c.self.invariant.0 (c.self.invariant.1 tells)
    c.in-Ok.ensures.counts.size (c.in-Ok.ensures.told tells) in
    rw (← c.self.view_is) (record {
      node = refl;
      counts = calls_one k0 k1 Fine c.in-Ok.ensures.counts;
      obeyed = λ so. obeyed_one _ _ k0 k1 Fine c.in-Ok.ensures.counts (c.in-Ok.ensures.obeys so);
      timed = λ tells. timed_sync k0 k1 t0 t1 _ c.sync.ensures.counts.clock (c.sync.ensures.spent tells) (c.sync.ensures.told tells);
      only = tt;
      last = ap (λ w. progress_at (is_synced w)) (sym is);
      told = λ tells. subst (λ w. CallTold (settling_call (is_synced w)) k1.clock t0 t1 Fine) (sym is) (c.in-Ok.ensures.told tells);
      work = ap (λ w. work_stepped w (Ok Going)) (sym is);
      picked = ap is_synced (sym is);
      entries = λ q h. h;
      kept = λ tells. keeps_shown s.node s.size s.tail t0 t1 k0 k1 s.index s.pending p (keeps tells);
      fresh = λ tells. doubt_fresh s.node s.size s.tail (contents t0) s.index s.pending (c.self.invariant.1 tells);
      stands = λ tells. log_stands s.node s.size s.tail (contents t1) k1 s.index (Some (with_stage p (Ended true)))
          (keeps_placed s.node s.size s.tail t0 t1 k0 k1 s.index s.pending p (Ended true) (keeps tells))
          (keeps_log s.node s.size s.tail t0 t1 k0 k1 s.index s.pending p (Ended true) (keeps tells) tt);
      moments = λ tells. doubt_moments s.node s.size s.tail t0 t1 k0 k1 s.index s.pending p (keeps tells) unsettled;
    })

pub invariant_of-self-in-Err : goal.invariant_of-self-in-Err
invariant_of-self-in-Err g c =
    let s = c.self.inside in
    let p : Pending = c.in-Some.pending in
    let e : s.pending ≡ Some p = sym c.take.ensures.value ∙ c.in-Some.is in
    let t0 : Told = g.D.Disk.told s.disk in
    let t1 : Told = g.D.Disk.told c.sync.new.self in
    let k0 : Counts = g.D.Disk.counts s.disk in
    let k1 : Counts = g.D.Disk.counts c.sync.new.self in
    let keeps : IsTrue g.D.Disk.tells → Keeps s.node s.size s.tail t0 t1 k0 k1 s.index s.pending p = λ tells.
    keeps_sync s.node s.size s.tail _ t0 t1 k0 k1 s.index s.pending p _ e c.self.invariant.0 (c.self.invariant.1 tells)
    c.in-Err.ensures.counts.size (c.in-Err.ensures.told tells) in
    restaged_log _ _ s.node s.size s.tail t0 t1 k0 k1 s.index s.pending p (Ended false) e c.self.invariant.0
    c.in-Err.ensures.counts.size keeps (λ tells. tt) (λ tells on. tt)

pub returns-in-Err : goal.returns-in-Err
returns-in-Err g c =
    let s = c.self.inside in
    let p : Pending = c.in-Some.pending in
    let e : s.pending ≡ Some p = sym c.take.ensures.value ∙ c.in-Some.is in
    let t0 : Told = g.D.Disk.told s.disk in
    let t1 : Told = g.D.Disk.told c.sync.new.self in
    let k0 : Counts = g.D.Disk.counts s.disk in
    let k1 : Counts = g.D.Disk.counts c.sync.new.self in
    let unsettled : is_unsettled (pending_work s.tail s.pending) ≡ true = subst (λ v. IsTrue (is_unsettled v.work))
    (sym c.self.view_is) c.requires.unsettled in
    let is : pending_work s.tail s.pending ≡ Unsettled (change_of s.tail p) false =
    in_doubt_at s.tail s.pending p false e unsettled (sym c.has_synced.ensures ∙ c.if-not-has_synced.true) in
    let keeps : IsTrue g.D.Disk.tells → Keeps s.node s.size s.tail t0 t1 k0 k1 s.index s.pending p = λ tells.
    keeps_sync s.node s.size s.tail _ t0 t1 k0 k1 s.index s.pending p _ e c.self.invariant.0 (c.self.invariant.1 tells)
    c.in-Err.ensures.counts.size (c.in-Err.ensures.told tells) in
    let refusal = c.in-Err.refusal in
    let ends = refused_end (Unit {0}) Progress refusal in
    rw (c.into.ensures, ← c.self.view_is) (record {
      node = refl;
      counts = subst (DeviceCalls 1 k0 k1) ends (calls_one k0 k1 _ c.in-Err.ensures.counts);
      obeyed = λ so. subst (Obeyed (g.D.Disk.due s.disk) (g.D.Disk.due c.sync.new.self) k0 k1) ends
          (obeyed_one _ _ k0 k1 _ c.in-Err.ensures.counts (c.in-Err.ensures.obeys so));
      timed = λ tells. timed_sync k0 k1 t0 t1 _ c.sync.ensures.counts.clock (c.sync.ensures.spent tells) (c.sync.ensures.told tells);
      only = refused_only refusal;
      last = tt;
      told = λ tells. subst (λ w. CallTold (settling_call (is_synced w)) k1.clock t0 t1
          (end_of_store {T = Progress} (Err (refused refusal))))
          (sym is) (subst (SyncTold k1.clock t0 t1) ends (c.in-Err.ensures.told tells));
      work = ap (λ w. work_stepped w (Err (refused refusal))) (sym is);
      picked = refl;
      entries = λ q h. h;
      kept = λ tells. keeps_shown s.node s.size s.tail t0 t1 k0 k1 s.index s.pending p (keeps tells);
      fresh = λ tells. doubt_fresh s.node s.size s.tail (contents t0) s.index s.pending (c.self.invariant.1 tells);
      stands = λ tells. log_stands s.node s.size s.tail (contents t1) k1 s.index (Some (with_stage p (Ended false)))
          (keeps_placed s.node s.size s.tail t0 t1 k0 k1 s.index s.pending p (Ended false) (keeps tells))
          (keeps_log s.node s.size s.tail t0 t1 k0 k1 s.index s.pending p (Ended false) (keeps tells) tt);
      moments = λ tells. doubt_moments s.node s.size s.tail t0 t1 k0 k1 s.index s.pending p (keeps tells) unsettled;
    })

pub invariant_of-self-in-Err-read_gate : goal.invariant_of-self-in-Err-read_gate
invariant_of-self-in-Err-read_gate g c =
    let s = c.self.inside in
    let p : Pending = c.in-Some.pending in
    let e : s.pending ≡ Some p = sym c.take.ensures.value ∙ c.in-Some.is in
    let t0 : Told = g.D.Disk.told s.disk in
    let t1 : Told = g.D.Disk.told c.read_gate.new.disk in
    let k0 : Counts = g.D.Disk.counts s.disk in
    let k1 : Counts = g.D.Disk.counts c.read_gate.new.disk in
    let keeps : IsTrue g.D.Disk.tells → Keeps s.node s.size s.tail t0 t1 k0 k1 s.index s.pending p = λ tells.
    keeps_read s.node s.size s.tail _ t0 t1 k0 k1 s.index s.pending p _ e c.self.invariant.0 (c.self.invariant.1 tells)
    c.in-Err-read_gate.ensures.counts.size (c.in-Err-read_gate.ensures.told tells) in
    restaged_log _ _ s.node s.size s.tail t0 t1 k0 k1 s.index s.pending p (Ended false) e c.self.invariant.0
    c.in-Err-read_gate.ensures.counts.size keeps (λ tells. tt) (λ tells on. tt)

pub returns-in-Err-read_gate : goal.returns-in-Err-read_gate
returns-in-Err-read_gate g c =
    let s = c.self.inside in
    let p : Pending = c.in-Some.pending in
    let e : s.pending ≡ Some p = sym c.take.ensures.value ∙ c.in-Some.is in
    let t0 : Told = g.D.Disk.told s.disk in
    let t1 : Told = g.D.Disk.told c.read_gate.new.disk in
    let k0 : Counts = g.D.Disk.counts s.disk in
    let k1 : Counts = g.D.Disk.counts c.read_gate.new.disk in
    let unsettled : is_unsettled (pending_work s.tail s.pending) ≡ true = subst (λ v. IsTrue (is_unsettled v.work))
    (sym c.self.view_is) c.requires.unsettled in
    let is : pending_work s.tail s.pending ≡ Unsettled (change_of s.tail p) true =
    in_doubt_at s.tail s.pending p true e unsettled (sym c.has_synced.ensures ∙ c.if-not-has_synced.false) in
    let keeps : IsTrue g.D.Disk.tells → Keeps s.node s.size s.tail t0 t1 k0 k1 s.index s.pending p = λ tells.
    keeps_read s.node s.size s.tail _ t0 t1 k0 k1 s.index s.pending p _ e c.self.invariant.0 (c.self.invariant.1 tells)
    c.in-Err-read_gate.ensures.counts.size (c.in-Err-read_gate.ensures.told tells) in
    let refusal = c.in-Err-read_gate.refusal in
    let ends = refused_end Bool Progress refusal in
    rw (c.into-in-Err-read_gate.ensures, ← c.self.view_is) (record {
      node = refl;
      counts = subst (DeviceCalls 1 k0 k1) ends c.in-Err-read_gate.ensures.counts;
      obeyed = λ so. subst (Obeyed (g.D.Disk.due s.disk) (g.D.Disk.due c.read_gate.new.disk) k0 k1) ends
          (c.in-Err-read_gate.ensures.obeyed so);
      timed = λ tells. c.read_gate.ensures.timed tells;
      only = refused_only refusal;
      last = tt;
      told = λ tells. subst (λ w. CallTold (settling_call (is_synced w)) k1.clock t0 t1
          (end_of_store {T = Progress} (Err (refused refusal))))
          (sym is) (subst (ReadTold k1.clock t0 t1) ends (c.in-Err-read_gate.ensures.told tells));
      work = ap (λ w. work_stepped w (Err (refused refusal))) (sym is);
      picked = refl;
      entries = λ q h. h;
      kept = λ tells. keeps_shown s.node s.size s.tail t0 t1 k0 k1 s.index s.pending p (keeps tells);
      fresh = λ tells. doubt_fresh s.node s.size s.tail (contents t0) s.index s.pending (c.self.invariant.1 tells);
      stands = λ tells. log_stands s.node s.size s.tail (contents t1) k1 s.index (Some (with_stage p (Ended false)))
          (keeps_placed s.node s.size s.tail t0 t1 k0 k1 s.index s.pending p (Ended false) (keeps tells))
          (keeps_log s.node s.size s.tail t0 t1 k0 k1 s.index s.pending p (Ended false) (keeps tells) tt);
      moments = λ tells. doubt_moments s.node s.size s.tail t0 t1 k0 k1 s.index s.pending p (keeps tells) unsettled;
    })

pub invariant_of-self-in-Ok-false : goal.invariant_of-self-in-Ok-false
invariant_of-self-in-Ok-false g c =
    let s = c.self.inside in
    let p : Pending = c.in-Some.pending in
    let e : s.pending ≡ Some p = sym c.take.ensures.value ∙ c.in-Some.is in
    let t0 : Told = g.D.Disk.told s.disk in
    let t1 : Told = g.D.Disk.told c.read_gate.new.disk in
    let k0 : Counts = g.D.Disk.counts s.disk in
    let k1 : Counts = g.D.Disk.counts c.read_gate.new.disk in
    let keeps : IsTrue g.D.Disk.tells → Keeps s.node s.size s.tail t0 t1 k0 k1 s.index s.pending p = λ tells.
    keeps_read s.node s.size s.tail 0 t0 t1 k0 k1 s.index s.pending p Fine e c.self.invariant.0 (c.self.invariant.1 tells)
    c.in-Ok-false.ensures.counts.size (c.in-Ok-false.ensures.told tells) in
    let power : IsTrue k0.power = subst (λ v. IsTrue (g.D.Disk.counts v.device).power) (sym c.self.view_is) c.requires.power in
    let rest = λ (tells : IsTrue g.D.Disk.tells). read_rest s.tail (contents t0) s.pending p e
    (sym c.has_synced.ensures ∙ c.if-not-has_synced.false) (c.self.invariant.2 tells power) in
    let none : c.take.new.self ≡ None = c.take.ensures.after in
    let done = λ (tells : IsTrue g.D.Disk.tells).
    settled_old s.node s.size s.tail t0 t1 k0 k1 s.index s.pending p (keeps tells) (c.in-Ok-false.ensures.told tells) (rest tells)
    (sym (c.in-Ok-false.ensures.gate tells) ∙ c.in-Ok-false.field-0-test) in (
      subst (IsPlaced s.size s.tail k1 s.index) (sym none)
          (record {
            sized = c.in-Ok-false.ensures.counts.size ∙ c.self.invariant.0.sized;
            begins = c.self.invariant.0.begins;
            ends = c.self.invariant.0.ends;
            slots = c.self.invariant.0.slots;
            placed = tt;
          }),
      λ tells. subst (IsLog s.node s.size s.tail (contents t1) s.index) (sym none) (done tells).1,
      λ tells on. subst (IsStaged s.tail (contents t1)) (sym none) tt,
    )

pub returns-in-Ok-false : goal.returns-in-Ok-false
returns-in-Ok-false g c =
    let s = c.self.inside in
    let p : Pending = c.in-Some.pending in
    let e : s.pending ≡ Some p = sym c.take.ensures.value ∙ c.in-Some.is in
    let t0 : Told = g.D.Disk.told s.disk in
    let t1 : Told = g.D.Disk.told c.read_gate.new.disk in
    let k0 : Counts = g.D.Disk.counts s.disk in
    let k1 : Counts = g.D.Disk.counts c.read_gate.new.disk in
    let unsettled : is_unsettled (pending_work s.tail s.pending) ≡ true = subst (λ v. IsTrue (is_unsettled v.work))
    (sym c.self.view_is) c.requires.unsettled in
    let is : pending_work s.tail s.pending ≡ Unsettled (change_of s.tail p) true =
    in_doubt_at s.tail s.pending p true e unsettled (sym c.has_synced.ensures ∙ c.if-not-has_synced.false) in
    let keeps : IsTrue g.D.Disk.tells → Keeps s.node s.size s.tail t0 t1 k0 k1 s.index s.pending p = λ tells.
    keeps_read s.node s.size s.tail 0 t0 t1 k0 k1 s.index s.pending p Fine e c.self.invariant.0 (c.self.invariant.1 tells)
    c.in-Ok-false.ensures.counts.size (c.in-Ok-false.ensures.told tells) in
    let power : IsTrue k0.power = subst (λ v. IsTrue (g.D.Disk.counts v.device).power) (sym c.self.view_is) c.requires.power in
    let rest = λ (tells : IsTrue g.D.Disk.tells). read_rest s.tail (contents t0) s.pending p e
    (sym c.has_synced.ensures ∙ c.if-not-has_synced.false) (c.self.invariant.2 tells power) in
    let none : c.take.new.self ≡ None = c.take.ensures.after in
    let done = λ (tells : IsTrue g.D.Disk.tells).
    settled_old s.node s.size s.tail t0 t1 k0 k1 s.index s.pending p (keeps tells) (c.in-Ok-false.ensures.told tells) (rest tells)
    (sym (c.in-Ok-false.ensures.gate tells) ∙ c.in-Ok-false.field-0-test) in
    rw (← c.self.view_is, none) (record {
      node = refl;
      counts = c.in-Ok-false.ensures.counts;
      obeyed = λ so. c.in-Ok-false.ensures.obeyed so;
      timed = λ tells. c.read_gate.ensures.timed tells;
      only = tt;
      last = ap (λ w. progress_at (is_synced w)) (sym is);
      told = λ tells. subst (λ w. CallTold (settling_call (is_synced w)) k1.clock t0 t1 Fine) (sym is) (c.in-Ok-false.ensures.told tells);
      work = ap (λ w. work_stepped w (Ok Done)) (sym is);
      picked = ap is_synced (sym is);
      entries = λ q h. h;
      kept = λ tells. ap (λ (t : Told). log_kept s.node s.tail (contents t).now) (c.in-Ok-false.ensures.told tells);
      fresh = λ tells. doubt_fresh s.node s.size s.tail (contents t0) s.index s.pending (c.self.invariant.1 tells);
      stands = λ tells. log_stands s.node s.size s.tail (contents t1) k1 s.index None (done tells).0 (done tells).1;
      moments = λ tells. doubt_moments s.node s.size s.tail t0 t1 k0 k1 s.index s.pending p (keeps tells) unsettled;
    })

pub invariant_of-self-in-Ok-true : goal.invariant_of-self-in-Ok-true
invariant_of-self-in-Ok-true g c =
    let s = c.self.inside in
    let p : Pending = c.in-Some.pending in
    let e : s.pending ≡ Some p = sym c.take.ensures.value ∙ c.in-Some.is in
    let t0 : Told = g.D.Disk.told s.disk in
    let t1 : Told = g.D.Disk.told c.read_gate.new.disk in
    let k0 : Counts = g.D.Disk.counts s.disk in
    let k1 : Counts = g.D.Disk.counts c.read_gate.new.disk in
    let keeps : IsTrue g.D.Disk.tells → Keeps s.node s.size s.tail t0 t1 k0 k1 s.index s.pending p = λ tells.
    keeps_read s.node s.size s.tail 0 t0 t1 k0 k1 s.index s.pending p Fine e c.self.invariant.0 (c.self.invariant.1 tells)
    c.in-Ok-true.ensures.counts.size (c.in-Ok-true.ensures.told tells) in
    let power : IsTrue k0.power = subst (λ v. IsTrue (g.D.Disk.counts v.device).power) (sym c.self.view_is) c.requires.power in
    let rest = λ (tells : IsTrue g.D.Disk.tells). read_rest s.tail (contents t0) s.pending p e
    (sym c.has_synced.ensures ∙ c.if-not-has_synced.false) (c.self.invariant.2 tells power) in
    let none : c.take.new.self ≡ None = c.take.ensures.after in
    let done = λ (tells : IsTrue g.D.Disk.tells).
    settled_new s.node s.size s.tail t0 t1 k0 k1 s.index c.set_slot.new.index s.pending p c.make_slot-slot.result (keeps tells)
    (c.in-Ok-true.ensures.told tells) (rest tells) (sym (c.in-Ok-true.ensures.gate tells) ∙ c.in-Ok-true.field-0-test)
    c.make_slot-slot.ensures c.set_slot.ensures.sets in
    let placed : IsPlaced s.size s.tail k0 s.index (Some p) = subst (IsPlaced s.size s.tail k0 s.index) e c.self.invariant.0 in (
      subst (IsPlaced s.size (s.tail + p.length + 15) k1 c.set_slot.new.index) (sym none)
          (placed_more s.size s.tail p.length k0 k1 s.index c.set_slot.new.index s.pending p.uid p.removal c.self.invariant.0
          c.in-Ok-true.ensures.counts.size (omega (arith, placed.placed.0, placed.placed.2))
          (subst (SetsSlot s.index c.set_slot.new.index p.uid) c.make_slot-slot.ensures c.set_slot.ensures.sets)),
      λ tells. subst (IsLog s.node s.size (s.tail + p.length + 15) (contents t1) c.set_slot.new.index) (sym none) (done tells).1,
      λ tells on. subst (IsStaged (s.tail + p.length + 15) (contents t1)) (sym none) tt,
    )

pub returns : goal.returns
returns g c =
    let s = c.self.inside in
    let p : Pending = c.in-Some.pending in
    let e : s.pending ≡ Some p = sym c.take.ensures.value ∙ c.in-Some.is in
    let t0 : Told = g.D.Disk.told s.disk in
    let t1 : Told = g.D.Disk.told c.read_gate.new.disk in
    let k0 : Counts = g.D.Disk.counts s.disk in
    let k1 : Counts = g.D.Disk.counts c.read_gate.new.disk in
    let unsettled : is_unsettled (pending_work s.tail s.pending) ≡ true = subst (λ v. IsTrue (is_unsettled v.work))
    (sym c.self.view_is) c.requires.unsettled in
    let is : pending_work s.tail s.pending ≡ Unsettled (change_of s.tail p) true =
    in_doubt_at s.tail s.pending p true e unsettled (sym c.has_synced.ensures ∙ c.if-not-has_synced.false) in
    let keeps : IsTrue g.D.Disk.tells → Keeps s.node s.size s.tail t0 t1 k0 k1 s.index s.pending p = λ tells.
    keeps_read s.node s.size s.tail 0 t0 t1 k0 k1 s.index s.pending p Fine e c.self.invariant.0 (c.self.invariant.1 tells)
    c.in-Ok-true.ensures.counts.size (c.in-Ok-true.ensures.told tells) in
    let power : IsTrue k0.power = subst (λ v. IsTrue (g.D.Disk.counts v.device).power) (sym c.self.view_is) c.requires.power in
    let rest = λ (tells : IsTrue g.D.Disk.tells). read_rest s.tail (contents t0) s.pending p e
    (sym c.has_synced.ensures ∙ c.if-not-has_synced.false) (c.self.invariant.2 tells power) in
    let none : c.take.new.self ≡ None = c.take.ensures.after in
    let done = λ (tells : IsTrue g.D.Disk.tells).
    settled_new s.node s.size s.tail t0 t1 k0 k1 s.index c.set_slot.new.index s.pending p c.make_slot-slot.result (keeps tells)
    (c.in-Ok-true.ensures.told tells) (rest tells) (sym (c.in-Ok-true.ensures.gate tells) ∙ c.in-Ok-true.field-0-test)
    c.make_slot-slot.ensures c.set_slot.ensures.sets in
    rw (← c.self.view_is, none) (record {
      node = refl;
      counts = c.in-Ok-true.ensures.counts;
      obeyed = λ so. c.in-Ok-true.ensures.obeyed so;
      timed = λ tells. c.read_gate.ensures.timed tells;
      only = tt;
      last = ap (λ w. progress_at (is_synced w)) (sym is);
      told = λ tells. subst (λ w. CallTold (settling_call (is_synced w)) k1.clock t0 t1 Fine) (sym is) (c.in-Ok-true.ensures.told tells);
      work = ap (λ w. work_stepped w (Ok Done)) (sym is);
      picked = ap is_synced (sym is);
      entries = λ q h. c.set_slot.ensures.keys q h;
      kept = λ tells. (done tells).2 ∙ shown_new s.tail s.pending p (log_kept s.node s.tail (contents t0).now) e unsettled;
      fresh = λ tells. doubt_fresh s.node s.size s.tail (contents t0) s.index s.pending (c.self.invariant.1 tells);
      stands = λ tells. log_stands s.node s.size (s.tail + p.length + 15) (contents t1) k1 c.set_slot.new.index None
          (done tells).0 (done tells).1;
      moments = λ tells. doubt_moments s.node s.size s.tail t0 t1 k0 k1 s.index s.pending p (keeps tells) unsettled;
    })
