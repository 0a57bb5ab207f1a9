use Rattle.std.proofs.Common.{◌≡◌, ℕ, IsTrue, None, Some, Option, refl, sym, subst, ◌∙◌, inl, inr, arith}
use Rattle.std.proofs.lemmas.Result.{err_from_is_err_and}
use Rattle.capability.specs.declared.lists.Seq.{Seq}
use Rattle.eden_disk.proofs.Held.{calls_none, calls_one, obeyed_none, obeyed_one}
use Rattle.eden_disk.proofs.Timed.{timed_read}
use Rattle.eden_disk.specs.Calls.{Counts, Fine, Obeyed}
use Rattle.eden_disk.specs.Told.{Told, contents}
use Rattle.passive_store.specs.Acts.{Read}
use Rattle.passive_store.specs.LogState.{slot_at}
use Rattle.passive_store.proofs.Getting.{read_log, read_moments, still_moments, staged_by_read, refused_read, reads_none, reads_some}
use Rattle.passive_store.proofs.Getting.{body_none}
use Rattle.passive_store.proofs.Joining.{timed_still, read_stopped, call_done}
use Rattle.passive_store.proofs.Settling.{refused_only, refused_end}
use Rattle.passive_store.proofs.Tails.{log_stands, placed_same}
use Rattle.passive_store.proofs.log_store.LogStore.read_body.Goals as goal

pub returns-in_default : goal.returns-in_default
returns-in_default g c =
    let s = c.self.inside in
    let k0 : Counts = g.D.Disk.counts s.disk in
    let power : IsTrue k0.power = subst (λ v. IsTrue (g.D.Disk.counts v.device).power) (sym c.self.view_is) c.requires.power in
    let none : slot_at s.index c.args.uid ≡ None = sym c.find_slot.ensures ∙ c.in_default.is in
    rw (← c.self.view_is) (record {
      node = refl;
      picked = refl;
      work = refl;
      only = tt;
      ran = (
        0,
        (
          record { made = 0; number = refl; counts = calls_none k0 power },
          refl,
          λ tells. sym (reads_none s.index _ _ _ c.args.uid (c.self.invariant.1 tells).indexed none),
          λ tells. refl,
        ),
      );
      obeyed = λ so. obeyed_none _ k0;
      timed = λ tells. timed_still _ _ _ _ (omega arith) refl;
      kept = λ tells. refl;
      body = λ tells. sym (body_none s.index _ _ _ c.args.uid (c.self.invariant.1 tells).indexed none);
      reads = λ tells. tt;
      stands = λ tells. log_stands _ _ _ _ _ s.index s.pending c.self.invariant.0 (c.self.invariant.1 tells);
      moments = λ tells. still_moments _ _ _ _ _ s.index s.pending c.self.invariant.0 (c.self.invariant.1 tells);
    })

pub returns-in_err-bytes : goal.returns-in_err-bytes
returns-in_err-bytes g c =
    let s = c.self.inside in
    let k0 : Counts = g.D.Disk.counts s.disk in
    let power : IsTrue k0.power = subst (λ v. IsTrue (g.D.Disk.counts v.device).power) (sym c.self.view_is) c.requires.power in
    let some : slot_at s.index c.args.uid ≡ Some c.in-Some.slot = sym c.find_slot.ensures ∙ c.in-Some.is in
    let p = err_from_is_err_and c.from_residual.result c.from_residual.ensures.1 in
    rw (p.1, p.2, ← c.self.view_is) (record {
      node = refl;
      picked = refl;
      work = refl;
      only = inr refl;
      ran = (
        1,
        (
          record { made = 0; number = refl; counts = calls_none k0 power },
          tt,
          λ tells. sym (reads_some s.index _ _ _ c.args.uid c.in-Some.slot (c.self.invariant.1 tells).indexed some).0,
          λ tells. refl,
        ),
      );
      obeyed = λ so. obeyed_none _ k0;
      timed = λ tells. timed_still _ _ _ _ (omega arith) refl;
      kept = λ tells. refl;
      body = λ tells. tt;
      reads = λ tells refusal. (reads_some s.index _ _ _ c.args.uid c.in-Some.slot (c.self.invariant.1 tells).indexed some).1;
      stands = λ tells. log_stands _ _ _ _ _ s.index s.pending c.self.invariant.0 (c.self.invariant.1 tells);
      moments = λ tells. still_moments _ _ _ _ _ s.index s.pending c.self.invariant.0 (c.self.invariant.1 tells);
    })

pub returns-in_err-read : goal.returns-in_err-read
returns-in_err-read g c =
    let s = c.self.inside in
    let t0 : Told = g.D.Disk.told s.disk in
    let t1 : Told = g.D.Disk.told c.read.new.self in
    let k0 : Counts = g.D.Disk.counts s.disk in
    let k1 : Counts = g.D.Disk.counts c.read.new.self in
    let some : slot_at s.index c.args.uid ≡ Some c.in-Some.slot = sym c.find_slot.ensures ∙ c.in-Some.is in
    let log = λ (tells : IsTrue g.D.Disk.tells). read_log s.node s.size s.tail t0 t1 k0 s.index s.pending _ _ c.self.invariant.0
    (c.self.invariant.1 tells) (c.read.ensures.told tells) in
    let p = err_from_is_err_and c.from_residual-in_err-read.result c.from_residual-in_err-read.ensures.1 in
    rw (p.1, p.2, ← c.self.view_is) (record {
      node = refl;
      picked = refl;
      work = refl;
      only = inl (refused_only _);
      ran = (
        1,
        (
          refused_read (Unit {0}) _ _ _ _ c.in_err-read.ensures.counts,
          tt,
          λ tells. sym (reads_some s.index _ _ _ c.args.uid c.in-Some.slot (c.self.invariant.1 tells).indexed some).0,
          λ tells. read_stopped (Unit {0}) (Option (Seq ℕ)) k1.clock _ t0 t1 (c.in_err-read.ensures.told tells),
        ),
      );
      obeyed = λ so. subst (Obeyed (g.D.Disk.due s.disk) (g.D.Disk.due c.read.new.self) k0 k1)
          (refused_end (Unit {0}) (Option (Seq ℕ)) _)
          (obeyed_one _ _ k0 k1 _ c.in_err-read.ensures.counts (c.in_err-read.ensures.obeys so));
      timed = λ tells. timed_read k0.clock k1.clock t0 t1 _ c.read.ensures.counts.clock (c.read.ensures.told tells);
      kept = λ tells. (log tells).1;
      body = λ tells. tt;
      reads = λ tells refusal. (reads_some s.index _ _ _ c.args.uid c.in-Some.slot (c.self.invariant.1 tells).indexed some).1;
      stands = λ tells. log_stands s.node s.size s.tail (contents t1) k1 s.index s.pending
          (placed_same _ _ _ _ _ _ _ refl c.read.ensures.counts.size c.self.invariant.0) (log tells).0;
      moments = λ tells. read_moments s.node s.size s.tail t0 t1 k0 s.index s.pending _ _ c.self.invariant.0 (c.self.invariant.1 tells)
          (c.read.ensures.told tells);
    })

pub returns-clause-stands : goal.returns-clause-stands
returns-clause-stands g c = λ tells.
    let s = c.self.inside in
    let t0 : Told = g.D.Disk.told s.disk in
    let t1 : Told = g.D.Disk.told c.read.new.self in
    let k0 : Counts = g.D.Disk.counts s.disk in
    let k1 : Counts = g.D.Disk.counts c.read.new.self in
    log_stands s.node s.size s.tail (contents t1) k1 s.index s.pending
    (placed_same _ _ _ _ _ _ _ refl c.read.ensures.counts.size c.self.invariant.0)
    (read_log s.node s.size s.tail t0 t1 k0 s.index s.pending _ _ c.self.invariant.0 (c.self.invariant.1 tells)
    (c.read.ensures.told tells)).0

pub returns-clause-moments : goal.returns-clause-moments
returns-clause-moments g c = λ tells.
    let s = c.self.inside in
    let t0 : Told = g.D.Disk.told s.disk in
    let t1 : Told = g.D.Disk.told c.read.new.self in
    let k0 : Counts = g.D.Disk.counts s.disk in
    let k1 : Counts = g.D.Disk.counts c.read.new.self in
    rw (← c.self.view_is)
    (read_moments s.node s.size s.tail t0 t1 k0 s.index s.pending _ _ c.self.invariant.0 (c.self.invariant.1 tells)
    (c.read.ensures.told tells))

pub invariant_of-self : goal.invariant_of-self
invariant_of-self g c =
    let s = c.self.inside in
    let t0 : Told = g.D.Disk.told s.disk in
    let t1 : Told = g.D.Disk.told c.read.new.self in
    let k0 : Counts = g.D.Disk.counts s.disk in
    let k1 : Counts = g.D.Disk.counts c.read.new.self in (
      placed_same _ _ _ _ _ _ _ refl c.read.ensures.counts.size c.self.invariant.0,
      λ tells. (read_log s.node s.size s.tail t0 t1 k0 s.index s.pending _ _ c.self.invariant.0 (c.self.invariant.1 tells)
          (c.read.ensures.told tells)).0,
      λ tells on.
          staged_by_read s.tail t0 t1 s.pending _ _ _ (c.read.ensures.told tells) c.read.ensures.counts.power on
          (c.self.invariant.2 tells (subst (λ v. IsTrue (g.D.Disk.counts v.device).power) (sym c.self.view_is) c.requires.power)),
    )

pub returns-clause-timed : goal.returns-clause-timed
returns-clause-timed g c = λ tells.
    rw (← c.self.view_is)
    (timed_read (g.D.Disk.counts c.self.inside.disk).clock (g.D.Disk.counts c.read.new.self).clock (g.D.Disk.told c.self.inside.disk)
    (g.D.Disk.told c.read.new.self) _ c.read.ensures.counts.clock (c.read.ensures.told tells))

pub returns-clause-ran : goal.returns-clause-ran
returns-clause-ran g c =
    rw (← c.self.view_is) (
      1,
      (
        record { made = 1; number = refl; counts = calls_one _ _ _ c.in_ok-read.ensures.counts },
        refl,
        λ tells. sym (reads_some c.self.inside.index _ _ _ c.args.uid c.in-Some.slot (c.self.invariant.1 tells).indexed
            (sym c.find_slot.ensures ∙ c.in-Some.is)).0,
        λ tells. call_done Read (g.D.Disk.counts c.read.new.self).clock _ _ (c.in_ok-read.ensures.told tells),
      ),
    )

pub returns-clause-node : goal.returns-clause-node
returns-clause-node g c = rw (← c.self.view_is) refl

pub returns-clause-picked : goal.returns-clause-picked
returns-clause-picked g c = rw (← c.self.view_is) refl

pub returns-clause-work : goal.returns-clause-work
returns-clause-work g c = rw (← c.self.view_is) refl

pub returns-clause-only : goal.returns-clause-only
returns-clause-only g c = tt

pub returns-clause-obeyed : goal.returns-clause-obeyed
returns-clause-obeyed g c = λ so. rw (← c.self.view_is)
    (obeyed_one _ _ _ _ Fine c.in_ok-read.ensures.counts (c.in_ok-read.ensures.obeys so))

pub returns-clause-kept : goal.returns-clause-kept
returns-clause-kept g c = λ tells.
    let s = c.self.inside in
    rw (← c.self.view_is) (read_log s.node s.size s.tail (g.D.Disk.told s.disk) (g.D.Disk.told c.read.new.self) (g.D.Disk.counts s.disk)
    s.index s.pending _ _ c.self.invariant.0 (c.self.invariant.1 tells) (c.read.ensures.told tells)).1

pub returns-clause-reads : goal.returns-clause-reads
returns-clause-reads g c = λ tells. tt
