use Rattle.std.proofs.Common.{◌≡◌, None, [], ◌∷◌, length, refl, sym, ap, subst, ◌∙◌, arith, length-append, map}
use Rattle.std.specs.Prelude.{IsSome}
use Rattle.std.specs.FinMap as finite
use Rattle.eden_disk.specs.Told.{contents}
use Rattle.passive_store.specs.declared.log_store.Pending.{Pending}
use Rattle.passive_store.specs.declared.log_store.Stage.TheVariants.{Begun}
use Rattle.passive_store.specs.Kept.{nothing_kept, kept_from}
use Rattle.passive_store.specs.LogLayout.{records_before, used_by, body_length}
use Rattle.passive_store.specs.LogState.{IsRecordOf, HasEntry}
use Rattle.passive_store.proofs.LogKept.{log_ledger}
use Rattle.passive_store.proofs.Tails.{none_pending}
use Rattle.passive_store.proofs.Pendings.{pending_of, begun_log, room_yes, room_no, tail_is}
use Rattle.passive_store.proofs.log_store.LogStore.start.Goals as goal

pub invariant_of-self : goal.invariant_of-self
invariant_of-self g c =
    let s = c.self.inside in
    let p : Pending = record {
      uid = c.args.uid;
      removal = c.args.removal;
      length = c.args.length;
      bytes = c.args.record_bytes;
      stage = Begun;
    } in
    let e : s.pending ≡ None = none_pending s.tail s.pending (ap (λ v. v.work) c.self.view_is ∙ c.requires.idle) in
    let r : IsRecordOf s.node c.args.record_bytes.items c.args.uid c.args.removal c.args.length = subst
    (λ n. IsRecordOf n c.args.record_bytes.items c.args.uid c.args.removal c.args.length)
    (sym (ap (λ v. v.node) c.self.view_is)) c.requires.spelled in (
      record {
        sized = c.self.invariant.0.sized;
        begins = c.self.invariant.0.begins;
        ends = c.self.invariant.0.ends;
        slots = c.self.invariant.0.slots;
        placed = (
          omega (arith, c.if-self-length.false, ap length r.is, length-append r.bytes (0 ∷ []), r.long),
          subst (λ es. HasEntry es c.args.uid) (sym (ap (λ v. v.entries) c.self.view_is)) c.requires.entry,
          omega (arith, ap length r.is, length-append r.bytes (0 ∷ []), r.long),
        );
      },
      λ tells. begun_log s.node s.size s.tail (contents (g.D.Disk.told s.disk))
          (g.D.Disk.counts s.disk) s.index s.pending p e refl c.self.invariant.0 (c.self.invariant.1 tells)
          (pending_of s.node s.size s.tail (contents (g.D.Disk.told s.disk))
          (g.D.Disk.counts s.disk) s.index s.pending p c.self.invariant.0 (c.self.invariant.1 tells) r
          (λ removal. subst (λ v. IsSome (finite.get
          (kept_from nothing_kept (records_before v.node v.tail (contents (g.D.Disk.told v.device)).now)).bodies c.args.uid))
          (sym c.self.view_is) (c.requires.kept removal tells))),
      λ tells on. tt,
    )

pub returns-clause-room : goal.returns-clause-room
returns-clause-room g c = λ tells.
    let s = c.self.inside in
    let p : Pending = record {
      uid = c.args.uid;
      removal = c.args.removal;
      length = c.args.length;
      bytes = c.args.record_bytes;
      stage = Begun;
    } in
    let e : s.pending ≡ None = none_pending s.tail s.pending (ap (λ v. v.work) c.self.view_is ∙ c.requires.idle) in
    let r : IsRecordOf s.node c.args.record_bytes.items c.args.uid c.args.removal c.args.length = subst
    (λ n. IsRecordOf n c.args.record_bytes.items c.args.uid c.args.removal c.args.length)
    (sym (ap (λ v. v.node) c.self.view_is)) c.requires.spelled in
    let bytes = (contents (g.D.Disk.told s.disk)).now in
    rw (← c.self.view_is, log_ledger s.node s.tail bytes)
    (room_yes _ (used_by (map body_length (records_before s.node s.tail bytes))) c.args.length
    (omega (arith, c.if-self-length.false, (c.self.invariant.1 tells).sum, c.self.invariant.0.sized)))

pub returns-clause-fresh : goal.returns-clause-fresh
returns-clause-fresh g c = λ tells.
    let s = c.self.inside in
    let p : Pending = record {
      uid = c.args.uid;
      removal = c.args.removal;
      length = c.args.length;
      bytes = c.args.record_bytes;
      stage = Begun;
    } in
    let e : s.pending ≡ None = none_pending s.tail s.pending (ap (λ v. v.work) c.self.view_is ∙ c.requires.idle) in
    let r : IsRecordOf s.node c.args.record_bytes.items c.args.uid c.args.removal c.args.length = subst
    (λ n. IsRecordOf n c.args.record_bytes.items c.args.uid c.args.removal c.args.length)
    (sym (ap (λ v. v.node) c.self.view_is)) c.requires.spelled in
    (pending_of s.node s.size s.tail (contents (g.D.Disk.told s.disk)) (g.D.Disk.counts s.disk) s.index s.pending p c.self.invariant.0
    (c.self.invariant.1 tells) r
    (λ removal. subst (λ v. IsSome (finite.get
    (kept_from nothing_kept (records_before v.node v.tail (contents (g.D.Disk.told v.device)).now)).bodies c.args.uid))
    (sym c.self.view_is) (c.requires.kept removal tells))).fresh

pub returns-clause-tail : goal.returns-clause-tail
returns-clause-tail g c = λ tells.
    let s = c.self.inside in
    rw (← c.self.view_is) (tail_is s.node s.size s.tail (contents (g.D.Disk.told s.disk)) (g.D.Disk.counts s.disk) s.index s.pending
    (none_pending s.tail s.pending (ap (λ v. v.work) c.self.view_is ∙ c.requires.idle)) c.self.invariant.0 (c.self.invariant.1 tells))

pub returns-then-self-length-clause-tail : goal.returns-then-self-length-clause-tail
returns-then-self-length-clause-tail g c = λ tells.
    let s = c.self.inside in
    rw (← c.self.view_is) (tail_is s.node s.size s.tail (contents (g.D.Disk.told s.disk)) (g.D.Disk.counts s.disk) s.index s.pending
    (none_pending s.tail s.pending (ap (λ v. v.work) c.self.view_is ∙ c.requires.idle)) c.self.invariant.0 (c.self.invariant.1 tells))

pub returns-then-self-length-clause-full : goal.returns-then-self-length-clause-full
returns-then-self-length-clause-full g c = λ tells.
    let s = c.self.inside in
    let bytes = (contents (g.D.Disk.told s.disk)).now in
    rw (← c.self.view_is, log_ledger s.node s.tail bytes)
    (room_no _ (used_by (map body_length (records_before s.node s.tail bytes))) c.args.length
    (omega (arith, c.if-self-length.true, (c.self.invariant.1 tells).sum, c.self.invariant.0.sized)))
