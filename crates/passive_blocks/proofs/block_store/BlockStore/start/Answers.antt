use Rattle.std.proofs.Common.{◌≡◌, ℕ, false, ◌<◌, ◌^◌, length, None, Some, refl, sym, ap, subst, ◌∙◌, arith, inl}
use Rattle.std.specs.Prelude.{IsSome}
use Rattle.std.proofs.lemmas.Result.{err_from_is_err_and}
use Rattle.passive_store.specs.Kept.{IsOwn, body_at}
use Rattle.passive_store.specs.Seen.{DiskSeen, asked}
use Rattle.block_tables.specs.declared.table.Table.{Table}
use Rattle.passive_blocks.specs.declared.block_store.Pending.{Pending}
use Rattle.passive_blocks.specs.StoreState.{HasEntry, state_kept, body_asked, pending_work}
use Rattle.passive_blocks.specs.StageState.{IsStore}
use Rattle.block_tables.specs.HeadState.{is_open, slot_at}
use Rattle.block_tables.specs.TableState.{fits_in, greatest_in}
use Rattle.passive_blocks.proofs.StageGoes.{kept_seen}
use Rattle.passive_blocks.proofs.StageBegins.{IsAsked, IsChosen, chosen_by, begun_store, begun_seen, refused_begins, full_begins}
use Rattle.passive_blocks.proofs.StageBegins.{none_pending}
use Rattle.passive_blocks.proofs.StageBegins.{told_fewer}
use Rattle.passive_blocks.proofs.block_store.BlockStore.start.Goals as goal

pub invariant_of-self-2 : goal.invariant_of-self-2
invariant_of-self-2 g c =
    let s = c.self.inside in
    let d : DiskSeen = record { counts = g.D.Disk.counts s.disk; told = g.D.Disk.told s.disk; due = g.D.Disk.due s.disk } in
    let idle : s.pending ≡ None = none_pending s.table s.pending (ap (λ v. v.work) c.self.view_is ∙ c.requires.idle) in
    let a : IsAsked g.D.Disk.tells s.node s.size s.more d s.table s.pending c.args.uid c.args.removal c.args.body.items = record {
      store = c.self.invariant;
      idle = idle;
      entry = subst (λ es. HasEntry es c.args.uid) (sym (ap (λ v. v.entries) c.self.view_is)) c.requires.entry;
      own = subst (λ v. IsOwn v.node c.args.uid (length c.args.body.items)) (sym c.self.view_is) c.requires.own;
      limit = c.requires.limit;
      eject = c.requires.eject;
      empty = c.requires.empty;
      kept = λ gone tells. subst (λ v. IsSome (body_at (state_kept g.D.Disk.told v) c.args.uid)) (sym c.self.view_is)
          (c.requires.kept gone tells);
      epoch = omega arith;
      serial = omega arith;
    } in
    let long : c.len.result ≡ length c.args.body.items = omega (arith, c.len.ensures, c.args.body.ok) in
    let new : Table = c.choose.new.self in
    let e = c.in_ok-head.ensures in
    let p : Pending = record { head = c.in_ok-head.head; body = c.args.body; stage = c.first_stage-stage.result; made = 0 } in
    let x : IsChosen s.table new p c.args.uid c.args.removal c.args.body.items =
    chosen_by s.table new p c.args.uid c.args.removal c.args.body.items c.len.result long
    (record {
      table = c.choose.ensures.table;
      heads = c.choose.ensures.heads;
      needed = c.choose.ensures.needed;
      sized = c.choose.ensures.disk;
      uid_is = e.uid;
      removal_is = e.removal;
      size_is = e.size;
      sequence = e.sequence;
      number = e.number;
      free = e.free;
      least = e.least;
      room = e.room;
      first = e.first;
      chain = e.chain;
      taken = e.taken;
      others = e.others;
    }) refl c.first_stage-stage.ensures refl in
    subst (λ more. IsStore g.D.Disk.tells s.node s.size more d.counts d.told new (Some p)) (sym c.more_behind-more.ensures)
    (begun_store g.D.Disk.tells s.node s.size s.more d s.table new s.pending p c.args.uid c.args.removal c.args.body.items a x)

pub returns-clause-begins : goal.returns-clause-begins
returns-clause-begins g c =
    let s = c.self.inside in
    let d : DiskSeen = record { counts = g.D.Disk.counts s.disk; told = g.D.Disk.told s.disk; due = g.D.Disk.due s.disk } in
    let idle : s.pending ≡ None = none_pending s.table s.pending (ap (λ v. v.work) c.self.view_is ∙ c.requires.idle) in
    let a : IsAsked g.D.Disk.tells s.node s.size s.more d s.table s.pending c.args.uid c.args.removal c.args.body.items = record {
      store = c.self.invariant;
      idle = idle;
      entry = subst (λ es. HasEntry es c.args.uid) (sym (ap (λ v. v.entries) c.self.view_is)) c.requires.entry;
      own = subst (λ v. IsOwn v.node c.args.uid (length c.args.body.items)) (sym c.self.view_is) c.requires.own;
      limit = c.requires.limit;
      eject = c.requires.eject;
      empty = c.requires.empty;
      kept = λ gone tells. subst (λ v. IsSome (body_at (state_kept g.D.Disk.told v) c.args.uid)) (sym c.self.view_is)
          (c.requires.kept gone tells);
      epoch = omega arith;
      serial = omega arith;
    } in
    let long : c.len.result ≡ length c.args.body.items = omega (arith, c.len.ensures, c.args.body.ok) in
    let new : Table = c.choose.new.self in
    let e = c.in_ok-head.ensures in
    let p : Pending = record { head = c.in_ok-head.head; body = c.args.body; stage = c.first_stage-stage.result; made = 0 } in
    let x : IsChosen s.table new p c.args.uid c.args.removal c.args.body.items =
    chosen_by s.table new p c.args.uid c.args.removal c.args.body.items c.len.result long
    (record {
      table = c.choose.ensures.table;
      heads = c.choose.ensures.heads;
      needed = c.choose.ensures.needed;
      sized = c.choose.ensures.disk;
      uid_is = e.uid;
      removal_is = e.removal;
      size_is = e.size;
      sequence = e.sequence;
      number = e.number;
      free = e.free;
      least = e.least;
      room = e.room;
      first = e.first;
      chain = e.chain;
      taken = e.taken;
      others = e.others;
    }) refl c.first_stage-stage.ensures refl in
    rw (← c.self.view_is, c.more_behind-more.ensures)
    (begun_seen g.D.Disk.tells s.node s.size s.more d s.table new s.pending p c.args.uid c.args.removal c.args.body.items
    s.picked a x)

pub invariant_of-self : goal.invariant_of-self
invariant_of-self g c =
    let s = c.self.inside in
    subst (λ t. IsStore g.D.Disk.tells s.node s.size s.more (g.D.Disk.counts s.disk) (g.D.Disk.told s.disk) t s.pending)
    (sym c.in_err-head.ensures.same) c.self.invariant

pub returns-in_err-head-clause-begins : goal.returns-in_err-head-clause-begins
returns-in_err-head-clause-begins g c =
    let s = c.self.inside in
    let d : DiskSeen = record { counts = g.D.Disk.counts s.disk; told = g.D.Disk.told s.disk; due = g.D.Disk.due s.disk } in
    let idle : s.pending ≡ None = none_pending s.table s.pending (ap (λ v. v.work) c.self.view_is ∙ c.requires.idle) in
    let a : IsAsked g.D.Disk.tells s.node s.size s.more d s.table s.pending c.args.uid c.args.removal c.args.body.items = record {
      store = c.self.invariant;
      idle = idle;
      entry = subst (λ es. HasEntry es c.args.uid) (sym (ap (λ v. v.entries) c.self.view_is)) c.requires.entry;
      own = subst (λ v. IsOwn v.node c.args.uid (length c.args.body.items)) (sym c.self.view_is) c.requires.own;
      limit = c.requires.limit;
      eject = c.requires.eject;
      empty = c.requires.empty;
      kept = λ gone tells. subst (λ v. IsSome (body_at (state_kept g.D.Disk.told v) c.args.uid)) (sym c.self.view_is)
          (c.requires.kept gone tells);
      epoch = omega arith;
      serial = omega arith;
    } in
    let long : c.len.result ≡ length c.args.body.items = omega (arith, c.len.ensures, c.args.body.ok) in
    let p = err_from_is_err_and c.from_residual.result c.from_residual.ensures.1 in
    rw (p.1, p.2, ← c.self.view_is, c.in_err-head.ensures.same)
    (refused_begins g.D.Disk.tells s.node s.more d (kept_seen d.told s.table) (pending_work s.table s.pending)
    (asked c.args.uid (body_asked c.args.removal c.args.body.items)) c.in_err-head.field-0.0 s.picked
    (ap (pending_work s.table) idle) (inl c.in_err-head.ensures.only)
    (λ tell some is. full_begins g.D.Disk.tells s.node s.size s.more d s.table s.pending c.args.uid c.args.removal c.args.body.items a
    (subst (λ n. (k : ℕ) → k < length s.table.heads.slots.items → is_open (slot_at s.table.heads.slots.items k) ≡ false
    → greatest_in s.table < 2 ^ 63 → fits_in s.table c.args.uid c.args.removal n ≡ false) long c.in_err-head.ensures.full) tell some))

pub returns-clause-fewer : goal.returns-clause-fewer
returns-clause-fewer g c =
    let s = c.self.inside in
    rw (← c.self.view_is, c.more_behind-more.ensures) (told_fewer s.table s.node s.more c.args.uid)
