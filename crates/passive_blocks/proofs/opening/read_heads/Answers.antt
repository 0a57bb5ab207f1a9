use Rattle.std.proofs.Common.{◌≡◌, ◌+◌, ◌/◌, ℕ, Err, refl, sym, ap, subst, ◌∙◌, arith}
use Rattle.std.specs.Prelude.{IfSome, IsTrue}
use Rattle.passive_store.specs.declared.store.StoreRefusal.TheVariants.{Damaged}
use Rattle.passive_store.specs.Kept.{end_of_store}
use Rattle.std.proofs.lemmas.Result.{err_from_is_err_and}
use Rattle.eden_disk.specs.Told.{contents}
use Rattle.eden_disk.specs.Calls.{Fine, DeviceCalls, Obeyed, ReadTold}
use Rattle.eden_disk.proofs.Held.{calls_none, calls_more, obeyed_none, obeyed_more}
use Rattle.block_tables.specs.declared.table.Table.{Table}
use Rattle.block_tables.specs.Blocks.{head_place, heads_of}
use Rattle.block_tables.specs.HeadSeen.{IsHeadThere}
use Rattle.block_tables.specs.HeadState.{IsRead}
use Rattle.passive_blocks.specs.OpeningState.{heads_read}
use Rattle.passive_blocks.proofs.OpeningHeads.{none_read}
use Rattle.passive_blocks.proofs.OpeningReads.{found_first, found_all, damaged_found, twice_found, made_by, heads_made}
use Rattle.passive_blocks.proofs.OpeningReads.{not_full}
use Rattle.passive_blocks.proofs.OpeningReads.{not_full_taken, ended_fine, reading_shut, reading_open, timed_behind}
use Rattle.passive_blocks.proofs.opening.read_heads.Goals.{in-Some+in_ok-take_head-in-Some, in-None}
use Rattle.passive_blocks.proofs.opening.read_heads.Goals.{After-drop-table-in_err-take_head-in-Some-13}
use Rattle.passive_blocks.proofs.opening.read_heads.Given.{Over}
use Rattle.passive_blocks.proofs.opening.read_heads.Goals as goal

pub loop-number-init : goal.loop-number-init
loop-number-init g c =
    let e = c.in_ok-table.ensures in
    record {
      counts = calls_none _ c.requires.power;
      obeyed = λ so. obeyed_none _ _;
      read = none_read c.in_ok-table.table c.new-sequences.result.keys e.table e.closed e.closing e.lone;
      free = e.free;
      sized = e.size;
      same = λ tells. refl;
      found = λ tells. found_first c.args.node c.size-size.result (contents (g.D.Disk.told c.args.disk.now)).now c.new-sequences.result.keys
          c.in_ok-table.table.heads.slots.items (c.size-size.ensures.told tells) c.new-sequences.ensures.empty e.closed;
    }

pub returns-in_err-head-clause-ran : goal.returns-in_err-head-clause-ran
returns-in_err-head-clause-ran g c =
    let p = err_from_is_err_and c.from_residual-in_err-head.result c.from_residual-in_err-head.ensures.1 in
    let inv = c.loop-number.invariant in
    let e = c.in_err-head.ensures in
    rw (p.1, p.2) (
      c.loop-number.number + 1,
      (
        calls_more c.loop-number.number 1 _ _ _ _ inv.counts e.counts,
        λ tells. made_by Table _ (c.loop-number.number + 1) _ (omega arith) (not_full _ (head_place c.loop-number.number) e.only)
            (λ place is.
            let at = damaged_found _ _ c.args.node c.size-size.result c.loop-number.number _ _ _ _ _ _ _ _ _ place tells inv
            c.loop-number-test.true
            e.only (e.damaged tells) is in
            heads_made c.args.node _ c.loop-number.number place _ at.0 at.1),
      ),
    )

pub returns-in_err-head-clause-obeyed : goal.returns-in_err-head-clause-obeyed
returns-in_err-head-clause-obeyed g c =
    let p = err_from_is_err_and c.from_residual-in_err-head.result c.from_residual-in_err-head.ensures.1 in
    let inv = c.loop-number.invariant in
    rw (p.1, p.2) (λ so. obeyed_more c.loop-number.number 1 _ _ _ _ _ _ _ inv.counts c.in_err-head.ensures.counts (inv.obeyed so)
    (c.in_err-head.ensures.obeyed so))

pub returns-in_err-head-clause-timed : goal.returns-in_err-head-clause-timed
returns-in_err-head-clause-timed g c = λ tells.
    let inv = c.loop-number.invariant in
    timed_behind c.loop-number.number _ _ _ _ _ _ inv.counts (inv.same tells) (c.in_err-head.ensures.timed tells)

pub returns-in_err-head-clause-never_full : goal.returns-in_err-head-clause-never_full
returns-in_err-head-clause-never_full g c =
    let p = err_from_is_err_and c.from_residual-in_err-head.result c.from_residual-in_err-head.ensures.1 in
    rw (p.1, p.2) (not_full _ (head_place c.loop-number.number) c.in_err-head.ensures.only)

pub returns-in_err-head-clause-damaged : goal.returns-in_err-head-clause-damaged
returns-in_err-head-clause-damaged g c =
    let p = err_from_is_err_and c.from_residual-in_err-head.result c.from_residual-in_err-head.ensures.1 in
    let e = c.in_err-head.ensures in
    rw (p.1, p.2) (λ tells place is.
    (damaged_found _ _ c.args.node c.size-size.result c.loop-number.number _ _ _ _ _ _ _ _ _ place tells c.loop-number.invariant
    c.loop-number-test.true e.only (e.damaged tells) is).0)

pub loop-number-preserved : goal.loop-number-preserved
loop-number-preserved g c =
    let inv = c.loop-number.invariant in
    let e = c.in_ok-head.ensures in
    elim c.match-branch-3.branch [
      | in-Some+in_ok-take_head-in-Some w ↦
          let t = w.in_ok-take_head-in-Some.ensures in
          rw (w.table-is, w.sequences-is)
          (reading_open g.D.Disk.tells g.D.Disk.obeys c.args.node c.size-size.result c.loop-number.number (g.D.Disk.told c.args.disk.now)
          (g.D.Disk.told c.loop-number.disk) (g.D.Disk.told c.read_head.new.disk) (g.D.Disk.counts c.args.disk.now)
          (g.D.Disk.counts c.loop-number.disk) (g.D.Disk.counts c.read_head.new.disk) (g.D.Disk.due c.args.disk.now)
          (g.D.Disk.due c.loop-number.disk) (g.D.Disk.due c.read_head.new.disk) c.loop-number.table w.take_head.new.table
          c.loop-number.sequences.keys w.take_head.new.sequences.keys w.in-Some.head inv c.loop-number-test.true e.counts e.obeyed e.told
          (λ tells. subst (IsHeadThere c.args.node (contents (g.D.Disk.told c.loop-number.disk)).now c.loop-number.number) w.in-Some.is
          (e.head tells))
          (subst (λ f. IfSome f (IsRead c.args.node c.loop-number.number)) w.in-Some.is e.fields)
          t.read t.slots w.take_head.ensures.blocks t.fresh t.known)
      | in-None w ↦
          rw (w.table-is, w.sequences-is)
          (reading_shut g.D.Disk.tells g.D.Disk.obeys c.args.node c.size-size.result c.loop-number.number (g.D.Disk.told c.args.disk.now)
          (g.D.Disk.told c.loop-number.disk) (g.D.Disk.told c.read_head.new.disk) (g.D.Disk.counts c.args.disk.now)
          (g.D.Disk.counts c.loop-number.disk) (g.D.Disk.counts c.read_head.new.disk) (g.D.Disk.due c.args.disk.now)
          (g.D.Disk.due c.loop-number.disk) (g.D.Disk.due c.read_head.new.disk) c.loop-number.table c.loop-number.sequences.keys inv
          c.loop-number-test.true e.counts e.obeyed e.told
          (λ tells. subst (IsHeadThere c.args.node (contents (g.D.Disk.told c.loop-number.disk)).now c.loop-number.number) w.in-None.is
          (e.head tells)))
    ]

pub returns-clause-ran : goal.returns-clause-ran
returns-clause-ran g c =
    let inv = c.loop-number.invariant in (
      c.loop-number.number,
      (
        inv.counts,
        λ tells.
            let whole = found_all c.args.node c.size-size.result c.loop-number.number _ _ _ (omega (arith, c.loop-number-test.false))
            (inv.found tells) in
            let number : c.loop-number.number ≡ (g.D.Disk.counts c.args.disk.now).size / 1024 =
            omega (arith, c.loop-number-test.false, c.loop-number.auto.number-end, c.size-size.ensures.size) in
            number ∙ sym (ap (heads_read ((g.D.Disk.counts c.args.disk.now).size / 1024)) whole),
      ),
    )

pub returns-clause-heads : goal.returns-clause-heads
returns-clause-heads g c = λ tells.
    found_all c.args.node c.size-size.result c.loop-number.number _ _ _ (omega (arith, c.loop-number-test.false))
    (c.loop-number.invariant.found tells)

-- a head that was read, and could not be taken up
twice : (g : Over) (c : After-drop-table-in_err-take_head-in-Some-13 g) (place : ℕ) → IsTrue g.D.Disk.tells
    → c.in_err-take_head-in-Some.field-0.0 ≡ Damaged place
    → (heads_of c.args.node (contents (g.D.Disk.told c.args.disk.now)).now ≡ Err place) × (place ≡ head_place c.loop-number.number)
twice g c place tells is =
    let e = c.in_ok-head.ensures in
    let read : IsRead c.args.node c.loop-number.number c.in-Some.head =
    subst (λ f. IfSome f (IsRead c.args.node c.loop-number.number)) c.in-Some.is e.fields in
    twice_found _ _ c.args.node c.size-size.result c.loop-number.number _ _ _ _ _ _ _ _ _ place c.in-Some.head tells c.loop-number.invariant
    c.loop-number-test.true read.numbered
    (subst (IsHeadThere c.args.node (contents (g.D.Disk.told c.loop-number.disk)).now c.loop-number.number) c.in-Some.is (e.head tells))
    c.in_err-take_head-in-Some.ensures.only is

fine : (g : Over) (c : After-drop-table-in_err-take_head-in-Some-13 g) → end_of_store {T = Table}
    (Err c.in_err-take_head-in-Some.field-0.0) ≡ Fine
fine g c = ended_fine Table _ _ _ c.in_err-take_head-in-Some.ensures.only

pub returns-in_err-take_head-in-Some-clause-ran : goal.returns-in_err-take_head-in-Some-clause-ran
returns-in_err-take_head-in-Some-clause-ran g c =
    let p = err_from_is_err_and c.from_residual-in_err-take_head-in-Some.result c.from_residual-in_err-take_head-in-Some.ensures.1 in
    let inv = c.loop-number.invariant in
    let only = c.in_err-take_head-in-Some.ensures.only in
    rw (p.1, p.2) (
      c.loop-number.number + 1,
      (
        subst (DeviceCalls (c.loop-number.number + 1) (g.D.Disk.counts c.args.disk.now) (g.D.Disk.counts c.read_head.new.disk))
            (sym (fine g c)) (calls_more c.loop-number.number 1 _ _ _ Fine inv.counts c.in_ok-head.ensures.counts),
        λ tells. made_by Table _ (c.loop-number.number + 1) _ (omega arith) (not_full_taken _ _ _ only)
            (λ place is. let at = twice g c place tells is in heads_made c.args.node _ c.loop-number.number place _ at.0 at.1),
      ),
    )

pub returns-in_err-take_head-in-Some-clause-obeyed : goal.returns-in_err-take_head-in-Some-clause-obeyed
returns-in_err-take_head-in-Some-clause-obeyed g c =
    let p = err_from_is_err_and c.from_residual-in_err-take_head-in-Some.result c.from_residual-in_err-take_head-in-Some.ensures.1 in
    let inv = c.loop-number.invariant in
    let e = c.in_ok-head.ensures in
    rw (p.1, p.2) (λ so. subst (Obeyed (g.D.Disk.due c.args.disk.now) (g.D.Disk.due c.read_head.new.disk) (g.D.Disk.counts c.args.disk.now)
    (g.D.Disk.counts c.read_head.new.disk)) (sym (fine g c))
    (obeyed_more c.loop-number.number 1 _ _ _ _ _ _ Fine inv.counts e.counts (inv.obeyed so) (e.obeyed so)))

pub returns-in_err-take_head-in-Some-clause-timed : goal.returns-in_err-take_head-in-Some-clause-timed
returns-in_err-take_head-in-Some-clause-timed g c = λ tells.
    let inv = c.loop-number.invariant in
    timed_behind c.loop-number.number _ _ _ _ _ _ inv.counts (inv.same tells) (c.in_ok-head.ensures.timed tells)

pub returns-in_err-take_head-in-Some-clause-told : goal.returns-in_err-take_head-in-Some-clause-told
returns-in_err-take_head-in-Some-clause-told g c =
    let p = err_from_is_err_and c.from_residual-in_err-take_head-in-Some.result c.from_residual-in_err-take_head-in-Some.ensures.1 in
    rw (p.1, p.2) (λ tells. subst (ReadTold (g.D.Disk.counts c.read_head.new.disk).clock (g.D.Disk.told c.args.disk.now)
    (g.D.Disk.told c.read_head.new.disk)) (sym (fine g c)) (c.in_ok-head.ensures.told tells ∙ c.loop-number.invariant.same tells))

pub returns-in_err-take_head-in-Some-clause-never_full : goal.returns-in_err-take_head-in-Some-clause-never_full
returns-in_err-take_head-in-Some-clause-never_full g c =
    let p = err_from_is_err_and c.from_residual-in_err-take_head-in-Some.result c.from_residual-in_err-take_head-in-Some.ensures.1 in
    rw (p.1, p.2) (not_full_taken _ _ _ c.in_err-take_head-in-Some.ensures.only)

pub returns-in_err-take_head-in-Some-clause-damaged : goal.returns-in_err-take_head-in-Some-clause-damaged
returns-in_err-take_head-in-Some-clause-damaged g c =
    let p = err_from_is_err_and c.from_residual-in_err-take_head-in-Some.result c.from_residual-in_err-take_head-in-Some.ensures.1 in
    rw (p.1, p.2) (λ tells place is. (twice g c place tells is).0)

pub returns-clause-long : goal.returns-clause-long
returns-clause-long g c = λ tells. c.size-size.ensures.told tells ∙ sym c.loop-number.invariant.sized
