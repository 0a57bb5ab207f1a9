use Rattle.std.proofs.Common.{◌≡◌, ◌+◌, ◌≤◌, ℕ, Bool, false, List, replicate, length, take, sym, ap, subst, ◌∙◌, arith, refl}
use Rattle.std.proofs.lemmas.List.{take_all}
use Rattle.eden_disk.proofs.Timed.{timed_sync, timed_join}
use Rattle.passive_store.proofs.Joining.{timed_still}
use Rattle.std.proofs.lemmas.Result.{err_from_is_err_and}
use Rattle.eden_disk.specs.Told.{Told, contents, at_rest}
use Rattle.eden_disk.specs.Calls.{Fine, end_of}
use Rattle.eden_disk.proofs.Held.{calls_one, calls_more}
use Rattle.std.specs.Prelude.{Err, slice_index, ◌==◌}
use Rattle.passive_store.specs.declared.opening.Found.{Found}
use Rattle.passive_store.specs.Acts.{Read, AllTold, CallsTold}
use Rattle.passive_store.specs.Log.{records_of}
use Rattle.passive_store.specs.LogLayout.{looks, records_before, records_read}
use Rattle.passive_store.specs.Opening.{IsWalk, ReadsMade}
use Rattle.passive_store.proofs.Openings.{keeps_sync, keeps_ready, keeps_read, keeps_join, refused_calls, synced_now, opened_log}
use Rattle.passive_store.proofs.Openings.{opened_damaged, opening_number, refused_number, refused_made, too_small, opening_is}
use Rattle.passive_store.proofs.Openings.{sync_told_refused, look_told_refused, walk_told_refused, walk_told_whole}
use Rattle.passive_store.proofs.opening.open_log.Goals as goal

pub returns-in_err-sync-clause-keeps : goal.returns-in_err-sync-clause-keeps
returns-in_err-sync-clause-keeps g c = λ tells. keeps_sync c.args.node _ _ _ _ (c.sync.ensures.told tells)

pub returns-in_err-ready-clause-ran : goal.returns-in_err-ready-clause-ran
returns-in_err-ready-clause-ran g c =
    let p = err_from_is_err_and c.from_residual-in_err-ready.result c.from_residual-in_err-ready.ensures.1 in
    let ran = c.in_err-ready.ensures.ran in
    rw (p.1, p.2) (
      1 + ran.0,
      (
        calls_more 1 ran.0 _ _ _ _ (calls_one _ _ _ c.in_ok-sync.ensures.counts)
            (refused_calls (Unit {0}) Found _ ran.0 _ _ ran.1.0),
        λ tells. refused_made Found _ (1 + ran.0) _ (omega arith),
      ),
    )

pub returns-in_err-ready-clause-keeps : goal.returns-in_err-ready-clause-keeps
returns-in_err-ready-clause-keeps g c = λ tells.
    let t0 : Told = g.D.Disk.told c.args.disk.now in
    let t1 : Told = g.D.Disk.told c.sync.new.self in
    let synced : contents t1 ≡ at_rest (contents t0).now = ap contents (c.in_ok-sync.ensures.told tells) in
    let long : 17 ≤ length (contents t1).now = omega
    (arith, ap (λ x. length x.now) synced, c.size.ensures.told tells, c.if-size-lt17.false) in
    keeps_join c.args.node t0 t1 (g.D.Disk.told c.ready.new.disk) (keeps_sync c.args.node _ t0 t1 Fine (c.in_ok-sync.ensures.told tells))
    (keeps_ready c.args.node t1 (g.D.Disk.told c.ready.new.disk) _ long
    (c.ready.ensures.readied tells (synced_now (contents t1) (contents t0).now synced) long))

pub returns-in_err-found-clause-ran : goal.returns-in_err-found-clause-ran
returns-in_err-found-clause-ran g c =
    let p = err_from_is_err_and c.from_residual-in_err-found.result c.from_residual-in_err-found.ensures.1 in
    let ready = c.in_ok-ready.ensures.ran in
    let ran = c.in_err-found.ensures.ran in
    rw (p.1, p.2) (
      1 + (ready.0 + ran.0),
      (
        calls_more 1 (ready.0 + ran.0) _ _ _ _ (calls_one _ _ _ c.in_ok-sync.ensures.counts)
            (calls_more ready.0 ran.0 _ _ _ _ ready.1.0 ran.1.0),
        λ tells.
            let t0 : Told = g.D.Disk.told c.args.disk.now in
            let t1 : Told = g.D.Disk.told c.sync.new.self in
            let t2 : Told = g.D.Disk.told c.ready.new.disk in
            let synced : contents t1 ≡ at_rest (contents t0).now = ap contents (c.in_ok-sync.ensures.told tells) in
            let whole : 17 ≤ length (contents t0).now = omega (arith, c.size.ensures.told tells, c.if-size-lt17.false) in
            let long : 17 ≤ length (contents t1).now = omega (arith, ap (λ x. length x.now) synced, whole) in
            let now : List ℕ = (contents t2).now in
            let all : take c.size-size.result now ≡ now = take_all c.size-size.result now (omega (arith, c.size-size.ensures.told tells)) in
            refused_number c.args.node ready.0 ran.0 c.in_err-found.field-0.0 t0 t1 t2 whole synced (ready.1.2 tells)
            (subst (λ b. ReadsMade c.args.node b (Err c.in_err-found.field-0.0) ran.0) all (ran.1.1 tells))
            (c.in_ok-ready.ensures.readied tells (synced_now (contents t1) (contents t0).now synced) long)
            c.in_err-found.ensures.never_full
            (λ place is. subst (λ b. records_of c.args.node b ≡ Err place) all (c.in_err-found.ensures.damaged tells place is)),
      ),
    )

pub returns-in_err-found-clause-damaged : goal.returns-in_err-found-clause-damaged
returns-in_err-found-clause-damaged g c =
    let p = err_from_is_err_and c.from_residual-in_err-found.result c.from_residual-in_err-found.ensures.1 in
    rw (p.1, p.2) (λ tells place is.
    let t0 : Told = g.D.Disk.told c.args.disk.now in
    let t1 : Told = g.D.Disk.told c.sync.new.self in
    let synced : contents t1 ≡ at_rest (contents t0).now = ap contents (c.in_ok-sync.ensures.told tells) in
    let whole : 17 ≤ length (contents t0).now = omega (arith, c.size.ensures.told tells, c.if-size-lt17.false) in
    let long : 17 ≤ length (contents t1).now = omega (arith, ap (λ x. length x.now) synced, whole) in
    let now : List ℕ = (contents (g.D.Disk.told c.ready.new.disk)).now in
    let all : take c.size-size.result now ≡ now = take_all c.size-size.result now (omega (arith, c.size-size.ensures.told tells)) in
    opened_damaged c.args.node place t0 t1 (g.D.Disk.told c.ready.new.disk) synced whole
    (c.in_ok-ready.ensures.readied tells (synced_now (contents t1) (contents t0).now synced) long)
    (subst (λ b. records_of c.args.node b ≡ Err place) all (c.in_err-found.ensures.damaged tells place is)))

pub returns-in_err-found-clause-keeps : goal.returns-in_err-found-clause-keeps
returns-in_err-found-clause-keeps g c = λ tells.
    let t0 : Told = g.D.Disk.told c.args.disk.now in
    let t1 : Told = g.D.Disk.told c.sync.new.self in
    let t2 : Told = g.D.Disk.told c.ready.new.disk in
    let t3 : Told = g.D.Disk.told c.read_records.new.disk in
    let synced : contents t1 ≡ at_rest (contents t0).now = ap contents (c.in_ok-sync.ensures.told tells) in
    let long : 17 ≤ length (contents t1).now = omega
    (arith, ap (λ x. length x.now) synced, c.size.ensures.told tells, c.if-size-lt17.false) in
    keeps_join c.args.node t0 t1 t3 (keeps_sync c.args.node _ t0 t1 Fine (c.in_ok-sync.ensures.told tells))
    (keeps_join c.args.node t1 t2 t3 (keeps_ready c.args.node t1 t2 Fine long
    (c.in_ok-ready.ensures.readied tells (synced_now (contents t1) (contents t0).now synced) long))
    (keeps_read c.args.node _ t2 t3 _ (c.read_records.ensures.told tells)))

pub returns-clause-keeps : goal.returns-clause-keeps
returns-clause-keeps g c = λ tells.
    let t0 : Told = g.D.Disk.told c.args.disk.now in
    let t1 : Told = g.D.Disk.told c.sync.new.self in
    let t2 : Told = g.D.Disk.told c.ready.new.disk in
    let t3 : Told = g.D.Disk.told c.read_records.new.disk in
    let synced : contents t1 ≡ at_rest (contents t0).now = ap contents (c.in_ok-sync.ensures.told tells) in
    let long : 17 ≤ length (contents t1).now = omega
    (arith, ap (λ x. length x.now) synced, c.size.ensures.told tells, c.if-size-lt17.false) in
    keeps_join c.args.node t0 t1 t3 (keeps_sync c.args.node _ t0 t1 Fine (c.in_ok-sync.ensures.told tells))
    (keeps_join c.args.node t1 t2 t3 (keeps_ready c.args.node t1 t2 Fine long
    (c.in_ok-ready.ensures.readied tells (synced_now (contents t1) (contents t0).now synced) long))
    (keeps_read c.args.node _ t2 t3 _ (c.read_records.ensures.told tells)))

pub returns-clause-log : goal.returns-clause-log
returns-clause-log g c = λ tells.
    let t0 : Told = g.D.Disk.told c.args.disk.now in
    let t1 : Told = g.D.Disk.told c.sync.new.self in
    let t2 : Told = g.D.Disk.told c.ready.new.disk in
    let t3 : Told = g.D.Disk.told c.read_records.new.disk in
    let synced : contents t1 ≡ at_rest (contents t0).now = ap contents (c.in_ok-sync.ensures.told tells) in
    let whole : 17 ≤ length (contents t0).now = omega (arith, c.size.ensures.told tells, c.if-size-lt17.false) in
    let long : 17 ≤ length (contents t1).now = omega (arith, ap (λ x. length x.now) synced, whole) in
    let found = c.in_ok-found.found in
    let now : List ℕ = (contents t2).now in
    let all : take c.size-size.result now ≡ now = take_all c.size-size.result now (omega (arith, c.size-size.ensures.told tells)) in
    (opened_log c.args.node found.size found.tail t0 t1 t2 t3 found.index synced whole
    (c.in_ok-ready.ensures.readied tells (synced_now (contents t1) (contents t0).now synced) long)
    (c.in_ok-found.ensures.told tells) (omega (arith, c.in_ok-found.ensures.placed.ends))
    (subst (λ b. IsWalk c.args.node found.size found.tail b found.index) all (c.in_ok-found.ensures.walk tells))
    (subst (λ b. (slice_index b found.tail == 225) ≡ false) all (c.in_ok-found.ensures.shut tells))).log

pub returns-clause-placed : goal.returns-clause-placed
returns-clause-placed g c =
    let found = c.in_ok-found.found in
    let placed = c.in_ok-found.ensures.placed in
    record {
      sized = c.in_ok-found.ensures.ran.1.0.size ∙ sym c.size-size.ensures.size ∙ sym c.in_ok-found.ensures.size;
      begins = placed.begins;
      ends = placed.ends;
      slots = placed.slots;
      placed = tt;
    }

pub returns-clause-map : goal.returns-clause-map
returns-clause-map g c = λ tells.
    let t0 : Told = g.D.Disk.told c.args.disk.now in
    let t1 : Told = g.D.Disk.told c.sync.new.self in
    let t2 : Told = g.D.Disk.told c.ready.new.disk in
    let t3 : Told = g.D.Disk.told c.read_records.new.disk in
    let synced : contents t1 ≡ at_rest (contents t0).now = ap contents (c.in_ok-sync.ensures.told tells) in
    let whole : 17 ≤ length (contents t0).now = omega (arith, c.size.ensures.told tells, c.if-size-lt17.false) in
    let long : 17 ≤ length (contents t1).now = omega (arith, ap (λ x. length x.now) synced, whole) in
    let found = c.in_ok-found.found in
    let now : List ℕ = (contents t2).now in
    let all : take c.size-size.result now ≡ now = take_all c.size-size.result now (omega (arith, c.size-size.ensures.told tells)) in
    (opened_log c.args.node found.size found.tail t0 t1 t2 t3 found.index synced whole
    (c.in_ok-ready.ensures.readied tells (synced_now (contents t1) (contents t0).now synced) long)
    (c.in_ok-found.ensures.told tells) (omega (arith, c.in_ok-found.ensures.placed.ends))
    (subst (λ b. IsWalk c.args.node found.size found.tail b found.index) all (c.in_ok-found.ensures.walk tells))
    (subst (λ b. (slice_index b found.tail == 225) ≡ false) all (c.in_ok-found.ensures.shut tells))).map_is

pub returns-clause-ran : goal.returns-clause-ran
returns-clause-ran g c =
    let ready = c.in_ok-ready.ensures.ran in
    let ran = c.in_ok-found.ensures.ran in (
      1 + (ready.0 + ran.0),
      (
        calls_more 1 (ready.0 + ran.0) _ _ _ _ (calls_one _ _ _ c.in_ok-sync.ensures.counts)
            (calls_more ready.0 ran.0 _ _ _ _ ready.1.0 ran.1.0),
        λ tells.
            let t0 : Told = g.D.Disk.told c.args.disk.now in
            let t1 : Told = g.D.Disk.told c.sync.new.self in
            let t2 : Told = g.D.Disk.told c.ready.new.disk in
            let t3 : Told = g.D.Disk.told c.read_records.new.disk in
            let synced : contents t1 ≡ at_rest (contents t0).now = ap contents (c.in_ok-sync.ensures.told tells) in
            let whole : 17 ≤ length (contents t0).now = omega (arith, c.size.ensures.told tells, c.if-size-lt17.false) in
            let long : 17 ≤ length (contents t1).now = omega (arith, ap (λ x. length x.now) synced, whole) in
            let found = c.in_ok-found.found in
            let now : List ℕ = (contents t2).now in
            let all : take c.size-size.result now ≡ now = take_all c.size-size.result now (omega (arith, c.size-size.ensures.told tells)) in
            opening_number c.args.node found.tail ready.0 ran.0 t0 t1 t2 (contents t3) whole synced (ready.1.2 tells)
            (subst (λ b. ran.0 ≡ length (records_before c.args.node found.tail b) + 1) all (ran.1.1 tells))
            (ap contents (c.in_ok-found.ensures.told tells))
            (opened_log c.args.node found.size found.tail t0 t1 t2 t3 found.index synced whole
            (c.in_ok-ready.ensures.readied tells (synced_now (contents t1) (contents t0).now synced) long)
            (c.in_ok-found.ensures.told tells) (omega (arith, c.in_ok-found.ensures.placed.ends))
            (subst (λ b. IsWalk c.args.node found.size found.tail b found.index) all (c.in_ok-found.ensures.walk tells))
            (subst (λ b. (slice_index b found.tail == 225) ≡ false) all (c.in_ok-found.ensures.shut tells))).read,
      ),
    )

pub returns-in_err-sync-clause-ran : goal.returns-in_err-sync-clause-ran
returns-in_err-sync-clause-ran g c =
    let p = err_from_is_err_and c.from_residual.result c.from_residual.ensures.1 in
    rw (p.1, p.2) (
      1,
      (
        refused_calls (Unit {0}) Found _ 1 _ _ (calls_one _ _ _ c.in_err-sync.ensures.counts),
        λ tells. refused_made Found _ 1 _ (omega arith),
      ),
    )

pub returns-then-size-lt17-clause-timed : goal.returns-then-size-lt17-clause-timed
returns-then-size-lt17-clause-timed g c = λ tells. timed_still _ _ _ _ (omega arith) refl

pub returns-in_err-sync-clause-timed : goal.returns-in_err-sync-clause-timed
returns-in_err-sync-clause-timed g c = λ tells. timed_sync (g.D.Disk.counts c.args.disk.now) (g.D.Disk.counts c.sync.new.self)
    (g.D.Disk.told c.args.disk.now) (g.D.Disk.told c.sync.new.self) _ c.sync.ensures.counts.clock (c.sync.ensures.spent tells)
    (c.sync.ensures.told tells)

pub returns-in_err-ready-clause-timed : goal.returns-in_err-ready-clause-timed
returns-in_err-ready-clause-timed g c = λ tells.
    timed_join _ _ _ _ _ _ (timed_sync (g.D.Disk.counts c.args.disk.now) (g.D.Disk.counts c.sync.new.self) (g.D.Disk.told c.args.disk.now)
    (g.D.Disk.told c.sync.new.self) _ c.sync.ensures.counts.clock (c.sync.ensures.spent tells) (c.sync.ensures.told tells))
    (c.in_err-ready.ensures.timed tells)

pub returns-in_err-found-clause-timed : goal.returns-in_err-found-clause-timed
returns-in_err-found-clause-timed g c = λ tells.
    timed_join _ _ _ _ _ _ (timed_sync (g.D.Disk.counts c.args.disk.now) (g.D.Disk.counts c.sync.new.self) (g.D.Disk.told c.args.disk.now)
    (g.D.Disk.told c.sync.new.self) _ c.sync.ensures.counts.clock (c.sync.ensures.spent tells) (c.sync.ensures.told tells))
    (timed_join _ _ _ _ _ _ (c.in_ok-ready.ensures.timed tells) (c.in_err-found.ensures.timed tells))

pub returns-clause-timed : goal.returns-clause-timed
returns-clause-timed g c = λ tells.
    timed_join _ _ _ _ _ _ (timed_sync (g.D.Disk.counts c.args.disk.now) (g.D.Disk.counts c.sync.new.self) (g.D.Disk.told c.args.disk.now)
    (g.D.Disk.told c.sync.new.self) _ c.sync.ensures.counts.clock (c.sync.ensures.spent tells) (c.sync.ensures.told tells))
    (timed_join _ _ _ _ _ _ (c.in_ok-ready.ensures.timed tells) (c.in_ok-found.ensures.timed tells))

pub returns-then-size-lt17-clause-order : goal.returns-then-size-lt17-clause-order
returns-then-size-lt17-clause-order g c = λ tells.
    subst (λ l. AllTold l (g.D.Disk.told c.args.disk.now) (g.D.Disk.told c.args.disk.now))
    (sym (too_small c.args.node (contents (g.D.Disk.told c.args.disk.now)).now
    (omega (arith, c.size.ensures.told tells, c.if-size-lt17.true)))) refl

pub returns-in_err-sync-clause-order : goal.returns-in_err-sync-clause-order
returns-in_err-sync-clause-order g c =
    let p = err_from_is_err_and c.from_residual.result c.from_residual.ensures.1 in
    rw (p.1, p.2) (λ tells.
    let t0 : Told = g.D.Disk.told c.args.disk.now in
    let t1 : Told = g.D.Disk.told c.sync.new.self in
    let whole : 17 ≤ length (contents t0).now = omega (arith, c.size.ensures.told tells, c.if-size-lt17.false) in
    let is = opening_is c.args.node (contents t0).now whole in
    sync_told_refused _ (g.D.Disk.counts c.sync.new.self).clock c.args.node t0 t1 _ is (c.in_err-sync.ensures.told tells))

pub returns-in_err-ready-clause-order : goal.returns-in_err-ready-clause-order
returns-in_err-ready-clause-order g c =
    let p = err_from_is_err_and c.from_residual-in_err-ready.result c.from_residual-in_err-ready.ensures.1 in
    rw (p.1, p.2) (λ tells.
    let t0 : Told = g.D.Disk.told c.args.disk.now in
    let t1 : Told = g.D.Disk.told c.sync.new.self in
    let synced : contents t1 ≡ at_rest (contents t0).now = ap contents (c.in_ok-sync.ensures.told tells) in
    let whole : 17 ≤ length (contents t0).now = omega (arith, c.size.ensures.told tells, c.if-size-lt17.false) in
    let same : (slice_index (contents t1).now 0 == 237) ≡ (slice_index (contents t0).now 0 == 237) = ap
    (λ x. slice_index x.now 0 == 237) synced in
    let n : ℕ = length (records_read c.args.node (contents t0).now) in
    let h : Bool = slice_index (contents t0).now 0 == 237 in
    let is = opening_is c.args.node (contents t0).now whole in
    let t2 : Told = g.D.Disk.told c.ready.new.disk in
    look_told_refused h (replicate (n + 1) Read) (g.D.Disk.counts c.sync.new.self).clock c.args.node t0 t1 t2 _ is
    (c.in_ok-sync.ensures.told tells)
    (subst (λ b. CallsTold (looks b) t1 t2 (end_of {T = Unit {0}} (Err c.in_err-ready.field-0.0))) same
    (c.in_err-ready.ensures.order tells)))

pub returns-in_err-found-clause-order : goal.returns-in_err-found-clause-order
returns-in_err-found-clause-order g c =
    let p = err_from_is_err_and c.from_residual-in_err-found.result c.from_residual-in_err-found.ensures.1 in
    rw (p.1, p.2) (λ tells.
    let t0 : Told = g.D.Disk.told c.args.disk.now in
    let t1 : Told = g.D.Disk.told c.sync.new.self in
    let synced : contents t1 ≡ at_rest (contents t0).now = ap contents (c.in_ok-sync.ensures.told tells) in
    let whole : 17 ≤ length (contents t0).now = omega (arith, c.size.ensures.told tells, c.if-size-lt17.false) in
    let same : (slice_index (contents t1).now 0 == 237) ≡ (slice_index (contents t0).now 0 == 237) = ap
    (λ x. slice_index x.now 0 == 237) synced in
    let n : ℕ = length (records_read c.args.node (contents t0).now) in
    let h : Bool = slice_index (contents t0).now 0 == 237 in
    let is = opening_is c.args.node (contents t0).now whole in
    let t2 : Told = g.D.Disk.told c.ready.new.disk in
    let t3 : Told = g.D.Disk.told c.read_records.new.disk in
    walk_told_refused h n (g.D.Disk.counts c.sync.new.self).clock
    (g.D.Disk.counts c.read_records.new.disk).clock c.args.node t0 t1 t2 t3 _ is (c.in_ok-sync.ensures.told tells)
    (subst (λ b. AllTold (looks b) t1 t2) same (c.in_ok-ready.ensures.order tells)) c.in_err-found.ensures.never_full
    (c.in_err-found.ensures.told tells))

pub returns-clause-order : goal.returns-clause-order
returns-clause-order g c = λ tells.
    let t0 : Told = g.D.Disk.told c.args.disk.now in
    let t1 : Told = g.D.Disk.told c.sync.new.self in
    let synced : contents t1 ≡ at_rest (contents t0).now = ap contents (c.in_ok-sync.ensures.told tells) in
    let whole : 17 ≤ length (contents t0).now = omega (arith, c.size.ensures.told tells, c.if-size-lt17.false) in
    let same : (slice_index (contents t1).now 0 == 237) ≡ (slice_index (contents t0).now 0 == 237) = ap
    (λ x. slice_index x.now 0 == 237) synced in
    let n : ℕ = length (records_read c.args.node (contents t0).now) in
    let h : Bool = slice_index (contents t0).now 0 == 237 in
    let is = opening_is c.args.node (contents t0).now whole in
    let t2 : Told = g.D.Disk.told c.ready.new.disk in
    let t3 : Told = g.D.Disk.told c.read_records.new.disk in
    walk_told_whole h n (g.D.Disk.counts c.sync.new.self).clock (g.D.Disk.counts c.read_records.new.disk).clock c.args.node t0 t1 t2 t3 is
    (c.in_ok-sync.ensures.told tells) (subst (λ b. AllTold (looks b) t1 t2) same (c.in_ok-ready.ensures.order tells))
    (c.in_ok-found.ensures.told tells)
