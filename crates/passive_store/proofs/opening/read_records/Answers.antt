use Rattle.std.proofs.Common.{◌≡◌, ◌+◌, ◌≤◌, ℕ, false, List, [], ◌∷◌, length, take, IsTrue, Option, None, Some, Err}
use Rattle.std.proofs.Common.{refl, sym, ap, subst, ◌∙◌, arith}
use Rattle.std.proofs.Common.{length-append}
use Rattle.std.specs.Prelude.{◌==◌, IfSome, slice_index}
use Rattle.std.proofs.lemmas.Result.{err_from_is_err_and}
use Rattle.eden_disk.specs.Told.{Told, contents}
use Rattle.eden_disk.specs.Calls.{Fine}
use Rattle.eden_disk.proofs.Held.{calls_none, calls_more, obeyed_none, obeyed_more}
use Rattle.passive_store.specs.declared.index.Slot.{Slot}
use Rattle.passive_store.specs.declared.records.Header.{Header}
use Rattle.passive_store.specs.LogLayout.{records_before}
use Rattle.passive_store.specs.LogState.{SetsSlot, slot_of}
use Rattle.passive_store.specs.Records.{IsHeaderAt, IsDamagedAt}
use Rattle.passive_store.proofs.Headers.{first_bytes}
use Rattle.passive_store.proofs.Walking.{walk_timed, walk_begun, walk_more, walk_damaged, change_at, empty_slots, sets_same}
use Rattle.passive_store.proofs.Walking.{bounded_more, limit_more}
use Rattle.passive_store.proofs.Openings.{damaged_at, damaged_map, opened_old, refused_reads}
use Rattle.passive_store.proofs.opening.read_records.Goals as goal

pub loop-index-init : goal.loop-index-init
loop-index-init g c =
    let size : ℕ = c.args.size in
    let index = c.new-index.result in
    let all = λ (tells : IsTrue g.D.Disk.tells). first_bytes size (g.D.Disk.counts c.args.disk.now).size _
    (contents (g.D.Disk.told c.args.disk.now)).now c.requires.within (c.size-size.ensures.told tells) c.size-size.ensures.size in
    record {
      made = 0;
      counts = calls_none _ c.requires.power;
      obeyed = λ so. obeyed_none _ _;
      placed = record {
        begins = omega arith;
        ends = omega (arith, c.requires.range);
        slots = λ uid. subst (λ o. IfSome o (λ (s : Slot). s.gate + 15 + s.length ≤ 16))
            (sym (empty_slots index uid c.new-index.ensures.empty)) tt;
      };
      limit = λ uid. subst (λ o. IfSome o (λ (s : Slot). s.length ≤ 262144)) (sym (empty_slots index uid c.new-index.ensures.empty)) tt;
      same = λ tells. refl;
      walk = λ tells. (walk_begun c.args.node size (take size (contents (g.D.Disk.told c.args.disk.now)).now) index
          c.requires.range (all tells) c.new-index.ensures.empty).0;
      number = λ tells. sym (ap length (walk_begun c.args.node size (take size (contents (g.D.Disk.told c.args.disk.now)).now) index
          c.requires.range (all tells) c.new-index.ensures.empty).1);
    }

pub returns-in_err-header-clause-ran : goal.returns-in_err-header-clause-ran
returns-in_err-header-clause-ran g c =
    let p = err_from_is_err_and c.from_residual.result c.from_residual.ensures.1 in
    rw (p.1, p.2) (
      c.loop-index.invariant.made + 1,
      (
        calls_more c.loop-index.invariant.made 1 _ _ _ _ c.loop-index.invariant.counts c.in_err-header.ensures.counts,
        λ tells. refused_reads c.args.node c.loop-index.tail c.loop-index.invariant.made
            (take c.args.size (contents (g.D.Disk.told c.args.disk.now)).now) _
            c.in_err-header.ensures.only (c.loop-index.invariant.number tells),
      ),
    )

pub returns-in_err-header-clause-damaged : goal.returns-in_err-header-clause-damaged
returns-in_err-header-clause-damaged g c =
    let p = err_from_is_err_and c.from_residual.result c.from_residual.ensures.1 in
    rw (p.1, p.2) (λ tells place is.
    let inv = c.loop-index.invariant in
    let at = damaged_at _ c.loop-index.tail place c.in_err-header.ensures.only is in
    walk_damaged c.args.node c.args.size c.loop-index.tail (take c.args.size (contents (g.D.Disk.told c.args.disk.now)).now)
    c.loop-index.index (omega (arith, inv.placed.ends)) (inv.walk tells)
    (subst (λ t. IsDamagedAt c.args.node (take c.args.size (contents t).now) c.loop-index.tail) (inv.same tells)
    (c.in_err-header.ensures.damaged tells at.0))
    ∙ ap (λ n. Err n) at.1)

pub returns-in_err-header-clause-damaged_log : goal.returns-in_err-header-clause-damaged_log
returns-in_err-header-clause-damaged_log g c =
    let p = err_from_is_err_and c.from_residual.result c.from_residual.ensures.1 in
    rw (p.1, p.2) (λ tells header place is.
    let inv = c.loop-index.invariant in
    let bytes : List ℕ = take c.args.size (contents (g.D.Disk.told c.args.disk.now)).now in
    let at = damaged_at _ c.loop-index.tail place c.in_err-header.ensures.only is in
    damaged_map c.args.node place bytes (omega (arith, (inv.walk tells).whole, c.requires.range)) header
    (walk_damaged c.args.node c.args.size c.loop-index.tail bytes
    c.loop-index.index (omega (arith, inv.placed.ends)) (inv.walk tells)
    (subst (λ t. IsDamagedAt c.args.node (take c.args.size (contents t).now) c.loop-index.tail) (inv.same tells)
    (c.in_err-header.ensures.damaged tells at.0))
    ∙ ap (λ n. Err n) at.1))

pub returns-clause-map : goal.returns-clause-map
returns-clause-map g c = λ tells header.
    let inv = c.loop-index.invariant in
    let bytes : List ℕ = take c.args.size (contents (g.D.Disk.told c.args.disk.now)).now in
    let shut : (slice_index bytes c.loop-index.tail == 225) ≡ false =
    subst (λ t. IsHeaderAt c.args.node (take c.args.size (contents t).now) c.loop-index.tail None) (inv.same tells)
    (subst (λ f. IsHeaderAt c.args.node (take c.args.size (contents (g.D.Disk.told c.loop-index.disk)).now) c.loop-index.tail f)
    c.in_default.is (c.in_ok-header.ensures.header tells)) in
    (opened_old c.args.node c.args.size c.loop-index.tail bytes c.loop-index.index
    (omega (arith, (inv.walk tells).whole, c.requires.range)) (omega (arith, inv.placed.ends)) header (inv.walk tells) shut).map_is

pub returns-in_err-make_entry-clause-ran : goal.returns-in_err-make_entry-clause-ran
returns-in_err-make_entry-clause-ran g c =
    let p = err_from_is_err_and c.from_residual-in_err-make_entry.result c.from_residual-in_err-make_entry.ensures.1 in
    rw (p.1, p.2) (
      c.loop-index.invariant.made + 1,
      (calls_more c.loop-index.invariant.made 1 _ _ _ _ c.loop-index.invariant.counts c.in_ok-header.ensures.counts, λ tells. tt),
    )

pub loop-index-preserved : goal.loop-index-preserved
loop-index-preserved g c =
    let inv = c.loop-index.invariant in
    let h : Header = c.in-Some.header in
    let tail : ℕ = c.loop-index.tail in
    let size : ℕ = c.args.size in
    let start : Told = g.D.Disk.told c.args.disk.now in
    let old = c.loop-index.index in
    let mid = c.make_entry.new.index in
    let new = c.set_slot.new.index in
    let slot : Option Slot = c.make_slot-slot.result in
    let fits : tail + h.length + 16 ≤ size = subst (λ f. IfSome f (λ (x : Header). tail + x.length + 16 ≤ size)) c.in-Some.is
    c.in_ok-header.ensures.fits in
    let short : h.length ≤ 262144 = subst (λ f. IfSome f (λ (x : Header). x.length ≤ 262144)) c.in-Some.is
    c.in_ok-header.ensures.limit in
    let bytes : List ℕ = take size (contents start).now in
    let sets : SetsSlot old new h.uid (slot_of h.removal tail h.length) = sets_same old mid new h.uid
    (slot_of h.removal tail h.length) slot c.make_entry.ensures.slots c.make_slot-slot.ensures c.set_slot.ensures.sets in
    let more = λ (tells : IsTrue g.D.Disk.tells).
    walk_more c.args.node size tail bytes old mid new h slot inv.placed.slots (omega (arith, inv.placed.ends))
    (inv.walk tells)
    (subst (λ t. IsHeaderAt c.args.node (take size (contents t).now) tail (Some h)) (inv.same tells)
    (subst (λ f. IsHeaderAt c.args.node (take size (contents (g.D.Disk.told c.loop-index.disk)).now) tail f) c.in-Some.is
    (c.in_ok-header.ensures.header tells)))
    c.make_entry.ensures.slots c.make_slot-slot.ensures c.set_slot.ensures.sets in
    record {
      made = inv.made + 1;
      counts = calls_more inv.made 1 _ _ _ Fine inv.counts c.in_ok-header.ensures.counts;
      obeyed = λ so. obeyed_more inv.made 1 _ _ _ _ _ _ Fine inv.counts c.in_ok-header.ensures.counts (inv.obeyed so)
          (c.in_ok-header.ensures.obeyed so);
      placed = bounded_more size tail h.length old new h.uid h.removal inv.placed fits sets;
      limit = limit_more tail h.length old new h.uid h.removal inv.limit short sets;
      same = λ tells. c.in_ok-header.ensures.told tells ∙ inv.same tells;
      walk = λ tells. (more tells).0;
      number = λ tells. ap (λ n. n + 1) (inv.number tells) ∙ sym
          (ap length (more tells).1 ∙ length-append (records_before c.args.node tail bytes) (change_at tail bytes ∷ []));
    }

pub returns-clause-ran : goal.returns-clause-ran
returns-clause-ran g c = (
  c.loop-index.invariant.made + 1,
  (
    calls_more c.loop-index.invariant.made 1 _ _ _ Fine c.loop-index.invariant.counts c.in_ok-header.ensures.counts,
    λ tells. ap (λ n. n + 1) (c.loop-index.invariant.number tells),
  ),
)

pub returns-in_err-header-clause-timed : goal.returns-in_err-header-clause-timed
returns-in_err-header-clause-timed g c = λ tells. walk_timed _ _ _ _ _ _ _ _ _ _ _ _ _ _ tells c.loop-index.invariant
    (c.in_err-header.ensures.timed tells)

pub returns-in_err-make_entry-clause-timed : goal.returns-in_err-make_entry-clause-timed
returns-in_err-make_entry-clause-timed g c = λ tells. walk_timed _ _ _ _ _ _ _ _ _ _ _ _ _ _ tells c.loop-index.invariant
    (c.in_ok-header.ensures.timed tells)

pub returns-clause-timed : goal.returns-clause-timed
returns-clause-timed g c = λ tells. walk_timed _ _ _ _ _ _ _ _ _ _ _ _ _ _ tells c.loop-index.invariant (c.in_ok-header.ensures.timed tells)
