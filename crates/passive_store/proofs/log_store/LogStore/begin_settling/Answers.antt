use Rattle.std.proofs.Common.{◌≡◌, true, false, Some, None, refl, sym, ap, ◌∙◌}
use Rattle.eden_disk.specs.Told.{contents}
use Rattle.passive_store.specs.Kept.{is_unsettled, unsynced}
use Rattle.passive_store.specs.LogState.{pending_work, stage_ended}
use Rattle.passive_store.proofs.Pendings.{stands_at, stands_anew, doubt_fresh, anew_placed, anew_log}
use Rattle.passive_store.proofs.Settling.{unsynced_pending, unsettled_pending, ended_pending, same_pending}
use Rattle.passive_store.proofs.log_store.LogStore.begin_settling.Goals as goal

pub returns-in_default : goal.returns-in_default
returns-in_default g c =
    let s = c.self.inside in
    let e : s.pending ≡ c.take.new.self = sym c.in_default.ensures.value ∙ sym c.in_default.ensures.after in
    let none : s.pending ≡ None = sym c.in_default.ensures.value in
    rw (← c.self.view_is) (record {
      node = refl;
      device = refl;
      unsettled = ap (λ q. is_unsettled (pending_work s.tail q)) (sym none);
      picked = refl;
      work = ap (pending_work s.tail) (sym e ∙ none) ∙ ap (λ q. unsynced (pending_work s.tail q)) (sym none);
      entries = refl;
      kept = λ tells. refl;
      fresh = λ tells. doubt_fresh s.node s.size s.tail (contents (g.D.Disk.told s.disk)) s.index s.pending (c.self.invariant.1 tells);
      stands = λ tells. stands_at _ _ _ _ _ s.index s.pending c.take.new.self e c.self.invariant.0 (c.self.invariant.1 tells);
    })

pub returns-then-not-is_ended : goal.returns-then-not-is_ended
returns-then-not-is_ended g c =
    let s = c.self.inside in
    let p = c.in-Some.pending in
    let e : s.pending ≡ Some p = sym c.take.ensures.value ∙ c.in-Some.is in
    let going : stage_ended p.stage ≡ false = sym c.is_ended.ensures ∙ c.if-not-is_ended.true in
    rw (← c.self.view_is) (record {
      node = refl;
      device = refl;
      unsettled = sym (unsettled_pending s.tail s.pending p e ∙ going);
      picked = refl;
      work = unsynced_pending s.tail s.pending p e going;
      entries = refl;
      kept = λ tells. refl;
      fresh = λ tells. doubt_fresh s.node s.size s.tail (contents (g.D.Disk.told s.disk)) s.index s.pending (c.self.invariant.1 tells);
      stands = λ tells. stands_at _ _ _ _ _ s.index s.pending (Some p) e c.self.invariant.0 (c.self.invariant.1 tells);
    })

pub returns : goal.returns
returns g c =
    let s = c.self.inside in
    let p = c.in-Some.pending in
    let e : s.pending ≡ Some p = sym c.take.ensures.value ∙ c.in-Some.is in
    let over : stage_ended p.stage ≡ true = sym c.is_ended.ensures ∙ c.if-not-is_ended.false in
    rw (← c.self.view_is) (record {
      node = refl;
      device = refl;
      unsettled = sym (unsettled_pending s.tail s.pending p e ∙ over);
      picked = refl;
      work = ended_pending s.tail s.pending p e over;
      entries = refl;
      kept = λ tells. refl;
      fresh = λ tells. doubt_fresh s.node s.size s.tail (contents (g.D.Disk.told s.disk)) s.index s.pending (c.self.invariant.1 tells);
      stands = λ tells. stands_anew _ _ _ _ _ s.index s.pending p e c.self.invariant.0 (c.self.invariant.1 tells);
    })

pub invariant_of-self : goal.invariant_of-self
invariant_of-self g c =
    let s = c.self.inside in
    let e : s.pending ≡ c.take.new.self = sym c.in_default.ensures.value ∙ sym c.in_default.ensures.after in
    same_pending g.D.Disk.tells _ s.node s.size s.tail (g.D.Disk.told s.disk) (g.D.Disk.counts s.disk) s.index s.pending c.take.new.self e
    c.self.invariant.0 c.self.invariant.1 c.self.invariant.2

pub invariant_of-self-then-not-is_ended : goal.invariant_of-self-then-not-is_ended
invariant_of-self-then-not-is_ended g c =
    let s = c.self.inside in
    same_pending g.D.Disk.tells _ s.node s.size s.tail (g.D.Disk.told s.disk) (g.D.Disk.counts s.disk) s.index s.pending
    (Some c.in-Some.pending) (sym c.take.ensures.value ∙ c.in-Some.is) c.self.invariant.0 c.self.invariant.1 c.self.invariant.2

pub invariant_of-self-2 : goal.invariant_of-self-2
invariant_of-self-2 g c =
    let s = c.self.inside in
    let p = c.in-Some.pending in
    let e : s.pending ≡ Some p = sym c.take.ensures.value ∙ c.in-Some.is in (
      anew_placed s.size s.tail (g.D.Disk.counts s.disk) s.index s.pending p e c.self.invariant.0,
      λ tells. anew_log s.node s.size s.tail (contents (g.D.Disk.told s.disk)) s.index s.pending p e (c.self.invariant.1 tells),
      λ tells on. tt,
    )
