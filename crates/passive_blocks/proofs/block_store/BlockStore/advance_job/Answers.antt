use Rattle.std.proofs.Common.{IsTrue, sym, ap, subst, ◌∙◌, Option, Result, Ok}
use Rattle.eden_disk.specs.declared.disk.DiskRefusal.{DiskRefusal}
use Rattle.passive_store.specs.Kept.{is_busy}
use Rattle.passive_store.specs.Seen.{DiskSeen, Advances}
use Rattle.passive_blocks.specs.declared.block_store.Pending.{Pending}
use Rattle.passive_blocks.specs.declared.block_store.Stage.{Stage}
use Rattle.passive_blocks.specs.BlockLayout.{block_layout}
use Rattle.passive_blocks.specs.StoreState.{block_seen, pending_work}
use Rattle.passive_blocks.specs.StageState.{IsStore}
use Rattle.passive_blocks.proofs.HeldMaking.{held_when_made}
use Rattle.passive_blocks.proofs.StageAdvances.{seen_with}
use Rattle.passive_blocks.proofs.StageGoes.{kept_seen}
use Rattle.passive_blocks.proofs.StageCall.{IsCall, IsMadeFrom, refused_store, refused_seen, held_of, going_store, going_seen, done_store}
use Rattle.passive_blocks.proofs.StageCall.{done_seen}
use Rattle.passive_blocks.proofs.block_store.BlockStore.advance_job.Goals as goal

abbrev done : Option Stage → Result (Option Stage) DiskRefusal
done next = Ok next

pub invariant_of-self-in-Err : goal.invariant_of-self-in-Err
invariant_of-self-in-Err g c =
    let s = c.self.inside in
    let p : Pending = c.in-Some.pending in
    let old : DiskSeen = record { counts = g.D.Disk.counts s.disk; told = g.D.Disk.told s.disk; due = g.D.Disk.due s.disk } in
    let new : DiskSeen = record {
      counts = g.D.Disk.counts c.make_call-result.new.disk;
      told = g.D.Disk.told c.make_call-result.new.disk;
      due = g.D.Disk.due c.make_call-result.new.disk;
    } in
    let call : IsCall g.D.Disk.tells g.D.Disk.obeys s.node s.size s.more old new s.table c.make_call-result.new.table s.pending p
    c.make_call-result.result = record {
      store = c.self.invariant;
      is = sym c.take.ensures.value ∙ c.in-Some.is;
      power = subst (λ v. IsTrue (g.D.Disk.counts v.device).power) (sym c.self.view_is) c.requires.power;
      busy = subst (λ v. IsTrue (is_busy v.work)) (sym c.self.view_is) c.requires.busy;
      one = record {
        counts = c.make_call-result.ensures.counts;
        obeyed = c.make_call-result.ensures.obeyed;
        timed = c.make_call-result.ensures.timed;
        told = c.make_call-result.ensures.told;
      };
      held = c.make_call-result.ensures.held;
      same = c.make_call-result.ensures.same;
      next = c.make_call-result.ensures.next;
    } in
    refused_store g.D.Disk.tells g.D.Disk.obeys s.node s.size s.more old new s.table c.make_call-result.new.table s.pending p
    c.make_call-result.result
    c.in-Err.refusal c.gate_in_doubt.result call c.in-Err.is c.gate_in_doubt.ensures

pub returns-in-Err : goal.returns-in-Err
returns-in-Err g c =
    let s = c.self.inside in
    let p : Pending = c.in-Some.pending in
    let old : DiskSeen = record { counts = g.D.Disk.counts s.disk; told = g.D.Disk.told s.disk; due = g.D.Disk.due s.disk } in
    let new : DiskSeen = record {
      counts = g.D.Disk.counts c.make_call-result.new.disk;
      told = g.D.Disk.told c.make_call-result.new.disk;
      due = g.D.Disk.due c.make_call-result.new.disk;
    } in
    let call : IsCall g.D.Disk.tells g.D.Disk.obeys s.node s.size s.more old new s.table c.make_call-result.new.table s.pending p
    c.make_call-result.result = record {
      store = c.self.invariant;
      is = sym c.take.ensures.value ∙ c.in-Some.is;
      power = subst (λ v. IsTrue (g.D.Disk.counts v.device).power) (sym c.self.view_is) c.requires.power;
      busy = subst (λ v. IsTrue (is_busy v.work)) (sym c.self.view_is) c.requires.busy;
      one = record {
        counts = c.make_call-result.ensures.counts;
        obeyed = c.make_call-result.ensures.obeyed;
        timed = c.make_call-result.ensures.timed;
        told = c.make_call-result.ensures.told;
      };
      held = c.make_call-result.ensures.held;
      same = c.make_call-result.ensures.same;
      next = c.make_call-result.ensures.next;
    } in
    rw (← c.self.view_is) (refused_seen g.D.Disk.tells g.D.Disk.obeys s.node s.size s.more old new s.table c.make_call-result.new.table
    s.pending p c.make_call-result.result
    c.in-Err.refusal c.gate_in_doubt.result s.picked c.into.result call c.in-Err.is c.into.ensures)

pub invariant_of-self-in-Some-next : goal.invariant_of-self-in-Some-next
invariant_of-self-in-Some-next g c =
    let s = c.self.inside in
    let p : Pending = c.in-Some.pending in
    let old : DiskSeen = record { counts = g.D.Disk.counts s.disk; told = g.D.Disk.told s.disk; due = g.D.Disk.due s.disk } in
    let new : DiskSeen = record {
      counts = g.D.Disk.counts c.make_call-result.new.disk;
      told = g.D.Disk.told c.make_call-result.new.disk;
      due = g.D.Disk.due c.make_call-result.new.disk;
    } in
    let call : IsCall g.D.Disk.tells g.D.Disk.obeys s.node s.size s.more old new s.table c.make_call-result.new.table s.pending p
    c.make_call-result.result = record {
      store = c.self.invariant;
      is = sym c.take.ensures.value ∙ c.in-Some.is;
      power = subst (λ v. IsTrue (g.D.Disk.counts v.device).power) (sym c.self.view_is) c.requires.power;
      busy = subst (λ v. IsTrue (is_busy v.work)) (sym c.self.view_is) c.requires.busy;
      one = record {
        counts = c.make_call-result.ensures.counts;
        obeyed = c.make_call-result.ensures.obeyed;
        timed = c.make_call-result.ensures.timed;
        told = c.make_call-result.ensures.told;
      };
      held = c.make_call-result.ensures.held;
      same = c.make_call-result.ensures.same;
      next = c.make_call-result.ensures.next;
    } in
    let some = c.in-Ok.is ∙ ap done c.in-Some-next.is in
    going_store g.D.Disk.tells g.D.Disk.obeys s.node s.size s.more old new s.table c.make_call-result.new.table s.pending p
    c.make_call-result.result
    c.in-Some-next.stage call some

pub returns-in-Some-next : goal.returns-in-Some-next
returns-in-Some-next g c =
    let s = c.self.inside in
    let p : Pending = c.in-Some.pending in
    let old : DiskSeen = record { counts = g.D.Disk.counts s.disk; told = g.D.Disk.told s.disk; due = g.D.Disk.due s.disk } in
    let new : DiskSeen = record {
      counts = g.D.Disk.counts c.make_call-result.new.disk;
      told = g.D.Disk.told c.make_call-result.new.disk;
      due = g.D.Disk.due c.make_call-result.new.disk;
    } in
    let call : IsCall g.D.Disk.tells g.D.Disk.obeys s.node s.size s.more old new s.table c.make_call-result.new.table s.pending p
    c.make_call-result.result = record {
      store = c.self.invariant;
      is = sym c.take.ensures.value ∙ c.in-Some.is;
      power = subst (λ v. IsTrue (g.D.Disk.counts v.device).power) (sym c.self.view_is) c.requires.power;
      busy = subst (λ v. IsTrue (is_busy v.work)) (sym c.self.view_is) c.requires.busy;
      one = record {
        counts = c.make_call-result.ensures.counts;
        obeyed = c.make_call-result.ensures.obeyed;
        timed = c.make_call-result.ensures.timed;
        told = c.make_call-result.ensures.told;
      };
      held = c.make_call-result.ensures.held;
      same = c.make_call-result.ensures.same;
      next = c.make_call-result.ensures.next;
    } in
    let some = c.in-Ok.is ∙ ap done c.in-Some-next.is in
    rw (← c.self.view_is) (going_seen g.D.Disk.tells g.D.Disk.obeys s.node s.size s.more old new s.table c.make_call-result.new.table
    s.pending p c.make_call-result.result
    c.in-Some-next.stage s.picked call some)

pub invariant_of-self-in-Ok : goal.invariant_of-self-in-Ok
invariant_of-self-in-Ok g c =
    let s = c.self.inside in
    let p : Pending = c.in-Some.pending in
    let old : DiskSeen = record { counts = g.D.Disk.counts s.disk; told = g.D.Disk.told s.disk; due = g.D.Disk.due s.disk } in
    let new : DiskSeen = record {
      counts = g.D.Disk.counts c.make_call-result.new.disk;
      told = g.D.Disk.told c.make_call-result.new.disk;
      due = g.D.Disk.due c.make_call-result.new.disk;
    } in
    let call : IsCall g.D.Disk.tells g.D.Disk.obeys s.node s.size s.more old new s.table c.make_call-result.new.table s.pending p
    c.make_call-result.result = record {
      store = c.self.invariant;
      is = sym c.take.ensures.value ∙ c.in-Some.is;
      power = subst (λ v. IsTrue (g.D.Disk.counts v.device).power) (sym c.self.view_is) c.requires.power;
      busy = subst (λ v. IsTrue (is_busy v.work)) (sym c.self.view_is) c.requires.busy;
      one = record {
        counts = c.make_call-result.ensures.counts;
        obeyed = c.make_call-result.ensures.obeyed;
        timed = c.make_call-result.ensures.timed;
        told = c.make_call-result.ensures.told;
      };
      held = c.make_call-result.ensures.held;
      same = c.make_call-result.ensures.same;
      next = c.make_call-result.ensures.next;
    } in
    let from : IsMadeFrom s.size new c.make_call-result.new.table c.make_change.new.self p = record {
      held = held_when_made s.size new.counts c.make_call-result.new.table c.make_change.new.self p
          (held_of g.D.Disk.tells g.D.Disk.obeys s.node s.size s.more old new s.table c.make_call-result.new.table s.pending p
          c.make_call-result.result call)
          c.make_change.ensures.table c.make_change.ensures.slots c.make_change.ensures.lone c.make_change.ensures.closing
          c.make_change.ensures.needed c.make_change.ensures.free c.make_change.ensures.next c.make_change.ensures.size;
      lone = c.make_change.ensures.lone;
      items = c.make_change.ensures.slots;
      next = c.make_change.ensures.next;
      sized = c.make_change.ensures.size;
    } in
    let none = c.in-Ok.is ∙ ap done c.in-None.is in
    subst (IsStore g.D.Disk.tells s.node s.size s.more new.counts new.told c.make_change.new.self) (sym c.take.ensures.after)
    (done_store g.D.Disk.tells g.D.Disk.obeys s.node s.size s.more old new s.table c.make_call-result.new.table c.make_change.new.self
    s.pending p
    c.make_call-result.result call none from)

pub returns-in-None : goal.returns-in-None
returns-in-None g c =
    let s = c.self.inside in
    let p : Pending = c.in-Some.pending in
    let old : DiskSeen = record { counts = g.D.Disk.counts s.disk; told = g.D.Disk.told s.disk; due = g.D.Disk.due s.disk } in
    let new : DiskSeen = record {
      counts = g.D.Disk.counts c.make_call-result.new.disk;
      told = g.D.Disk.told c.make_call-result.new.disk;
      due = g.D.Disk.due c.make_call-result.new.disk;
    } in
    let call : IsCall g.D.Disk.tells g.D.Disk.obeys s.node s.size s.more old new s.table c.make_call-result.new.table s.pending p
    c.make_call-result.result = record {
      store = c.self.invariant;
      is = sym c.take.ensures.value ∙ c.in-Some.is;
      power = subst (λ v. IsTrue (g.D.Disk.counts v.device).power) (sym c.self.view_is) c.requires.power;
      busy = subst (λ v. IsTrue (is_busy v.work)) (sym c.self.view_is) c.requires.busy;
      one = record {
        counts = c.make_call-result.ensures.counts;
        obeyed = c.make_call-result.ensures.obeyed;
        timed = c.make_call-result.ensures.timed;
        told = c.make_call-result.ensures.told;
      };
      held = c.make_call-result.ensures.held;
      same = c.make_call-result.ensures.same;
      next = c.make_call-result.ensures.next;
    } in
    let from : IsMadeFrom s.size new c.make_call-result.new.table c.make_change.new.self p = record {
      held = held_when_made s.size new.counts c.make_call-result.new.table c.make_change.new.self p
          (held_of g.D.Disk.tells g.D.Disk.obeys s.node s.size s.more old new s.table c.make_call-result.new.table s.pending p
          c.make_call-result.result call)
          c.make_change.ensures.table c.make_change.ensures.slots c.make_change.ensures.lone c.make_change.ensures.closing
          c.make_change.ensures.needed c.make_change.ensures.free c.make_change.ensures.next c.make_change.ensures.size;
      lone = c.make_change.ensures.lone;
      items = c.make_change.ensures.slots;
      next = c.make_change.ensures.next;
      sized = c.make_change.ensures.size;
    } in
    let none = c.in-Ok.is ∙ ap done c.in-None.is in
    subst (λ o. Advances g.D.Disk.tells g.D.Disk.obeys block_layout (Ok _)
    (block_seen g.D.Disk.counts g.D.Disk.told g.D.Disk.due c.args.self.now)
    (seen_with s.node (pending_work c.make_change.new.self o) s.picked (kept_seen new.told c.make_change.new.self) s.more new))
    (sym c.take.ensures.after)
    (rw (← c.self.view_is) (done_seen g.D.Disk.tells g.D.Disk.obeys s.node s.size s.more old new s.table c.make_call-result.new.table
    c.make_change.new.self s.pending p
    c.make_call-result.result s.picked call none from))
