use Rattle.std.proofs.Common.{◌≡◌, true, Bool, IsTrue, sym, subst, ◌∙◌, Some, Ok, Err}
use Rattle.eden_disk.specs.Calls.{Fine, end_of}
use Rattle.passive_store.specs.declared.store.Progress.TheVariants.{Done}
use Rattle.passive_store.specs.Acts.{Sync, Read}
use Rattle.passive_store.specs.Kept.{is_unsettled}
use Rattle.passive_store.specs.Seen.{DiskSeen, SettlesOneCall}
use Rattle.passive_blocks.specs.declared.block_store.Pending.{Pending}
use Rattle.passive_blocks.specs.BlockLayout.{block_layout}
use Rattle.passive_blocks.specs.StageState.{IsStore}
use Rattle.passive_blocks.specs.StoreState.{HasEntry, block_seen, pending_work}
use Rattle.passive_blocks.proofs.StageAdvances.{OneCall, seen_with}
use Rattle.passive_blocks.proofs.StageGoes.{kept_seen}
use Rattle.passive_blocks.proofs.StageOnce.{IsOnce, IsFound, one_sync, once_staged, once_synced_store, once_synced_seen, unsynced_store}
use Rattle.passive_blocks.proofs.StageOnce.{unsynced_seen, unread_store, unread_seen, found_store, found_seen, no_gate}
use Rattle.passive_blocks.proofs.block_store.BlockStore.settle_once.Goals as goal

pub returns-in_default-stage-clause-settles : goal.returns-in_default-stage-clause-settles
returns-in_default-stage-clause-settles g c =
    let s = c.self.inside in
    let p : Pending = c.in-Some.pending in
    let unsettled : IsTrue (is_unsettled (pending_work s.table s.pending)) = subst (λ v. IsTrue (is_unsettled v.work)) (sym c.self.view_is)
    c.requires.unsettled in
    let is = sym c.take.ensures.value ∙ c.in-Some.is in
    absurd (no_gate s.table p p.stage (subst (λ o. is_unsettled (pending_work s.table o) ≡ true) is unsettled) c.in_default-stage.not-Ended)

pub settle_table-pick-requires-clause-gate : goal.settle_table-pick-requires-clause-gate
settle_table-pick-requires-clause-gate g c =
    let s = c.self.inside in
    let p : Pending = c.in-Some.pending in
    let old : DiskSeen = record { counts = g.D.Disk.counts s.disk; told = g.D.Disk.told s.disk; due = g.D.Disk.due s.disk } in
    let once : IsOnce g.D.Disk.tells s.node s.size s.more old s.table s.pending p c.in-Ended.gate c.in-Ended.synced = record {
      store = c.self.invariant;
      is = sym c.take.ensures.value ∙ c.in-Some.is;
      stage = c.in-Ended.is;
      power = subst (λ v. IsTrue (g.D.Disk.counts v.device).power) (sym c.self.view_is) c.requires.power;
    } in
    once_staged g.D.Disk.tells s.node s.size s.more old s.table s.pending p c.in-Ended.gate c.in-Ended.synced once

pub invariant_of-self-in-Ok : goal.invariant_of-self-in-Ok
invariant_of-self-in-Ok g c =
    let s = c.self.inside in
    let p : Pending = c.in-Some.pending in
    let old : DiskSeen = record { counts = g.D.Disk.counts s.disk; told = g.D.Disk.told s.disk; due = g.D.Disk.due s.disk } in
    let new : DiskSeen = record {
      counts = g.D.Disk.counts c.sync.new.self;
      told = g.D.Disk.told c.sync.new.self;
      due = g.D.Disk.due
          c.sync.new.self;
    } in
    let once : IsOnce g.D.Disk.tells s.node s.size s.more old s.table s.pending p c.in-Ended.gate c.in-Ended.synced = record {
      store = c.self.invariant;
      is = sym c.take.ensures.value ∙ c.in-Some.is;
      stage = c.in-Ended.is;
      power = subst (λ v. IsTrue (g.D.Disk.counts v.device).power) (sym c.self.view_is) c.requires.power;
    } in
    let one : OneCall g.D.Disk.tells g.D.Disk.obeys Sync Fine old new =
    one_sync g.D.Disk.tells g.D.Disk.obeys Fine old new c.in-Ok.ensures.counts c.in-Ok.ensures.obeys c.in-Ok.ensures.spent
    c.in-Ok.ensures.told in
    once_synced_store g.D.Disk.tells g.D.Disk.obeys s.node s.size s.more old new s.table s.pending p c.in-Ended.gate c.in-Ended.synced
    once c.if-not-synced.true one

pub returns-in-Ok-clause-settles : goal.returns-in-Ok-clause-settles
returns-in-Ok-clause-settles g c =
    let s = c.self.inside in
    let p : Pending = c.in-Some.pending in
    let old : DiskSeen = record { counts = g.D.Disk.counts s.disk; told = g.D.Disk.told s.disk; due = g.D.Disk.due s.disk } in
    let new : DiskSeen = record {
      counts = g.D.Disk.counts c.sync.new.self;
      told = g.D.Disk.told c.sync.new.self;
      due = g.D.Disk.due
          c.sync.new.self;
    } in
    let once : IsOnce g.D.Disk.tells s.node s.size s.more old s.table s.pending p c.in-Ended.gate c.in-Ended.synced = record {
      store = c.self.invariant;
      is = sym c.take.ensures.value ∙ c.in-Some.is;
      stage = c.in-Ended.is;
      power = subst (λ v. IsTrue (g.D.Disk.counts v.device).power) (sym c.self.view_is) c.requires.power;
    } in
    let one : OneCall g.D.Disk.tells g.D.Disk.obeys Sync Fine old new =
    one_sync g.D.Disk.tells g.D.Disk.obeys Fine old new c.in-Ok.ensures.counts c.in-Ok.ensures.obeys c.in-Ok.ensures.spent
    c.in-Ok.ensures.told in
    rw (← c.self.view_is) (once_synced_seen g.D.Disk.tells g.D.Disk.obeys s.node s.size s.more old new s.table s.pending p
    c.in-Ended.gate c.in-Ended.synced s.picked
    once c.if-not-synced.true one)

pub invariant_of-self-in-Err : goal.invariant_of-self-in-Err
invariant_of-self-in-Err g c =
    let s = c.self.inside in
    let p : Pending = c.in-Some.pending in
    let old : DiskSeen = record { counts = g.D.Disk.counts s.disk; told = g.D.Disk.told s.disk; due = g.D.Disk.due s.disk } in
    let new : DiskSeen = record {
      counts = g.D.Disk.counts c.sync.new.self;
      told = g.D.Disk.told c.sync.new.self;
      due = g.D.Disk.due
          c.sync.new.self;
    } in
    let once : IsOnce g.D.Disk.tells s.node s.size s.more old s.table s.pending p c.in-Ended.gate c.in-Ended.synced = record {
      store = c.self.invariant;
      is = sym c.take.ensures.value ∙ c.in-Some.is;
      stage = c.in-Ended.is;
      power = subst (λ v. IsTrue (g.D.Disk.counts v.device).power) (sym c.self.view_is) c.requires.power;
    } in
    let one : OneCall g.D.Disk.tells g.D.Disk.obeys Sync (end_of {T = Unit {0}} (Err c.in-Err.refusal)) old new =
    one_sync g.D.Disk.tells g.D.Disk.obeys (end_of {T = Unit {0}} (Err c.in-Err.refusal)) old new c.in-Err.ensures.counts
    c.in-Err.ensures.obeys c.in-Err.ensures.spent c.in-Err.ensures.told in
    unsynced_store (Unit {0}) g.D.Disk.tells g.D.Disk.obeys s.node s.size s.more old new s.table s.pending p c.in-Ended.gate
    c.in-Ended.synced
    c.in-Err.refusal once c.if-not-synced.true one

pub returns-in-Err-clause-settles : goal.returns-in-Err-clause-settles
returns-in-Err-clause-settles g c =
    let s = c.self.inside in
    let p : Pending = c.in-Some.pending in
    let old : DiskSeen = record { counts = g.D.Disk.counts s.disk; told = g.D.Disk.told s.disk; due = g.D.Disk.due s.disk } in
    let new : DiskSeen = record {
      counts = g.D.Disk.counts c.sync.new.self;
      told = g.D.Disk.told c.sync.new.self;
      due = g.D.Disk.due
          c.sync.new.self;
    } in
    let once : IsOnce g.D.Disk.tells s.node s.size s.more old s.table s.pending p c.in-Ended.gate c.in-Ended.synced = record {
      store = c.self.invariant;
      is = sym c.take.ensures.value ∙ c.in-Some.is;
      stage = c.in-Ended.is;
      power = subst (λ v. IsTrue (g.D.Disk.counts v.device).power) (sym c.self.view_is) c.requires.power;
    } in
    let one : OneCall g.D.Disk.tells g.D.Disk.obeys Sync (end_of {T = Unit {0}} (Err c.in-Err.refusal)) old new =
    one_sync g.D.Disk.tells g.D.Disk.obeys (end_of {T = Unit {0}} (Err c.in-Err.refusal)) old new c.in-Err.ensures.counts
    c.in-Err.ensures.obeys c.in-Err.ensures.spent c.in-Err.ensures.told in
    rw (← c.self.view_is) (unsynced_seen (Unit {0}) g.D.Disk.tells g.D.Disk.obeys s.node s.size s.more old new s.table s.pending p
    c.in-Ended.gate c.in-Ended.synced
    c.in-Err.refusal s.picked c.into.result once c.if-not-synced.true c.into.ensures one)

pub invariant_of-self-in-Err-read_gate : goal.invariant_of-self-in-Err-read_gate
invariant_of-self-in-Err-read_gate g c =
    let s = c.self.inside in
    let p : Pending = c.in-Some.pending in
    let old : DiskSeen = record { counts = g.D.Disk.counts s.disk; told = g.D.Disk.told s.disk; due = g.D.Disk.due s.disk } in
    let new : DiskSeen = record {
      counts = g.D.Disk.counts c.read_gate.new.disk;
      told = g.D.Disk.told c.read_gate.new.disk;
      due =
          g.D.Disk.due c.read_gate.new.disk;
    } in
    let once : IsOnce g.D.Disk.tells s.node s.size s.more old s.table s.pending p c.in-Ended.gate c.in-Ended.synced = record {
      store = c.self.invariant;
      is = sym c.take.ensures.value ∙ c.in-Some.is;
      stage = c.in-Ended.is;
      power = subst (λ v. IsTrue (g.D.Disk.counts v.device).power) (sym c.self.view_is) c.requires.power;
    } in
    let one : OneCall g.D.Disk.tells g.D.Disk.obeys Read (end_of {T = Bool} (Err c.in-Err-read_gate.refusal)) old new = record {
      counts = c.in-Err-read_gate.ensures.counts;
      obeyed = c.in-Err-read_gate.ensures.obeyed;
      timed = c.in-Err-read_gate.ensures.timed;
      told = c.in-Err-read_gate.ensures.told;
    } in
    unread_store Bool g.D.Disk.tells g.D.Disk.obeys s.node s.size s.more old new s.table s.pending p c.in-Ended.gate c.in-Ended.synced
    c.in-Err-read_gate.refusal once c.if-not-synced.false one

pub returns-in-Err-read_gate-clause-settles : goal.returns-in-Err-read_gate-clause-settles
returns-in-Err-read_gate-clause-settles g c =
    let s = c.self.inside in
    let p : Pending = c.in-Some.pending in
    let old : DiskSeen = record { counts = g.D.Disk.counts s.disk; told = g.D.Disk.told s.disk; due = g.D.Disk.due s.disk } in
    let new : DiskSeen = record {
      counts = g.D.Disk.counts c.read_gate.new.disk;
      told = g.D.Disk.told c.read_gate.new.disk;
      due =
          g.D.Disk.due c.read_gate.new.disk;
    } in
    let once : IsOnce g.D.Disk.tells s.node s.size s.more old s.table s.pending p c.in-Ended.gate c.in-Ended.synced = record {
      store = c.self.invariant;
      is = sym c.take.ensures.value ∙ c.in-Some.is;
      stage = c.in-Ended.is;
      power = subst (λ v. IsTrue (g.D.Disk.counts v.device).power) (sym c.self.view_is) c.requires.power;
    } in
    let one : OneCall g.D.Disk.tells g.D.Disk.obeys Read (end_of {T = Bool} (Err c.in-Err-read_gate.refusal)) old new = record {
      counts = c.in-Err-read_gate.ensures.counts;
      obeyed = c.in-Err-read_gate.ensures.obeyed;
      timed = c.in-Err-read_gate.ensures.timed;
      told = c.in-Err-read_gate.ensures.told;
    } in
    rw (← c.self.view_is) (unread_seen Bool g.D.Disk.tells g.D.Disk.obeys s.node s.size s.more old new s.table s.pending p
    c.in-Ended.gate c.in-Ended.synced
    c.in-Err-read_gate.refusal s.picked c.into-in-Err-read_gate.result once c.if-not-synced.false c.into-in-Err-read_gate.ensures one)

pub invariant_of-self-in-Ok-read_gate : goal.invariant_of-self-in-Ok-read_gate
invariant_of-self-in-Ok-read_gate g c =
    let s = c.self.inside in
    let p : Pending = c.in-Some.pending in
    let old : DiskSeen = record { counts = g.D.Disk.counts s.disk; told = g.D.Disk.told s.disk; due = g.D.Disk.due s.disk } in
    let new : DiskSeen = record {
      counts = g.D.Disk.counts c.read_gate.new.disk;
      told = g.D.Disk.told c.read_gate.new.disk;
      due =
          g.D.Disk.due c.read_gate.new.disk;
    } in
    let once : IsOnce g.D.Disk.tells s.node s.size s.more old s.table s.pending p c.in-Ended.gate c.in-Ended.synced = record {
      store = c.self.invariant;
      is = sym c.take.ensures.value ∙ c.in-Some.is;
      stage = c.in-Ended.is;
      power = subst (λ v. IsTrue (g.D.Disk.counts v.device).power) (sym c.self.view_is) c.requires.power;
    } in
    let one : OneCall g.D.Disk.tells g.D.Disk.obeys Read Fine old new = record {
      counts = c.in-Ok-read_gate.ensures.counts;
      obeyed = c.in-Ok-read_gate.ensures.obeyed;
      timed = c.in-Ok-read_gate.ensures.timed;
      told = c.in-Ok-read_gate.ensures.told;
    } in
    let found : IsFound g.D.Disk.tells old new s.table c.settle_table-pick.new.table p c.in-Ended.gate c.in-Ok-read_gate.is_open
    c.settle_table-pick.result = record {
      held = λ size. c.settle_table-pick.ensures.held size new.counts;
      by = c.settle_table-pick.ensures.settled;
      says = λ tells. sym (c.in-Ok-read_gate.ensures.gate tells);
    } in
    subst (IsStore g.D.Disk.tells s.node s.size s.more new.counts new.told c.settle_table-pick.new.table) (sym c.take.ensures.after)
    (found_store g.D.Disk.tells g.D.Disk.obeys s.node s.size s.more old new s.table c.settle_table-pick.new.table s.pending p
    c.in-Ended.gate c.in-Ended.synced c.in-Ok-read_gate.is_open c.settle_table-pick.result once c.if-not-synced.false one found)

pub returns-in-Ok-read_gate-clause-settles : goal.returns-in-Ok-read_gate-clause-settles
returns-in-Ok-read_gate-clause-settles g c =
    let s = c.self.inside in
    let p : Pending = c.in-Some.pending in
    let old : DiskSeen = record { counts = g.D.Disk.counts s.disk; told = g.D.Disk.told s.disk; due = g.D.Disk.due s.disk } in
    let new : DiskSeen = record {
      counts = g.D.Disk.counts c.read_gate.new.disk;
      told = g.D.Disk.told c.read_gate.new.disk;
      due =
          g.D.Disk.due c.read_gate.new.disk;
    } in
    let once : IsOnce g.D.Disk.tells s.node s.size s.more old s.table s.pending p c.in-Ended.gate c.in-Ended.synced = record {
      store = c.self.invariant;
      is = sym c.take.ensures.value ∙ c.in-Some.is;
      stage = c.in-Ended.is;
      power = subst (λ v. IsTrue (g.D.Disk.counts v.device).power) (sym c.self.view_is) c.requires.power;
    } in
    let one : OneCall g.D.Disk.tells g.D.Disk.obeys Read Fine old new = record {
      counts = c.in-Ok-read_gate.ensures.counts;
      obeyed = c.in-Ok-read_gate.ensures.obeyed;
      timed = c.in-Ok-read_gate.ensures.timed;
      told = c.in-Ok-read_gate.ensures.told;
    } in
    let found : IsFound g.D.Disk.tells old new s.table c.settle_table-pick.new.table p c.in-Ended.gate c.in-Ok-read_gate.is_open
    c.settle_table-pick.result = record {
      held = λ size. c.settle_table-pick.ensures.held size new.counts;
      by = c.settle_table-pick.ensures.settled;
      says = λ tells. sym (c.in-Ok-read_gate.ensures.gate tells);
    } in
    subst (λ o. SettlesOneCall g.D.Disk.tells g.D.Disk.obeys block_layout (Ok Done) (block_seen g.D.Disk.counts g.D.Disk.told
    g.D.Disk.due c.args.self.now)
    (seen_with s.node (pending_work c.settle_table-pick.new.table o) (Some c.settle_table-pick.result)
    (kept_seen new.told c.settle_table-pick.new.table) s.more new)) (sym c.take.ensures.after)
    (rw (← c.self.view_is) (found_seen g.D.Disk.tells g.D.Disk.obeys s.node s.size s.more old new s.table c.settle_table-pick.new.table
    s.pending p
    c.in-Ended.gate c.in-Ended.synced c.in-Ok-read_gate.is_open c.settle_table-pick.result s.picked once c.if-not-synced.false one found))

pub returns-in_default-clause-entries : goal.returns-in_default-clause-entries
returns-in_default-clause-entries g c = λ q here. subst (λ v. HasEntry v.entries q) (sym c.self.view_is) here

pub returns-in_default-stage-clause-entries : goal.returns-in_default-stage-clause-entries
returns-in_default-stage-clause-entries g c = λ q here. subst (λ v. HasEntry v.entries q) (sym c.self.view_is) here

pub returns-in-Ok-clause-entries : goal.returns-in-Ok-clause-entries
returns-in-Ok-clause-entries g c = λ q here. subst (λ v. HasEntry v.entries q) (sym c.self.view_is) here

pub returns-in-Err-clause-entries : goal.returns-in-Err-clause-entries
returns-in-Err-clause-entries g c = λ q here. subst (λ v. HasEntry v.entries q) (sym c.self.view_is) here

pub returns-in-Err-read_gate-clause-entries : goal.returns-in-Err-read_gate-clause-entries
returns-in-Err-read_gate-clause-entries g c = λ q here. subst (λ v. HasEntry v.entries q) (sym c.self.view_is) here

pub returns-in-Ok-read_gate-clause-entries : goal.returns-in-Ok-read_gate-clause-entries
returns-in-Ok-read_gate-clause-entries g c = λ q here.
    c.settle_table-pick.ensures.keys q (subst (λ v. HasEntry v.entries q) (sym c.self.view_is) here)
