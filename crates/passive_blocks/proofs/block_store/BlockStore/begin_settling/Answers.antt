use Rattle.std.proofs.Common.{IsTrue, sym, ap, subst, ◌∙◌, Some}
use Rattle.passive_store.specs.Kept.{is_unsettled}
use Rattle.passive_store.specs.Seen.{DiskSeen}
use Rattle.passive_blocks.specs.declared.block_store.Pending.{Pending}
use Rattle.passive_blocks.specs.StoreState.{pending_work}
use Rattle.passive_blocks.specs.StageState.{IsStore}
use Rattle.passive_blocks.proofs.StageAnew.{anew_same, goes_on, anew_store, anew_ended}
use Rattle.passive_blocks.proofs.block_store.BlockStore.begin_settling.Goals as goal

pub returns-in_default-clause-anew : goal.returns-in_default-clause-anew
returns-in_default-clause-anew g c =
    let s = c.self.inside in
    let old : DiskSeen = record { counts = g.D.Disk.counts s.disk; told = g.D.Disk.told s.disk; due = g.D.Disk.due s.disk } in
    let power : IsTrue (g.D.Disk.counts s.disk).power = subst (λ v. IsTrue (g.D.Disk.counts v.device).power) (sym c.self.view_is)
    c.requires in
    rw (← c.self.view_is) (anew_same g.D.Disk.tells s.node s.size s.more old s.table s.pending c.take.new.self s.picked c.self.invariant
    power
    (c.in_default.ensures.after ∙ c.in_default.ensures.value)
    (ap (λ o. is_unsettled (pending_work s.table o)) (sym c.in_default.ensures.value)))

pub returns-in_default-stage-clause-anew : goal.returns-in_default-stage-clause-anew
returns-in_default-stage-clause-anew g c =
    let s = c.self.inside in
    let p : Pending = c.in-Some.pending in
    let old : DiskSeen = record { counts = g.D.Disk.counts s.disk; told = g.D.Disk.told s.disk; due = g.D.Disk.due s.disk } in
    let power : IsTrue (g.D.Disk.counts s.disk).power = subst (λ v. IsTrue (g.D.Disk.counts v.device).power) (sym c.self.view_is)
    c.requires in
    let is = sym c.take.ensures.value ∙ c.in-Some.is in
    rw (← c.self.view_is) (anew_same g.D.Disk.tells s.node s.size s.more old s.table s.pending (Some p) s.picked c.self.invariant power
    (sym is)
    (ap (λ o. is_unsettled (pending_work s.table o)) is ∙ goes_on s.table p p.stage c.in_default-stage.not-Ended))

pub invariant_of-self-2 : goal.invariant_of-self-2
invariant_of-self-2 g c =
    let s = c.self.inside in
    let p : Pending = c.in-Some.pending in
    let old : DiskSeen = record { counts = g.D.Disk.counts s.disk; told = g.D.Disk.told s.disk; due = g.D.Disk.due s.disk } in
    let power : IsTrue (g.D.Disk.counts s.disk).power = subst (λ v. IsTrue (g.D.Disk.counts v.device).power) (sym c.self.view_is)
    c.requires in
    let is = sym c.take.ensures.value ∙ c.in-Some.is in
    anew_store g.D.Disk.tells s.node s.size s.more old s.table p c.in-Ended.gate _ (record {
      store = subst (IsStore g.D.Disk.tells s.node s.size s.more old.counts old.told s.table) is c.self.invariant;
      stage = c.in-Ended.is;
      power = power;
    })

pub returns-clause-anew : goal.returns-clause-anew
returns-clause-anew g c =
    let s = c.self.inside in
    let p : Pending = c.in-Some.pending in
    let old : DiskSeen = record { counts = g.D.Disk.counts s.disk; told = g.D.Disk.told s.disk; due = g.D.Disk.due s.disk } in
    let power : IsTrue (g.D.Disk.counts s.disk).power = subst (λ v. IsTrue (g.D.Disk.counts v.device).power) (sym c.self.view_is)
    c.requires in
    let is = sym c.take.ensures.value ∙ c.in-Some.is in
    rw (← c.self.view_is) (anew_ended g.D.Disk.tells s.node s.size s.more old s.table s.pending p c.in-Ended.gate _ s.picked is (record {
      store = subst (IsStore g.D.Disk.tells s.node s.size s.more old.counts old.told s.table) is c.self.invariant;
      stage = c.in-Ended.is;
      power = power;
    }))

pub returns-in_default-clause-entries : goal.returns-in_default-clause-entries
returns-in_default-clause-entries g c = ap (λ v. v.entries) c.self.view_is

pub returns-in_default-stage-clause-entries : goal.returns-in_default-stage-clause-entries
returns-in_default-stage-clause-entries g c = ap (λ v. v.entries) c.self.view_is

pub returns-clause-entries : goal.returns-clause-entries
returns-clause-entries g c = ap (λ v. v.entries) c.self.view_is
