use Rattle.std.proofs.Common.{◌≡◌, refl, ap, subst}
use Rattle.eden_disk.specs.Calls.{Counts, Fine}
use Rattle.checkpoint.specs.Turns.{RestStands}
use Rattle.checkpoint.specs.Boots.{IsDownSite}
use Rattle.checkpoint.specs.Calls.{MakesCalls}
use Rattle.checkpoint.proofs.SomeCalls.{calls-behind}
use Rattle.checkpoint.proofs.BarredBoots.{bar-restart, bar-from}
use Rattle.checkpoint.proofs.WholeBoots.{down-site, fall-as, falls-unopened, at-restart, map-ok, map-err, up-from, falls-from}
use Rattle.std.proofs.Common.{◌∙◌}
use Rattle.passive_store.specs.Seen.{disk_seen}
use Rattle.checkpoint.specs.Calls.{call_of_fall, call_of_refusal}
use Rattle.checkpoint.specs.Touches.{RaisesClock}
use Rattle.checkpoint.proofs.SomeCalls.{fall-call}
use Rattle.checkpoint.proofs.Touching.{obeyed-is, obeyed-restarted, obeyed-booted, raises-is, raises-booted}
use Rattle.checkpoint.proofs.up.boot.Goals as goal

pub returns-in-Err-clause-falls : goal.returns-in-Err-clause-falls
returns-in-Err-clause-falls g c = λ so s law fits more some h.
    let size : (g.St.Device.Disk.counts c.restart.new.self).size ≡
    (g.St.Device.Disk.counts c.args.disk).size = ap (λ (k : Counts). k.size) c.restart.ensures.counts in
    let level : (g.St.Device.Disk.counts c.restart.new.self).clock ≡
    (g.St.Device.Disk.counts c.args.disk).clock = ap (λ (k : Counts). k.clock) c.restart.ensures.counts in
    let rests : RestStands g.St.Store.layout c.args.node more s c.args.noted (g.St.Device.Disk.counts c.restart.new.self).size
    (g.St.Device.Disk.counts c.restart.new.self).clock (g.St.Device.Disk.told c.restart.new.self) =
    at-restart g.St.Store.layout c.args.node more s c.args.noted (g.St.Device.Disk.counts c.args.disk)
    (g.St.Device.Disk.counts c.restart.new.self) (g.St.Device.Disk.told c.args.disk)
    (g.St.Device.Disk.told c.restart.new.self) size level c.restart.ensures.told h in
    let d : IsDownSite g.St.Store.layout c.args.node s = down-site g.St.Store.layout c.args.node more s c.args.noted _ _ _ h fits in
    fall-as g.St.Store.layout c.args.node more s (g.St.Device.Disk.told c.args.disk)
    (g.St.Device.Disk.counts c.args.disk).clock _ _ _ _ _ _ _ _ _ _ c.end_of.ensures refl refl refl refl
    (falls-from g.St.Store.layout c.args.node more s (g.St.Device.Disk.counts c.args.disk) (g.St.Device.Disk.counts c.restart.new.self)
    (g.St.Device.Disk.told c.args.disk) (g.St.Device.Disk.told c.restart.new.self) _ _ _ _ _ level c.restart.ensures.told
    (falls-unopened g.St.Store.layout c.args.node more s c.args.noted (g.St.Device.Disk.told c.restart.new.self)
    (g.St.Device.Disk.counts c.restart.new.self).clock c.in-Err.refusal (g.St.Device.Disk.told c.in-Err.disk)
    (g.St.Device.Disk.counts c.in-Err.disk) d (c.in-Err.ensures.refused so s more rests)))

pub returns-in-Ok-clause-up : goal.returns-in-Ok-clause-up
returns-in-Ok-clause-up g c = λ so. map-ok _ _ c.boot_opened.result (λ r up s law fits more some h.
    let size : (g.St.Device.Disk.counts c.restart.new.self).size ≡
    (g.St.Device.Disk.counts c.args.disk).size = ap (λ (k : Counts). k.size) c.restart.ensures.counts in
    let level : (g.St.Device.Disk.counts c.restart.new.self).clock ≡
    (g.St.Device.Disk.counts c.args.disk).clock = ap (λ (k : Counts). k.clock) c.restart.ensures.counts in
    let rests : RestStands g.St.Store.layout c.args.node more s c.args.noted (g.St.Device.Disk.counts c.restart.new.self).size
    (g.St.Device.Disk.counts c.restart.new.self).clock (g.St.Device.Disk.told c.restart.new.self) =
    at-restart g.St.Store.layout c.args.node more s c.args.noted (g.St.Device.Disk.counts c.args.disk)
    (g.St.Device.Disk.counts c.restart.new.self) (g.St.Device.Disk.told c.args.disk)
    (g.St.Device.Disk.told c.restart.new.self) size level c.restart.ensures.told h in
    let d : IsDownSite g.St.Store.layout c.args.node s = down-site g.St.Store.layout c.args.node more s c.args.noted _ _ _ h fits in
    up-from g.St.Store.layout c.args.node more s (g.St.Device.Disk.counts c.args.disk) (g.St.Device.Disk.counts c.restart.new.self)
    (g.St.Device.Disk.told c.args.disk) (g.St.Device.Disk.told c.restart.new.self) _ _ level c.restart.ensures.told
    (up more s (g.St.Device.Disk.told c.restart.new.self) (g.St.Device.Disk.counts c.restart.new.self).clock some d
    (c.in-Ok.ensures.opened so s law more rests))) (c.boot_opened.ensures.up so)

pub returns-in-Ok-clause-falls : goal.returns-in-Ok-clause-falls
returns-in-Ok-clause-falls g c = λ so. map-err _ _ c.boot_opened.result (λ r falls s law fits more some h.
    let size : (g.St.Device.Disk.counts c.restart.new.self).size ≡
    (g.St.Device.Disk.counts c.args.disk).size = ap (λ (k : Counts). k.size) c.restart.ensures.counts in
    let level : (g.St.Device.Disk.counts c.restart.new.self).clock ≡
    (g.St.Device.Disk.counts c.args.disk).clock = ap (λ (k : Counts). k.clock) c.restart.ensures.counts in
    let rests : RestStands g.St.Store.layout c.args.node more s c.args.noted (g.St.Device.Disk.counts c.restart.new.self).size
    (g.St.Device.Disk.counts c.restart.new.self).clock (g.St.Device.Disk.told c.restart.new.self) =
    at-restart g.St.Store.layout c.args.node more s c.args.noted (g.St.Device.Disk.counts c.args.disk)
    (g.St.Device.Disk.counts c.restart.new.self) (g.St.Device.Disk.told c.args.disk)
    (g.St.Device.Disk.told c.restart.new.self) size level c.restart.ensures.told h in
    let d : IsDownSite g.St.Store.layout c.args.node s = down-site g.St.Store.layout c.args.node more s c.args.noted _ _ _ h fits in
    falls-from g.St.Store.layout c.args.node more s (g.St.Device.Disk.counts c.args.disk) (g.St.Device.Disk.counts c.restart.new.self)
    (g.St.Device.Disk.told c.args.disk) (g.St.Device.Disk.told c.restart.new.self) _ _ _ _ _ level c.restart.ensures.told
    (falls more s (g.St.Device.Disk.told c.restart.new.self) (g.St.Device.Disk.counts c.restart.new.self).clock some d
    (c.in-Ok.ensures.opened so s law more rests))) (c.boot_opened.ensures.falls so)

pub returns-in-Ok-clause-calls : goal.returns-in-Ok-clause-calls
returns-in-Ok-clause-calls g c = calls-behind _ _ _ (λ r. (g.St.Store.seen r.0).disk.counts) (λ r. g.St.Device.Disk.counts r.0)
    (λ r. r.1.end) c.boot_opened.result
    (subst (λ k. MakesCalls k (g.St.Store.seen c.in-Ok.store).disk.counts Fine) c.restart.ensures.counts c.in-Ok.ensures.calls)
    c.boot_opened.ensures.calls

pub returns-in-Ok-clause-barred : goal.returns-in-Ok-clause-barred
returns-in-Ok-clause-barred g c = λ so s law bar h.
    absurd (c.in-Ok.ensures.barred so s law bar (bar-restart g.St.Store.layout c.args.node s bar (g.St.Device.Disk.counts c.args.disk)
    (g.St.Device.Disk.counts c.restart.new.self) (g.St.Device.Disk.told c.args.disk) (g.St.Device.Disk.told c.restart.new.self)
    (ap (λ (k : Counts). k.size) c.restart.ensures.counts)
    (ap (λ (k : Counts). k.clock) c.restart.ensures.counts) c.restart.ensures.told h))

pub returns-in-Err-clause-barred : goal.returns-in-Err-clause-barred
returns-in-Err-clause-barred g c = λ so s law bar h.
    let level : (g.St.Device.Disk.counts c.restart.new.self).clock ≡
    (g.St.Device.Disk.counts c.args.disk).clock = ap (λ (k : Counts). k.clock) c.restart.ensures.counts in (
      refl,
      bar-from g.St.Store.layout c.args.node s bar (g.St.Device.Disk.counts c.args.disk) (g.St.Device.Disk.counts c.restart.new.self)
          (g.St.Device.Disk.told c.args.disk)
          (g.St.Device.Disk.told c.restart.new.self) _ _ _ _ _ _ level c.restart.ensures.told c.end_of.ensures refl
          (c.in-Err.ensures.barred so s law bar (bar-restart g.St.Store.layout c.args.node s bar (g.St.Device.Disk.counts c.args.disk)
          (g.St.Device.Disk.counts c.restart.new.self) (g.St.Device.Disk.told c.args.disk) (g.St.Device.Disk.told c.restart.new.self)
          (ap (λ (k : Counts). k.size) c.restart.ensures.counts) level c.restart.ensures.told h)),
    )

-- what was due
pub returns-in-Err-clause-obeyed : goal.returns-in-Err-clause-obeyed
returns-in-Err-clause-obeyed g c =
    let of = disk_seen g.St.Device.Disk.counts g.St.Device.Disk.told g.St.Device.Disk.due in
    obeyed-is _ _ _ _ _ _ _ (ap call_of_fall c.end_of.ensures ∙ fall-call c.in-Err.refusal)
    (obeyed-restarted _ (of c.args.disk)
    (of c.restart.new.self) _ _ _ c.restart.ensures.due c.restart.ensures.counts c.in-Err.ensures.obeyed)

pub returns-in-Err-clause-raises : goal.returns-in-Err-clause-raises
returns-in-Err-clause-raises g c = λ so.
    raises-is _ _ _ _ (ap call_of_fall c.end_of.ensures ∙ fall-call c.in-Err.refusal)
    (subst (λ (k : Counts). RaisesClock (call_of_refusal c.in-Err.refusal) k.clock
    (g.St.Device.Disk.counts c.in-Err.disk).clock) c.restart.ensures.counts
    (c.in-Err.ensures.raises so))

pub returns-in-Ok-clause-obeyed : goal.returns-in-Ok-clause-obeyed
returns-in-Ok-clause-obeyed g c =
    let of = disk_seen g.St.Device.Disk.counts g.St.Device.Disk.told g.St.Device.Disk.due in
    obeyed-booted _ _ g.St.Device.Disk.obeys (of c.args.disk) (of c.restart.new.self) (g.St.Store.seen c.in-Ok.store).disk
    (λ r. (g.St.Store.seen r.0).disk) (λ r. of r.0) (λ r. r.1.end) c.boot_opened.result c.restart.ensures.due c.restart.ensures.counts
    c.in-Ok.ensures.calls c.in-Ok.ensures.obeyed c.boot_opened.ensures.calls c.boot_opened.ensures.obeyed

pub returns-in-Ok-clause-raises : goal.returns-in-Ok-clause-raises
returns-in-Ok-clause-raises g c = λ so. map-err _ _ c.boot_opened.result (λ r raises.
    raises-booted (g.St.Device.Disk.counts c.args.disk) (g.St.Device.Disk.counts c.restart.new.self)
    (g.St.Store.seen c.in-Ok.store).disk.counts (g.St.Device.Disk.counts r.0) _ c.restart.ensures.counts c.in-Ok.ensures.calls raises)
    c.boot_opened.ensures.raises
