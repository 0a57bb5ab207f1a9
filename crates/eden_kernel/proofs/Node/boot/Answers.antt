use Rattle.std.proofs.Common.{inr, refl, ap, subst}
use Rattle.std.specs.Prelude.{IfOk}
use Rattle.epl_syntax.specs.Rules.OfTypes.{TypeList}
use Rattle.passive_store.specs.Seen.{Seen, DiskSeen}
use Rattle.ejects.specs.View.{parts_of}
use Rattle.eden_kernel.specs.Boots.{HasNoted}
use Rattle.std.specs.Prelude.{None}
use Rattle.eden_kernel.proofs.Booted.{node-boots, boots-put}
use Rattle.passive_store.specs.Seen.{disk_seen}
use Rattle.journal.specs.declared.event.BootEnd.TheVariants as boot_end
use Rattle.eden_kernel.proofs.Showing.{shows-boot, shows-fall}
use Rattle.std.proofs.lemmas.Result.{err_from_is_err_and}
use Rattle.eden_kernel.proofs.Node.boot.Goals as goal

pub returns-in-Ok-clause-up : goal.returns-in-Ok-clause-up
returns-in-Ok-clause-up g c = λ so ts m s law epochs more some types asleep carries rests.
    let y : Seen = g.St.Store.seen c.in_ok-store.store in
    node-boots g.St.Store.layout ts c.args.number more s (g.St.Device.Disk.told c.args.disk) (g.St.Device.Disk.counts c.args.disk).clock
    c.in_ok-store.note c.in-Ok.ejects c.new.result y m types c.in_ok-store.ensures.node c.in_ok-store.ensures.idle c.new.ensures.requests
    asleep carries
    (subst (λ r. IfOk r (λ n. (ts : TypeList) → HasNoted (parts_of ts n) c.args.number c.in_ok-store.note.epoch y.kept None)) c.in-Ok.is
    (c.passive_ejects.ensures so) ts)
    (c.in_ok-store.ensures.up so s law epochs more some rests)

pub returns-in-Err-clause-falls : goal.returns-in-Err-clause-falls
returns-in-Err-clause-falls g c = λ so s law epochs more some rests.
    let y : Seen = g.St.Store.seen c.in_ok-store.store in
    inr (
      refl,
      boots-put g.St.Store.layout c.args.number more s (g.St.Device.Disk.told c.args.disk) (g.St.Device.Disk.counts c.args.disk).clock
          c.in_ok-store.note y (g.St.Device.Disk.counts c.close.result) (g.St.Device.Disk.told c.close.result)
          (ap (λ (d : DiskSeen). d.told) c.close.ensures) (ap (λ (d : DiskSeen). d.counts.clock) c.close.ensures)
          (c.in_ok-store.ensures.up so s law epochs more some rests),
    )

-- what its event shows of the disk
pub returns-in-Ok-clause-shows : goal.returns-in-Ok-clause-shows
returns-in-Ok-clause-shows g c = λ so.
    let of = disk_seen g.St.Device.Disk.counts g.St.Device.Disk.told g.St.Device.Disk.due in
    shows-boot g.St.Device.Disk.obeys c.args.number boot_end.Up c.in_ok-store.note (of c.args.disk)
    (g.St.Store.seen c.in_ok-store.store).disk
    c.in_ok-store.ensures.calls c.in_ok-store.ensures.obeyed tt

pub returns-in_err-store-clause-shows : goal.returns-in_err-store-clause-shows
returns-in_err-store-clause-shows g c = λ so.
    let of = disk_seen g.St.Device.Disk.counts g.St.Device.Disk.told g.St.Device.Disk.due in
    let p = err_from_is_err_and c.from_residual.result c.from_residual.ensures.1 in
    let fell = c.in_err-store.field-0.0 in
    rw (p.1, p.2) (shows-fall g.St.Device.Disk.obeys c.args.number fell.1.end fell.1.note (of c.args.disk) (of fell.0)
    c.in_err-store.ensures.calls c.in_err-store.ensures.obeyed (c.in_err-store.ensures.raises so))
