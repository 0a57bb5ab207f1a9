use Rattle.std.proofs.Common.{◌≡◌, false, Some, Ok, subst, ◌∙◌, ap, arith, ℕ, List}
use Rattle.passive_store.specs.Seen.{Seen, DiskSeen, Begins}
use Rattle.passive_store.specs.Kept.{finds_room}
use Rattle.journal.specs.Settling.{epoch_uid}
use Rattle.checkpoint.proofs.Epochs.{opens-telling, puts-from, puts-to, no-room, settled-number, settled-layout, settled-size}
use Rattle.std.proofs.Common.{refl}
use Rattle.checkpoint.proofs.Touching.{obeyed-none, obeyed-from, raises-from, raises-ran}
use Rattle.checkpoint.proofs.up.put_epoch.Goals as goal

pub returns-in-Ok-clause-puts : goal.returns-in-Ok-clause-puts
returns-in-Ok-clause-puts g c = λ so more s told clock p some number its_layout fits o.
    let x : Seen = g.St.Store.seen c.args.store.now in
    let m : Seen = g.St.Store.seen c.begin_put.new.self in
    let y : Seen = g.St.Store.seen c.finish.new.store in
    puts-to g.St.Store.layout c.args.node more c.args.epoch s told clock p x y c.finish.result number its_layout o
    (puts-from g.St.Device.Disk.tells g.St.Device.Disk.obeys g.St.Store.layout c.args.node c.args.epoch x m y tt c.finish.result so
    c.requires.node c.requires.idle (omega (arith, some, o.told))
    (opens-telling g.St.Store.layout c.args.node more s told clock p x fits o)
    (subst (λ (l : List ℕ). Begins g.St.Device.Disk.tells g.St.Store.layout (record { uid = epoch_uid c.args.node; body = Some l })
    (Ok tt) x m)
    c.epoch_bytes.ensures c.in-Ok.ensures) c.finish.ensures)

pub returns-in-Err-Full-clause-puts : goal.returns-in-Err-Full-clause-puts
returns-in-Err-Full-clause-puts g c = λ so more s told clock p some number its_layout fits o.
    let x : Seen = g.St.Store.seen c.args.store.now in
    let b = c.in-Err-Full.ensures in (
      record {
        work = b.work;
        kept = b.kept so;
        counts = ap (λ (d : DiskSeen). d.counts) b.disk;
        told = ap (λ (d : DiskSeen). d.told) b.disk;
      },
      no-room g.St.Store.layout c.args.node more c.args.epoch s told clock p x (settled-number p s ∙ number)
          (settled-layout p s ∙ its_layout)
          (settled-size p s ∙ o.its_size) o
          (subst (λ (l : List ℕ). finds_room g.St.Store.layout x.disk.counts.size x.kept (epoch_uid c.args.node) (Some l) ≡ false)
          c.epoch_bytes.ensures
          (b.full so (omega (arith, some, o.told)) c.in-Err-Full.field-0-is)),
    )

pub returns-in-Ok-clause-obeyed : goal.returns-in-Ok-clause-obeyed
returns-in-Ok-clause-obeyed g c = obeyed-from _ _ _ _ _ _ c.in-Ok.ensures.disk c.finish.ensures.goes.obeyed

pub returns-in-Ok-clause-raises : goal.returns-in-Ok-clause-raises
returns-in-Ok-clause-raises g c = raises-from _ _ _ _ c.in-Ok.ensures.disk (raises-ran (Unit {0}) _ _ _ _ _ c.finish.ensures.ran)

pub returns-in-Err-Full-clause-obeyed : goal.returns-in-Err-Full-clause-obeyed
returns-in-Err-Full-clause-obeyed g c = obeyed-none _ _ _ _ c.in-Err-Full.ensures.disk refl

pub returns-in-Err-OutOfMemory-clause-obeyed : goal.returns-in-Err-OutOfMemory-clause-obeyed
returns-in-Err-OutOfMemory-clause-obeyed g c = obeyed-none _ _ _ _ c.in-Err-OutOfMemory.ensures.disk refl
