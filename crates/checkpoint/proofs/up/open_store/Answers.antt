use Rattle.std.proofs.Common.{refl}
use Rattle.eden_disk.specs.Told.{contents}
use Rattle.passive_store.specs.Seen.{Seen, DiskSeen, disk_seen}
use Rattle.checkpoint.proofs.BarredBoots.{falls-barred, not-barred}
use Rattle.checkpoint.proofs.Openings.{opens-to, refused-to, opened-once, refused-once, same-refusal}
use Rattle.std.proofs.Common.{Err}
use Rattle.checkpoint.proofs.Touching.{obeyed-as, raises-as, raises-made, opening-made}
use Rattle.checkpoint.proofs.up.open_store.Goals as goal

pub returns-in-Ok-clause-opened : goal.returns-in-Ok-clause-opened
returns-in-Ok-clause-opened g c = λ so s law more h.
    let x : DiskSeen = disk_seen g.St.Device.Disk.counts g.St.Device.Disk.told g.St.Device.Disk.due c.args.disk in
    opens-to g.St.Store.layout c.args.node more s c.args.noted x.told x.counts (g.St.Store.seen c.in-Ok.store) c.pick_of-pick.result law h
    (c.pick_of-pick.ensures so)
    (opened-once _ _ g.St.Store.layout c.args.node x _ (g.St.Store.seen c.in-Ok.store) so
    (c.size-size.ensures.whole so) c.in-Ok.ensures.opens refl)

pub returns-in-Err-clause-refused : goal.returns-in-Err-clause-refused
returns-in-Err-clause-refused g c = λ so s more h.
    let x : DiskSeen = disk_seen g.St.Device.Disk.counts g.St.Device.Disk.told g.St.Device.Disk.due c.args.disk in
    let y : DiskSeen = disk_seen g.St.Device.Disk.counts g.St.Device.Disk.told g.St.Device.Disk.due c.in-Err.disk in
    refused-to _ g.St.Store.layout c.args.node more s c.args.noted x.told x.counts c.in-Err.refusal y.told y.counts h
    (refused-once _ _ g.St.Store.layout c.args.node x y c.in-Err.refusal so (c.size-size.ensures.whole so)
    (λ none. same-refusal g.St.Store.seen c.in-Err.disk c.args.disk c.in-Err.refusal _ (c.in-Err.ensures.size none)) c.in-Err.ensures.opens)

pub returns-in-Ok-clause-barred : goal.returns-in-Ok-clause-barred
returns-in-Ok-clause-barred g c = λ so s law bar h.
    let x : DiskSeen = disk_seen g.St.Device.Disk.counts g.St.Device.Disk.told g.St.Device.Disk.due c.args.disk in
    not-barred g.St.Store.layout c.args.node bar (contents x.told).now (g.St.Store.seen c.in-Ok.store).kept
    (h.stands (contents x.told).now (c.size-size.ensures.whole so))
    (c.in-Ok.ensures.opens.map so) (c.in-Ok.ensures.opens.full so)

pub returns-in-Err-clause-barred : goal.returns-in-Err-clause-barred
returns-in-Err-clause-barred g c = λ so s law bar h.
    let x : DiskSeen = disk_seen g.St.Device.Disk.counts g.St.Device.Disk.told g.St.Device.Disk.due c.args.disk in
    let y : DiskSeen = disk_seen g.St.Device.Disk.counts g.St.Device.Disk.told g.St.Device.Disk.due c.in-Err.disk in
    falls-barred Seen g.St.Store.layout c.args.node s bar x.told x.counts c.in-Err.refusal y.told y.counts law h
    (refused-once _ _ g.St.Store.layout c.args.node x y c.in-Err.refusal so (c.size-size.ensures.whole so)
    (λ none. same-refusal g.St.Store.seen c.in-Err.disk c.args.disk c.in-Err.refusal _ (c.in-Err.ensures.size none)) c.in-Err.ensures.opens)

pub returns-in-Ok-clause-obeyed : goal.returns-in-Ok-clause-obeyed
returns-in-Ok-clause-obeyed g c = c.in-Ok.ensures.opens.obeyed

pub returns-in-Err-clause-obeyed : goal.returns-in-Err-clause-obeyed
returns-in-Err-clause-obeyed g c = obeyed-as Seen _ _ _ _ _ c.in-Err.refusal c.in-Err.refusal refl c.in-Err.ensures.opens.obeyed

pub returns-in-Err-clause-raises : goal.returns-in-Err-clause-raises
returns-in-Err-clause-raises g c = λ so.
    let o = c.in-Err.ensures.opens in
    raises-as Seen _ _ c.in-Err.refusal c.in-Err.refusal refl
    (raises-made o.made _ _ _ (opening-made Seen _ o.made (Err c.in-Err.refusal) (o.number so)) o.counts)
