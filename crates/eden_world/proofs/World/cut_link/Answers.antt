use Rattle.std.proofs.Common.{refl}
use Rattle.passive_store.specs.Seen.{disk_seen}
use Rattle.checkpoint.proofs.Activations.{any-err}
use Rattle.eden_world.specs.Seated.{heeds}
use Rattle.eden_world.proofs.CarriedOut.{cut-carried, cut-starved}
use Rattle.eden_world.proofs.Untouched.{level-keeps, level-shows}
use Rattle.ejects.proofs.Counting.{none-one}
use Rattle.eden_world.proofs.World.cut_link.Goals as goal

pub returns-in_err-broken-clause-starved : goal.returns-in_err-broken-clause-starved
returns-in_err-broken-clause-starved g c = any-err c.from_residual.result _
    (cut-starved g.St.Device.Disk.tells g.St.Store.layout g.St.Store.seen
    (disk_seen g.St.Device.Disk.counts g.St.Device.Disk.told g.St.Device.Disk.due) c.args.self.now c.cut.new.self _
    c.in_err-broken.ensures.disks)

pub returns-in_err-broken-clause-leaves : goal.returns-in_err-broken-clause-leaves
returns-in_err-broken-clause-leaves g c = any-err c.from_residual.result _ (level-keeps (heeds g.St.Device.Disk.tells g.St.Device.Disk.obeys) g.St.Store.seen
    (disk_seen g.St.Device.Disk.counts g.St.Device.Disk.told g.St.Device.Disk.due) c.args.self.now c.cut.new.self
    c.in_err-broken.ensures.seated
    c.in_err-broken.ensures.disks)

pub returns-clause-carried : goal.returns-clause-carried
returns-clause-carried g c = cut-carried g.St.Device.Disk.tells g.St.Store.layout g.St.Store.seen
    (disk_seen g.St.Device.Disk.counts g.St.Device.Disk.told g.St.Device.Disk.due) c.args.self.now c.cut.new.self c.args.a c.args.b
    c.in_ok-broken.broken _ c.in_ok-broken.ensures.cuts refl (record { node = refl; clock = refl; broken = refl })

pub returns-clause-shows : goal.returns-clause-shows
returns-clause-shows g c = level-shows (heeds g.St.Device.Disk.tells g.St.Device.Disk.obeys) g.St.Store.seen
    (disk_seen g.St.Device.Disk.counts g.St.Device.Disk.told g.St.Device.Disk.due) c.args.self.now c.cut.new.self _ _
    c.in_ok-broken.ensures.disks
    refl refl refl

pub returns-clause-asks : goal.returns-clause-asks
returns-clause-asks g c = none-one c.args.self.now.calls c.cut.new.self.calls c.in_ok-broken.ensures.asks
