use Rattle.passive_store.specs.Seen.{disk_seen}
use Rattle.twin_store.specs.Twins.{twin_seen}
use Rattle.twin_store.proofs.Choosing.{first_less, second_less, both_even}
use Rattle.twin_store.proofs.twin.TwinStore.copy_by.Goals as goal

pub returns-then-first-second-clause-levels : goal.returns-then-first-second-clause-levels
returns-then-first-second-clause-levels g c = λ so rest read.
    let of = twin_seen g.St.Store.seen (disk_seen g.St.Device.Disk.counts g.St.Device.Disk.told g.St.Device.Disk.due) in
    c.refill_first.ensures.levels so
    (first_less g.St.Store.layout c.args.first c.args.second (of c.args.self.now) rest read c.if-first-second.true)

pub returns-then-second-first-clause-levels : goal.returns-then-second-first-clause-levels
returns-then-second-first-clause-levels g c = λ so rest read.
    let of = twin_seen g.St.Store.seen (disk_seen g.St.Device.Disk.counts g.St.Device.Disk.told g.St.Device.Disk.due) in
    c.refill_second.ensures.levels so
    (second_less g.St.Store.layout c.args.first c.args.second (of c.args.self.now) rest read c.if-second-first.true)

pub returns-clause-levels : goal.returns-clause-levels
returns-clause-levels g c = λ so rest read.
    let of = twin_seen g.St.Store.seen (disk_seen g.St.Device.Disk.counts g.St.Device.Disk.told g.St.Device.Disk.due) in
    c.bring_second.ensures.levels so
    (both_even g.St.Store.layout c.args.first c.args.second (of c.args.self.now) rest read c.if-first-second.false c.if-second-first.false)
