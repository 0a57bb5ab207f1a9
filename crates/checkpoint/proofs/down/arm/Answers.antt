use Rattle.checkpoint.proofs.Crashing.{same-now, still-so}
use Rattle.checkpoint.proofs.down.arm.Goals as goal

pub returns-clause-stands : goal.returns-clause-stands
returns-clause-stands g c = λ so s requests h.
    let f = c.disk_mut_arm.ensures in
    same-now _ _ _ s requests (g.St.Store.seen c.args.store.now) (g.St.Store.seen c.disk_mut_arm.new.self) f.node f.work
    (f.kept so) f.more f.counts f.told h

pub returns-clause-disk : goal.returns-clause-disk
returns-clause-disk g c = λ so s requests h.
    still-so g.St.Store.layout _ s requests (g.St.Store.seen c.args.store.now) (g.St.Store.seen c.disk_mut_arm.new.self).disk.counts
    (g.St.Store.seen c.disk_mut_arm.new.self).disk.told h c.disk_mut_arm.ensures.counts c.disk_mut_arm.ensures.told
