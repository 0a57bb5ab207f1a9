use Rattle.std.proofs.Common.{sym, ◌∙◌, subst}
use Rattle.std.specs.Prelude.{IfSome}
use Rattle.std.specs.List.{Contains}
use Rattle.passive_store.specs.Seen.{disk_seen}
use Rattle.journal.specs.Enabled.{enabled}
use Rattle.eden_world.proofs.Due.{due-there}
use Rattle.eden_world.proofs.World.with_turn.Goals as goal

pub returns-in-Some-clause-same : goal.returns-in-Some-clause-same
returns-in-Some-clause-same g c = λ more w reached stands there.
    c.if_turn.ensures.same (due-there g.St.Device.Disk.tells g.St.Store.layout g.St.Store.seen
    (disk_seen g.St.Device.Disk.counts g.St.Device.Disk.told g.St.Device.Disk.due) c.args.self.now more w reached stands c.in-Some.key
    (subst (λ o. IfSome o (λ k. Contains (enabled w) k)) c.in-Some.is there)) ∙ sym c.in-Some.is
