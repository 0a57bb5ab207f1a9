use Rattle.std.proofs.Common.{refl, sym, subst}
use Rattle.std.specs.Prelude.{IfErr}
use Rattle.passive_store.specs.Seen.{disk_seen}
use Rattle.journal.specs.declared.command.Command.TheVariants as commands
use Rattle.checkpoint.proofs.Activations.{any-err}
use Rattle.eden_world.specs.Carried.{Starves}
use Rattle.eden_world.specs.Seated.{heeds}
use Rattle.eden_world.proofs.CarriedOut.{err-so, starves-so, still-starves}
use Rattle.eden_world.proofs.Untouched.{still-keeps}
use Rattle.journal.specs.Fit.{NumbersFit}
use Rattle.ejects.proofs.Counting.{any-on_ok}
use Rattle.eden_world.proofs.Counting.{same-one}
use Rattle.eden_world.proofs.World.carry.Goals as goal

-- the numbers of the command
pub cut_link-requires-clause-from : goal.cut_link-requires-clause-from
cut_link-requires-clause-from g c = (subst (NumbersFit 8) c.in-Cut.is c.requires.numbers).0

pub cut_link-requires-clause-to : goal.cut_link-requires-clause-to
cut_link-requires-clause-to g c = (subst (NumbersFit 8) c.in-Cut.is c.requires.numbers).1

pub join-requires-clause-from : goal.join-requires-clause-from
join-requires-clause-from g c = (subst (NumbersFit 8) c.in-Join.is c.requires.numbers).0

pub join-requires-clause-to : goal.join-requires-clause-to
join-requires-clause-to g c = (subst (NumbersFit 8) c.in-Join.is c.requires.numbers).1

pub restart-requires-clause-first : goal.restart-requires-clause-first
restart-requires-clause-first g c = (subst (NumbersFit 8) c.in-Restart.is c.requires.numbers).0

pub restart-requires-clause-last : goal.restart-requires-clause-last
restart-requires-clause-last g c = (subst (NumbersFit 8) c.in-Restart.is c.requires.numbers).1

pub arm-requires-clause-calls : goal.arm-requires-clause-calls
arm-requires-clause-calls g c = (subst (NumbersFit 8) c.in-Fail.is c.requires.numbers).1.0

pub arm-requires-in-Stop-clause-calls : goal.arm-requires-in-Stop-clause-calls
arm-requires-in-Stop-clause-calls g c = (subst (NumbersFit 8) c.in-Stop.is c.requires.numbers).1.0

pub returns-in-Create-clause-starved : goal.returns-in-Create-clause-starved
returns-in-Create-clause-starved g c = err-so c.create.result _ _
    (still-starves g.St.Device.Disk.tells g.St.Store.layout g.St.Store.seen
    (disk_seen g.St.Device.Disk.counts g.St.Device.Disk.told g.St.Device.Disk.due) c.args.self.now c.create.new.self c.args.command.now)
    c.create.ensures.starved

pub returns-in-Hold-clause-starved : goal.returns-in-Hold-clause-starved
returns-in-Hold-clause-starved g c = err-so c.hold.result _ _
    (still-starves g.St.Device.Disk.tells g.St.Store.layout g.St.Store.seen
    (disk_seen g.St.Device.Disk.counts g.St.Device.Disk.told g.St.Device.Disk.due) c.args.self.now c.hold.new.self c.args.command.now)
    c.hold.ensures.starved

pub returns-in-Call-clause-starved : goal.returns-in-Call-clause-starved
returns-in-Call-clause-starved g c = err-so c.call.result _ _
    (still-starves g.St.Device.Disk.tells g.St.Store.layout g.St.Store.seen
    (disk_seen g.St.Device.Disk.counts g.St.Device.Disk.told g.St.Device.Disk.due) c.args.self.now c.call.new.self c.args.command.now)
    c.call.ensures.starved

pub returns-in-Restrict-clause-starved : goal.returns-in-Restrict-clause-starved
returns-in-Restrict-clause-starved g c = err-so c.restrict.result _ _
    (still-starves g.St.Device.Disk.tells g.St.Store.layout g.St.Store.seen
    (disk_seen g.St.Device.Disk.counts g.St.Device.Disk.told g.St.Device.Disk.due) c.args.self.now c.restrict.new.self c.args.command.now)
    c.restrict.ensures.starved

pub returns-in-Join-clause-starved : goal.returns-in-Join-clause-starved
returns-in-Join-clause-starved g c = err-so c.join.result _ _
    (still-starves g.St.Device.Disk.tells g.St.Store.layout g.St.Store.seen
    (disk_seen g.St.Device.Disk.counts g.St.Device.Disk.told g.St.Device.Disk.due) c.args.self.now c.join.new.self c.args.command.now)
    c.join.ensures.starved

pub returns-in-Fail-clause-starved : goal.returns-in-Fail-clause-starved
returns-in-Fail-clause-starved g c = err-so c.arm.result _ _
    (still-starves g.St.Device.Disk.tells g.St.Store.layout g.St.Store.seen
    (disk_seen g.St.Device.Disk.counts g.St.Device.Disk.told g.St.Device.Disk.due) c.args.self.now c.arm.new.self c.args.command.now)
    c.arm.ensures.starved

pub returns-in-Stop-clause-starved : goal.returns-in-Stop-clause-starved
returns-in-Stop-clause-starved g c = err-so c.arm-in-Stop.result _ _
    (still-starves g.St.Device.Disk.tells g.St.Store.layout g.St.Store.seen
    (disk_seen g.St.Device.Disk.counts g.St.Device.Disk.told g.St.Device.Disk.due) c.args.self.now c.arm-in-Stop.new.self
    c.args.command.now) c.arm-in-Stop.ensures.starved

pub returns-in-End-clause-starved : goal.returns-in-End-clause-starved
returns-in-End-clause-starved g c = err-so c.end.result _ _
    (still-starves g.St.Device.Disk.tells g.St.Store.layout g.St.Store.seen
    (disk_seen g.St.Device.Disk.counts g.St.Device.Disk.told g.St.Device.Disk.due) c.args.self.now c.args.self.now c.args.command.now)
    c.end.ensures.starved

pub returns-in-Crash-clause-starved : goal.returns-in-Crash-clause-starved
returns-in-Crash-clause-starved g c = subst (λ k. IfErr c.crash.result
    (λ _. Starves g.St.Device.Disk.tells g.St.Store.layout g.St.Store.seen
    (disk_seen g.St.Device.Disk.counts g.St.Device.Disk.told g.St.Device.Disk.due) c.args.self.now c.crash.new.self k)) (sym c.in-Crash.is)
    (err-so c.crash.result _ _ (starves-so g.St.Device.Disk.tells g.St.Store.layout g.St.Store.seen
    (disk_seen g.St.Device.Disk.counts g.St.Device.Disk.told g.St.Device.Disk.due) c.args.self.now c.crash.new.self
    (commands.Crash c.in-Crash.node c.in-Crash.mode)) c.crash.ensures.starved)

pub returns-in-Cut-clause-starved : goal.returns-in-Cut-clause-starved
returns-in-Cut-clause-starved g c = subst (λ k. IfErr c.cut_link.result
    (λ _. Starves g.St.Device.Disk.tells g.St.Store.layout g.St.Store.seen
    (disk_seen g.St.Device.Disk.counts g.St.Device.Disk.told g.St.Device.Disk.due) c.args.self.now c.cut_link.new.self k)) (sym c.in-Cut.is)
    (err-so c.cut_link.result _ _ (starves-so g.St.Device.Disk.tells g.St.Store.layout g.St.Store.seen
    (disk_seen g.St.Device.Disk.counts g.St.Device.Disk.told g.St.Device.Disk.due) c.args.self.now c.cut_link.new.self
    (commands.Cut c.in-Cut.a c.in-Cut.b)) c.cut_link.ensures.starved)

pub returns-in-Restart-clause-starved : goal.returns-in-Restart-clause-starved
returns-in-Restart-clause-starved g c = subst (λ k. IfErr c.restart.result
    (λ _. Starves g.St.Device.Disk.tells g.St.Store.layout g.St.Store.seen
    (disk_seen g.St.Device.Disk.counts g.St.Device.Disk.told g.St.Device.Disk.due) c.args.self.now c.restart.new.self k))
    (sym c.in-Restart.is)
    c.restart.ensures.starved

pub returns-in-End-clause-leaves : goal.returns-in-End-clause-leaves
returns-in-End-clause-leaves g c = any-err c.end.result _ (still-keeps (heeds g.St.Device.Disk.tells g.St.Device.Disk.obeys) g.St.Store.seen
    (disk_seen g.St.Device.Disk.counts g.St.Device.Disk.told g.St.Device.Disk.due) c.args.self.now c.args.self.now c.requires.whole refl
    refl)

pub returns-in-End-clause-asks : goal.returns-in-End-clause-asks
returns-in-End-clause-asks g c = any-on_ok c.end.result (same-one c.args.self.now.calls c.args.self.now.calls refl)
