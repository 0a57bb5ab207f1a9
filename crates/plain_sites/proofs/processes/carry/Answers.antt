use Rattle.std.proofs.Common.{◌∙◌, ap, subst, sym}
use Rattle.std.specs.Prelude.{IfSome}
use Rattle.active_part.specs.View.{coordination_of}
use Rattle.journal.specs.Ejects.{on_active}
use Rattle.plain_ejects.specs.View.{eject_of}
use Rattle.plain_sites.specs.Turns.{MayDo, done_by}
use Rattle.plain_sites.proofs.processes.carry.Goals as goal

pub returns-in-Wait : goal.returns-in-Wait
returns-in-Wait c ts may = c.wait.ensures ts
    ∙ ap (λ d. on_active (done_by d c.args.process) (eject_of ts c.args.eject.now)) (sym c.in-Wait.is)

pub returns-in-Ask : goal.returns-in-Ask
returns-in-Ask c ts may = c.ask.ensures ts
    ∙ ap (λ d. on_active (done_by d c.args.process) (eject_of ts c.args.eject.now)) (sym c.in-Ask.is)

pub returns-in-Coordinate : goal.returns-in-Coordinate
returns-in-Coordinate c ts may = c.coordinate.ensures ts
    (subst (λ d. IfSome c.args.eject.now.part (λ it. MayDo d c.args.process (coordination_of it).crew)) c.in-Coordinate.is may)
    ∙ ap (λ d. on_active (done_by d c.args.process) (eject_of ts c.args.eject.now)) (sym c.in-Coordinate.is)

pub returns-in-Hear : goal.returns-in-Hear
returns-in-Hear c ts may = c.tell_at_once.ensures ts
    ∙ ap (λ d. on_active (done_by d c.args.process) (eject_of ts c.args.eject.now)) (sym c.in-Hear.is)
