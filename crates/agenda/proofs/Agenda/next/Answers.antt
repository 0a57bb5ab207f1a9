use Rattle.std.proofs.Common.{sym, ◌∙◌}
use Rattle.journal.specs.Enabled.{is_past}
use Rattle.ejects.specs.View.{parts_of}
use Rattle.agenda.specs.Indexed.{indices_of}
use Rattle.agenda.proofs.Nexts.{by-wake, by-start, by-run, by-store}
use Rattle.agenda.proofs.Agenda.next.Goals as goal

pub returns-in-Some : goal.returns-in-Some
returns-in-Some c = λ ts s sound h is works waits.
    by-wake (parts_of ts c.args.ejects.now) (indices_of c.args.self.now) s sound h is c.args.worked c.args.pending works waits
    c.number-station.result c.number-station.ensures.value (is_past c.args.last) c.in-Some.key (sym c.next_wake.ensures ∙ c.in-Some.is)

pub returns-in-Some-next_start : goal.returns-in-Some-next_start
returns-in-Some-next_start c = λ ts s sound h is works waits.
    by-start (parts_of ts c.args.ejects.now) (indices_of c.args.self.now) s sound h is c.args.worked c.args.pending works waits
    c.number-station.result c.number-station.ensures.value (is_past c.args.last) (sym c.next_wake.ensures ∙ c.in_default.is)
    c.in-Some-next_start.key (sym c.next_start.ensures ∙ c.in-Some-next_start.is)

pub returns-in-Some-next_run : goal.returns-in-Some-next_run
returns-in-Some-next_run c = λ ts s sound h is works waits.
    let n = parts_of ts c.args.ejects.now in
    let a = indices_of c.args.self.now in
    by-run n a s sound h is c.args.worked c.args.pending works waits
    c.number-station.result c.number-station.ensures.value (is_past c.args.last) (sym c.next_wake.ensures ∙ c.in_default.is)
    (sym c.next_start.ensures ∙ c.in_default-next_start.is) c.next_run.result (c.next_run.ensures ts is.run) c.in-Some-next_run.key
    c.in-Some-next_run.is

pub returns : goal.returns
returns c = λ ts s sound h is works waits.
    let n = parts_of ts c.args.ejects.now in
    let a = indices_of c.args.self.now in
    by-store n a s sound h is c.args.worked c.args.pending works waits
    c.number-station.result c.number-station.ensures.value (is_past c.args.last) (sym c.next_wake.ensures ∙ c.in_default.is)
    (sym c.next_start.ensures ∙ c.in_default-next_start.is) c.next_run.result (c.next_run.ensures ts is.run) c.in_default-next_run.is
    c.next_store.result c.next_store.ensures
