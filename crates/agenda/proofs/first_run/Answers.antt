use Rattle.std.proofs.Common.{Some, sym, ap, ◌∙◌}
use Rattle.std.specs.Option.{option_map}
use Rattle.journal.specs.Enabled.{activity}
use Rattle.ejects.specs.View.{parts_of}
use Rattle.agenda.proofs.Runs.{first-run}
use Rattle.agenda.proofs.first_run.Goals as goal

pub returns-in-Some-next_ready : goal.returns-in-Some-next_ready
returns-in-Some-next_ready c = λ ts at.
    ap Some c.key_of.ensures ∙ ap (option_map (activity c.args.station 4 c.in-Some.uid)) (sym c.in-Some-next_ready.is)
    ∙ first-run c.args.station (parts_of ts c.args.ejects.now) c.args.uid c.in-Some.uid c.next_ready.result c.in-Some.is at
    (c.next_ready.ensures.ascend ts) (c.next_ready.ensures.next ts)

pub returns-in-None-next_ready : goal.returns-in-None-next_ready
returns-in-None-next_ready c = λ ts at.
    ap (option_map (activity c.args.station 4 c.in-Some.uid)) (sym c.in-None-next_ready.is)
    ∙ first-run c.args.station (parts_of ts c.args.ejects.now) c.args.uid c.in-Some.uid c.next_ready.result c.in-Some.is at
    (c.next_ready.ensures.ascend ts) (c.next_ready.ensures.next ts)
