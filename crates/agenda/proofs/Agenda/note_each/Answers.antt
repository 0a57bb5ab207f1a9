use Rattle.ejects.specs.View.{parts_of}
use Rattle.active_part.proofs.Tasks.{on-ok}
use Rattle.agenda.specs.Indexed.{indices_of}
use Rattle.agenda.specs.Marks.{marks_of}
use Rattle.agenda.proofs.Marked.{marks-are, marks-both}
use Rattle.agenda.proofs.Agenda.note_each.Goals as goal

pub returns : goal.returns
returns c = on-ok c.mark-2.result (λ second ts n is alike.
    marks-both (indices_of c.mark-2.new.self) n (parts_of ts c.args.ejects.now) c.args.one c.args.other
    (second ts _ (c.in_ok-mark.ensures ts (marks_of n) (marks-are (indices_of c.args.self.now) n is))) alike) c.mark-2.ensures
