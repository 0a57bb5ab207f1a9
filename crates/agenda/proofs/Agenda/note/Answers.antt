use Rattle.ejects.specs.Marks.{may_wake, may_start, may_run}
use Rattle.ejects.specs.Parts.{body_at}
use Rattle.ejects.specs.View.{parts_of}
use Rattle.active_part.proofs.Tasks.{on-ok}
use Rattle.agenda.proofs.Noted.{noted}
use Rattle.agenda.proofs.Agenda.note.Goals as goal

pub returns : goal.returns
returns c = on-ok c.set-3.result (λ at ts n is alike.
    let now = parts_of ts c.args.ejects.now in
    let a = c.args.self.now in
    let may = c.may-may in
    record {
      wake = noted a.wake.uids.entries c.set.new.self.uids.entries c.args.uid may.result.wake (may_wake n) (may_wake now)
          c.in_ok-set.ensures.at c.set.ensures.ascend is.wake (may.ensures.wake ts) alike.wake;
      start = noted a.start.uids.entries c.set-2.new.self.uids.entries c.args.uid may.result.start (λ u. may_start (body_at n u))
          (λ u. may_start (body_at now u)) c.in_ok-set-2.ensures.at c.set-2.ensures.ascend is.start (may.ensures.start ts) alike.start;
      run = noted a.run.uids.entries c.set-3.new.self.uids.entries c.args.uid may.result.run (λ u. may_run (body_at n u))
          (λ u. may_run (body_at now u)) at c.set-3.ensures.ascend is.run (may.ensures.run ts) alike.run;
    }) c.set-3.ensures.at
