use Rattle.std.proofs.Common.{sym, subst}
use Rattle.ejects.specs.Marks.{may_wake, may_start, may_run}
use Rattle.ejects.specs.Parts.{body_at}
use Rattle.ejects.specs.View.{parts_of}
use Rattle.active_part.proofs.Tasks.{on-ok}
use Rattle.agenda.specs.Indexed.{indices_of, is_it}
use Rattle.agenda.specs.Marks.{marks_of, HasMarks, marked}
use Rattle.agenda.proofs.Marked.{marked-one}
use Rattle.agenda.proofs.Agenda.mark.Goals as goal

pub returns-in_ok-set-in-Some-2 : goal.returns-in_ok-set-in-Some-2
returns-in_ok-set-in-Some-2 c = on-ok c.set-in-Some-2.result (λ at ts t is.
    let now = parts_of ts c.args.ejects.now in
    let a = c.args.self.now in
    let may = c.may-may in
    let u = c.in-Some.uid in
    subst (λ o. HasMarks (indices_of (record { wake = c.set.new.self; start = c.set-in-Some.new.self; run = c.set-in-Some-2.new.self }))
    (marked (is_it o) (marks_of now) t)) (sym c.in-Some.is) (record {
      wake = marked-one a.wake.uids.entries c.set.new.self.uids.entries u may.result.wake t.wake (may_wake now)
          c.in_ok-set-in-Some.ensures.at c.set.ensures.ascend is.wake (may.ensures.wake ts);
      start = marked-one a.start.uids.entries c.set-in-Some.new.self.uids.entries u may.result.start t.start
          (λ v. may_start (body_at now v)) c.in_ok-set-in-Some-2.ensures.at c.set-in-Some.ensures.ascend is.start (may.ensures.start ts);
      run = marked-one a.run.uids.entries c.set-in-Some-2.new.self.uids.entries u may.result.run t.run
          (λ v. may_run (body_at now v)) at c.set-in-Some-2.ensures.ascend is.run (may.ensures.run ts);
    })) c.set-in-Some-2.ensures.at

pub returns-in-None : goal.returns-in-None
returns-in-None c = λ ts t is.
    let a = indices_of c.args.self.now in
    subst (λ o. HasMarks a (marked (is_it o) (marks_of (parts_of ts c.args.ejects.now)) t)) (sym c.in-None.is)
    (record { wake = is.wake; start = is.start; run = is.run })
