use Rattle.ejects.specs.View.{parts_of}
use Rattle.ejects.proofs.Returning.{returned-some, returned-none}
use Rattle.ejects.proofs.Ejects.returns.Goals as goal

pub returns-in_ok-send_results-in-Some-clause-returned : goal.returns-in_ok-send_results-in-Some-clause-returned
returns-in_ok-send_results-in-Some-clause-returned c ts b is =
    let r = c.end_at.ensures ts b is in
    returned-some c.args.uid c.args.process c.args.results b (parts_of ts c.args.self.now) (parts_of ts c.end_at.new.self)
    c.args.calls.now c.send_results.new.calls
    c.end_at.result c.in-Some.call r.0 c.in-Some.is r.1 c.in_ok-send_results-in-Some.ensures.model

pub returns-in-None-clause-returned : goal.returns-in-None-clause-returned
returns-in-None-clause-returned c ts b is =
    let r = c.end_at.ensures ts b is in
    returned-none c.args.uid c.args.process c.args.results b (parts_of ts c.args.self.now) (parts_of ts c.end_at.new.self) c.args.calls.now
    c.end_at.result r.0 c.in-None.is r.1
