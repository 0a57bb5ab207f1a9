use Rattle.active_part.specs.Bodies.{joined_body}
use Rattle.ejects.proofs.Leaving.{part-changed}
use Rattle.ejects.proofs.Ejects.join_active.Goals as goal

pub returns : goal.returns
returns c ts b is =
    part-changed ts c.args.self.now.table c.args.self.now.waiting.entries c.args.uid c.in-Some.part.now
    c.offer.new.self b
    (joined_body (record { call = c.args.call; class = c.args.class })) c.in-Some.ensures.value is (c.in_ok-offer-in-Some.ensures.after ts)
