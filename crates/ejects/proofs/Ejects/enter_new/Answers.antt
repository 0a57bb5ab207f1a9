use Rattle.ejects.proofs.Creating.{entered}
use Rattle.ejects.proofs.Ejects.enter_new.Goals as goal

pub returns-in-Ok-clause-parts : goal.returns-in-Ok-clause-parts
returns-in-Ok-clause-parts c ts =
    entered ts c.args.self.now.table c.create.new.self c.args.self.now.waiting.entries c.in-Ok.uid c.args.part c.in-Ok.ensures.cases
