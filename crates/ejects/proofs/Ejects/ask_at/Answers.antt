use Rattle.std.proofs.Common.{sym}
use Rattle.active_part.specs.Bodies.{asking_body}
use Rattle.ejects.proofs.Leaving.{part-changed}
use Rattle.eden_model.specs.Crew.{Runs}
use Rattle.ejects.specs.View.{part_at}
use Rattle.ejects.proofs.Active.{may-none, may-part}
use Rattle.ejects.proofs.Ejects.ask_at.Goals as goal

pub returns : goal.returns
returns c ts b is =
    part-changed ts c.args.self.now.table c.args.self.now.waiting.entries c.args.uid c.in-Some.part.now
    c.ask.new.self b
    (asking_body c.args.process c.args.at_once) c.in-Some.ensures.value is (c.ask.ensures ts)

pub ask-requires : goal.ask-requires
ask-requires c =
    may-part (λ crew queued. Runs crew c.args.process) (part_at c.args.self.now c.args.uid) c.in-Some.part.now
    c.in-Some.ensures.value c.requires

pub unreachable-requires : goal.unreachable-requires
unreachable-requires c =
    may-none (λ crew queued. Runs crew c.args.process) (part_at c.args.self.now c.args.uid) (sym c.in-None.ensures.value) c.requires
