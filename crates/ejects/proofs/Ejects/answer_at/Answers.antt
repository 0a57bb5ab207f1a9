use Rattle.std.proofs.Common.{sym}
use Rattle.active_part.specs.Bodies.{told_body}
use Rattle.ejects.proofs.Leaving.{part-changed}
use Rattle.eden_model.specs.Crew.{Runs}
use Rattle.ejects.specs.View.{part_at}
use Rattle.ejects.proofs.Active.{may-none, may-part}
use Rattle.ejects.proofs.Ejects.answer_at.Goals as goal

pub returns : goal.returns
returns c ts b is =
    part-changed ts c.args.self.now.table c.args.self.now.waiting.entries c.args.uid c.in-Some.part.now c.tell_at_once.new.self b
    (told_body c.args.process c.args.answer) c.in-Some.ensures.value is (c.tell_at_once.ensures ts)

pub tell_at_once-requires : goal.tell_at_once-requires
tell_at_once-requires c =
    may-part (λ crew queued. Runs crew c.args.process) (part_at c.args.self.now c.args.uid) c.in-Some.part.now
    c.in-Some.ensures.value c.requires

pub unreachable-requires : goal.unreachable-requires
unreachable-requires c =
    may-none (λ crew queued. Runs crew c.args.process) (part_at c.args.self.now c.args.uid) (sym c.in-None.ensures.value) c.requires
