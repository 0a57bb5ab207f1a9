use Rattle.std.proofs.Common.{subst, sym}
use Rattle.active_part.specs.Bodies.{crewed_body}
use Rattle.active_part.specs.Body.{Body}
use Rattle.active_part.specs.View.{stepped, MayTake}
use Rattle.ejects.proofs.Leaving.{part-changed, same-body}
use Rattle.eden_model.specs.Crew.{Runs}
use Rattle.ejects.specs.View.{part_at}
use Rattle.ejects.proofs.Active.{may-none, may-part}
use Rattle.ejects.proofs.Ejects.coordinate_at.Goals as goal

pub returns : goal.returns
returns c ts b is may =
    part-changed ts c.args.self.now.table c.args.self.now.waiting.entries c.args.uid c.in-Some.part.now
    c.coordinate.new.self b
    (crewed_body (stepped c.args.step c.args.process)) c.in-Some.ensures.value is (c.coordinate.ensures.after
    (subst (λ (x : Body). MayTake x.crew.crew c.args.process c.args.step)
    (sym (same-body ts c.args.self.now.table c.args.uid c.in-Some.part.now b c.in-Some.ensures.value is)) may) ts)

pub coordinate-requires : goal.coordinate-requires
coordinate-requires c =
    may-part (λ crew queued. Runs crew c.args.process) (part_at c.args.self.now c.args.uid) c.in-Some.part.now
    c.in-Some.ensures.value c.requires

pub unreachable-requires : goal.unreachable-requires
unreachable-requires c =
    may-none (λ crew queued. Runs crew c.args.process) (part_at c.args.self.now c.args.uid) (sym c.in-None.ensures.value) c.requires
