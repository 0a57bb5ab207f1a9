use Rattle.std.proofs.Common.{◌∙◌, ap, sym, subst}
use Rattle.journal.specs.Processes.{turn_of}
use Rattle.active_part.specs.Body.{active_of}
use Rattle.active_part.specs.Bodies.{turned_body}
use Rattle.eden_model.specs.Crew.{Coordination, Runs}
use Rattle.ejects.specs.View.{part_at}
use Rattle.ejects.proofs.Active.{may-none, may-part, written-may}
use Rattle.ejects.proofs.Leaving.{same-body, part-changed}
use Rattle.ejects.proofs.Ejects.turn_at.Goals as goal

pub unreachable-requires : goal.unreachable-requires
unreachable-requires c =
    may-none (λ crew queued. Runs crew c.args.process) (part_at c.args.self.now c.args.uid) (sym c.in-None.ensures.value) c.requires

pub returns-clause-runs : goal.returns-clause-runs
returns-clause-runs c =
    written-may (λ crew queued. Runs crew c.args.process) c.args.self.now.table c.args.uid c.turn.new.self
    (subst (λ (it : Coordination). Runs it.crew c.args.process) (sym c.turn.ensures.crew)
    (may-part (λ crew queued. Runs crew c.args.process) (part_at c.args.self.now c.args.uid) c.in-Some.part.now
    c.in-Some.ensures.value c.requires))

pub returns-clause-turned : goal.returns-clause-turned
returns-clause-turned c b t is turns =
    let ts = c.args.types.now in
    let table = c.args.self.now.table in
    let same = same-body ts table c.args.uid c.in-Some.part.now b c.in-Some.ensures.value is in
    let r = c.in_ok-effect-in-Some.ensures.turned t (ap (λ y. turn_of c.args.uid (active_of y) c.args.process) same ∙ turns) in (
      r.0,
      part-changed ts table c.args.self.now.waiting.entries c.args.uid c.in-Some.part.now c.turn.new.self b
          (turned_body c.args.process t)
          c.in-Some.ensures.value is r.1,
    )
