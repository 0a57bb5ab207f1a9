use Rattle.std.proofs.Common.{◌∙◌, ap, sym}
use Rattle.std.specs.Option.{option_map}
use Rattle.eden_model.specs.Crew.{Invocation}
use Rattle.active_part.specs.Bodies.{ended_body, serves_of}
use Rattle.ejects.proofs.Leaving.{same-body, part-changed}
use Rattle.eden_model.specs.Crew.{Runs}
use Rattle.ejects.specs.View.{part_at}
use Rattle.ejects.proofs.Active.{may-none, may-part}
use Rattle.ejects.proofs.Ejects.end_at.Goals as goal

pub returns : goal.returns
returns c ts b is =
    let table = c.args.self.now.table in
    let same = same-body ts table c.args.uid c.in-Some.part.now b c.in-Some.ensures.value is in (
      c.end.ensures.call ts ∙ ap (λ y. option_map (λ (i : Invocation). i.call) (serves_of y c.args.process)) same,
      part-changed ts table c.args.self.now.waiting.entries c.args.uid c.in-Some.part.now c.end.new.self b
          (ended_body c.args.process)
          c.in-Some.ensures.value is (c.end.ensures.after ts),
    )

pub end-requires : goal.end-requires
end-requires c =
    may-part (λ crew queued. Runs crew c.args.process) (part_at c.args.self.now c.args.uid) c.in-Some.part.now
    c.in-Some.ensures.value c.requires

pub unreachable-requires : goal.unreachable-requires
unreachable-requires c =
    may-none (λ crew queued. Runs crew c.args.process) (part_at c.args.self.now c.args.uid) (sym c.in-None.ensures.value) c.requires
