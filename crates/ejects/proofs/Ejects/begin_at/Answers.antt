use Rattle.std.proofs.Common.{◌≡◌, subst, sym}
use Rattle.active_part.specs.View.{body_of, IsStarted}
use Rattle.ejects.proofs.Leaving.{same-body, part-written}
use Rattle.std.specs.Prelude.{IsSome}
use Rattle.eden_model.specs.Crew.{startable}
use Rattle.ejects.specs.View.{part_at}
use Rattle.ejects.proofs.Active.{may-none, may-part}
use Rattle.ejects.proofs.Ejects.begin_at.Goals as goal

pub returns : goal.returns
returns c b is =
    let ts = c.args.types.now in
    let table = c.args.self.now.table in
    let same : body_of ts c.in-Some.part.now ≡ b = same-body ts table c.args.uid c.in-Some.part.now b c.in-Some.ensures.value is in (
      body_of ts c.start.new.self,
      subst (λ y. IsStarted y (body_of ts c.start.new.self) c.args.asked.now c.in_ok-started-in-Some.started) same
          c.in_ok-started-in-Some.ensures.started,
      part-written ts table c.args.self.now.waiting.entries c.args.uid c.start.new.self,
    )

pub start-requires : goal.start-requires
start-requires c = record {
  may = may-part (λ crew queued. IsSome (startable crew queued)) (part_at c.args.self.now c.args.uid) c.in-Some.part.now
      c.in-Some.ensures.value c.requires;
}

pub unreachable-requires : goal.unreachable-requires
unreachable-requires c =
    may-none (λ crew queued. IsSome (startable crew queued)) (part_at c.args.self.now c.args.uid) (sym c.in-None.ensures.value) c.requires
