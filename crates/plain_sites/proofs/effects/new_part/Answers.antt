use Rattle.std.proofs.Common.{◌∙◌, ap}
use Rattle.edentypes.specs.View.{kind_in}
use Rattle.journal.specs.Ejects.{fresh}
use Rattle.plain_sites.proofs.effects.new_part.Goals as goal

pub returns : goal.returns
returns c = record {
  active = c.in_ok-part.ensures.active ∙ ap (fresh (kind_in c.args.types.now c.args.kind)) c.in_ok-vars.ensures.same;
  queued = c.in_ok-part.ensures.queued;
}
