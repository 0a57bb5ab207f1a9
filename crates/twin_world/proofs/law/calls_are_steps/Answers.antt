use Rattle.twin_world.proofs.Bridging.{made-is-step, refused-is-step, found-is-step, unseen-is-step, closing-is-step}
use Rattle.twin_world.proofs.Opening.{opening-is-step, shut-is-step}
use Rattle.twin_world.proofs.law.calls_are_steps.Goals as goal

pub returns : goal.returns
returns c = record {
  made = made-is-step;
  refused = refused-is-step;
  found = found-is-step;
  unseen = unseen-is-step;
  closing = closing-is-step;
  opening = opening-is-step;
  shut = shut-is-step;
}
