use Rattle.std.proofs.Common.{Continue, ap, ◌∙◌, arith}
use Rattle.agenda.proofs.AtPlaces.{first-place, later-place}
use Rattle.agenda.proofs.places.key_or_left.Goals as goal

pub returns-in-Some : goal.returns-in-Some
returns-in-Some c = ap Continue c.in-Some.ensures.1 ∙ later-place c.args.key c.args.place c.in-Some.ensures.0

pub returns-in-None : goal.returns-in-None
returns-in-None c = first-place c.args.key c.args.place (omega (arith, c.in-None.ensures))
