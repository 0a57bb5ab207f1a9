use Rattle.std.proofs.Common.{Some, ap, ◌∙◌}
use Rattle.edentypes.proofs.Places.{at_name, no_name}
use Rattle.edentypes.proofs.find.Goals as goal

pub returns-in-Some : goal.returns-in-Some
returns-in-Some c =
    ap Some c.kind_at.ensures ∙ at_name c.args.types.now c.args.name.now c.find.result c.in-Some.place c.find.ensures.place c.in-Some.is

pub returns-in-None : goal.returns-in-None
returns-in-None c = no_name c.args.types.now c.args.name.now c.find.result c.find.ensures.place c.in-None.is
