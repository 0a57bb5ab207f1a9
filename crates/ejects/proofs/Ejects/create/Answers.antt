use Rattle.edentypes.specs.View.{kind_in}
use Rattle.active_part.specs.View.{body_of}
use Rattle.ejects.proofs.Creating.{created}
use Rattle.ejects.proofs.Ejects.create.Goals as goal

pub returns : goal.returns
returns c s ready stands =
    let ts = c.args.types.now in
    created ts c.args.self.now c.enter_new.new.self s (kind_in ts c.args.kind) (body_of ts c.in_ok-part.part) c.in_ok-made.made ready stands
    c.in_ok-part.ensures (c.in_ok-made.ensures.made ts) (c.in_ok-made.ensures.parts ts)
