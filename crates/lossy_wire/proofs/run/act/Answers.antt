use Rattle.std.proofs.Common.{ap, sym, subst}
use Rattle.std.specs.Prelude.{OnOk}
use Rattle.eden_value.specs.View.{datum}
use Rattle.lossy_wire.specs.Commands.{Command}
use Rattle.lossy_wire.specs.Spots.{IsCommandAt}
use Rattle.lossy_wire.specs.Texts.{next}
use Rattle.lossy_wire.specs.View.{meant}
use Rattle.lossy_wire.specs.World.{IsOf, OfAny}
use Rattle.lossy_wire.proofs.Slots.{on_ok}
use Rattle.lossy_wire.proofs.run.act.Goals as goal

pub returns-in-Send-clause-world : goal.returns-in-Send-clause-world
returns-in-Send-clause-world c =
    let s = c.args.script in
    subst (λ (m : Command). OnOk c.send.result (OfAny s c.args.world.now (λ w. IsOf s c.send.new.world (next w m))))
    (sym (ap meant c.in-Send.is))
    (on_ok c.send.result _ _ (λ h. h s (datum c.in-Send.value) (subst (IsCommandAt s c.args.spot) (ap meant c.in-Send.is)
    c.requires.there)) c.send.ensures)
