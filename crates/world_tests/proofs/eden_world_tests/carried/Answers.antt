use Rattle.std.proofs.Common.{◌∙◌, ap, subst, sym}
use Rattle.eden_world.specs.Seated.{IsSeated}
use Rattle.world_tests.proofs.eden_world_tests.carried.Goals as goal

pub close-requires-clause-seated : goal.close-requires-clause-seated
close-requires-clause-seated g c =
    subst (λ w. IsSeated w) (sym (c.into_parts-world.ensures.machine ∙ ap (λ r. r.machine) c.into_inner.ensures))
    (record { places = c.carry.ensures.places; seated = c.carry.ensures.seated })
