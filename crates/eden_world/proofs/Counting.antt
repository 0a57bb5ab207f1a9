-- Calls that are asked meanwhile, as places change.
use Rattle.std.proofs.Common.{◌≡◌, ℕ, ◌∙◌, ap, length}
use Rattle.invocation.specs.Mail.{Mail}
use Rattle.ejects.specs.Counts.{AsksOneAtMost}
use Rattle.ejects.proofs.Counting.{none-one}
use Rattle.eden_world.specs.Seated.{TakesPlace}
use Rattle.eden_world.specs.declared.World.{World as Program}
use Rattle.eden_world.specs.declared.seats.Seat.{Seat as Place}

-- what stands at two places, one behind the other, leaves the calls
pub swapped-same : {T D : Type 0} (n m : ℕ) (a b : Place T D) (old mid new : Program T D) → TakesPlace n a old mid → TakesPlace m b mid new
    → new.calls ≡ old.calls
swapped-same n m a b old mid new first second = second.rest.calls ∙ first.rest.calls

-- where the calls are as they were, one is asked at most
pub same-one : (old new : Mail) → new ≡ old → AsksOneAtMost old new
same-one old new is = none-one old new (ap (λ (m : Mail). length m.calls) is)
