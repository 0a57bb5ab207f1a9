-- What was taken from a place.
use Rattle.std.proofs.Common.{◌≡◌, ◌≢◌, Option, None, Some, refl}
use Rattle.std.specs.Prelude.{IsSome, unwrap_or}
use Rattle.passive_store.specs.declared.store.Doubt.{Doubt}
use Rattle.scheduled_node.specs.declared.ScheduledNode.{ScheduledNode}
use Rattle.eden_world.specs.Seated.{station_in}
use Rattle.eden_world.specs.declared.seats.Seat.{Seat as Place}
use Rattle.eden_world.specs.declared.seats.Seat.TheVariants as place

-- where no node is up there and none moves, a disk is taken
pub taken-down : {T D : Type 0} (o : Option (Place T D)) (r : Place T D) → r ≡ unwrap_or o place.Moving → IsSome o
    → station_in o ≡ None → o ≢ Some place.Moving → (d : D) × (doubt : Option Doubt) × (r ≡ place.Down d doubt)
taken-down None r is some none still = absurd (cc some)
taken-down (Some (place.Up s)) r is some none still = absurd (cc none)
taken-down (Some (place.Down d doubt)) r is some none still = (d, doubt, is)
taken-down (Some place.Moving) r is some none still = absurd (still refl)

-- where a node is up there, it is taken
pub taken-node : {T D : Type 0} (o : Option (Place T D)) (r : Place T D) → r ≡ unwrap_or o place.Moving → IsSome (station_in o)
    → (s : ScheduledNode T D) × (r ≡ place.Up s)
taken-node None r is up = absurd (cc up)
taken-node (Some (place.Up s)) r is up = (s, is)
taken-node (Some (place.Down d doubt)) r is up = absurd (cc up)
taken-node (Some place.Moving) r is up = absurd (cc up)
