-- A place that takes another seat, as it is seen in hand.
use Rattle.std.proofs.Common.{◌≡◌, ℕ, Some, ◌∙◌, ap}
use Rattle.passive_store.specs.Seen.{Seen, DiskSeen}
use Rattle.shell_names.specs.Names.{meanings}
use Rattle.eden_world.specs.Worlds.{Seat}
use Rattle.eden_world.specs.Told.{Reseats}
use Rattle.eden_world.specs.InHand.{place_at, seen_at, in_hand}
use Rattle.eden_world.specs.Seated.{TakesPlace, instead}
use Rattle.eden_world.specs.declared.seats.Seat.{Seat as Place}
use Rattle.eden_world.specs.declared.World.{World as Program}

-- where something stood the new seat stands now
pub seat-there : {T D : Type 0} (old new : Program T D) (n : ℕ) (x y : Place T D) → TakesPlace n x old new → place_at old n ≡ Some y
    → place_at new n ≡ Some x
seat-there old new n x y takes there = takes.here ∙ ap (instead x) there

pub reseats : {T D : Type 0} (seen : T → Seen) (look : D → DiskSeen) (old new : Program T D) (n : ℕ) (x y : Place T D) (s : Seat)
    → TakesPlace n x old new → place_at old n ≡ Some y → seen_at seen look (Some x) ≡ Some s
    → Reseats n s (in_hand seen look old) (in_hand seen look new)
reseats seen look old new n x y s takes there is = record {
  types = takes.rest.types;
  here = ap (seen_at seen look) (seat-there old new n x y takes there) ∙ is;
  others = λ m apart. ap (seen_at seen look) (takes.others m apart);
  names = λ name. ap (λ ns. meanings ns name) takes.rest.names;
}
