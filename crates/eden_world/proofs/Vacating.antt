-- A node is taken from its place, and what is left of it is set there.
use Rattle.std.proofs.Common.{◌≡◌, ℕ, ◌==◌, false, Option, None, Some, refl, ◌∙◌, ap, unwrap_or}
use Rattle.scheduled_node.specs.declared.ScheduledNode.{ScheduledNode}
use Rattle.eden_world.specs.InHand.{place_at}
use Rattle.eden_world.specs.Seated.{TakesPlace, KeepsRest, instead, station_in}
use Rattle.eden_world.specs.declared.seats.Seat.{Seat as Place}
use Rattle.eden_world.specs.declared.seats.Seat.TheVariants as place
use Rattle.eden_world.specs.declared.World.{World as Program}
use Rattle.eden_world.proofs.Stationed.{station-up}

-- 1. What is at the place in the end

-- the seat that was taken is set again, as something else
pub back : {T D : Type 0} (old mid new : Program T D) (n : ℕ) (seat : Place T D) → TakesPlace n place.Moving old mid
    → TakesPlace n seat mid new → place_at new n ≡ instead seat (place_at old n)
back old mid new n seat out again = again.here ∙ ap (instead seat) out.here ∙ twice (place_at old n)
  where
    twice : (o : Option (Place _ _)) → instead seat (instead place.Moving o) ≡ instead seat o
    twice None = refl
    twice (Some x) = refl

pub others-stay : {T D : Type 0} (old mid new : Program T D) (n : ℕ) (a b : Place T D) → TakesPlace n a old mid → TakesPlace n b mid new
    → (m : ℕ) → (m == n) ≡ false → place_at new m ≡ place_at old m
others-stay old mid new n a b out again m apart = again.others m apart ∙ out.others m apart

pub rest-stays : {T D : Type 0} (old mid new : Program T D) → KeepsRest old mid → KeepsRest mid new → KeepsRest old new
rest-stays old mid new a b = record {
  count = b.count ∙ a.count;
  types = b.types ∙ a.types;
  calls = b.calls ∙ a.calls;
  places = b.places ∙ a.places;
  names = b.names ∙ a.names;
}

-- 2. A node that was up

pub was-up : {T D : Type 0} (o : Option (Place T D)) (taken : Place T D) (s : ScheduledNode T D) → taken ≡ unwrap_or o place.Moving
    → station_in o ≡ Some s → taken ≡ place.Up s
was-up o taken s is up = is ∙ ap (λ x. unwrap_or x place.Moving) (station-up o s up)

-- a seat that was set at a place that was there stands there
pub stands-there : {T D : Type 0} (o : Option (Place T D)) (seat : Place T D) (s : ScheduledNode T D) → station_in o ≡ Some s
    → instead seat o ≡ Some seat
stands-there o seat s up = ap (instead seat) (station-up o s up)

-- 3. Anything else

pub was-idle : {T D : Type 0} (o : Option (Place T D)) (taken : Place T D) → taken ≡ unwrap_or o place.Moving → station_in o ≡ None
    → station_in (Some taken) ≡ None
was-idle None taken is none = ap (λ x. station_in (Some x)) is
was-idle (Some x) taken is none = ap (λ y. station_in (Some y)) is ∙ none

pub stays-idle : {T D : Type 0} (o : Option (Place T D)) (taken seat : Place T D) → taken ≡ unwrap_or o place.Moving → seat ≡ taken
    → instead seat o ≡ o
stays-idle None taken seat is same = refl
stays-idle (Some x) taken seat is same = ap Some (same ∙ is)

-- 4. So no node is up there in the end

pub none-is-up : {T D : Type 0} (o : Option (Place T D)) (seat : Place T D)
    → ((s : ScheduledNode T D) → station_in o ≡ Some s → station_in (Some seat) ≡ None) → (station_in o ≡ None → instead seat o ≡ o)
    → station_in (instead seat o) ≡ None
none-is-up None seat was stays = refl
none-is-up (Some (place.Up s)) seat was stays = was s refl
none-is-up (Some (place.Down d doubt)) seat was stays = ap station_in (stays refl)
none-is-up (Some place.Moving) seat was stays = ap station_in (stays refl)

pub idle-behind : {T D : Type 0} (old mid new : Program T D) (n : ℕ) (taken seat : Place T D) → TakesPlace n place.Moving old mid
    → TakesPlace n seat mid new → taken ≡ unwrap_or (place_at old n) place.Moving
    → ((s : ScheduledNode T D) → taken ≡ place.Up s → station_in (Some seat) ≡ None) → (station_in (Some taken) ≡ None → seat ≡ taken)
    → station_in (place_at new n) ≡ None
idle-behind old mid new n taken seat out again is was stays =
    ap station_in (back old mid new n seat out again)
    ∙ none-is-up (place_at old n) seat (λ s up. was s (was-up (place_at old n) taken s is up))
    (λ none. stays-idle (place_at old n) taken seat is (stays (was-idle (place_at old n) taken is none)))
