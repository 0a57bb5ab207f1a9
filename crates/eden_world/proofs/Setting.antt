-- What was taken from a place and set there again, as one change.
use Rattle.std.proofs.Common.{◌≡◌, ◌==◌, ℕ, Bool, true, false, Option, None, Some, refl, sym, ◌∙◌, ap, subst, unwrap_or}
use Rattle.std.specs.Option.{option_map}
use Rattle.std.proofs.lemmas.Bool.{eqb-true}
use Rattle.passive_store.specs.Seen.{Seen, DiskSeen}
use Rattle.scheduled_node.specs.declared.ScheduledNode.{ScheduledNode}
use Rattle.eden_world.specs.InHand.{IsWholeAt, in_hand, place_at, seen_at}
use Rattle.eden_world.specs.Seated.{AreSeated, FitsTogether, TakesPlace, instead}
use Rattle.eden_world.specs.Steps.{disk_of}
use Rattle.eden_world.specs.Told.{SameDisks}
use Rattle.eden_world.specs.declared.seats.Seat.{Seat as Place}
use Rattle.eden_world.specs.declared.seats.Seat.TheVariants as place
use Rattle.eden_world.specs.declared.World.{World as Program}
use Rattle.eden_world.proofs.Seating.{places-behind, whole-behind}
use Rattle.eden_world.proofs.Vacating.{back, others-stay, rest-stays, stays-idle}

-- 1. One change

pub set-again : {T D : Type 0} (old mid new : Program T D) (n : ℕ) (x : Place T D) → TakesPlace n place.Moving old mid
    → TakesPlace n x mid new → TakesPlace n x old new
set-again old mid new n x out again = record {
  here = back old mid new n x out again;
  others = others-stay old mid new n place.Moving x out again;
  rest = rest-stays old mid new out.rest again.rest;
}

-- what was taken is set back
pub set-back : {T D : Type 0} (old mid new : Program T D) (n : ℕ) (taken : Place T D) → taken ≡ unwrap_or (place_at old n) place.Moving
    → TakesPlace n place.Moving old mid → TakesPlace n taken mid new → (m : ℕ) → place_at new m ≡ place_at old m
set-back old mid new n taken is out again m = go (m == n) refl
  where
    go : (b : Bool) → (m == n) ≡ b → place_at new m ≡ place_at old m
    go true same = let at : m ≡ n = eqb-true m n same in
        subst (λ j. place_at new j ≡ place_at old j) (sym at)
        (back old mid new n taken out again ∙ stays-idle (place_at old n) taken taken is refl)
    go false other = others-stay old mid new n place.Moving taken out again m other

-- 2. The whole

set-so : {T D : Type 0} (o : Option (Place T D)) (x y : Place T D) → instead x o ≡ Some y → x ≡ y
set-so None x y is = absurd (cc is)
set-so (Some z) x y is = cc is

pub set-seated : {T D : Type 0} (old new : Program T D) (n : ℕ) (x : Place T D) → TakesPlace n x old new → (x ≡ place.Moving → ⊥)
    → AreSeated old → AreSeated new
set-seated old new n x takes still seated m at = go (m == n) refl
  where
    go : (b : Bool) → (m == n) ≡ b → ⊥
    go true same = still (set-so (place_at old n) x place.Moving
        (sym takes.here ∙ subst (λ j. place_at new j ≡ Some place.Moving) (eqb-true m n same) at))
    go false other = seated m (sym (takes.others m other) ∙ at)

pub set-fits : {T D : Type 0} (seen : T → Seen) (old new : Program T D) (n : ℕ) (x : Place T D) → TakesPlace n x old new
    → (x ≡ place.Moving → ⊥) → ((s : ScheduledNode T D) → x ≡ place.Up s → IsWholeAt seen n s) → FitsTogether seen old
    → FitsTogether seen new
set-fits seen old new n x takes still whole fits = record {
  nodes = whole-behind seen old new n takes.others
      (λ s at. whole s (set-so (place_at old n) x (place.Up s) (sym takes.here ∙ at))) fits.nodes;
  places = places-behind old new takes.rest fits.places;
  seated = set-seated old new n x takes still fits.seated;
}

-- 3. The disks

-- another seat with the same disk
pub set-level : {T D : Type 0} (seen : T → Seen) (look : D → DiskSeen) (old new : Program T D) (n : ℕ) (x y : Place T D)
    → place_at old n ≡ Some x → TakesPlace n y old new
    → option_map disk_of (seen_at seen look (Some y)) ≡ option_map disk_of (seen_at seen look (Some x))
    → SameDisks (in_hand seen look old) (in_hand seen look new)
set-level seen look old new n x y was takes same m = go (m == n) refl
  where
    go : (b : Bool) → (m == n) ≡ b
        → option_map disk_of (seen_at seen look (place_at new m)) ≡ option_map disk_of (seen_at seen look (place_at old m))
    go true is = let at : m ≡ n = eqb-true m n is in
        subst (λ j. option_map disk_of (seen_at seen look (place_at new j)) ≡ option_map disk_of (seen_at seen look (place_at old j)))
        (sym at) (ap (λ o. option_map disk_of (seen_at seen look o)) (takes.here ∙ ap (instead y) was) ∙ same
        ∙ sym (ap (λ o. option_map disk_of (seen_at seen look o)) was))
    go false other = ap (λ o. option_map disk_of (seen_at seen look o)) (takes.others m other)

pub places-level : {T D : Type 0} (seen : T → Seen) (look : D → DiskSeen) (old new : Program T D)
    → ((m : ℕ) → place_at new m ≡ place_at old m) → SameDisks (in_hand seen look old) (in_hand seen look new)
places-level seen look old new same m = ap (λ o. option_map disk_of (seen_at seen look o)) (same m)

pub places-seated : {T D : Type 0} (old new : Program T D) → ((m : ℕ) → place_at new m ≡ place_at old m) → AreSeated old → AreSeated new
places-seated old new same seated m at = seated m (sym (same m) ∙ at)
