-- The places before the first event and at the end.
use Rattle.std.proofs.Common.{◌≡◌, ◌≢◌, ◌==◌, true, ℕ, zero, suc, ◌≤◌, List, [], ◌∷◌, map, length, Option, None, Some, refl, sym, ◌∙◌, ap}
use Rattle.std.specs.Prelude.{slice_get}
use Rattle.std.specs.List.{filter_map}
use Rattle.std.specs.Option.{option_map}
use Rattle.std.proofs.lemmas.List.{length-map}
use Rattle.epl_syntax.specs.Rules.OfTypes.{TypeList}
use Rattle.passive_store.specs.Seen.{Seen, DiskSeen}
use Rattle.invocation.specs.Carries.{Carries, no_traffic}
use Rattle.locator.specs.Reach.{up_at, joined_at}
use Rattle.shell_names.specs.Names.{meanings}
use Rattle.scheduled_node.specs.declared.ScheduledNode.{ScheduledNode}
use Rattle.eden_world.specs.Steps.{disk_of}
use Rattle.eden_world.specs.InHand.{place_at, seen_at, AreWhole, HaveAgendas}
use Rattle.eden_world.specs.Seated.{AreGiven, AreSeated, Begins, FitsTogether, HasPlaces, IsSeated, first_place, shown_in}
use Rattle.eden_world.specs.declared.seats.Seat.{Seat as Place}
use Rattle.eden_world.specs.declared.seats.Seat.TheVariants as place
use Rattle.eden_world.specs.declared.World.{World as Program}

-- 1. Nothing is left

pub nothing-left : {X : Type 0} (l : List X) → length l ≡ 0 → l ≡ []
nothing-left [] h = refl
nothing-left (x ∷ xs) h = absurd (cc h)

-- 2. The first places

pub mapped-get : {X Y : Type 0} (f : X → Y) (xs : List X) (n : ℕ) → option_map f (slice_get xs n) ≡ slice_get (map f xs) n
mapped-get f [] n = refl
mapped-get f (x ∷ xs) zero = refl
mapped-get f (x ∷ xs) (suc n) = mapped-get f xs n

pub first-there : {T D : Type 0} (p : Program T D) (disks : List D) → p.seats.items ≡ map (λ d. place.Down d None) disks → (n : ℕ)
    → place_at p n ≡ first_place disks n
first-there p disks is zero = refl
first-there p disks is (suc n) = ap (λ seats. slice_get seats n) is ∙ sym (mapped-get (λ d. place.Down d None) disks n)

-- the place of a disk whose node is down
abbrev pub seat-of : {T D : Type 0} → D → Place T D
seat-of d = place.Down d None

-- no node is up there
pub first-down : {T D : Type 0} (disks : List D) (n : ℕ) (s : ScheduledNode T D)
    → first_place {T = T} {D = D} disks n ≡ Some (place.Up s) → ⊥
first-down disks zero s is = cc is
first-down {T = T} {D = D} disks (suc n) s is = go (slice_get disks n) is
  where
    go : (o : Option D) → option_map (seat-of {T = T} {D = D}) o ≡ Some (place.Up s) → ⊥
    go None is = cc is
    go (Some d) is = cc is

-- and none comes up or goes down
pub first-rests : {T D : Type 0} (disks : List D) (n : ℕ) → first_place {T = T} {D = D} disks n ≡ Some place.Moving → ⊥
first-rests disks zero is = cc is
first-rests {T = T} {D = D} disks (suc n) is = go (slice_get disks n) is
  where
    go : (o : Option D) → option_map (seat-of {T = T} {D = D}) o ≡ Some place.Moving → ⊥
    go None is = cc is
    go (Some d) is = cc is

-- 3. The disks at the end

shown-there : {T D : Type 0} (seen : T → Seen) (look : D → DiskSeen) (seats : List (Place T D))
    → ((n : ℕ) → slice_get seats n ≢ Some place.Moving) → (n : ℕ)
    → slice_get (filter_map (shown_in seen look) seats) n ≡ option_map disk_of (seen_at seen look (slice_get seats n))
shown-there seen look [] still n = refl
shown-there seen look (place.Up s ∷ seats) still zero = refl
shown-there seen look (place.Up s ∷ seats) still (suc n) = shown-there seen look seats (λ m. still (suc m)) n
shown-there seen look (place.Down d doubt ∷ seats) still zero = refl
shown-there seen look (place.Down d doubt ∷ seats) still (suc n) = shown-there seen look seats (λ m. still (suc m)) n
shown-there seen look (place.Moving ∷ seats) still n = absurd (still 0 refl)

pub given : {T D : Type 0} (seen : T → Seen) (look : D → DiskSeen) (p : Program T D) (disks : List D)
    → map look disks ≡ filter_map (shown_in seen look) p.seats.items → AreSeated p → AreGiven seen look p disks
given seen look p disks is still n =
    mapped-get look disks n ∙ ap (λ ds. slice_get ds n) is ∙ shown-there seen look p.seats.items (λ m. still (suc m)) n

-- each place gives one
shown-count : {T D : Type 0} (seen : T → Seen) (look : D → DiskSeen) (seats : List (Place T D))
    → ((n : ℕ) → slice_get seats n ≢ Some place.Moving) → length (filter_map (shown_in seen look) seats) ≡ length seats
shown-count seen look [] still = refl
shown-count seen look (place.Up s ∷ seats) still = ap suc (shown-count seen look seats (λ m. still (suc m)))
shown-count seen look (place.Down d doubt ∷ seats) still = ap suc (shown-count seen look seats (λ m. still (suc m)))
shown-count seen look (place.Moving ∷ seats) still = absurd (still 0 refl)

pub as-many-given : {T D : Type 0} (seen : T → Seen) (look : D → DiskSeen) (p : Program T D) (disks : List D)
    → map look disks ≡ filter_map (shown_in seen look) p.seats.items → IsSeated p → length disks ≡ length p.seats.items
as-many-given seen look p disks is seated = sym (length-map disks look) ∙ ap length is
    ∙ shown-count seen look p.seats.items (λ m. seated.seated (suc m))

-- 4. A world before its first event

pub begun : {T D : Type 0} (ts : TypeList) (disks : List D) (p : Program T D) → p.types ≡ ts
    → p.seats.items ≡ map (λ d. place.Down d None) disks → Carries p.calls no_traffic → ((n : ℕ) → up_at p.places n ≡ (n == 0))
    → ((a b : ℕ) → a ≤ 8 → b ≤ 8 → joined_at p.places a b ≡ true) → ((name : List ℕ) → meanings p.names name ≡ None) → Begins ts disks p
begun ts disks p types seats calls ups links names = record {
  types = types;
  seats = first-there p disks seats;
  calls = calls;
  ups = ups;
  links = links;
  names = names;
}

pub begins-whole : {T D : Type 0} (seen : T → Seen) (ts : TypeList) (disks : List D) (p : Program T D) → Begins ts disks p
    → AreWhole seen p
begins-whole seen ts disks p begins n s at = absurd (first-down disks n s (sym (begins.seats n) ∙ at))

pub begins-agendas : {T D : Type 0} (ts : TypeList) (disks : List D) (p : Program T D) → Begins ts disks p → HaveAgendas p
begins-agendas ts disks p begins n s at = absurd (first-down disks n s (sym (begins.seats n) ∙ at))

pub begins-fits : {T D : Type 0} (seen : T → Seen) (ts : TypeList) (disks : List D) (p : Program T D) → Begins ts disks p → HasPlaces p
    → FitsTogether seen p
begins-fits seen ts disks p begins places = record {
  nodes = begins-whole seen ts disks p begins;
  places = places;
  seated = λ n at. first-rests disks n (sym (begins.seats n) ∙ at);
}

pub as-many : {T D : Type 0} (seats : List (Place T D)) (disks : List D) → seats ≡ map (λ d. place.Down d None) disks
    → length seats ≡ length disks
as-many seats disks is = ap length is ∙ length-map disks (λ d. place.Down d None)
