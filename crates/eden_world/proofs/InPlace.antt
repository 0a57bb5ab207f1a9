-- A node takes its turn in its place: what stands there then, and what is left where there was no memory.
use Rattle.std.proofs.Common.{◌≤◌}
use Rattle.std.proofs.Common.{◌≡◌, ◌==◌, ◌<◌, ℕ, zero, suc, Bool, true, false, length, Some, None, refl, sym, ◌∙◌, ap, subst, get_or, arith}
use Rattle.std.specs.Prelude.{◌≤◌, IsTrue, slice_get}
use Rattle.std.specs.Option.{option_map}
use Rattle.std.proofs.lemmas.Bool.{eqb-true}
use Rattle.std.proofs.lemmas.Option.{slice_get-get_or}
use Rattle.epl_syntax.specs.Rules.OfTypes.{TypeList}
use Rattle.invocation.specs.Mail.{Mail}
use Rattle.passive_store.specs.Kept.{Layout}
use Rattle.passive_store.specs.Layout.{IsLayout}
use Rattle.passive_store.specs.Seen.{Seen, DiskSeen}
use Rattle.journal.specs.declared.event.Key.{Key}
use Rattle.journal.specs.Sites.{IsSoundSite}
use Rattle.journal.specs.World.{Site}
use Rattle.disk_faults.specs.Shows.{IsLeftOf}
use Rattle.eden_kernel.specs.DiskTurns.{Starves}
use Rattle.eden_kernel.specs.Stands.{held, NodeStands}
use Rattle.scheduled_node.specs.declared.ScheduledNode.{ScheduledNode}
use Rattle.eden_world.specs.InHand.{place_at, seen_at, in_hand}
use Rattle.eden_world.specs.Seated.{FitsTogether, HasPlaces, KeepsDisks, TakesPlace, heeds, instead}
use Rattle.eden_world.specs.Steps.{disk_of}
use Rattle.eden_world.specs.Taken.{StarvesAtEach}
use Rattle.eden_world.specs.Told.{SameDisks}
use Rattle.eden_world.specs.Turning.{StarvesThere, StarvesUp, Swaps, TurnsHere, TurnsThere}
use Rattle.eden_world.specs.declared.World.{World as Program}
use Rattle.eden_world.specs.declared.seats.Seat.{Seat as Place}
use Rattle.eden_world.specs.declared.seats.Seat.TheVariants as place
use Rattle.eden_world.specs.declared.turns.TurnTaken.{TurnTaken}
use Rattle.eden_world.proofs.Falls.{ends-level}
use Rattle.eden_world.proofs.Placing.{same-places, seated-behind}
use Rattle.eden_world.proofs.Seating.{with-seat, seat-taken}
use Rattle.eden_world.proofs.ShownDisks.{heeded-left, keeps-level}
use Rattle.eden_world.proofs.Turned.{turned-keeps, turned-starves}

-- 1. There was no memory for the turn of the node that was up

pub starves-up : {T D : Type 0} (tells obeys : Bool) (layout : Layout) (seen : T → Seen) (ts : TypeList) (m : Mail) (s t : ScheduledNode T D)
    → IsLeftOf obeys (seen s.node.store).disk (seen t.node.store).disk
    → (IsTrue tells → IsLayout layout → (site : Site) → IsSoundSite site → 1 ≤ (seen s.node.store).more
    → NodeStands layout ts (held seen s.node) m site → Starves layout site (seen s.node.store) (seen t.node.store))
    → StarvesThere tells obeys layout seen ts m (place.Up s) (place.Up t)
starves-up tells obeys layout seen ts m s t left starves = record {
  up = λ r is. let same : s ≡ r = cc is in
      subst (λ q. StarvesUp tells obeys layout seen ts m q (place.Up t)) same (record {
        now = t;
        stands = refl;
        left = left;
        starves = starves;
      });
  idle = λ none. absurd (let bad : Some s ≡ None = none in cc bad);
}

-- 2. The place

-- what is found there stands there
pub was-there : {T D : Type 0} (p : Program T D) (n i : ℕ) (a : Place T D) → n ≡ suc i → i < p.seats.len
    → a ≡ get_or p.seats.items i a → place_at p n ≡ Some a
was-there p zero i a is inside found = absurd (cc is)
was-there p (suc n) i a is inside found =
    let same : n ≡ i = cc is in
    let within : i < length p.seats.items = subst (λ l. i < l) p.seats.ok.0 inside in
    ap (slice_get p.seats.items) same ∙ slice_get-get_or p.seats.items i a within ∙ ap (λ x. Some x) (sym found)

-- From here on a stands at place n, and b in its stead behind it, to calls that went on.
module _ {T D : Type 0} (n i : ℕ) (later : Mail) (old : Program T D) (is : n ≡ suc i) (inside : i < old.seats.len) where
  abbrev pub behind : Place T D → Program T D
  behind b = record (with-seat old i b) { calls = later }

  level : (b : Place T D) (m : ℕ) → place_at (behind b) m ≡ place_at (with-seat old i b) m
  level b = same-places (behind b) (with-seat old i b) refl

  pub swaps-here : (a b : Place T D) → place_at old n ≡ Some a → Swaps n a b later old (behind b)
  swaps-here a b was = record {
    was = was;
    here = level b n ∙ put.here ∙ ap (instead b) was;
    others = λ m other. level b m ∙ put.others m other;
    count = put.rest.count;
    types = refl;
    calls = refl;
    places = refl;
    names = refl;
  }
    where
      put : TakesPlace n b old (with-seat old i b)
      put = seat-taken old n i b is inside

  -- where the same stands there again
  same-there : (a : Place T D) → place_at old n ≡ Some a → (m : ℕ) → place_at (behind a) m ≡ place_at old m
  same-there a was m = go (m == n) refl
    where
      swapped : Swaps n a a later old (behind a)
      swapped = swaps-here a a was

      go : (y : Bool) → (m == n) ≡ y → place_at (behind a) m ≡ place_at old m
      go true same = subst (λ j. place_at (behind a) j ≡ place_at old j) (sym (eqb-true m n same)) (swapped.here ∙ sym was)
      go false other = swapped.others m other

-- 3. The turn, in a program

pub turns-here : {T D : Type 0} (tells obeys : Bool) (layout : Layout) (seen : T → Seen) (key : Key) (i : ℕ) (taken : TurnTaken)
    (a b : Place T D) (later : Mail) (old : Program T D) (is : key.station ≡ suc i) (inside : i < old.seats.len)
    → place_at old key.station ≡ Some a → TurnsThere tells obeys layout seen old.types old.places key taken a old.calls b later
    → TurnsHere tells obeys layout seen key taken old (record (with-seat old i b) { calls = later })
turns-here tells obeys layout seen key i taken a b later old is inside was x = record {
  was = x.was;
  now = x.now;
  swaps = subst (λ q. Swaps key.station (place.Up x.was) q later old (record (with-seat old i b) { calls = later })) x.stands
      (subst (λ q. Swaps key.station q b later old (record (with-seat old i b) { calls = later })) x.stood
      (swaps-here key.station i later old is inside a b was));
  turned = x.turned;
}

module _ {T D : Type 0} (tells obeys : Bool) (layout : Layout) (seen : T → Seen) (look : D → DiskSeen) (key : Key) (i : ℕ)
    (later : Mail) (old : Program T D) (is : key.station ≡ suc i) (inside : i < old.seats.len) (fits : FitsTogether seen old) where
  abbrev new : Place T D → Program T D
  new b = record (with-seat old i b) { calls = later }

  swapped : (a b : Place T D) → place_at old key.station ≡ Some a → Swaps key.station a b later old (new b)
  swapped = swaps-here key.station i later old is inside

  still-places : (a b : Place T D) → place_at old key.station ≡ Some a → HasPlaces (new b)
  still-places a b was = record { seats = subst (λ m. m ≤ 8) (sym (swapped a b was).count) fits.places.seats; nodes = fits.places.nodes }

  same : (a : Place T D) → place_at old key.station ≡ Some a → (m : ℕ) → place_at (new a) m ≡ place_at old m
  same = same-there key.station i later old is inside

  level-disks : (a : Place T D) → place_at old key.station ≡ Some a → SameDisks (in_hand seen look old) (in_hand seen look (new a))
  level-disks a was m = ap (λ o. option_map disk_of (seen_at seen look o)) (same a was m)

  idle-starves : (a b : Place T D) → place_at old key.station ≡ Some a → b ≡ a → StarvesAtEach tells layout seen look old (new b) key
  idle-starves a b was stays = subst (λ q. StarvesAtEach tells layout seen look old (new q) key) (sym stays)
      (λ more w reached stood there. ends-level layout (suc more) more (in_hand seen look old) (in_hand seen look (new a)) w (omega arith)
      stood.world
      (level-disks a was))

  idle-keeps : (heeding : Bool) (a b : Place T D) → place_at old key.station ≡ Some a → b ≡ a → KeepsDisks heeding seen look old (new b)
  idle-keeps heeding a b was stays = subst (λ q. KeepsDisks heeding seen look old (new q)) (sym stays)
      (keeps-level seen look old (new a) heeding (still-places a a was)
      (λ m at. fits.seated m (sym (same a was m) ∙ at)) (level-disks a was))

  pub starves-here : (a b : Place T D) → place_at old key.station ≡ Some a → StarvesThere tells obeys layout seen old.types old.calls a b
      → StarvesAtEach tells layout seen look old (new b) key
  starves-here (place.Up s) b was x = let y = x.up s refl in
      subst (λ q. StarvesAtEach tells layout seen look old (new q) key) (sym y.stands)
      (turned-starves tells layout seen look key.station s y.now later old (new (place.Up y.now)) key
      (swapped (place.Up s) (place.Up y.now) was) fits y.starves)
  starves-here (place.Down d doubt) b was x = idle-starves (place.Down d doubt) b was (x.idle refl)
  starves-here place.Moving b was x = idle-starves place.Moving b was (x.idle refl)

  pub keeps-here : (a b : Place T D) → place_at old key.station ≡ Some a → StarvesThere tells obeys layout seen old.types old.calls a b
      → KeepsDisks (heeds tells obeys) seen look old (new b)
  keeps-here (place.Up s) b was x = let y = x.up s refl in
      let at = swapped (place.Up s) (place.Up y.now) was in
      subst (λ q. KeepsDisks (heeds tells obeys) seen look old (new q)) (sym y.stands)
      (turned-keeps seen look key.station s (place.Up y.now) (seen y.now.node.store).disk later old (new (place.Up y.now))
      (new (place.Up y.now)) at fits refl (λ m. refl) (heeds tells obeys) (still-places (place.Up s) (place.Up y.now) was)
      (seated-behind key.station (place.Up s) (place.Up y.now) later old (new (place.Up y.now)) at fits.seated (λ bad. cc bad))
      (heeded-left tells obeys _ _ y.left))
  keeps-here (place.Down d doubt) b was x = idle-keeps (heeds tells obeys) (place.Down d doubt) b was (x.idle refl)
  keeps-here place.Moving b was x = idle-keeps (heeds tells obeys) place.Moving b was (x.idle refl)
