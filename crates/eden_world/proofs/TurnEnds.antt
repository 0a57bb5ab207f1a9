-- What a program comes to behind the turn of a node in its place: it stands there, or its disk stopped, and it went down.
use Rattle.std.proofs.Common.{◌≡◌, ◌==◌, ℕ, Bool, false, List, [], None, Some, refl, ap, subst}
use Rattle.std.specs.Prelude.{IsTrue}
use Rattle.passive_store.specs.Kept.{Layout}
use Rattle.passive_store.specs.Seen.{Seen, DiskSeen}
use Rattle.journal.specs.declared.event.Entry.{Entry}
use Rattle.journal.specs.declared.event.Key.{Key}
use Rattle.eden_kernel.specs.DiskTurns.{IsWholeBehind}
use Rattle.eden_kernel.specs.Stands.{held}
use Rattle.eden_kernel.specs.Turns.{clock_of}
use Rattle.eden_kernel.specs.declared.stores.TurnEnd.{TurnEnd}
use Rattle.eden_kernel.specs.declared.stores.TurnEnd.TheVariants as turn_end
use Rattle.scheduled_node.specs.declared.ScheduledNode.{ScheduledNode}
use Rattle.eden_world.specs.Breaking.{Loses}
use Rattle.eden_world.specs.InHand.{place_at, in_hand}
use Rattle.eden_world.specs.Seated.{AreSeated, EachShows, FitsTogether, HasPlaces, KeepsDisks, KeepsRest, Vacates}
use Rattle.eden_world.specs.Seated.{heeds, station_at, station_in}
use Rattle.eden_world.specs.Steps.{ShowsIf, turn_touches}
use Rattle.eden_world.specs.Taken.{StarvesAtEach, TakesAtEach}
use Rattle.eden_world.specs.Told.{SameDisks}
use Rattle.eden_world.specs.Turning.{Swaps, TurnSays, TurnsHere}
use Rattle.eden_world.specs.declared.World.{World as Program}
use Rattle.eden_world.specs.declared.seats.Seat.{Seat as Place}
use Rattle.eden_world.specs.declared.seats.Seat.TheVariants as place
use Rattle.eden_world.specs.declared.turns.TurnTaken.{TurnTaken}
use Rattle.eden_world.proofs.Placing.{swaps-again, whole-behind}
use Rattle.eden_world.proofs.ShownDisks.{heeded-left, shown-left, still-shown}
use Rattle.eden_world.proofs.Stopping.{stop-ends, stop-takes}
use Rattle.eden_world.proofs.TakingTurns.{takes-up}
use Rattle.eden_world.proofs.Turned.{turned-keeps, turned-shows, turned-whole}

module _ {T D : Type 0} (tells obeys : Bool) (layout : Layout) (seen : T → Seen) (look : D → DiskSeen) (key : Key) (taken : TurnTaken)
    (old new : Program T D) (x : TurnsHere tells obeys layout seen key taken old new) (fits : FitsTogether seen old) where
  abbrev before : ℕ
  before = clock_of (held seen x.was.node)

  abbrev after : ℕ
  after = clock_of (held seen x.now.node)

  -- by the clocks that were read
  by-clocks : (e : Entry) → ShowsIf (turn_touches taken.event taken.before taken.after) key.station taken.after e
      → ShowsIf (turn_touches taken.event before after) key.station after e
  by-clocks e shows = subst (λ a. ShowsIf (turn_touches taken.event a after) key.station after e) x.turned.before
      (subst (λ b. ShowsIf (turn_touches taken.event taken.before b) key.station b e) x.turned.after shows)

  says-so : (how : TurnEnd) → taken.end ≡ how
      → TurnSays how tells layout seen x.was x.now old.types old.calls old.places new.calls key taken.event
  says-so how is = subst (λ h. TurnSays h tells layout seen x.was x.now old.types old.calls old.places new.calls key taken.event) is
      x.turned.says

  -- 1. The node goes on

  module _ (up : taken.end ≡ turn_end.Up) where
    pub goes-whole : FitsTogether seen new
    goes-whole = turned-whole seen key.station x.was x.now new.calls old new x.swaps fits
        (subst (λ how. IsWholeBehind how (held seen x.now.node)) up x.turned.says.whole) x.turned.number

    module _ (e : Entry) (is : e.event ≡ taken.event)
        (shows : ShowsIf (turn_touches taken.event taken.before taken.after) key.station taken.after e) where
      pub goes-taken : e.broken ≡ [] → TakesAtEach tells layout seen look old new key e
      goes-taken broken = takes-up tells layout seen look key.station key x.was x.now old new new.calls taken.event e x.swaps fits
          (says-so turn_end.Up up) refl is broken (by-clocks e shows)

      pub goes-shows : EachShows (heeds tells obeys) seen look old e new
      goes-shows = turned-shows seen look key.station x.was (place.Up x.now) (seen x.now.node.store).disk new.calls old new new x.swaps fits
          refl (λ m. refl) tells obeys taken.event e x.turned.event x.turned.shows is (by-clocks e shows)

  -- 2. Its disk stopped, and it went down

  module _ (stopped : taken.end ≡ turn_end.Down) (mid : Program T D)
      (down : (s : ScheduledNode T D) → station_at new key.station ≡ Some s
      → Vacates tells obeys layout seen look None s (place_at mid key.station))
      (others : (m : ℕ) → (m == key.station) ≡ false → place_at mid m ≡ place_at new m) (rest : KeepsRest new mid) where
    left : Vacates tells obeys layout seen look None x.now (place_at mid key.station)
    left = down x.now (ap station_in x.swaps.here)

    abbrev seat : Place T D
    seat = place.Down left.disk left.noted

    gone : Swaps key.station (place.Up x.was) seat old.calls old mid
    gone = subst (λ later. Swaps key.station (place.Up x.was) seat later old mid) (x.turned.calls stopped)
        (swaps-again key.station (place.Up x.was) (place.Up x.now) seat new.calls old new mid x.swaps left.there others rest)

    pub stops-whole : FitsTogether seen mid
    stops-whole = whole-behind seen key.station (place.Up x.was) seat old.calls old mid gone fits (λ t is. absurd (cc is)) (λ bad. cc bad)

    module _ (last : Program T D) (same : SameDisks (in_hand seen look mid) (in_hand seen look last)) where
      pub stops-starved : StarvesAtEach tells layout seen look old last key
      stops-starved more w reached stood there = stop-ends tells layout seen look key.station key x.was x.now left.disk left.noted old mid
          last new.calls taken.event gone fits (says-so turn_end.Down stopped) refl left.left same more w reached stood there

      pub stops-keeps : HasPlaces last → AreSeated last → KeepsDisks (heeds tells obeys) seen look old last
      stops-keeps places seated = turned-keeps seen look key.station x.was seat (seen x.now.node.store).disk old.calls old mid last gone fits
          (ap (λ d. Some d) left.left.disk) same (heeds tells obeys) places seated
          (heeded-left tells obeys _ _ (shown-left obeys _ _ taken.event _ _ x.turned.event x.turned.shows))

      module _ (names : List (List ℕ)) (e : Entry) (is : e.event ≡ taken.event)
          (shows : ShowsIf (turn_touches taken.event taken.before taken.after) key.station taken.after e) where
        abbrev told : Entry
        told = record e { broken = names }

        told-shows : ShowsIf (turn_touches taken.event before after) key.station after told
        told-shows = still-shown (turn_touches taken.event before after) key.station after e names (by-clocks e shows)

        pub stops-taken : (IsTrue tells → Loses layout seen look key.station names mid last)
            → TakesAtEach tells layout seen look old last key told
        stops-taken lost more w reached stood there = stop-takes tells layout seen look key.station key x.was x.now left.disk left.noted
            old mid last new.calls taken.event gone fits (says-so turn_end.Down stopped) refl left.left same more w reached stood there
            names told (lost stood.telling) is refl told-shows

        pub stops-shows : EachShows (heeds tells obeys) seen look old told last
        stops-shows = turned-shows seen look key.station x.was seat (seen x.now.node.store).disk old.calls old mid last gone fits
            (ap (λ d. Some d) left.left.disk) same tells obeys taken.event told x.turned.event x.turned.shows is told-shows
