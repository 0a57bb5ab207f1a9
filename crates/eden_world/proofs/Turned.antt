-- A node took a turn, and stands at its place, or its disk does: the whole, what the entry shows of the disks, and what is left of them
-- where there was no memory.
use Rattle.std.proofs.Common.{◌≡◌, ◌==◌, ◌≤◌, ℕ, Bool, false, Option, Some, ◌∙◌, ap, subst}
use Rattle.std.specs.Prelude.{IsTrue}
use Rattle.std.specs.Option.{option_map}
use Rattle.invocation.specs.Mail.{Mail}
use Rattle.passive_store.specs.Kept.{Layout}
use Rattle.passive_store.specs.Layout.{IsLayout}
use Rattle.passive_store.specs.Seen.{Seen, DiskSeen}
use Rattle.journal.specs.declared.event.Entry.{Entry}
use Rattle.journal.specs.declared.event.Event.{Event}
use Rattle.journal.specs.declared.event.Key.{Key}
use Rattle.journal.specs.Sites.{IsSoundSite}
use Rattle.journal.specs.World.{Site, site_of}
use Rattle.disk_faults.specs.Shows.{IsLeftOf, ShowsCounts}
use Rattle.eden_kernel.specs.DiskTurns.{Starves}
use Rattle.eden_kernel.specs.Stands.{held, IsWhole, NodeStands}
use Rattle.scheduled_node.specs.Touched.{IsNodeTurn}
use Rattle.scheduled_node.specs.declared.ScheduledNode.{ScheduledNode}
use Rattle.eden_world.specs.InHand.{place_at, seen_at, in_hand, IsWholeAt}
use Rattle.eden_world.specs.Seated.{AreSeated, EachShows, FitsTogether, HasPlaces, KeepsDisks, heeds}
use Rattle.eden_world.specs.Steps.{ShowsIf, disk_of, turn_touches}
use Rattle.eden_world.specs.Taken.{StarvesAtEach}
use Rattle.eden_world.specs.Told.{SameDisks}
use Rattle.eden_world.specs.Turning.{Swaps}
use Rattle.eden_world.specs.declared.World.{World as Program}
use Rattle.eden_world.specs.declared.seats.Seat.{Seat as Place}
use Rattle.eden_world.specs.declared.seats.Seat.TheVariants as place
use Rattle.eden_world.proofs.Placing.{whole-behind}
use Rattle.eden_world.proofs.ShownDisks.{heeded, turn-shows, turn-elsewhere, each-shows, keeps-besides}
use Rattle.eden_world.proofs.TellingAll.{number-of}
use Rattle.eden_world.proofs.Wanting.{turn-starves}

-- 1. A node stands at the place

pub turned-whole : {T D : Type 0} (seen : T → Seen) (n : ℕ) (s t : ScheduledNode T D) (later : Mail) (old new : Program T D)
    → Swaps n (place.Up s) (place.Up t) later old new → FitsTogether seen old → IsWhole (held seen t.node)
    → t.node.number ≡ s.node.number → FitsTogether seen new
turned-whole seen n s t later old new x fits whole number = whole-behind seen n (place.Up s) (place.Up t) later old new x fits
    (λ r same. let is : t ≡ r = cc same in subst (IsWholeAt seen n) is (record {
      whole = whole;
      number = number ∙ (fits.nodes n s x.was).number;
    })) (λ bad. cc bad)

-- 2. The disk of that place was called, and no other

module _ {T D : Type 0} (seen : T → Seen) (look : D → DiskSeen) (n : ℕ) (s : ScheduledNode T D) (seat : Place T D) (y : DiskSeen)
    (later : Mail) (old mid new : Program T D) (x : Swaps n (place.Up s) seat later old mid) (fits : FitsTogether seen old)
    (is_seat : option_map disk_of (seen_at seen look (Some seat)) ≡ Some y)
    (same : SameDisks (in_hand seen look mid) (in_hand seen look new)) where
  abbrev disk : DiskSeen
  disk = (seen s.node.store).disk

  abbrev shown : Option (Place T D) → Option DiskSeen
  shown o = option_map disk_of (seen_at seen look o)

  its_number : s.node.number ≡ n
  its_number = (fits.nodes n s x.was).number

  now_is : shown (place_at new n) ≡ Some y
  now_is = same n ∙ ap shown x.here ∙ is_seat

  others_same : (m : ℕ) → (m == n) ≡ false → shown (place_at new m) ≡ shown (place_at old m)
  others_same m other = same m ∙ ap shown (x.others m other)

  pub turned-shows : (tells obeys : Bool) (v : Event) (e : Entry) → IsNodeTurn s.node.number v → ShowsCounts obeys s.node.number v disk y
      → e.event ≡ v → ShowsIf (turn_touches v disk.counts.clock y.counts.clock) n y.counts.clock e
      → EachShows (heeds tells obeys) seen look old e new
  turned-shows tells obeys v e turn counts is shows = each-shows seen look old new (heeds tells obeys) e n disk y (ap shown x.was) now_is
      (turn-shows (heeds tells obeys) n v e disk y (number-of seen n s (fits.nodes n s x.was)).first turn_here
      (heeded tells obeys n v disk y (subst (λ k. ShowsCounts obeys k v disk y) its_number counts)) is shows) others_same
      (λ m d number other. turn-elsewhere (heeds tells obeys) _ m n y.counts.clock v e d number.first other turn_here is shows)
    where
      turn_here : IsNodeTurn n v
      turn_here = subst (λ k. IsNodeTurn k v) its_number turn

  pub turned-keeps : (obeys : Bool) → HasPlaces new → AreSeated new → IsLeftOf obeys disk y → KeepsDisks obeys seen look old new
  turned-keeps obeys places seated left =
      keeps-besides seen look old new obeys n disk y places seated (ap shown x.was) now_is left others_same

-- 3. There was no memory for it

pub turned-starves : {T D : Type 0} (tells : Bool) (layout : Layout) (seen : T → Seen) (look : D → DiskSeen) (n : ℕ) (s t : ScheduledNode
    T D)
    (later : Mail) (old new : Program T D) (key : Key) → Swaps n (place.Up s) (place.Up t) later old new → FitsTogether seen old
    → (IsTrue tells → IsLayout layout → (site : Site) → IsSoundSite site → 1 ≤ (seen s.node.store).more
    → NodeStands layout old.types (held seen s.node) old.calls site → Starves layout site (seen s.node.store) (seen t.node.store))
    → StarvesAtEach tells layout seen look old new key
turned-starves tells layout seen look n s t later old new key x fits starves more w reached stood there =
    turn-starves layout more (in_hand seen look old) (in_hand seen look new) w n (held seen s.node) (held seen t.node) stood.world
    (number-of seen n s (fits.nodes n s x.was)) (ap (seen_at seen look) x.was) (ap (seen_at seen look) x.here)
    (λ m other. ap (seen_at seen look) (x.others m other))
    (λ it at some stands. starves stood.telling stood.its_layout (site_of w n it) (reached.sites n it at) some stands)
