-- What a call leaves of the disks, and what its entry shows of them, where it touched none.
use Rattle.std.proofs.Common.{◌≡◌, ◌==◌, ℕ, Bool, false, length, Option, None, Some, refl, sym, ◌∙◌, ap, subst, arith, ◌≤◌}
use Rattle.std.specs.Option.{option_map}
use Rattle.eden_disk.specs.Calls.{Counts}
use Rattle.passive_store.specs.Seen.{Seen, DiskSeen}
use Rattle.journal.specs.declared.event.Entry.{Entry}
use Rattle.journal.specs.declared.event.Event.{Event}
use Rattle.disk_faults.specs.Elsewhere.{shown_of}
use Rattle.disk_faults.specs.Runs.{EntryShows}
use Rattle.disk_faults.specs.Shows.{IsLeftOf, NoneFalls}
use Rattle.disk_faults.proofs.Entries.{entry-elsewhere}
use Rattle.eden_world.specs.InHand.{in_hand, place_at, seen_at}
use Rattle.eden_world.specs.Seated.{EachShows, FitsTogether, IsSeated, KeepsDisks, StaysSo}
use Rattle.eden_world.specs.Steps.{TouchesNone, disk_of}
use Rattle.eden_world.specs.Told.{SameDisks}
use Rattle.eden_world.specs.Worlds.{Seat, IsNumber}
use Rattle.eden_world.specs.declared.World.{World as Program}
use Rattle.eden_world.proofs.Numbers.{not-zero}
use Rattle.eden_world.proofs.Placing.{same-places}

-- 1. What is left

pub none-fall : (k : Counts) → NoneFalls k k
none-fall k = record { clock = omega arith; faults = omega arith; stops = omega arith; wants = omega arith }

pub left-same : (obeys : Bool) (d : DiskSeen) → IsLeftOf obeys d d
left-same obeys d = record { counts = none-fall d.counts; due = λ does. refl }

-- of the disks of a place before and behind it
abbrev pub AreLeft : Bool → Option Seat → Option Seat → Type 0
AreLeft obeys o p = StaysSo (IsLeftOf obeys) o p

-- there is no place behind where there was none
pub no-seat : (p : Option Seat) → option_map disk_of p ≡ None → p ≡ None
no-seat None none = refl
no-seat (Some b) none = absurd (cc none)

pub level-left : (obeys : Bool) (o p : Option Seat) → option_map disk_of p ≡ option_map disk_of o → AreLeft obeys o p
level-left obeys None p same = no-seat p same
level-left obeys (Some a) None same = absurd (cc same)
level-left obeys (Some a) (Some b) same = let is : disk_of b ≡ disk_of a = cc same in
    subst (IsLeftOf obeys (disk_of a)) (sym is) (left-same obeys (disk_of a))

pub level-keeps : {T D : Type 0} (obeys : Bool) (seen : T → Seen) (look : D → DiskSeen) (old new : Program T D) → IsSeated new
    → SameDisks (in_hand seen look old) (in_hand seen look new) → KeepsDisks obeys seen look old new
level-keeps obeys seen look old new seated same = record {
  places = seated.places;
  seated = seated.seated;
  left = λ n number. level-left obeys (seen_at seen look (place_at old n)) (seen_at seen look (place_at new n)) (same n);
}

-- 2. What is shown

pub none-is : (n : ℕ) → IsNumber n → (k : ℕ) → k ≡ 0 → (k == n) ≡ false
none-is n number k none = subst (λ j. (j == n) ≡ false) (sym none) (not-zero n number)

-- of the disks of a place before and behind it
abbrev pub ShowsOf : Bool → ℕ → Entry → Option Seat → Option Seat → Type 0
ShowsOf obeys n e o p = StaysSo (EntryShows obeys n e) o p

-- by an entry that shows nothing of the disk of this place
pub elsewhere-shows : (obeys : Bool) (n : ℕ) (e : Entry) (o p : Option Seat) → option_map disk_of p ≡ option_map disk_of o
    → (shown_of e.event == n) ≡ false → (e.node == n) ≡ false → ShowsOf obeys n e o p
elsewhere-shows obeys n e None p same shown node = no-seat p same
elsewhere-shows obeys n e (Some a) None same shown node = absurd (cc same)
elsewhere-shows obeys n e (Some a) (Some b) same shown node = let is : disk_of b ≡ disk_of a = cc same in
    subst (λ (d : DiskSeen). EntryShows obeys n e (disk_of a) d) (sym is) (entry-elsewhere obeys n e (disk_of a) shown node)

-- no disk was touched, and the entry shows none
pub level-shows : {T D : Type 0} (obeys : Bool) (seen : T → Seen) (look : D → DiskSeen) (old new : Program T D) (e : Entry) (v : Event)
    → SameDisks (in_hand seen look old) (in_hand seen look new) → e.event ≡ v → shown_of v ≡ 0 → e.node ≡ 0
    → EachShows obeys seen look old e new
level-shows obeys seen look old new e v same is shown node n number =
    elsewhere-shows obeys n e (seen_at seen look (place_at old n)) (seen_at seen look (place_at new n)) (same n)
    (none-is n number (shown_of e.event) (ap shown_of is ∙ shown)) (none-is n number e.node node)

-- 3. Where the places are as they were

pub same-disks : {T D : Type 0} (seen : T → Seen) (look : D → DiskSeen) (old new : Program T D) → new.seats ≡ old.seats
    → SameDisks (in_hand seen look old) (in_hand seen look new)
same-disks seen look old new same n = ap (λ o. option_map disk_of (seen_at seen look o)) (same-places new old same n)

pub still-seated : {T D : Type 0} (seen : T → Seen) (old new : Program T D) → FitsTogether seen old → new.seats ≡ old.seats
    → new.places.nodes ≡ old.places.nodes → IsSeated new
still-seated seen old new fits same nodes = record {
  places = record { seats = subst (λ v. length v.items ≤ 8) (sym same) fits.places.seats; nodes = nodes ∙ fits.places.nodes };
  seated = λ n at. fits.seated n (sym (same-places new old same n) ∙ at);
}

pub still-keeps : {T D : Type 0} (obeys : Bool) (seen : T → Seen) (look : D → DiskSeen) (old new : Program T D) → FitsTogether seen old
    → new.seats ≡ old.seats → new.places.nodes ≡ old.places.nodes → KeepsDisks obeys seen look old new
still-keeps obeys seen look old new fits same nodes =
    level-keeps obeys seen look old new (still-seated seen old new fits same nodes) (same-disks seen look old new same)

pub still-shows : {T D : Type 0} (obeys : Bool) (seen : T → Seen) (look : D → DiskSeen) (old new : Program T D) (e : Entry) (v : Event)
    → new.seats ≡ old.seats → e.event ≡ v → shown_of v ≡ 0 → TouchesNone e → EachShows obeys seen look old e new
still-shows obeys seen look old new e v same is shown none =
    level-shows obeys seen look old new e v (same-disks seen look old new same) is shown none.disk
