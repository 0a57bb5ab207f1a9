-- A node goes down in a program: what is left of the disks, and what the entry of a crash shows of them.
use Rattle.std.proofs.Common.{◌≡◌, ◌==◌, inl, ℕ, Bool, true, false, Option, None, Some, refl, sym, ◌∙◌, ap, subst, arith}
use Rattle.std.specs.Prelude.{is_some}
use Rattle.std.specs.Option.{option_map}
use Rattle.std.proofs.lemmas.Bool.{eqb-true}
use Rattle.eden_disk.specs.Calls.{Counts}
use Rattle.eden_disk.specs.declared.disk.ImageMode.{ImageMode}
use Rattle.passive_store.specs.Kept.{Layout}
use Rattle.passive_store.specs.Seen.{Seen, DiskSeen}
use Rattle.passive_store.specs.declared.store.Doubt.{Doubt}
use Rattle.journal.specs.declared.event.Entry.{Entry}
use Rattle.journal.specs.declared.event.Event.TheVariants as event
use Rattle.disk_faults.specs.Elsewhere.{shown_of}
use Rattle.disk_faults.specs.Runs.{EntryShows}
use Rattle.disk_faults.specs.Shows.{IsLeftOf, NoneFalls, ShowsCounts}
use Rattle.disk_faults.proofs.Entries.{entry-here}
use Rattle.eden_kernel.specs.Stands.{Held, held}
use Rattle.eden_kernel.proofs.Showing.{shows-crash}
use Rattle.scheduled_node.specs.declared.ScheduledNode.{ScheduledNode}
use Rattle.eden_world.specs.Breaking.{Leaves}
use Rattle.eden_world.specs.InHand.{place_at, seen_at}
use Rattle.eden_world.specs.Seated.{AreSeated, EachShows, FitsTogether, IsLeft, IsSeated, KeepsDisks, Vacates, clock_in, station_at}
use Rattle.eden_world.specs.Steps.{disk_of}
use Rattle.eden_world.specs.Worlds.{Seat, up, IsNumber}
use Rattle.eden_world.specs.declared.World.{World as Program}
use Rattle.eden_world.specs.declared.seats.Seat.TheVariants as place
use Rattle.eden_world.proofs.CarriedOut.{clock-of-seat, up-here}
use Rattle.eden_world.proofs.Falls.{apart}
use Rattle.eden_world.proofs.TellingAll.{node-up, number-of}
use Rattle.eden_world.proofs.Untouched.{AreLeft, ShowsOf, elsewhere-shows, left-same, level-left}

-- 1. A node that is up

pub record IsUpAt {T D : Type 0} (p : Program T D) (n : ℕ) : Type 0 where
  pub node : ScheduledNode T D
  pub is : station_at p n ≡ Some node
  pub number : IsNumber n

pub up-at : {T D : Type 0} (seen : T → Seen) (p : Program T D) (n : ℕ) → FitsTogether seen p → is_some (station_at p n) ≡ true → IsUpAt p n
up-at {T} {D} seen p n fits some = go (station_at p n) refl some
  where
    go : (o : Option (ScheduledNode T D)) → station_at p n ≡ o → is_some o ≡ true → IsUpAt p n
    go None is some = absurd (cc some)
    go (Some s) is some = record {
      node = s;
      is = is;
      number = number-of seen n s (fits.nodes n s (node-up (place_at p n) s is));
    }

pub none-up : {X : Type 0} (o : Option X) → is_some o ≡ false → o ≡ None
none-up None none = refl
none-up (Some x) none = absurd (cc none)

-- 2. Each disk is at its place

pub vacated-seated : {T D : Type 0} (tells obeys : Bool) (layout : Layout) (seen : T → Seen) (look : D → DiskSeen) (mode : Option ImageMode)
    (n : ℕ) (old new : Program T D) → AreSeated old
    → ((s : ScheduledNode T D) → station_at old n ≡ Some s → Vacates tells obeys layout seen look mode s (place_at new n))
    → (station_at old n ≡ None → place_at new n ≡ place_at old n) → ((m : ℕ) → (m == n) ≡ false → place_at new m ≡ place_at old m)
    → AreSeated new
vacated-seated tells obeys layout seen look mode n old new seated down idle others m at = go (m == n) refl
  where
    here : (o : Option (ScheduledNode _ _)) → station_at old n ≡ o → place_at new n ≡ Some place.Moving → ⊥
    here (Some s) was at = let bad : Some (place.Down (down s was).disk (down s was).noted) ≡ Some place.Moving =
        sym (down s was).there ∙ at in cc bad
    here None none at = seated n (sym (idle none) ∙ at)

    go : (b : Bool) → (m == n) ≡ b → ⊥
    go true is = here (station_at old n) refl (ap (place_at new) (sym (eqb-true m n is)) ∙ at)
    go false other = seated m (sym (others m other) ∙ at)

-- 3. Its disk is left

pub left-disk : (tells obeys : Bool) (layout : Layout) (mode : Option ImageMode) (h : Held) (noted : Option Doubt) (d : DiskSeen)
    → IsLeft tells obeys layout mode h noted d → (heeding : Bool) → IsLeftOf heeding h.seen.disk d
left-disk tells obeys layout None h noted d x heeding = subst (IsLeftOf heeding h.seen.disk) (sym x.disk)
    (left-same heeding h.seen.disk)
left-disk tells obeys layout (Some mode) h noted d x heeding = record {
  counts = subst (λ (k : Counts). NoneFalls h.seen.disk.counts k) (sym x.counts)
      (record { clock = omega arith; faults = omega arith; stops = omega arith; wants = omega arith });
  due = λ does. x.due;
}

left-there : (heeding : Bool) (o p : Option Seat) (a : Seat) (d : DiskSeen) → o ≡ Some a → option_map disk_of p ≡ Some d
    → IsLeftOf heeding (disk_of a) d → AreLeft heeding o p
left-there heeding None p a d was is left = absurd (cc was)
left-there heeding (Some x) None a d was is left = absurd (cc is)
left-there heeding (Some x) (Some y) a d was is left =
    let before : x ≡ a = cc was in
    let after : disk_of y ≡ d = cc is in
    subst (λ (z : Seat). IsLeftOf heeding (disk_of z) (disk_of y)) (sym before)
    (subst (λ (z : DiskSeen). IsLeftOf heeding (disk_of a) z) (sym after) left)

pub shown-there : (obeys : Bool) (n : ℕ) (e : Entry) (o p : Option Seat) (a : Seat) (d : DiskSeen) → o ≡ Some a → option_map disk_of p
    ≡ Some d
    → EntryShows obeys n e (disk_of a) d → ShowsOf obeys n e o p
shown-there obeys n e None p a d was is shows = absurd (cc was)
shown-there obeys n e (Some x) None a d was is shows = absurd (cc is)
shown-there obeys n e (Some x) (Some y) a d was is shows =
    let before : x ≡ a = cc was in
    let after : disk_of y ≡ d = cc is in
    subst (λ (z : Seat). EntryShows obeys n e (disk_of z) (disk_of y)) (sym before)
    (subst (λ (z : DiskSeen). EntryShows obeys n e (disk_of a) z) (sym after) shows)

module _ {T D : Type 0} (tells obeys : Bool) (layout : Layout) (seen : T → Seen) (look : D → DiskSeen) (mode : Option ImageMode) (n : ℕ)
    (s : ScheduledNode T D) (old new : Program T D) (was : station_at old n ≡ Some s)
    (l : Leaves tells obeys layout seen look mode n s old new) where
  before : seen_at seen look (place_at old n) ≡ Some (up (held seen s.node))
  before = up-here seen look (place_at old n) s was

  behind : option_map disk_of (seen_at seen look (place_at new n)) ≡ Some l.disk
  behind = l.disks n ∙ ap (option_map disk_of) l.seats.here

  others-level : (m : ℕ) → (m == n) ≡ false
      → option_map disk_of (seen_at seen look (place_at new m)) ≡ option_map disk_of (seen_at seen look (place_at old m))
  others-level m other = l.disks m ∙ ap (option_map disk_of) (l.seats.others m other)

  left-at : (heeding : Bool) (m : ℕ) → AreLeft heeding (seen_at seen look (place_at old m)) (seen_at seen look (place_at new m))
  left-at heeding m = go (m == n) refl
    where
      go : (b : Bool) → (m == n) ≡ b → AreLeft heeding (seen_at seen look (place_at old m)) (seen_at seen look (place_at new m))
      go false other =
          level-left heeding (seen_at seen look (place_at old m)) (seen_at seen look (place_at new m)) (others-level m other)
      go true is = subst (λ j. AreLeft heeding (seen_at seen look (place_at old j)) (seen_at seen look (place_at new j)))
          (sym (eqb-true m n is))
          (left-there heeding (seen_at seen look (place_at old n)) (seen_at seen look (place_at new n)) (up (held seen s.node)) l.disk before
          behind
          (left-disk tells obeys layout mode (held seen s.node) l.noted l.disk l.left heeding))

  pub left-keeps : (heeding : Bool) → IsSeated new → KeepsDisks heeding seen look old new
  left-keeps heeding seated = record { places = seated.places; seated = seated.seated; left = λ m number. left-at heeding m }

-- 4. The entry of a crash

pub crash-shows : {T D : Type 0} (heeding tells obeys : Bool) (layout : Layout) (seen : T → Seen) (look : D → DiskSeen) (mode : ImageMode)
    (n : ℕ) (s : ScheduledNode T D) (old new : Program T D) (e : Entry) → station_at old n ≡ Some s → IsNumber n
    → Leaves tells obeys layout seen look (Some mode) n s old new → e.event ≡ event.Crash n → e.node ≡ n
    → e.clock ≡ clock_in (seen_at seen look (place_at new n)) → EachShows heeding seen look old e new
crash-shows heeding tells obeys layout seen look mode n s old new e was number l is node clock m its_number = go (m == n) refl
  where
    there : option_map disk_of (seen_at seen look (place_at new n)) ≡ Some l.disk
    there = behind tells obeys layout seen look (Some mode) n s old new was l

    shown : e.clock ≡ l.disk.counts.clock
    shown = clock ∙ clock-of-seat (seen_at seen look (place_at new n)) l.disk there

    shows : EntryShows heeding n e (held seen s.node).seen.disk l.disk
    shows = entry-here heeding n e (held seen s.node).seen.disk l.disk number.first
        (subst (λ v. ShowsCounts heeding n v (held seen s.node).seen.disk l.disk) (sym is)
        (shows-crash heeding n (held seen s.node).seen.disk l.disk l.left.counts l.left.due))
        (inl (node, shown))
        (λ none. shown ∙ ap (λ (k : Counts). k.clock) l.left.counts)

    go : (b : Bool) → (m == n) ≡ b → ShowsOf heeding m e (seen_at seen look (place_at old m)) (seen_at seen look (place_at new m))
    go true same = subst (λ j. ShowsOf heeding j e (seen_at seen look (place_at old j)) (seen_at seen look (place_at new j)))
        (sym (eqb-true m n same)) (shown-there heeding n e (seen_at seen look (place_at old n)) (seen_at seen look (place_at new n))
        (up (held seen s.node)) l.disk (before tells obeys layout seen look (Some mode) n s old new was l) there shows)
    go false other = elsewhere-shows heeding m e (seen_at seen look (place_at old m)) (seen_at seen look (place_at new m))
        (others-level tells obeys layout seen look (Some mode) n s old new was l m other)
        (ap (λ v. shown_of v == m) is ∙ apart m n other) (ap (λ k. k == m) node ∙ apart m n other)
