-- What an entry shows of the disks at their places, and what a call that found no memory leaves of them.
use Rattle.std.proofs.Common.{◌≡◌, ◌⊎◌, inl, inr, ◌==◌, ◌||◌, ◌≤◌, ℕ, Bool, true, false, not, List, Option, None, Some}
use Rattle.std.proofs.Common.{refl, sym, ◌∙◌, ap, subst, arith}
use Rattle.std.specs.Prelude.{IsTrue}
use Rattle.std.specs.Option.{option_map}
use Rattle.std.proofs.lemmas.Bool.{eqb-true, eq-eqb}
use Rattle.std.proofs.lemmas.Bool.Decides.{nat_tests}
use Rattle.eden_disk.specs.Calls.{Due}
use Rattle.passive_store.specs.Seen.{Seen, DiskSeen}
use Rattle.journal.specs.declared.event.Entry.{Entry}
use Rattle.journal.specs.declared.event.Event.{Event}
use Rattle.journal.specs.declared.event.Event.TheVariants as event
use Rattle.journal.specs.Faults.{makes_no_call}
use Rattle.disk_faults.specs.Elsewhere.{shown_of}
use Rattle.disk_faults.specs.Runs.{EntryShows}
use Rattle.disk_faults.specs.Shows.{IsLeftOf, ShowsCounts, NoneFalls, count_behind, due_behind}
use Rattle.disk_faults.proofs.Entries.{entry-here, entry-elsewhere}
use Rattle.scheduled_node.specs.Touched.{IsNodeTurn}
use Rattle.eden_world.specs.InHand.{place_at, seen_at, in_hand}
use Rattle.eden_world.specs.Seated.{EachShows, HasPlaces, AreSeated, KeepsDisks, StaysSo, heeds}
use Rattle.eden_world.specs.Steps.{ShowsIf, disk_of, turn_touches, event_touches}
use Rattle.eden_world.specs.Told.{SameDisks}
use Rattle.eden_world.specs.Worlds.{Seat, IsNumber}
use Rattle.eden_world.specs.declared.World.{World as Program}
use Rattle.eden_world.proofs.Untouched.{AreLeft, level-keeps, level-left, no-seat}

-- 1. Disks that tell and obey

heeds-obeys : (tells obeys : Bool) → IsTrue (heeds tells obeys) → IsTrue obeys
heeds-obeys true obeys h = h
heeds-obeys false obeys h = absurd (cc h)

-- what was due of a disk that obeys was due of one that tells besides
pub heeded : (tells obeys : Bool) (n : ℕ) (v : Event) (old new : DiskSeen) → ShowsCounts obeys n v old new
    → ShowsCounts (heeds tells obeys) n v old new
heeded tells obeys n v old new s = record {
  faults = s.faults;
  stops = s.stops;
  clock = s.clock;
  wants = s.wants;
  due = λ both. s.due (heeds-obeys tells obeys both);
  fault_due = λ both. s.fault_due (heeds-obeys tells obeys both);
  stop_due = λ both. s.stop_due (heeds-obeys tells obeys both);
}

-- no count of it falls
more-behind : (b : Bool) (n : ℕ) → n ≤ count_behind b n
more-behind true n = grind (arith, nat_tests)
more-behind false n = omega arith

none-falls : (obeys : Bool) (n : ℕ) (v : Event) (old new : DiskSeen) → ShowsCounts obeys n v old new → NoneFalls old.counts new.counts
none-falls obeys n v old new s = record {
  clock = s.clock;
  faults = subst (λ k. old.counts.faults ≤ k) (sym s.faults) (more-behind _ old.counts.faults);
  stops = subst (λ k. old.counts.stops ≤ k) (sym s.stops) (more-behind _ old.counts.stops);
  wants = s.wants;
}

-- what is left of a disk that obeys is left of one that tells besides
pub heeded-left : (tells obeys : Bool) (old new : DiskSeen) → IsLeftOf obeys old new → IsLeftOf (heeds tells obeys) old new
heeded-left tells obeys old new l = record { counts = l.counts; due = λ both. l.due (heeds-obeys tells obeys both) }

-- 2. The entry of a node's turn

may-call : (m n : ℕ) (v : Event) → IsNodeTurn n v → makes_no_call m v ≡ false
may-call m n (event.Request k a b refused) is = refl
may-call m n (event.Reply k a b name why values) is = refl
may-call m n (event.Start k u p) is = refl
may-call m n (event.Process u p said) is = refl
may-call m n (event.Activate u how p) is = refl
may-call m n (event.Store u clock how p) is = refl
may-call m n _ is = absurd is

arms-nothing : (n m : ℕ) (v : Event) (clock : ℕ) (due : Due) → IsNodeTurn m v → due_behind n v clock due ≡ due
arms-nothing n m (event.Request k a b refused) clock due is = refl
arms-nothing n m (event.Reply k a b name why values) clock due is = refl
arms-nothing n m (event.Start k u p) clock due is = refl
arms-nothing n m (event.Process u p said) clock due is = refl
arms-nothing n m (event.Activate u how p) clock due is = refl
arms-nothing n m (event.Store u c how p) clock due is = refl
arms-nothing n m _ clock due is = absurd is

-- the disk is left by what the turn shows of it
pub shown-left : (obeys : Bool) (n m : ℕ) (v : Event) (old new : DiskSeen) → IsNodeTurn m v → ShowsCounts obeys n v old new
    → IsLeftOf obeys old new
shown-left obeys n m v old new turn s = record {
  counts = none-falls obeys n v old new s;
  due = λ does. s.due does ∙ arms-nothing n m v old.counts.clock old.due turn;
}

not-true : {A : Type 0} (b : Bool) → b ≡ false → IsTrue b → A
not-true b off on = absurd (let bad : false ≡ true = sym off ∙ on in cc bad)

level-clock : (before after : ℕ) (t : Bool) → (not (before == after) || t) ≡ false → after ≡ before
level-clock before after t off = go (before == after) refl off
  where
    go : (b : Bool) → (before == after) ≡ b → (not b || t) ≡ false → after ≡ before
    go true is h = sym (eqb-true before after is)
    go false is h = absurd (cc h)

-- on its node's disk
pub turn-shows : (obeys : Bool) (n : ℕ) (v : Event) (e : Entry) (old new : DiskSeen) → 1 ≤ n → IsNodeTurn n v → ShowsCounts obeys n v old
    new
    → e.event ≡ v → ShowsIf (turn_touches v old.counts.clock new.counts.clock) n new.counts.clock e → EntryShows obeys n e old new
turn-shows obeys n v e old new some turn counts is shows =
    entry-here obeys n e old new some (subst (λ z. ShowsCounts obeys n z old new) (sym is) counts)
    (go (turn_touches v old.counts.clock new.counts.clock) refl shows)
    (λ none. not-true (makes_no_call n e.event) (ap (makes_no_call n) is ∙ may-call n n v turn) none)
  where
    go : (b : Bool) → turn_touches v old.counts.clock new.counts.clock ≡ b → ShowsIf b n new.counts.clock e
        → ((e.node ≡ n) × (e.clock ≡ new.counts.clock)) ⊎ ((e.node ≡ 0) × (new.counts.clock ≡ old.counts.clock))
    go true at h = inl (h.0, h.1)
    go false at h = inr (h.0, level-clock old.counts.clock new.counts.clock (event_touches v old.counts.clock new.counts.clock) at)

-- whatever calls it breaks
pub still-shown : (b : Bool) (n clock : ℕ) (e : Entry) (names : List (List ℕ)) → ShowsIf b n clock e
    → ShowsIf b n clock (record e { broken = names })
still-shown true n clock e names h = h
still-shown false n clock e names h = h

-- and on any other
apart : (m n : ℕ) → (m == n) ≡ false → (n == m) ≡ false
apart m n h = go (n == m) refl
  where
    go : (b : Bool) → (n == m) ≡ b → b ≡ false
    go false is = refl
    go true is = absurd (let bad : true ≡ false = sym (eq-eqb m n (sym (eqb-true n m is))) ∙ h in cc bad)

none-there : (m k : ℕ) → 1 ≤ m → k ≡ 0 → (k == m) ≡ false
none-there m k some none = grind (arith, nat_tests)

shown-elsewhere : (m n : ℕ) (v : Event) → 1 ≤ m → (m == n) ≡ false → IsNodeTurn n v → (shown_of v == m) ≡ false
shown-elsewhere m n (event.Request k a b refused) some other is = none-there m 0 some refl
shown-elsewhere m n (event.Reply k a b name why values) some other is = none-there m 0 some refl
shown-elsewhere m n (event.Start k u p) some other is = none-there m 0 some refl
shown-elsewhere m n (event.Process u p said) some other is = none-there m 0 some refl
shown-elsewhere m n (event.Activate u how p) some other is = ap (λ k. k == m) is ∙ apart m n other
shown-elsewhere m n (event.Store u clock how p) some other is = ap (λ k. k == m) is ∙ apart m n other
shown-elsewhere m n _ some other is = absurd is

elsewhere-by : (b : Bool) (m n clock : ℕ) (e : Entry) → 1 ≤ m → (m == n) ≡ false → ShowsIf b n clock e → (e.node == m) ≡ false
elsewhere-by true m n clock e some other h = ap (λ k. k == m) h.0 ∙ apart m n other
elsewhere-by false m n clock e some other h = none-there m e.node some h.0

pub turn-elsewhere : (obeys b : Bool) (m n clock : ℕ) (v : Event) (e : Entry) (d : DiskSeen) → 1 ≤ m → (m == n) ≡ false → IsNodeTurn n v
    → e.event ≡ v → ShowsIf b n clock e → EntryShows obeys m e d d
turn-elsewhere obeys b m n clock v e d some other turn is shows = entry-elsewhere obeys m e d
    (ap (λ z. shown_of z == m) is ∙ shown-elsewhere m n v some other turn) (elsewhere-by b m n clock e some other shows)

-- 3. All places

-- of one place, by its disk before and behind
of-place : (m : ℕ) (P : DiskSeen → DiskSeen → Type 0) (o p : Option Seat) (x y : DiskSeen) → option_map disk_of o ≡ Some x
    → option_map disk_of p ≡ Some y → P x y → StaysSo P o p
of-place m P None p x y was now h = absurd (cc was)
of-place m P (Some a) None x y was now h = absurd (cc now)
of-place m P (Some a) (Some b) x y was now h =
    let old : disk_of a ≡ x = cc was in
    let new : disk_of b ≡ y = cc now in
    subst (λ d. P d (disk_of b)) (sym old) (subst (P x) (sym new) h)

same-place : (P : DiskSeen → DiskSeen → Type 0) (o p : Option Seat) → option_map disk_of p ≡ option_map disk_of o → ((d : DiskSeen) → P d d)
    → StaysSo P o p
same-place P None p same each = no-seat p same
same-place P (Some a) None same each = absurd (cc same)
same-place P (Some a) (Some b) same each =
    let is : disk_of b ≡ disk_of a = cc same in
    subst (P (disk_of a)) (sym is) (each (disk_of a))

module _ {T D : Type 0} (seen : T → Seen) (look : D → DiskSeen) (old new : Program T D) where
  abbrev before : ℕ → Option DiskSeen
  before m = option_map disk_of (seen_at seen look (place_at old m))

  abbrev behind : ℕ → Option DiskSeen
  behind m = option_map disk_of (seen_at seen look (place_at new m))

  -- one disk was called, at most
  pub each-shows : (obeys : Bool) (e : Entry) (n : ℕ) (x y : DiskSeen) → before n ≡ Some x → behind n ≡ Some y → EntryShows obeys n e x y
      → ((m : ℕ) → (m == n) ≡ false → behind m ≡ before m)
      → ((m : ℕ) (d : DiskSeen) → IsNumber m → (m == n) ≡ false → EntryShows obeys m e d d) → EachShows obeys seen look old e new
  each-shows obeys e n x y was now here same others m number = go (m == n) refl
    where
      go : (b : Bool) → (m == n) ≡ b
          → StaysSo (EntryShows obeys m e) (seen_at seen look (place_at old m)) (seen_at seen look (place_at new m))
      go true is = let at : m ≡ n = eqb-true m n is in
          of-place m (EntryShows obeys m e) _ _ x y (ap before at ∙ was) (ap behind at ∙ now)
          (subst (λ k. EntryShows obeys k e x y) (sym at) here)
      go false is = same-place (EntryShows obeys m e) _ _ (same m is) (λ d. others m d number is)

  pub keeps-besides : (obeys : Bool) (n : ℕ) (x y : DiskSeen) → HasPlaces new → AreSeated new → before n ≡ Some x → behind n ≡ Some y
      → IsLeftOf obeys x y → ((m : ℕ) → (m == n) ≡ false → behind m ≡ before m) → KeepsDisks obeys seen look old new
  keeps-besides obeys n x y places seated was now here same = record { places = places; seated = seated; left = each }
    where
      each : (m : ℕ) → IsNumber m → AreLeft obeys (seen_at seen look (place_at old m)) (seen_at seen look (place_at new m))
      each m number = go (m == n) refl
        where
          go : (b : Bool) → (m == n) ≡ b → AreLeft obeys (seen_at seen look (place_at old m)) (seen_at seen look (place_at new m))
          go true is = let at : m ≡ n = eqb-true m n is in
              of-place m (IsLeftOf obeys) _ _ x y (ap before at ∙ was) (ap behind at ∙ now) here
          go false is = level-left obeys (seen_at seen look (place_at old m)) (seen_at seen look (place_at new m)) (same m is)

  pub keeps-level : (obeys : Bool) → HasPlaces new → AreSeated new → SameDisks (in_hand seen look old) (in_hand seen look new)
      → KeepsDisks obeys seen look old new
  keeps-level obeys places seated same = level-keeps obeys seen look old new (record { places = places; seated = seated }) same
