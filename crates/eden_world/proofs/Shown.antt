-- What an entry shows of the disks, and what is left of them where there was no memory: where one place changed, and where no disk did.
use Rattle.std.proofs.Common.{◌≡◌, ◌==◌, ℕ, Bool, true, false, Option, None, Some, refl, sym, ◌∙◌, ap, subst}
use Rattle.std.specs.Prelude.{IsTrue}
use Rattle.std.specs.Option.{option_map}
use Rattle.std.proofs.lemmas.Bool.{eqb-true, eq-eqb}
use Rattle.eden_disk.specs.Calls.{faults_after, stops_after}
use Rattle.passive_store.specs.declared.store.Pick.{Pick}
use Rattle.passive_store.specs.Seen.{Seen, DiskSeen}
use Rattle.journal.specs.Faults.{makes_no_call, shows_fault, shows_stop}
use Rattle.journal.specs.declared.event.BootEnd.{BootEnd}
use Rattle.journal.specs.declared.event.BootEnd.TheVariants as end
use Rattle.journal.specs.declared.event.Entry.{Entry}
use Rattle.journal.specs.declared.event.Event.{Event}
use Rattle.journal.specs.declared.event.Event.TheVariants as event
use Rattle.checkpoint.specs.Calls.{MakesCalls, call_of_fall, powered}
use Rattle.checkpoint.specs.declared.up.BootNote.{BootNote}
use Rattle.disk_faults.specs.Elsewhere.{shown_of}
use Rattle.disk_faults.specs.Runs.{EntryShows}
use Rattle.disk_faults.specs.Shows.{IsLeftOf, NoneFalls, ShowsCounts, count_behind}
use Rattle.disk_faults.proofs.Entries.{entry-elsewhere}
use Rattle.eden_kernel.specs.Shows.{boot_event}
use Rattle.eden_kernel.proofs.Showing.{none-falls}
use Rattle.eden_world.specs.InHand.{in_hand, place_at, seen_at}
use Rattle.eden_world.specs.Seated.{AreSeated, EachShows, HasPlaces, KeepsDisks, StaysSo, heeds}
use Rattle.eden_world.specs.Steps.{disk_of}
use Rattle.eden_world.specs.Told.{SameDisks}
use Rattle.eden_world.specs.Worlds.{Seat, IsNumber}
use Rattle.eden_world.specs.declared.World.{World as Program}
use Rattle.eden_world.proofs.Numbers.{not-zero}
use Rattle.eden_world.proofs.Untouched.{AreLeft, level-keeps, level-left, no-seat}

-- 1. The counts of a disk behind a boot

boot-faults : (n e : ℕ) (how : BootEnd) (p : Option Pick) (began : Bool) (k : ℕ)
    → faults_after (call_of_fall (Some how)) k ≡ count_behind (shows_fault n (event.Boot n e how p began)) k
boot-faults n e end.Up p began k = refl
boot-faults n e end.DiskFault p began k = ap (λ b. count_behind b k) (sym (eq-eqb n n refl))
boot-faults n e end.Stop p began k = refl
boot-faults n e (end.Damaged place) p began k = refl
boot-faults n e end.EpochsSpent p began k = refl
boot-faults n e end.Full p began k = refl

boot-stops : (n e : ℕ) (how : BootEnd) (p : Option Pick) (began : Bool) (k : ℕ)
    → stops_after (call_of_fall (Some how)) k ≡ count_behind (shows_stop n (event.Boot n e how p began)) k
boot-stops n e end.Up p began k = refl
boot-stops n e end.DiskFault p began k = refl
boot-stops n e end.Stop p began k = ap (λ b. count_behind b k) (sym (eq-eqb n n refl))
boot-stops n e (end.Damaged place) p began k = refl
boot-stops n e end.EpochsSpent p began k = refl
boot-stops n e end.Full p began k = refl

-- no count fell
pub boot-falls : (how : Option BootEnd) (a b : DiskSeen) → MakesCalls (powered a.counts) b.counts (call_of_fall how)
    → NoneFalls a.counts b.counts
boot-falls how a b calls = let fell = none-falls calls.made (powered a.counts) b.counts (call_of_fall how) calls.counts in
    record { clock = fell.clock; faults = fell.faults; stops = fell.stops; wants = fell.wants }

-- where there was no memory the disk is left, by what its boot shows where it tells
pub boot-left : (tells obeys : Bool) (a b : DiskSeen) → MakesCalls (powered a.counts) b.counts (call_of_fall None)
    → (IsTrue tells → IsLeftOf obeys a b) → IsLeftOf (heeds tells obeys) a b
boot-left true obeys a b calls left = left refl
boot-left false obeys a b calls left = record {
  counts = boot-falls None a b calls;
  due = λ does. absurd (let bad : false ≡ true = does in cc bad);
}

-- of a disk that does not heed, nothing is said of what was due
unheeded : (n : ℕ) (how : BootEnd) (note : BootNote) (a b : DiskSeen) → MakesCalls (powered a.counts) b.counts (call_of_fall (Some how))
    → ShowsCounts false n (boot_event n how note) a b
unheeded n how note a b calls = record {
  faults = calls.counts.faults ∙ boot-faults n note.epoch how note.pick note.began a.counts.faults;
  stops = calls.counts.stops ∙ boot-stops n note.epoch how note.pick note.began a.counts.stops;
  clock = (boot-falls (Some how) a b calls).clock;
  wants = (boot-falls (Some how) a b calls).wants;
  due = λ does. absurd (let bad : false ≡ true = does in cc bad);
  fault_due = λ does telling shown. absurd (let bad : false ≡ true = does in cc bad);
  stop_due = λ does telling shown. absurd (let bad : false ≡ true = does in cc bad);
}

pub boot-counts : (tells obeys : Bool) (n : ℕ) (how : BootEnd) (note : BootNote) (a b : DiskSeen)
    → (IsTrue tells → ShowsCounts obeys n (boot_event n how note) a b) → MakesCalls (powered a.counts) b.counts (call_of_fall (Some how))
    → ShowsCounts (heeds tells obeys) n (boot_event n how note) a b
boot-counts true obeys n how note a b shows calls = shows refl
boot-counts false obeys n how note a b shows calls = unheeded n how note a b calls

-- 2. An entry on the disk of its node

pub entry-on : (obeys : Bool) (n : ℕ) (v : Event) (e : Entry) (a b : DiskSeen) → ShowsCounts obeys n v a b → e.event ≡ v
    → makes_no_call n v ≡ false → e.node ≡ n → e.clock ≡ b.counts.clock → EntryShows obeys n e a b
entry-on obeys n v e a b shows is calls node clock = record {
  shows = subst (λ x. ShowsCounts obeys n x a b) (sym is) shows;
  shown = λ same. clock;
  elsewhere = λ other. absurd (let bad : true ≡ false = sym (eq-eqb e.node n node) ∙ other in cc bad);
  counted = λ none. absurd (let bad : false ≡ true = sym (ap (makes_no_call n) is ∙ calls) ∙ none in cc bad);
}

shown-both : (obeys : Bool) (n : ℕ) (e : Entry) (o p : Option Seat) (a b : DiskSeen) → option_map disk_of o ≡ Some a
    → option_map disk_of p ≡ Some b → EntryShows obeys n e a b → StaysSo (EntryShows obeys n e) o p
shown-both obeys n e None p a b was now shows = absurd (cc was)
shown-both obeys n e (Some x) None a b was now shows = absurd (cc now)
shown-both obeys n e (Some x) (Some y) a b was now shows =
    let before : disk_of x ≡ a = cc was in
    let after : disk_of y ≡ b = cc now in
    subst (λ d. EntryShows obeys n e d (disk_of y)) (sym before) (subst (λ d. EntryShows obeys n e a d) (sym after) shows)

-- a disk that was not touched
pub shown-same : (obeys : Bool) (n : ℕ) (e : Entry) (o p : Option Seat) → option_map disk_of p ≡ option_map disk_of o
    → (shown_of e.event == n) ≡ false → (e.node == n) ≡ false
    → StaysSo (EntryShows obeys n e) o p
shown-same obeys n e None p same other away = no-seat p same
shown-same obeys n e (Some x) None same other away = absurd (cc same)
shown-same obeys n e (Some x) (Some y) same other away =
    let one : disk_of y ≡ disk_of x = cc same in
    subst (λ d. EntryShows obeys n e (disk_of x) d) (sym one) (entry-elsewhere obeys n e (disk_of x) other away)

none-is : (n : ℕ) → IsNumber n → (k : ℕ) → k ≡ 0 → (k == n) ≡ false
none-is n number k none = subst (λ j. (j == n) ≡ false) (sym none) (not-zero n number)

other-is : (k m n : ℕ) → k ≡ n → (m == n) ≡ false → (k == m) ≡ false
other-is k m n same other = go (k == m) refl
  where
    go : (b : Bool) → (k == m) ≡ b → (k == m) ≡ false
    go false is = is
    go true is = absurd (let bad : true ≡ false = sym (eq-eqb m n (sym (eqb-true k m is) ∙ same)) ∙ other in cc bad)

-- 3. An entry of one place

pub one-shows : {T D : Type 0} (obeys : Bool) (seen : T → Seen) (look : D → DiskSeen) (old new : Program T D) (n : ℕ) (e : Entry)
    (a b : DiskSeen) → option_map disk_of (seen_at seen look (place_at old n)) ≡ Some a
    → option_map disk_of (seen_at seen look (place_at new n)) ≡ Some b
    → ((m : ℕ) → (m == n) ≡ false → place_at new m ≡ place_at old m) → shown_of e.event ≡ n → e.node ≡ n → EntryShows obeys n e a b
    → EachShows obeys seen look old e new
one-shows obeys seen look old new n e a b was now others its_event node shows m number = go (m == n) refl
  where
    go : (c : Bool) → (m == n) ≡ c
        → StaysSo (EntryShows obeys m e) (seen_at seen look (place_at old m)) (seen_at seen look (place_at new m))
    go true same = let at : m ≡ n = eqb-true m n same in
        subst (λ j. StaysSo (EntryShows obeys j e) (seen_at seen look (place_at old j)) (seen_at seen look (place_at new j))) (sym at)
        (shown-both obeys n e (seen_at seen look (place_at old n)) (seen_at seen look (place_at new n)) a b was now shows)
    go false other = shown-same obeys m e (seen_at seen look (place_at old m)) (seen_at seen look (place_at new m))
        (ap (λ o. option_map disk_of (seen_at seen look o)) (others m other)) (other-is (shown_of e.event) m n its_event other)
        (other-is e.node m n node other)

-- and one of none
pub level-shows : {T D : Type 0} (obeys : Bool) (seen : T → Seen) (look : D → DiskSeen) (old new : Program T D) (e : Entry)
    → SameDisks (in_hand seen look old) (in_hand seen look new) → shown_of e.event ≡ 0 → e.node ≡ 0 → EachShows obeys seen look old e new
level-shows obeys seen look old new e same its_event node n number =
    shown-same obeys n e (seen_at seen look (place_at old n)) (seen_at seen look (place_at new n)) (same n)
    (none-is n number (shown_of e.event) its_event) (none-is n number e.node node)

-- 4. There was no memory

left-of : (obeys : Bool) (o p : Option Seat) (a b : DiskSeen) → option_map disk_of o ≡ Some a → option_map disk_of p ≡ Some b
    → IsLeftOf obeys a b → AreLeft obeys o p
left-of obeys None p a b was now left = absurd (cc was)
left-of obeys (Some x) None a b was now left = absurd (cc now)
left-of obeys (Some x) (Some y) a b was now left =
    let before : disk_of x ≡ a = cc was in
    let after : disk_of y ≡ b = cc now in
    subst (λ (d : DiskSeen). IsLeftOf obeys d (disk_of y)) (sym before) (subst (IsLeftOf obeys a) (sym after) left)

pub keeps-level : {T D : Type 0} (obeys : Bool) (seen : T → Seen) (look : D → DiskSeen) (old new : Program T D) → HasPlaces new
    → AreSeated new → SameDisks (in_hand seen look old) (in_hand seen look new) → KeepsDisks obeys seen look old new
keeps-level obeys seen look old new places seated same =
    level-keeps obeys seen look old new (record { places = places; seated = seated }) same

pub keeps-one : {T D : Type 0} (obeys : Bool) (seen : T → Seen) (look : D → DiskSeen) (old new : Program T D) (n : ℕ) (a b : DiskSeen)
    → HasPlaces new → AreSeated new → option_map disk_of (seen_at seen look (place_at old n)) ≡ Some a
    → option_map disk_of (seen_at seen look (place_at new n)) ≡ Some b
    → ((m : ℕ) → (m == n) ≡ false → place_at new m ≡ place_at old m) → IsLeftOf obeys a b → KeepsDisks obeys seen look old new
keeps-one obeys seen look old new n a b places seated was now others left = record {
  places = places;
  seated = seated;
  left = λ m number. go m (m == n) refl;
}
  where
    go : (m : ℕ) (c : Bool) → (m == n) ≡ c → AreLeft obeys (seen_at seen look (place_at old m)) (seen_at seen look (place_at new m))
    go m true same = let at : m ≡ n = eqb-true m n same in
        subst (λ j. AreLeft obeys (seen_at seen look (place_at old j)) (seen_at seen look (place_at new j))) (sym at)
        (left-of obeys (seen_at seen look (place_at old n)) (seen_at seen look (place_at new n)) a b was now left)
    go m false other = level-left obeys (seen_at seen look (place_at old m)) (seen_at seen look (place_at new m))
        (ap (λ o. option_map disk_of (seen_at seen look o)) (others m other))
