-- The counts of a disk over a run are those that its entries show.
use Rattle.std.proofs.Common.{◌≡◌, ℕ, ◌+◌, ◌-◌, ◌^◌, ◌≤◌, ◌<◌, Bool, true, false, cond, List, [], ◌∷◌, sym, ap, subst}
use Rattle.std.proofs.Common.{arith}
use Rattle.eden_disk.specs.Calls.{Counts}
use Rattle.passive_store.specs.Seen.{DiskSeen}
use Rattle.journal.specs.declared.event.Entry.{Entry}
use Rattle.journal.specs.Run.{Position, Step, steps, lead}
use Rattle.journal.specs.Standing.{DiskRun}
use Rattle.journal.specs.Faults.{shows_fault, shows_stop, number_of, ShowsEach, ShowsNoMore}
use Rattle.disk_faults.specs.Shows.{count_behind, NoneFalls}
use Rattle.disk_faults.specs.Runs.{EntryShows, RunShows, handed_in}

-- 1. No count falls

pub level : (before after : Counts) → after ≡ before → NoneFalls before after
level before after same = subst (NoneFalls before) (sym same)
    (record { clock = omega arith; faults = omega arith; stops = omega arith; wants = omega arith })

pub falls-none : (before mid after : Counts) → NoneFalls before mid → NoneFalls mid after → NoneFalls before after
falls-none before mid after a b = record {
  clock = omega (arith, a.clock, b.clock);
  faults = omega (arith, a.faults, b.faults);
  stops = omega (arith, a.stops, b.stops);
  wants = omega (arith, a.wants, b.wants);
}

not-less : (shown : Bool) (n : ℕ) → n ≤ count_behind shown n
not-less true n = omega arith
not-less false n = omega arith

pub entry-level : (obeys : Bool) (n : ℕ) (e : Entry) (old new : DiskSeen) → EntryShows obeys n e old new → NoneFalls old.counts new.counts
entry-level obeys n e old new s = record {
  clock = s.shows.clock;
  faults = subst (λ k. old.counts.faults ≤ k) (sym s.shows.faults) (not-less (shows_fault n e.event) old.counts.faults);
  stops = subst (λ k. old.counts.stops ≤ k) (sym s.shows.stops) (not-less (shows_stop n e.event) old.counts.stops);
  wants = s.shows.wants;
}

pub run-level : (obeys : Bool) (n : ℕ) (run : List Step) (old new : DiskSeen) → RunShows obeys n run old new
    → NoneFalls old.counts new.counts
run-level obeys n [] old new r = level old.counts new.counts (ap (λ (d : DiskSeen). d.counts) r)
run-level obeys n (s ∷ run) old new (mid, e, rest) =
    falls-none old.counts mid.counts new.counts (entry-level obeys n s.entry old mid e) (run-level obeys n run mid new rest)

-- 2. A count that is shown

-- it rose by so many, unless it came to its end
one-risen : (shown : Bool) (before mid : ℕ) → mid ≡ count_behind shown before → mid < 2 ^ 64 - 1 → mid ≡ before + cond shown 1 0
one-risen true before mid is below = omega (arith, is, below)
one-risen false before mid is below = omega (arith, is)

pub faults-risen : (obeys : Bool) (n : ℕ) (p : Position) (history : List Entry) (old new : DiskSeen) → RunShows obeys n
    (steps p history) old new
    → new.counts.faults < 2 ^ 64 - 1 → new.counts.faults ≡ old.counts.faults + number_of (shows_fault n) history
faults-risen obeys n p [] old new r below = let same : new.counts.faults ≡ old.counts.faults = ap (λ (d : DiskSeen). d.counts.faults) r in
    omega (arith, same)
faults-risen obeys n p (e ∷ es) old new (mid, s, rest) below =
    let more : mid.counts.faults ≤ new.counts.faults = (run-level obeys n (steps (lead p e) es) mid new rest).faults in
    let one : mid.counts.faults ≡ old.counts.faults + cond (shows_fault n e.event) 1 0 =
    one-risen (shows_fault n e.event) old.counts.faults mid.counts.faults s.shows.faults (omega (arith, more, below)) in
    let then : new.counts.faults ≡ mid.counts.faults + number_of (shows_fault n) es = faults-risen obeys n
    (lead p e) es mid new rest below in
    omega (arith, one, then)

pub stops-risen : (obeys : Bool) (n : ℕ) (p : Position) (history : List Entry) (old new : DiskSeen) → RunShows obeys n
    (steps p history) old new
    → new.counts.stops < 2 ^ 64 - 1 → new.counts.stops ≡ old.counts.stops + number_of (shows_stop n) history
stops-risen obeys n p [] old new r below = let same : new.counts.stops ≡ old.counts.stops = ap (λ (d : DiskSeen). d.counts.stops) r in
    omega (arith, same)
stops-risen obeys n p (e ∷ es) old new (mid, s, rest) below =
    let more : mid.counts.stops ≤ new.counts.stops = (run-level obeys n (steps (lead p e) es) mid new rest).stops in
    let one : mid.counts.stops ≡ old.counts.stops + cond (shows_stop n e.event) 1 0 =
    one-risen (shows_stop n e.event) old.counts.stops mid.counts.stops s.shows.stops (omega (arith, more, below)) in
    let then : new.counts.stops ≡ mid.counts.stops + number_of (shows_stop n) es = stops-risen obeys n (lead p e) es mid new rest below in
    omega (arith, one, then)

pub shows-each : (n : ℕ) (p : Position) (history : List Entry) (d : DiskRun) (last : DiskSeen)
    → RunShows d.obeys n (steps p history) (handed_in d) last → last.counts ≡ d.last → ShowsEach history n d
shows-each n p history d last r same = record {
  faults = λ below. subst (λ (k : Counts). k.faults ≡ d.first.faults + number_of (shows_fault n) history) same
      (faults-risen d.obeys n p history (handed_in d) last r (subst (λ (k : Counts). k.faults < 2 ^ 64 - 1) (sym same) below));
  stops = λ below. subst (λ (k : Counts). k.stops ≡ d.first.stops + number_of (shows_stop n) history) same
      (stops-risen d.obeys n p history (handed_in d) last r (subst (λ (k : Counts). k.stops < 2 ^ 64 - 1) (sym same) below));
}

pub shows-no-more : (n : ℕ) (p : Position) (history : List Entry) (d : DiskRun) (last : DiskSeen)
    → RunShows d.obeys n (steps p history) (handed_in d) last → NoneFalls last.counts d.last → ShowsNoMore history n d
shows-no-more n p history d last r more = record {
  faults = λ below. let so : last.counts.faults ≤ d.last.faults = more.faults in
      let then : last.counts.faults ≡ d.first.faults + number_of (shows_fault n) history =
      faults-risen d.obeys n p history (handed_in d) last r (omega (arith, so, below)) in omega (arith, so, then);
  stops = λ below. let so : last.counts.stops ≤ d.last.stops = more.stops in
      let then : last.counts.stops ≡ d.first.stops + number_of (shows_stop n) history =
      stops-risen d.obeys n p history (handed_in d) last r (omega (arith, so, below)) in omega (arith, so, then);
}
