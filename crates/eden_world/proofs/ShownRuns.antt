-- What the entries of a whole run show of a disk of whatever has it in hand.
use Rattle.std.proofs.Common.{◌≡◌, inl, inr, ◌+◌, ◌-◌, ◌^◌, ◌==◌, ◌≤◌, ◌<◌, ℕ, Bool, true, false, cond, List, [], ◌∷◌, Option, None}
use Rattle.std.proofs.Common.{Some, is_some, refl, sym, ◌∙◌, ap, subst, arith}
use Rattle.std.specs.Prelude.{IfSome, IsSomeAnd}
use Rattle.eden_disk.specs.Calls.{Counts}
use Rattle.passive_store.specs.Seen.{DiskSeen}
use Rattle.journal.specs.declared.event.Entry.{Entry}
use Rattle.journal.specs.Faults.{EachHasItsCommand, EachShowsClockBefore, IsLeftArmed, RoseBy, ShowsEach, ShowsNoMore}
use Rattle.journal.specs.Faults.{number_of, shows_fault, shows_stop}
use Rattle.journal.specs.Standing.{DiskRun}
use Rattle.journal.specs.Run.{Position, Step, EachStep, lead, steps}
use Rattle.disk_faults.specs.Runs.{EntryShows, RunShows}
use Rattle.disk_faults.specs.Shows.{IsLeftOf, NoneFalls, count_behind}
use Rattle.disk_faults.proofs.Commands.{has-commands, left-armed, shows-clocks}
use Rattle.disk_faults.proofs.Entries.{entry-elsewhere}
use Rattle.disk_faults.proofs.Sums.{entry-level, falls-none, level}
use Rattle.runs.specs.Machines.{IsLeft, Leaves, Shows, ShowsAll, ShowsOne, ShowsPart, Whole, is_idle}
use Rattle.eden_world.specs.Legal.{disk_run}
use Rattle.eden_world.proofs.Untouched.{left-same}
use Rattle.eden_world.proofs.IdleSteps.{IsStill, StillIfIdle, idle-no_fault, idle-no_stop, idle-shows_none}

-- 1. What is seen of the disk of node n before it and behind it: where it is there before, it is there behind

-- each entry shows this of it
abbrev pub EachShown : {M : Type 0} → Bool → ℕ → Shows M → (M → Option DiskSeen) → Type 0
EachShown obeys n shows disk = (old new : _) (e : Entry) → shows old e new
    → IfSome (disk old) (λ a. IsSomeAnd (disk new) (λ b. EntryShows obeys n e a b))

-- and it is left where no memory was found
abbrev pub EachLeft : {M : Type 0} → Bool → Leaves M → (M → Option DiskSeen) → Type 0
EachLeft obeys leaves disk = (old new : _) → leaves old new → IfSome (disk old) (λ a. IfSome (disk new) (IsLeftOf obeys a))

-- 2. Its counts of faults and stops, whatever the entries touched

pub record Rose (history : List Entry) (n : ℕ) (old new : Counts) : Type 0 where
  pub falls : NoneFalls old new
  pub faults : RoseBy (number_of (shows_fault n) history) old.faults new.faults
  pub stops : RoseBy (number_of (shows_stop n) history) old.stops new.stops

-- by one entry
record RoseOnce (e : Entry) (n : ℕ) (old new : Counts) : Type 0 where
  falls : NoneFalls old new
  faults : new.faults ≡ count_behind (shows_fault n e.event) old.faults
  stops : new.stops ≡ count_behind (shows_stop n e.event) old.stops

rose-none : (n : ℕ) (counts : Counts) → Rose [] n counts counts
rose-none n counts = record {
  falls = level counts counts refl;
  faults = λ below. omega arith;
  stops = λ below. omega arith;
}

-- a count that is shown rose by so many, unless it came to its end
one-risen : (shown : Bool) (before mid : ℕ) → mid ≡ count_behind shown before → mid < 2 ^ 64 - 1 → mid ≡ before + cond shown 1 0
one-risen true before mid is below = omega (arith, is, below)
one-risen false before mid is below = omega (arith, is)

rose-by : (shown : Bool) (before mid after more : ℕ) → mid ≡ count_behind shown before → mid ≤ after → RoseBy more mid after
    → RoseBy (cond shown 1 0 + more) before after
rose-by shown before mid after more is low rest below =
    let one : mid ≡ before + cond shown 1 0 = one-risen shown before mid is (omega (arith, low, below)) in
    let then : after ≡ mid + more = rest below in
    omega (arith, one, then)

rose-more : (e : Entry) (history : List Entry) (n : ℕ) (old mid new : Counts) → RoseOnce e n old mid → Rose history n mid new
    → Rose (e ∷ history) n old new
rose-more e history n old mid new one more = record {
  falls = falls-none old mid new one.falls more.falls;
  faults = rose-by (shows_fault n e.event) old.faults mid.faults new.faults (number_of (shows_fault n) history) one.faults
      more.falls.faults more.faults;
  stops = rose-by (shows_stop n e.event) old.stops mid.stops new.stops (number_of (shows_stop n) history) one.stops
      more.falls.stops more.stops;
}

once-shown : (obeys : Bool) (n : ℕ) (e : Entry) (a b : DiskSeen) → EntryShows obeys n e a b → RoseOnce e n a.counts b.counts
once-shown obeys n e a b shows = record {
  falls = entry-level obeys n e a b shows;
  faults = shows.shows.faults;
  stops = shows.shows.stops;
}

once-idle : (n : ℕ) (e : Entry) (d : DiskSeen) → is_idle e.event ≡ true → RoseOnce e n d.counts d.counts
once-idle n e d idle = record {
  falls = level d.counts d.counts refl;
  faults = ap (λ b. count_behind b d.counts.faults) (sym (idle-no_fault n e.event idle));
  stops = ap (λ b. count_behind b d.counts.stops) (sym (idle-no_stop n e.event idle));
}

-- 3. What holds of each entry and of an idle one is joined along a run

-- P holds of what is seen of the disk of two machines, where it is there
abbrev Both : (DiskSeen → DiskSeen → Type 0) → Option DiskSeen → Option DiskSeen → Type 0
Both P o p = IsSomeAnd o (λ a. IsSomeAnd p (λ b. P a b))

both-there : (P : DiskSeen → DiskSeen → Type 0) (o p : Option DiskSeen) → Both P o p → is_some p ≡ true
both-there P None p both = absurd both
both-there P (Some a) None both = absurd both
both-there P (Some a) (Some b) both = refl

both-same : (P : DiskSeen → DiskSeen → Type 0) (o p : Option DiskSeen) → is_some o ≡ true → p ≡ o → ((d : DiskSeen) → P d d) → Both P o p
both-same P None p there same each = absurd (let bad : false ≡ true = there in cc bad)
both-same P (Some d) p there same each = subst (Both P (Some d)) (sym same) (each d)

both-more : (P Q R : DiskSeen → DiskSeen → Type 0) (o m p : Option DiskSeen)
    → ((a b c : DiskSeen) → P a b → Q b c → R a c) → Both P o m → Both Q m p → Both R o p
both-more P Q R None m p join one more = absurd one
both-more P Q R (Some a) None p join one more = absurd one
both-more P Q R (Some a) (Some b) None join one more = absurd more
both-more P Q R (Some a) (Some b) (Some c) join one more = join a b c one more

both-if : (P : DiskSeen → DiskSeen → Type 0) (o p : Option DiskSeen) → is_some o ≡ true → IfSome o (λ a. IsSomeAnd p (λ b. P a b))
    → Both P o p
both-if P None p there h = absurd (let bad : false ≡ true = there in cc bad)
both-if P (Some a) p there h = h

both-each : (P Q : DiskSeen → DiskSeen → Type 0) (o p : Option DiskSeen) → ((a b : DiskSeen) → P a b → Q a b) → Both P o p → Both Q o p
both-each P Q None p each both = absurd both
both-each P Q (Some a) None each both = absurd both
both-each P Q (Some a) (Some b) each both = each a b both

pub both-at : (P : DiskSeen → DiskSeen → Type 0) (o p : Option DiskSeen) (a b : DiskSeen) → o ≡ Some a → p ≡ Some b → Both P o p → P a b
both-at P o p a b was is both = subst (λ (q : Option DiskSeen). Both P (Some a) q) is (subst (λ (q : Option DiskSeen). Both P q p) was both)

-- 4. Whatever world the machine stands for

abbrev RoseAll : List Entry → ℕ → DiskSeen → DiskSeen → Type 0
RoseAll history n a b = Rose history n a.counts b.counts

abbrev RoseOne : Entry → ℕ → DiskSeen → DiskSeen → Type 0
RoseOne e n a b = RoseOnce e n a.counts b.counts

rose-one : {M : Type 0} (obeys : Bool) (n : ℕ) (shows : Shows M) (disk : M → Option DiskSeen) → EachShown obeys n shows disk
    → (old new : M) (e : Entry) → is_some (disk old) ≡ true → ShowsOne shows old e new → Both (RoseOne e n) (disk old) (disk new)
rose-one obeys n shows disk each old new e there (inl shown) = both-each (EntryShows obeys n e) (RoseOne e n) (disk old) (disk new)
    (λ a b x. once-shown obeys n e a b x) (both-if (EntryShows obeys n e) (disk old) (disk new) there (each old new e shown))
rose-one obeys n shows disk each old new e there (inr idle) =
    both-same (RoseOne e n) (disk old) (disk new) there (ap disk idle.1) (λ d. once-idle n e d idle.0)

rose-all : {M : Type 0} (obeys : Bool) (n : ℕ) (shows : Shows M) (disk : M → Option DiskSeen) → EachShown obeys n shows disk
    → (history : List Entry) (first last : M) → is_some (disk first) ≡ true → ShowsAll shows first history last
    → Both (RoseAll history n) (disk first) (disk last)
rose-all obeys n shows disk each [] first last there same =
    both-same (RoseAll [] n) (disk first) (disk last) there (ap disk same) (λ d. rose-none n d.counts)
rose-all obeys n shows disk each (e ∷ history) first last there (between, one, more) =
    both-more (RoseOne e n) (RoseAll history n) (RoseAll (e ∷ history) n) (disk first) (disk between) (disk last)
    (λ a b c x y. rose-more e history n a.counts b.counts c.counts x y) here
    (rose-all obeys n shows disk each history between last (both-there (RoseOne e n) (disk first) (disk between) here) more)
  where
    here : Both (RoseOne e n) (disk first) (disk between)
    here = rose-one obeys n shows disk each first between e there one

-- each fault and each stop is shown
pub shows-each : {M : Type 0} (obeys told : Bool) (n : ℕ) (shows : Shows M) (disk : M → Option DiskSeen) → EachShown obeys n shows disk
    → (history : List Entry) (first last : M) (x y : DiskSeen) → disk first ≡ Some x → disk last ≡ Some y
    → ShowsAll shows first history last → ShowsEach history n (disk_run told x y)
shows-each obeys told n shows disk each history first last x y was is all =
    let rose = both-at (RoseAll history n) (disk first) (disk last) x y was is
    (rose-all obeys n shows disk each history first last (ap is_some was) all) in
    record { faults = rose.faults; stops = rose.stops }

-- behind the last entry the disk is left
is-left : {M : Type 0} (obeys : Bool) (whole : Whole M) (leaves : Leaves M) (disk : M → Option DiskSeen) → EachLeft obeys leaves disk
    → (old new : M) (a b : DiskSeen) → disk old ≡ Some a → disk new ≡ Some b → IsLeft whole leaves old new → IsLeftOf obeys a b
is-left obeys whole leaves disk each old new a b was is (inl left) =
    subst (λ (q : Option DiskSeen). IfSome q (IsLeftOf obeys a)) is
    (subst (λ (q : Option DiskSeen). IfSome q (λ c. IfSome (disk new) (IsLeftOf obeys c))) was (each old new left))
is-left obeys whole leaves disk each old new a b was is (inr same) =
    let equal : Some b ≡ Some a = sym is ∙ ap disk same.0 ∙ was in
    let these : b ≡ a = cc equal in
    subst (IsLeftOf obeys a) (sym these) (left-same obeys a)

at-least : (shown before mid after : ℕ) → RoseBy shown before mid → mid ≤ after → after < 2 ^ 64 - 1 → before + shown ≤ after
at-least shown before mid after rose low below = let is : mid ≡ before + shown = rose (omega (arith, low, below)) in omega (arith, is, low)

-- none is made up
pub shows-no_more : {M : Type 0} (obeys told : Bool) (n : ℕ) (shows : Shows M) (whole : Whole M) (leaves : Leaves M)
    (disk : M → Option DiskSeen) → EachShown obeys n shows disk → EachLeft obeys leaves disk → (history : List Entry) (first last : M)
    (x y : DiskSeen) → disk first ≡ Some x → disk last ≡ Some y → ShowsPart shows whole leaves first history last
    → ShowsNoMore history n (disk_run told x y)
shows-no_more obeys told n shows whole leaves disk each left history first last x y was is (between, all, rest) =
    go (disk between) refl (rose-all obeys n shows disk each history first between (ap is_some was) all)
  where
    go : (o : Option DiskSeen) → disk between ≡ o → Both (RoseAll history n) (disk first) (disk between)
        → ShowsNoMore history n (disk_run told x y)
    go None none both = absurd (let bad : false ≡ true = sym (ap is_some none)
        ∙ both-there (RoseAll history n) (disk first) (disk between) both in cc bad)
    go (Some m) there both =
        let rose = both-at (RoseAll history n) (disk first) (disk between) x m was there both in
        let falls = (is-left obeys whole leaves disk left between last m y there is rest).counts in
        record {
          faults = λ below. at-least (number_of (shows_fault n) history) x.counts.faults m.counts.faults y.counts.faults rose.faults
              falls.faults below;
          stops = λ below. at-least (number_of (shows_stop n) history) x.counts.stops m.counts.stops y.counts.stops rose.stops
              falls.stops below;
        }

-- 5. In the worlds of a history, where an idle entry touches no disk

shown-idle : (obeys : Bool) (n : ℕ) (s : Step) (d : DiskSeen) → (0 == n) ≡ false → is_idle s.entry.event ≡ true → IsStill s
    → EntryShows obeys n s.entry d d
shown-idle obeys n s d some idle still = entry-elsewhere obeys n s.entry d
    (ap (λ m. m == n) (idle-shows_none s.entry.event idle) ∙ some) (ap (λ m. m == n) still.disk ∙ some)

run-one : {M : Type 0} (obeys : Bool) (n : ℕ) (shows : Shows M) (disk : M → Option DiskSeen) → (0 == n) ≡ false
    → EachShown obeys n shows disk → (old new : M) (s : Step) → is_some (disk old) ≡ true → StillIfIdle s
    → ShowsOne shows old s.entry new → Both (EntryShows obeys n s.entry) (disk old) (disk new)
run-one obeys n shows disk some each old new s there still (inl shown) =
    both-if (EntryShows obeys n s.entry) (disk old) (disk new) there (each old new s.entry shown)
run-one obeys n shows disk some each old new s there still (inr idle) =
    both-same (EntryShows obeys n s.entry) (disk old) (disk new) there (ap disk idle.1)
    (λ d. shown-idle obeys n s d some idle.0 (still idle.0))

run-shows : {M : Type 0} (obeys : Bool) (n : ℕ) (shows : Shows M) (disk : M → Option DiskSeen) → (0 == n) ≡ false
    → EachShown obeys n shows disk → (p : Position) (past : List Step) (history : List Entry) (first last : M)
    → is_some (disk first) ≡ true → EachStep (λ past s. StillIfIdle s) past (steps p history) → ShowsAll shows first history last
    → Both (RunShows obeys n (steps p history)) (disk first) (disk last)
run-shows obeys n shows disk some each p past [] first last there still same =
    both-same (RunShows obeys n []) (disk first) (disk last) there (ap disk same) (λ d. refl)
run-shows obeys n shows disk some each p past (e ∷ es) first last there still (between, one, more) =
    both-more (EntryShows obeys n e) (RunShows obeys n (steps (lead p e) es)) (RunShows obeys n (steps p (e ∷ es)))
    (disk first) (disk between) (disk last) (λ a b c x y. (b, x, y)) here
    (run-shows obeys n shows disk some each (lead p e) (step ∷ past) es between last
    (both-there (EntryShows obeys n e) (disk first) (disk between) here) still.1 more)
  where
    step : Step
    step = record { world = p.world; entry = e; later = (lead p e).world }

    here : Both (EntryShows obeys n e) (disk first) (disk between)
    here = run-one obeys n shows disk some each first between step there still.0 one

-- each has its command
pub commands-shown : {M : Type 0} (obeys : Bool) (n : ℕ) (shows : Shows M) (disk : M → Option DiskSeen) → (0 == n) ≡ false
    → EachShown obeys n shows disk → (p : Position) (history : List Entry) (first last : M) (x y : DiskSeen)
    → disk first ≡ Some x → disk last ≡ Some y → EachStep (λ past s. StillIfIdle s) [] (steps p history)
    → ShowsAll shows first history last → EachHasItsCommand (steps p history) n (disk_run obeys x y)
commands-shown obeys n shows disk some each p history first last x y was is still all =
    has-commands (steps p history) n (disk_run obeys x y) y
    (both-at (RunShows obeys n (steps p history)) (disk first) (disk last) x y was is
    (run-shows obeys n shows disk some each p [] history first last (ap is_some was) still all))
    (level y.counts y.counts refl)

-- of which the last is any disk that came of no other than these
run-to : {M : Type 0} (obeys : Bool) (n : ℕ) (shows : Shows M) (disk : M → Option DiskSeen) → (0 == n) ≡ false
    → EachShown obeys n shows disk → (p : Position) (history : List Entry) (first last : M) (x y : DiskSeen)
    → disk first ≡ Some x → disk last ≡ Some y → EachStep (λ past s. StillIfIdle s) [] (steps p history)
    → ShowsAll shows first history last → RunShows obeys n (steps p history) x y
run-to obeys n shows disk some each p history first last x y was is still all =
    both-at (RunShows obeys n (steps p history)) (disk first) (disk last) x y was is
    (run-shows obeys n shows disk some each p [] history first last (ap is_some was) still all)

-- it is armed as they asked
pub armed-shown : {M : Type 0} (obeys : Bool) (n : ℕ) (shows : Shows M) (disk : M → Option DiskSeen) → (0 == n) ≡ false
    → EachShown obeys n shows disk → (p : Position) (history : List Entry) (first last : M) (x y : DiskSeen)
    → disk first ≡ Some x → disk last ≡ Some y → EachStep (λ past s. StillIfIdle s) [] (steps p history)
    → ShowsAll shows first history last → IsLeftArmed (steps p history) n (disk_run obeys x y)
armed-shown obeys n shows disk some each p history first last x y was is still all =
    left-armed n p history (disk_run obeys x y) y (run-to obeys n shows disk some each p history first last x y was is still all)
    (λ does. refl)

-- and where no memory was found behind them, each has its command all the same, the clocks are as they were, and it is armed as they asked
pub record PartShows (p : Position) (history : List Entry) (n : ℕ) (d : DiskRun) : Type 0 where
  pub commands : EachHasItsCommand (steps p history) n d
  pub counted : EachShowsClockBefore (steps p history) n d
  pub armed : IsLeftArmed (steps p history) n d

pub clocks-shown : {M : Type 0} (obeys : Bool) (n : ℕ) (shows : Shows M) (disk : M → Option DiskSeen) → (0 == n) ≡ false
    → EachShown obeys n shows disk → (p : Position) (history : List Entry) (first last : M) (x y : DiskSeen)
    → disk first ≡ Some x → disk last ≡ Some y → EachStep (λ past s. StillIfIdle s) [] (steps p history)
    → ShowsAll shows first history last → EachShowsClockBefore (steps p history) n (disk_run obeys x y)
clocks-shown obeys n shows disk some each p history first last x y was is still all =
    shows-clocks n p history (disk_run obeys x y) y (run-to obeys n shows disk some each p history first last x y was is still all)

pub part-shown : {M : Type 0} (obeys : Bool) (n : ℕ) (shows : Shows M) (whole : Whole M) (leaves : Leaves M) (disk : M → Option DiskSeen)
    → (0 == n) ≡ false → EachShown obeys n shows disk → EachLeft obeys leaves disk → (p : Position) (history : List Entry) (first last : M)
    (x y : DiskSeen) → disk first ≡ Some x → disk last ≡ Some y → EachStep (λ past s. StillIfIdle s) [] (steps p history)
    → ShowsPart shows whole leaves first history last → PartShows p history n (disk_run obeys x y)
part-shown obeys n shows whole leaves disk some each left p history first last x y was is still (between, all, rest) =
    go (disk between) refl
  where
    both : Both (RunShows obeys n (steps p history)) (disk first) (disk between)
    both = run-shows obeys n shows disk some each p [] history first between (ap is_some was) still all

    go : (o : Option DiskSeen) → disk between ≡ o → PartShows p history n (disk_run obeys x y)
    go None none = absurd (let bad : false ≡ true = sym (ap is_some none)
        ∙ both-there (RunShows obeys n (steps p history)) (disk first) (disk between) both in cc bad)
    go (Some m) there =
        let run = both-at (RunShows obeys n (steps p history)) (disk first) (disk between) x m was there both in
        let behind = is-left obeys whole leaves disk left between last m y there is rest in
        record {
          commands = has-commands (steps p history) n (disk_run obeys x y) m run behind.counts;
          counted = shows-clocks n p history (disk_run obeys x y) m run;
          armed = left-armed n p history (disk_run obeys x y) m run (λ does. sym (behind.due does));
        }
