-- The whole run of a program over its disks is a legal run; and so far, where want of memory ended it.
use Rattle.std.proofs.Common.{◌≡◌, ◌==◌, ◌≤◌, ℕ, Bool, false, List, [], length, None, Some, is_some, sym, ap, subst, arith, true}
use Rattle.std.specs.Ordering.{nat_cmp}
use Rattle.std.proofs.lemmas.Bool.Decides.{nat_tests}
use Rattle.eden_model.specs.Map.{value_at, with_item}
use Rattle.epl_syntax.specs.Rules.OfTypes.{TypeList, names_of}
use Rattle.passive_store.specs.Kept.{Layout}
use Rattle.passive_store.specs.Layout.{IsLayout}
use Rattle.passive_store.specs.Seen.{Seen, DiskSeen}
use Rattle.journal.specs.declared.command.Script.{Script}
use Rattle.journal.specs.declared.event.Entry.{Entry}
use Rattle.journal.specs.Faults.{EachHasItsCommand, EachShowsClockBefore, IsLeftArmed, ShowsEach, ShowsNoMore}
use Rattle.journal.specs.Fit.{IsFit}
use Rattle.journal.specs.Laws.{EachDiskStands, LeaveRoom}
use Rattle.journal.specs.LegalRun.{AreHandedIn, EachDisk, EndsAt, IsLegalRun, IsLegalSoFar, end_over, numbered, opening_world, run_over}
use Rattle.journal.specs.Run.{Position, Step, EachStep, FollowsSoFar, beginning}
use Rattle.journal.specs.Standing.{DiskRun, StandsThroughout, nothing_added, unfinished}
use Rattle.journal.specs.Step.{clock_before}
use Rattle.journal.specs.World.{World, Node}
use Rattle.history_laws.proofs.LegalRuns.{runs-are-legal, runs-are-legal-so-far}
use Rattle.history_laws.proofs.Runs.{of-any, world-booting}
use Rattle.checkpoint.specs.Throughout.{StandsFirst}
use Rattle.runs.specs.Machines.{DidAll, ShowsAll, ShowsPart}
use Rattle.runs.specs.Runs.{IsCutShort, IsDone}
use Rattle.runs.specs.declared.run.Run.{Run}
use Rattle.eden_world.specs.InHand.{Did, Ends, Stands, in_hand}
use Rattle.eden_world.specs.Legal.{disk_run, disk_runs}
use Rattle.eden_world.specs.Seated.{AreGiven, Begins, EachShows, FitsTogether, KeepsDisks}
use Rattle.eden_world.specs.Worlds.{IsNumber}
use Rattle.eden_world.specs.declared.World.{World as Program}
use Rattle.eden_world.proofs.AlongRuns.{RunOn, run-on, throughout, throughout-part, run-there}
use Rattle.eden_world.proofs.DiskClocks.{ends-at}
use Rattle.eden_world.proofs.Falls.{node-of_disk}
use Rattle.eden_world.proofs.IdleSteps.{StillIfIdle, still-steps}
use Rattle.eden_world.proofs.LegalDisks.{IsAtPlace, at-place, clock-stands, did-on, disk_at, ends-on, left-on, shown-on}
use Rattle.eden_world.proofs.Numbers.{not-zero}
use Rattle.eden_world.proofs.Openings.{stands-first}
use Rattle.eden_world.proofs.ShownRuns.{PartShows, armed-shown, clocks-shown, commands-shown, part-shown, shows-each, shows-no_more}
use Rattle.eden_world.proofs.WrittenNone.{write-none}

-- 1. Faults, whatever world the program stands for, and over disks that need not tell

-- Each fault and each stop of a disk is shown once, and no other is shown.
pub faults-shown : {T D : Type 0} (obeys told : Bool) (seen : T → Seen) (look : D → DiskSeen) (types : TypeList) (before after : List D)
    (first last : Program T D) (history : List Entry) → length before ≤ 8 → Begins types before first → AreGiven seen look last after
    → ShowsAll (EachShows obeys seen look) first history last → EachDisk (disk_runs told look before after) (ShowsEach history)
faults-shown obeys told seen look types before after first last history few begins given shows n d there =
    let x = at-place told seen look types before after first last n d few begins given there in
    subst (λ (y : DiskRun). ShowsEach history n y) (sym x.run)
    (shows-each obeys told n (EachShows obeys seen look) (disk_at seen look n) (shown-on obeys seen look n x.number) history first last
    x.old x.new x.was x.is shows)

-- Where no memory was found none is made up.
pub faults-shown_so_far : {T D : Type 0} (obeys told : Bool) (seen : T → Seen) (look : D → DiskSeen) (types : TypeList)
    (before after : List D) (first last : Program T D) (history : List Entry) → length before ≤ 8 → Begins types before first
    → AreGiven seen look last after
    → ShowsPart (EachShows obeys seen look) (FitsTogether seen) (KeepsDisks obeys seen look) first history last
    → EachDisk (disk_runs told look before after) (ShowsNoMore history)
faults-shown_so_far obeys told seen look types before after first last history few begins given shows n d there =
    let x = at-place told seen look types before after first last n d few begins given there in
    subst (λ (y : DiskRun). ShowsNoMore history n y) (sym x.run)
    (shows-no_more obeys told n (EachShows obeys seen look) (FitsTogether seen) (KeepsDisks obeys seen look) (disk_at seen look n)
    (shown-on obeys seen look n x.number) (left-on obeys seen look n x.number) history first last x.old x.new x.was x.is shows)

-- 2. Where the run begins

abbrev start : Layout → Script → List DiskRun → Position
start layout script runs = beginning (opening_world layout script runs) script.nodes script.commands

still : (layout : Layout) (script : Script) (runs : List DiskRun) (history : List Entry)
    → FollowsSoFar (opening_world layout script runs) script.nodes script.commands history
    → EachStep (λ past s. StillIfIdle s) [] (run_over layout script runs history)
still layout script runs history begins =
    still-steps (start layout script runs) history (of-any 1 script.nodes (opening_world layout script runs) script.commands) begins

-- the disk of a place is there all along
pub there-along : {T D : Type 0} (layout : Layout) (seen : T → Seen) (look : D → DiskSeen) (script : Script) (runs : List DiskRun)
    (first last : Program T D) (history : List Entry) → FollowsSoFar (opening_world layout script runs) script.nodes script.commands history
    → DidAll (Did layout seen look) first (run_over layout script runs history) last → (n : ℕ) → IsNumber n
    → is_some (disk_at seen look n first) ≡ true → is_some (disk_at seen look n last) ≡ true
there-along layout seen look script runs first last history begins came n number there =
    run-there layout n (run_over layout script runs history) (disk_at seen look n first) (disk_at seen look n last)
    (run-on layout n (Did layout seen look) (disk_at seen look n) (not-zero n number) (did-on layout seen look n number)
    (run_over layout script runs history) [] first last there (still layout script runs history begins) came)

-- a crash leaves of each disk only what stands for the first state
first-state : (layout : Layout) (script : Script) (runs : List DiskRun) (n : ℕ) (obeys : Bool) (d : DiskRun) (x y : DiskSeen)
    → IsLayout layout → AreHandedIn layout runs → value_at nat_cmp n (numbered runs) ≡ Some d → d ≡ disk_run obeys x y
    → StandsFirst layout n (start layout script runs).world x.told
first-state layout script runs n obeys d x y lays handed there is =
    subst (λ w. StandsFirst layout n w x.told)
    (sym (world-booting 1 script.nodes (opening_world layout script runs) script.commands))
    (subst (λ (z : DiskRun). StandsFirst layout n (opening_world layout script runs) z.before) is
    (stands-first layout script runs lays handed n d there))

-- 3. A run that came to its end

-- what the run did to the disk of a place
along : {T D : Type 0} (obeys : Bool) (layout : Layout) (seen : T → Seen) (look : D → DiskSeen) (script : Script) (runs : List DiskRun)
    (first last : Program T D) (history : List Entry) (n : ℕ) (d : DiskRun) → (x : IsAtPlace obeys seen look first last n d)
    → FollowsSoFar (opening_world layout script runs) script.nodes script.commands history
    → DidAll (Did layout seen look) first (run_over layout script runs history) last
    → RunOn layout n (run_over layout script runs history) (Some x.old) (Some x.new)
along obeys layout seen look script runs first last history n d x begins came =
    subst (λ o. RunOn layout n (run_over layout script runs history) (Some x.old) o) x.is
    (subst (λ o. RunOn layout n (run_over layout script runs history) o (disk_at seen look n last)) x.was
    (run-on layout n (Did layout seen look) (disk_at seen look n) (not-zero n x.number) (did-on layout seen look n x.number)
    (run_over layout script runs history) [] first last (ap is_some x.was) (still layout script runs history begins) came))

-- the disk is given back right behind its last entry
right-behind : {T D : Type 0} (tells obeys : Bool) (layout : Layout) (seen : T → Seen) (look : D → DiskSeen) (script : Script)
    (runs : List DiskRun) (first last : Program T D) (history : List Entry) (more n : ℕ) (d : DiskRun)
    → (x : IsAtPlace obeys seen look first last n d) → FollowsSoFar (opening_world layout script runs) script.nodes script.commands history
    → DidAll (Did layout seen look) first (run_over layout script runs history) last
    → Stands tells layout seen look last more (end_over layout script runs history)
    → EndsAt (clock_before (end_over layout script runs history) n) (disk_run obeys x.old x.new)
right-behind tells obeys layout seen look script runs first last history more n d x begins came stands =
    let w : World = end_over layout script runs history in
    let it = node-of_disk layout more (in_hand seen look last) w n stands.world x.is in
    subst (λ o. EndsAt o (disk_run obeys x.old x.new)) (sym (ap (λ o. with_item o (λ (z : Node). z.clock) None) it.1))
    (ends-at layout n (start layout script runs) history (disk_run obeys x.old x.new) it.0 (later n x.number)
    (of-any 1 script.nodes (opening_world layout script runs) script.commands) begins
    (along obeys layout seen look script runs first last history n d x begins came) it.1
    (clock-stands layout more (in_hand seen look last) w n it.0 x.new stands.world it.1 x.is))
  where
    later : (m : ℕ) → IsNumber m → (m == 0) ≡ false
    later m number = let least : 1 ≤ m = number.first in grind (arith, nat_tests, least)

pub legal-run : {T D : Type 0} (tells obeys : Bool) (layout : Layout) (seen : T → Seen) (look : D → DiskSeen) (script : Script)
    (types : TypeList) (before after : List D) (first : Program T D) (run : Run (Program T D))
    → IsLayout layout → IsFit script → AreHandedIn layout (disk_runs obeys look before after) → length before ≤ 8
    → Begins types before first
    → IsDone (Stands tells layout seen look) (Did layout seen look) first run
    (opening_world layout script (disk_runs obeys look before after)) script.nodes script.commands 0
    → ShowsAll (EachShows obeys seen look) first run.history.items run.machine → AreGiven seen look run.machine after
    → LeaveRoom layout (disk_runs obeys look before after)
    → IsLegalRun layout script (disk_runs obeys look before after) run.history.items
legal-run tells obeys layout seen look script types before after first run lays fit handed few begins done shows given room =
    runs-are-legal layout script runs history lays handed
    (write-none (names_of script.types) script.nodes script.commands fit.commands) done.follows stand ends
    (faults-shown obeys obeys seen look types before after first run.machine history few begins given shows) commands
    counted armed room
  where
    runs : List DiskRun
    runs = disk_runs obeys look before after

    history : List Entry
    history = run.history.items

    run_is : List Step
    run_is = run_over layout script runs history

    last : World
    last = end_over layout script runs history

    at : (n : ℕ) (d : DiskRun) → value_at nat_cmp n (numbered runs) ≡ Some d → IsAtPlace obeys seen look first run.machine n d
    at n d there = at-place obeys seen look types before after first run.machine n d few begins given there

    stand : EachDiskStands layout last run_is nothing_added runs
    stand n d there = let x = at n d there in
        subst (λ (z : DiskRun). StandsThroughout layout last run_is nothing_added n z) (sym x.run)
        (throughout layout n (start layout script runs) history obeys x.old x.new
        (first-state layout script runs n obeys d x.old x.new lays handed there x.run)
        (along obeys layout seen look script runs first run.machine history n d x done.follows.leads done.came))

    ends : EachDisk runs (λ n d. EndsAt (clock_before last n) d)
    ends n d there = let x = at n d there in
        subst (λ (z : DiskRun). EndsAt (clock_before last n) z) (sym x.run)
        (right-behind tells obeys layout seen look script runs first run.machine history done.stays.0 n d x done.follows.leads done.came
        done.stays.2)

    commands : EachDisk runs (EachHasItsCommand run_is)
    commands n d there = let x = at n d there in
        subst (λ (z : DiskRun). EachHasItsCommand run_is n z) (sym x.run)
        (commands-shown obeys n (EachShows obeys seen look) (disk_at seen look n) (not-zero n x.number)
        (shown-on obeys seen look n x.number) (start layout script runs) history first run.machine x.old x.new x.was x.is
        (still layout script runs history done.follows.leads) shows)

    counted : EachDisk runs (EachShowsClockBefore run_is)
    counted n d there = let x = at n d there in
        subst (λ (z : DiskRun). EachShowsClockBefore run_is n z) (sym x.run)
        (clocks-shown obeys n (EachShows obeys seen look) (disk_at seen look n) (not-zero n x.number)
        (shown-on obeys seen look n x.number) (start layout script runs) history first run.machine x.old x.new x.was x.is
        (still layout script runs history done.follows.leads) shows)

    armed : EachDisk runs (IsLeftArmed run_is)
    armed n d there = let x = at n d there in
        subst (λ (z : DiskRun). IsLeftArmed run_is n z) (sym x.run)
        (armed-shown obeys n (EachShows obeys seen look) (disk_at seen look n) (not-zero n x.number)
        (shown-on obeys seen look n x.number) (start layout script runs) history first run.machine x.old x.new x.was x.is
        (still layout script runs history done.follows.leads) shows)

-- 4. One that want of memory ended

pub legal-part : {T D : Type 0} (tells obeys : Bool) (layout : Layout) (seen : T → Seen) (look : D → DiskSeen) (script : Script)
    (types : TypeList) (before after : List D) (first : Program T D) (run : Run (Program T D))
    → IsLayout layout → IsFit script → AreHandedIn layout (disk_runs obeys look before after) → length before ≤ 8
    → Begins types before first
    → IsCutShort (Stands tells layout seen look) (Did layout seen look) (Ends layout seen look) first run
    (opening_world layout script (disk_runs obeys look before after)) script.nodes script.commands 0
    → ShowsPart (EachShows obeys seen look) (FitsTogether seen) (KeepsDisks obeys seen look) first run.history.items run.machine
    → AreGiven seen look run.machine after → LeaveRoom layout (disk_runs obeys look before after)
    → IsLegalSoFar layout script (disk_runs obeys look before after) run.history.items
legal-part tells obeys layout seen look script types before after first run lays fit handed few begins cut shows given room =
    runs-are-legal-so-far layout script runs history lays handed
    (write-none (names_of script.types) script.nodes script.commands fit.commands) cut.begins stand
    (faults-shown_so_far obeys obeys seen look types before after first run.machine history few begins given shows)
    (λ n d there. let x = at n d there in
    subst (λ (z : DiskRun). EachHasItsCommand run_is n z) (sym x.run) (part n d x).commands)
    (λ n d there. let x = at n d there in
    subst (λ (z : DiskRun). EachShowsClockBefore run_is n z) (sym x.run) (part n d x).counted)
    (λ n d there. let x = at n d there in
    subst (λ (z : DiskRun). IsLeftArmed run_is n z) (sym x.run) (part n d x).armed)
    room
  where
    runs : List DiskRun
    runs = disk_runs obeys look before after

    history : List Entry
    history = run.history.items

    run_is : List Step
    run_is = run_over layout script runs history

    last : World
    last = end_over layout script runs history

    at : (n : ℕ) (d : DiskRun) → value_at nat_cmp n (numbered runs) ≡ Some d → IsAtPlace obeys seen look first run.machine n d
    at n d there = at-place obeys seen look types before after first run.machine n d few begins given there

    stand : EachDiskStands layout last run_is (unfinished last) runs
    stand n d there = let x = at n d there in
        subst (λ (z : DiskRun). StandsThroughout layout last run_is (unfinished last) n z) (sym x.run)
        (throughout-part layout n 0 (Stands tells layout seen look) (Did layout seen look) (Ends layout seen look) (disk_at seen look n) (start layout script runs) history
        first run.machine obeys x.old x.new (not-zero n x.number) (did-on layout seen look n x.number) (ends-on layout seen look n x.number)
        (still layout script runs history cut.begins) (first-state layout script runs n obeys d x.old x.new lays handed there x.run)
        x.was x.is cut.came)

    part : (n : ℕ) (d : DiskRun) → (x : IsAtPlace obeys seen look first run.machine n d)
        → PartShows (start layout script runs) history n (disk_run obeys x.old x.new)
    part n d x = part-shown obeys n (EachShows obeys seen look) (FitsTogether seen) (KeepsDisks obeys seen look) (disk_at seen look n)
        (not-zero n x.number) (shown-on obeys seen look n x.number) (left-on obeys seen look n x.number) (start layout script runs) history first
        run.machine x.old x.new x.was x.is (still layout script runs history cut.begins) shows
