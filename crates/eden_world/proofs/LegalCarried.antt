-- A program that began over disks that were handed in, and carried a fit script: its run is legal, and so far where memory was wanting.
use Rattle.std.proofs.Common.{◌≡◌, ◌≤◌, inl, inr, ℕ, ◌+◌, Bool, true, false, List, [], length, refl, sym, subst, arith}
use Rattle.std.specs.Prelude.{IsTrue}
use Rattle.epl_syntax.specs.Rules.OfTypes.{names_of}
use Rattle.passive_store.specs.Kept.{Layout}
use Rattle.passive_store.specs.Seen.{Seen, DiskSeen}
use Rattle.journal.specs.declared.command.Script.{Script}
use Rattle.journal.specs.declared.event.Entry.{Entry}
use Rattle.journal.specs.Faults.{ShowsEach, ShowsNoMore}
use Rattle.journal.specs.LegalRun.{AreToldFor, EachDisk, IsLegalRun, IsLegalSoFar, end_over, opening_world}
use Rattle.journal.specs.Opening.{most_changes}
use Rattle.journal.specs.Standing.{DiskRun}
use Rattle.runs.specs.Machines.{IsLeft, ShowsAll}
use Rattle.runs.specs.Room.{most_entries}
use Rattle.runs.specs.Runs.{CarriesAll, CarriesPart, IsCutShort, IsDone, KeepsShown, KeepsShownSoFar, MayBegin}
use Rattle.runs.specs.declared.run.Run.{Run}
use Rattle.runs.proofs.Reaching.{may-begin}
use Rattle.eden_world.specs.InHand.{Did, Ends, Stands}
use Rattle.eden_world.specs.Legal.{IsAtStart, IsInOrder, disk_runs}
use Rattle.eden_world.specs.Opened.{IsOpened}
use Rattle.eden_world.specs.Seated.{AreGiven, EachShows, FitsTogether, IsSeated, KeepsDisks, heeds}
use Rattle.eden_world.specs.declared.World.{World as Program}
use Rattle.eden_world.proofs.Beginnings.{begins-stands}
use Rattle.eden_world.proofs.Legal.{faults-shown, faults-shown_so_far, legal-part, legal-run, there-along}
use Rattle.eden_world.proofs.DiskPairs.{runs-length}
use Rattle.eden_world.proofs.LeftRoom.{leave-room, leave-room-part}
use Rattle.eden_world.proofs.OpenedRuns.{opened-runs}

-- 1. The run may begin

may-carry : {T D : Type 0} (tells obeys : Bool) (layout : Layout) (seen : T → Seen) (look : D → DiskSeen) (script : Script)
    (before after : List D) (run : Run (Program T D)) (spare : ℕ) → IsInOrder tells obeys layout look script before after
    → IsAtStart script before run
    → AreToldFor layout (most_entries script.nodes script.commands + spare) (disk_runs obeys look before after)
    → MayBegin (Stands tells layout seen look) run (opening_world layout script (disk_runs obeys look before after))
    (names_of script.types) script.nodes script.commands spare
may-carry tells obeys layout seen look script before after run spare order new told =
    may-begin (Stands tells layout seen look) run layout script runs spare order.its_layout order.handed_in order.fit
    (subst (λ m. script.nodes ≤ m) (sym (runs-length obeys look before after order.given)) order.enough) new.history new.turns new.last new.again (
      most,
      omega arith,
      begins-stands tells layout seen look script.types before run.machine new.begins script runs most order.telling refl
          opened told,
    )
  where
    runs : List DiskRun
    runs = disk_runs obeys look before after

    most : ℕ
    most = most_entries script.nodes script.commands + spare

    opened : IsOpened layout look before runs
    opened = opened-runs obeys layout look before after order.its_layout order.reads order.handed_in
        (let first = order.fit.nodes.0 in omega (arith, first, order.enough)) order.places order.given order.sized

-- as fit images have it, the room is told for all that the script gives
told-enough : {D : Type 0} (tells obeys : Bool) (layout : Layout) (look : D → DiskSeen) (script : Script) (before after : List D)
    → IsInOrder tells obeys layout look script before after
    → AreToldFor layout (most_entries script.nodes script.commands + 0) (disk_runs obeys look before after)
told-enough tells obeys layout look script before after order n d there kept map opens =
    omega (arith, order.few, (order.handed_in n d there).fit.room_is_told kept map opens)

-- and for more, where it is told for more
told-besides : {D : Type 0} (tells obeys : Bool) (layout : Layout) (look : D → DiskSeen) (script : Script) (before after : List D)
    (more : ℕ) → IsInOrder tells obeys layout look script before after
    → AreToldFor layout (most_changes + more) (disk_runs obeys look before after)
    → AreToldFor layout (most_entries script.nodes script.commands + more) (disk_runs obeys look before after)
told-besides tells obeys layout look script before after more order told n d there kept map opens =
    omega (arith, order.few, told n d there kept map opens)

-- nothing was shown before it
pub none-shown : {T D : Type 0} (obeys : Bool) (seen : T → Seen) (look : D → DiskSeen) (run : Run (Program T D)) → run.history.items ≡ []
    → ShowsAll (EachShows obeys seen look) run.machine run.history.items run.machine
none-shown obeys seen look run none =
    subst (λ (h : List Entry). ShowsAll (EachShows obeys seen look) run.machine h run.machine) (sym none) refl

-- over disks that tell, what is shown was due if they obey
heeds-telling : (tells obeys : Bool) → IsTrue tells → heeds tells obeys ≡ obeys
heeds-telling true obeys telling = refl
heeds-telling false obeys telling = absurd (let bad : false ≡ true = telling in cc bad)

-- 2. It came to its end

pub carried-legal : {T D : Type 0} (tells obeys : Bool) (layout : Layout) (seen : T → Seen) (look : D → DiskSeen) (script : Script)
    (before after : List D) (old new : Run (Program T D)) → IsInOrder tells obeys layout look script before after
    → IsAtStart script before old → CarriesAll (Stands tells layout seen look) (Did layout seen look) old new script.nodes script.commands
    → KeepsShown (EachShows (heeds tells obeys) seen look) old new → AreGiven seen look new.machine after
    → IsLegalRun layout script (disk_runs obeys look before after) new.history.items
carried-legal tells obeys layout seen look script before after old new order first carries shows given =
    legal-run tells obeys layout seen look script script.types before after old.machine new order.its_layout order.fit order.handed_in
    order.places first.begins (done 0 (told-enough tells obeys layout look script before after order))
    (subst (λ b. KeepsShown (EachShows b seen look) old new) (heeds-telling tells obeys order.telling) shows old.machine
    (none-shown obeys seen look old first.history)) given
    (λ more told. let stays = (done more (told-besides tells obeys layout look script before after more order told)).stays in
    leave-room tells obeys layout seen look script.types before after old.machine new.machine
    (end_over layout script (disk_runs obeys look before after) new.history.items) more stays.0 order.places first.begins given stays.1 stays.2)
  where
    done : (spare : ℕ) → AreToldFor layout (most_entries script.nodes script.commands + spare) (disk_runs obeys look before after)
        → IsDone (Stands tells layout seen look) (Did layout seen look) old.machine new
        (opening_world layout script (disk_runs obeys look before after)) script.nodes script.commands spare
    done spare told = carries (opening_world layout script (disk_runs obeys look before after)) (names_of script.types) spare
        (may-carry tells obeys layout seen look script before after old spare order first told)

-- its faults are shown over disks that need not tell as well
pub carried-shows : {T D : Type 0} (obeys told : Bool) (seen : T → Seen) (look : D → DiskSeen) (script : Script) (before after : List D)
    (old new : Run (Program T D)) → length before ≤ 8 → IsAtStart script before old → KeepsShown (EachShows obeys seen look) old new
    → AreGiven seen look new.machine after → EachDisk (disk_runs told look before after) (ShowsEach new.history.items)
carried-shows obeys told seen look script before after old new few first shows given =
    faults-shown obeys told seen look script.types before after old.machine new.machine new.history.items few
    first.begins given (shows old.machine (none-shown obeys seen look old first.history))

-- 3. Want of memory ended it

pub carried-part : {T D : Type 0} (tells obeys : Bool) (layout : Layout) (seen : T → Seen) (look : D → DiskSeen) (script : Script)
    (before after : List D) (old new : Run (Program T D)) → IsInOrder tells obeys layout look script before after
    → IsAtStart script before old
    → CarriesPart (Stands tells layout seen look) (Did layout seen look) (Ends layout seen look) old new script.nodes script.commands
    → KeepsShownSoFar (EachShows (heeds tells obeys) seen look) (FitsTogether seen) (KeepsDisks (heeds tells obeys) seen look) old new
    → AreGiven seen look new.machine after → IsLegalSoFar layout script (disk_runs obeys look before after) new.history.items
carried-part tells obeys layout seen look script before after old new order first carries shows given =
    legal-part tells obeys layout seen look script script.types before after old.machine new order.its_layout order.fit order.handed_in
    order.places first.begins (cut 0 (told-enough tells obeys layout look script before after order))
    (subst (λ b. KeepsShownSoFar (EachShows b seen look) (FitsTogether seen) (KeepsDisks b seen look) old new)
    (heeds-telling tells obeys order.telling) shows old.machine (none-shown obeys seen look old first.history)) given
    (λ more told. let (between, all, stood, failed) =
    (cut more (told-besides tells obeys layout look script before after more order told)).came in
    leave-room-part tells obeys layout seen look script.types before after old.machine between new.machine
    (end_over layout script (disk_runs obeys look before after) new.history.items) more order.places
    first.begins given stood failed
    (there-along layout seen look script (disk_runs obeys look before after) old.machine between new.history.items
    (cut 0 (told-enough tells obeys layout look script before after order)).begins all))
  where
    cut : (spare : ℕ) → AreToldFor layout (most_entries script.nodes script.commands + spare) (disk_runs obeys look before after)
        → IsCutShort (Stands tells layout seen look) (Did layout seen look) (Ends layout seen look) old.machine new
        (opening_world layout script (disk_runs obeys look before after)) script.nodes script.commands spare
    cut spare told = carries (opening_world layout script (disk_runs obeys look before after)) (names_of script.types) spare
        (may-carry tells obeys layout seen look script before after old spare order first told)

pub carried-shows_so_far : {T D : Type 0} (obeys told : Bool) (seen : T → Seen) (look : D → DiskSeen) (script : Script)
    (before after : List D) (old new : Run (Program T D)) → length before ≤ 8 → IsAtStart script before old
    → KeepsShownSoFar (EachShows obeys seen look) (FitsTogether seen) (KeepsDisks obeys seen look) old new
    → AreGiven seen look new.machine after → EachDisk (disk_runs told look before after) (ShowsNoMore new.history.items)
carried-shows_so_far obeys told seen look script before after old new few first shows given =
    faults-shown_so_far obeys told seen look script.types before after old.machine new.machine new.history.items few
    first.begins given (shows old.machine (none-shown obeys seen look old first.history))

-- each disk is at its place then, so that they can be given back
left-seated : {T D : Type 0} (obeys : Bool) (seen : T → Seen) (look : D → DiskSeen) (old new : Program T D)
    → IsLeft (FitsTogether seen) (KeepsDisks obeys seen look) old new → IsSeated new
left-seated obeys seen look old new (inl left) = record { places = left.places; seated = left.seated }
left-seated obeys seen look old new (inr same) = record { places = same.1.places; seated = same.1.seated }

pub carried-seated : {T D : Type 0} (obeys : Bool) (seen : T → Seen) (look : D → DiskSeen) (old new : Run (Program T D))
    → old.history.items ≡ [] → KeepsShownSoFar (EachShows obeys seen look) (FitsTogether seen) (KeepsDisks obeys seen look) old new
    → IsSeated new.machine
carried-seated obeys seen look old new none shows =
    let part = shows old.machine (none-shown obeys seen look old none) in left-seated obeys seen look part.0 new.machine part.2

-- and so it is where the run came to its end
pub whole-seated : {T D : Type 0} (seen : T → Seen) (p : Program T D) → FitsTogether seen p → IsSeated p
whole-seated seen p whole = record { places = whole.places; seated = whole.seated }
