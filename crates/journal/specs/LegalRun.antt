-- The statement about a whole run: its history follows the script, every start is whole, no other Eject is rolled back, only
-- granted capabilities are used, no uid is given twice, and each disk stands for the history at every moment.
use Rattle.std.specs.Prelude.{◌≡◌, ◌≢◌, ◌⊎◌, ℕ, ◌+◌, ◌==◌, true, false, List, [], ◌∷◌, map, Option, None, Some, is_some, IsTrue, ◌<◌}
use Rattle.std.specs.Prelude.{IsSomeAnd}
use Rattle.std.specs.List.{All}
use Rattle.std.specs.Ordering.{nat_cmp}
use Rattle.capability.specs.declared.Uid.{Uid}
use Rattle.eden_model.specs.Map.{with_item, value_at}
use Rattle.eden_disk.specs.Told.{contents, Left, LeavesOnly}
use Rattle.passive_store.specs.declared.store.Pick.TheVariants as pick
use Rattle.passive_store.specs.Kept.{Layout}
use Rattle.journal.specs.declared.command.Script.{Script}
use Rattle.journal.specs.declared.event.Event.{Event}
use Rattle.journal.specs.declared.event.Event.TheVariants as event
use Rattle.journal.specs.declared.event.Entry.{Entry}
use Rattle.journal.specs.declared.event.Shown.TheVariants as shown
use Rattle.journal.specs.declared.event.StartEnd.TheVariants as start_end
use Rattle.journal.specs.declared.event.RequestEnd.TheVariants as request_end
use Rattle.epl_syntax.specs.Meaning.{types_in}
use Rattle.journal.specs.World.{World, eject_at, is_active_at}
use Rattle.journal.specs.Step.{clock_before}
use Rattle.journal.specs.Run.{Follows, FollowsSoFar, Step, EachStep, beginning, steps, world_after}
use Rattle.journal.specs.Opening.{opening, most_changes, IsToldFor, IsFitFor}
use Rattle.journal.specs.Kept.{start_bytes, crashes, picked}
use Rattle.journal.specs.Standing.{DiskRun, Added, StandsThroughout, nothing_added, unfinished}
use Rattle.journal.specs.Faults.{ShowsEach, ShowsNoMore, EachHasItsCommand, EachShowsClockBefore, IsLeftArmed}
use Rattle.journal.specs.Granted.{AllGranted, uses, kept_after_pick}

-- 1. Every start is whole

-- the bytes that are kept of the Eject, if there are any
abbrev pub kept_at : World → Uid → Option (List ℕ)
kept_at w u = with_item (eject_at w u) (λ e. e.kept) None

-- what an `ok` activation finds kept is what the opening world, the past and its own pick say; of other events nothing is asked
abbrev pub StartIsWhole : World → List Step → Step → Event → Type 0
StartIsWhole opening past s (event.Activate u start_end.Ok p) =
    kept_after_pick s.world u (event.Activate u start_end.Ok p) ≡ start_bytes (kept_at opening u) u p past
StartIsWhole opening past s _ = Unit {0}

-- 2. No other Eject is rolled back

-- the event ends a put or a removal of u, or a pick of New settles one
abbrev pub ChangesKept : World → Uid → Event → Type 0
ChangesKept w u (event.Store v clock request_end.Done p) = v ≡ u
ChangesKept w u e = (picked u.node e ≡ Some pick.New) × IsTrue (with_item (eject_at w u) (λ e. is_some e.doubt) false)

-- the step changes what is kept only where it ends or settles a change of that Eject, and a crash ends active parts of its node only
pub record NoneRolledBack (s : Step) : Type 0 where
  -- what is kept of an Eject changes only by its own put or removal, acknowledged or found done
  pub kept : (u : Uid) → (kept_at s.later u ≡ kept_at s.world u) ⊎ ChangesKept s.world u s.entry.event
  -- a crash or a stop takes no active part from an Eject of another node
  pub active : (n : ℕ) (u : Uid) → crashes n s.entry.event ≡ true → (u.node == n) ≡ false → is_active_at s.later u ≡ is_active_at s.world u

-- 3. No uid is given twice

-- the Eject that the event created, by a command or a process, if it created one
abbrev pub created_by : Event → Option Uid
created_by (event.Made name status u) = u
created_by (event.Process u p (shown.Created v)) = Some v
created_by _ = None

-- no step of the past created this Eject
abbrev pub NotCreatedIn : List Step → Uid → Type 0
NotCreatedIn [] u = Unit {0}
NotCreatedIn (s ∷ past) u = (created_by s.entry.event ≢ Some u) × NotCreatedIn past u

-- a created Eject is none that the world has, and so none that the images held; and none that was created before
abbrev pub IsNew : World → List Step → Option Uid → Type 0
IsNew w past None = Unit {0}
IsNew w past (Some u) = (eject_at w u ≡ None) × NotCreatedIn past u

-- 4. What every run keeps, whether it came to its end or not

-- what holds of the steps from the opening world to the last, over these disks; `added` is what may be under way on one besides
pub record IsSafeRun (layout : Layout) (opening last : World) (run : List Step) (added : Added) (disks : List (ℕ × DiskRun)) : Type 0 where
  -- an activation starts from what was kept last, or from what was cut short since
  pub starts_are_whole : EachStep (λ past s. StartIsWhole opening past s s.entry.event) [] run
  -- nothing else changes what is kept of an Eject, and no crash elsewhere ends its active part
  pub none_rolled_back : EachStep (λ past s. NoneRolledBack s) [] run
  -- each capability that an entry uses is below one that its user was granted before
  pub only_granted : EachStep (λ past s. AllGranted (uses s s.entry.event) past) [] run
  -- a created Eject is new
  pub no_uid_twice : EachStep (λ past s. IsNew s.world past (created_by s.entry.event)) [] run
  -- at each moment each disk stands for the history up to there
  pub each_disk_stands : (n : ℕ) (d : DiskRun) → value_at nat_cmp n disks ≡ Some d → StandsThroughout layout last run added n d

-- the disks with the numbers of their nodes, from n on, in ascending order
abbrev pub numbered_from : ℕ → List DiskRun → List (ℕ × DiskRun)
numbered_from n [] = []
numbered_from n (d ∷ disks) = (n, d) ∷ numbered_from (n + 1) disks

-- the same from 1 on, as nodes are numbered
abbrev pub numbered : List DiskRun → List (ℕ × DiskRun)
numbered disks = numbered_from 1 disks

-- the bytes of each disk as it is handed in, by the number of its node
abbrev pub images : List (ℕ × DiskRun) → List (ℕ × List ℕ)
images disks = map (λ d. (d.0, (contents d.1.before).now)) disks

-- the world begins with the types of the script and the images of the disks
abbrev pub opening_world : Layout → Script → List DiskRun → World
opening_world layout script disks = opening (types_in script.types) layout (images (numbered disks))

-- the entries of a history as steps, with the script begun in this world
abbrev pub run_of : World → Script → List Entry → List Step
run_of world script history = steps (beginning world script.nodes script.commands) history

-- the world behind such a history
abbrev pub last_world : World → Script → List Entry → World
last_world world script history = world_after world script.nodes script.commands history

-- the steps of a history of this script over these disks
abbrev pub run_over : Layout → Script → List DiskRun → List Entry → List Step
run_over layout script disks history = run_of (opening_world layout script disks) script history

-- the world behind a history over these disks, which is the opening one where it has no entry
abbrev pub end_over : Layout → Script → List DiskRun → List Entry → World
end_over layout script disks history = last_world (opening_world layout script disks) script history

-- 5. The run

-- P holds of each disk, by the number of its node
abbrev pub EachDisk : List DiskRun → (ℕ → DiskRun → Type 0) → Type 0
EachDisk disks P = (n : ℕ) (d : DiskRun) → value_at nat_cmp n (numbered disks) ≡ Some d → P n d

-- The last entry on a disk shows the clock with which the disk is given back, so that no device call is made behind it. A disk with no
-- entry is given back with the clock with which it was handed in.
abbrev pub EndsAt : Option ℕ → DiskRun → Type 0
EndsAt None d = d.last.clock ≡ d.first.clock
EndsAt (Some clock) d = d.last.clock ≡ clock

-- the room of each disk that is handed in is told for so many changes
abbrev pub AreToldFor : Layout → ℕ → List DiskRun → Type 0
AreToldFor layout more disks = EachDisk disks (λ n d. IsToldFor layout n more (contents d.before).now)

-- Where the room of each disk is told for so many changes besides those of this run, each image that a crash may leave of a disk as it is
-- given back is fit for so many: so a run may follow on it.
abbrev pub StayFit : Layout → List DiskRun → Type 0
StayFit layout disks = (more : ℕ) → AreToldFor layout (most_changes + more) disks
    → EachDisk disks (λ n d. LeavesOnly (IsFitFor layout n more) (contents d.after))

-- what the theorem says of the run of a script over disks that told what became of them, in the order of their nodes
pub record IsLegalRun (layout : Layout) (script : Script) (disks : List DiskRun) (history : List Entry) : Type 0 where
  -- the entries are those that the script gives, up to its end
  pub follows : Follows (opening_world layout script disks) script.nodes script.commands history
  -- and they keep what every run keeps
  pub safe : IsSafeRun layout (opening_world layout script disks) (end_over layout script disks history)
      (run_over layout script disks history) nothing_added (numbered disks)
  -- each disk is given back right behind its last entry
  pub ends : EachDisk disks (λ n d. EndsAt (clock_before (end_over layout script disks history) n) d)
  -- each fault and each stop of a disk is shown once, and no other is shown
  pub faults : EachDisk disks (ShowsEach history)
  -- where a disk fails and stops at no will but that of the script, each has its command
  pub commands : EachDisk disks (EachHasItsCommand (run_over layout script disks history))
  -- a power cut and an arming show the clock that the disk has then
  pub counted : EachDisk disks (EachShowsClockBefore (run_over layout script disks history))
  -- and each `fail` and each `stop` is asked of its disk, and nothing else is
  pub armed : EachDisk disks (IsLeftArmed (run_over layout script disks history))
  -- every image that may be left is fit, for as many changes as the room was told for besides
  pub fit : StayFit layout disks

-- and of a run that want of memory ended
pub record IsLegalSoFar (layout : Layout) (script : Script) (disks : List DiskRun) (history : List Entry) : Type 0 where
  -- the entries are those with which the script begins
  pub begins : FollowsSoFar (opening_world layout script disks) script.nodes script.commands history
  -- and they keep the same, with what was unfinished added to what each disk may stand for
  pub safe : IsSafeRun layout (opening_world layout script disks) (end_over layout script disks history)
      (run_over layout script disks history) (unfinished (end_over layout script disks history)) (numbered disks)
  -- no fault and no stop is made up
  pub faults : EachDisk disks (ShowsNoMore history)
  -- where a disk fails and stops at no will but that of the script, each has its command
  pub commands : EachDisk disks (EachHasItsCommand (run_over layout script disks history))
  -- a power cut and an arming show the clock that the disk has then
  pub counted : EachDisk disks (EachShowsClockBefore (run_over layout script disks history))
  -- and each `fail` and each `stop` of these entries is asked of its disk, and nothing else is
  pub armed : EachDisk disks (IsLeftArmed (run_over layout script disks history))
  -- every image that may be left is fit, for as many changes as the room was told for besides
  pub fit : StayFit layout disks

-- What is taken for granted of the disk that is handed in for node n, for so many changes. What a layout owes of every image is no part of
-- it (IsLayout).
pub record IsHandedInFor (layout : Layout) (n more : ℕ) (d : DiskRun) : Type 0 where
  -- no place of the disk is unsynced
  pub nothing_unsynced : (contents d.before).unsynced ≡ []
  -- a read sees what the last sync left
  pub same : (contents d.before).stable ≡ (contents d.before).now
  -- it holds bytes
  pub bytes : All (λ byte. byte < 256) (contents d.before).now
  -- these are an image that is fit for the node, and for so many changes
  pub fit : IsFitFor layout n more (contents d.before).now

-- each of the disks that are handed in
abbrev pub AreHandedInFor : Layout → ℕ → List DiskRun → Type 0
AreHandedInFor layout more disks = EachDisk disks (λ n d. IsHandedInFor layout n more d)

-- for all that a run can change
abbrev pub IsHandedIn : Layout → ℕ → DiskRun → Type 0
IsHandedIn layout n d = IsHandedInFor layout n most_changes d

-- each of them
abbrev pub AreHandedIn : Layout → List DiskRun → Type 0
AreHandedIn layout disks = EachDisk disks (IsHandedIn layout)

-- 6. The next run

-- The disk that is handed in next is at rest and holds bytes, an image that a crash may have left of this one as it was given back: so it
-- is behind a power cut and a restart.
pub record IsHandedOn (d next : DiskRun) : Type 0 where
  -- no place of the disk is unsynced
  pub nothing_unsynced : (contents next.before).unsynced ≡ []
  -- a read sees what the last sync left
  pub same : (contents next.before).stable ≡ (contents next.before).now
  -- it holds bytes
  pub bytes : All (λ byte. byte < 256) (contents next.before).now
  -- a crash may have left these
  pub left : Left (contents d.after) (contents next.before).now

-- each disk that is handed in next was given back by this run, for the same node
abbrev pub AreHandedOn : List DiskRun → List DiskRun → Type 0
AreHandedOn disks next = EachDisk next (λ n e. IsSomeAnd (value_at nat_cmp n (numbered disks)) (λ d. IsHandedOn d e))
