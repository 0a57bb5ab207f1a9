-- What the contract of each call of a twin says is the step of its command.
use Rattle.std.specs.Prelude.{◌≡◌, ◌≢◌, ℕ, ◌≤◌, ◌<◌, true, List, Option, Some, Ok, Err}
use Rattle.eden_disk.specs.Calls.{one_more}
use Rattle.eden_disk.specs.Told.{contents, Left}
use Rattle.passive_store.specs.Kept.{Layout}
use Rattle.passive_store.specs.Layout.{IsLayout}
use Rattle.passive_store.specs.Seen.{DiskSeen}
use Rattle.twin_store.specs.declared.served.TwinRefusal.{TwinRefusal}
use Rattle.twin_store.specs.declared.served.TwinRefusal.TheVariants.{Lost, OutOfMemory}
use Rattle.twin_store.specs.Sides.{is_in_use, disk_of, IsLostDisk}
use Rattle.twin_store.specs.Twins.{TwinSeen, TwinChanges, TwinGets, IsOpenedTwin, StaysVouched}
use Rattle.twin_world.specs.Logs.{Opened, Made, Refused, Entry, Texts, Change, texts_after, Pair, changed_by}
use Rattle.twin_world.specs.Logs.{looked_by, open_by, shut_by, ChangesSo, LooksSo, OpensSo}
use Rattle.twin_world.specs.InHand.{uid_of, asked_by, Serves, Rests, IsNoted, IsNotedOpening, found_by}

-- A change that is acknowledged leads to the pair and the texts behind it.
abbrev pub MadeIsStep : Type 0
MadeIsStep = (layout : Layout) (n : ℕ) (p : Pair) (m : Texts) (c : Change) (e : Entry) (old new : TwinSeen) → 1 ≤ c.serial
    → Serves layout n p m old → TwinChanges {T = Unit {0}} true layout (asked_by n (Some c)) (Ok tt) old new → IsNoted e old new
    → ChangesSo (Some c) Made e p m (texts_after (Some c) m) × Serves layout n (changed_by (Some c) Made e p) (texts_after (Some c) m) new

-- One that is refused, but for want of memory, closes the pair, and is begun.
abbrev pub RefusedIsStep : Type 0
RefusedIsStep = (layout : Layout) (n : ℕ) (p : Pair) (m : Texts) (c : Change) (r : TwinRefusal) (e : Entry) (old new : TwinSeen)
    → 1 ≤ c.serial → r ≢ OutOfMemory
    → Serves layout n p m old → TwinChanges {T = Unit {0}} true layout (asked_by n (Some c)) (Err r) old new → IsNoted e old new
    → ChangesSo (Some c) (Refused r) e p m m
    × Rests layout n (changed_by (Some c) (Refused r) e p) m (disk_of new.first) (disk_of new.second)

-- A look that is not refused gives what is held.
abbrev pub FoundIsStep : Type 0
FoundIsStep = (layout : Layout) (n : ℕ) (p : Pair) (m : Texts) (serial : ℕ) (body : Option (List ℕ)) (e : Entry) (old new : TwinSeen)
    → 1 ≤ serial → Serves layout n p m old → TwinGets true layout (uid_of n serial) (Ok body) old new → IsNoted e old new
    → LooksSo serial (found_by (Ok body)) e p m m × Serves layout n (looked_by (found_by (Ok body)) e p) m new

-- One that is refused, but for want of memory, closes the pair.
abbrev pub UnseenIsStep : Type 0
UnseenIsStep = (layout : Layout) (n : ℕ) (p : Pair) (m : Texts) (serial : ℕ) (r : TwinRefusal) (e : Entry) (old new : TwinSeen)
    → r ≢ OutOfMemory → Serves layout n p m old → TwinGets true layout (uid_of n serial) (Err r) old new → IsNoted e old new
    → LooksSo serial (found_by (Err r)) e p m m
    × Rests layout n (looked_by (found_by (Err r)) e p) m (disk_of new.first) (disk_of new.second)

-- A closing leaves two disks that stand for the closed pair.
abbrev pub ClosingIsStep : Type 0
ClosingIsStep = (layout : Layout) (n : ℕ) (p : Pair) (m : Texts) (t : TwinSeen)
    → Serves layout n p m t → Rests layout n (shut_by Made p) m (disk_of t.first) (disk_of t.second)

-- a crash now may leave what reads see, as is so of each disk, and the count of faults has not come to its end
abbrev pub IsWhole : DiskSeen → Type 0
IsWhole d = Left (contents d.told) (contents d.told).now × (d.counts.faults < one_more d.counts.faults)

-- An opening that is not refused gives what its command may give.
abbrev pub OpeningIsStep : Type 0
OpeningIsStep = (layout : Layout) (n : ℕ) (p : Pair) (m : Texts) (e : Entry) (first second : DiskSeen) (t : TwinSeen) → IsLayout layout
    → IsWhole first → IsWhole second → Rests layout n p m first second → IsOpenedTwin true layout n first second t
    → IsNotedOpening e first (disk_of t.first) second (disk_of t.second)
    → (x : Texts) × OpensSo (Opened (is_in_use t.first) (is_in_use t.second)) e p m x
    × Serves layout n (open_by (Opened (is_in_use t.first) (is_in_use t.second)) e p) x t

-- An opening that is refused, but for want of memory, gives what its command may, and leaves two disks that stand for the pair as it was,
-- but for those that met a fault.
abbrev pub ShutIsStep : Type 0
ShutIsStep = (layout : Layout) (n : ℕ) (p : Pair) (m : Texts) (r : TwinRefusal) (e : Entry) (first one second two : DiskSeen)
    → IsLayout layout → IsWhole first → IsWhole second → r ≢ OutOfMemory → Rests layout n p m first second
    → (r ≡ Lost → IsLostDisk true layout n first one × IsLostDisk true layout n second two)
    → StaysVouched true layout n first one second two → IsNotedOpening e first one second two
    → OpensSo (Refused r) e p m m × Rests layout n (open_by (Refused r) e p) m one two
