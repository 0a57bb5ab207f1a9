-- What is asked of a pair of disks that is open: it is a step of its command.
use Rattle.std.specs.Prelude.{◌≢◌, ℕ, List, Option, Some, Result, Ok, Err}
use Rattle.passive_store.specs.Kept.{Layout}
use Rattle.twin_store.specs.declared.served.TwinRefusal.{TwinRefusal}
use Rattle.twin_store.specs.declared.served.TwinRefusal.TheVariants.{OutOfMemory}
use Rattle.twin_store.specs.Sides.{disk_of}
use Rattle.twin_store.specs.Twins.{TwinSeen}
use Rattle.twin_world.specs.Logs.{Made, Found, Refused, Entry, Texts, Change, texts_after, Pair, changed_by, looked_by, ChangesSo, LooksSo}
use Rattle.twin_world.specs.InHand.{Serves, Rests, IsNoted}

-- A change is a step of its command, from whatever pair the twin stands for.
abbrev pub ChangesAs : Layout → ℕ → Change → Result (Unit {0}) TwinRefusal → TwinSeen → TwinSeen → Type 0
ChangesAs layout n c (Ok done) old new = (p : Pair) (m : Texts) (e : Entry) → Serves layout n p m old → IsNoted e old new
    → ChangesSo (Some c) Made e p m (texts_after (Some c) m) × Serves layout n (changed_by (Some c) Made e p) (texts_after (Some c) m) new
ChangesAs layout n c (Err r) old new = r ≢ OutOfMemory → (p : Pair) (m : Texts) (e : Entry) → Serves layout n p m old
    → IsNoted e old new
    → ChangesSo (Some c) (Refused r) e p m m
    × Rests layout n (changed_by (Some c) (Refused r) e p) m (disk_of new.first) (disk_of new.second)

-- So is a look.
abbrev pub LooksAs : Layout → ℕ → ℕ → Result (Option (List ℕ)) TwinRefusal → TwinSeen → TwinSeen → Type 0
LooksAs layout n serial (Ok body) old new = (p : Pair) (m : Texts) (e : Entry) → Serves layout n p m old → IsNoted e old new
    → LooksSo serial (Found body) e p m m × Serves layout n (looked_by (Found body) e p) m new
LooksAs layout n serial (Err r) old new = r ≢ OutOfMemory → (p : Pair) (m : Texts) (e : Entry) → Serves layout n p m old
    → IsNoted e old new
    → LooksSo serial (Refused r) e p m m
    × Rests layout n (looked_by (Refused r) e p) m (disk_of new.first) (disk_of new.second)
