-- A failure or a stop is asked of the disk at a place.
use Rattle.std.specs.Prelude.{◌≡◌, Bool, IsTrue}
use Rattle.eden_disk.specs.Calls.{armed}
use Rattle.eden_disk.specs.declared.disk.Arm.{Arm}
use Rattle.epl_syntax.specs.Rules.OfTypes.{TypeList}
use Rattle.invocation.specs.Mail.{Mail}
use Rattle.passive_store.specs.Kept.{Layout}
use Rattle.passive_store.specs.Seen.{Seen, DiskSeen}
use Rattle.journal.specs.World.{Site}
use Rattle.eden_kernel.specs.Stands.{held, IsWhole, NodeStands}
use Rattle.eden_kernel.specs.Turns.{OnDisk}
use Rattle.scheduled_node.specs.declared.ScheduledNode.{ScheduledNode}
use Rattle.scheduled_node.specs.Scheduled.{manned, ScheduledStands}
use Rattle.eden_world.specs.declared.seats.Seat.{Seat as Place}
use Rattle.eden_world.specs.declared.seats.Seat.TheVariants as place

-- the disk of a node that is down: nothing but what falls due is changed
pub record ArmsDisk (obeys : Bool) (what : Arm) (old new : DiskSeen) : Type 0 where
  pub counts : new.counts ≡ old.counts
  pub told : new.told ≡ old.told
  pub due : IsTrue obeys → new.due ≡ armed what old.counts.clock old.due

-- that of a node that is up, which stands as it did
pub record ArmsNode {T D : Type 0} (tells obeys : Bool) (layout : Layout) (seen : T → Seen) (what : Arm) (old new : ScheduledNode T D) :
    Type 0
  where
    pub whole : IsWhole (held seen new.node)
    pub number : new.node.number ≡ old.node.number
    pub more : (seen new.node.store).more ≡ (seen old.node.store).more
    pub counts : (seen new.node.store).disk.counts ≡ (seen old.node.store).disk.counts
    pub due : IsTrue obeys → (seen new.node.store).disk.due
        ≡ armed what (seen old.node.store).disk.counts.clock (seen old.node.store).disk.due
    pub stands : IsTrue tells → (ts : TypeList) (m : Mail) (s : Site) → ScheduledStands layout ts (manned seen old) m s
        → ScheduledStands layout ts (manned seen new) m s
    pub disk : IsTrue tells → (ts : TypeList) (m : Mail) (s : Site) → NodeStands layout ts (held seen old.node) m s
        → OnDisk layout (held seen old.node) (held seen new.node) s s

-- what stands at a place, by what stood there
abbrev pub ArmsSeat : {T D : Type 0} → Bool → Bool → Layout → (T → Seen) → (D → DiskSeen) → Arm → Place T D → Place T D → Type 0
ArmsSeat {T} {D} tells obeys layout seen look what (place.Up s) new =
    (t : ScheduledNode T D) × (new ≡ place.Up t) × ArmsNode tells obeys layout seen what s t
ArmsSeat {T} {D} tells obeys layout seen look what (place.Down d doubt) new =
    (x : D) × (new ≡ place.Down x doubt) × ArmsDisk obeys what (look d) (look x)
ArmsSeat {T} {D} tells obeys layout seen look what place.Moving new = new ≡ place.Moving
