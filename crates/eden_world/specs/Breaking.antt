-- What becomes of a program as calls break: whoever waited for them is told, once a node is gone or a link is cut.
use Rattle.std.specs.Prelude.{◌≡◌, ℕ, Bool, false, List, [], ◌∷◌, ◌++◌, Option, None, Some}
use Rattle.capability.specs.declared.Uid.{Uid}
use Rattle.eden_disk.specs.declared.disk.ImageMode.{ImageMode}
use Rattle.eden_model.specs.Map.{with_item}
use Rattle.eden_model.specs.Traffic.{Traffic, numbers_of, broken_by_node, without_node}
use Rattle.eden_model.specs.declared.Asker.{Asker}
use Rattle.eden_model.specs.declared.Asker.TheVariants.{Shell, Eject as Process}
use Rattle.invocation.specs.Carries.{Carries}
use Rattle.invocation.specs.Mail.{Mail}
use Rattle.invocation.specs.Numbers.{item_in}
use Rattle.passive_store.specs.Kept.{Layout}
use Rattle.passive_store.specs.Seen.{Seen, DiskSeen}
use Rattle.passive_store.specs.declared.store.Doubt.{Doubt}
use Rattle.journal.specs.declared.event.Key.{Key}
use Rattle.journal.specs.World.{World, Site}
use Rattle.ejects.specs.Marks.{IsLooseIn}
use Rattle.ejects.specs.Parts.{body_at}
use Rattle.ejects.specs.View.{parts_of}
use Rattle.eden_kernel.specs.Stands.{Held, held, NodeStands}
use Rattle.scheduled_node.specs.declared.ScheduledNode.{ScheduledNode}
use Rattle.eden_world.specs.InHand.{in_hand, HaveAgendas}
use Rattle.eden_world.specs.Seated.{station_at, IsLeft}
use Rattle.eden_world.specs.Steps.{TakesSeat}
use Rattle.eden_world.specs.Told.{Reseats, SetsUp, SameDisks, IsToldNode, IsTelling, Tells, Fell, Cuts}
use Rattle.eden_world.specs.Worlds.{Seat, up, down, InHand}
use Rattle.eden_world.specs.declared.World.{World as Program}
use Rattle.eden_world.specs.declared.breaks.Waiter.{Waiter}
use Rattle.eden_world.specs.declared.breaks.Waiter.TheVariants as waits

-- 1. Who waits for a call

-- who waits for a call of this asker: the shell, under a name, or a process of an Eject
abbrev pub waiter_by : Asker → Waiter
waiter_by (Shell name) = waits.Shell name
waiter_by (Process u p) = waits.Process u p

-- for the call of this number, if there is one
abbrev pub waiter_at : Mail → ℕ → Waiter
waiter_at m k = with_item (item_in k m.calls) (λ c. waiter_by c.asker) waits.Nobody

-- the name under which the shell asked it
abbrev pub name_by : Waiter → Option (List ℕ)
name_by (waits.Shell name) = Some name
name_by (waits.Process u p) = None
name_by waits.Nobody = None

-- 2. One process is told

-- by what stands at its place: a node that is up was told, and else nothing changed
abbrev pub TellsAt : Layout → Uid → ℕ → InHand → InHand → Option Seat → Type 0
TellsAt layout u p old new None = new ≡ old
TellsAt layout u p old new (Some (down noted d)) = new ≡ old
TellsAt layout u p old new (Some (up a)) = (b : Held) × IsToldNode layout u p a b × TakesSeat u.node (up b) old.mail old new

-- The agendas stand behind it, where the process stands in no queue at a site for which its node stood, if it has a node that is up.
abbrev pub KeepsAgendas : {T D : Type 0} → Layout → (T → Seen) → Uid → ℕ → Program T D → Program T D → Type 0
KeepsAgendas layout seen u p old new =
    ((s : ScheduledNode _ _) → station_at old u.node ≡ Some s → (site : Site) × IsLooseIn (body_at (parts_of old.types s.node.ejects) u) p
    × NodeStands layout old.types (held seen s.node) old.calls site)
    → HaveAgendas old → HaveAgendas new

-- 3. All of them

-- The agendas stand behind the loop over these numbers, where it began on the way from a fall or a cut.
abbrev pub TellsAgendas : {T D : Type 0} → Layout → InHand → List ℕ → Program T D → Program T D → Type 0
TellsAgendas layout start numbers old new = (more : ℕ) (key : Option Key) (n clock : ℕ) (last : World)
    → IsTelling layout more key n clock last start numbers → HaveAgendas old → HaveAgendas new

-- These are left of the numbers, and these names of the shell's calls were listed.
pub record TellsPart {T D : Type 0} (layout : Layout) (seen : T → Seen) (look : D → DiskSeen) (numbers left : List ℕ)
    (names : List (List ℕ)) (old new : Program T D) : Type 0 where
  pub tells : Tells layout (in_hand seen look old) (in_hand seen look new) numbers left names
  pub agendas : TellsAgendas layout (in_hand seen look old) numbers old new

-- all were told who waited for the calls of these numbers, and these are the names of those of the shell
abbrev pub TellsAll : {T D : Type 0} → Layout → (T → Seen) → (D → DiskSeen) → List ℕ → List (List ℕ) → Program T D → Program T D → Type 0
TellsAll layout seen look numbers names old new = TellsPart layout seen look numbers [] names old new

-- One number more, by who waits for its call: the shell's name is listed, or the process is told.
abbrev pub TellsBy : {T D : Type 0} → Layout → (T → Seen) → (D → DiskSeen) → Waiter → List (List ℕ) → List (List ℕ) → Program T D
    → Program T D → Type 0
TellsBy layout seen look (waits.Shell name) names later old new = (later ≡ names ++ name ∷ []) × (new ≡ old)
TellsBy layout seen look (waits.Process u p) names later old new = (later ≡ names)
    × TellsAt layout u p (in_hand seen look old) (in_hand seen look new) ((in_hand seen look old).seats u.node)
    × KeepsAgendas layout seen u p old new
TellsBy layout seen look waits.Nobody names later old new = (later ≡ names) × (new ≡ old)

-- 4. A node that is gone

-- the places know that it is down, and the calls are without it; these are the numbers of those that broke
pub record WithoutNode (n : ℕ) (numbers : List ℕ) (old new : InHand) : Type 0 where
  pub types : new.types ≡ old.types
  pub seats : (m : ℕ) → new.seats m ≡ old.seats m
  pub names : (name : List ℕ) → new.names name ≡ old.names name
  pub places : SetsUp n false old.places new.places
  pub calls : (t : Traffic) → Carries old.mail t → (numbers ≡ numbers_of (broken_by_node n) t) × Carries new.mail (without_node n t)

-- and then all were told
pub record Loses {T D : Type 0} (layout : Layout) (seen : T → Seen) (look : D → DiskSeen) (n : ℕ) (names : List (List ℕ))
    (old new : Program T D) : Type 0 where
  pub between : InHand
  pub numbers : List ℕ
  pub without : WithoutNode n numbers (in_hand seen look old) between
  pub tells : Tells layout between (in_hand seen look new) numbers [] names
  pub agendas : TellsAgendas layout between numbers old new

-- 5. A node that was up falls

-- Its disk is left at its place, and no other disk was touched, whatever became of the calls.
pub record Leaves {T D : Type 0} (tells obeys : Bool) (layout : Layout) (seen : T → Seen) (look : D → DiskSeen) (mode : Option ImageMode)
    (n : ℕ) (s : ScheduledNode T D) (old new : Program T D) : Type 0 where
  pub between : InHand
  pub noted : Option Doubt
  pub disk : DiskSeen
  pub left : IsLeft tells obeys layout mode (held seen s.node) noted disk
  pub seats : Reseats n (down noted disk) (in_hand seen look old) between
  pub disks : SameDisks between (in_hand seen look new)

-- and all were told who waited for its calls
pub record FallsAndTells {T D : Type 0} (tells obeys : Bool) (layout : Layout) (seen : T → Seen) (look : D → DiskSeen)
    (mode : Option ImageMode) (n : ℕ) (s : ScheduledNode T D) (names : List (List ℕ)) (old new : Program T D) : Type 0 where
  pub between : InHand
  pub noted : Option Doubt
  pub disk : DiskSeen
  pub numbers : List ℕ
  pub left : IsLeft tells obeys layout mode (held seen s.node) noted disk
  pub fell : Fell n (held seen s.node) noted disk numbers (in_hand seen look old) between
  pub told : Tells layout between (in_hand seen look new) numbers [] names
  pub agendas : TellsAgendas layout between numbers old new

-- 6. A link is cut

-- and all were told who waited for the calls over it
pub record CutsAndTells {T D : Type 0} (layout : Layout) (seen : T → Seen) (look : D → DiskSeen) (a b : ℕ) (names : List (List ℕ))
    (old new : Program T D) : Type 0 where
  pub between : InHand
  pub numbers : List ℕ
  pub cuts : Cuts a b numbers (in_hand seen look old) between
  pub told : Tells layout between (in_hand seen look new) numbers [] names
  pub agendas : TellsAgendas layout between numbers old new
