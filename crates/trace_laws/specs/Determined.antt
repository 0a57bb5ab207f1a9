-- That the lines of an entry in the mode Full say which entry it is, where one is due.
use Rattle.std.specs.Prelude.{◌≡◌, ℕ, ◌<◌, ◌^◌, ◌⊎◌, List, ◌++◌, None}
use Rattle.std.specs.List.{All}
use Rattle.passive_store.specs.Kept.{Layout}
use Rattle.passive_store.specs.Layout.{IsLayout}
use Rattle.journal.specs.declared.command.Script.{Script}
use Rattle.journal.specs.declared.event.Event.{Event}
use Rattle.journal.specs.declared.event.Event.TheVariants as event
use Rattle.journal.specs.declared.event.Entry.{Entry}
use Rattle.journal.specs.declared.event.Mode.TheVariants.{Full}
use Rattle.journal.specs.Lines.{entry_text, text_of}
use Rattle.journal.specs.Standing.{DiskRun}
use Rattle.journal.specs.LegalRun.{AreHandedIn, opening_world}
use Rattle.journal.specs.World.{node_at}
use Rattle.journal.specs.Run.{Position, IsDue, Follows, FollowsSoFar}

-- 1. Clocks

-- the clock that the event itself shows: of a turn of a store; 0 of any other
abbrev pub clock_shown : Event → ℕ
clock_shown (event.Store u clock how p) = clock
clock_shown _ = 0

-- The clocks of an entry are of 64 bits, as those of every disk are. `IsDue` alone bounds no clock, and past 64 digits two numbers
-- have one text.
pub record HasClocks (e : Entry) : Type 0 where
  -- that of its disk
  pub disk : e.clock < 2 ^ 64
  -- that which its event shows
  pub shown : clock_shown e.event < 2 ^ 64

-- 2. Entries

-- Of two entries that are due at one position neither has lines with which those of the other begin, unless they are one. Node 0, which
-- stands for none in an entry, is no node.
abbrev pub EntriesAreDetermined : Type 0
EntriesAreDetermined = (p : Position) (e f : Entry) (rest later : List ℕ) → node_at p.world 0 ≡ None → IsDue p e → IsDue p f
    → HasClocks e → HasClocks f → entry_text Full e ++ rest ≡ entry_text Full f ++ later → e ≡ f

-- 3. Histories

-- a history begins with another: behind it stand more entries
abbrev pub IsFront : List Entry → List Entry → Type 0
IsFront h g = (more : List Entry) × (g ≡ h ++ more)

-- Of two histories of a script, each so far, over disks that are handed in as they have to be: where the texts begin alike, one history
-- begins with the other.
abbrev pub HistoriesAreDetermined : Type 0
HistoriesAreDetermined = (layout : Layout) (script : Script) (disks : List DiskRun) (h g : List Entry) (rest later : List ℕ)
    → IsLayout layout → AreHandedIn layout disks
    → FollowsSoFar (opening_world layout script disks) script.nodes script.commands h
    → FollowsSoFar (opening_world layout script disks) script.nodes script.commands g → All HasClocks h → All HasClocks g
    → text_of Full h ++ rest ≡ text_of Full g ++ later → IsFront h g ⊎ IsFront g h

-- The law of determinism: no two histories of a script, over such disks, have one text.
abbrev pub TextsHaveOneHistory : Type 0
TextsHaveOneHistory = (layout : Layout) (script : Script) (disks : List DiskRun) (h g : List Entry)
    → IsLayout layout → AreHandedIn layout disks
    → Follows (opening_world layout script disks) script.nodes script.commands h
    → Follows (opening_world layout script disks) script.nodes script.commands g
    → All HasClocks h → All HasClocks g → text_of Full h ≡ text_of Full g → h ≡ g
