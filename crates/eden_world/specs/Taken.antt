-- The turn of an enabled key, as a program takes it.
use Rattle.std.specs.Prelude.{◌≡◌, ℕ, suc, Bool, None, Some}
use Rattle.std.specs.List.{Contains}
use Rattle.passive_store.specs.Kept.{Layout}
use Rattle.passive_store.specs.Seen.{Seen, DiskSeen}
use Rattle.journal.specs.declared.event.Entry.{Entry}
use Rattle.journal.specs.declared.event.Key.{Key}
use Rattle.journal.specs.Enabled.{enabled}
use Rattle.journal.specs.Step.{key_of}
use Rattle.journal.specs.World.{World}
use Rattle.runs.specs.Reached.{IsReached}
use Rattle.eden_world.specs.InHand.{in_hand, HaveAgendas, Stands, Ends}
use Rattle.eden_world.specs.Steps.{Goes}
use Rattle.eden_world.specs.declared.World.{World as Program}

-- the entry has this key, it is a step of the world, and the agendas stand behind it
pub record Takes {T D : Type 0} (layout : Layout) (seen : T → Seen) (look : D → DiskSeen) (old new : Program T D) (more : ℕ) (w : World)
    (key : Key) (e : Entry) : Type 0 where
  pub takes : key_of e.event ≡ Some key
  pub goes : Goes layout more w None e (in_hand seen look old) (in_hand seen look new)
  pub agendas : HaveAgendas new

-- F holds of each world that a history may have reached, for which the program stood with room for one more entry, and where this key
-- is enabled.
abbrev pub AtEach : {T D : Type 0} → Bool → Layout → (T → Seen) → (D → DiskSeen) → Program T D → Key → (ℕ → World → Type 0) → Type 0
AtEach tells layout seen look old key F = (more : ℕ) (w : World) → IsReached w → Stands tells layout seen look old (suc more) w
    → Contains (enabled w) key → F more w

-- in each such world this entry is the turn of the key, from the old program to the new one
abbrev pub TakesAtEach : {T D : Type 0} → Bool → Layout → (T → Seen) → (D → DiskSeen) → Program T D → Program T D → Key → Entry → Type 0
TakesAtEach tells layout seen look old new key e = AtEach tells layout seen look old key (λ more w.
    Takes layout seen look old new more w key e)

-- where memory was wanting each disk did what it may behind the last entry
abbrev pub StarvesAtEach : {T D : Type 0} → Bool → Layout → (T → Seen) → (D → DiskSeen) → Program T D → Program T D → Key → Type 0
StarvesAtEach tells layout seen look old new key = AtEach tells layout seen look old key (λ more w. Ends layout seen look old more w new)
