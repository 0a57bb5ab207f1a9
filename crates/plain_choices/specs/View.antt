-- What the tests see, as the definitions have it.
use Rattle.std.specs.Prelude.{◌≡◌, ◌+◌, ◌==◌, ℕ, Bool, true, false, cond, not, List, Option, None, Some, is_some, IsSomeAnd}
use Rattle.capability.specs.declared.Uid.{Uid}
use Rattle.epl_syntax.specs.Edentype.{Edentype}
use Rattle.passive_store.specs.declared.store.Pick.{Pick}
use Rattle.passive_store.specs.declared.store.Pick.TheVariants as pick
use Rattle.journal.specs.World.{Site, eject_in}
use Rattle.journal.specs.Ejects.{stored_epoch}
use Rattle.journal.specs.Settling.{in_doubt, settled, to_settle}
use Rattle.journal.specs.Starts.{start_of}
use Rattle.journal.specs.Boots.{epoch_fits}
use Rattle.journal.specs.Stores as stores
use Rattle.plain_choices.specs.declared.boots.BootFacts.{BootFacts}
use Rattle.plain_choices.specs.declared.starts.Found.{Found}
use Rattle.plain_choices.specs.declared.starts.Found.TheVariants as found
use Rattle.plain_choices.specs.declared.starts.StartFacts.{StartFacts}
use Rattle.plain_choices.specs.declared.stores.Work.{Work}
use Rattle.plain_choices.specs.declared.stores.Work.TheVariants as work

-- 1. Turns of a store

-- what the turn is about
abbrev pub work_of : Work → stores.Work
work_of work.Syncs = stores.syncs
work_of work.Reads = stores.reads
work_of work.Unkept = stores.unkept
work_of work.WithoutRoom = stores.without_room
work_of work.Calls = stores.calls

-- 2. Activations

-- what is found of the Eject u where this is kept of it
abbrev pub found_in : List Edentype → Uid → Option (List ℕ) → Found
found_in types u None = found.Nothing
found_in types u (Some bytes) = cond (is_some (start_of types bytes u)) found.Starts found.Unreadable

-- what is found with this pick
abbrev pub found_by : StartFacts → Pick → Found
found_by f pick.Old = f.old
found_by f pick.New = f.new

-- what is found: with each pick where there is a doubt to settle (true), and without one where there is none
abbrev pub FindsBy : StartFacts → Site → Uid → Bool → Type 0
FindsBy f s u true = (p : Pick) → IsSomeAnd (eject_in (settled (Some p) s) u) (λ e. found_by f p ≡ found_in s.types u e.kept)
FindsBy f s u false = IsSomeAnd (eject_in s u) (λ e. f.old ≡ found_in s.types u e.kept)

-- these are the facts of an activation of u at this site
pub record IsStartOf (f : StartFacts) (s : Site) (u : Uid) : Type 0 where
  -- whether there is a doubt to settle
  pub doubted : f.doubted ≡ to_settle s
  -- what is found of the Eject
  pub finds : FindsBy f s u f.doubted

-- 3. Boots

-- these are the facts of a boot at this site, behind this pick
pub record IsBootOf (f : BootFacts) (s : Site) (p : Option Pick) : Type 0 where
  -- the first damaged place of the opening image
  pub damaged : f.damaged ≡ s.node.damaged
  -- whether it keeps too much
  pub overfull : f.overfull ≡ s.node.overfull
  -- whether the layout allows a disk of this size
  pub allowed : f.allowed ≡ s.layout.allows s.node.size
  -- whether something is in doubt
  pub doubted : f.doubted ≡ in_doubt s.number s.node
  -- the epoch that is stored behind the pick
  pub stored : f.stored ≡ (settled p s).node.epoch
  -- whether what is kept then leaves room for the next one
  pub room : f.room ≡ epoch_fits (settled p s) (stored_epoch (settled p s).node + 1)
  -- whether of the opening image the room is told for no change more
  pub untold : f.untold ≡ (settled p s).node.untold

-- 4. Clocks

-- whether a disk is touched, by the number of its node; 0 stands for none
abbrev pub IsTouched : Bool → ℕ → Type 0
IsTouched touched n = touched ≡ not (n == 0)
