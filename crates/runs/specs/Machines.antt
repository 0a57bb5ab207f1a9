-- What machines do, step by step and along a run.
use Rattle.std.specs.Prelude.{◌≡◌, ◌⊎◌, ◌≤◌, ℕ, Bool, true, false, cond, List, [], ◌∷◌, Option, None, Some}
use Rattle.capability.specs.declared.Cap.{Cap}
use Rattle.journal.specs.declared.command.Command.{Command}
use Rattle.journal.specs.declared.event.Event.{Event}
use Rattle.journal.specs.declared.event.Event.TheVariants as event
use Rattle.journal.specs.declared.event.Entry.{Entry}
use Rattle.journal.specs.declared.event.Key.{Key}
use Rattle.journal.specs.World.{World}
use Rattle.journal.specs.Step.{Allows, next, key_of}
use Rattle.journal.specs.Run.{Step, AllowsLookUp, IsPlain, looked_up}

-- 1. What is said of a machine

-- for which worlds it stands, with room for so many more entries
abbrev pub Stands : Type 0 → Type 1
Stands M = M → ℕ → World → Type 0

-- what a step did to it
abbrev pub Did : Type 0 → Type 1
Did M = M → Step → M → Type 0

-- what was begun of a step in this world that want of memory ended, with room for so many more entries behind it
abbrev pub Starved : Type 0 → Type 1
Starved M = M → ℕ → World → M → Type 0

-- what an entry shows of it
abbrev pub Shows : Type 0 → Type 1
Shows M = M → Entry → M → Type 0

-- its parts fit together
abbrev pub Whole : Type 0 → Type 1
Whole M = M → Type 0

-- what a call that found no memory leaves of it
abbrev pub Leaves : Type 0 → Type 1
Leaves M = M → M → Type 0

-- 2. One step

-- a step: an entry, with the world before it and the one after it
abbrev pub step : World → Entry → World → Step
step w e later = record { world = w; entry = e; later = later }

-- the turn of a key was taken, and what is new stands for the world after it
pub record TakesKey {M : Type 0} (stands : Stands M) (did : Did M) (old new : M) (more : ℕ) (w : World) (key : Key)
    (e : Entry) : Type 0 where
  pub takes : key_of e.event ≡ Some key
  pub allowed : Allows w None e
  pub stays : stands new more (next w None e)
  pub does : did old (step w e (next w None e)) new

-- a command was carried out by one entry
pub record CarriesOut {M : Type 0} (stands : Stands M) (did : Did M) (old new : M) (more : ℕ) (w : World) (c : Command)
    (e : Entry) : Type 0 where
  pub allowed : Allows w (Some c) e
  pub stays : stands new more (next w (Some c) e)
  pub does : did old (step w e (next w (Some c) e)) new

-- a walk under this name asked this directory, if it is one, for this component
pub record LooksUp {M : Type 0} (stands : Stands M) (did : Did M) (old new : M) (more : ℕ) (w : World) (name : List ℕ)
    (directory : Option Cap) (component : List ℕ) (e : Entry) : Type 0 where
  pub allowed : AllowsLookUp w name directory (component ∷ []) e.event
  pub touches_nothing : IsPlain e
  pub stays : stands new more (looked_up w name directory (component ∷ []) e.event)
  pub does : did old (step w e (looked_up w name directory (component ∷ []) e.event)) new

-- 3. A run

-- an entry that touches no disk and breaks no call
abbrev pub plain : Event → Entry
plain e = record { event = e; node = 0; clock = 0; broken = [] }

-- it stands for the world, with room for so many more entries at least
abbrev pub StandsWith : {M : Type 0} → Stands M → M → ℕ → World → Type 0
StandsWith stands m least w = (more : ℕ) × (least ≤ more) × stands m more w

-- the entry of a turn that took no key
abbrev pub is_idle : Event → Bool
is_idle event.Quiet = true
is_idle event.Spent = true
is_idle _ = false

-- what a step did to the machine: a turn that takes no key leaves it as it is
abbrev pub DidStep : {M : Type 0} → Did M → M → Step → M → Type 0
DidStep did first s last = cond (is_idle s.entry.event) (last ≡ first) (did first s last)

-- from the first machine to the last, by each step of a run
abbrev pub DidAll : {M : Type 0} → Did M → M → List Step → M → Type 0
DidAll did first [] last = last ≡ first
DidAll did first (s ∷ run) last = (between : _) × DidStep did first s between × DidAll did between run last

-- something was begun in this world, with room for so many more entries at least, or nothing was
abbrev pub Failed : {M : Type 0} → Starved M → ℕ → M → M → World → Type 0
Failed starved least old new w = ((more : ℕ) × (least ≤ more) × starved old more w new) ⊎ (new ≡ old)

-- And where want of memory ended the run in this world: by each step up to there, where it stood for the world with room for so many more
-- entries at least, and then by what was begun, if anything was.
abbrev pub DidPart : {M : Type 0} → Stands M → Did M → Starved M → ℕ → M → List Step → World → M → Type 0
DidPart stands did starved least first run w last =
    (between : _) × DidAll did first run between × StandsWith stands between least w × Failed starved least between last w

-- 4. What entries show of a machine, with no world

-- of a turn that took no key, it may be that the machine is as it was
abbrev pub ShowsOne : {M : Type 0} → Shows M → M → Entry → M → Type 0
ShowsOne shows first e last = shows first e last ⊎ ((is_idle e.event ≡ true) × (last ≡ first))

-- from the first machine to the last, by what each entry of a history shows of it
abbrev pub ShowsAll : {M : Type 0} → Shows M → M → List Entry → M → Type 0
ShowsAll shows first [] last = last ≡ first
ShowsAll shows first (e ∷ history) last = (between : _) × ShowsOne shows first e between × ShowsAll shows between history last

-- No memory was found: in a call of the machine, or before one, and then it is as it was.
abbrev pub IsLeft : {M : Type 0} → Whole M → Leaves M → M → M → Type 0
IsLeft whole leaves old new = leaves old new ⊎ ((new ≡ old) × whole new)

-- the entries show what became of the first machine, up to where no memory was found
abbrev pub ShowsPart : {M : Type 0} → Shows M → Whole M → Leaves M → M → List Entry → M → Type 0
ShowsPart shows whole leaves first history last = (between : _) × ShowsAll shows first history between × IsLeft whole leaves between last
