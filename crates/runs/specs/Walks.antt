-- A walk on its way: what is due of it, and how it goes on.
use Rattle.std.specs.Prelude.{ℕ, suc, Bool, true, false, List, [], ◌∷◌, Option, None, Some, IfSome}
use Rattle.capability.specs.declared.Cap.{Cap}
use Rattle.eden_value.specs.Limits.{IsText}
use Rattle.journal.specs.declared.command.Command.{Command}
use Rattle.journal.specs.declared.event.Event.{Event}
use Rattle.journal.specs.declared.event.Event.TheVariants as event
use Rattle.journal.specs.World.{World}
use Rattle.journal.specs.Run.{Position, looks_up, waits_for, at_commands, walked}
use Rattle.runs.specs.Reached.{IsNamed}
use Rattle.runs.specs.Runs.{Origin, IsOn, EndsShort, due_in}
use Rattle.runs.specs.declared.run.Run.{Run}
use Rattle.runs.specs.Machines.{Stands, Did, Starved, Failed}

-- a walk that has these components left to look up, or none
abbrev pub looking : World → List ℕ → Option Cap → List (List ℕ) → List Command → Position
looking w name directory [] cs = at_commands w cs
looking w name directory (c ∷ more) cs = due_in w (looks_up name directory (c ∷ more)) cs

-- 1. A component is looked up

-- the number of the call that was sent, if it waits for an answer
abbrev pub sent : Event → Option ℕ
sent (event.Asked call said None) = Some call
sent _ = None

-- a walk that waits for this call, or is over where there is none to wait for
abbrev pub asking : Option ℕ → World → List ℕ → List (List ℕ) → List Command → Position
asking None w name more cs = at_commands w cs
asking (Some call) w name more cs = due_in w (waits_for name call more) cs

-- where the old run is to look this component up, the new one did; it waits for this call, and without one the walk is over
abbrev pub Asks : {M : Type 0} → Stands M → Did M → Run M → Run M → List ℕ → Option Cap → List ℕ → Option ℕ → Type 0
Asks stands did old new name directory c call = (o : Origin _) (others : ℕ) (w : World) (more : List (List ℕ)) (cs : List Command)
    → IfSome directory (IsNamed w) → IsText c → IsOn stands did o (suc others) old (due_in w (looks_up name directory (c ∷ more)) cs)
    → (later : World) × IsOn stands did o others new (asking call later name more cs)

-- memory was wanting as the component was looked up: nothing became of the machine but what was begun
abbrev pub AskFails : {M : Type 0} → Stands M → Did M → Starved M → Run M → Run M → List ℕ → Option Cap → List ℕ → Type 0
AskFails stands did starved old new name directory c = (o : Origin _) (others : ℕ) (w : World) (more : List (List ℕ)) (cs : List Command)
    → IfSome directory (IsNamed w) → IsText c → IsOn stands did o (suc others) old (due_in w (looks_up name directory (c ∷ more)) cs)
    → Failed starved others old.machine new.machine w

-- 2. The answer is waited for

-- once it came, the walk goes on; where no turn was left, it is over
abbrev pub answered : Bool → World → List ℕ → List (List ℕ) → List Command → Position
answered true w name more cs = walked w name more cs
answered false w name more cs = at_commands w cs

-- where the old run waits for this call of a walk, the new one has the wait behind it; came tells whether the answer came
abbrev pub Waits : {M : Type 0} → Stands M → Did M → Run M → Run M → List ℕ → ℕ → Bool → Type 0
Waits stands did old new name call came = (o : Origin _) (others : ℕ) (w : World) (more : List (List ℕ)) (cs : List Command)
    → IsOn stands did o others old (due_in w (waits_for name call more) cs)
    → (later : World) × IsOn stands did o others new (answered came later name more cs)

-- where the old run waits for this call, the new one took turns up to where memory was wanting
abbrev pub PartOfWait : {M : Type 0} → Stands M → Did M → Starved M → Run M → Run M → List ℕ → ℕ → Type 0
PartOfWait stands did starved old new name call = (o : Origin _) (others : ℕ) (w : World) (more : List (List ℕ)) (cs : List Command)
    → IsOn stands did o others old (due_in w (waits_for name call more) cs) → EndsShort stands did starved o others new
