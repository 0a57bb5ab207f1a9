-- What the shell's names stand for, and for which worlds.
use Rattle.std.specs.Prelude.{◌≡◌, ℕ, cond, List, map, Option, None, Some, Vec}
use Rattle.std.specs.declared.alloc.Global.{Global}
use Rattle.std.specs.List.{find}
use Rattle.eden_model.specs.Map.{with_item, same_text}
use Rattle.journal.specs.World.{World, Meaning, capability, results, nothing}
use Rattle.journal.specs.References.{meaning_of, with_name}
use Rattle.shell_names.specs.declared.meant.Meant.{Meant}
use Rattle.shell_names.specs.declared.meant.Meant.TheVariants as meant

-- 1. What is kept

-- what a name stands for, as it is kept
abbrev pub meaning : Meant → Meaning
meaning (meant.Capability c) = capability c
meaning (meant.Results items) = results items
meaning meant.Nothing = nothing

-- a name and what it stands for, as the map holds them
abbrev pub BoundName : Type 0
BoundName = Vec ℕ Global × Meant

-- names in a row, each with what it stands for
abbrev pub Names : Type 0
Names = List (List ℕ × Meaning)

-- the names of a map
abbrev pub names_in : List BoundName → Names
names_in es = map (λ e. (e.0.items, meaning e.1)) es

-- 2. What a name stands for

-- none for a name that was never bound
abbrev pub meanings : Names → List ℕ → Option Meaning
meanings names name = with_item (find (λ e. same_text e.0 name) names) (λ e. Some e.1) None

-- each name stands for what it stands for in the world
abbrev pub NamesStand : Names → World → Type 0
NamesStand names w = (name : List ℕ) → meaning_of w name ≡ meanings names name

-- 3. A name is bound

-- the name stands for this in the new names, and each other name for what it stood for
abbrev pub Binds : (old new : Names) → List ℕ → Meaning → Type 0
Binds old new name m = (other : List ℕ) → meanings new other ≡ cond (same_text name other) (Some m) (meanings old other)

-- where the old names stood for those of a world, the new ones stand for those of the world with the name bound
abbrev pub StandsWith : (old new : Names) → List ℕ → Meaning → Type 0
StandsWith old new name m = (w : World) → NamesStand old w → NamesStand new (with_name name m w)
