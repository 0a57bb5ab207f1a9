-- What the map of a directory stands for: the values of the variables of the native type.
use Rattle.std.specs.Prelude.{ℕ, List, map, Option, Vec}
use Rattle.std.specs.declared.alloc.Global.{Global}
use Rattle.capability.specs.declared.Cap.{Cap}
use Rattle.eden_value.specs.Datum.{Datum, text, cap}
use Rattle.epl_syntax.specs.Directory.{values_of}

-- a name and what it stands for, as the map holds them
abbrev pub DirectoryEntry : Type 0
DirectoryEntry = Vec ℕ Global × Option Cap

-- the names, in the order in which they were added
abbrev pub names_in : List DirectoryEntry → List Datum
names_in es = map (λ e. text e.0.items) es

-- the capabilities, in the same order
abbrev pub held_in : List DirectoryEntry → List Datum
held_in es = map (λ e. cap e.1) es

-- the values of the two variables
abbrev pub vars_of : List DirectoryEntry → List Datum
vars_of es = values_of (record { names = names_in es; held = held_in es })
