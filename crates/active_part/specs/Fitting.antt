-- What may be left of the processes of an active part.
use Rattle.std.specs.Prelude.{ℕ, List}
use Rattle.std.specs.List.{AllByRecursion}
use Rattle.edentypes.specs.Fitting.{RestFits}
use Rattle.edentypes.specs.declared.Kind.{Kind}
use Rattle.active_part.specs.declared.Doing.{Doing}

-- what may be left of a process of an Eject of this kind, of each of its processes
abbrev pub RestsFit : Kind → List (ℕ × Doing) → Type 0
RestsFit k es = AllByRecursion (λ e. RestFits k e.1.rest) es
