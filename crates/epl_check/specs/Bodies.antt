-- What the bodies in a type break.
use Rattle.std.specs.Prelude.{ℕ, List, ◌∷◌, ◌++◌}
use Rattle.std.specs.List.{flat_map}
use Rattle.epl_syntax.specs.declared.rule.Broken.{Broken}
use Rattle.epl_syntax.specs.Tree.{TypeTree}
use Rattle.epl_syntax.specs.Rules.InItems.{broken_operation, broken_process, broken_upgrade}

-- what the operations, processes and upgrades of a type break; `earlier` has the names of the types before it
abbrev pub broken_bodies : List (List ℕ) → TypeTree → List Broken
broken_bodies earlier t =
    flat_map (broken_operation t (t.name.text ∷ earlier)) t.operations
    ++ flat_map (broken_process t (t.name.text ∷ earlier)) t.processes
    ++ flat_map (broken_upgrade t (t.name.text ∷ earlier)) t.upgrades
