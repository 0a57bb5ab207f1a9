-- A type that keeps the rules is within the limits.
use Rattle.std.proofs.Common.{◌≡◌, ◌≤◌, ℕ, zero, suc, Bool, true, false, List, [], ◌∷◌, ◌++◌, map, length, Option, None, Some}
use Rattle.std.proofs.Common.{refl, subst, arith}
use Rattle.std.specs.Prelude.{◌&&◌, not, nat_le, flat_map}
use Rattle.std.specs.List.{All}
use Rattle.std.proofs.lemmas.Bool.{leb-true}
use Rattle.std.proofs.lemmas.List.{length-map}
use Rattle.std.proofs.lemmas.List.Elements.{All-nil, All-cons, All-from_recursion}
use Rattle.epl_syntax.specs.declared.rule.Rule.TheVariants.{BadLimit}
use Rattle.epl_syntax.specs.declared.tree.Name.{Name}
use Rattle.epl_syntax.specs.declared.tree.Number.{Number}
use Rattle.epl_syntax.specs.declared.tree.ClassDecl.{ClassDecl}
use Rattle.epl_syntax.specs.declared.tree.Program.{Program}
use Rattle.epl_syntax.specs.Tree.{TypeTree, type_tree, process}
use Rattle.epl_syntax.specs.Rules.First.{broken_if}
use Rattle.epl_syntax.specs.Rules.InItems.{outside, too_many, places_of, names_of_vars, names_of_classes, names_of_conditions}
use Rattle.epl_syntax.specs.Rules.InItems.{names_of_operations, names_of_processes, version_number, broken_version, broken_counts}
use Rattle.epl_syntax.specs.Rules.InItems.{broken_small_names, broken_great_names, broken_numbers, broken_var, broken_class}
use Rattle.epl_syntax.specs.Rules.InItems.{broken_operation, broken_process, broken_upgrade, broken_program}
use Rattle.epl_syntax.specs.Rules.OfTypes.{HasMonitors}
use Rattle.epl_syntax.specs.Rules.Limits.{IsWithinLimits}
use Rattle.epl_syntax.proofs.GuardedRules.{front_empty, back_empty}

-- ---- one limit

few : (limit : ℕ) (places : List ℕ) → too_many limit places ≡ [] → length places ≤ limit
few limit [] h = omega arith
few zero (p ∷ ps) h = absurd cc
few (suc n) (p ∷ ps) h = let rest : length ps ≤ n = few n ps h in omega (arith, rest)

at_most : (low n high place : ℕ) → broken_if (not (nat_le low n && nat_le n high)) BadLimit place ≡ [] → n ≤ high
at_most low n high place h = go (nat_le low n) (nat_le n high) refl h
  where
    go : (a b : Bool) → nat_le n high ≡ b → broken_if (not (a && b)) BadLimit place ≡ [] → n ≤ high
    go true true e k = leb-true n high e
    go true false e k = absurd cc
    go false b e k = absurd cc

inside : (low high : ℕ) (number : Number) → outside low high number ≡ [] → number.n ≤ high
inside low high number h = at_most low number.n high number.place h

-- ---- lists

few_names : (limit : ℕ) (names : List Name) → too_many limit (places_of names) ≡ [] → length names ≤ limit
few_names limit names h = subst (λ n. n ≤ limit) (length-map names (λ n. n.place)) (few limit (places_of names) h)

version_inside : (version : Option Number) → broken_version version ≡ [] → version_number version ≤ 65535
version_inside None h = omega arith
version_inside (Some number) h = inside 1 65535 number h

classes_inside : (cs : List ClassDecl) → flat_map broken_class cs ≡ [] → All (λ c. c.limit.n ≤ 16) cs
classes_inside [] h = All-nil (λ c. c.limit.n ≤ 16)
classes_inside (c ∷ cs) h =
    let this = broken_class c in
    let others = flat_map broken_class cs in
    All-cons (λ c. c.limit.n ≤ 16) c cs (inside 1 16 c.limit (front_empty this others h)) (classes_inside cs (back_empty this others h))

-- ---- the type

-- the rules of what is counted by a byte
record KeepsCounts (t : TypeTree) : Type 0 where
  version : broken_version t.version ≡ []
  counts : broken_counts t ≡ []
  classes : flat_map broken_class t.classes ≡ []

counts_kept : (earlier : List (List ℕ)) (t : TypeTree) → broken_program earlier t ≡ [] → KeepsCounts t
unfolding broken_program
counts_kept earlier t h =
    let types = t.name.text ∷ earlier in
    let names = broken_version t.version ++ broken_counts t ++ broken_small_names t ++ broken_great_names t ++ broken_numbers t in
    let vars = flat_map broken_var t.vars in
    let classes = flat_map broken_class t.classes in
    let operations = flat_map (broken_operation t types) t.operations in
    let processes = flat_map (broken_process t types) t.processes in
    let upgrades = flat_map (broken_upgrade t types) t.upgrades in
    let declared : names ++ vars ++ classes ≡ [] =
    front_empty (names ++ vars ++ classes) operations
    (front_empty (names ++ vars ++ classes ++ operations) processes
    (front_empty (names ++ vars ++ classes ++ operations ++ processes) upgrades h)) in
    let two : broken_version t.version ++ broken_counts t ≡ [] =
    front_empty (broken_version t.version ++ broken_counts t) (broken_small_names t)
    (front_empty (broken_version t.version ++ broken_counts t ++ broken_small_names t) (broken_great_names t)
    (front_empty (broken_version t.version ++ broken_counts t ++ broken_small_names t ++ broken_great_names t) (broken_numbers t)
    (front_empty names vars (front_empty (names ++ vars) classes declared)))) in
    record {
      version = front_empty (broken_version t.version) (broken_counts t) two;
      counts = back_empty (broken_version t.version) (broken_counts t) two;
      classes = back_empty (names ++ vars) classes declared;
    }

pub within_limits : (earlier : List (List ℕ)) (t : Program) → broken_program earlier (type_tree t) ≡ [] → HasMonitors t → IsWithinLimits t
within_limits earlier t h monitors =
    let kept = counts_kept earlier (type_tree t) h in
    let tree = type_tree t in
    let vars = too_many 64 (places_of (names_of_vars tree.vars)) in
    let classes = too_many 16 (places_of (names_of_classes tree.classes)) in
    let entered = too_many 8 (places_of tree.monitors) in
    let conditions = too_many 32 (places_of (names_of_conditions tree.conditions)) in
    let operations = too_many 32 (places_of (names_of_operations tree.operations)) in
    let processes = too_many 8 (places_of (names_of_processes tree.processes)) in
    let no_processes : processes ≡ [] = back_empty (vars ++ classes ++ entered ++ conditions ++ operations) processes kept.counts in
    let four : vars ++ classes ++ entered ++ conditions ≡ [] =
    front_empty (vars ++ classes ++ entered ++ conditions) operations
    (front_empty (vars ++ classes ++ entered ++ conditions ++ operations) processes kept.counts) in
    let two : vars ++ classes ≡ [] =
    front_empty (vars ++ classes) entered (front_empty (vars ++ classes ++ entered) conditions four) in
    record {
      version = version_inside t.version kept.version;
      classes = subst (λ n. n ≤ 16) (length-map t.classes.items (λ c. c.name))
          (few_names 16 (names_of_classes t.classes.items) (back_empty vars classes two));
      class_limits = classes_inside t.classes.items kept.classes;
      monitors = few_names 8 t.monitors.items
          (back_empty (vars ++ classes) entered (front_empty (vars ++ classes ++ entered) conditions four));
      conditions = subst (λ n. n ≤ 32) (length-map t.conditions.items (λ c. c.name))
          (few_names 32 (names_of_conditions t.conditions.items) (back_empty (vars ++ classes ++ entered) conditions four));
      in_monitors = All-from_recursion (λ c. (1 ≤ c.monitor) × (c.monitor ≤ length t.monitors.items)) t.conditions.items monitors;
      processes = subst (λ n. n ≤ 8) (length-map t.processes.items process)
          (subst (λ n. n ≤ 8) (length-map (map process t.processes.items) (λ p. p.name))
          (few_names 8 (names_of_processes (map process t.processes.items)) no_processes));
    }
