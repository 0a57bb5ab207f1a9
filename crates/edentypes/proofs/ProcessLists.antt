-- What is left to do of processes of declared types, among those of all types.
use Rattle.std.proofs.Common.{◌≡◌, ◌≤◌, List, [], ◌∷◌, ◌++◌, map, length, refl, ap, sym, ◌∙◌, subst, arith}
use Rattle.std.proofs.lemmas.List.{length-map}
use Rattle.epl_syntax.specs.Meaning.{Rest as Meant, of_declared, declared}
use Rattle.epl_syntax.specs.Edentype.{declared as declared_type}
use Rattle.epl_syntax.specs.Tree.{TypeTree, type_tree, process}
use Rattle.epl_syntax.specs.declared.tree.Program.{Program}
use Rattle.epl_syntax.specs.Rules.Limits.{IsWithinLimits}
use Rattle.epl_syntax.specs.Turns.{Left, process_left}
use Rattle.epl_run.specs.Blocks.{left_of}
use Rattle.epl_run.specs.declared.rest.Rest.{Rest as LeftToDo}

-- what is left of these processes of a declared type
abbrev pub meant_of : TypeTree → List LeftToDo → List Meant
meant_of t rs = map (λ r. of_declared (left_of t r)) rs

-- where nothing is left, all are found
pub rest_found : (t : TypeTree) (left : List LeftToDo) (found : List Meant) (all : List LeftToDo) → length left ≡ 0
    → meant_of t left ++ found ≡ meant_of t all → found ≡ meant_of t all
rest_found t [] found all none h = h
rest_found t (r ∷ left) found all none h = absurd (omega (arith, none))

-- the last of what is left is found next
pub one_found : (t : TypeTree) (left : List LeftToDo) (r : LeftToDo) (found all : List Meant)
    → meant_of t (left ++ r ∷ []) ++ found ≡ all → meant_of t left ++ of_declared (left_of t r) ∷ found ≡ all
one_found t left r found all h = moved left ∙ h
  where
    moved : (rs : List LeftToDo) → meant_of t rs ++ of_declared (left_of t r) ∷ found ≡ meant_of t (rs ++ r ∷ []) ++ found
    moved [] = refl
    moved (x ∷ rs) = ap (λ l. of_declared (left_of t x) ∷ l) (moved rs)

-- the declared processes of a declared type begin
pub begun_are : (t : TypeTree) (rs : List LeftToDo) → map (left_of t) rs ≡ map process_left t.processes
    → meant_of t rs ≡ declared (declared_type t)
begun_are t rs begun = each (left_of t) rs ∙ ap (map of_declared) begun ∙ back process_left t.processes
  where
    each : {X : Type 0} (f : X → Left) (xs : List X) → map (λ x. of_declared (f x)) xs ≡ map of_declared (map f xs)
    each f [] = refl
    each f (x ∷ xs) = ap (λ l. of_declared (f x) ∷ l) (each f xs)

    back : {X : Type 0} (f : X → Left) (xs : List X) → map of_declared (map f xs) ≡ map (λ x. of_declared (f x)) xs
    back f [] = refl
    back f (x ∷ xs) = ap (λ l. of_declared (f x) ∷ l) (back f xs)

-- a type that is within the limits has at most 8
pub few_begin : {X : Type 0} (p : Program) (f : X → Meant) (found : List X) → IsWithinLimits p
    → map f found ≡ declared (declared_type (type_tree p)) → length found ≤ 8
few_begin p f found h same =
    let tree = type_tree p in
    let as_many : length found ≡ length p.processes.items =
    sym (length-map found f) ∙ ap length same
    ∙ length-map tree.processes (λ q. of_declared (process_left q)) ∙ length-map p.processes.items process in
    subst (λ n. n ≤ 8) (sym as_many) h.processes
