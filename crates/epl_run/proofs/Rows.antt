-- The rows of a tree, seen as lists of steps.
use Rattle.std.proofs.Common.{◌≡◌, ℕ, zero, suc, ◌+◌, ◌<◌, ◌≤◌, ap, refl, sym, List, [], ◌∷◌, ◌++◌, length, map, ◌∙◌, Option, None, Some}
use Rattle.std.proofs.Common.{get_or, arith}
use Rattle.std.specs.Prelude.{slice_get}
use Rattle.eden_model.specs.Map.{with_item}
use Rattle.epl_syntax.specs.declared.tree.Stmt.{Stmt, items-the_row-Stmt}
use Rattle.epl_syntax.specs.declared.tree.Stmt as stmt
use Rattle.epl_syntax.specs.Tree.{TypeTree, statement, statement_row, statements}
use Rattle.epl_syntax.specs.Statements.{Step, does, leaves, steps, no_answer}
use Rattle.epl_syntax.proofs.TreeRows.{statement_items}
use Rattle.epl_run.specs.Blocks.{steps_of, end_of, branch_steps, inner, awaited_of, awaited_before}
use Rattle.epl_run.specs.declared.rest.Branch.{Branch}
use Rattle.epl_run.specs.declared.rest.Branch.TheVariants.{Whole, So, Otherwise, Body, Held}
use mathlib.Core.Former.{Count}

pub steps_are : (ss : List Stmt) → steps (statements ss) ≡ steps_of ss
steps_are [] = refl
steps_are (s ∷ ss) = ap (λ xs. does (statement s) ∷ xs) (steps_are ss)

pub row_steps : (m : Count) (r : stmt.Row_of-Stmt m) → steps (statement_row r) ≡ steps_of (items-the_row-Stmt m r)
row_steps m r = ap steps (statement_items m r) ∙ steps_are (items-the_row-Stmt m r)

pub append_none : (ss : List Step) → ss ++ [] ≡ ss
append_none [] = refl
append_none (s ∷ ss) = ap (λ xs. s ∷ xs) (append_none ss)

-- the statement at a place, as a step
pub get_step : (ss : List Stmt) (k : Option ℕ) (i : ℕ) (s : Stmt) → i < length ss → s ≡ get_or ss i s
    → slice_get (steps_of ss ++ end_of k) i ≡ Some (does (statement s))
get_step [] k i s h e = absurd (omega arith)
get_step (x ∷ ss) k zero s h e = ap (λ y. Some (does (statement y))) (sym e)
get_step (x ∷ ss) k (suc i) s h e = get_step ss k i s (omega arith) e

-- the end of a `with`, as the step at its place
abbrev pub last_of : Option ℕ → Option Step
last_of None = None
last_of (Some k) = Some (leaves k)

-- behind the last one stands the end of a `with`, if there is one
pub get_end : (ss : List Stmt) (k : Option ℕ) (i : ℕ) → length ss ≤ i → i < length (steps_of ss ++ end_of k)
    → slice_get (steps_of ss ++ end_of k) i ≡ last_of k
get_end [] None i h w = absurd (omega arith)
get_end [] (Some k) zero h w = refl
get_end [] (Some k) (suc i) h w = absurd (omega arith)
get_end (x ∷ ss) k zero h w = absurd (omega arith)
get_end (x ∷ ss) k (suc i) h w = get_end ss k i (omega arith) (omega arith)

-- the branch of a step that is not there
pub branch_none : (t : TypeTree) (b : Branch) (ss : List Stmt) (k : Option ℕ) (i : ℕ) → length ss ≤ i
    → with_item (slice_get (steps_of ss ++ end_of k) i) (branch_steps t b) [] ≡ []
branch_none t b [] None i h = refl
branch_none t b [] (Some k) zero h = leave b
  where
    leave : (b : Branch) → branch_steps t b (leaves k) ≡ []
    leave Whole = refl
    leave So = refl
    leave Otherwise = refl
    leave Body = refl
    leave Held = refl
branch_none t b [] (Some k) (suc i) h = refl
branch_none t b (x ∷ ss) k zero h = absurd (omega arith)
branch_none t b (x ∷ ss) k (suc i) h = branch_none t b ss k i (omega arith)

-- a branch of a step, as the block that is entered there
pub inner_is : (t : TypeTree) (b : Branch) (block : List Step) (at : ℕ) (found : Option Step) → slice_get block at ≡ found → (b ≡ Whole → ⊥)
    → with_item found (branch_steps t b) [] ≡ inner t block at b
inner_is t Whole block at found is other = absurd (other refl)
inner_is t So block at found is other = ap (λ o. with_item o (branch_steps t So) []) (sym is)
inner_is t Otherwise block at found is other = ap (λ o. with_item o (branch_steps t Otherwise) []) (sym is)
inner_is t Body block at found is other = ap (λ o. with_item o (branch_steps t Body) []) (sym is)
inner_is t Held block at found is other = ap (λ o. with_item o (branch_steps t Held) []) (sym is)

-- a block's length
pub steps_length : (ss : List Stmt) (k : Option ℕ) → length (steps_of ss ++ end_of k) ≡ length ss + length (end_of k)
steps_length [] k = omega arith
steps_length (s ∷ ss) k = omega (arith, steps_length ss k)

pub steps_map : (ss : List Stmt) → steps_of ss ≡ map does (map statement ss)
steps_map [] = refl
steps_map (s ∷ ss) = ap (λ xs. does (statement s) ∷ xs) (steps_map ss)

-- what is awaited before a place: behind the first step, what its statement awaits, and nothing behind the end of a `with`
pub before_first : (block : List Step) (place : ℕ) → place ≡ 0 → no_answer ≡ awaited_before block place
before_first block place e = ap (awaited_before block) (sym e)

pub before_statement : (ss : List Stmt) (k : Option ℕ) (place i : ℕ) (s : Stmt) → place ≡ i + 1 → i < length ss → s ≡ get_or ss i s
    → awaited_of (does (statement s)) ≡ awaited_before (steps_of ss ++ end_of k) place
before_statement ss k place i s e within at =
    let next : place ≡ suc i = omega (arith, e) in
    sym (ap (awaited_before (steps_of ss ++ end_of k)) next ∙ ap (λ o. with_item o awaited_of no_answer) (get_step ss k i s within at))

none_at : (ss : List Stmt) (k : Option ℕ) (i : ℕ) → length ss ≤ i
    → with_item (slice_get (steps_of ss ++ end_of k) i) awaited_of no_answer ≡ no_answer
none_at [] None i h = refl
none_at [] (Some k) zero h = refl
none_at [] (Some k) (suc i) h = refl
none_at (x ∷ ss) k zero h = absurd (omega arith)
none_at (x ∷ ss) k (suc i) h = none_at ss k i (omega arith)

pub before_none : (ss : List Stmt) (k : Option ℕ) (place i : ℕ) → place ≡ i + 1 → length ss ≤ i
    → no_answer ≡ awaited_before (steps_of ss ++ end_of k) place
before_none ss k place i e past =
    let next : place ≡ suc i = omega (arith, e) in
    sym (ap (awaited_before (steps_of ss ++ end_of k)) next ∙ none_at ss k i past)
