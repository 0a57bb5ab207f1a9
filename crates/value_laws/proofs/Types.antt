-- The constants of each type of a fit script are within the limits.
use Rattle.std.proofs.Common.{◌≡◌, ℕ, Bool, true, false, cond, List, [], ◌∷◌, ◌++◌, map, Option, None, Some, refl, subst}
use Rattle.std.specs.Prelude.{IfSome}
use Rattle.std.specs.List.{AllByRecursion, find}
use Rattle.eden_model.specs.Map.{same_text}
use Rattle.epl_syntax.specs.Constants.{TreeFits, HaveValues}
use Rattle.epl_syntax.specs.Edentype.{Edentype, native, declared}
use Rattle.epl_syntax.specs.Meaning.{name_of, types_in, type_of}
use Rattle.epl_syntax.specs.Rules.OfTypes.{TypeList}
use Rattle.epl_syntax.specs.Tree.{type_tree}
use Rattle.epl_syntax.specs.declared.tree.Program.{Program}
use Rattle.epl_syntax.specs.declared.types.Native.{Native}
use Rattle.value_laws.specs.Limited.{TypeFits}

-- those of each type that a name stands for
abbrev pub TypesFit : List Edentype → Type 0
TypesFit types = (name : List ℕ) (t : Edentype) → type_of types name ≡ Some t → TypeFits t

-- that of this name, if there is one
pub type-fits : (types : List Edentype) (name : List ℕ) → TypesFit types → IfSome (type_of types name) TypeFits
type-fits types name fit = go (type_of types name) refl
  where
    go : (o : Option Edentype) → type_of types name ≡ o → IfSome o TypeFits
    go None is = tt
    go (Some t) is = fit name t is

declared-fit : (ps : List Program) → AllByRecursion (λ p. TreeFits (type_tree p)) ps
    → AllByRecursion TypeFits (map (λ p. declared (type_tree p)) ps)
declared-fit [] h = tt
declared-fit (p ∷ ps) h = (h.0, declared-fit ps h.1)

natives-fit : (ns : List Native) (more : List Edentype) → AllByRecursion TypeFits more → AllByRecursion TypeFits (map native ns ++ more)
natives-fit [] more h = h
natives-fit (n ∷ ns) more h = (tt, natives-fit ns more h)

found-fits : (types : List Edentype) (name : List ℕ) (t : Edentype) → AllByRecursion TypeFits types
    → find (λ t. same_text (name_of t) name) types ≡ Some t → TypeFits t
found-fits [] name t all is = absurd (cc is)
found-fits (x ∷ xs) name t all is = go (same_text (name_of x) name) is (found-fits xs name t all.1)
  where
    go : (b : Bool) → cond b (Some x) (find (λ t. same_text (name_of t) name) xs) ≡ Some t
        → (find (λ t. same_text (name_of t) name) xs ≡ Some t → TypeFits t) → TypeFits t
    go true e later = subst (λ o. IfSome o TypeFits) e all.0
    go false e later = later e

pub types-fit : (ts : TypeList) → HaveValues ts → TypesFit (types_in ts)
types-fit ts values name t is = found-fits (types_in ts) name t
    (natives-fit ts.native (map (λ p. declared (type_tree p)) ts.declared) (declared-fit ts.declared values)) is
