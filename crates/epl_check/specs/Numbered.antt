-- Names that are found in an index, and numbers.
use Rattle.std.specs.Prelude.{◌≡◌, ◌==◌, ℕ, max, min, Vec, List, [], ◌∷◌, Option, Some, None, if◌then◌else◌}
use Rattle.std.specs.declared.alloc.Global.{Global}
use Rattle.std.specs.Ordering.{nat_cmp}
use Rattle.std.specs.Cmp.Lexicographic.{slice_cmp}
use Rattle.std.specs.BTreeMap.{BTreeMap, get, get_by}
use Rattle.eden_model.specs.Map.{same_text}
use Rattle.epl_syntax.specs.declared.tree.Name.{Name}
use Rattle.epl_syntax.specs.declared.tree.Number.{Number}
use Rattle.epl_syntax.specs.declared.rule.Broken.{Broken}
use Rattle.epl_syntax.specs.declared.rule.Rule.TheVariants.{Doubled}
use Rattle.epl_syntax.specs.Rules.First.{broken_at}
use Rattle.epl_syntax.specs.Rules.Scopes.{number_in}

-- what an index by texts has for this one, if it has anything
abbrev pub at : {V : Type 0} → BTreeMap (Vec ℕ Global) V → List ℕ → Option V
at m text = get_by (λ k. slice_cmp nat_cmp text k.items) m

-- an index gives the number of each name in a list, counted from 1, and for other texts none
abbrev pub IsIndex : BTreeMap (Vec ℕ Global) ℕ → List Name → Type 0
IsIndex m names = (text : List ℕ) → at m text ≡ number_in names text 0

-- the first of a list that has this name
abbrev pub first_named : {A : Type 0} → (A → Name) → List A → List ℕ → Option A
first_named named [] text = None
first_named named (x ∷ xs) text = if same_text (named x).text text then Some x else first_named named xs text

-- ---- numbers

-- the lesser of a place and another, if there is another
abbrev pub least_with : ℕ → Option ℕ → ℕ
least_with place None = place
least_with place (Some other) = min place other

-- the least place at which a number stands in a list
abbrev pub least_place : List Number → ℕ → Option ℕ
least_place [] n = None
least_place (a ∷ ns) n = if n == a.n then Some (least_with a.place (least_place ns n)) else least_place ns n

-- an index gives the least place of each number in a list, and for other numbers none
abbrev pub HasPlaces : BTreeMap ℕ ℕ → List Number → Type 0
HasPlaces m ns = (n : ℕ) → get nat_cmp m n ≡ least_place ns n

-- what a number breaks that stands at another place, too: the later of both breaks the rule
abbrev pub told_among : Number → Option ℕ → List Broken
told_among a None = []
told_among a (Some place) = broken_at Doubled (max a.place place) ∷ []
