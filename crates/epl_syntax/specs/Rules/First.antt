-- The first of several broken rules.
use Rattle.std.specs.Prelude.{◌≡◌, ℕ, Bool, true, false, ◌||◌, ◌&&◌, ◌==◌, nat_lt, List, [], ◌∷◌, Option, Some, None, if◌then◌else◌, ◌⊎◌}
use Rattle.epl_syntax.specs.declared.rule.Broken.{Broken}
use Rattle.epl_syntax.specs.declared.rule.Rule.{Rule}
use Rattle.epl_syntax.specs.declared.rule.Rule.TheVariants.{UnknownName, KindDiffers, Unguarded, Nested, Doubled, BadLimit}

-- a rule that is broken at a place
abbrev pub broken_at : Rule → ℕ → Broken
broken_at rule place = record { rule = rule; place = place }

-- this rule is broken at a place, where something is so
abbrev pub broken_if : Bool → Rule → ℕ → List Broken
broken_if true rule place = broken_at rule place ∷ []
broken_if false rule place = []

-- at one place the rules are told in this order
abbrev pub rank : Rule → ℕ
rank UnknownName = 0
rank KindDiffers = 1
rank Unguarded = 2
rank Nested = 3
rank Doubled = 4
rank BadLimit = 5

-- whether one is told before another: by its place, then by its rule
abbrev pub before : Broken → Broken → Bool
before a b = nat_lt a.place b.place || (a.place == b.place && nat_lt (rank a.rule) (rank b.rule))

-- the one of two that is told
abbrev pub sooner : Option Broken → Broken → Option Broken
sooner None b = Some b
sooner (Some a) b = if before b a then Some b else Some a

-- the first of one that was found and those of a list
abbrev pub least : Option Broken → List Broken → Option Broken
least found [] = found
least found (b ∷ bs) = least (sooner found b) bs

-- it is one of them
abbrev pub IsOneOf : Broken → List Broken → Type 0
IsOneOf b [] = ⊥
IsOneOf b (c ∷ bs) = (c ≡ b) ⊎ IsOneOf b bs

-- none of them is before it
abbrev pub NoneBefore : Broken → List Broken → Type 0
NoneBefore b [] = Unit {0}
NoneBefore b (c ∷ bs) = (before c b ≡ false) × NoneBefore b bs

-- of these it is the first by its place, and at one place by the order of the rules
pub record IsFirst (bs : List Broken) (b : Broken) : Type 0 where
  pub member : IsOneOf b bs
  pub none_before : NoneBefore b bs
