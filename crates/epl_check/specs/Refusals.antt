-- What a refused check says.
use Rattle.std.specs.Prelude.{ℕ, List}
use Rattle.epl_check.specs.declared.checker.CheckRefusal.{CheckRefusal}
use Rattle.epl_check.specs.declared.checker.CheckRefusal.TheVariants as refusal
use Rattle.epl_syntax.specs.declared.rule.Broken.{Broken}
use Rattle.epl_syntax.specs.declared.rule.Rule.{Rule}
use Rattle.epl_syntax.specs.declared.rule.Rule.TheVariants as rule
use Rattle.epl_syntax.specs.Rules.First.{broken_at, IsFirst}

-- the refusal that stands for a broken rule
abbrev pub refusal_for : Rule → ℕ → CheckRefusal
refusal_for rule.UnknownName p = refusal.UnknownName p
refusal_for rule.KindDiffers p = refusal.KindDiffers p
refusal_for rule.Unguarded p = refusal.Unguarded p
refusal_for rule.Nested p = refusal.Nested p
refusal_for rule.Doubled p = refusal.Doubled p
refusal_for rule.BadLimit p = refusal.BadLimit p

-- the refusal that tells what is broken, and where
abbrev pub refusal_of : Broken → CheckRefusal
refusal_of b = refusal_for b.rule b.place

-- of these broken rules it is the first; want of memory says nothing
abbrev pub Refuses : List Broken → CheckRefusal → Type 0
Refuses broken (refusal.UnknownName place) = IsFirst broken (broken_at rule.UnknownName place)
Refuses broken (refusal.KindDiffers place) = IsFirst broken (broken_at rule.KindDiffers place)
Refuses broken (refusal.Unguarded place) = IsFirst broken (broken_at rule.Unguarded place)
Refuses broken (refusal.Nested place) = IsFirst broken (broken_at rule.Nested place)
Refuses broken (refusal.Doubled place) = IsFirst broken (broken_at rule.Doubled place)
Refuses broken (refusal.BadLimit place) = IsFirst broken (broken_at rule.BadLimit place)
Refuses broken refusal.OutOfMemory = Unit {0}
