use Rattle.std.proofs.Common.{◌≡◌, ℕ, sym, ap, ◌∙◌, subst, List, Result, Ok, Err, false}
use Rattle.std.specs.Prelude.{OnOk}
use Rattle.std.specs.Result.{is_err}
use Rattle.epl_syntax.specs.Tree.{type_tree}
use Rattle.epl_syntax.specs.Rules.OfTypes.{names_of}
use Rattle.epl_syntax.specs.declared.rule.Broken.{Broken}
use Rattle.epl_syntax.specs.declared.rule.Rule.{Rule}
use Rattle.epl_syntax.specs.declared.rule.Rule.TheVariants as rule
use Rattle.std.specs.declared.alloc.AllocError.{AllocError}
use Rattle.epl_syntax.specs.Rules.First.{broken_at, IsFirst, least}
use Rattle.epl_syntax.specs.Rules.InItems.{broken_program}
use Rattle.epl_check.specs.Refusals.{Refuses, refusal_for}
use Rattle.epl_check.proofs.Least.{none_told, first_told}
use Rattle.epl_check.proofs.checker.check.Goals as goal

at_ok : (r : Result (Unit {0}) AllocError) (P : Type 0) → false ≡ is_err r → OnOk r P → P
at_ok (Ok u) P h p = p
at_ok (Err e) P h p = absurd cc

refuses : (bs : List Broken) (rule : Rule) (place : ℕ) → IsFirst bs (broken_at rule place) → Refuses bs (refusal_for rule place)
refuses bs rule.UnknownName place h = h
refuses bs rule.KindDiffers place h = h
refuses bs rule.Unguarded place h = h
refuses bs rule.Nested place h = h
refuses bs rule.Doubled place h = h
refuses bs rule.BadLimit place h = h

pub returns-in-None-clause-ok : goal.returns-in-None-clause-ok
returns-in-None-clause-ok c =
    let told = at_ok c.check_program.result _ c.if-is_err.ensures.value c.check_program.ensures
    ∙ ap (λ o. least o (broken_program (names_of c.args.earlier.now) (type_tree c.args.program.now))) c.unbroken-first.ensures in
    none_told (broken_program (names_of c.args.earlier.now) (type_tree c.args.program.now)) (sym told ∙ sym c.broken_first.ensures ∙ c.in-None.is)

pub returns-in-Some-clause-refused : goal.returns-in-Some-clause-refused
returns-in-Some-clause-refused c =
    let bs = broken_program (names_of c.args.earlier.now) (type_tree c.args.program.now) in
    let told = at_ok c.check_program.result _ c.if-is_err.ensures.value c.check_program.ensures ∙ ap (λ o. least o bs) c.unbroken-first.ensures in
    let b = c.in-Some.b in
    subst (Refuses bs) (sym c.refusal_of.ensures) (refuses bs b.rule b.place (first_told bs b (sym told ∙ sym c.broken_first.ensures ∙ c.in-Some.is)))
