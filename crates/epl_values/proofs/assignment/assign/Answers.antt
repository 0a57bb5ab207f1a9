use Rattle.std.proofs.Common.{◌≡◌, refl, ap, sym, ◌∙◌, subst, rules}
use Rattle.epl_syntax.specs.declared.tree.Expr.TheViews.{the_lemmas}
use Rattle.epl_syntax.specs.declared.tree.Operator.TheVariants.{Join}
use Rattle.epl_syntax.specs.Expressions.{value_of}
use Rattle.epl_syntax.specs.Memory.{value_as}
use Rattle.epl_syntax.specs.Operators.{found, between, joined}
use Rattle.epl_syntax.specs.Tree.{expression, type_tree}
use Rattle.epl_values.specs.Comes.{Moves, setting}
use Rattle.epl_values.specs.Variables.{memory}
use Rattle.epl_values.proofs.assignment.assign.Goals as goal

pub returns-then-is_named-clause-moves : goal.returns-then-is_named-clause-moves
returns-then-is_named-clause-moves c =
    let m = memory (type_tree c.args.program.now) c.args.vars.now in
    let right = value_of m (expression c.deref-then-is_named.result.now) in
    let both : value_of m (expression c.args.e.now) ≡ found (value_of m (expression c.deref.result.now)) (λ d. between Join d right) =
    search (rules, the_lemmas) in
    let same : value_of m (expression c.args.e.now) ≡ found (value_as m c.args.name.now.text) (λ d. found right (joined d)) =
    both ∙ ap (λ r. found r (λ d. between Join d right)) (c.if-is_named.ensures refl m) in
    subst (λ r. Moves c.grow.result (memory (type_tree c.args.program.now) c.grow.new.vars) m (found r (setting c.args.name.now.text m)))
    (sym same)
    c.grow.ensures.moves
