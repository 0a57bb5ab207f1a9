use Rattle.std.proofs.Common.{◌≡◌, true, ap, sym, ◌∙◌, rules}
use Rattle.epl_syntax.specs.declared.tree.Expr.TheViews.{the_lemmas}
use Rattle.epl_syntax.specs.Expressions.{value_of}
use Rattle.epl_syntax.specs.Memory.{value_as}
use Rattle.epl_syntax.specs.Tree.{expression, Name_}
use Rattle.eden_model.specs.Map.{same_text}
use Rattle.epl_values.proofs.Operands.{texts}
use Rattle.epl_values.proofs.assignment.is_named.Goals as goal

pub returns-in-Name : goal.returns-in-Name
returns-in-Name c named m =
    let same : same_text c.in-Name.name.text c.args.text.now ≡ true = sym c.same_text.ensures ∙ named in
    let is : expression c.args.e.now ≡ Name_ c.in-Name.name = search (rules, the_lemmas) in
    ap (value_of m) is ∙ ap (value_as m) (texts c.in-Name.name.text c.args.text.now same)
