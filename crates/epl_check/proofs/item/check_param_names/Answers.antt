use Rattle.std.proofs.Common.{ap, ◌∙◌, map}
use Rattle.epl_syntax.specs.Tree.{variable, parameter}
use Rattle.epl_syntax.specs.Rules.First.{least}
use Rattle.epl_syntax.specs.Rules.InItems.{broken_names, names_of_vars, names_of_params}
use Rattle.epl_check.proofs.Doubled.{append_nothing}
use Rattle.epl_check.proofs.item.check_param_names.Goals as goal

pub returns : goal.returns
returns c =
    c.check_names.ensures
    ∙ ap (λ n. least c.args.first.now (broken_names (names_of_vars (map variable c.args.vars.items.now)) n))
    (append_nothing (names_of_params (map parameter c.args.params.now)))
