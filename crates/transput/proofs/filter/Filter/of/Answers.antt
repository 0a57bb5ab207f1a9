use Rattle.std.proofs.Common.{◌≡◌, ◌+◌, take, rules, ap, ◌∙◌, w64, to_z, of_z}
use Rattle.std.proofs.lemmas.Int.{to_z-of_z}
use Rattle.epl_syntax.specs.Simple.{number_in, argument}
use Rattle.transput.specs.View.{rule_of}
use Rattle.transput.proofs.Filters.{filter_is, argument_of_filter}
use Rattle.transput.proofs.filter.Filter.of.Goals as goal

pub returns : goal.returns
returns c =
    let n = c.arguments-count.result in
    let vars = c.args.vars in
    let before = ap (take (n + 3)) c.vars.view_is ∙ c.take_value-last.ensures.before in
    let arg = argument_of_filter n vars _ c.vars.inside.values.items _ before c.truncate.ensures.items c.without_first.ensures in
    let got : to_z w64 (of_z w64 c.number_at-got.result) ≡ number_in (argument (n + 1) vars)
    = to_z-of_z w64 c.number_at-got.result (search rules) ∙ c.number_at-got.ensures in
    let made : to_z w64 (of_z w64 c.number_at-made.result) ≡ number_in (argument (n + 2) vars)
    = to_z-of_z w64 c.number_at-made.result (search rules) ∙ c.number_at-made.ensures in
    filter_is (rule_of c.args.rule) vars n _ _ _ _ _ _ c.arguments-count.ensures c.cap_at-src.ensures arg got made
    c.take_value-last.ensures.value c.truth_at-saved.ensures
