use Rattle.std.proofs.Common.{ap, ◌∙◌, map}
use Rattle.epl_syntax.specs.Rules.Scopes.{number_in}
use Rattle.epl_check.proofs.Items.{map_same}
use Rattle.epl_check.proofs.checker.check_bodies.Goals as goal

pub invariant_of-around : goal.invariant_of-around
invariant_of-around c = record {
  none_numbered = c.in_ok-none.ensures;
  vars_numbered = λ text. c.in_ok-vars.ensures text ∙ ap (λ vs. number_in (map (λ v. v.name) vs) text 0) c.as_slice.ensures.value;
  monitors_numbered =
      λ text. c.in_ok-monitors.ensures text ∙ ap (λ ms. number_in ms text 0)
      (map_same c.as_slice-2.result.now ∙ c.as_slice-2.ensures.value);
  conditions_numbered =
      λ text. c.in_ok-conditions.ensures text ∙ ap (λ cs. number_in (map (λ k. k.name) cs) text 0) c.as_slice-3.ensures.value;
}
