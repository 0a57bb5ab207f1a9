use Rattle.epl_syntax.specs.Rules.OfTypes.{names_of}
use Rattle.epl_syntax.proofs.Limits.{within_limits}
use Rattle.epl_syntax.proofs.checked.Checked.of.Goals as goal

pub invariant_of-result : goal.invariant_of-result
invariant_of-result c = record {
  keeps_rules = ∣ (names_of c.args.earlier.now, c.requires.rules) ∣₁;
  limits = within_limits (names_of c.args.earlier.now) c.args.program c.requires.rules c.requires.monitors;
  resolved = c.requires.resolved;
}
