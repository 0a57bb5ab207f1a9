use Rattle.eden_script.proofs.FitCalls.{few_calls}
use Rattle.eden_script.proofs.FitScripts.{script_fits, fit_writes_none}
use Rattle.eden_script.proofs.law.a_script_is_fit.Goals as goal

pub returns : goal.returns
returns c = record {
  fit = script_fits c.types_are_named.ensures.named c.conditions_are_in_monitors.ensures.inside c.constants_are_values.ensures.values;
  bare = fit_writes_none;
  calls = few_calls;
}
