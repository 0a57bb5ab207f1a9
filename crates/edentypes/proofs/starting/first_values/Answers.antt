use Rattle.std.proofs.Common.{◌≡◌, ap, ◌∙◌, subst}
use Rattle.std.specs.Prelude.{IfOk}
use Rattle.eden_value.specs.View.{datums}
use Rattle.epl_syntax.specs.Edentype.{outline_of}
use Rattle.epl_syntax.specs.Meaning.{first_values, values_from}
use Rattle.edentypes.specs.Fitting.{FitsKind}
use Rattle.edentypes.specs.View.{kind_in}
use Rattle.edentypes.proofs.Fitting.{first_fit, of_given}
use Rattle.edentypes.proofs.Outlines.{starts_are}
use Rattle.edentypes.proofs.starting.first_values.Goals as goal

pub returns-clause-same : goal.returns-clause-same
returns-clause-same c =
    let t = kind_in c.args.types.now c.args.kind in
    subst (λ ds. IfOk c.values_from.result (λ vars. vars ≡ ds)) (ap (λ vs. values_from t (datums vs)) c.new.ensures.items
    ∙ starts_are (outline_of t).slots) c.values_from.ensures

pub returns-clause-fits : goal.returns-clause-fits
returns-clause-fits c =
    of_given c.values_from.result (first_values (kind_in c.args.types.now c.args.kind)) (FitsKind c.args.kind)
    (first_fit c.args.types.now c.args.kind) (returns-clause-same c)
