use Rattle.epl_syntax.specs.Meaning.{values_from}
use Rattle.edentypes.specs.Fitting.{FitsKind}
use Rattle.edentypes.specs.View.{kind_in}
use Rattle.edentypes.proofs.Fitting.{of_given, start_fits}
use Rattle.edentypes.proofs.starting.start.Goals as goal

pub returns-clause-fits : goal.returns-clause-fits
returns-clause-fits c =
    let b = c.args.begun.now in
    of_given c.values_from.result (values_from (kind_in c.args.types.now b.kind) b.durable) (FitsKind b.kind)
    (start_fits c.args.types.now b.kind b.durable b.fits) c.values_from.ensures
