use Rattle.std.proofs.Common.{rules}
use Rattle.epl_parser.proofs.reading.take_found.Goals as goal

pub returns-clause-tells : goal.returns-clause-tells
returns-clause-tells c = search rules

pub returns-clause-fits : goal.returns-clause-fits
returns-clause-fits c = search rules
