use Rattle.std.proofs.Common.{◌∙◌, ap}
use Rattle.block_tables.specs.Greatest.{peak}
use Rattle.block_tables.proofs.Greatest.{peak_of_peaks}
use Rattle.block_tables.proofs.peaks.Peaks.greatest.Goals as goal

pub returns : goal.returns
returns c = c.greatest_of.ensures ∙ ap peak c.deref.ensures.value
    ∙ peak_of_peaks c.self.inside.groups.items c.self.inside.values.items c.self.invariant.0 c.self.invariant.1
    ∙ ap peak c.self.view_is
