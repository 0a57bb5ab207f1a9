use Rattle.std.proofs.Common.{◌∙◌}
use Rattle.eden_disk.proofs.Fronts.{all_held}
use Rattle.eden_disk.proofs.front.Front.of.Goals as goal

pub returns-clause-bytes : goal.returns-clause-bytes
returns-clause-bytes c = all_held c.args.bytes.items c.len-size.result (c.len-size.ensures ∙ c.args.bytes.ok.0)
