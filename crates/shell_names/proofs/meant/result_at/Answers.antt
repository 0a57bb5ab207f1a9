use Rattle.std.specs.Prelude.{option_copied}
use Rattle.shell_names.proofs.Results.{result-is}
use Rattle.shell_names.proofs.meant.result_at.Goals as goal

pub returns : goal.returns
returns c = result-is c.args.values.now c.args.k (option_copied c.item_at.result) c.if-k-eq0.false c.item_at.ensures
