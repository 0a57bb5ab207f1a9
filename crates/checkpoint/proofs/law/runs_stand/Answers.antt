use Rattle.checkpoint.proofs.Throughout.{runs-stand}
use Rattle.checkpoint.proofs.law.runs_stand.Goals as goal

pub returns : goal.returns
returns c = runs-stand
