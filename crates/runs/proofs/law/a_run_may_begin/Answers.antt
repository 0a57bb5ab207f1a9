use Rattle.runs.proofs.Reaching.{runs-may-begin}
use Rattle.runs.proofs.law.a_run_may_begin.Goals as goal

pub returns : goal.returns
returns c = runs-may-begin
