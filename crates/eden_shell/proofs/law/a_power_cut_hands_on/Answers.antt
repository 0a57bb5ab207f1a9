use Rattle.eden_shell.proofs.HandedOn.{power-cuts}
use Rattle.eden_shell.proofs.law.a_power_cut_hands_on.Goals as goal

pub returns : goal.returns
returns c = power-cuts
