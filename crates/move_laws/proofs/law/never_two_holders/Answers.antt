use Rattle.move_laws.proofs.Says.{always-one-holder, never-lost}
use Rattle.move_laws.proofs.law.never_two_holders.Goals as goal

pub returns : goal.returns
returns c = record { one = always-one-holder; kept = never-lost }
