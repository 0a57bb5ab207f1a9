use Rattle.move_laws.proofs.Worlds.{one-holder-of-each, each-shows-fresh, none-is-lost}
use Rattle.move_laws.proofs.law.never_two_active.Goals as goal

pub returns : goal.returns
returns c = record { one = one-holder-of-each; fresh = each-shows-fresh; kept = none-is-lost }
