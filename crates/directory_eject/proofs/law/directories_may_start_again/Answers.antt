use Rattle.std.proofs.Common.{refl, arith}
use Rattle.directory_eject.proofs.Stays.{turns_stay, turns_may_start}
use Rattle.directory_eject.proofs.law.directories_may_start_again.Goals as goal

pub returns : goal.returns
returns c = record {
  first = record { starts = record { kinds = refl; condition = refl }; few = omega arith };
  turns = turns_stay;
  starts = turns_may_start;
}
