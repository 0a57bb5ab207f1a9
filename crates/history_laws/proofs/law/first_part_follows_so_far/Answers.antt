use Rattle.history_laws.proofs.FirstParts.{of-a-whole, of-a-part}
use Rattle.history_laws.proofs.law.first_part_follows_so_far.Goals as goal

pub returns : goal.returns
returns c = record { of_a_whole = of-a-whole; of_a_part = of-a-part }
