use Rattle.twin_world.proofs.Sparing.{one-disk-is-enough}
use Rattle.twin_world.proofs.law.one_disk_is_enough.Goals as goal

pub returns : goal.returns
returns c = record { enough = one-disk-is-enough }
