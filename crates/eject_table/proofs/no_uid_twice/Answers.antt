use Rattle.eject_table.proofs.Given.{gives-once}
use Rattle.eject_table.proofs.no_uid_twice.Goals as goal

pub returns : goal.returns
returns g c node epoch last cs run = gives-once node epoch last cs run
