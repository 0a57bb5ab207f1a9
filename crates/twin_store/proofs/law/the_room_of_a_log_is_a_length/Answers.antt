use Rattle.twin_store.proofs.Rooming.{room_of_a_log}
use Rattle.twin_store.proofs.law.the_room_of_a_log_is_a_length.Goals as goal

pub returns : goal.returns
returns c = room_of_a_log
