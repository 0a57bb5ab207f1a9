use Rattle.stream_laws.proofs.CountLaw.{pumps-take-so-many, first-pump-takes-so-many, first-pump-is-first}
use Rattle.stream_laws.proofs.law.pumps_take_so_many.Goals as goal

pub returns : goal.returns
returns c = record { each = pumps-take-so-many; first = first-pump-takes-so-many; order = first-pump-is-first }
