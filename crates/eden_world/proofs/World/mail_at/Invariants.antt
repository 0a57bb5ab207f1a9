use Rattle.std.proofs.Common.{◌≡◌, drop}
use Rattle.agenda.specs.Places.{at_place}
use Rattle.eden_world.specs.Listed.{keys_from, mail_keys, station_count}
use Rattle.eden_world.specs.Worlds.{numbers_from}
use Rattle.eden_world.proofs.World.mail_at.Given as goal

-- the deliveries from the stations that are left are at the place that is left
abbrev pub invariant-loop-from : goal.invariant-loop-from
invariant-loop-from g l =
    at_place (keys_from l.self.calls l.to (drop l.from (numbers_from 0 (station_count l.self)))) l.left
    ≡ at_place (mail_keys (station_count l.self) l.self.calls l.to) l.place
