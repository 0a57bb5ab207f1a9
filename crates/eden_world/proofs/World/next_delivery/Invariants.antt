use Rattle.std.proofs.Common.{◌≡◌, drop}
use Rattle.std.specs.List.{find}
use Rattle.journal.specs.Enabled.{is_past}
use Rattle.eden_world.specs.Listed.{keys_from, mail_keys, station_count}
use Rattle.eden_world.specs.Worlds.{numbers_from}
use Rattle.eden_world.proofs.World.next_delivery.Given as goal

-- what is found of those that are left is found of all
abbrev pub invariant-loop-from : goal.invariant-loop-from
invariant-loop-from g l =
    find (is_past l.last) (keys_from l.self.calls l.to (drop l.from (numbers_from 0 (station_count l.self))))
    ≡ find (is_past l.last) (mail_keys (station_count l.self) l.self.calls l.to)
