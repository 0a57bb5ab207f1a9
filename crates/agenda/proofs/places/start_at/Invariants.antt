use Rattle.std.proofs.Common.{◌≡◌, map}
use Rattle.agenda.specs.Indexed.{uids_of}
use Rattle.agenda.specs.Keys.{start_keys}
use Rattle.agenda.specs.Places.{at_place}
use Rattle.agenda.proofs.places.start_at.Given as goal

-- what is left is at the place that is left
abbrev pub invariant-loop-uid : goal.invariant-loop-uid
invariant-loop-uid l = at_place (start_keys l.station (map (λ e. e.0) l.uid-iterator)) l.left
    ≡ at_place (start_keys l.station (uids_of l.index)) l.place
