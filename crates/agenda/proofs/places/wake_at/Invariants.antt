use Rattle.std.proofs.Common.{◌≡◌, map}
use Rattle.agenda.specs.Indexed.{uids_of, wake_keys_but}
use Rattle.agenda.specs.Places.{at_place}
use Rattle.agenda.proofs.places.wake_at.Given as goal

-- what is left is at the place that is left
abbrev pub invariant-loop-uid : goal.invariant-loop-uid
invariant-loop-uid l = at_place (wake_keys_but l.station l.worked (map (λ e. e.0) l.uid-iterator)) l.left
    ≡ at_place (wake_keys_but l.station l.worked (uids_of l.index)) l.place
