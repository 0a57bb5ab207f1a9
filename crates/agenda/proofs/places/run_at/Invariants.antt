use Rattle.std.proofs.Common.{◌≡◌, map}
use Rattle.epl_syntax.specs.Rules.OfTypes.{TypeList}
use Rattle.ejects.specs.View.{parts_of}
use Rattle.agenda.specs.Indexed.{uids_of}
use Rattle.agenda.specs.Keys.{run_keys}
use Rattle.agenda.specs.Places.{at_place}
use Rattle.agenda.proofs.places.run_at.Given as goal

-- what is left is at the place that is left
abbrev pub invariant-loop-uid : goal.invariant-loop-uid
invariant-loop-uid l = (ts : TypeList) → at_place (run_keys (parts_of ts l.ejects) (map (λ e. e.0) l.uid-iterator)) l.left
    ≡ at_place (run_keys (parts_of ts l.ejects) (uids_of l.index)) l.place
