use Rattle.std.proofs.Common.{◌≡◌, ◌≤◌}
use Rattle.std.specs.Prelude.{IfSome}
use Rattle.epl_syntax.specs.Rules.OfTypes.{TypeList}
use Rattle.ejects.specs.Parts.{body_at}
use Rattle.ejects.specs.View.{parts_of}
use Rattle.agenda.specs.Keys.{run_keys_of}
use Rattle.agenda.specs.Places.{at_place}
use Rattle.agenda.proofs.Appended.{keys_from, left_of}
use Rattle.agenda.proofs.places.process_at.Given as goal

-- the keys from the next process on are at the place that is left
abbrev pub invariant-loop-next : goal.invariant-loop-next
invariant-loop-next l = record {
  small : IfSome l.next (λ p. p ≤ 16);
  all : (ts : TypeList) → at_place (keys_from l.uid l.next (body_at (parts_of ts l.ejects) l.uid)) l.left
      ≡ at_place (run_keys_of l.uid (body_at (parts_of ts l.ejects) l.uid)) l.place;
}

abbrev pub decreases-loop-next : goal.decreases-loop-next
decreases-loop-next l = left_of l.next
