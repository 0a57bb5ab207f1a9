use Rattle.std.proofs.Common.{◌≡◌, ◌+◌, ◌≤◌, drop, length}
use Rattle.std.specs.List.{filter}
use Rattle.epl_syntax.specs.Rules.OfTypes.{TypeList}
use Rattle.journal.specs.Ejects.{is_there}
use Rattle.plain_stores.specs.View.{ejects_of}
use Rattle.plain_sites.proofs.births.count_there.Given as goal

-- those so far and those that are left are all, and so far there are no more than were looked at
abbrev pub invariant-loop-entry : goal.invariant-loop-entry
invariant-loop-entry l = record {
  counted : (ts : TypeList) → l.there + length (filter (λ e. is_there e.1) (ejects_of ts (drop l.entry-index l.fn.node.ejects.items)))
      ≡ length (filter (λ e. is_there e.1) (ejects_of ts l.fn.node.ejects.items));
  few : l.there ≤ l.entry-index;
}
