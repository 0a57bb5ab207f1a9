use Rattle.std.proofs.Common.{◌≡◌, drop, is_some}
use Rattle.std.specs.List.{filter_map}
use Rattle.eden_model.specs.Map.{first}
use Rattle.epl_syntax.specs.Rules.OfTypes.{TypeList}
use Rattle.journal.specs.Settling.{doubt_entry}
use Rattle.plain_stores.specs.View.{ejects_of}
use Rattle.plain_stores.proofs.entries.has_doubt.Given as goal

-- none so far is in doubt
abbrev pub invariant-loop-entry : goal.invariant-loop-entry
invariant-loop-entry l = (ts : TypeList) → is_some (first (filter_map doubt_entry (ejects_of ts (drop l.entry-index l.fn.entries))))
    ≡ is_some (first (filter_map doubt_entry (ejects_of ts l.fn.entries)))
