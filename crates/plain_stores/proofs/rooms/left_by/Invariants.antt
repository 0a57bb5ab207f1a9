use Rattle.std.proofs.Common.{◌≡◌, ◌-◌, ◌≤◌, drop}
use Rattle.epl_syntax.specs.Rules.OfTypes.{TypeList}
use Rattle.plain_stores.proofs.LeftBlocks.{taken}
use Rattle.plain_stores.proofs.rooms.left_by.Given as goal

-- what those so far leave, less what the others take, is what all leave
abbrev pub invariant-loop-entry : goal.invariant-loop-entry
invariant-loop-entry l = ((ts : TypeList) → l.left - taken ts (drop l.entry-index l.fn.entries) ≡ l.fn.all - taken ts l.fn.entries)
    × (l.left ≤ l.fn.all)
