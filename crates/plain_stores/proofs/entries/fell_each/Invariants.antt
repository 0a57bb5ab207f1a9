use Rattle.std.proofs.Common.{◌≡◌}
use Rattle.epl_syntax.specs.Rules.OfTypes.{TypeList}
use Rattle.capability.specs.declared.Uid.{Uid}
use Rattle.plain_calls.proofs.Lists.{changed_front}
use Rattle.journal.specs.Crashes.{fallen}
use Rattle.journal.specs.World.{Eject}
use Rattle.plain_stores.specs.View.{ejects_of}
use Rattle.plain_stores.proofs.entries.fell_each.Given as goal

-- those so far are changed
abbrev pub invariant-loop-i : goal.invariant-loop-i
invariant-loop-i l = (ts : TypeList) → ejects_of ts l.entries.items
    ≡ changed_front l.i (λ (e : Uid × Eject). (e.0, fallen e.1)) (ejects_of ts l.initial.entries.items)
