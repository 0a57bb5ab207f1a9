use Rattle.std.proofs.Common.{rules}
use Rattle.lossy_wire.proofs.Values.{value_here, value_missing}
use Rattle.lossy_wire.proofs.commands.value_at.Goals as goal

pub returns : goal.returns
returns c =
    λ d h. value_here c.in_ok-last.field-0 c.in-Datum.value h.0 d (search rules) (c.in_ok-last.ensures h.0 h.1) h.2

pub unreachable-requires : goal.unreachable-requires
unreachable-requires c =
    let h = c.requires in
    value_missing c.in_ok-last.field-0 h.1.0 h.0 c.in_default.not-Datum (c.in_ok-last.ensures h.1.0 h.1.1) h.1.2
