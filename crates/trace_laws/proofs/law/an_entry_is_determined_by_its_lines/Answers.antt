use Rattle.trace_laws.proofs.law.an_entry_is_determined_by_its_lines.Goals as goal
use Rattle.trace_laws.proofs.Entries.{entries-are-determined}

pub returns : goal.returns
returns c = λ p e f rest later none a b h g t. entries-are-determined p e f rest later none a b (record { disk = h.disk; shown = h.shown })
    (record { disk = g.disk; shown = g.shown }) t
