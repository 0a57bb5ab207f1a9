use Rattle.journal.specs.Lines.{entry_text}
use Rattle.transcript.proofs.Parts.{IsWriting}
use Rattle.transcript.proofs.write_entries.Given as goal

abbrev pub invariant-loop-entry : goal.invariant-loop-entry
invariant-loop-entry g l =
    let written = g.K.Sink.written in
    let faults = g.K.Sink.faults in
    IsWriting (entry_text l.mode) l.entries (written l.fn.sink) (written l.sink) (faults l.fn.sink) (faults l.sink) l.entry-index
    l.lines.items
