use Rattle.std.proofs.Common.{◌+◌, arith, subst, sym}
use Rattle.std.specs.Io.KnownBytes.{Appends}
use Rattle.eden_io.specs.Taken.{AppendsPart}
use Rattle.journal.specs.Lines.{entry_text}
use Rattle.transcript.proofs.Parts.{IsWriting, gathering, writing-on, writing-ends, writing-failed, writing-stopped, on_err}
use Rattle.transcript.proofs.write_entries.Goals as goal
use Rattle.transcript.proofs.write_entries.Goals.{then-len-ge-GATHERED+in_ok-write_all, else-len-ge-GATHERED}

pub returns-in_err-line-clause-part : goal.returns-in_err-line-clause-part
returns-in_err-line-clause-part g c =
    let written = g.K.Sink.written in
    let faults = g.K.Sink.faults in
    let at = c.loop-entry in
    on_err c.from_residual.result
    (writing-stopped (entry_text c.args.mode) c.args.entries.now (written c.args.sink.now) (written at.sink)
    (faults c.args.sink.now) (faults at.sink) at.entry-index at.lines.items at.invariant)

pub returns-in_err-write_all-clause-part : goal.returns-in_err-write_all-clause-part
returns-in_err-write_all-clause-part g c =
    let written = g.K.Sink.written in
    let faults = g.K.Sink.faults in
    let at = c.loop-entry in
    on_err c.from_residual-in_err-write_all.result
    (writing-failed (entry_text c.args.mode) c.args.entries.now (written c.args.sink.now) (written at.sink)
    (faults c.args.sink.now) (faults at.sink) (at.entry-index + 1) c.line.new.out.items
    (subst (IsWriting (entry_text c.args.mode) c.args.entries.now (written c.args.sink.now) (written at.sink)
    (faults c.args.sink.now) (faults at.sink) (at.entry-index + 1)) (sym c.in_ok-line.ensures.ok)
    (gathering (entry_text c.args.mode) c.args.entries.now (written c.args.sink.now) (written at.sink)
    (faults c.args.sink.now) (faults at.sink) at.entry-index at.lines.items at.invariant c.entry-item.result
    c.loop-entry-test.true c.entry-item.is)) (written c.write_all.new.sink)
    (subst (AppendsPart (written at.sink) (written c.write_all.new.sink)) c.deref.ensures.value c.in_err-write_all.ensures.part))

pub loop-entry-preserved : goal.loop-entry-preserved
loop-entry-preserved g c =
    let written = g.K.Sink.written in
    let faults = g.K.Sink.faults in
    let at = c.loop-entry in
    let gathered = subst (IsWriting (entry_text c.args.mode) c.args.entries.now (written c.args.sink.now) (written at.sink)
    (faults c.args.sink.now) (faults at.sink) (at.entry-index + 1)) (sym c.in_ok-line.ensures.ok)
    (gathering (entry_text c.args.mode) c.args.entries.now (written c.args.sink.now) (written at.sink)
    (faults c.args.sink.now) (faults at.sink) at.entry-index at.lines.items at.invariant c.entry-item.result
    c.loop-entry-test.true c.entry-item.is) in
    elim c.if-len-ge-GATHERED.branch [
      | then-len-ge-GATHERED+in_ok-write_all w ↦ rw (w.sink-is, w.lines-is)
          (subst (IsWriting (entry_text c.args.mode) c.args.entries.now (written c.args.sink.now) (written w.write_all.new.sink)
          (faults c.args.sink.now) (faults w.write_all.new.sink) (at.entry-index + 1)) (sym w.clear.ensures.items)
          (writing-on (entry_text c.args.mode) c.args.entries.now (written c.args.sink.now) (written at.sink)
          (faults c.args.sink.now) (faults at.sink) (at.entry-index + 1) c.line.new.out.items gathered (written w.write_all.new.sink)
          (faults w.write_all.new.sink)
          (subst (Appends (written at.sink) (written w.write_all.new.sink)) w.deref.ensures.value w.in_ok-write_all.ensures.all)
          w.write_all.ensures.cause.later))
      | else-len-ge-GATHERED w ↦ rw (w.sink-is, w.lines-is) gathered
    ]

pub returns-in_err-write_all-2-clause-part : goal.returns-in_err-write_all-2-clause-part
returns-in_err-write_all-2-clause-part g c =
    let written = g.K.Sink.written in
    let faults = g.K.Sink.faults in
    let at = c.loop-entry in
    on_err c.from_residual-in_err-write_all-2.result
    (writing-failed (entry_text c.args.mode) c.args.entries.now (written c.args.sink.now) (written at.sink)
    (faults c.args.sink.now) (faults at.sink) at.entry-index at.lines.items at.invariant (written c.write_all-2.new.sink)
    (subst (AppendsPart (written at.sink) (written c.write_all-2.new.sink)) c.deref-2.ensures.value c.in_err-write_all-2.ensures.part))

pub returns-clause-all : goal.returns-clause-all
returns-clause-all g c =
    let written = g.K.Sink.written in
    let faults = g.K.Sink.faults in
    let at = c.loop-entry in
    writing-ends (entry_text c.args.mode) c.args.entries.now (written c.args.sink.now) (written at.sink)
    (faults c.args.sink.now) (faults at.sink) at.entry-index at.lines.items at.invariant (written c.write_all-2.new.sink)
    (omega (arith, c.loop-entry-test.false))
    (subst (Appends (written at.sink) (written c.write_all-2.new.sink)) c.deref-2.ensures.value c.in_ok-write_all-2.ensures.all)
