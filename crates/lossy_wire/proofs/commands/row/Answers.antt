use Rattle.line_forms.specs.View.{kind_of, row_of}
use Rattle.lossy_wire.proofs.Slots.{if_ok}
use Rattle.lossy_wire.proofs.Values.{row_read}
use Rattle.lossy_wire.proofs.commands.row.Goals as goal

pub returns : goal.returns
returns c =
    if_ok c.row_at.result _ _ (λ row h. row_read (kind_of c.wire_kind.result) c.wire_kind.ensures c.args.script.bytes.now
    c.args.script.stations c.args.spot (row_of row) h) c.row_at.ensures
