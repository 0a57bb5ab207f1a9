use Rattle.line_forms.specs.View.{kind_of, row_of}
use Rattle.move_world.proofs.Scripted.{if_ok, row_read}
use Rattle.move_world.proofs.reading.row.Goals as goal

pub returns : goal.returns
returns c =
    if_ok c.row_at.result _ _ (λ row h. row_read (kind_of c.move_kind.result) c.move_kind.ensures c.args.bytes.now c.args.nodes
    c.args.spot (row_of row) h) c.row_at.ensures
