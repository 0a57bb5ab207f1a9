use Rattle.line_forms.specs.View.{kind_of, row_of}
use Rattle.twin_world.proofs.Scripted.{if_ok, row_read}
use Rattle.twin_world.proofs.reading.row.Goals as goal

pub returns : goal.returns
returns c =
    if_ok c.row_at.result _ _ (λ row h. row_read (kind_of c.twin_kind.result) c.twin_kind.ensures c.args.bytes.now c.args.most
    c.args.spot (row_of row) h) c.row_at.ensures
