use Rattle.line_forms.specs.View.{kind_of}
use Rattle.twin_world.proofs.Scripted.{if_ok, read_as}
use Rattle.twin_world.proofs.reading.read_spots.Goals as goal

pub returns-clause-script : goal.returns-clause-script
returns-clause-script c =
    if_ok c.read_rows.result _ _ (λ s h. read_as (kind_of c.twin_kind.result) c.args.bytes.now s.most s.spots.items c.rows_are_fit.ensures
    c.twin_kind.ensures h) c.read_rows.ensures.script
