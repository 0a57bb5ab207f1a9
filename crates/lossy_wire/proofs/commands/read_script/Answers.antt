use Rattle.line_forms.specs.View.{kind_of}
use Rattle.lossy_wire.proofs.Runs.{read_as}
use Rattle.lossy_wire.proofs.Slots.{if_ok}
use Rattle.lossy_wire.proofs.commands.read_script.Goals as goal

pub returns-clause-script : goal.returns-clause-script
returns-clause-script c =
    if_ok c.read_rows.result _ _ (λ s h. (read_as (kind_of c.wire_kind.result) c.args.bytes.now s.most s.spots.items c.rows_are_fit.ensures
    c.wire_kind.ensures h).0) c.read_rows.ensures.script

pub returns-clause-stations : goal.returns-clause-stations
returns-clause-stations c =
    if_ok c.read_rows.result _ _ (λ s h.
    let r = read_as (kind_of c.wire_kind.result) c.args.bytes.now s.most s.spots.items c.rows_are_fit.ensures c.wire_kind.ensures h in
    (r.1, r.2)) c.read_rows.ensures.script
