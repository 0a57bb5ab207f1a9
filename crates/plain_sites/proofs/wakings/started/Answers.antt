use Rattle.std.proofs.Common.{◌∙◌, ap}
use Rattle.active_part.specs.View.{body_of}
use Rattle.journal.specs.Ejects.{fresh}
use Rattle.edentypes.specs.View.{kind_in}
use Rattle.plain_calls.specs.View.{traffic_of}
use Rattle.plain_sites.specs.Activations.{begun_as}
use Rattle.plain_sites.proofs.Joins.{started-as}
use Rattle.plain_sites.proofs.wakings.started.Goals as goal

pub returns : goal.returns
returns c =
    let ts = c.args.types.now in
    started-as (begun_as ts c.args.begun.now) c.args.numbers.now (traffic_of c.args.calls.now) _ (body_of ts c.in_ok-part.part) _
    (c.in_ok-part.ensures.active ∙ ap (fresh (kind_in ts c.args.begun.now.kind)) c.in_ok-vars.ensures.same) c.in_ok-part.ensures.queued
    c.in_ok-join_all.ensures
