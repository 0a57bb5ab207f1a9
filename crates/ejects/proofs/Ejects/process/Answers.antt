use Rattle.ejects.specs.View.{parts_of}
use Rattle.std.specs.FinMap.{get}
use Rattle.ejects.proofs.Active.{ready-runs}
use Rattle.ejects.proofs.Ejects.process.Goals as goal

pub turn_at-requires : goal.turn_at-requires
turn_at-requires c =
    ready-runs c.args.types.now (get c.args.self.now.table.standings c.args.uid) c.args.process c.requires.ready

pub returns-clause-parts : goal.returns-clause-parts
returns-clause-parts c reach s sound at kept reached ready =
    c.in_ok-shown.ensures.parts reach (parts_of c.args.types.now c.args.self.now) s sound at
    (record { runs = c.requires.ready; turned = c.in_ok-effect.ensures.turned }) kept reached ready

pub returns-clause-requests : goal.returns-clause-requests
returns-clause-requests c reach s work size sound at kept q =
    c.in_ok-shown.ensures.requests reach (parts_of c.args.types.now c.args.self.now) s work size sound at
    (record { runs = c.requires.ready; turned = c.in_ok-effect.ensures.turned }) kept q
