use Rattle.eden_world.proofs.Seating.{whole-without, agendas-without, moving-down}
use Rattle.eden_world.proofs.World.unseat.Goals as goal

pub returns-clause-whole : goal.returns-clause-whole
returns-clause-whole g c = whole-without g.St.Store.seen c.args.self.now c.swap.new.self c.args.number c.swap.ensures.takes.others
    (moving-down _ _ c.swap.ensures.takes.here)

pub returns-clause-agendas : goal.returns-clause-agendas
returns-clause-agendas g c = agendas-without c.args.self.now c.swap.new.self c.args.number c.swap.ensures.takes.others
    c.swap.ensures.takes.rest.types (moving-down _ _ c.swap.ensures.takes.here)
