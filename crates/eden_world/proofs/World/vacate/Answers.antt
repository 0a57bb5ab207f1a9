use Rattle.std.proofs.Common.{sym, ◌∙◌, ap, subst}
use Rattle.passive_store.specs.Seen.{disk_seen}
use Rattle.eden_world.specs.InHand.{place_at}
use Rattle.eden_world.specs.Seated.{Vacates, station_in}
use Rattle.eden_world.proofs.Seating.{whole-without, agendas-without}
use Rattle.eden_world.proofs.Vacating.{back, others-stay, rest-stays, was-up, stands-there, was-idle, stays-idle, idle-behind}
use Rattle.eden_world.proofs.World.vacate.Goals as goal

pub returns-clause-down : goal.returns-clause-down
returns-clause-down g c = λ s up.
    let behind = back c.args.self.now c.unseat.new.self c.set_seat.new.self c.args.number c.lowered-seat.result c.unseat.ensures.takes
    c.set_seat.ensures.takes in
    subst (Vacates g.St.Device.Disk.tells g.St.Device.Disk.obeys g.St.Store.layout g.St.Store.seen
    (disk_seen g.St.Device.Disk.counts g.St.Device.Disk.told g.St.Device.Disk.due) c.args.mode s)
    (sym (behind ∙ stands-there (place_at c.args.self.now c.args.number) c.lowered-seat.result s up))
    (c.lowered-seat.ensures.down s (was-up (place_at c.args.self.now c.args.number) c.unseat.result s c.unseat.ensures.old up))

pub returns-clause-idle : goal.returns-clause-idle
returns-clause-idle g c = λ none.
    back c.args.self.now c.unseat.new.self c.set_seat.new.self c.args.number c.lowered-seat.result c.unseat.ensures.takes
    c.set_seat.ensures.takes
    ∙ stays-idle (place_at c.args.self.now c.args.number) c.unseat.result c.lowered-seat.result c.unseat.ensures.old
    (c.lowered-seat.ensures.idle (was-idle (place_at c.args.self.now c.args.number) c.unseat.result c.unseat.ensures.old none))

pub returns-clause-others : goal.returns-clause-others
returns-clause-others g c = others-stay c.args.self.now c.unseat.new.self c.set_seat.new.self c.args.number _ _ c.unseat.ensures.takes
    c.set_seat.ensures.takes

pub returns-clause-rest : goal.returns-clause-rest
returns-clause-rest g c = rest-stays c.args.self.now c.unseat.new.self c.set_seat.new.self c.unseat.ensures.takes.rest
    c.set_seat.ensures.takes.rest

pub returns-clause-whole : goal.returns-clause-whole
returns-clause-whole g c = whole-without g.St.Store.seen c.args.self.now c.set_seat.new.self c.args.number
    (others-stay c.args.self.now c.unseat.new.self c.set_seat.new.self c.args.number _ _ c.unseat.ensures.takes c.set_seat.ensures.takes)
    (idle-behind c.args.self.now c.unseat.new.self c.set_seat.new.self c.args.number c.unseat.result c.lowered-seat.result
    c.unseat.ensures.takes c.set_seat.ensures.takes c.unseat.ensures.old (λ s is. ap station_in ((c.lowered-seat.ensures.down s is).there))
    c.lowered-seat.ensures.idle)

pub returns-clause-agendas : goal.returns-clause-agendas
returns-clause-agendas g c = agendas-without c.args.self.now c.set_seat.new.self c.args.number
    (others-stay c.args.self.now c.unseat.new.self c.set_seat.new.self c.args.number _ _ c.unseat.ensures.takes c.set_seat.ensures.takes)
    (c.set_seat.ensures.takes.rest.types ∙ c.unseat.ensures.takes.rest.types)
    (idle-behind c.args.self.now c.unseat.new.self c.set_seat.new.self c.args.number c.unseat.result c.lowered-seat.result
    c.unseat.ensures.takes c.set_seat.ensures.takes c.unseat.ensures.old (λ s is. ap station_in ((c.lowered-seat.ensures.down s is).there))
    c.lowered-seat.ensures.idle)
