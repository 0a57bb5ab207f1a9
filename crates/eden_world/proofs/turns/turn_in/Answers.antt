use Rattle.std.proofs.Common.{refl, sym, subst}
use Rattle.checkpoint.proofs.Activations.{any-err}
use Rattle.eden_world.specs.Turning.{StarvesThere}
use Rattle.eden_world.specs.declared.seats.Seat.TheVariants as place
use Rattle.eden_world.proofs.InPlace.{starves-up}
use Rattle.eden_world.proofs.turns.turn_in.Goals as goal

pub returns-in_err-event-in-Up-clause-starves : goal.returns-in_err-event-in-Up-clause-starves
returns-in_err-event-in-Up-clause-starves g c = any-err c.from_residual.result _
    (subst (λ p. StarvesThere g.St.Device.Disk.tells g.St.Device.Disk.obeys g.St.Store.layout g.St.Store.seen c.args.types.now c.args.calls.now p
    (place.Up c.turn.new.self)) (sym c.in-Up.is) (starves-up g.St.Device.Disk.tells g.St.Device.Disk.obeys g.St.Store.layout g.St.Store.seen c.args.types.now
    c.args.calls.now c.in-Up.station c.turn.new.self c.in_err-event-in-Up.ensures.left c.in_err-event-in-Up.ensures.starves))

pub returns-clause-turns : goal.returns-clause-turns
returns-clause-turns g c =
    let ends = c.in_ok-event-in-Up.ensures in
    record {
      was = c.in-Up.station;
      now = c.turn.new.self;
      stood = c.in-Up.is;
      stands = refl;
      turned = record {
        says = record { whole = ends.whole; room = ends.more; touches = ends.touches; clock = ends.clock; turn = ends.turn };
        number = c.turn.ensures.number;
        event = ends.event;
        shows = ends.shows;
        calls = ends.calls;
        before = c.clock_of_disk-before.ensures;
        after = c.clock_of_disk-after.ensures;
      };
    }
