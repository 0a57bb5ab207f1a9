use Rattle.std.proofs.Common.{false, Some}
use Rattle.move_laws.specs.World.{Again}
use Rattle.eden_move.specs.Calls.{seen_letter}
use Rattle.move_world.specs.Asking.{manned}
use Rattle.move_world.proofs.Hearing.{raised, heard-answered, heard-refused, no-stop, is-fine}
use Rattle.move_world.proofs.ask.ask_again.Goals as goal

pub returns-in-Err : goal.returns-in-Err
returns-in-Err g c =
    heard-refused g.St.Device.Disk.tells g.St.Store.layout c.args.uid Again c.in-Err.refusal c.refused.result
    (manned g.St.Store.seen c.args.node.now) (manned g.St.Store.seen c.again.new.self)
    (record {
      of = c.again.ensures.of;
      node = c.again.ensures.node;
      counts = raised _ _ _ _ _ _ _ _ c.in-Err.ensures.goes;
      stands = c.again.ensures.goes.stands;
    })
    (no-stop c.in-Err.refusal _ c.in-Err.ensures.power) c.refused.ensures.is c.refused.ensures.none c.refused.ensures.about
    c.in-Err.ensures.carries

pub returns-in-Ok : goal.returns-in-Ok
returns-in-Ok g c =
    heard-answered g.St.Device.Disk.tells g.St.Store.layout c.args.uid Again false (Some (seen_letter c.in-Ok.letter)) c.answered.result
    (manned g.St.Store.seen c.args.node.now) (manned g.St.Store.seen c.again.new.self)
    (record {
      of = c.again.ensures.of;
      node = c.again.ensures.node;
      counts = raised _ _ _ _ _ _ _ _ c.in-Ok.ensures.goes;
      stands = c.again.ensures.goes.stands;
    })
    (is-fine c.in-Ok.letter _ c.in-Ok.ensures.power) c.answered.ensures.is tt c.in-Ok.ensures.carries
    (c.answered.ensures.about c.args.uid c.in-Ok.ensures.about)
