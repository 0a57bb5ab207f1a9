use Rattle.std.proofs.Common.{true, None}
use Rattle.eden_value.specs.View.{datum}
use Rattle.move_laws.specs.World.{Make}
use Rattle.eden_move.specs.Calls.{own_uid}
use Rattle.move_world.specs.Asking.{manned}
use Rattle.move_world.proofs.Hearing.{raised, heard-answered, heard-refused, no-stop, is-fine}
use Rattle.move_world.proofs.ask.ask_make.Goals as goal

pub returns-in-Err : goal.returns-in-Err
returns-in-Err g c =
    heard-refused g.St.Device.Disk.tells g.St.Store.layout (own_uid c.args.node.now.number c.args.serial) (Make (datum c.args.value))
    c.in-Err.refusal c.refused.result
    (manned g.St.Store.seen c.args.node.now) (manned g.St.Store.seen c.make.new.self)
    (record {
      of = c.make.ensures.of;
      node = c.make.ensures.node;
      counts = raised _ _ _ _ _ _ _ _ c.in-Err.ensures.goes;
      stands = c.make.ensures.goes.stands;
    })
    (no-stop c.in-Err.refusal _ c.in-Err.ensures.power) c.refused.ensures.is c.refused.ensures.none c.refused.ensures.about
    c.in-Err.ensures.carries

pub returns-in-Ok : goal.returns-in-Ok
returns-in-Ok g c =
    heard-answered g.St.Device.Disk.tells g.St.Store.layout (own_uid c.args.node.now.number c.args.serial) (Make (datum c.args.value))
    true None c.answered.result
    (manned g.St.Store.seen c.args.node.now) (manned g.St.Store.seen c.make.new.self)
    (record {
      of = c.make.ensures.of;
      node = c.make.ensures.node;
      counts = raised _ _ _ _ _ _ _ _ c.in-Ok.ensures.goes;
      stands = c.make.ensures.goes.stands;
    })
    (is-fine c.in-Ok.field-0 _ c.in-Ok.ensures.power) c.answered.ensures.is tt c.in-Ok.ensures.carries (c.answered.ensures.about (own_uid
    c.args.node.now.number c.args.serial) tt)
