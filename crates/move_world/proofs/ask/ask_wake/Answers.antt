use Rattle.move_laws.specs.World.{Wake}
use Rattle.move_world.specs.Asking.{manned}
use Rattle.move_world.specs.declared.answer.Answer.TheVariants as answer
use Rattle.move_world.proofs.Hearing.{raised, heard, heard-refused, no-stop, is-fine}
use Rattle.move_world.proofs.ask.ask_wake.Goals as goal

pub returns-in-Err : goal.returns-in-Err
returns-in-Err g c =
    heard-refused g.St.Device.Disk.tells g.St.Store.layout c.args.uid Wake c.in-Err.refusal c.refused.result
    (manned g.St.Store.seen c.args.node.now) (manned g.St.Store.seen c.wake.new.self)
    (record {
      of = c.wake.ensures.of;
      node = c.wake.ensures.node;
      counts = raised _ _ _ _ _ _ _ _ c.in-Err.ensures.goes;
      stands = c.wake.ensures.goes.stands;
    })
    (no-stop c.in-Err.refusal _ c.in-Err.ensures.power) c.refused.ensures.is c.refused.ensures.none c.refused.ensures.about
    c.in-Err.ensures.carries

pub returns-in-Ok : goal.returns-in-Ok
returns-in-Ok g c =
    heard g.St.Device.Disk.tells g.St.Store.layout c.args.uid Wake (answer.Shows c.in-Ok.value)
    (manned g.St.Store.seen c.args.node.now) (manned g.St.Store.seen c.wake.new.self)
    (record {
      of = c.wake.ensures.of;
      node = c.wake.ensures.node;
      counts = raised _ _ _ _ _ _ _ _ c.in-Ok.ensures.goes;
      stands = c.wake.ensures.goes.stands;
    })
    (is-fine c.in-Ok.value _ c.in-Ok.ensures.power) c.in-Ok.ensures.shown (λ e. cc e) c.in-Ok.ensures.carries tt
