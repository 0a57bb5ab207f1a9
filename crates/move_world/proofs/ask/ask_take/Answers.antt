use Rattle.eden_move.specs.Calls.{uid_of, letter_call, seen_letter, put_by}
use Rattle.std.specs.Option.{option_map}
use Rattle.move_world.specs.Asking.{manned}
use Rattle.move_world.proofs.Hearing.{raised, heard-answered, heard-refused, no-stop, is-fine, reply-letter, about-took}
use Rattle.move_world.proofs.ask.ask_take.Goals as goal

pub returns-in-Err : goal.returns-in-Err
returns-in-Err g c =
    heard-refused g.St.Device.Disk.tells g.St.Store.layout (uid_of c.args.letter.now) (letter_call c.args.from c.args.letter.now)
    c.in-Err.refusal c.refused.result
    (manned g.St.Store.seen c.args.node.now) (manned g.St.Store.seen c.take.new.self)
    (record {
      of = c.take.ensures.of;
      node = c.take.ensures.node;
      counts = raised _ _ _ _ _ _ _ _ c.in-Err.ensures.goes;
      stands = c.take.ensures.goes.stands;
    })
    (no-stop c.in-Err.refusal _ c.in-Err.ensures.power) c.refused.ensures.is c.refused.ensures.none c.refused.ensures.about
    c.in-Err.ensures.carries

pub returns-in-Ok : goal.returns-in-Ok
returns-in-Ok g c =
    heard-answered g.St.Device.Disk.tells g.St.Store.layout (uid_of c.args.letter.now) (letter_call c.args.from c.args.letter.now)
    (put_by c.args.letter.now c.in-Ok.took) (option_map seen_letter c.in-Ok.took.reply) c.took_answer.result
    (manned g.St.Store.seen c.args.node.now) (manned g.St.Store.seen c.take.new.self)
    (record {
      of = c.take.ensures.of;
      node = c.take.ensures.node;
      counts = raised _ _ _ _ _ _ _ _ c.in-Ok.ensures.goes;
      stands = c.take.ensures.goes.stands;
    })
    (is-fine c.in-Ok.took _ c.in-Ok.ensures.power) c.took_answer.ensures.is (reply-letter c.args.from c.args.letter.now _ (put_by
    c.args.letter.now c.in-Ok.took) (option_map seen_letter c.in-Ok.took.reply)) c.in-Ok.ensures.carries
    (c.took_answer.ensures.about (uid_of c.args.letter.now) (about-took c.args.letter.now c.in-Ok.took c.in-Ok.ensures.kind))
