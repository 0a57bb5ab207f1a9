use Rattle.std.proofs.Common.{sym, subst}
use Rattle.passive_store.specs.Seen.{disk_seen}
use Rattle.move_world.specs.Kept.{rows}
use Rattle.move_world.specs.View.{answer_of}
use Rattle.move_world.specs.Worlds.{standings, DeliveredIn}
use Rattle.move_world.proofs.Placing.{delivered, fit-letter}
use Rattle.move_world.proofs.world.MoveWorld.deliver.Goals as goal

pub returns-clause-delivered : goal.returns-clause-delivered
returns-clause-delivered g c = λ so fits w of.
    let look = disk_seen g.St.Device.Disk.counts g.St.Device.Disk.told g.St.Device.Disk.due in
    let ss = standings g.St.Store.seen look c.ask.new.self.seats.items in
    let ls = rows c.ask.new.self.letters in
    let copied = c.in_ok-copy_letter.field-0 in
    subst (λ x. DeliveredIn g.St.Store.layout c.args.a c.args.b c.args.letter x ss ls w) (sym c.came.ensures)
    (delivered g.St.Store.layout c.args.a c.args.b c.args.letter copied (answer_of c.in_ok-answer.answer) ss ls w
    c.in_ok-copy_letter.ensures.about c.in_ok-copy_letter.ensures.same
    (c.in_ok-answer.ensures.asked so
    (fit-letter c.args.a c.args.letter copied c.in_ok-copy_letter.ensures.same fits) w of))
