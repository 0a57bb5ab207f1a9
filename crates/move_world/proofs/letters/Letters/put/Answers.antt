use Rattle.move_world.proofs.Placing.{put-slot, same-slot, err-any}
use Rattle.move_world.proofs.letters.Letters.put.Goals as goal

pub returns-clause-kept : goal.returns-clause-kept
returns-clause-kept c =
    put-slot c.args.self.now.lists.items c.args.a c.args.b c.slot.result _ c.index_mut.result.now c.push.new.self c.args.letter
    c.slot.ensures.place c.slot.ensures.within c.requires.count c.index_mut.ensures.value c.in_ok-push.ensures.items

pub returns-in_err-push-clause-same : goal.returns-in_err-push-clause-same
returns-in_err-push-clause-same c =
    err-any c.from_residual.result _
    (same-slot c.args.self.now.lists.items c.slot.result _ c.index_mut.result.now c.push.new.self c.index_mut.ensures.value
    c.in_err-push.ensures.items)
