use Rattle.eden_move.specs.Minds.{remembered}
use Rattle.eden_move.proofs.Carrying.{shows-mind-same}
use Rattle.eden_move.proofs.Going.{goes-none}
use Rattle.eden_move.proofs.node.MoveNode.does.Goals as goal

pub returns-in-Ok-clause-acts : goal.returns-in-Ok-clause-acts
returns-in-Ok-clause-acts g c tells fits x z = c.acts.ensures.acts tells fits x
    (shows-mind-same (g.St.Store.seen c.args.self.now.store) (remembered c.args.self.now.mind) (remembered c.make_place.new.self) x
    c.make_place.ensures.same z)

pub returns-in-Ok-clause-goes : goal.returns-in-Ok-clause-goes
returns-in-Ok-clause-goes g c = c.acts.ensures.goes

pub returns-in-Err-clause-goes : goal.returns-in-Err-clause-goes
returns-in-Err-clause-goes g c = goes-none _ _ _ _ _ _ c.requires.power

pub returns-in-Ok-clause-answers : goal.returns-in-Ok-clause-answers
returns-in-Ok-clause-answers g c = c.acts.ensures.answers

pub returns-in-Ok-clause-shown : goal.returns-in-Ok-clause-shown
returns-in-Ok-clause-shown g c = c.acts.ensures.shown

pub returns-in-Ok-clause-full : goal.returns-in-Ok-clause-full
returns-in-Ok-clause-full g c = c.acts.ensures.full

pub returns-in-Err-clause-full : goal.returns-in-Err-clause-full
returns-in-Err-clause-full g c tells some = tt
