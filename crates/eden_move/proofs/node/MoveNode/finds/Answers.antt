use Rattle.eden_move.specs.Minds.{remembered}
use Rattle.eden_move.proofs.Carrying.{unsettled-went, finds-both}
use Rattle.std.proofs.Common.{refl, false}
use Rattle.eden_move.proofs.Going.{goes-looks, goes-wide}
use Rattle.eden_move.proofs.Rooming.{keeps-then, harm-no-full, looks-no-full}
use Rattle.eden_move.proofs.node.MoveNode.finds.Goals as goal

pub returns-in-Err-clause-found : goal.returns-in-Err-clause-found
returns-in-Err-clause-found g c tells x s call reads = unsettled-went c.args.uid call x c.in-Err.refusal
    (g.St.Store.seen c.settle.new.self.store)
    (remembered c.settle.new.self.mind) (c.in-Err.ensures.settled tells x s)

pub returns-in-Ok-clause-found : goal.returns-in-Ok-clause-found
returns-in-Ok-clause-found g c tells x s =
    let z = c.in-Ok.ensures.settled tells x s in
    finds-both c.looks.result c.args.uid x c.args.reading (g.St.Store.seen c.settle.new.self.store) (g.St.Store.seen c.looks.new.self.store)
    (remembered c.settle.new.self.mind) (remembered c.looks.new.self.mind) c.looks.ensures.mind z (c.looks.ensures.found tells _ z.shows)

pub returns-in-Ok-clause-goes : goal.returns-in-Ok-clause-goes
returns-in-Ok-clause-goes g c = goes-looks _ _ _ _ _ _ _ c.in-Ok.ensures.goes c.looks.ensures.goes

pub returns-in-Err-clause-goes : goal.returns-in-Err-clause-goes
returns-in-Err-clause-goes g c = goes-wide _ false false _ _ _ _ _ _ _ (λ e. refl) (λ e. e) c.in-Err.ensures.goes

pub returns-in-Ok-clause-room : goal.returns-in-Ok-clause-room
returns-in-Ok-clause-room g c tells = keeps-then c.looks.result (g.St.Store.seen c.args.self.now.store)
    (g.St.Store.seen c.settle.new.self.store) (g.St.Store.seen c.looks.new.self.store) (c.in-Ok.ensures.room tells) c.in-Ok.ensures.work
    (c.looks.ensures.room tells)

pub returns-in-Ok-clause-early : goal.returns-in-Ok-clause-early
returns-in-Ok-clause-early g c tells x s =
    let z = c.in-Ok.ensures.settled tells x s in
    looks-no-full c.looks.result c.args.uid _ (g.St.Store.seen c.looks.new.self.store) (remembered c.looks.new.self.mind) _ _ _ _
    (c.looks.ensures.found tells _ z.shows)

pub returns-in-Err-clause-early : goal.returns-in-Err-clause-early
returns-in-Err-clause-early g c tells x s = harm-no-full c.args.uid x c.in-Err.refusal (g.St.Store.seen c.settle.new.self.store)
    (remembered c.settle.new.self.mind) (c.in-Err.ensures.settled tells x s).1
