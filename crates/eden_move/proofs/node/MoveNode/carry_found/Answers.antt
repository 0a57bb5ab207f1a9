use Rattle.std.proofs.Common.{subst}
use Rattle.std.specs.Option.{option_map}
use Rattle.move_laws.specs.World.{due}
use Rattle.eden_move.specs.Minds.{remembered, seen_known}
use Rattle.eden_move.specs.Calls.{seen_call, seen_due, ended}
use Rattle.eden_move.specs.Shown.{Acts}
use Rattle.eden_move.proofs.Carrying.{due-same, fit-call, no-memory}
use Rattle.eden_move.proofs.Going.{goes-none}
use Rattle.move_laws.specs.World.{reads}
use Rattle.eden_move.specs.Minds.{as_memory}
use Rattle.std.proofs.Common.{sym, ap, ◌∙◌}
use Rattle.std.specs.Prelude.{IfSome}
use Rattle.eden_move.specs.Shown.{HasRoom, room_of_put, is_put}
use Rattle.eden_move.proofs.Going.{goes-wide}
use Rattle.eden_move.specs.Minds.{as_active}
use Rattle.eden_move.proofs.Rooming.{found-kept, finds-kept, never-puts}
use Rattle.eden_move.proofs.node.MoveNode.carry_found.Goals as goal

pub returns-in-Ok-clause-acts : goal.returns-in-Ok-clause-acts
returns-in-Ok-clause-acts g c tells call x up finds z =
    let s = g.St.Store.seen c.args.self.now.store in
    let m = remembered c.args.self.now.mind in
    let o = option_map (λ k. seen_known k.now) c.get.result in
    let e = c.in-Ok.ensures.due (x.kept c.args.uid) finds in
    subst (λ d. Acts c.args.uid d x (ended c.does.result) (g.St.Store.seen c.does.new.self.store) (remembered c.does.new.self.mind))
    (due-same c.args.uid (seen_call c.args.call) (seen_due c.in-Ok.due) x s m o up z c.get.ensures e)
    (c.does.ensures.acts tells
    (fit-call c.args.uid (seen_call c.args.call) (seen_due c.in-Ok.due) x s m o c.requires.wanderer call z c.get.ensures e) x z)

pub returns-in-Err-clause-acts : goal.returns-in-Err-clause-acts
returns-in-Err-clause-acts g c tells call x up finds z = no-memory c.args.uid (due c.args.uid (seen_call c.args.call) x) x
    (g.St.Store.seen c.args.self.now.store) (remembered c.args.self.now.mind) z

pub returns-in-Ok-clause-goes : goal.returns-in-Ok-clause-goes
returns-in-Ok-clause-goes g c =
    let o = option_map (λ k. seen_known k.now) c.get.result in
    goes-wide _ _ (is_put (seen_due c.in-Ok.due)) _ _ _ _ _ _ _ (λ e. e)
    (λ e. ap is_put (c.in-Ok.ensures.due (found-kept c.args.found) (finds-kept c.args.found))
    ∙ never-puts (seen_call c.args.call) (found-kept c.args.found) (as_memory o) (as_active o) e) c.does.ensures.goes

pub returns-in-Err-clause-goes : goal.returns-in-Err-clause-goes
returns-in-Err-clause-goes g c = goes-none _ _ _ _ _ _ c.requires.power

pub returns-in-Ok-clause-answers : goal.returns-in-Ok-clause-answers
returns-in-Ok-clause-answers g c = c.does.ensures.answers (seen_call c.args.call) c.in-Ok.ensures.answers

pub returns-in-Ok-clause-shown : goal.returns-in-Ok-clause-shown
returns-in-Ok-clause-shown g c = c.does.ensures.shown (seen_call c.args.call) c.in-Ok.ensures.answers

pub due_of-requires : goal.due_of-requires
due_of-requires g c so = c.requires.read
    (ap (λ o. reads (seen_call c.args.call) (as_memory o)) (sym c.get.ensures) ∙ so)

pub returns-in-Ok-clause-full : goal.returns-in-Ok-clause-full
returns-in-Ok-clause-full g c tells some x up finds z =
    let s = g.St.Store.seen c.args.self.now.store in
    let m = remembered c.args.self.now.mind in
    let o = option_map (λ k. seen_known k.now) c.get.result in
    let e = c.in-Ok.ensures.due (x.kept c.args.uid) finds in
    subst (λ d. IfSome (room_of_put c.does.result) (HasRoom g.St.Store.layout s c.args.uid d))
    (due-same c.args.uid (seen_call c.args.call) (seen_due c.in-Ok.due) x s m o up z c.get.ensures e)
    (c.does.ensures.full tells some)

pub returns-in-Err-clause-full : goal.returns-in-Err-clause-full
returns-in-Err-clause-full g c tells some x up finds z = tt
