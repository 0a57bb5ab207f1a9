use Rattle.eden_disk.specs.Calls.{Fine}
use Rattle.std.proofs.Common.{false, true, sym, subst}
use Rattle.move_laws.specs.World.{Refused, Answered}
use Rattle.eden_move.specs.Minds.{remembered, memory_seen}
use Rattle.eden_move.specs.Calls.{seen_refusal, seen_due, post_of}
use Rattle.eden_move.specs.Shown.{Acts, IsFitDue}
use Rattle.eden_move.proofs.Carrying.{declined-done, given-done}
use Rattle.eden_move.proofs.Going.{goes-none, goes-declined}
use Rattle.eden_move.proofs.Calling.{shown-known, quiet-known}
use Rattle.eden_move.specs.Calls.{AnswersFor, KeepsRunning}
use Rattle.std.specs.Prelude.{IfSome}
use Rattle.eden_move.specs.Shown.{Goes, is_put, HasRoom, room_by_put}
use Rattle.eden_move.specs.Calls.{end_by}
use Rattle.eden_move.proofs.Rooming.{any-room}
use Rattle.eden_move.proofs.node.MoveNode.acts.Goals as goal

pub returns-in-Refuses-clause-acts : goal.returns-in-Refuses-clause-acts
returns-in-Refuses-clause-acts g c tells fits x z = subst (λ d. Acts c.args.uid (seen_due d) x (Refused (seen_refusal c.in-Refuses.refusal))
    (g.St.Store.seen c.args.self.now.store) (remembered c.args.self.now.mind)) (sym c.in-Refuses.is)
    (declined-done c.args.uid c.in-Refuses.refusal x (g.St.Store.seen c.args.self.now.store) (remembered c.args.self.now.mind) z)

pub returns-in-Gives-clause-acts : goal.returns-in-Gives-clause-acts
returns-in-Gives-clause-acts g c tells fits x z = subst (λ d. Acts c.args.uid (seen_due d) x (Answered false (post_of c.in-Gives.answer))
    (g.St.Store.seen c.args.self.now.store) (remembered c.learn.new.self)) (sym c.in-Gives.is)
    (given-done c.args.uid (memory_seen c.in-Gives.memory) (post_of c.in-Gives.answer) x (g.St.Store.seen c.args.self.now.store)
    (remembered c.args.self.now.mind) (remembered c.learn.new.self) (subst (λ d. IsFitDue (seen_due d)) c.in-Gives.is fits).0
    c.learn.ensures z)

pub returns-in-Ok-clause-acts : goal.returns-in-Ok-clause-acts
returns-in-Ok-clause-acts g c tells fits x z =
    let f = subst (λ d. IsFitDue (seen_due d)) c.in-Puts.is fits in
    subst (λ d. Acts c.args.uid (seen_due d) x (Answered true (post_of c.in-Puts.answer)) (g.St.Store.seen c.puts.new.self.store)
    (remembered c.puts.new.self.mind)) (sym c.in-Puts.is) (c.in-Ok.ensures.acts tells f.0 f.1 x z (post_of c.in-Puts.answer))

pub returns-in-Err-clause-acts : goal.returns-in-Err-clause-acts
returns-in-Err-clause-acts g c tells fits x z =
    let f = subst (λ d. IsFitDue (seen_due d)) c.in-Puts.is fits in
    subst (λ d. Acts c.args.uid (seen_due d) x (Refused (seen_refusal c.in-Err.refusal)) (g.St.Store.seen c.puts.new.self.store)
    (remembered c.puts.new.self.mind)) (sym c.in-Puts.is) (c.in-Err.ensures.acts tells f.0 f.1 x z (post_of c.in-Puts.answer))

pub returns-in-Refuses-clause-goes : goal.returns-in-Refuses-clause-goes
returns-in-Refuses-clause-goes g c = goes-declined _ _ _ _ _ c.in-Refuses.refusal _ (subst KeepsRunning c.in-Refuses.is c.requires.running)
    c.requires.power

pub returns-in-Gives-clause-goes : goal.returns-in-Gives-clause-goes
returns-in-Gives-clause-goes g c = goes-none _ _ _ _ _ _ c.requires.power

pub returns-in-Ok-clause-goes : goal.returns-in-Ok-clause-goes
returns-in-Ok-clause-goes g c = subst (λ d. Goes false false (is_put (seen_due d)) g.St.Device.Disk.tells g.St.Store.layout Fine
    (g.St.Store.seen c.args.self.now.store) (g.St.Store.seen c.puts.new.self.store)) (sym c.in-Puts.is) c.in-Ok.ensures.goes

pub returns-in-Err-clause-goes : goal.returns-in-Err-clause-goes
returns-in-Err-clause-goes g c = subst (λ d. Goes false false (is_put (seen_due d)) g.St.Device.Disk.tells g.St.Store.layout
    (end_by c.in-Err.refusal) (g.St.Store.seen c.args.self.now.store) (g.St.Store.seen c.puts.new.self.store)) (sym c.in-Puts.is)
    c.in-Err.ensures.goes

pub returns-in-Gives-clause-shown : goal.returns-in-Gives-clause-shown
returns-in-Gives-clause-shown g c call is = shown-known c.args.uid (memory_seen c.in-Gives.memory) c.in-Gives.answer
    (remembered c.args.self.now.mind)
    (remembered c.learn.new.self) (subst (AnswersFor c.args.uid call) c.in-Gives.is is).1 c.learn.ensures

pub returns-in-Ok-clause-shown : goal.returns-in-Ok-clause-shown
returns-in-Ok-clause-shown g c call is = quiet-known c.in-Puts.answer _ (subst (AnswersFor c.args.uid call) c.in-Puts.is is).1

pub returns-in-Refuses-clause-full : goal.returns-in-Refuses-clause-full
returns-in-Refuses-clause-full g c tells some = any-room _ _ (λ room.
    subst (λ d. HasRoom g.St.Store.layout (g.St.Store.seen c.args.self.now.store) c.args.uid (seen_due d) room) (sym c.in-Refuses.is) tt)

pub returns-in-Gives-clause-full : goal.returns-in-Gives-clause-full
returns-in-Gives-clause-full g c tells some =
    subst (λ d. HasRoom g.St.Store.layout (g.St.Store.seen c.args.self.now.store) c.args.uid (seen_due d) true) (sym c.in-Gives.is) tt

pub returns-in-Ok-clause-full : goal.returns-in-Ok-clause-full
returns-in-Ok-clause-full g c tells some =
    subst (λ d. HasRoom g.St.Store.layout (g.St.Store.seen c.args.self.now.store) c.args.uid (seen_due d) true) (sym c.in-Puts.is)
    (c.in-Ok.ensures.full tells some)

pub returns-in-Err-clause-full : goal.returns-in-Err-clause-full
returns-in-Err-clause-full g c tells some = subst (λ d. IfSome (room_by_put c.in-Err.refusal)
    (HasRoom g.St.Store.layout (g.St.Store.seen c.args.self.now.store) c.args.uid (seen_due d))) (sym c.in-Puts.is)
    (c.in-Err.ensures.full tells some)
