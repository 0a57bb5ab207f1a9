use Rattle.std.proofs.Common.{◌∙◌}
use Rattle.std.specs.Option.{option_map}
use Rattle.move_laws.specs.World.{settled_by}
use Rattle.eden_move.specs.Minds.{remembered, seen_known}
use Rattle.eden_move.specs.Calls.{seen_call, ended, end_of, end_by}
use Rattle.eden_move.specs.Shown.{Goes}
use Rattle.eden_move.proofs.Carrying.{whole-call, reads-same}
use Rattle.eden_move.proofs.Going.{goes-then, goes-wide}
use Rattle.move_laws.specs.World.{reads}
use Rattle.eden_move.specs.Minds.{as_memory}
use Rattle.std.proofs.Common.{sym, ap, subst, refl, true, false, arith}
use Rattle.std.proofs.Common.{ℕ, ◌≤◌, ◌+◌}
use Rattle.eden_move.specs.Shown.{may_put, HasRoom, RoomBehind}
use Rattle.move_laws.specs.World.{due}
use Rattle.eden_move.proofs.Rooming.{call-room, no-full, room-behind}
use Rattle.eden_move.proofs.node.MoveNode.carry.Goals as goal

pub returns-in-Ok-clause-carries : goal.returns-in-Ok-clause-carries
returns-in-Ok-clause-carries g c tells call x up s =
    let f = c.in-Ok.ensures.found tells x s in
    whole-call c.args.uid (seen_call c.args.call) x (ended c.carry_found.result) (g.St.Store.seen c.finds.new.self.store)
    (g.St.Store.seen c.carry_found.new.self.store) (remembered c.finds.new.self.mind) (remembered c.carry_found.new.self.mind) f.0
    (c.carry_found.ensures.acts tells call (settled_by f.0.pick x) (f.0.up ∙ up) f.1 f.0.shows)

pub returns-in-Err-clause-carries : goal.returns-in-Err-clause-carries
returns-in-Err-clause-carries g c tells call x up s = c.in-Err.ensures.found tells x s (seen_call c.args.call)
    (reads-same c.args.uid (seen_call c.args.call) x (option_map (λ k. seen_known k.now) c.get.result) (remembered c.args.self.now.mind)
    c.reads-reading.result c.reads-reading.ensures c.get.ensures (s.memory up c.args.uid))

pub returns-in-Ok-clause-goes : goal.returns-in-Ok-clause-goes
returns-in-Ok-clause-goes g c =
    subst (λ b. Goes true b (may_put (seen_call c.args.call)) g.St.Device.Disk.tells g.St.Store.layout (end_of c.carry_found.result)
    (g.St.Store.seen c.args.self.now.store) (g.St.Store.seen c.carry_found.new.self.store))
    (c.reads-reading.ensures ∙ ap (λ o. reads (seen_call c.args.call) (as_memory o)) c.get.ensures)
    (goes-then _ _ _ _ _ _ _ _ c.in-Ok.ensures.goes c.carry_found.ensures.goes)

pub returns-in-Err-clause-goes : goal.returns-in-Err-clause-goes
returns-in-Err-clause-goes g c =
    subst (λ b. Goes true b (may_put (seen_call c.args.call)) g.St.Device.Disk.tells g.St.Store.layout (end_by c.in-Err.refusal)
    (g.St.Store.seen c.args.self.now.store) (g.St.Store.seen c.finds.new.self.store))
    (c.reads-reading.ensures ∙ ap (λ o. reads (seen_call c.args.call) (as_memory o)) c.get.ensures)
    (goes-wide _ _ false _ _ _ _ _ _ _ (λ e. e) (λ e. refl) c.in-Err.ensures.goes)

pub returns-in-Ok-clause-answers : goal.returns-in-Ok-clause-answers
returns-in-Ok-clause-answers g c = c.carry_found.ensures.answers

pub returns-in-Ok-clause-shown : goal.returns-in-Ok-clause-shown
returns-in-Ok-clause-shown g c = c.carry_found.ensures.shown

pub carry_found-requires-clause-read : goal.carry_found-requires-clause-read
carry_found-requires-clause-read g c so = c.in-Ok.ensures.read (c.reads-reading.ensures
    ∙ ap (λ o. reads (seen_call c.args.call) (as_memory o)) c.get.ensures
    ∙ ap (λ m. reads (seen_call c.args.call) (as_memory (m c.args.uid))) (sym c.in-Ok.ensures.mind) ∙ so)

pub returns-in-Ok-clause-full : goal.returns-in-Ok-clause-full
returns-in-Ok-clause-full g c tells some x up s =
    let f = c.in-Ok.ensures.found tells x s in
    let k = c.finds.ensures.more in
    let old = g.St.Store.seen c.args.self.now.store in
    let mid = g.St.Store.seen c.finds.new.self.store in
    call-room c.carry_found.result (HasRoom g.St.Store.layout mid c.args.uid
    (due c.args.uid (seen_call c.args.call) (settled_by f.0.pick x)))
    (RoomBehind g.St.Store.layout c.args.uid (seen_call c.args.call) x old (remembered c.args.self.now.mind))
    (λ room h. room-behind g.St.Store.layout c.args.uid (seen_call c.args.call) x old mid (remembered c.args.self.now.mind)
    (remembered c.finds.new.self.mind) room c.in-Ok.ensures.mind (c.in-Ok.ensures.room tells) f.0 h)
    (c.carry_found.ensures.full tells (subst (λ (n : ℕ). 1 ≤ n) (sym k) some) (settled_by f.0.pick x) (f.0.up ∙ up) f.1 f.0.shows)

pub returns-in-Err-clause-full : goal.returns-in-Err-clause-full
returns-in-Err-clause-full g c tells some x up s = no-full c.in-Err.refusal _ (c.in-Err.ensures.early tells x s)

pub returns-in-Ok-clause-more : goal.returns-in-Ok-clause-more
returns-in-Ok-clause-more g c = subst (λ (n : ℕ). n ≤ (g.St.Store.seen c.carry_found.new.self.store).more + 1)
    c.finds.ensures.more c.carry_found.ensures.more

pub returns-in-Err-clause-more : goal.returns-in-Err-clause-more
returns-in-Err-clause-more g c = let e = c.finds.ensures.more in omega (arith, e)
