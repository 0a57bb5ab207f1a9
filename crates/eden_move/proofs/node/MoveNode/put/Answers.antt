use Rattle.std.proofs.Common.{ap, Err}
use Rattle.eden_move.specs.Minds.{remembered}
use Rattle.eden_move.specs.Records.{seen_record}
use Rattle.eden_move.proofs.Carrying.{with-short, too-long, no-memory}
use Rattle.move_laws.specs.World.{Puts}
use Rattle.eden_move.proofs.Going.{goes-none}
use Rattle.std.proofs.Common.{subst, ◌≡◌, List, ℕ}
use Rattle.std.specs.Prelude.{IfSome}
use Rattle.eden_move.specs.Shown.{room_of_put, finds_room}
use Rattle.eden_move.proofs.node.MoveNode.put.Goals as goal

pub returns-in-Ok-clause-put : goal.returns-in-Ok-clause-put
returns-in-Ok-clause-put g c tells fits x s = with-short c.put_bytes.result _ _ c.in-Ok.ensures.short
    (c.put_bytes.ensures.put tells x (seen_record c.args.record.now) (c.in-Ok.ensures.spells fits) c.in-Ok.ensures.short s)

pub returns-in-Err-TooLarge-clause-put : goal.returns-in-Err-TooLarge-clause-put
returns-in-Err-TooLarge-clause-put g c tells fits x s b post = too-long c.args.uid (seen_record c.args.record.now) x
    (g.St.Store.seen c.args.self.now.store) (remembered c.args.self.now.mind)
    (c.in-Err-TooLarge.ensures.too_large (ap Err c.in-Err-TooLarge.field-0-is)) s b post

pub returns-in-Err-OutOfMemory-clause-put : goal.returns-in-Err-OutOfMemory-clause-put
returns-in-Err-OutOfMemory-clause-put g c tells fits x s b post = no-memory c.args.uid (Puts (seen_record c.args.record.now) b post) x
    (g.St.Store.seen c.args.self.now.store) (remembered c.args.self.now.mind) s

pub returns-in-Ok-clause-goes : goal.returns-in-Ok-clause-goes
returns-in-Ok-clause-goes g c = c.put_bytes.ensures.goes

pub returns-in-Err-TooLarge-clause-goes : goal.returns-in-Err-TooLarge-clause-goes
returns-in-Err-TooLarge-clause-goes g c = goes-none _ _ _ _ _ _ c.requires.power

pub returns-in-Err-OutOfMemory-clause-goes : goal.returns-in-Err-OutOfMemory-clause-goes
returns-in-Err-OutOfMemory-clause-goes g c = goes-none _ _ _ _ _ _ c.requires.power

pub returns-in-Ok-clause-full : goal.returns-in-Ok-clause-full
returns-in-Ok-clause-full g c tells some = subst (λ (b : List ℕ). IfSome (room_of_put c.put_bytes.result)
    (λ room. finds_room g.St.Store.layout (g.St.Store.seen c.args.self.now.store) c.args.uid b ≡ room))
    c.in-Ok.ensures.bytes (c.put_bytes.ensures.full tells some)

pub returns-in-Err-TooLarge-clause-full : goal.returns-in-Err-TooLarge-clause-full
returns-in-Err-TooLarge-clause-full g c tells some = tt

pub returns-in-Err-OutOfMemory-clause-full : goal.returns-in-Err-OutOfMemory-clause-full
returns-in-Err-OutOfMemory-clause-full g c tells some = tt
