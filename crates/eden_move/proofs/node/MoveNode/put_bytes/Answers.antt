use Rattle.std.proofs.Common.{Option}
use Rattle.eden_value.specs.Datum.{Datum}
use Rattle.move_laws.specs.Wander.{Letter}
use Rattle.move_laws.specs.World.{Mind, Puts, Refused}
use Rattle.eden_move.specs.Minds.{remembered}
use Rattle.eden_move.specs.Calls.{seen_refusal}
use Rattle.eden_move.specs.Shown.{Acts}
use Rattle.eden_move.proofs.Carrying.{behind-refused, put-refused}
use Rattle.eden_move.proofs.Going.{end-alike, goes-refused}
use Rattle.std.proofs.Common.{◌∙◌, sym, subst, ◌+◌, ◌≤◌, Bool, None, Err}
use Rattle.passive_store.specs.Kept.{Idle, IsFullBy}
use Rattle.passive_store.specs.Seen.{Seen}
use Rattle.eden_move.proofs.Rooming.{number-room, put-room}
use Rattle.eden_move.proofs.node.MoveNode.put_bytes.Goals as goal

pub returns-in-Err-clause-put : goal.returns-in-Err-clause-put
returns-in-Err-clause-put g c tells x r is short s =
    let n = remembered c.refused.new.self.mind in
    let m = remembered c.args.self.now.mind in
    let t = g.St.Store.seen c.puts_record.new.store in
    behind-refused (λ e t. (b : Mind Datum) (post : Option (Letter Datum))
    → Acts c.args.uid (Puts r b post) x (Refused (seen_refusal e)) t n)
    c.args.uid c.in-Err.refusal c.refused.result t (g.St.Store.seen c.refused.new.self.store) m n c.refused.ensures.is
    c.refused.ensures.store
    c.refused.ensures.forgets c.refused.ensures.keeps
    (λ forgets keeps. put-refused c.args.uid r x c.in-Err.refusal t m n short (c.in-Err.ensures.put tells m x r s is) forgets keeps)

pub returns-in-Ok-clause-put : goal.returns-in-Ok-clause-put
returns-in-Ok-clause-put g c tells x r is short s = c.in-Ok.ensures.put tells (remembered c.args.self.now.mind) x r s is

pub returns-in-Ok-clause-goes : goal.returns-in-Ok-clause-goes
returns-in-Ok-clause-goes g c = c.in-Ok.ensures.goes

pub returns-in-Err-clause-goes : goal.returns-in-Err-clause-goes
returns-in-Err-clause-goes g c = goes-refused _ _ _ _ _ _ c.refused.result _ _ _
    (end-alike c.in-Err.refusal c.refused.result c.refused.ensures.is) c.refused.ensures.store c.in-Err.ensures.goes

pub returns-in-Ok-clause-full : goal.returns-in-Ok-clause-full
returns-in-Ok-clause-full g c tells some = sym (number-room g.St.Store.layout (g.St.Store.seen c.args.self.now.store) c.args.self.now.number
    c.args.uid c.args.body c.requires.of.of) ∙ c.in-Ok.ensures.full tells some

pub returns-in-Err-clause-full : goal.returns-in-Err-clause-full
returns-in-Err-clause-full g c tells some = put-room c.in-Err.refusal c.refused.result _ c.refused.ensures.is
    (subst (λ (room : Bool). IsFullBy {T = Unit {0}} room None Idle (Err c.in-Err.refusal)) (number-room g.St.Store.layout
    (g.St.Store.seen c.args.self.now.store) c.args.self.now.number
    c.args.uid c.args.body c.requires.of.of) (c.in-Err.ensures.full tells some))

pub returns-in-Ok-clause-more : goal.returns-in-Ok-clause-more
returns-in-Ok-clause-more g c = c.puts_record.ensures.more

pub returns-in-Err-clause-more : goal.returns-in-Err-clause-more
returns-in-Err-clause-more g c = subst (λ (s : Seen). (g.St.Store.seen c.args.self.now.store).more ≤ s.more + 1)
    (sym c.refused.ensures.store) c.puts_record.ensures.more
