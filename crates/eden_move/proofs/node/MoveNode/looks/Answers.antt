use Rattle.eden_move.specs.Minds.{remembered}
use Rattle.eden_move.proofs.Carrying.{looks-none, looks-unread, looks-read}
use Rattle.std.proofs.Common.{true, false, sym, ◌∙◌}
use Rattle.eden_move.proofs.Going.{goes-none, goes-wide}
use Rattle.eden_move.proofs.Rooming.{keeps-same}
use Rattle.eden_move.proofs.node.MoveNode.looks.Goals as goal

pub returns-then-not-holds-clause-found : goal.returns-then-not-holds-clause-found
returns-then-not-holds-clause-found g c tells x s = looks-none c.args.uid x (g.St.Store.seen c.args.self.now.store)
    (remembered c.args.self.now.mind) c.args.self.now.number c.key_of.result c.holds.result c.requires.wanderer c.key_of.ensures
    c.requires.of.of
    (c.holds.ensures tells) c.if-not-holds.true s

pub returns-then-reading-clause-found : goal.returns-then-reading-clause-found
returns-then-reading-clause-found g c tells x s = looks-read c.read.result c.args.uid x c.args.reading
    (g.St.Store.seen c.read.new.self.store)
    (remembered c.read.new.self.mind) c.if-reading.true (c.read.ensures.found tells x s)

pub returns-else-reading-clause-found : goal.returns-else-reading-clause-found
returns-else-reading-clause-found g c tells x s = looks-unread c.args.uid x (g.St.Store.seen c.args.self.now.store)
    (remembered c.args.self.now.mind) c.args.self.now.number c.key_of.result c.holds.result c.requires.wanderer c.key_of.ensures
    c.requires.of.of
    (c.holds.ensures tells) c.if-not-holds.false s

pub returns-then-not-holds-clause-goes : goal.returns-then-not-holds-clause-goes
returns-then-not-holds-clause-goes g c = goes-none _ _ _ _ _ _ c.requires.power

pub returns-then-reading-clause-goes : goal.returns-then-reading-clause-goes
returns-then-reading-clause-goes g c = goes-wide _ true false _ _ _ _ _ _ _ (λ e. sym c.if-reading.true ∙ e) (λ e. e) c.read.ensures.goes

pub returns-else-reading-clause-goes : goal.returns-else-reading-clause-goes
returns-else-reading-clause-goes g c = goes-none _ _ _ _ _ _ c.requires.power

pub returns-then-not-holds-clause-room : goal.returns-then-not-holds-clause-room
returns-then-not-holds-clause-room g c tells = keeps-same (g.St.Store.seen c.args.self.now.store)

pub returns-then-reading-clause-room : goal.returns-then-reading-clause-room
returns-then-reading-clause-room g c = c.read.ensures.room

pub returns-else-reading-clause-room : goal.returns-else-reading-clause-room
returns-else-reading-clause-room g c tells = keeps-same (g.St.Store.seen c.args.self.now.store)
