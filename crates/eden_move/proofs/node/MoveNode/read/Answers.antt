use Rattle.passive_store.specs.Seen.{Seen}
use Rattle.std.proofs.Common.{◌≡◌, ◌⊎◌, is_some}
use Rattle.std.specs.Prelude.{IsTrue}
use Rattle.eden_move.specs.declared.refusal.MoveRefusal.TheVariants.{OutOfMemory}
use Rattle.eden_move.specs.Minds.{remembered}
use Rattle.eden_move.specs.Shown.{IsHarmed, Shows}
use Rattle.eden_move.proofs.Carrying.{behind-refused, read-refused, found-both}
use Rattle.eden_move.proofs.Going.{end-alike, goes-refused, goes-found}
use Rattle.std.proofs.Common.{ap, ◌∙◌}
use Rattle.eden_move.proofs.Rooming.{on-ok-any}
use Rattle.eden_move.proofs.node.MoveNode.read.Goals as goal

pub returns-in-Err-clause-found : goal.returns-in-Err-clause-found
returns-in-Err-clause-found g c tells x s =
    let p = c.in-Err.ensures.read tells (remembered c.args.self.now.mind) x s in
    let n = remembered c.refused.new.self.mind in
    let m = remembered c.args.self.now.mind in
    let t = g.St.Store.seen c.reads_kept.new.store in
    behind-refused (λ e t. ((e ≡ OutOfMemory) × Shows t n x) ⊎ (IsTrue (is_some (x.kept c.args.uid)) × IsHarmed c.args.uid x e t n))
    c.args.uid
    c.in-Err.refusal c.refused.result t (g.St.Store.seen c.refused.new.self.store) m n c.refused.ensures.is c.refused.ensures.store
    c.refused.ensures.forgets c.refused.ensures.keeps
    (λ forgets keeps. read-refused c.args.uid x c.in-Err.refusal t m n p.0 p.1 forgets keeps)

pub returns-in-Ok-clause-found : goal.returns-in-Ok-clause-found
returns-in-Ok-clause-found g c tells x s =
    let p = c.in-Ok.ensures.read tells (remembered c.args.self.now.mind) x s in
    found-both c.found_in.result c.args.uid x c.in-Ok.kept (g.St.Store.seen c.reads_kept.new.store)
    (remembered c.args.self.now.mind) p.1 c.found_in.ensures.found c.found_in.ensures.only p.0

pub returns-in-Ok-clause-goes : goal.returns-in-Ok-clause-goes
returns-in-Ok-clause-goes g c = goes-found _ _ _ _ _ c.found_in.result _ _ c.found_in.ensures.only c.in-Ok.ensures.goes

pub returns-in-Err-clause-goes : goal.returns-in-Err-clause-goes
returns-in-Err-clause-goes g c = goes-refused _ _ _ _ _ _ c.refused.result _ _ _
    (end-alike c.in-Err.refusal c.refused.result c.refused.ensures.is) c.refused.ensures.store c.in-Err.ensures.goes

pub returns-in-Ok-clause-room : goal.returns-in-Ok-clause-room
returns-in-Ok-clause-room g c tells = on-ok-any c.found_in.result _ (c.reads_kept.ensures.room tells)

pub returns-in-Ok-clause-more : goal.returns-in-Ok-clause-more
returns-in-Ok-clause-more g c = c.reads_kept.ensures.more

pub returns-in-Err-clause-more : goal.returns-in-Err-clause-more
returns-in-Err-clause-more g c = ap (λ (s : Seen). s.more) c.refused.ensures.store ∙ c.reads_kept.ensures.more
