use Rattle.passive_store.specs.Seen.{Seen}
use Rattle.eden_move.specs.Minds.{remembered}
use Rattle.eden_move.specs.Shown.{IsHarmed}
use Rattle.eden_move.proofs.Carrying.{behind-refused, harmed-by}
use Rattle.eden_move.proofs.Going.{end-alike, goes-refused}
use Rattle.std.proofs.Common.{ap, ◌∙◌}
use Rattle.eden_move.proofs.node.MoveNode.settle.Goals as goal

pub returns-in-Err-clause-settled : goal.returns-in-Err-clause-settled
returns-in-Err-clause-settled g c tells x s =
    let p = c.in-Err.ensures.settled tells (remembered c.args.self.now.mind) x s in (
      p.1,
      behind-refused (λ e t. IsHarmed c.args.uid x e t (remembered c.refused.new.self.mind)) c.args.uid c.in-Err.refusal
          c.refused.result
          (g.St.Store.seen c.settles.new.store) (g.St.Store.seen c.refused.new.self.store) (remembered c.args.self.now.mind)
          (remembered c.refused.new.self.mind) c.refused.ensures.is c.refused.ensures.store c.refused.ensures.forgets
          c.refused.ensures.keeps
          (λ forgets keeps. harmed-by c.args.uid x c.in-Err.refusal (g.St.Store.seen c.settles.new.store) (remembered c.args.self.now.mind)
          (remembered c.refused.new.self.mind) p.0 p.2 forgets keeps),
    )

pub returns-in-Ok-clause-goes : goal.returns-in-Ok-clause-goes
returns-in-Ok-clause-goes g c = c.in-Ok.ensures.goes

pub returns-in-Err-clause-goes : goal.returns-in-Err-clause-goes
returns-in-Err-clause-goes g c = goes-refused _ _ _ _ _ _ c.refused.result _ _ _
    (end-alike c.in-Err.refusal c.refused.result c.refused.ensures.is) c.refused.ensures.store c.in-Err.ensures.goes

pub returns-in-Ok-clause-room : goal.returns-in-Ok-clause-room
returns-in-Ok-clause-room g c tells = c.settles.ensures.room tells

pub returns-in-Ok-clause-more : goal.returns-in-Ok-clause-more
returns-in-Ok-clause-more g c = c.settles.ensures.more

pub returns-in-Err-clause-more : goal.returns-in-Err-clause-more
returns-in-Err-clause-more g c = ap (λ (s : Seen). s.more) c.refused.ensures.store ∙ c.settles.ensures.more
