use Rattle.std.proofs.Common.{sym, subst, Ok}
use Rattle.checkpoint.specs.Asked.{IsOfDoubted}
use Rattle.checkpoint.specs.Starting.{SettlesTo}
use Rattle.checkpoint.proofs.StoreCalls.{settles-whole}
use Rattle.checkpoint.proofs.Starting.{settles-to, settles-not, unpicked}
use Rattle.std.proofs.Common.{◌∙◌}
use Rattle.checkpoint.proofs.Starting.{same-sight}
use Rattle.checkpoint.proofs.Touching.{settle-touches, raises-ran}
use Rattle.checkpoint.proofs.start.settle_first.Goals as goal

pub returns-in-Ok-clause-settles : goal.returns-in-Ok-clause-settles
returns-in-Ok-clause-settles g c = λ so s requests h.
    subst (λ p. SettlesTo g.St.Store.layout (g.St.Store.seen c.args.store.now).node s requests (g.St.Store.seen c.args.store.now) (Ok p)
    (g.St.Store.seen c.settle.new.self))
    (sym (c.found_of.ensures.pick (λ none. c.picked.ensures ∙ unpicked (g.St.Store.seen c.args.store.now).work _
    (sym c.unsure-doubted.ensures ∙ none) c.in-Ok.ensures.picked) ∙ c.picked.ensures))
    (settles-to g.St.Store.layout (g.St.Store.seen c.args.store.now).node s requests (g.St.Store.seen c.args.store.now)
    (g.St.Store.seen c.settle.new.self) (g.St.Store.seen c.settle.new.self).picked c.in-Ok.field-0 h
    (settles-whole _ _ g.St.Store.layout _ (g.St.Store.seen c.args.store.now) (g.St.Store.seen c.settle.new.self) so c.in-Ok.ensures))

pub returns-in-Ok-clause-whose : goal.returns-in-Ok-clause-whose
returns-in-Ok-clause-whose g c = subst (λ doubted. IsOfDoubted doubted c.found_of.result) c.unsure-doubted.ensures c.found_of.ensures.whose

pub returns-in-Err-clause-settles : goal.returns-in-Err-clause-settles
returns-in-Err-clause-settles g c = λ so s requests h.
    settles-not g.St.Store.layout _ s requests (g.St.Store.seen c.args.store.now) (g.St.Store.seen c.settle.new.self)
    (g.St.Store.seen c.settle.new.self).picked c.in-Err.refusal h
    (settles-whole _ _ g.St.Store.layout _ (g.St.Store.seen c.args.store.now) (g.St.Store.seen c.settle.new.self) so c.in-Err.ensures)

pub returns-in-Ok-clause-touches : goal.returns-in-Ok-clause-touches
returns-in-Ok-clause-touches g c = settle-touches (Unit {0}) (g.St.Store.seen c.args.store.now).work _ _ _ c.in-Ok.ensures.ran
    c.in-Ok.ensures.only c.in-Ok.ensures.refused

pub returns-in-Err-clause-touches : goal.returns-in-Err-clause-touches
returns-in-Err-clause-touches g c = settle-touches (Unit {0}) (g.St.Store.seen c.args.store.now).work _ _ _ c.in-Err.ensures.ran
    c.in-Err.ensures.only c.in-Err.ensures.refused

pub returns-in-Err-clause-raises : goal.returns-in-Err-clause-raises
returns-in-Err-clause-raises g c = raises-ran (Unit {0}) _ _ _ _ _ c.in-Err.ensures.ran

pub returns-in-Ok-clause-still : goal.returns-in-Ok-clause-still
returns-in-Ok-clause-still g c = λ so settled. c.in-Ok.ensures.kept so
    ∙ same-sight (g.St.Store.seen c.args.store.now).work _ _ settled

pub returns-in-Err-clause-still : goal.returns-in-Err-clause-still
returns-in-Err-clause-still g c = λ so settled. c.in-Err.ensures.kept so
    ∙ same-sight (g.St.Store.seen c.args.store.now).work _ _ settled
