use Rattle.std.proofs.Common.{sym, ap, ◌∙◌}
use Rattle.passive_store.specs.Kept.{Kept, body_at}
use Rattle.checkpoint.proofs.Activations.{found-short}
use Rattle.checkpoint.proofs.StoreCalls.{reads-once}
use Rattle.checkpoint.proofs.Starting.{reads-found, reads-not, reads-none, same-sight}
use Rattle.std.proofs.Common.{ℕ, List, Option, refl}
use Rattle.checkpoint.proofs.Touching.{read-touches, raises-ran, none-touched, obeyed-none}
use Rattle.passive_store.specs.Seen.{Seen}
use Rattle.checkpoint.proofs.start.read_kept.Goals as goal

pub returns-then-not-holds-clause-reads : goal.returns-then-not-holds-clause-reads
returns-then-not-holds-clause-reads g c = λ so other t requests h.
    reads-none g.St.Store.layout _ t requests (g.St.Store.seen c.args.store.now) c.args.uid h other (sym (c.if-not-holds.ensures so))

pub returns-in-Ok-clause-reads : goal.returns-in-Ok-clause-reads
returns-in-Ok-clause-reads g c = λ so other t requests h.
    let r = reads-once _ _ g.St.Store.layout c.args.uid _ (g.St.Store.seen c.args.store.now)
    (g.St.Store.seen c.get.new.self) so c.in-Ok.ensures in
    reads-found g.St.Store.layout _ t requests (g.St.Store.seen c.args.store.now)
    (g.St.Store.seen c.get.new.self) c.args.uid c.in-Ok.found h other
    c.requires.settled r (c.in-Ok.ensures.body so)

pub returns-in-Err-clause-reads : goal.returns-in-Err-clause-reads
returns-in-Err-clause-reads g c = λ so other t requests h.
    let r = reads-once _ _ g.St.Store.layout c.args.uid _ (g.St.Store.seen c.args.store.now)
    (g.St.Store.seen c.get.new.self) so c.in-Err.ensures in
    reads-not g.St.Store.layout _ t requests (g.St.Store.seen c.args.store.now)
    (g.St.Store.seen c.get.new.self) c.args.uid c.in-Err.refusal h other
    c.requires.settled r c.in-Err.ensures.only (sym (c.if-not-holds.ensures so))

pub returns-in-Ok-clause-short : goal.returns-in-Ok-clause-short
returns-in-Ok-clause-short g c = λ so law t requests h.
    found-short g.St.Store.layout _ t requests
    (g.St.Store.seen c.args.store.now) c.args.uid c.in-Ok.found law h c.requires.settled c.requires.other
    (c.in-Ok.ensures.body so ∙ ap (λ (k : Kept). body_at k c.args.uid) (c.in-Ok.ensures.kept so ∙ same-sight _ _ _ c.requires.settled))

pub returns-then-not-holds-clause-touches : goal.returns-then-not-holds-clause-touches
returns-then-not-holds-clause-touches g c = λ so reads other.
    none-touched _ _ (sym (c.if-not-holds.ensures so)) c.requires.power

pub returns-in-Ok-clause-touches : goal.returns-in-Ok-clause-touches
returns-in-Ok-clause-touches g c = λ so reads other.
    let x : Seen = g.St.Store.seen c.args.store.now in
    read-touches _ _ g.St.Store.layout c.args.uid _ x _ so reads c.requires.settled (sym (c.if-not-holds.ensures so)) c.in-Ok.ensures other

pub returns-in-Err-clause-touches : goal.returns-in-Err-clause-touches
returns-in-Err-clause-touches g c = λ so reads other.
    let x : Seen = g.St.Store.seen c.args.store.now in
    read-touches _ _ g.St.Store.layout c.args.uid _ x _ so reads c.requires.settled (sym (c.if-not-holds.ensures so)) c.in-Err.ensures other

pub returns-then-not-holds-clause-obeyed : goal.returns-then-not-holds-clause-obeyed
returns-then-not-holds-clause-obeyed g c = obeyed-none _ (g.St.Store.seen c.args.store.now).disk _ _ refl refl

pub returns-in-Err-clause-raises : goal.returns-in-Err-clause-raises
returns-in-Err-clause-raises g c = raises-ran (Option (List ℕ)) _ _ _ _ _ c.in-Err.ensures.ran
