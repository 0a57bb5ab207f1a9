use Rattle.std.proofs.Common.{subst}
use Rattle.passive_store.specs.Seen.{Seen}
use Rattle.checkpoint.proofs.StoreCalls.{ReadsOnce, reads-once}
use Rattle.checkpoint.proofs.Epochs.{reads-on}
use Rattle.std.proofs.Common.{ℕ, List, Option, refl}
use Rattle.checkpoint.proofs.Touching.{obeyed-none, obeyed-alike, raises-alike, raises-ran}
use Rattle.checkpoint.proofs.up.read_epoch.Goals as goal

pub returns-in-Ok-Some-clause-reads : goal.returns-in-Ok-Some-clause-reads
returns-in-Ok-Some-clause-reads g c = λ so more s told clock p o.
    let x : Seen = g.St.Store.seen c.args.store.now in
    let y : Seen = g.St.Store.seen c.get.new.self in
    reads-on g.St.Store.layout c.args.node more s told clock p x y o
    (subst (λ k. ReadsOnce g.St.Store.layout k x y) c.requires.node (reads-once _ _ g.St.Store.layout _ _ x y so c.in-Ok-Some.ensures))

pub returns-in-Err-clause-reads : goal.returns-in-Err-clause-reads
returns-in-Err-clause-reads g c = λ so more s told clock p o.
    let x : Seen = g.St.Store.seen c.args.store.now in
    let y : Seen = g.St.Store.seen c.get.new.self in
    reads-on g.St.Store.layout c.args.node more s told clock p x y o
    (subst (λ k. ReadsOnce g.St.Store.layout k x y) c.requires.node (reads-once _ _ g.St.Store.layout _ _ x y so c.in-Err.ensures))

pub returns-then-not-holds-clause-obeyed : goal.returns-then-not-holds-clause-obeyed
returns-then-not-holds-clause-obeyed g c = obeyed-none _ (g.St.Store.seen c.args.store.now).disk _ _ refl refl

pub returns-in-Err-clause-obeyed : goal.returns-in-Err-clause-obeyed
returns-in-Err-clause-obeyed g c = obeyed-alike (Option (List ℕ)) ℕ _ _ _ _ _ c.in-Err.refusal c.in-Err.ensures.goes.obeyed

pub returns-in-Err-clause-raises : goal.returns-in-Err-clause-raises
returns-in-Err-clause-raises g c = raises-alike (Option (List ℕ)) ℕ _ _ c.in-Err.refusal
    (raises-ran (Option (List ℕ)) _ _ _ _ _ c.in-Err.ensures.ran)
