use Rattle.std.proofs.Common.{List, sym, subst, ap, ◌∙◌}
use Rattle.std.specs.Option.{option_map}
use Rattle.passive_store.specs.Seen.{Seen}
use Rattle.journal.specs.World.{Site, StoreRequest}
use Rattle.checkpoint.specs.Asked.{StandsNow, pick_of}
use Rattle.checkpoint.specs.Starting.{FindsTo, FindsShort, StartsNot}
use Rattle.checkpoint.specs.declared.start.Find.TheVariants as find
use Rattle.checkpoint.proofs.Activations.{any-err, starts-values, starts-damaged, starts-gone-so, starts-fault, starts-stop}
use Rattle.checkpoint.specs.Starting.{call_of_find}
use Rattle.checkpoint.specs.Touches.{Touches, ObeyedIn, RaisesClock, calls_to_start}
use Rattle.checkpoint.proofs.Touching.{touched-start}
use Rattle.checkpoint.proofs.start.start_from.Goals as goal

pub returns-in-Some-clause-starts : goal.returns-in-Some-clause-starts
returns-in-Some-clause-starts g c = λ so law other s requests same h.
    let x : Seen = g.St.Store.seen c.args.store.now in
    let y : Seen = g.St.Store.seen c.find_kept.new.store in
    let f : FindsTo g.St.Store.layout x.node s requests c.args.uid x (find.Bytes c.in-Bytes.body) (pick_of c.in_ok-found.settled) y =
    subst (λ k. FindsTo g.St.Store.layout x.node s requests c.args.uid x k (pick_of c.in_ok-found.settled) y) c.in-Bytes.is
    (c.in_ok-found.ensures.finds so other s requests h) in
    starts-values g.St.Store.layout x.node s requests c.args.uid x (pick_of c.in_ok-found.settled) y h c.requires.other
    (g.T.Starter.types c.args.types.now)
    c.in-Bytes.body (g.T.Starter.started c.args.types.now c.in-Some.start) same f
    (sym (c.in_ok-start-in-Bytes.ensures (subst FindsShort c.in-Bytes.is (c.in_ok-found.ensures.short so law s requests h)))
    ∙ ap (option_map (g.T.Starter.started c.args.types.now)) c.in-Some.is)

pub returns-in-None-clause-starts : goal.returns-in-None-clause-starts
returns-in-None-clause-starts g c = λ so law other s requests same h.
    let x : Seen = g.St.Store.seen c.args.store.now in
    let y : Seen = g.St.Store.seen c.find_kept.new.store in
    let f : FindsTo g.St.Store.layout x.node s requests c.args.uid x (find.Bytes c.in-Bytes.body) (pick_of c.in_ok-found.settled) y =
    subst (λ k. FindsTo g.St.Store.layout x.node s requests c.args.uid x k (pick_of c.in_ok-found.settled) y) c.in-Bytes.is
    (c.in_ok-found.ensures.finds so other s requests h) in
    starts-damaged g.St.Store.layout x.node s requests c.args.uid x (pick_of c.in_ok-found.settled) y h c.requires.other
    (g.T.Starter.types c.args.types.now) c.in-Bytes.body same f
    (sym (c.in_ok-start-in-Bytes.ensures (subst FindsShort c.in-Bytes.is (c.in_ok-found.ensures.short so law s requests h)))
    ∙ ap (option_map (g.T.Starter.started c.args.types.now)) c.in-None.is)

pub returns-in-Nothing-clause-starts : goal.returns-in-Nothing-clause-starts
returns-in-Nothing-clause-starts g c = λ so law other s requests same h.
    let x : Seen = g.St.Store.seen c.args.store.now in
    let y : Seen = g.St.Store.seen c.find_kept.new.store in
    starts-gone-so g.St.Store.layout x.node s requests c.args.uid x (pick_of c.in_ok-found.settled) y h c.requires.other
    (subst (λ k. FindsTo g.St.Store.layout x.node s requests c.args.uid x k (pick_of c.in_ok-found.settled) y) c.in-Nothing.is
    (c.in_ok-found.ensures.finds so other s requests h))

pub returns-in-Fault-clause-starts : goal.returns-in-Fault-clause-starts
returns-in-Fault-clause-starts g c = λ so law other s requests same h.
    let x : Seen = g.St.Store.seen c.args.store.now in
    let y : Seen = g.St.Store.seen c.find_kept.new.store in
    starts-fault g.St.Store.layout x.node s requests c.args.uid x (pick_of c.in_ok-found.settled) y h c.requires.other
    (subst (λ k. FindsTo g.St.Store.layout x.node s requests c.args.uid x k (pick_of c.in_ok-found.settled) y) c.in-Fault.is
    (c.in_ok-found.ensures.finds so other s requests h))

pub returns-in-Stopped-clause-starts : goal.returns-in-Stopped-clause-starts
returns-in-Stopped-clause-starts g c = λ so law other s requests same h.
    let x : Seen = g.St.Store.seen c.args.store.now in
    let y : Seen = g.St.Store.seen c.find_kept.new.store in
    starts-stop g.St.Store.layout x.node s requests c.args.uid x (pick_of c.in_ok-found.settled) y h c.requires.other
    (subst (λ k. FindsTo g.St.Store.layout x.node s requests c.args.uid x k (pick_of c.in_ok-found.settled) y) c.in-Stopped.is
    (c.in_ok-found.ensures.finds so other s requests h))

pub returns-in_err-start-in-Bytes-clause-none : goal.returns-in_err-start-in-Bytes-clause-none
returns-in_err-start-in-Bytes-clause-none g c = λ so other.
    let x : Seen = g.St.Store.seen c.args.store.now in
    let y : Seen = g.St.Store.seen c.find_kept.new.store in
    let lost : (s : Site) (requests : List StoreRequest) → StandsNow g.St.Store.layout x.node s requests x
    → StartsNot g.St.Store.layout x.node s requests x y = λ s requests h.
    let f : FindsTo g.St.Store.layout x.node s requests c.args.uid x (find.Bytes c.in-Bytes.body) (pick_of c.in_ok-found.settled) y =
    subst (λ k. FindsTo g.St.Store.layout x.node s requests c.args.uid x k (pick_of c.in_ok-found.settled) y) c.in-Bytes.is
    (c.in_ok-found.ensures.finds so other s requests h) in
    (pick_of c.in_ok-found.settled, f.0, f.2) in
    any-err c.from_residual-in_err-start-in-Bytes.result ((s : Site) (requests : List StoreRequest)
    → StandsNow g.St.Store.layout x.node s requests x → StartsNot g.St.Store.layout x.node s requests x y) lost

-- where device calls are made

pub returns-in-Some-clause-touches : goal.returns-in-Some-clause-touches
returns-in-Some-clause-touches g c = λ so reads other s requests h.
    let x : Seen = g.St.Store.seen c.args.store.now in
    let y : Seen = g.St.Store.seen c.find_kept.new.store in
    subst (λ b. Touches b x.disk.counts y.disk.counts (call_of_find (find.Bytes c.in-Bytes.body)))
    (sym (touched-start g.St.Store.layout x.node s requests x c.args.uid other h))
    (subst (λ f. Touches (calls_to_start x.work x.kept c.args.uid) x.disk.counts y.disk.counts (call_of_find f)) c.in-Bytes.is
    (c.in_ok-found.ensures.touches so reads))

pub returns-in-Some-clause-obeyed : goal.returns-in-Some-clause-obeyed
returns-in-Some-clause-obeyed g c =
    subst (λ f. ObeyedIn _ (g.St.Store.seen c.args.store.now).disk (g.St.Store.seen c.find_kept.new.store).disk
    (call_of_find f)) c.in-Bytes.is
    c.in_ok-found.ensures.obeyed

pub returns-in-Some-clause-raises : goal.returns-in-Some-clause-raises
returns-in-Some-clause-raises g c =
    subst (λ f. RaisesClock (call_of_find f) (g.St.Store.seen c.args.store.now).disk.counts.clock
    (g.St.Store.seen c.find_kept.new.store).disk.counts.clock) c.in-Bytes.is c.in_ok-found.ensures.raises

pub returns-in-None-clause-touches : goal.returns-in-None-clause-touches
returns-in-None-clause-touches g c = λ so reads other s requests h.
    let x : Seen = g.St.Store.seen c.args.store.now in
    let y : Seen = g.St.Store.seen c.find_kept.new.store in
    subst (λ b. Touches b x.disk.counts y.disk.counts (call_of_find (find.Bytes c.in-Bytes.body)))
    (sym (touched-start g.St.Store.layout x.node s requests x c.args.uid other h))
    (subst (λ f. Touches (calls_to_start x.work x.kept c.args.uid) x.disk.counts y.disk.counts (call_of_find f)) c.in-Bytes.is
    (c.in_ok-found.ensures.touches so reads))

pub returns-in-None-clause-obeyed : goal.returns-in-None-clause-obeyed
returns-in-None-clause-obeyed g c =
    subst (λ f. ObeyedIn _ (g.St.Store.seen c.args.store.now).disk (g.St.Store.seen c.find_kept.new.store).disk
    (call_of_find f)) c.in-Bytes.is
    c.in_ok-found.ensures.obeyed

pub returns-in-None-clause-raises : goal.returns-in-None-clause-raises
returns-in-None-clause-raises g c =
    subst (λ f. RaisesClock (call_of_find f) (g.St.Store.seen c.args.store.now).disk.counts.clock
    (g.St.Store.seen c.find_kept.new.store).disk.counts.clock) c.in-Bytes.is c.in_ok-found.ensures.raises

pub returns-in-Nothing-clause-touches : goal.returns-in-Nothing-clause-touches
returns-in-Nothing-clause-touches g c = λ so reads other s requests h.
    let x : Seen = g.St.Store.seen c.args.store.now in
    let y : Seen = g.St.Store.seen c.find_kept.new.store in
    subst (λ b. Touches b x.disk.counts y.disk.counts (call_of_find (find.Nothing)))
    (sym (touched-start g.St.Store.layout x.node s requests x c.args.uid other h))
    (subst (λ f. Touches (calls_to_start x.work x.kept c.args.uid) x.disk.counts y.disk.counts (call_of_find f)) c.in-Nothing.is
    (c.in_ok-found.ensures.touches so reads))

pub returns-in-Nothing-clause-obeyed : goal.returns-in-Nothing-clause-obeyed
returns-in-Nothing-clause-obeyed g c =
    subst (λ f. ObeyedIn _ (g.St.Store.seen c.args.store.now).disk (g.St.Store.seen c.find_kept.new.store).disk
    (call_of_find f)) c.in-Nothing.is
    c.in_ok-found.ensures.obeyed

pub returns-in-Nothing-clause-raises : goal.returns-in-Nothing-clause-raises
returns-in-Nothing-clause-raises g c =
    subst (λ f. RaisesClock (call_of_find f) (g.St.Store.seen c.args.store.now).disk.counts.clock
    (g.St.Store.seen c.find_kept.new.store).disk.counts.clock) c.in-Nothing.is c.in_ok-found.ensures.raises

pub returns-in-Fault-clause-touches : goal.returns-in-Fault-clause-touches
returns-in-Fault-clause-touches g c = λ so reads other s requests h.
    let x : Seen = g.St.Store.seen c.args.store.now in
    let y : Seen = g.St.Store.seen c.find_kept.new.store in
    subst (λ b. Touches b x.disk.counts y.disk.counts (call_of_find (find.Fault)))
    (sym (touched-start g.St.Store.layout x.node s requests x c.args.uid other h))
    (subst (λ f. Touches (calls_to_start x.work x.kept c.args.uid) x.disk.counts y.disk.counts (call_of_find f)) c.in-Fault.is
    (c.in_ok-found.ensures.touches so reads))

pub returns-in-Fault-clause-obeyed : goal.returns-in-Fault-clause-obeyed
returns-in-Fault-clause-obeyed g c =
    subst (λ f. ObeyedIn _ (g.St.Store.seen c.args.store.now).disk (g.St.Store.seen c.find_kept.new.store).disk
    (call_of_find f)) c.in-Fault.is
    c.in_ok-found.ensures.obeyed

pub returns-in-Fault-clause-raises : goal.returns-in-Fault-clause-raises
returns-in-Fault-clause-raises g c =
    subst (λ f. RaisesClock (call_of_find f) (g.St.Store.seen c.args.store.now).disk.counts.clock
    (g.St.Store.seen c.find_kept.new.store).disk.counts.clock) c.in-Fault.is c.in_ok-found.ensures.raises

pub returns-in-Stopped-clause-touches : goal.returns-in-Stopped-clause-touches
returns-in-Stopped-clause-touches g c = λ so reads other s requests h.
    let x : Seen = g.St.Store.seen c.args.store.now in
    let y : Seen = g.St.Store.seen c.find_kept.new.store in
    subst (λ b. Touches b x.disk.counts y.disk.counts (call_of_find (find.Stopped)))
    (sym (touched-start g.St.Store.layout x.node s requests x c.args.uid other h))
    (subst (λ f. Touches (calls_to_start x.work x.kept c.args.uid) x.disk.counts y.disk.counts (call_of_find f)) c.in-Stopped.is
    (c.in_ok-found.ensures.touches so reads))

pub returns-in-Stopped-clause-obeyed : goal.returns-in-Stopped-clause-obeyed
returns-in-Stopped-clause-obeyed g c =
    subst (λ f. ObeyedIn _ (g.St.Store.seen c.args.store.now).disk (g.St.Store.seen c.find_kept.new.store).disk
    (call_of_find f)) c.in-Stopped.is
    c.in_ok-found.ensures.obeyed

pub returns-in-Stopped-clause-raises : goal.returns-in-Stopped-clause-raises
returns-in-Stopped-clause-raises g c =
    subst (λ f. RaisesClock (call_of_find f) (g.St.Store.seen c.args.store.now).disk.counts.clock
    (g.St.Store.seen c.find_kept.new.store).disk.counts.clock) c.in-Stopped.is c.in_ok-found.ensures.raises
