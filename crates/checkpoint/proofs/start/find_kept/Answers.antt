use Rattle.std.proofs.Common.{ℕ, List, Option, subst, Ok, Err, Some, None}
use Rattle.passive_store.specs.declared.store.StoreRefusal.TheVariants as refusal
use Rattle.passive_store.specs.Seen.{Seen}
use Rattle.journal.specs.Starts.{start_settled}
use Rattle.checkpoint.specs.Asked.{pick_of}
use Rattle.checkpoint.specs.Turns.{with_clock}
use Rattle.std.specs.Prelude.{IfSome}
use Rattle.checkpoint.specs.declared.worker.Settled.{Settled}
use Rattle.checkpoint.specs.Starting.{SettlesTo, ReadsTo, IsShort}
use Rattle.checkpoint.proofs.SomeCalls.{calls-then, calls-refused}
use Rattle.checkpoint.proofs.Activations.{short-at}
use Rattle.checkpoint.proofs.Starting.{read-at, starts-kept, starts-gone, starts-unread, starts-stopped-later, starts-not}
use Rattle.std.proofs.Common.{ap}
use Rattle.std.specs.Prelude.{is_some}
use Rattle.eden_disk.specs.Calls.{Fine, AtFault, AtStop}
use Rattle.passive_store.specs.Kept.{Kept, body_at}
use Rattle.checkpoint.proofs.Touching.{touches-then, touches-refused, touches-as, obeyed-then, obeyed-as, raises-as, raises-behind}
use Rattle.checkpoint.proofs.Touching.{not-memory}
use Rattle.checkpoint.proofs.start.find_kept.Goals as goal

pub returns-in-Ok-Some-clause-finds : goal.returns-in-Ok-Some-clause-finds
returns-in-Ok-Some-clause-finds g c = λ so other s requests h.
    let x : Seen = g.St.Store.seen c.args.store.now in
    let m : Seen = g.St.Store.seen c.settle_first.new.store in
    let y : Seen = g.St.Store.seen c.read_kept.new.store in
    let t = with_clock m.disk.counts.clock (start_settled (pick_of c.in-Ok.settled) s) in
    let a : SettlesTo g.St.Store.layout x.node s requests x (Ok (pick_of c.in-Ok.settled)) m = c.in-Ok.ensures.settles so s requests h in
    let b : ReadsTo g.St.Store.layout x.node t requests c.args.uid m (Ok (Some c.in-Ok-Some.body)) y =
    read-at g.St.Store.layout x.node m.node t requests c.args.uid m (Ok (Some c.in-Ok-Some.body)) y c.in-Ok.ensures.node other a.1.stands
    (λ apart stands. subst (λ f. ReadsTo g.St.Store.layout m.node t requests c.args.uid m (Ok f) y) c.in-Ok-Some.field-0-is
    (c.in-Ok-Some.ensures.reads so apart t requests stands)) in
    starts-kept g.St.Store.layout x.node s requests c.args.uid x m y (pick_of c.in-Ok.settled) c.in-Ok-Some.body a b

pub returns-in-Ok-Some-clause-short : goal.returns-in-Ok-Some-clause-short
returns-in-Ok-Some-clause-short g c = λ so law s requests h.
    let x : Seen = g.St.Store.seen c.args.store.now in
    let m : Seen = g.St.Store.seen c.settle_first.new.store in
    let t = with_clock m.disk.counts.clock (start_settled (pick_of c.in-Ok.settled) s) in
    let a : SettlesTo g.St.Store.layout x.node s requests x (Ok (pick_of c.in-Ok.settled)) m = c.in-Ok.ensures.settles so s requests h in
    short-at g.St.Store.layout x.node m.node t requests m c.in-Ok-Some.body c.in-Ok.ensures.node a.1.stands
    (λ stands. subst (λ f. IfSome f IsShort) c.in-Ok-Some.field-0-is (c.in-Ok-Some.ensures.short so law t requests stands))

pub returns-in-Ok-None-clause-finds : goal.returns-in-Ok-None-clause-finds
returns-in-Ok-None-clause-finds g c = λ so other s requests h.
    let x : Seen = g.St.Store.seen c.args.store.now in
    let m : Seen = g.St.Store.seen c.settle_first.new.store in
    let y : Seen = g.St.Store.seen c.read_kept.new.store in
    let t = with_clock m.disk.counts.clock (start_settled (pick_of c.in-Ok.settled) s) in
    let a : SettlesTo g.St.Store.layout x.node s requests x (Ok (pick_of c.in-Ok.settled)) m = c.in-Ok.ensures.settles so s requests h in
    let b : ReadsTo g.St.Store.layout x.node t requests c.args.uid m (Ok None) y =
    read-at g.St.Store.layout x.node m.node t requests c.args.uid m (Ok None) y c.in-Ok.ensures.node other a.1.stands
    (λ apart stands. subst (λ f. ReadsTo g.St.Store.layout m.node t requests c.args.uid m (Ok f) y) c.in-Ok-None.field-0-is
    (c.in-Ok-None.ensures.reads so apart t requests stands)) in
    starts-gone g.St.Store.layout x.node s requests c.args.uid x m y (pick_of c.in-Ok.settled) a b

pub returns-in-Err-Failed-read_kept-clause-finds : goal.returns-in-Err-Failed-read_kept-clause-finds
returns-in-Err-Failed-read_kept-clause-finds g c = λ so other s requests h.
    let x : Seen = g.St.Store.seen c.args.store.now in
    let m : Seen = g.St.Store.seen c.settle_first.new.store in
    let y : Seen = g.St.Store.seen c.read_kept.new.store in
    let t = with_clock m.disk.counts.clock (start_settled (pick_of c.in-Ok.settled) s) in
    let a : SettlesTo g.St.Store.layout x.node s requests x (Ok (pick_of c.in-Ok.settled)) m = c.in-Ok.ensures.settles so s requests h in
    let b : ReadsTo g.St.Store.layout x.node t requests c.args.uid m (Err refusal.Failed) y =
    read-at g.St.Store.layout x.node m.node t requests c.args.uid m (Err refusal.Failed) y c.in-Ok.ensures.node other a.1.stands
    (λ apart stands. subst (λ f. ReadsTo g.St.Store.layout m.node t requests c.args.uid m (Err f) y) c.in-Err-Failed-read_kept.field-0-is
    (c.in-Err-Failed-read_kept.ensures.reads so apart t requests stands)) in
    starts-unread g.St.Store.layout x.node s requests c.args.uid x m y (pick_of c.in-Ok.settled) a b

pub returns-in-Err-Stopped-read_kept-clause-finds : goal.returns-in-Err-Stopped-read_kept-clause-finds
returns-in-Err-Stopped-read_kept-clause-finds g c = λ so other s requests h.
    let x : Seen = g.St.Store.seen c.args.store.now in
    let m : Seen = g.St.Store.seen c.settle_first.new.store in
    let y : Seen = g.St.Store.seen c.read_kept.new.store in
    let t = with_clock m.disk.counts.clock (start_settled (pick_of c.in-Ok.settled) s) in
    let a : SettlesTo g.St.Store.layout x.node s requests x (Ok (pick_of c.in-Ok.settled)) m = c.in-Ok.ensures.settles so s requests h in
    let b : ReadsTo g.St.Store.layout x.node t requests c.args.uid m (Err refusal.Stopped) y =
    read-at g.St.Store.layout x.node m.node t requests c.args.uid m (Err refusal.Stopped) y c.in-Ok.ensures.node other a.1.stands
    (λ apart stands. subst (λ f. ReadsTo g.St.Store.layout m.node t requests c.args.uid m (Err f) y) c.in-Err-Stopped-read_kept.field-0-is
    (c.in-Err-Stopped-read_kept.ensures.reads so apart t requests stands)) in
    starts-stopped-later g.St.Store.layout x.node s requests c.args.uid x m y (pick_of c.in-Ok.settled) a b

pub returns-in-Err-OutOfMemory-clause-none : goal.returns-in-Err-OutOfMemory-clause-none
returns-in-Err-OutOfMemory-clause-none g c = λ so other s requests h.
    let x : Seen = g.St.Store.seen c.args.store.now in
    let m : Seen = g.St.Store.seen c.settle_first.new.store in
    let y : Seen = g.St.Store.seen c.read_kept.new.store in
    let t = with_clock m.disk.counts.clock (start_settled (pick_of c.in-Ok.settled) s) in
    let a : SettlesTo g.St.Store.layout x.node s requests x (Ok (pick_of c.in-Ok.settled)) m = c.in-Ok.ensures.settles so s requests h in
    let b : ReadsTo g.St.Store.layout x.node t requests c.args.uid m (Err refusal.OutOfMemory) y =
    read-at g.St.Store.layout x.node m.node t requests c.args.uid m (Err refusal.OutOfMemory) y c.in-Ok.ensures.node other a.1.stands
    (λ apart stands. subst (λ f. ReadsTo g.St.Store.layout m.node t requests c.args.uid m (Err f) y) c.in-Err-OutOfMemory.field-0-is
    (c.in-Err-OutOfMemory.ensures.reads so apart t requests stands)) in
    starts-not g.St.Store.layout x.node s requests c.args.uid x m y (pick_of c.in-Ok.settled) a b

pub returns-in-Ok-Some-clause-calls : goal.returns-in-Ok-Some-clause-calls
returns-in-Ok-Some-clause-calls g c = calls-then _ _ _ _ c.in-Ok.ensures.calls c.in-Ok-Some.ensures.calls

pub returns-in-Ok-None-clause-calls : goal.returns-in-Ok-None-clause-calls
returns-in-Ok-None-clause-calls g c = calls-then _ _ _ _ c.in-Ok.ensures.calls c.in-Ok-None.ensures.calls

pub returns-in-Err-Stopped-read_kept-clause-calls : goal.returns-in-Err-Stopped-read_kept-clause-calls
returns-in-Err-Stopped-read_kept-clause-calls g c = calls-then _ _ _ _ c.in-Ok.ensures.calls
    (calls-refused (Option (List ℕ)) _ refusal.Stopped _ _ c.in-Err-Stopped-read_kept.field-0-is c.in-Err-Stopped-read_kept.ensures.calls)

pub returns-in-Err-Failed-read_kept-clause-calls : goal.returns-in-Err-Failed-read_kept-clause-calls
returns-in-Err-Failed-read_kept-clause-calls g c = calls-then _ _ _ _ c.in-Ok.ensures.calls
    (calls-refused (Option (List ℕ)) _ refusal.Failed _ _ c.in-Err-Failed-read_kept.field-0-is c.in-Err-Failed-read_kept.ensures.calls)

pub returns-in-Err-OutOfMemory-clause-calls : goal.returns-in-Err-OutOfMemory-clause-calls
returns-in-Err-OutOfMemory-clause-calls g c = calls-then _ _ _ _ c.in-Ok.ensures.calls
    (calls-refused (Option (List ℕ)) _ refusal.OutOfMemory _ _ c.in-Err-OutOfMemory.field-0-is c.in-Err-OutOfMemory.ensures.calls)

-- where device calls are made

pub returns-in-Ok-Some-clause-touches : goal.returns-in-Ok-Some-clause-touches
returns-in-Ok-Some-clause-touches g c = λ so reads.
    touches-then _ _ _ _ _ _ _ c.in-Ok.ensures.touches (c.in-Ok-Some.ensures.touches so reads (λ bad. cc bad))
    (λ settled. ap (λ (k : Kept). is_some (body_at k c.args.uid)) (c.in-Ok.ensures.still so settled))

pub returns-in-Ok-Some-clause-obeyed : goal.returns-in-Ok-Some-clause-obeyed
returns-in-Ok-Some-clause-obeyed g c = obeyed-then _ _ _ _ _ _ _ Fine c.in-Ok.ensures.calls c.in-Ok-Some.ensures.calls
    c.in-Ok.ensures.obeyed
    c.in-Ok-Some.ensures.obeyed

pub returns-in-Ok-None-clause-touches : goal.returns-in-Ok-None-clause-touches
returns-in-Ok-None-clause-touches g c = λ so reads.
    touches-then _ _ _ _ _ _ _ c.in-Ok.ensures.touches (c.in-Ok-None.ensures.touches so reads (λ bad. cc bad))
    (λ settled. ap (λ (k : Kept). is_some (body_at k c.args.uid)) (c.in-Ok.ensures.still so settled))

pub returns-in-Ok-None-clause-obeyed : goal.returns-in-Ok-None-clause-obeyed
returns-in-Ok-None-clause-obeyed g c = obeyed-then _ _ _ _ _ _ _ Fine c.in-Ok.ensures.calls c.in-Ok-None.ensures.calls
    c.in-Ok.ensures.obeyed
    c.in-Ok-None.ensures.obeyed

pub returns-in-Err-Failed-read_kept-clause-touches : goal.returns-in-Err-Failed-read_kept-clause-touches
returns-in-Err-Failed-read_kept-clause-touches g c = λ so reads.
    touches-then _ _ _ _ _ _ AtFault c.in-Ok.ensures.touches
    (touches-as (Option (List ℕ)) _ _ _ _ refusal.Failed c.in-Err-Failed-read_kept.field-0-is
    (c.in-Err-Failed-read_kept.ensures.touches so reads (not-memory (Option
    (List ℕ)) _ refusal.Failed c.in-Err-Failed-read_kept.field-0-is (λ bad. cc bad))))
    (λ settled. ap (λ (k : Kept). is_some (body_at k c.args.uid)) (c.in-Ok.ensures.still so settled))

pub returns-in-Err-Failed-read_kept-clause-obeyed : goal.returns-in-Err-Failed-read_kept-clause-obeyed
returns-in-Err-Failed-read_kept-clause-obeyed g c = obeyed-then _ _ _ _ _ _ _ AtFault c.in-Ok.ensures.calls
    (calls-refused (Option (List ℕ)) _ refusal.Failed _ _ c.in-Err-Failed-read_kept.field-0-is c.in-Err-Failed-read_kept.ensures.calls)
    c.in-Ok.ensures.obeyed
    (obeyed-as (Option (List ℕ)) _ _ _ _ _ _ refusal.Failed c.in-Err-Failed-read_kept.field-0-is c.in-Err-Failed-read_kept.ensures.obeyed)

pub returns-in-Err-Failed-read_kept-clause-raises : goal.returns-in-Err-Failed-read_kept-clause-raises
returns-in-Err-Failed-read_kept-clause-raises g c = raises-behind _ _ _ AtFault c.in-Ok.ensures.calls
    (raises-as (Option (List ℕ)) _ _ _ refusal.Failed c.in-Err-Failed-read_kept.field-0-is c.in-Err-Failed-read_kept.ensures.raises)

pub returns-in-Err-Failed-clause-touches : goal.returns-in-Err-Failed-clause-touches
returns-in-Err-Failed-clause-touches g c = λ so reads.
    touches-refused _ _ _ _ AtFault (λ bad. cc bad)
    (touches-as (Option Settled) _ _ _ _ refusal.Failed c.in-Err-Failed.field-0-is c.in-Err-Failed.ensures.touches)

pub returns-in-Err-Failed-clause-obeyed : goal.returns-in-Err-Failed-clause-obeyed
returns-in-Err-Failed-clause-obeyed g c = obeyed-as
    (Option Settled) _ _ _ _ _ _ refusal.Failed c.in-Err-Failed.field-0-is c.in-Err-Failed.ensures.obeyed

pub returns-in-Err-Failed-clause-raises : goal.returns-in-Err-Failed-clause-raises
returns-in-Err-Failed-clause-raises g c = raises-as
    (Option Settled) _ _ _ refusal.Failed c.in-Err-Failed.field-0-is c.in-Err-Failed.ensures.raises

pub returns-in-Err-Stopped-read_kept-clause-touches : goal.returns-in-Err-Stopped-read_kept-clause-touches
returns-in-Err-Stopped-read_kept-clause-touches g c = λ so reads.
    touches-then _ _ _ _ _ _ AtStop c.in-Ok.ensures.touches
    (touches-as (Option (List ℕ)) _ _ _ _ refusal.Stopped c.in-Err-Stopped-read_kept.field-0-is
    (c.in-Err-Stopped-read_kept.ensures.touches so reads (not-memory (Option
    (List ℕ)) _ refusal.Stopped c.in-Err-Stopped-read_kept.field-0-is (λ bad. cc bad))))
    (λ settled. ap (λ (k : Kept). is_some (body_at k c.args.uid)) (c.in-Ok.ensures.still so settled))

pub returns-in-Err-Stopped-read_kept-clause-obeyed : goal.returns-in-Err-Stopped-read_kept-clause-obeyed
returns-in-Err-Stopped-read_kept-clause-obeyed g c = obeyed-then _ _ _ _ _ _ _ AtStop c.in-Ok.ensures.calls
    (calls-refused (Option (List ℕ)) _ refusal.Stopped _ _ c.in-Err-Stopped-read_kept.field-0-is
    c.in-Err-Stopped-read_kept.ensures.calls) c.in-Ok.ensures.obeyed
    (obeyed-as (Option (List ℕ)) _ _ _ _ _ _ refusal.Stopped c.in-Err-Stopped-read_kept.field-0-is
    c.in-Err-Stopped-read_kept.ensures.obeyed)

pub returns-in-Err-Stopped-read_kept-clause-raises : goal.returns-in-Err-Stopped-read_kept-clause-raises
returns-in-Err-Stopped-read_kept-clause-raises g c = raises-behind _ _ _ AtStop c.in-Ok.ensures.calls
    (raises-as (Option (List ℕ)) _ _ _ refusal.Stopped c.in-Err-Stopped-read_kept.field-0-is c.in-Err-Stopped-read_kept.ensures.raises)

pub returns-in-Err-Stopped-clause-touches : goal.returns-in-Err-Stopped-clause-touches
returns-in-Err-Stopped-clause-touches g c = λ so reads.
    touches-refused _ _ _ _ AtStop (λ bad. cc bad)
    (touches-as (Option Settled) _ _ _ _ refusal.Stopped c.in-Err-Stopped.field-0-is c.in-Err-Stopped.ensures.touches)

pub returns-in-Err-Stopped-clause-obeyed : goal.returns-in-Err-Stopped-clause-obeyed
returns-in-Err-Stopped-clause-obeyed g c = obeyed-as
    (Option Settled) _ _ _ _ _ _ refusal.Stopped c.in-Err-Stopped.field-0-is c.in-Err-Stopped.ensures.obeyed

pub returns-in-Err-Stopped-clause-raises : goal.returns-in-Err-Stopped-clause-raises
returns-in-Err-Stopped-clause-raises g c = raises-as
    (Option Settled) _ _ _ refusal.Stopped c.in-Err-Stopped.field-0-is c.in-Err-Stopped.ensures.raises

pub returns-in-Err-OutOfMemory-clause-obeyed : goal.returns-in-Err-OutOfMemory-clause-obeyed
returns-in-Err-OutOfMemory-clause-obeyed g c = obeyed-then _ _ _ _ _ _ _ Fine c.in-Ok.ensures.calls
    (calls-refused (Option (List ℕ)) _ refusal.OutOfMemory _ _ c.in-Err-OutOfMemory.field-0-is c.in-Err-OutOfMemory.ensures.calls)
    c.in-Ok.ensures.obeyed
    (obeyed-as (Option (List ℕ)) _ _ _ _ _ _ refusal.OutOfMemory c.in-Err-OutOfMemory.field-0-is c.in-Err-OutOfMemory.ensures.obeyed)
