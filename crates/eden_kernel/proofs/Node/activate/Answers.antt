use Rattle.std.proofs.Common.{List, Option, sym, subst, ◌∙◌, arith}
use Rattle.std.specs.Prelude.{is_some}
use Rattle.eden_value.specs.Datum.{Datum}
use Rattle.epl_syntax.specs.Edentype.{Edentype}
use Rattle.passive_store.specs.Kept.{unsure_in, body_at as kept_at}
use Rattle.passive_store.specs.Seen.{Seen}
use Rattle.journal.specs.World.{StoreRequest}
use Rattle.journal.specs.declared.event.Event.TheVariants as event
use Rattle.checkpoint.specs.Asked.{requests_of, pick_of}
use Rattle.checkpoint.specs.Starting.{StartsTo, end_of_start, values_of}
use Rattle.checkpoint.proofs.Activations.{any-err}
use Rattle.ejects.specs.StoreEnds.{SettlesAt}
use Rattle.eden_kernel.specs.DiskTurns.{EndsTurn, StopsBy, begun_as}
use Rattle.eden_kernel.proofs.Activating.{apart-of, turn-activates}
use Rattle.eden_kernel.proofs.Asleep.{asleep-for}
use Rattle.eden_kernel.proofs.StoreTurn.{told-of}
use Rattle.eden_kernel.proofs.Starving.{starves-started, starves-unread}
use Rattle.journal.specs.Step.{touches_start}
use Rattle.checkpoint.specs.Calls.{MakesCalls}
use Rattle.checkpoint.specs.Starting.{call_of_start}
use Rattle.checkpoint.specs.Touches.{Touches, ObeyedIn, RaisesClock}
use Rattle.eden_kernel.proofs.Showing.{left-behind, shows-start, stops-start}
use Rattle.eden_kernel.proofs.Node.activate.Goals as goal

pub returns-clause-turn : goal.returns-clause-turn
returns-clause-turn g c = λ so law reach s sound h.
    let n = c.args.self.now in
    let ts = c.args.types.now in
    let new = c.activation_ends.new.ejects in
    let p = pick_of c.in_ok-start.settled in
    let how = c.in_ok-end.end in
    let x : Seen = g.St.Store.seen n.store in
    let y : Seen = g.St.Store.seen c.start_from.new.store in
    let rs : List StoreRequest = requests_of x.work n.worker.requests.items in
    let start : Option (Edentype × List Datum) = values_of (begun_as ts) c.in_ok-start.start in
    subst (λ q. EndsTurn c.end_behind.result g.St.Store.layout ts
    (record { number = n.number; ejects = new; worker = n.worker; seen = y }) c.activation_ends.new.calls reach
    (record { number = n.number; ejects = n.ejects; worker = n.worker; seen = x }) s (event.Activate c.args.uid how q))
    (sym c.pick_in.ensures)
    (subst (λ b. EndsTurn b g.St.Store.layout ts (record { number = n.number; ejects = new; worker = n.worker; seen = y })
    c.activation_ends.new.calls reach (record { number = n.number; ejects = n.ejects; worker = n.worker; seen = x }) s
    (event.Activate c.args.uid how p)) (sym c.end_behind.ensures)
    (turn-activates g.St.Store.layout ts n.number x y n.ejects c.settle_ejects.new.ejects new n.worker c.args.calls.now
    c.activation_ends.new.calls reach s c.start_from.ensures.node h c.args.uid p start
    c.requires.may.wakes how
    (subst (λ e. StartsTo g.St.Store.layout x.node s rs c.args.uid x e start p y) (sym c.in_ok-end.ensures.how)
    (c.in_ok-start.ensures.starts so law (apart-of n.number x.node c.args.uid c.requires.may.own) s rs
    h.calls.parts.types h.disk))
    (λ z stands settles. c.settle_ejects.ensures.stands so ts z stands
    (told-of (unsure_in x.work) c.in_ok-start.settled (λ v q. SettlesAt v (is_some (kept_at y.kept v)) q z) c.in_ok-start.ensures.whose
    settles))
    (λ up allowed values at. c.in_ok-end.ensures.turn reach s p sound up allowed values at)))

-- what it shows of the disk
pub returns-clause-shows : goal.returns-clause-shows
returns-clause-shows g c =
    let n = c.args.self.now in
    let x : Seen = g.St.Store.seen n.store in
    let y : Seen = g.St.Store.seen c.start_from.new.store in
    shows-start g.St.Device.Disk.obeys n.number c.args.uid c.in_ok-end.end c.pick_in.result x.disk y.disk
    c.requires.may.own.0
    (subst (λ e. MakesCalls x.disk.counts y.disk.counts (call_of_start e)) (sym c.in_ok-end.ensures.how) c.in_ok-start.ensures.calls)
    (subst (λ e. ObeyedIn g.St.Device.Disk.obeys x.disk y.disk (call_of_start e))
    (sym c.in_ok-end.ensures.how) c.in_ok-start.ensures.obeyed)
    (subst (λ e. RaisesClock (call_of_start e) x.disk.counts.clock y.disk.counts.clock) (sym c.in_ok-end.ensures.how)
    c.in_ok-start.ensures.raises)

-- whether its disk stopped
pub returns-clause-stops : goal.returns-clause-stops
returns-clause-stops g c =
    let x : Seen = g.St.Store.seen c.args.self.now.store in
    let y : Seen = g.St.Store.seen c.start_from.new.store in
    subst (λ b. StopsBy b x.disk.counts y.disk.counts) (sym c.end_behind.ensures)
    (stops-start c.in_ok-end.end x.disk.counts y.disk.counts
    (subst (λ e. MakesCalls x.disk.counts y.disk.counts (call_of_start e)) (sym c.in_ok-end.ensures.how) c.in_ok-start.ensures.calls))

-- its event is of the node
pub returns-clause-of_node : goal.returns-clause-of_node
returns-clause-of_node g c = c.requires.may.own.0

pub returns-clause-touches : goal.returns-clause-touches
returns-clause-touches g c = λ so law s h.
    let n = c.args.self.now in
    let x : Seen = g.St.Store.seen n.store in
    let y : Seen = g.St.Store.seen c.start_from.new.store in
    subst (λ e. Touches (touches_start s c.args.uid) x.disk.counts y.disk.counts (call_of_start e)) (sym c.in_ok-end.ensures.how)
    (c.in_ok-start.ensures.touches so law (apart-of n.number x.node c.args.uid c.requires.may.own) s
    (requests_of x.work n.worker.requests.items) h.disk)

-- where there was no memory
pub returns-in_err-start-clause-left : goal.returns-in_err-start-clause-left
returns-in_err-start-clause-left g c = any-err c.from_residual.result _
    (let m = c.start_from.ensures.calls in left-behind g.St.Device.Disk.obeys m.made (g.St.Store.seen c.args.self.now.store).disk
    (g.St.Store.seen c.start_from.new.store).disk _ m.counts c.start_from.ensures.obeyed)

pub returns-in_err-end-clause-left : goal.returns-in_err-end-clause-left
returns-in_err-end-clause-left g c = any-err c.from_residual-in_err-end.result _
    (let m = c.start_from.ensures.calls in left-behind g.St.Device.Disk.obeys m.made (g.St.Store.seen c.args.self.now.store).disk
    (g.St.Store.seen c.start_from.new.store).disk _ m.counts c.start_from.ensures.obeyed)

pub returns-in_err-start-clause-starves : goal.returns-in_err-start-clause-starves
returns-in_err-start-clause-starves g c = λ so law.
    let n = c.args.self.now in
    let x : Seen = g.St.Store.seen n.store in
    let y : Seen = g.St.Store.seen c.start_from.new.store in
    let rs : List StoreRequest = requests_of x.work n.worker.requests.items in
    any-err c.from_residual.result _ (λ s h. starves-unread g.St.Store.layout s rs x y
    (c.in_err-start.ensures.none so (apart-of n.number x.node c.args.uid c.requires.may.own) s rs h.disk)
    (omega (arith, c.start_from.ensures.more)))

pub returns-in_err-end-clause-starves : goal.returns-in_err-end-clause-starves
returns-in_err-end-clause-starves g c = λ so law.
    let n = c.args.self.now in
    let ts = c.args.types.now in
    let p = pick_of c.in_ok-start.settled in
    let x : Seen = g.St.Store.seen n.store in
    let y : Seen = g.St.Store.seen c.start_from.new.store in
    let rs : List StoreRequest = requests_of x.work n.worker.requests.items in
    any-err c.from_residual-in_err-end.result _ (λ s h.
    starves-started g.St.Store.layout s rs c.args.uid x y (end_of_start c.in_ok-start.start) (values_of (begun_as ts) c.in_ok-start.start) p
    (c.in_ok-start.ensures.starts so law (apart-of n.number x.node c.args.uid c.requires.may.own) s rs
    h.calls.parts.types h.disk) (omega (arith, c.start_from.ensures.more)))

-- it is not active
pub activation_ends-requires : goal.activation_ends-requires
activation_ends-requires g c = λ other. c.settle_ejects.ensures.bodies other c.args.uid
    ∙ asleep-for c.args.types.now c.args.self.now.ejects c.args.uid c.requires.may.wakes other
