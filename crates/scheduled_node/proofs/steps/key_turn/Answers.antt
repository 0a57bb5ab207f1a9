use Rattle.std.proofs.Common.{refl, sym, subst, ap, arith, true}
use Rattle.passive_store.specs.Seen.{Seen}
use Rattle.ejects.specs.Events.{IsDelivery}
use Rattle.ejects.specs.Replies.{Reaches}
use Rattle.eden_kernel.specs.Stands.{held}
use Rattle.eden_kernel.proofs.Outcomes.{both-ok}
use Rattle.scheduled_node.proofs.Clocks.{any-ok, both-ways, either-way, clock-delivered, clock-started, clock-turned, clock-activated, clock-stored}
use Rattle.scheduled_node.proofs.NodeEvents.{turn-delivered, turn-started, turn-of-process, turn-activated, turn-stored}
use Rattle.scheduled_node.proofs.KeysOf.{key-delivered, key-activated, key-started, key-turned, key-stored, node-of}
use Rattle.scheduled_node.proofs.Standing.{allowed-by, starves-behind}
use Rattle.scheduled_node.proofs.Touched.{starves-same, touches-stored}
use Rattle.std.proofs.lemmas.Result.{on_ok_weaker}
use Rattle.ejects.proofs.Counting.{none-one}
use Rattle.scheduled_node.proofs.steps.key_turn.Goals as goal

pub returns-in_ok-event-in-1-clause-turn : goal.returns-in_ok-event-in-1-clause-turn
returns-in_ok-event-in-1-clause-turn g c = λ so law reach s fits reached sound fresh some h. record {
  turn = c.in_ok-event-in-1.ensures.turn so reach s sound h;
  key = key-delivered s.number c.args.key c.in_ok-event-in-1.event c.in-1.is (subst (λ n. IsDelivery c.args.key.sender n
      c.in_ok-event-in-1.event)
      (sym h.calls.parts.number) c.in_ok-event-in-1.ensures.event) fits;
}

pub returns-in-2-clause-turn : goal.returns-in-2-clause-turn
returns-in-2-clause-turn g c = λ so law.
    both-ok _ _ _ c.activate.result c.activate.ensures.event (c.activate.ensures.turn so law) (λ r is turn reach s fits reached sound fresh
    some h. record { turn = turn reach s sound h; key = key-activated s.number c.args.key _ _ r.0 c.in-2.is is fits })

pub returns-in_ok-event-in-3-clause-turn : goal.returns-in_ok-event-in-3-clause-turn
returns-in_ok-event-in-3-clause-turn g c = λ so law reach s fits reached sound fresh some h. record {
  turn = c.in_ok-event-in-3.ensures.turn so reach s sound h;
  key = key-started s.number c.args.key c.in_ok-event-in-3.event c.in-3.is c.in_ok-event-in-3.ensures.event fits;
}

pub returns-in_ok-event-in-4-clause-turn : goal.returns-in_ok-event-in-4-clause-turn
returns-in_ok-event-in-4-clause-turn g c = λ so law reach s fits reached sound fresh some h.
    let four = c.in-4.is in
    record {
      turn = c.in_ok-event-in-4.ensures.turn so reach s (subst (λ n. Reaches reach c.args.places.now n)
          (sym (node-of s.number c.args.key (omega (arith, four)) (omega (arith, four)) fits)) reached) sound fresh h;
      key = key-turned s.number c.args.key c.in_ok-event-in-4.event four c.in_ok-event-in-4.ensures.event fits;
    }

pub returns-in-5-clause-turn : goal.returns-in-5-clause-turn
returns-in-5-clause-turn g c = λ so law.
    both-ok _ _ _ c.store_turn.result c.store_turn.ensures.event (c.store_turn.ensures.turn so)
    (λ r is turn reach s fits reached sound fresh
    some h.
    let ends = turn c.args.types.now reach s sound some h in
    record {
      turn = ends;
      key = key-stored s c.args.key _ _ r.0 sound
          (allowed-by r.1 g.St.Store.layout c.args.types.now (held g.St.Store.seen c.store_turn.new.self) c.store_turn.new.calls reach
          (held g.St.Store.seen c.args.node.now) s r.0 ends) c.in-5.is is fits;
    })

pub returns-in_ok-event-in-1-clause-starves : goal.returns-in_ok-event-in-1-clause-starves
returns-in_ok-event-in-1-clause-starves g c = λ so law s sound some h.
    starves-same g.St.Store.layout c.args.types.now c.args.calls.now s (held g.St.Store.seen c.args.node.now)
    (g.St.Store.seen c.deliver.new.self.store) h c.deliver.ensures.store

pub returns-in_err-event-in-1-clause-starves : goal.returns-in_err-event-in-1-clause-starves
returns-in_err-event-in-1-clause-starves g c = λ so law s sound some h.
    starves-same g.St.Store.layout c.args.types.now c.args.calls.now s (held g.St.Store.seen c.args.node.now)
    (g.St.Store.seen c.deliver.new.self.store) h c.deliver.ensures.store

pub returns-in_ok-event-in-3-clause-starves : goal.returns-in_ok-event-in-3-clause-starves
returns-in_ok-event-in-3-clause-starves g c = λ so law s sound some h.
    starves-same g.St.Store.layout c.args.types.now c.args.calls.now s (held g.St.Store.seen c.args.node.now)
    (g.St.Store.seen c.start.new.self.store) h c.start.ensures.store

pub returns-in_err-event-in-3-clause-starves : goal.returns-in_err-event-in-3-clause-starves
returns-in_err-event-in-3-clause-starves g c = λ so law s sound some h.
    starves-same g.St.Store.layout c.args.types.now c.args.calls.now s (held g.St.Store.seen c.args.node.now)
    (g.St.Store.seen c.start.new.self.store) h c.start.ensures.store

pub returns-in_ok-event-in-4-clause-starves : goal.returns-in_ok-event-in-4-clause-starves
returns-in_ok-event-in-4-clause-starves g c = λ so law s sound some h.
    starves-same g.St.Store.layout c.args.types.now c.args.calls.now s (held g.St.Store.seen c.args.node.now)
    (g.St.Store.seen c.process.new.self.store) h c.process.ensures.store

pub returns-in_err-event-in-4-clause-starves : goal.returns-in_err-event-in-4-clause-starves
returns-in_err-event-in-4-clause-starves g c = λ so law s sound some h.
    starves-same g.St.Store.layout c.args.types.now c.args.calls.now s (held g.St.Store.seen c.args.node.now)
    (g.St.Store.seen c.process.new.self.store) h c.process.ensures.store

pub returns-in-2-clause-starves : goal.returns-in-2-clause-starves
returns-in-2-clause-starves g c = λ so law s sound some h.
    either-way c.activate.result _ _ _
    (both-ways c.activate.result _ _ c.activate.ensures.whole (c.activate.ensures.turn so law)) (c.activate.ensures.starves so law)
    (λ r both. starves-behind r.1 g.St.Store.layout c.args.types.now (held g.St.Store.seen c.activate.new.self) c.activate.new.calls
    (λ n. true) (held g.St.Store.seen c.args.node.now) s r.0 both.0 c.requires.whole c.activate.ensures.number
    (omega (arith, c.activate.ensures.more)) (both.1 (λ n. true) s sound h)) (λ e starves. starves s h)

pub returns-in-5-clause-starves : goal.returns-in-5-clause-starves
returns-in-5-clause-starves g c = λ so law s sound some h.
    let ts = c.args.types.now in
    either-way c.store_turn.result _ _ _
    (both-ways c.store_turn.result _ _ (both-ways c.store_turn.result _ _ c.store_turn.ensures.whole (c.store_turn.ensures.more so))
    (c.store_turn.ensures.turn so)) (c.store_turn.ensures.starves so)
    (λ r both. starves-behind r.1 g.St.Store.layout ts (held g.St.Store.seen c.store_turn.new.self) c.store_turn.new.calls (λ n. true)
    (held g.St.Store.seen c.args.node.now) s r.0 both.0.0 c.requires.whole c.store_turn.ensures.number (both.0.1 ts s some h)
    (both.1 ts (λ n. true) s sound some h)) (λ e starves. starves ts s some h)

pub returns-in-5-clause-touches : goal.returns-in-5-clause-touches
returns-in-5-clause-touches g c = λ so reads.
    both-ok _ _ _ c.store_turn.result c.store_turn.ensures.event (c.store_turn.ensures.touches so) (λ r is touches s some h.
    touches-stored s r.0 (g.St.Store.seen c.args.node.now.store).disk (g.St.Store.seen c.store_turn.new.self.store).disk is
    (touches c.args.types.now s some h))

pub returns-in_ok-event-in-1-clause-clock : goal.returns-in_ok-event-in-1-clause-clock
returns-in_ok-event-in-1-clause-clock g c = clock-delivered _ _ _ c.in_ok-event-in-1.event c.in_ok-event-in-1.ensures.event

pub returns-in-2-clause-clock : goal.returns-in-2-clause-clock
returns-in-2-clause-clock g c = any-ok c.activate.result _ _ (λ r is. clock-activated _ _ _ _ r.0 is) c.activate.ensures.event

pub returns-in_ok-event-in-3-clause-clock : goal.returns-in_ok-event-in-3-clause-clock
returns-in_ok-event-in-3-clause-clock g c = clock-started _ _ c.in_ok-event-in-3.event c.in_ok-event-in-3.ensures.event

pub returns-in_ok-event-in-4-clause-clock : goal.returns-in_ok-event-in-4-clause-clock
returns-in_ok-event-in-4-clause-clock g c = clock-turned _ _ _ c.in_ok-event-in-4.event c.in_ok-event-in-4.ensures.event

pub returns-in-5-clause-clock : goal.returns-in-5-clause-clock
returns-in-5-clause-clock g c = any-ok c.store_turn.result _ _ (λ r is. clock-stored _ _ r.0 is) c.store_turn.ensures.event

-- whether the disk stopped
pub returns-in_ok-event-in-1-clause-stops : goal.returns-in_ok-event-in-1-clause-stops
returns-in_ok-event-in-1-clause-stops g c = ap (λ (x : Seen). x.disk.counts.stops) c.deliver.ensures.store

pub returns-in-2-clause-stops : goal.returns-in-2-clause-stops
returns-in-2-clause-stops g c = c.activate.ensures.stops

pub returns-in_ok-event-in-3-clause-stops : goal.returns-in_ok-event-in-3-clause-stops
returns-in_ok-event-in-3-clause-stops g c = ap (λ (x : Seen). x.disk.counts.stops) c.start.ensures.store

pub returns-in_ok-event-in-4-clause-stops : goal.returns-in_ok-event-in-4-clause-stops
returns-in_ok-event-in-4-clause-stops g c = ap (λ (x : Seen). x.disk.counts.stops) c.process.ensures.store

pub returns-in-5-clause-stops : goal.returns-in-5-clause-stops
returns-in-5-clause-stops g c = c.store_turn.ensures.stops

pub returns-in_ok-event-in-1-clause-event : goal.returns-in_ok-event-in-1-clause-event
returns-in_ok-event-in-1-clause-event g c = turn-delivered _ _ _ c.in_ok-event-in-1.event c.in_ok-event-in-1.ensures.event

pub returns-in-2-clause-event : goal.returns-in-2-clause-event
returns-in-2-clause-event g c = both-ok _ _ _ c.activate.result c.activate.ensures.event c.activate.ensures.of_node
    (λ r is own. turn-activated _ _ _ _ r.0 is own)

pub returns-in_ok-event-in-3-clause-event : goal.returns-in_ok-event-in-3-clause-event
returns-in_ok-event-in-3-clause-event g c = turn-started _ _ c.in_ok-event-in-3.event c.in_ok-event-in-3.ensures.event

pub returns-in_ok-event-in-4-clause-event : goal.returns-in_ok-event-in-4-clause-event
returns-in_ok-event-in-4-clause-event g c = turn-of-process _ _ _ c.in_ok-event-in-4.event c.in_ok-event-in-4.ensures.event

pub returns-in-5-clause-event : goal.returns-in-5-clause-event
returns-in-5-clause-event g c = both-ok _ _ _ c.store_turn.result c.store_turn.ensures.event c.store_turn.ensures.of_node
    (λ r is own. turn-stored _ _ _ r.0 is own)

-- the node has the turn of the key
pub deliver-requires-clause-from : goal.deliver-requires-clause-from
deliver-requires-clause-from g c = (c.requires.has.delivery c.in-1.is).0

pub deliver-requires-clause-hears : goal.deliver-requires-clause-hears
deliver-requires-clause-hears g c = (c.requires.has.delivery c.in-1.is).1

pub activate-requires-clause-may : goal.activate-requires-clause-may
activate-requires-clause-may g c = c.requires.has.activation c.in-2.is

pub start-requires-clause-may : goal.start-requires-clause-may
start-requires-clause-may g c = c.requires.has.start c.in-3.is

pub process-requires-clause-may : goal.process-requires-clause-may
process-requires-clause-may g c = c.requires.has.process c.in-4.is

pub store_turn-requires-clause-pending : goal.store_turn-requires-clause-pending
store_turn-requires-clause-pending g c = c.requires.has.store c.in-5.is

-- one call is asked at most

pub returns-in_ok-event-in-1-clause-asks : goal.returns-in_ok-event-in-1-clause-asks
returns-in_ok-event-in-1-clause-asks g c = none-one c.args.calls.now c.deliver.new.calls c.in_ok-event-in-1.ensures.asks

pub returns-in-2-clause-asks : goal.returns-in-2-clause-asks
returns-in-2-clause-asks g c = on_ok_weaker c.activate.result (none-one c.args.calls.now c.activate.new.calls) c.activate.ensures.asks

pub returns-in_ok-event-in-3-clause-asks : goal.returns-in_ok-event-in-3-clause-asks
returns-in_ok-event-in-3-clause-asks g c = none-one c.args.calls.now c.args.calls.now refl

pub returns-in-5-clause-asks : goal.returns-in-5-clause-asks
returns-in-5-clause-asks g c = on_ok_weaker c.store_turn.result (none-one c.args.calls.now c.store_turn.new.calls) c.store_turn.ensures.asks
