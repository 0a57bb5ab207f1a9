use Rattle.std.proofs.Common.{◌≡◌, ◌∙◌, ap, is_some, sym, true, false}
use Rattle.journal.specs.Ejects.{on_active}
use Rattle.journal.specs.Processes.{turned}
use Rattle.plain_calls.specs.View.{traffic_of}
use Rattle.plain_sites.specs.View.{site_at}
use Rattle.plain_sites.proofs.Sites.{made}
use Rattle.plain_stores.specs.View.{node_of}
use Rattle.plain_sites.proofs.Turning.{if-and, on_eject-as, running, shown-runs, turn-shows, turn-so}
use Rattle.plain_sites.proofs.turns.take_process_turn.Goals as goal

pub returns-in-None-clause-shows : goal.returns-in-None-clause-shows
returns-in-None-clause-shows c sound fit new said = (
  λ is. absurd (cc is),
  λ may. absurd (let some = c.in_ok-turned.ensures.runs.1
      (shown-runs (site_at c.args.types.now c.args.node.now c.args.calls.now) c.args.uid c.args.process said may) in
      let bad : false ≡ true = sym (ap is_some c.in-None.is) ∙ some in cc bad),
)

pub returns-in_ok-shown-in-Some-clause-shows : goal.returns-in_ok-shown-in-Some-clause-shows
returns-in_ok-shown-in-Some-clause-shows c sound fit new said =
    let ts = c.args.types.now in
    let t = traffic_of c.args.calls.now in
    let s = site_at ts c.args.node.now c.args.calls.now in
    let x = running s c.args.uid c.args.process sound (c.in_ok-turned.ensures.runs.0 (ap is_some c.in-Some.is)) in
    let took = if-and c.in_ok-turned.turned c.in-Some.effect _ c.in_ok-turned.ensures.turned c.in-Some.is x.eject x.part x.turn x.runs
    x.turns in
    let mid = on_eject-as ts c.args.node.now t c.args.uid (on_active (turned c.args.process x.turn)) _ took.1 in
    turn-shows s _ c.args.uid c.args.process c.in_ok-shown-in-Some.shown said c.in-Some.effect fit new x took.0 mid
    c.in_ok-shown-in-Some.ensures.shows

pub returns-in_ok-shown-in-Some-clause-changes : goal.returns-in_ok-shown-in-Some-clause-changes
returns-in_ok-shown-in-Some-clause-changes c sound fit new reach reached =
    let ts = c.args.types.now in
    let t = traffic_of c.args.calls.now in
    let s = site_at ts c.args.node.now c.args.calls.now in
    let x = running s c.args.uid c.args.process sound (c.in_ok-turned.ensures.runs.0 (ap is_some c.in-Some.is)) in
    let took = if-and c.in_ok-turned.turned c.in-Some.effect _ c.in_ok-turned.ensures.turned c.in-Some.is x.eject x.part x.turn x.runs
    x.turns in
    let mid = on_eject-as ts c.args.node.now t c.args.uid (on_active (turned c.args.process x.turn)) _ took.1 in
    turn-so reach s _ _ c.args.uid c.args.process c.in-Some.effect fit new x took.0 mid
    (λ e it may. c.in_ok-shown-in-Some.ensures.changes reach e it reached may)

pub returns-in-None-clause-rests : goal.returns-in-None-clause-rests
returns-in-None-clause-rests c none sound =
    let ts = c.args.types.now in
    ap (λ l. made ts c.args.node.now.number (record (node_of ts c.args.node.now) { ejects = l }) (traffic_of c.args.calls.now))
    (c.in_ok-turned.ensures.rests c.in-None.is sound.node.in_order)
