use Rattle.std.proofs.Common.{◌∙◌, ap, is_some, refl}
use Rattle.eden_model.specs.Map.{put_at, uid_cmp, with_item}
use Rattle.journal.specs.Ejects.{on_active}
use Rattle.journal.specs.Processes.{turned}
use Rattle.plain_sites.proofs.Entries.{changed-at, found-at, found-none, put-same}
use Rattle.plain_sites.proofs.Turning.{both-ways, if-some, is-running, runs-found, runs-nowhere, same-eject}
use Rattle.plain_stores.specs.View.{ejects_of}
use Rattle.plain_sites.proofs.processes.turn_at.Goals as goal

pub returns-in_ok-effect-in-Some-clause-runs : goal.returns-in_ok-effect-in-Some-clause-runs
returns-in_ok-effect-in-Some-clause-runs c =
    let ts = c.args.types.now in
    let found = found-at ts c.args.uid c.args.entries.now.items c.deref.result.now c.place_of.result c.in-Some.place
    c.index_mut.result.now c.deref.ensures.value c.place_of.ensures c.in-Some.is c.index_mut.ensures.value in
    both-ways (is_some c.in_ok-effect-in-Some.effect) _ _ c.in_ok-effect-in-Some.ensures.runs
    (is-running (ejects_of ts c.args.entries.now.items) c.args.uid c.args.process _ found)
    (runs-found (ejects_of ts c.args.entries.now.items) c.args.uid c.args.process _ found)

pub returns-in_ok-effect-in-Some-clause-turned : goal.returns-in_ok-effect-in-Some-clause-turned
returns-in_ok-effect-in-Some-clause-turned c =
    let ts = c.args.types.now in
    let found = found-at ts c.args.uid c.args.entries.now.items c.deref.result.now c.place_of.result c.in-Some.place
    c.index_mut.result.now c.deref.ensures.value c.place_of.ensures c.in-Some.is c.index_mut.ensures.value in
    if-some c.in_ok-effect-in-Some.effect (λ effect took e a t h turns.
    let x = took a t (same-eject (ejects_of ts c.args.entries.now.items) c.args.uid c.args.process e _ a h found) turns in (
      x.0,
      changed-at ts c.args.uid c.args.entries.now.items c.deref.result.now c.place_of.result c.in-Some.place c.index_mut.result.now _
          (on_active (turned c.args.process t)) c.deref.ensures.value c.place_of.ensures c.in-Some.is c.index_mut.ensures.value refl
          x.1 h.in_order,
    )) c.in_ok-effect-in-Some.ensures.turned

pub returns-in-None-clause-runs : goal.returns-in-None-clause-runs
returns-in-None-clause-runs c = (
  λ is. absurd (cc is),
  λ runs. absurd (runs-nowhere (ejects_of c.args.types.now c.args.entries.now.items) c.args.uid c.args.process
      (found-none c.args.types.now c.args.uid c.args.entries.now.items c.deref.result.now c.place_of.result c.deref.ensures.value
      c.place_of.ensures c.in-None.is) runs),
)

pub returns-in_ok-effect-in-Some-clause-rests : goal.returns-in_ok-effect-in-Some-clause-rests
returns-in_ok-effect-in-Some-clause-rests c none order =
    let ts = c.args.types.now in
    let es = ejects_of ts c.args.entries.now.items in
    let found = found-at ts c.args.uid c.args.entries.now.items c.deref.result.now c.place_of.result c.in-Some.place
    c.index_mut.result.now c.deref.ensures.value c.place_of.ensures c.in-Some.is c.index_mut.ensures.value in
    changed-at ts c.args.uid c.args.entries.now.items c.deref.result.now c.place_of.result c.in-Some.place c.index_mut.result.now _
    (λ e. e) c.deref.ensures.value c.place_of.ensures c.in-Some.is c.index_mut.ensures.value refl
    (c.in_ok-effect-in-Some.ensures.rests none) order
    ∙ (ap (λ o. with_item o (λ x. put_at uid_cmp c.args.uid x es) es) found ∙ put-same c.args.uid _ es order found)
