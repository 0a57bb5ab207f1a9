use Rattle.std.proofs.Common.{◌≡◌, ◌∙◌, ap, refl, sym, subst, arith, Some}
use Rattle.capability.specs.declared.Uid.{Uid}
use Rattle.passive_store.specs.Kept.{IsFullBy, settled}
use Rattle.passive_store.specs.Seen.{Asked, Seen, change_asked, asked, has_room_for}
use Rattle.eden_move.specs.Records.{record_in}
use Rattle.eden_move.specs.Shown.{key}
use Rattle.eden_move.proofs.Stepped.{full-idle, put-both}
use Rattle.eden_move.proofs.Going.{goes-put}
use Rattle.eden_move.proofs.steps.puts_record.Goals as goal

pub returns-clause-put : goal.returns-clause-put
returns-clause-put g c tells m x r s is = put-both c.put.result (g.St.Store.seen c.args.store.now) (g.St.Store.seen c.put.new.self) m x
    (change_asked g.St.Store.layout (asked c.key_of.result (Some c.as_slice.result.now)) c.put.ensures.changes.mark) c.args.uid r
    (record {
      wanderer = c.requires.wanderer;
      uid = c.key_of.ensures ∙ ap (λ n. key n c.args.uid) c.requires.of;
      body = c.as_slice.result.now;
      body_is = refl;
      spells = ap record_in c.as_slice.ensures ∙ is;
    })
    c.requires.idle c.put.ensures.whole.goes.node c.put.ensures.whole.undamaged c.put.ensures.whole.picked c.put.ensures.changes.work
    (c.put.ensures.changes.kept tells) s

pub returns-clause-goes : goal.returns-clause-goes
returns-clause-goes g c = goes-put _ _ c.put.result _ _ c.put.ensures.changes.calls _ _ c.requires.idle
    c.put.ensures.changes.ran c.put.ensures.changes.by_layout c.put.ensures.whole.goes.stands

-- no record stands under the reserved uid
pub returns-clause-more : goal.returns-clause-more
returns-clause-more g c = c.put.ensures.whole.one (λ same.
    let none : c.args.uid.node ≡ 0 = ap (λ (u : Uid). u.epoch) (sym c.key_of.ensures ∙ same) in
    omega (arith, none, c.requires.wanderer.node_least))

pub returns-clause-full : goal.returns-clause-full
returns-clause-full g c = λ tells some.
    let x : Seen = g.St.Store.seen c.args.store.now in
    let y : Seen = g.St.Store.seen c.put.new.self in
    let same : asked c.key_of.result (Some c.as_slice.result.now) ≡ asked (key c.args.number c.args.uid) (Some c.args.body) =
    ap (λ u. asked u (Some c.as_slice.result.now)) c.key_of.ensures
    ∙ ap (λ b. asked (key c.args.number c.args.uid) (Some b)) c.as_slice.ensures in
    full-idle c.put.result
    (λ k. has_room_for g.St.Store.layout x.disk.counts.size k (asked (key c.args.number c.args.uid) (Some c.args.body)))
    y.picked x.work x.kept c.requires.idle c.put.ensures.whole.picked
    (subst (λ (q : Asked). IsFullBy (has_room_for g.St.Store.layout x.disk.counts.size (settled y.picked x.work x.kept) q) y.picked x.work
    c.put.result) same (c.put.ensures.full tells some))
