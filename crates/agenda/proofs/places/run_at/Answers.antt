use Rattle.std.proofs.Common.{Bool, map, sym, ap, ◌∙◌}
use Rattle.std.specs.Map.Iter.{deref_pair}
use Rattle.std.proofs.lemmas.Map.Iter.{rest_more, rest_all}
use Rattle.capability.specs.declared.Uid.{Uid}
use Rattle.ejects.specs.Parts.{body_at}
use Rattle.ejects.specs.View.{parts_of}
use Rattle.agenda.specs.Keys.{run_keys, run_keys_of}
use Rattle.agenda.specs.Places.{at_place}
use Rattle.agenda.proofs.AtPlaces.{then_at, at-next}
use Rattle.agenda.proofs.places.run_at.Goals as goal

pub returns-in_err-left : goal.returns-in_err-left
returns-in_err-left c = λ ts.
    let n = parts_of ts c.args.ejects.now in
    let u = c.in-Some.uid.now in
    let left = map (λ (e : Uid × Bool). e.0) c.next.new.self in
    c.from_residual.ensures ∙ ap (then_at (run_keys n left)) (sym c.in_err-left.was)
    ∙ sym (at-next (run_keys_of u (body_at n u)) (run_keys n left) c.loop-uid.left c.process_at.result (c.process_at.ensures ts))
    ∙ sym (ap (λ es. at_place (run_keys n (map (λ (e : Uid × Bool). e.0) es)) c.loop-uid.left)
    (rest_more deref_pair c.loop-uid.uid-iterator c.next.new.self c.next.result _ c.in-Some.is c.next.ensures.steps))
    ∙ c.loop-uid.invariant ts

pub loop-uid-preserved : goal.loop-uid-preserved
loop-uid-preserved c = λ ts.
    let n = parts_of ts c.args.ejects.now in
    let u = c.in-Some.uid.now in
    let left = map (λ (e : Uid × Bool). e.0) c.next.new.self in
    ap (then_at (run_keys n left)) (sym c.in_ok-left.was)
    ∙ sym (at-next (run_keys_of u (body_at n u)) (run_keys n left) c.loop-uid.left c.process_at.result (c.process_at.ensures ts))
    ∙ sym (ap (λ es. at_place (run_keys n (map (λ (e : Uid × Bool). e.0) es)) c.loop-uid.left)
    (rest_more deref_pair c.loop-uid.uid-iterator c.next.new.self c.next.result _ c.in-Some.is c.next.ensures.steps))
    ∙ c.loop-uid.invariant ts

pub returns : goal.returns
returns c = λ ts.
    let n = parts_of ts c.args.ejects.now in
    sym (ap (λ es. at_place (run_keys n (map (λ (e : Uid × Bool). e.0) es)) c.loop-uid.left)
    (rest_all deref_pair c.loop-uid.uid-iterator c.next.new.self c.next.result c.in-None.is c.next.ensures.steps))
    ∙ c.loop-uid.invariant ts
