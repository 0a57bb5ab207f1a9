use Rattle.std.proofs.Common.{◌≡◌, ◌∙◌, Some, ap, subst, sym}
use Rattle.journal.specs.Processes.{turn_of}
use Rattle.plain_ejects.specs.View.{eject_of}
use Rattle.plain_sites.proofs.Turning.{if-some, same-active, taken-as}
use Rattle.plain_sites.proofs.processes.turn.Goals as goal

pub returns-in_ok-effect-in-Some-clause-turned : goal.returns-in_ok-effect-in-Some-clause-turned
returns-in_ok-effect-in-Some-clause-turned c = if-some c.in_ok-effect-in-Some.effect (λ effect took a t is turns.
    let ts = c.args.types.now in
    let same = same-active ts c.args.eject.now c.in-Some.part a c.in-Some.is is in
    let x = took t (subst (λ b. turn_of c.args.uid b c.args.process ≡ Some t) (sym same) turns) in
    (x.0, taken-as ts c.args.eject.now c.in-Some.part c.take.new.part c.args.process t c.in-Some.is x.1))
    c.in_ok-effect-in-Some.ensures.turned

pub returns-in_ok-effect-in-Some-clause-rests : goal.returns-in_ok-effect-in-Some-clause-rests
returns-in_ok-effect-in-Some-clause-rests c none =
    let e = c.args.eject.now in
    let ts = c.args.types.now in
    ap (λ q. eject_of ts (record e { part = Some q })) (c.in_ok-effect-in-Some.ensures.rests none)
    ∙ sym (ap (λ o. eject_of ts (record e { part = o })) c.in-Some.is)
