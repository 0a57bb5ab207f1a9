use Rattle.std.proofs.Common.{refl, sym, ◌∙◌, subst}
use Rattle.ejects.specs.StoreEnds.{WentIf}
use Rattle.ejects.specs.View.{parts_of}
use Rattle.ejects.proofs.Removals.{told-there}
use Rattle.ejects.proofs.StoreEnds.{first-awaits, first-stands, store-ends}
use Rattle.ejects.proofs.Ejects.store_ends.Goals as goal

pub returns-in_ok-removes-clause-turn : goal.returns-in_ok-removes-clause-turn
returns-in_ok-removes-clause-turn c ts reach clock how p s sound at first shown allows =
    let old = parts_of ts c.args.self.now in
    let mid = parts_of ts c.tell_end.new.self in
    let new = parts_of ts c.removes.new.self in
    let takes = sym c.takes_away.ensures ∙ c.if-takes_away.true in
    let told = c.tell_end.ensures ts (first-awaits old c.args.calls.now s c.args.uid c.args.process c.args.removal sound at first) in
    let there = first-stands old c.args.calls.now s c.args.uid c.args.process c.args.removal sound at first in
    let there_still = told-there c.args.uid c.args.process c.in-Some.status old mid told there in
    store-ends old mid new c.args.calls.now c.removes.new.calls s c.args.uid c.args.process c.args.removal sound at first c.args.end
    c.in-Some.status how p clock reach (sym c.code_of.ensures ∙ c.in-Some.is) shown told
    (subst (λ b. WentIf b c.args.uid mid new c.args.calls.now c.removes.new.calls) (sym takes)
    (c.in_ok-removes.ensures.went ts there_still)) allows

pub returns-else-takes_away-clause-turn : goal.returns-else-takes_away-clause-turn
returns-else-takes_away-clause-turn c ts reach clock how p s sound at first shown allows =
    let old = parts_of ts c.args.self.now in
    let mid = parts_of ts c.tell_end.new.self in
    let takes = sym c.takes_away.ensures ∙ c.if-takes_away.false in
    let told = c.tell_end.ensures ts (first-awaits old c.args.calls.now s c.args.uid c.args.process c.args.removal sound at first) in
    store-ends old mid mid c.args.calls.now c.args.calls.now s c.args.uid c.args.process c.args.removal sound at first c.args.end
    c.in-Some.status how p clock reach (sym c.code_of.ensures ∙ c.in-Some.is) shown told
    (subst (λ b. WentIf b c.args.uid mid mid c.args.calls.now c.args.calls.now) (sym takes) (refl, refl)) allows
