use Rattle.std.proofs.Common.{sym, ◌∙◌}
use Rattle.std.specs.FinMap.{get}
use Rattle.ejects.specs.View.{parts_of}
use Rattle.ejects.proofs.Forgetting.{there-kept, there-active, there-absent, forgotten-alike, forgotten-bodies, forgotten-there}
use Rattle.ejects.proofs.Leaving.{parts_with}
use Rattle.ejects.proofs.Removals.{alike-same}
use Rattle.ejects.proofs.Settles.{settled-stands, settled-turn}
use Rattle.ejects.proofs.Ejects.settles.Goals as goal

pub returns-then-stays-clause-stands : goal.returns-then-stays-clause-stands
returns-then-stays-clause-stands c ts p s h settles =
    let n = parts_of ts c.args.self.now in
    settled-stands n n s c.args.uid c.args.stays p h settles (alike-same c.args.uid n)
    (there-kept n c.args.uid c.args.stays c.if-stays.true)

pub returns-then-stays-clause-turn : goal.returns-then-stays-clause-turn
returns-then-stays-clause-turn c ts m reach clock first p s at settles allows =
    let n = parts_of ts c.args.self.now in
    settled-turn n n s c.args.uid c.args.stays p at.parts settles (alike-same c.args.uid n)
    (there-kept n c.args.uid c.args.stays c.if-stays.true) m reach clock first at.calls allows

pub returns-in-Active-clause-stands : goal.returns-in-Active-clause-stands
returns-in-Active-clause-stands c ts p s h settles =
    let n = parts_of ts c.args.self.now in
    settled-stands n n s c.args.uid c.args.stays p h settles (alike-same c.args.uid n)
    (there-active ts (get c.args.self.now.table.standings c.args.uid) c.args.stays (sym c.find.ensures ∙ c.in-Active.is))

pub returns-in-Active-clause-turn : goal.returns-in-Active-clause-turn
returns-in-Active-clause-turn c ts m reach clock first p s at settles allows =
    let n = parts_of ts c.args.self.now in
    settled-turn n n s c.args.uid c.args.stays p at.parts settles (alike-same c.args.uid n)
    (there-active ts (get c.args.self.now.table.standings c.args.uid) c.args.stays (sym c.find.ensures ∙ c.in-Active.is))
    m reach clock first at.calls allows

pub returns-in-Absent-clause-stands : goal.returns-in-Absent-clause-stands
returns-in-Absent-clause-stands c ts p s h settles =
    let n = parts_of ts c.args.self.now in
    settled-stands n n s c.args.uid c.args.stays p h settles (alike-same c.args.uid n)
    (there-absent ts (get c.args.self.now.table.standings c.args.uid) c.args.stays (sym c.find.ensures ∙ c.in-Absent.is))

pub returns-in-Absent-clause-turn : goal.returns-in-Absent-clause-turn
returns-in-Absent-clause-turn c ts m reach clock first p s at settles allows =
    let n = parts_of ts c.args.self.now in
    settled-turn n n s c.args.uid c.args.stays p at.parts settles (alike-same c.args.uid n)
    (there-absent ts (get c.args.self.now.table.standings c.args.uid) c.args.stays (sym c.find.ensures ∙ c.in-Absent.is))
    m reach clock first at.calls allows

pub returns-in-Passive-clause-stands : goal.returns-in-Passive-clause-stands
returns-in-Passive-clause-stands c ts p s h settles =
    let table = c.args.self.now.table in
    let waits = c.args.self.now.waiting.entries in
    let new = parts_with ts c.forget.new.self waits in
    let passive = sym c.find.ensures ∙ c.in-Passive.is in
    settled-stands (parts_of ts c.args.self.now) new s c.args.uid c.args.stays p h settles
    (forgotten-alike ts table c.forget.new.self waits c.args.uid passive c.forget.ensures)
    (forgotten-there ts table c.forget.new.self waits c.args.uid passive c.forget.ensures c.args.stays
    c.if-stays.false)

pub returns-in-Passive-clause-turn : goal.returns-in-Passive-clause-turn
returns-in-Passive-clause-turn c ts m reach clock first p s at settles allows =
    let table = c.args.self.now.table in
    let waits = c.args.self.now.waiting.entries in
    let new = parts_with ts c.forget.new.self waits in
    let passive = sym c.find.ensures ∙ c.in-Passive.is in
    settled-turn (parts_of ts c.args.self.now) new s c.args.uid c.args.stays p at.parts settles
    (forgotten-alike ts table c.forget.new.self waits c.args.uid passive c.forget.ensures)
    (forgotten-there ts table c.forget.new.self waits c.args.uid passive c.forget.ensures c.args.stays
    c.if-stays.false)
    m reach clock first at.calls allows

pub returns-in-Passive-clause-bodies : goal.returns-in-Passive-clause-bodies
returns-in-Passive-clause-bodies c ts v =
    forgotten-bodies ts c.args.self.now.table c.forget.new.self c.args.uid (sym c.find.ensures ∙ c.in-Passive.is) c.forget.ensures v
