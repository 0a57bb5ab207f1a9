use Rattle.std.proofs.Common.{◌≡◌, None, Some, sym, ◌∙◌, subst}
use Rattle.std.specs.FinMap.{get}
use Rattle.eden_model.specs.Crew.{Waits, outside}
use Rattle.active_part.specs.Body.{Body}
use Rattle.active_part.specs.Bodies.{told_body}
use Rattle.ejects.proofs.Leaving.{active-other, part-changed, same-body}
use Rattle.ejects.proofs.Ejects.tell_at.Goals as goal

pub returns-in-Some : goal.returns-in-Some
returns-in-Some c ts b is waits =
    let table = c.args.self.now.table in
    let part = c.in-Some.part.now in
    let same = same-body ts table c.args.uid part b c.in-Some.ensures.value is in
    part-changed ts table c.args.self.now.waiting.entries c.args.uid part c.tell.new.self b
    (told_body c.args.process c.args.answer) c.in-Some.ensures.value is
    (c.tell.ensures.told ts (subst (λ (x : Body). Waits x.crew.crew c.args.process outside) (sym same) waits))

pub returns-in-None : goal.returns-in-None
returns-in-None c ts b is waits =
    let bad : None ≡ Some b = sym (active-other ts (get c.args.self.now.table.standings c.args.uid) (sym c.in-None.ensures.value)) ∙ is in
    absurd (cc bad)
