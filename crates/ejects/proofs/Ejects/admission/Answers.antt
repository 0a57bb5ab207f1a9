use Rattle.std.proofs.Common.{sym, ap, ◌∙◌}
use Rattle.std.specs.Prelude.{option_copied}
use Rattle.std.specs.FinMap.{get}
use Rattle.active_part.specs.View.{body_of}
use Rattle.ejects.specs.View.{parts_of}
use Rattle.ejects.proofs.Admitting.{admitted-active}
use Rattle.ejects.proofs.Leaving.{active-body}
use Rattle.ejects.proofs.Ejects.admission.Goals as goal

pub returns-in-Some : goal.returns-in-Some
returns-in-Some c =
    let ts = c.args.types.now in
    let n = c.args.self.now in
    let x = c.args.asked.now in
    let at = sym c.active.ensures ∙ ap (λ o. option_copied o) c.in-Some.is in
    admitted-active (parts_of ts n) x (body_of ts c.in-Some.part.now) c.admission_at.result
    (active-body ts (get n.table.standings x.target.uid) c.in-Some.part.now at) c.admission_at.ensures
