use Rattle.std.proofs.Common.{sym, subst}
use Rattle.ejects.specs.Parts.{Stands}
use Rattle.ejects.specs.View.{parts_of}
use Rattle.agenda.specs.Indexed.{indices_of}
use Rattle.agenda.specs.Keys.{IsAgenda}
use Rattle.scheduled_node.proofs.Standing.{same-truth}
use Rattle.scheduled_node.proofs.ScheduledNode.key_at.Goals as goal

pub returns : goal.returns
returns g c = λ so ts m s sound h. c.key_at.ensures ts s sound
    (subst (λ x. Stands (parts_of ts x) s) (sym c.ejects-ejects.ensures) h.node.calls.parts)
    (subst (λ x. IsAgenda (indices_of c.args.self.now.agenda) (parts_of ts x)) (sym c.ejects-ejects.ensures) h.agenda)
    (record { at = c.worked_on-worked.ensures so ts m s h.node }) (same-truth _ _ (c.pending.ensures.waits so ts m s h.node))
