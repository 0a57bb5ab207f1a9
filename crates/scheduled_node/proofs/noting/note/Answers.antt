use Rattle.std.proofs.Common.{subst}
use Rattle.std.specs.Prelude.{OnOk}
use Rattle.agenda.specs.Indexed.{indices_of}
use Rattle.scheduled_node.specs.Others.{created_in as created_by, is_either}
use Rattle.scheduled_node.proofs.Standing.{Notes}
use Rattle.scheduled_node.proofs.noting.note.Goals as goal

pub returns : goal.returns
returns c =
    let a = indices_of c.args.agenda.now in
    let b = indices_of c.note_each.new.self in
    let x = c.args.ejects.now in
    subst (λ o. OnOk c.note_each.result (Notes a b (is_either o (created_by c.args.event.now)) x)) c.concerned-one.ensures
    (subst (λ o. OnOk c.note_each.result (Notes a b (is_either c.concerned-one.result o) x)) c.created_in-other.ensures c.note_each.ensures)
