use Rattle.std.proofs.Common.{◌∙◌, ap, sym}
use Rattle.plain_sites.proofs.Sites.{all_dropped, ended-as, not-ended-as}
use Rattle.plain_sites.proofs.endings.end_active.Goals as goal

pub returns-in_ok-drop_pairs-in-Some : goal.returns-in_ok-drop_pairs-in-Some
returns-in_ok-drop_pairs-in-Some c ts order = ended-as ts c.args.node.now c.drop_requests.new.self _ _ c.args.uid _ c.in-Some.served
    (sym c.in-Some.is ∙ c.end_part.ensures.ran ts) (c.end_part.ensures.after ts order) c.drop_requests.ensures.number
    (c.drop_requests.ensures.node ts) (c.in_ok-drop_pairs-in-Some.ensures ∙ ap (all_dropped c.in-Some.served) c.orphan.ensures)

pub returns-in-None : goal.returns-in-None
returns-in-None c ts order = not-ended-as ts c.args.node.now _ c.args.uid _ (sym c.in-None.is ∙ c.end_part.ensures.ran ts)
    (c.end_part.ensures.after ts order) order
