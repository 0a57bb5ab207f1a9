use Rattle.std.proofs.Common.{sym, ap, ◌∙◌, ltb-false, length}
use Rattle.epl_syntax.specs.Simple.{items_in}
use Rattle.directory_eject.proofs.Stored.{argument_seen, argument_past}
use Rattle.directory_eject.proofs.condition.items_at.Goals as goal

pub returns-in-Some : goal.returns-in-Some
returns-in-Some c =
    let l = c.in-Some.ensures.lookup in
    let v = c.in-Some.value.now in
    c.items_in.ensures ∙ sym (ap items_in (argument_seen c.args.values.now c.args.place v l.3.0 (l.3.1 v)))

pub returns-in-None : goal.returns-in-None
returns-in-None c =
    let past = ltb-false c.args.place (length c.args.values.now) (sym c.in-None.ensures.lookup.0) in
    sym (ap items_in (argument_past c.args.values.now c.args.place past))
