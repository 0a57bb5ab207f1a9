use Rattle.std.proofs.Common.{Some, sym, ap, ◌∙◌}
use Rattle.std.specs.List.{find}
use Rattle.std.specs.Option.{option_map}
use Rattle.journal.specs.Enabled.{activity, is_past}
use Rattle.agenda.specs.Indexed.{uids_of, comes, is_it, wake_keys_but}
use Rattle.agenda.proofs.Comes.{find-unless}
use Rattle.agenda.proofs.Agenda.next_wake.Goals as goal

pub returns-then-is_empty : goal.returns-then-is_empty
returns-then-is_empty c = sym (ap (λ us. find (is_past c.args.last) (wake_keys_but c.args.station c.args.worked us))
    (c.is_empty.ensures.0 c.if-is_empty.true))

pub returns-in-Some : goal.returns-in-Some
returns-in-Some c =
    ap Some c.key_of.ensures
    ∙ ap (option_map (λ u. activity c.args.station 2 u 0)) (sym c.in-Some.is ∙ c.first_but.ensures)
    ∙ sym (find-unless (is_past c.args.last) (λ u. activity c.args.station 2 u 0) (is_it c.args.worked)
    (λ u. comes c.keys_behind.result u 0)
    (uids_of c.args.self.now.wake) (λ u. c.keys_behind.ensures u 0))

pub returns-in-None : goal.returns-in-None
returns-in-None c =
    ap (option_map (λ u. activity c.args.station 2 u 0)) (sym c.in-None.is ∙ c.first_but.ensures)
    ∙ sym (find-unless (is_past c.args.last) (λ u. activity c.args.station 2 u 0) (is_it c.args.worked)
    (λ u. comes c.keys_behind.result u 0)
    (uids_of c.args.self.now.wake) (λ u. c.keys_behind.ensures u 0))
