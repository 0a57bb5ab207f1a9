use Rattle.std.proofs.Common.{Some, sym, ap, ◌∙◌}
use Rattle.std.specs.List.{find}
use Rattle.std.specs.Option.{option_map}
use Rattle.journal.specs.Enabled.{activity, is_past}
use Rattle.agenda.specs.Indexed.{uids_of, comes}
use Rattle.agenda.specs.Keys.{start_keys}
use Rattle.agenda.proofs.Comes.{find-map}
use Rattle.agenda.proofs.Agenda.next_start.Goals as goal

pub returns-then-is_empty : goal.returns-then-is_empty
returns-then-is_empty c = sym (ap (λ us. find (is_past c.args.last) (start_keys c.args.station us))
    (c.is_empty.ensures.0 c.if-is_empty.true))

pub returns-in-Some : goal.returns-in-Some
returns-in-Some c =
    ap Some c.key_of.ensures
    ∙ ap (option_map (λ u. activity c.args.station 3 u 0)) (sym c.in-Some.is ∙ c.first_behind.ensures)
    ∙ sym (find-map (is_past c.args.last) (λ u. activity c.args.station 3 u 0) (λ u. comes c.keys_behind.result u 0)
    (uids_of c.args.self.now.start) (λ u. c.keys_behind.ensures u 0))

pub returns-in-None : goal.returns-in-None
returns-in-None c =
    ap (option_map (λ u. activity c.args.station 3 u 0)) (sym c.in-None.is ∙ c.first_behind.ensures)
    ∙ sym (find-map (is_past c.args.last) (λ u. activity c.args.station 3 u 0) (λ u. comes c.keys_behind.result u 0)
    (uids_of c.args.self.now.start) (λ u. c.keys_behind.ensures u 0))
