use Rattle.std.proofs.Common.{sym, ◌∙◌}
use Rattle.agenda.specs.Indexed.{uids_of, comes, is_it}
use Rattle.agenda.proofs.Comes.{none-more, same-more, over-first}
use Rattle.agenda.proofs.Noted.{sorted-entries}
use Rattle.agenda.proofs.index.Index.first_but.Goals as goal

pub returns-in_default : goal.returns-in_default
returns-in_default c =
    sym (none-more (is_it c.args.but) (λ u. comes c.args.behind u 0) (uids_of c.args.self.now)
    (sym c.first_behind.ensures ∙ c.in_default.is))

pub returns-then-is_it : goal.returns-then-is_it
returns-then-is_it c =
    c.past.ensures
    ∙ sym (over-first c.args.behind c.args.but c.in-Some.uid (uids_of c.args.self.now)
    (sorted-entries (uids_of c.args.self.now) c.ascend.ensures)
    (sym c.first_behind.ensures ∙ c.in-Some.is)
    (sym c.is_it.ensures ∙ c.if-is_it.true))

pub returns-else-is_it : goal.returns-else-is_it
returns-else-is_it c =
    sym (same-more (is_it c.args.but) (λ u. comes c.args.behind u 0) c.in-Some.uid (uids_of c.args.self.now)
    (sym c.first_behind.ensures ∙ c.in-Some.is) (sym c.is_it.ensures ∙ c.if-is_it.false))
