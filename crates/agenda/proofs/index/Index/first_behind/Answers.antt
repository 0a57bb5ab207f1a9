use Rattle.std.proofs.Common.{sym, ap, ◌∙◌}
use Rattle.std.specs.List.{find}
use Rattle.agenda.specs.Indexed.{uids_of, comes}
use Rattle.agenda.proofs.Comes.{find-none}
use Rattle.agenda.proofs.index.Index.first_behind.Goals as goal

pub returns-in-Nothing : goal.returns-in-Nothing
returns-in-Nothing c =
    sym (ap (λ b. find (λ u. comes b u 0) (uids_of c.args.self.now)) c.in-Nothing.is ∙ find-none (uids_of c.args.self.now))
