use Rattle.agenda.proofs.Emptied.{no-uids, no-entries}
use Rattle.agenda.proofs.index.Index.is_empty.Goals as goal

pub returns : goal.returns
returns c = (
  λ yes. no-uids c.args.self.now.uids.entries (c.is_empty.ensures.0 yes),
  λ none. c.is_empty.ensures.1 (no-entries c.args.self.now.uids.entries none),
)
