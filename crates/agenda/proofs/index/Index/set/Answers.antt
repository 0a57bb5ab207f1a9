use Rattle.agenda.proofs.Emptied.{empty-at, empty-ascends}
use Rattle.agenda.specs.Indexed.{uids_of}
use Rattle.agenda.proofs.index.Index.set.Goals as goal

pub returns-then-is_empty-clause-at : goal.returns-then-is_empty-clause-at
returns-then-is_empty-clause-at c = λ q.
    empty-at c.args.among c.args.self.now.uids.entries c.if-among.false (c.is_empty.ensures.0 c.if-is_empty.true) c.args.uid q

pub returns-then-is_empty-clause-ascend : goal.returns-then-is_empty-clause-ascend
returns-then-is_empty-clause-ascend c = empty-ascends (uids_of c.args.self.now) (c.is_empty.ensures.0 c.if-is_empty.true)
