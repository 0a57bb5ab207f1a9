use Rattle.std.proofs.Common.{sym, ◌∙◌}
use Rattle.std.specs.BTreeMap.{get}
use Rattle.capability.specs.Uids.{uid_cmp}
use Rattle.eden_move.proofs.Placing.{place-same}
use Rattle.eden_move.proofs.mind.Mind.make_place.Goals as goal

pub returns-in-Ok-clause-same : goal.returns-in-Ok-clause-same
returns-in-Ok-clause-same c q = place-same c.args.uid q (get uid_cmp c.args.self.now.slots) (get uid_cmp c.insert.new.self q)
    (sym c.contains_key.ensures ∙ c.if-contains_key.false) (c.in-Ok.ensures.updates.0 q)
