use Rattle.passive_store.proofs.Marks.{pick_tells_mark}
use Rattle.passive_store.proofs.laws.picks_are_told_by_marks.Goals as goal

pub returns : goal.returns
returns c = λ pick c synced s fresh. pick_tells_mark pick c synced s fresh
