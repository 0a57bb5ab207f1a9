use Rattle.passive_store.proofs.Marks.{old_or_new}
use Rattle.passive_store.proofs.laws.images_are_told_by_marks.Goals as goal

pub returns : goal.returns
returns c = λ kept c found is. old_or_new kept c found is
