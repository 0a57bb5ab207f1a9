use Rattle.active_part.proofs.Keys.{found}
use Rattle.active_part.proofs.task_list.TaskList.find.Goals as goal

pub returns : goal.returns
returns c =
    let place = rw c.deref.ensures.value at c.place_of.ensures in
    let here = found 0 c.args.process c.place_of.result c.args.self.now.entries.items c.requires.ascend c.requires.there place.before
    place.behind in
    record { within = here.0; before = place.before; here = here.1 }
