use Rattle.eden_disk.proofs.Kept.{garbled_elsewhere}
use Rattle.eden_disk.proofs.medium.leave.Goals as goal

pub copy_spans-requires-in-Garble-clause-elsewhere : goal.copy_spans-requires-in-Garble-clause-elsewhere
copy_spans-requires-in-Garble-clause-elsewhere c =
    garbled_elsewhere _ _ _ _ _ c.garble.ensures.after c.requires.same c.requires.fit c.requires.elsewhere
