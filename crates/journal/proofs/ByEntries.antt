-- What the entries of some rows say is kept, is cut short, and stands on the disk.
use Rattle.std.proofs.Common.{◌≡◌, ℕ, List, [], ◌∷◌, None, Some, take, refl}
use Rattle.std.specs.Prelude.{reverse}
use Rattle.eden_model.specs.Crew.{least_number}
use Rattle.journal.specs.EjectChange.{body}
use Rattle.journal.specs.World.{at_node, on_eject, on_node, on_traffic}
use Rattle.journal.specs.Settling.{epoch_uid}
use Rattle.journal.specs.Run.{beginning, steps, end_of}
use Rattle.journal.specs.Kept.{last_kept, cut_short}
use Rattle.journal.specs.Standing.{state, at}
use Rattle.journal.proofs.Scenes.{one_node, c_uid}
use Rattle.journal.proofs.CrashAfterSave as crash
use Rattle.journal.proofs.StopKeepsTheWrite as stop

-- the bytes of a cell that holds a small number
abbrev pub cell_bytes : ℕ → List ℕ
cell_bytes n = 1 ∷ 4 ∷ 67 ∷ 101 ∷ 108 ∷ 108 ∷ 0 ∷ 1 ∷ 1 ∷ 1 ∷ 0 ∷ 0 ∷ 0 ∷ 0 ∷ 0 ∷ 0 ∷ 0 ∷ n ∷ []

-- what was acknowledged is kept, up to the activation after the crash
saved : last_kept None c_uid (reverse (take 29 (steps (beginning one_node 1 crash.commands) crash.history))) ≡ Some (cell_bytes 5)
unfolding crash.commands crash.history at_node on_eject on_node on_traffic least_number
saved = refl

-- a stop cuts the second save short; the pick of the boot makes it kept
stopped : cut_short c_uid (reverse (take 34 (steps (beginning one_node 1 stop.commands) stop.history))) ≡ Some (body (cell_bytes 9))
unfolding stop.commands stop.history at_node on_eject on_node on_traffic least_number
stopped = refl

found : last_kept None c_uid (reverse (take 35 (steps (beginning one_node 1 stop.commands) stop.history))) ≡ Some (cell_bytes 9)
unfolding stop.commands stop.history at_node on_eject on_node on_traffic least_number
found = refl

-- the disk after device call 18, in which the stop came: the old value, or the new one
doubtful : state (end_of (beginning one_node 1 stop.commands) (take 33 stop.history)).world 1
    ≡ record { kept = Some ((epoch_uid 1, 0 ∷ 0 ∷ 0 ∷ 1 ∷ []) ∷ (c_uid, cell_bytes 5) ∷ []); changes = (c_uid, body (cell_bytes 9)) ∷ [] }
unfolding stop.commands stop.history at_node on_eject on_node on_traffic least_number
doubtful = refl

-- the disk after device call 20, in the boot that began after call 18: the doubt, and behind it the next epoch
in_boot : at (end_of (beginning one_node 1 stop.commands) stop.history).world (steps (beginning one_node 1 stop.commands) stop.history) 1 20
    ≡ record {
      kept = Some ((epoch_uid 1, 0 ∷ 0 ∷ 0 ∷ 1 ∷ []) ∷ (c_uid, cell_bytes 5) ∷ []);
      changes = (c_uid, body (cell_bytes 9)) ∷ (epoch_uid 1, body (0 ∷ 0 ∷ 0 ∷ 2 ∷ [])) ∷ [];
    }
unfolding stop.commands stop.history at_node on_eject on_node on_traffic least_number
in_boot = refl
