-- A disk from one run to the next.
use Rattle.std.specs.Prelude.{ℕ, ◌<◌}
use Rattle.std.specs.List.{All}
use Rattle.eden_disk.specs.Told.{contents}
use Rattle.eden_disk.specs.Calls.{IsCut}
use Rattle.journal.specs.Standing.{DiskRun}
use Rattle.journal.specs.LegalRun.{IsHandedOn}

-- A disk whose power was cut behind a run, as it was given back, and that holds bytes then, is handed on.
abbrev pub PowerCutsHandOn : Type 0
PowerCutsHandOn = (clock : ℕ) (d next : DiskRun) → IsCut clock d.after next.before → All (λ byte. byte < 256) (contents next.before).now
    → IsHandedOn d next
