-- What a disk in memory tells, change by change.
use Rattle.std.specs.Prelude.{[]}
use Rattle.eden_disk.specs.declared.telling.Change.{Change}
use Rattle.eden_disk.specs.declared.telling.Change.TheVariants as change
use Rattle.eden_disk.specs.Told.{Told, Wrote, Synced, Cut, contents, noted}
use Rattle.eden_disk.specs.Images.{image_left}
use Rattle.eden_disk.specs.SimDisk.{zeros}

-- before a disk begins
abbrev pub nothing_told : Told
nothing_told = record { image = []; acts = [] }

-- a disk begins with an image or with zeros, and no change; a power cut leaves the image of its mode
abbrev pub told_with : Change → Told → Told
told_with (change.Begun image) t = record { image = image.now; acts = [] }
told_with (change.Blank size) t = record { image = zeros size; acts = [] }
told_with (change.Written clock at bytes) t = noted (Wrote clock at bytes.now) t
told_with (change.Synced clock) t = noted (Synced clock) t
told_with (change.Cut clock mode) t = noted (Cut clock (image_left mode (contents t))) t
