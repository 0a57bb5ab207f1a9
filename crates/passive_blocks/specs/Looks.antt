-- What an opening finds on a disk.
use Rattle.std.specs.Prelude.{ℕ, ◌==◌, List, slice_index, if◌then◌else◌}
use Rattle.passive_blocks.specs.declared.opening.Format.{Format}
use Rattle.passive_blocks.specs.declared.opening.Format.TheVariants.{Blocks, Log, Blank}

-- what a look at the first three bytes of an image answers: blocks, a log with its heads staged or not, or neither
abbrev pub looked : List ℕ → Format
looked image = if slice_index image 1 == 235 then Blocks else (if slice_index image 0 == 237 then Log (slice_index image 2 == 234) else
    Blank)
