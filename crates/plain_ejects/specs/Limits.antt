-- How long a body may be that is kept, and how many calls may be queued.
use Rattle.std.specs.Prelude.{◌<◌, ℕ, List, length, Option, None, Some}
use Rattle.active_part.specs.View.{coordination_of}
use Rattle.active_part.specs.declared.part.Part.{Part}
use Rattle.checkpoint.specs.declared.worker.Wish.{Wish}
use Rattle.checkpoint.specs.declared.worker.Wish.TheVariants.{Put, Delete}

-- the length of what is kept, 0 where nothing is
abbrev pub length_kept : Option (List ℕ) → ℕ
length_kept None = 0
length_kept (Some bytes) = length bytes

-- the length of what a change puts, 0 of a removal
abbrev pub length_put : Wish → ℕ
length_put (Put bytes) = length bytes
length_put Delete = 0

-- the same of a change in doubt, 0 where none is
abbrev pub length_doubted : Option Wish → ℕ
length_doubted None = 0
length_doubted (Some wish) = length_put wish

-- there is a place for one call more in the queue: that of the active part where there is one
abbrev pub HasPlace : Option Part → List ℕ → Type 0
HasPlace None waiting = length waiting < 64
HasPlace (Some p) waiting = length (coordination_of p).queued < 64
