-- The last lines, from what the ends keep.
use Rattle.std.specs.Prelude.{ℕ, suc, List, [], ◌∷◌, ◌++◌, slice_index_or}
use Rattle.lossy_wire.specs.Held.{Held, fresh}
use Rattle.lossy_wire.specs.Texts.{sum_line}

-- the ends at a place
abbrev pub held_in : List Held → ℕ → Held
held_in es k = slice_index_or es k fresh

-- the last line of the pair at a place
abbrev pub held_sum : ℕ → Held → List ℕ
held_sum k h = sum_line k h.sent h.known h.delivered

-- the last lines, of the pairs from the one at this place on
abbrev pub held_sums : ℕ → List Held → List ℕ
held_sums k [] = []
held_sums k (h ∷ hs) = held_sum k h ++ held_sums (suc k) hs
