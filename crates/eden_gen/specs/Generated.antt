-- The script that belongs to a number, the seed.
use Rattle.std.specs.Prelude.{ℕ, Bool, zero, suc, List, ◌+◌, ◌-◌, ◌*◌, ◌/◌, ◌%◌, ◌^◌, ◌==◌, ◌++◌, if◌then◌else◌, nat_lt, codes}
use Rattle.std.specs.List.{flat_map, range_with_len}
use Rattle.std.specs.Fmt.{decimal}

-- 1. Random numbers

-- the number behind x
abbrev pub after : ℕ → ℕ
after x = (x * 6364136223846793005 + 1442695040888963407) % 2 ^ 64

-- the number behind k others, of which the seed is the first
abbrev pub random : ℕ → ℕ → ℕ
random seed zero = seed
random seed (suc k) = after (random seed k)

-- one of m numbers from 0, by the upper bits of x
abbrev pub picked : ℕ → ℕ → ℕ
picked x m = x / 2 ^ 33 % m

-- what the draw behind k others gives, one of m numbers from 0. Each draw takes the next random number.
abbrev pub drawn : ℕ → ℕ → ℕ → ℕ
drawn seed k m = picked (random seed (suc k)) m

-- 2. Lines

-- a piece of a script, as bytes
abbrev pub Text : Type 0
Text = List ℕ

-- the Cells, from 1, lie on the three nodes in turn
abbrev pub node_of : ℕ → ℕ
node_of cell = (cell - 1) % 3 + 1

-- `create c4 1 Cell`
abbrev pub create_text : ℕ → Text
create_text cell = codes "create c" ++ decimal cell ++ codes " " ++ decimal (node_of cell) ++ codes " Cell\n"

-- `call q7 c4.Get()`
abbrev pub call_text : ℕ → ℕ → Text → Text
call_text round cell operation =
    codes "call q" ++ decimal round ++ codes " c" ++ decimal cell ++ codes "." ++ operation ++ codes "\n"

-- `Set(5)`
abbrev pub set_text : ℕ → Text
set_text value = codes "Set(" ++ decimal value ++ codes ")"

-- `crash 1` and `restart 1`
abbrev pub crash_text : ℕ → Text
crash_text node = codes "crash " ++ decimal node ++ codes "\nrestart " ++ decimal node ++ codes "\n"

-- 3. Rounds. A round makes a draw of 16, which chooses what is done, a draw of 6, for a Cell, and, for a Set, a draw of 1,000, for
-- its value.

-- whether the first draw of a round chooses a Set: the six least of its 16 numbers do
abbrev pub sets : ℕ → Bool
sets choice = nat_lt choice 6

-- the lines of a round with this number, by what its draws gave: the choice, the Cell, counted from 1, and the value of a Set
abbrev pub chosen_text : ℕ → ℕ → ℕ → ℕ → Text
chosen_text round choice cell value =
    if sets choice then call_text round cell (set_text value)
    else if nat_lt choice 10 then call_text round cell (codes "Get()")
    else if nat_lt choice 13 then call_text round cell (codes "Save()")
    else if choice == 13 then codes "go 40\n"
    else if choice == 14 then crash_text (node_of cell)
    else codes "go 200\n"

-- the lines of a round that comes behind k draws
abbrev pub round_text : ℕ → ℕ → ℕ → Text
round_text seed k round = chosen_text round (drawn seed k 16) (drawn seed (k + 1) 6 + 1) (drawn seed (k + 2) 1000)

-- how many draws it makes
abbrev pub draws_in : ℕ → ℕ → ℕ
draws_in seed k = if sets (drawn seed k 16) then 3 else 2

-- how many draws come before the round that is behind so many others
abbrev pub draws_before : ℕ → ℕ → ℕ
draws_before seed zero = 0
draws_before seed (suc rounds) = let k = draws_before seed rounds in k + draws_in seed k

-- 4. The script

-- so many Cells are created
unfoldable pub creations_text : ℕ → Text
creations_text cells = flat_map create_text (range_with_len 1 cells)

-- so many rounds, numbered from 1
unfoldable pub rounds_text : ℕ → ℕ → Text
rounds_text seed rounds = flat_map (λ behind. round_text seed (draws_before seed behind) (behind + 1)) (range_with_len 0 rounds)

-- the script of a seed: three nodes with six Cells, 2,000 rounds, and `go 5000` before the end
abbrev pub script_text : ℕ → Text
script_text seed = codes "nodes 3\n" ++ creations_text 6 ++ rounds_text seed 2000 ++ codes "go 5000\nend\n"
