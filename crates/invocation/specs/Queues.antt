-- The queues as messages are sent and lost. The queue from a to b stands at place 9 a + b.
use Rattle.std.specs.Prelude.{ℕ, zero, suc, ◌+◌, ◌*◌, ◌==◌, cond, List, [], ◌∷◌, ◌++◌, slice_set, slice_index_or}
use Rattle.invocation.specs.declared.call.Message.{Message}

-- one queue for each ordered pair of stations
abbrev pub Rows : Type 0
Rows = List (List Message)

-- the queue from a to b
abbrev pub row : ℕ → ℕ → Rows → List Message
row a b rows = slice_index_or rows (9 * a + b) []

-- the queue from a to b is this one
abbrev pub with_row : ℕ → ℕ → List Message → Rows → Rows
with_row a b ms rows = slice_set rows (9 * a + b) ms

-- the message is the last of the queue from a to b
abbrev pub sent_to : ℕ → ℕ → Message → Rows → Rows
sent_to a b m rows = with_row a b (row a b rows ++ m ∷ []) rows

-- the queues of the link between a and b are emptied; a station's queue to itself is on no link
abbrev pub cut_between : ℕ → ℕ → Rows → Rows
cut_between a b rows = cond (a == b) rows (with_row b a [] (with_row a b [] rows))

-- the queues between a station and the first n stations are emptied, in both directions
abbrev pub cleared : ℕ → ℕ → Rows → Rows
cleared a zero rows = rows
cleared a (suc n) rows = with_row n a [] (with_row a n [] (cleared a n rows))

-- the messages on the link between a and b, in either direction
abbrev pub on_way : ℕ → ℕ → Rows → List Message
on_way a b rows = cond (a == b) [] (row a b rows ++ row b a rows)

-- the messages from a node to the first n stations
abbrev pub sent_from : ℕ → ℕ → Rows → List Message
sent_from a zero rows = []
sent_from a (suc n) rows = sent_from a n rows ++ row a n rows
