-- A queue of invocations, whose numbers and classes are kept side by side.
use Rattle.std.specs.Prelude.{◌≡◌, ℕ, List, [], ◌∷◌, length}
use Rattle.eden_model.specs.Crew.{Invocation}
use Rattle.coordinator.specs.declared.queue.Queue.TheInside.{Inside}

-- each number with the class beside it
abbrev pub invocations : List ℕ → List ℕ → List Invocation
invocations [] cs = []
invocations (k ∷ ks) [] = []
invocations (k ∷ ks) (c ∷ cs) = record { call = k; class = c } ∷ invocations ks cs

-- the invocations of a queue
abbrev pub queued_of : Inside → List Invocation
queued_of q = invocations q.calls.items q.classes.items

-- each number has a class
abbrev pub IsQueue : Inside → Type 0
IsQueue q = length q.calls.items ≡ length q.classes.items
