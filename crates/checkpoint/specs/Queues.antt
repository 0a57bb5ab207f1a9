-- The requests that a worker's queue is given, and what is left of them where the active part of an Eject goes.
use Rattle.std.specs.Prelude.{◌≡◌, ℕ, Bool, true, false, cond, List, [], ◌∷◌, Option, None, Some, is_some}
use Rattle.std.specs.List.{filter_map}
use Rattle.capability.specs.declared.Uid.{Uid}
use Rattle.eden_model.specs.Map.{rest, same_uid}
use Rattle.checkpoint.specs.declared.worker.Wish.TheVariants.{Put, Delete}
use Rattle.checkpoint.specs.declared.worker.Request.{Request}

-- a process of an Eject asks that these bytes are kept
abbrev pub put_of : Uid → ℕ → List ℕ → Request
put_of u p bytes = record { uid = u; process = Some p; wish = Put bytes }

-- or that nothing is
abbrev pub removal_of : Uid → ℕ → Request
removal_of u p = record { uid = u; process = Some p; wish = Delete }

-- a request that has not begun goes
abbrev pub left_of : Uid → Request → Option Request
left_of u q = cond (same_uid q.uid u) None (Some q)

-- a job that has begun goes on, and answers no process
abbrev pub left_in : Bool → Uid → List Request → List Request
left_in begun u [] = []
left_in true u (q ∷ qs) = cond (same_uid q.uid u) (record q { process = None }) q ∷ filter_map (left_of u) qs
left_in false u (q ∷ qs) = filter_map (left_of u) (q ∷ qs)

-- each of these requests answers a process
abbrev pub AllAnswer : List Request → Type 0
AllAnswer [] = Unit {0}
AllAnswer (q ∷ qs) = (is_some q.process ≡ true) × AllAnswer qs

-- so does each in a queue, but for the first where its job has begun: that one alone may outlive its process
abbrev pub AllAnswerBut : Bool → List Request → Type 0
AllAnswerBut true qs = AllAnswer (rest qs)
AllAnswerBut false qs = AllAnswer qs
