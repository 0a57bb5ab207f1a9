-- A put that a process asked for waits at the store of its node, or is under way there; and how it ends.
use Rattle.std.specs.Prelude.{◌≡◌, ◌≤◌, ◌⊎◌, ℕ, List, [], ◌∷◌, length, Option, None, Some, IsSomeAnd}
use Rattle.std.specs.Ordering.{nat_cmp}
use Rattle.capability.specs.declared.Uid.{Uid}
use Rattle.capability.specs.declared.TheConstants.{BODY_LIMIT}
use Rattle.eden_value.specs.declared.status.Status.{Status}
use Rattle.eden_value.specs.declared.status.Status.TheVariants as status
use Rattle.eden_codec.specs.Spelling.{spelling}
use Rattle.eden_model.specs.Crew.{Runs}
use Rattle.eden_model.specs.Map.{with_item, value_at}
use Rattle.epl_syntax.specs.Meaning.{rep_of}
use Rattle.epl_syntax.specs.declared.effect.Answer.TheVariants.{Code}
use Rattle.journal.specs.EjectChange.{body}
use Rattle.journal.specs.declared.event.Event.TheVariants as event
use Rattle.journal.specs.declared.event.Shown.TheVariants as shown
use Rattle.journal.specs.World.{World, StoreRequest, Site, node_at, site_at}
use Rattle.journal.specs.Processes.{turn_of}
use Rattle.journal.specs.Settling.{first_request}
use Rattle.journal.specs.Run.{Step}
use Rattle.journal.specs.LegalRun.{kept_at}
use Rattle.journal.specs.Monitors.{active_at}
use Rattle.undisturbed_runs.specs.Turns.{LacksRoom}

-- The request puts these bytes for process p of Eject u. Once the Eject has lost its active part, a request of it answers no process.
pub record IsPutOf (u : Uid) (p : ℕ) (bytes : List ℕ) (r : StoreRequest) : Type 0 where
  pub of_uid : r.uid ≡ u
  pub process : r.process ≡ Some p
  pub change : r.change ≡ body bytes

-- one of these requests does
abbrev pub Includes : Uid → ℕ → List ℕ → List StoreRequest → Type 0
Includes u p bytes [] = ⊥
Includes u p bytes (r ∷ rs) = IsPutOf u p bytes r ⊎ Includes u p bytes rs

-- one of those at the store of the Eject's node does
abbrev pub Awaits : Uid → ℕ → List ℕ → World → Type 0
Awaits u p bytes w = IsSomeAnd (node_at w u.node) (λ it. Includes u p bytes it.requests)

-- what the durable values of an Eject spell behind the next turn of its process p
abbrev pub spelled_by : World → Uid → ℕ → Option (List ℕ)
spelled_by w u p =
    with_item (active_at w u) (λ it. with_item (turn_of u it p) (λ t. Some (spelling (rep_of it.kind t.vars))) None) None

-- the process waits for nothing, and its next turn takes this status
abbrev pub IsAnswered : World → Uid → ℕ → Status → Type 0
IsAnswered w u p why = IsSomeAnd (active_at w u)
    (λ it. Runs it.crew p × IsSomeAnd (value_at nat_cmp p it.tasks) (λ t. t.answer ≡ Code why))

-- P holds of the site of node n and of the first request that waits for the store there
abbrev pub AtTheStore : World → ℕ → (Site → StoreRequest → Type 0) → Type 0
AtTheStore w n P = IsSomeAnd (site_at w n) (λ s. IsSomeAnd (first_request s.node) (P s))

-- the put is done: its process is told 0, and the bytes are kept
pub record IsAcknowledged (u : Uid) (p : ℕ) (bytes : List ℕ) (s : Step) : Type 0 where
  pub answered : IsAnswered s.later u p status.Ok
  pub kept : kept_at s.later u ≡ Some bytes

-- there was no room for it, as its first device call was to be made, and its process is told so
pub record IsRefused (u : Uid) (p : ℕ) (bytes : List ℕ) (s : Step) : Type 0 where
  pub lacks_room : AtTheStore s.world u.node (λ site r. IsPutOf u p bytes r × LacksRoom site r)
  pub answered : IsAnswered s.later u p status.Full

-- a step ends a put: the Eject lost its active part, or the put is done, or there was no room for it
abbrev pub EndsPut : Uid → ℕ → List ℕ → Step → Type 0
EndsPut u p bytes s = (active_at s.later u ≡ None) ⊎ (IsAcknowledged u p bytes s ⊎ IsRefused u p bytes s)

-- over the steps behind it a put is awaited, until one of them ends it in one of these ways
abbrev pub EndsBehind : Uid → ℕ → List ℕ → List Step → Type 0
EndsBehind u p bytes [] = Unit {0}
EndsBehind u p bytes (s ∷ later) = (Awaits u p bytes s.later × EndsBehind u p bytes later) ⊎ EndsPut u p bytes s

-- A step in which a process of node n asks for a checkpoint, whose bytes are not too long: their put is awaited, and ends so.
abbrev pub CheckpointEnds : ℕ → Step → List Step → Type 0
CheckpointEnds n s later = (u : Uid) (p : ℕ) (bytes : List ℕ) → s.entry.event ≡ event.Process u p shown.Checkpoint → u.node ≡ n
    → spelled_by s.world u p ≡ Some bytes → length bytes ≤ BODY_LIMIT → Awaits u p bytes s.later × EndsBehind u p bytes later

-- P holds of each step with the steps behind it
abbrev pub EachWithRest : (Step → List Step → Type 0) → List Step → Type 0
EachWithRest P [] = Unit {0}
EachWithRest P (s ∷ later) = P s later × EachWithRest P later
