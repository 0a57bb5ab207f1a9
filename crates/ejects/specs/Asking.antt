-- What a process asks of the store, and what the requests of a node's worker are.
use Rattle.std.specs.Prelude.{◌≡◌, ℕ, nat_le, cond, List, [], ◌∷◌, ◌++◌, length}
use Rattle.capability.specs.declared.Uid.{Uid}
use Rattle.capability.specs.declared.TheConstants.{BODY_LIMIT}
use Rattle.eden_value.specs.declared.status.Status.TheVariants as status
use Rattle.eden_model.specs.Crew.{outside, set_waits}
use Rattle.epl_syntax.specs.declared.effect.Answer.TheVariants.{Code}
use Rattle.passive_store.specs.Kept.{Work, is_busy}
use Rattle.journal.specs.World.{Site}
use Rattle.checkpoint.specs.Asked.{requests_of}
use Rattle.checkpoint.specs.Queues.{put_of}
use Rattle.checkpoint.specs.StoreStands.{RequestsStand}
use Rattle.checkpoint.specs.declared.worker.Request.{Request}
use Rattle.checkpoint.specs.declared.worker.Worker.{Worker}
use Rattle.active_part.specs.Body.{Body}
use Rattle.active_part.specs.Bodies.{told_body, crewed_body}

-- after a checkpoint of these bytes: the process waits for the store, or is told at once that they are too many
abbrev pub checkpointed_body : ℕ → List ℕ → Body → Body
checkpointed_body p bytes b =
    cond (nat_le (length bytes) BODY_LIMIT) (crewed_body (set_waits p outside) b) (told_body p (Code status.TooLarge) b)

-- the requests after it
abbrev pub with_put : Uid → ℕ → List ℕ → List Request → List Request
with_put u p bytes qs = cond (nat_le (length bytes) BODY_LIMIT) (qs ++ put_of u p bytes ∷ []) qs

-- the worker's requests are those of the site's node, as its store works
pub record RequestsAre (work : Work) (size : ℕ) (w : Worker) (s : Site) : Type 0 where
  pub queue : s.node.requests ≡ requests_of work w.requests.items
  pub stand : RequestsStand work size s.node.requests
  pub begun : w.begun ≡ is_busy work
