-- What a turn changes of an active part.
use Rattle.std.specs.Prelude.{ℕ, ◌==◌, not, [], ◌∷◌, ◌++◌, Option, None, Some}
use Rattle.std.specs.Ordering.{nat_cmp}
use Rattle.eden_value.specs.declared.status.Status.{Status}
use Rattle.eden_model.specs.Map.{changed_at, put_at, where_key, value_at, with_item}
use Rattle.eden_model.specs.Crew.{Crew, Invocation, nothing, outside, set_waits, started, ended, without_call}
use Rattle.epl_syntax.specs.declared.effect.Answer.{Answer}
use Rattle.epl_syntax.specs.declared.effect.Answer.TheVariants.{Go, Reply as Told}
use Rattle.epl_syntax.specs.Meaning.{Rest, Turned}
use Rattle.active_part.specs.Body.{Body}

-- an invocation joins the queue
abbrev pub joined_body : Invocation → Body → Body
joined_body i b = record b { crew = record b.crew { queued = b.crew.queued ++ i ∷ [] } }

-- an invocation starts, as the process of the least free number
abbrev pub started_body : ℕ → Rest → Invocation → Body → Body
started_body p rest i b = record b {
  tasks = put_at nat_cmp p (record { rest = rest; answer = Go }) b.tasks;
  crew = record { crew = started i b.crew.crew; queued = without_call i.call b.crew.queued };
}

-- a process is told what it waited for
abbrev pub told_body : ℕ → Answer → Body → Body
told_body p a b = record b {
  tasks = changed_at nat_cmp p (λ t. record t { answer = a }) b.tasks;
  crew = record b.crew { crew = set_waits p nothing b.crew.crew };
}

-- the values and what is left to do after a turn
abbrev pub turned_body : ℕ → Turned → Body → Body
turned_body p t b = record b { vars = t.vars; tasks = changed_at nat_cmp p (λ old. record { rest = t.rest; answer = Go }) b.tasks }

-- a process ends
abbrev pub ended_body : ℕ → Body → Body
ended_body p b = record b { tasks = where_key nat_cmp (λ k. not (k == p)) b.tasks; crew = record b.crew { crew = ended p b.crew.crew } }

-- a process waits for an answer, or is told at once
abbrev pub asking_body : ℕ → Option Status → Body → Body
asking_body p None b = record b { crew = record b.crew { crew = set_waits p outside b.crew.crew } }
asking_body p (Some status) b = told_body p (Told status []) b

-- the processes stand otherwise
abbrev pub crewed_body : (Crew → Crew) → Body → Body
crewed_body f b = record b { crew = record b.crew { crew = f b.crew.crew } }

-- the call that a process serves
abbrev pub serves_of : Body → ℕ → Option Invocation
serves_of b p = with_item (value_at nat_cmp p b.crew.crew.processes) (λ q. q.serves) None
