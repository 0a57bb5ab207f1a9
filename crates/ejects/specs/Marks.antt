-- Which turns of its own an Eject may take.
use Rattle.std.specs.Prelude.{◌≡◌, ◌⊎◌, ℕ, Bool, false, not, ◌&&◌, Option, None, Some, is_some, IsSome, IsSomeAnd}
use Rattle.std.specs.List.{list_any}
use Rattle.capability.specs.declared.Uid.{Uid}
use Rattle.eden_model.specs.Map.{first, same_uid}
use Rattle.eden_model.specs.Crew.{Crew, Runs, Waits, outside, startable}
use Rattle.invocation.specs.Mail.{Mail}
use Rattle.invocation.specs.Numbers.{item_in}
use Rattle.journal.specs.Enabled.{is_ready}
use Rattle.active_part.specs.Body.{Body}
use Rattle.ejects.specs.Parts.{Parts, body_at, queue_at}

-- it is passive and has a queued call
abbrev pub may_wake : Parts → Uid → Bool
may_wake n u = not (is_some (body_at n u)) && is_some (first (queue_at n u))

-- it is active and an invocation may start
abbrev pub may_start : Option Body → Bool
may_start None = false
may_start (Some b) = is_some (startable b.crew.crew b.crew.queued)

-- it is active and a process is not blocked
abbrev pub may_run : Option Body → Bool
may_run None = false
may_run (Some b) = list_any (λ q. is_ready q.1.waits) b.crew.crew.processes

-- it is active, and this process of it waits for nothing
abbrev pub IsReady : Option Body → ℕ → Type 0
IsReady o p = IsSomeAnd o (λ b. Runs b.crew.crew p)

-- it is active, and this process of it waits for what is outside: for a reply or for the store
abbrev pub AwaitsIn : Option Body → ℕ → Type 0
AwaitsIn o p = IsSomeAnd o (λ b. Waits b.crew.crew p outside)

-- a process stands in no queue of a monitor or a condition: it waits for what is outside, or for nothing
abbrev pub IsLoose : Crew → ℕ → Type 0
IsLoose crew p = Waits crew p outside ⊎ Runs crew p

-- it is active, and this process of it stands in no queue of a monitor or a condition
abbrev pub IsLooseIn : Option Body → ℕ → Type 0
IsLooseIn o p = IsSomeAnd o (λ b. IsLoose b.crew.crew p)

-- it is active, and an invocation may start of which the call was asked
abbrev pub MayBegin : Mail → Option Body → Type 0
MayBegin m o = IsSomeAnd o (λ b. IsSomeAnd (startable b.crew.crew b.crew.queued) (λ i. IsSome (item_in i.call m.calls)))

-- all but one Eject may do the same
pub record MayButOne (u : Uid) (n new : Parts) : Type 0 where
  pub wake : (v : Uid) → same_uid v u ≡ false → may_wake new v ≡ may_wake n v
  pub start : (v : Uid) → same_uid v u ≡ false → may_start (body_at new v) ≡ may_start (body_at n v)
  pub run : (v : Uid) → same_uid v u ≡ false → may_run (body_at new v) ≡ may_run (body_at n v)
