-- A passive Eject is activated: its queued calls join the active part where they fit, and are answered otherwise.
use Rattle.std.specs.Prelude.{◌≡◌, ℕ, List, ◌++◌, map, Option, None, Some}
use Rattle.std.specs.List.{AllByRecursion, filter}
use Rattle.capability.specs.declared.Uid.{Uid}
use Rattle.eden_value.specs.declared.status.Status.{Status}
use Rattle.eden_value.specs.declared.status.Status.TheVariants as status
use Rattle.eden_model.specs.Lines.{Distinct}
use Rattle.eden_model.specs.Crew.{Invocation}
use Rattle.eden_model.specs.Traffic.{Traffic}
use Rattle.epl_syntax.specs.Edentype.{Edentype}
use Rattle.invocation.specs.Mail.{Mail}
use Rattle.invocation.specs.Carries.{Carries}
use Rattle.journal.specs.declared.event.StartEnd.{StartEnd}
use Rattle.journal.specs.declared.event.StartEnd.TheVariants as end
use Rattle.journal.specs.Processes.{invocation}
use Rattle.journal.specs.Sites.{IsHeldAt}
use Rattle.journal.specs.Starts.{fits_at, misfits_answered}
use Rattle.active_part.specs.Body.{Body}

-- the invocations of these calls that fit the type, in order
abbrev pub fitting : Edentype → Traffic → List ℕ → List Invocation
fitting t traffic ks = map (invocation t traffic) (filter (fits_at t traffic) ks)

-- with these invocations behind those that are queued
abbrev pub queued_body : List Invocation → Body → Body
queued_body is b = record b { crew = record b.crew { queued = b.crew.queued ++ is } }

-- the calls are held at the Eject, and each stands there once
pub record AreQueued (t : Traffic) (u : Uid) (ks : List ℕ) : Type 0 where
  pub held : AllByRecursion (IsHeldAt t u) ks
  pub once : Distinct ks

-- of these calls those that fit join the active part, and the others are answered
pub record Joins (old new : Body) (ks : List ℕ) (m later : Mail) (t : Traffic) : Type 0 where
  pub body : new ≡ queued_body (fitting old.kind t ks) old
  pub calls : Carries later (misfits_answered old.kind ks t)

-- for each traffic that the calls carry
abbrev pub JoinsAll : Body → Body → List ℕ → Mail → Mail → Type 0
JoinsAll old new ks m later = (t : Traffic) (u : Uid) → Carries m t → AreQueued t u ks → Joins old new ks m later t

-- what answers the queue of an Eject that does not start
abbrev pub answer_of : StartEnd → Option Status
answer_of end.Gone = Some status.Gone
answer_of end.Fault = Some status.StoreFault
answer_of end.Damaged = Some status.Damaged
answer_of end.Ok = None
answer_of end.Stop = None
