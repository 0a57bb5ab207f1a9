-- What a turn of a process answers.
use Rattle.std.specs.Prelude.{◌≡◌, ◌+◌, length, ℕ, map, nat_le, cond, Bool, false, List, [], ◌++◌, Option, None, Some, IsSomeAnd}
use Rattle.std.specs.List.{AllByRecursion}
use Rattle.capability.specs.declared.Uid.{Uid}
use Rattle.eden_value.specs.Datum.{Datum}
use Rattle.capability.specs.declared.TheConstants.{MESSAGE_LIMIT}
use Rattle.eden_codec.specs.Spelling.{values_size}
use Rattle.eden_value.specs.declared.status.Status.TheVariants as status
use Rattle.eden_model.specs.Lines.{has, Distinct}
use Rattle.eden_model.specs.Crew.{Invocation, startable, running}
use Rattle.eden_model.specs.Traffic.{Traffic, replied, all_replied, orphaned, with_call}
use Rattle.eden_model.specs.declared.Asker.TheVariants.{Eject as Process}
use Rattle.capability.specs.declared.Cap.{Cap}
use Rattle.locator.specs.Reach.{Stations, reaches}
use Rattle.journal.specs.declared.event.Shown.TheVariants as shown
use Rattle.invocation.specs.Mail.{Mail}
use Rattle.invocation.specs.Carries.{Carries}
use Rattle.journal.specs.declared.event.Shown.{Shown}
use Rattle.journal.specs.Processes.{answers, shown_return, refused_at_once}
use Rattle.active_part.specs.Body.{Body, calls_of}
use Rattle.ejects.specs.Parts.{Parts}
use Rattle.active_part.specs.Bodies.{ended_body, asking_body, serves_of}
use Rattle.ejects.specs.View.{with_body}
use Rattle.ejects.specs.Passive.{HoldsPassive}

-- no message of the call is on its way
abbrev pub IsOut : Option Invocation → Traffic → Type 0
IsOut None t = Unit {0}
IsOut (Some i) t = has i.call t.transit ≡ false

-- no message of any of these calls is on its way
abbrev pub AreOut : Traffic → List ℕ → Type 0
AreOut t ks = AllByRecursion (λ k. has k t.transit ≡ false) ks

-- the calls of processes that serve some
abbrev pub seconds : List (ℕ × ℕ) → List ℕ
seconds pairs = map (λ p. p.1) pairs

-- results that are too large are refused
abbrev pub sized : List Datum → ℕ → Traffic → Traffic
sized results k t = cond (nat_le (values_size results) MESSAGE_LIMIT) (replied status.Ok results k t) (replied status.TooLarge [] k t)

-- the call of this number may start at an active part
abbrev pub StartsAt : Option Body → ℕ → Type 0
StartsAt o k = IsSomeAnd o (λ b. IsSomeAnd (startable b.crew.crew b.crew.queued) (λ i. k ≡ i.call))

-- a process ended, and its call was answered
pub record Returned (u : Uid) (p : ℕ) (results : List Datum) (b : Body) (old new : Parts) (m later : Mail) (said : Shown) : Type 0 where
  pub parts : new ≡ with_body u (ended_body p b) old
  pub shown : said ≡ shown_return (serves_of b p)
  pub calls : (t : Traffic) → Carries m t → IsOut (serves_of b p) t → Carries later (answers (serves_of b p) results t)

-- an active part ended by a fault: what ran and what was queued is answered
pub record Faulted (u : Uid) (stays : Bool) (b : Body) (old new : Parts) (m later : Mail) : Type 0 where
  pub parts : HoldsPassive u old new [] stays
  pub calls : (t : Traffic) → Carries m t → AreOut t (running b.crew.crew) → AreOut t (calls_of b.crew.queued)
      → Distinct (running b.crew.crew ++ calls_of b.crew.queued)
      → Carries later (all_replied status.Dropped (calls_of b.crew.queued)
      (all_replied status.Dropped (running b.crew.crew) (orphaned u t)))

-- the traffic as an active part that deactivated itself leaves it; where the Eject does not stay, its queue is answered `gone`
abbrev pub slept : Uid → Bool → Body → Traffic → Traffic
slept u stays b t = cond stays (all_replied status.Dropped (running b.crew.crew) (orphaned u t))
    (all_replied status.Gone (calls_of b.crew.queued) (all_replied status.Dropped (running b.crew.crew) (orphaned u t)))

-- an active part ended by itself: what ran is answered, and what was queued stays with the Eject
pub record Slept (u : Uid) (stays : Bool) (b : Body) (old new : Parts) (m later : Mail) : Type 0 where
  pub parts : HoldsPassive u old new (cond stays (calls_of b.crew.queued) []) stays
  pub calls : (t : Traffic) → Carries m t → AreOut t (running b.crew.crew) → AreOut t (calls_of b.crew.queued)
      → Distinct (running b.crew.crew ++ calls_of b.crew.queued) → Carries later (slept u stays b t)

-- which nodes are reached from this one, by the stations
pub record Reaches (reach : ℕ → Bool) (places : Stations) (n : ℕ) : Type 0 where
  pub at : (b : ℕ) → reach b ≡ reaches places n b

-- a call was made, or answered as it was asked
pub record Invoked (places : Stations) (u : Uid) (p : ℕ) (target : Cap) (operation : List ℕ) (args : List Datum) (b : Body)
    (old new : Parts) (m later : Mail) (said : Shown) : Type 0 where
  pub parts : new ≡ with_body u (asking_body p (refused_at_once (reaches places u.node target.uid.node) args) b) old
  pub shown : said ≡ shown.Invoke (length m.calls + 1)
  pub calls : (t : Traffic) → Carries m t → Carries later
      (with_call (length m.calls + 1) (Process u p) target operation args (refused_at_once (reaches places u.node target.uid.node) args) t)
