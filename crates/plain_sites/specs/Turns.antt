-- What a turn of a process changes of the site, and what its effect asks of it.
use Rattle.std.specs.Prelude.{◌≡◌, ℕ, Bool, false, nat_le, cond, List, [], Option, None, Some, Ok, slice_get, IsSomeAnd}
use Rattle.std.specs.Option.{option_map}
use Rattle.capability.specs.declared.TheConstants.{MESSAGE_LIMIT}
use Rattle.capability.specs.declared.Uid.{Uid}
use Rattle.eden_codec.specs.Spelling.{values_size}
use Rattle.eden_value.specs.Datum.{Datum}
use Rattle.eden_value.specs.declared.status.Status.TheVariants as status
use Rattle.eden_model.specs.Crew.{Crew, Runs, outside, set_waits}
use Rattle.eden_model.specs.Map.{uid_cmp, value_at, with_item}
use Rattle.eden_model.specs.Traffic.{Traffic, replied}
use Rattle.epl_syntax.specs.declared.effect.Effect.{Effect}
use Rattle.active_part.specs.View.{MayTake, stepped}
use Rattle.active_part.specs.declared.Step.{Step}
use Rattle.active_part.specs.declared.Step.TheVariants.{Lock, Leave, Wait as Stays, Signal}
use Rattle.journal.specs.declared.event.Shown.{Shown}
use Rattle.journal.specs.declared.event.Shown.TheVariants as shown
use Rattle.journal.specs.Ejects.{next_uid, on_crew, told}
use Rattle.journal.specs.FitTurns.{MayStep}
use Rattle.journal.specs.Processes.{CreatesKnown, effected, serving, waits_or_told}
use Rattle.journal.specs.Sites.{InOrder}
use Rattle.journal.specs.World.{Active, Eject, Site, eject_in}
use Rattle.plain_sites.specs.declared.processes.Deed.{Deed}
use Rattle.plain_sites.specs.declared.processes.Deed.TheVariants.{Wait, Ask, Coordinate, Hear}

-- 1. A process of an Eject

-- the Eject is there with this active part, of which the process runs; and the Ejects stand in order
pub record RunsAt (es : List (Uid × Eject)) (u : Uid) (p : ℕ) (e : Eject) (it : Active) : Type 0 where
  -- the Ejects stand in ascending order of their uids
  pub in_order : InOrder es
  -- it is the Eject of this uid
  pub is_there : value_at uid_cmp u es ≡ Some e
  -- it is active with this part
  pub is_active : e.active ≡ Some it
  -- the process is there and waits for nothing
  pub runs : Runs it.crew p

-- the Eject is active, and the process runs
abbrev pub IsRunning : List (Uid × Eject) → Uid → ℕ → Type 0
IsRunning es u p = IsSomeAnd (value_at uid_cmp u es) (λ e. IsSomeAnd e.active (λ it. Runs it.crew p))

-- what comes of a turn to its process
abbrev pub done_by : Deed → ℕ → Active → Active
done_by Wait p = on_crew (set_waits p outside)
done_by (Ask at_once) p = waits_or_told p at_once
done_by (Coordinate step) p = on_crew (stepped step p)
done_by (Hear answer) p = told p answer

-- a step at the monitors is one that the process may take
abbrev pub MayDo : Deed → ℕ → Crew → Type 0
MayDo (Coordinate step) p crew = MayTake crew p step
MayDo _ p crew = Unit {0}

-- the call that the process serves, if it serves one
abbrev pub served_by : Active → ℕ → Option ℕ
served_by it p = option_map (λ i. i.call) (serving it p)

-- 2. Calls

-- a call is answered with these results, or refused where they are too large
abbrev pub answered : List Datum → ℕ → Traffic → Traffic
answered results k t = cond (nat_le (values_size results) MESSAGE_LIMIT) (replied status.Ok results k t) (replied status.TooLarge [] k t)

-- the nodes that are reached are those of which it is said so
abbrev pub Reaches : (ℕ → Bool) → List Bool → Type 0
Reaches reach reached = (n : ℕ) → reach n ≡ with_item (slice_get reached n) (λ it. it) false

-- 3. The effect of a turn

-- the uid that comes next is that of no Eject
abbrev pub HasNewUid : Site → Type 0
HasNewUid s = (v : Uid) → next_uid s ≡ Ok v → eject_in s v ≡ None

-- what is shown of a step at the monitors
abbrev pub shown_step : Step → Shown
shown_step (Lock m) = shown.Lock
shown_step (Leave m) = shown.Leave
shown_step (Stays c) = shown.Wait
shown_step (Signal c) = shown.Signal

-- what the effect of a turn asks of the site behind the turn
pub record MayCome (s : Site) (u : Uid) (p : ℕ) (e : Eject) (it : Active) (effect : Effect) : Type 0 where
  -- the process runs
  pub runs : RunsAt s.node.ejects u p e it
  -- the uid that comes next is that of no Eject
  pub is_new : HasNewUid s
  -- a type of which an Eject is created is there
  pub known : CreatesKnown s.types effect
  -- a step at the monitors is one that the process may take
  pub may_step : MayStep it.crew p effect

-- what the effect of a turn of this active part changes
abbrev pub come : (ℕ → Bool) → Uid → ℕ → Active → Effect → Site → Site
come reach u p it effect s = effected reach u p (serving it p) it.kind it.vars effect s
