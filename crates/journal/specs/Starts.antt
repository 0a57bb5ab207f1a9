-- A passive Eject is activated from what is kept of it.
use Rattle.std.specs.Prelude.{◌≡◌, ℕ, Bool, true, false, cond, not, ◌&&◌, List, [], ◌∷◌, Option, None, Some, is_some, IsSomeAnd, IsTrue}
use Rattle.std.specs.List.{filter}
use Rattle.capability.specs.declared.Uid.{Uid}
use Rattle.eden_value.specs.Datum.{Datum}
use Rattle.eden_value.specs.declared.status.Status.TheVariants as status
use Rattle.eden_codec.specs.Reading.{reading}
use Rattle.eden_model.specs.Map.{with_item, first, same_uid}
use Rattle.eden_model.specs.Traffic.{Traffic, call_at, replied}
use Rattle.epl_syntax.specs.Edentype.{Edentype}
use Rattle.epl_syntax.specs.Meaning.{started_from, values_from}
use Rattle.passive_store.specs.declared.store.Pick.{Pick}
use Rattle.journal.specs.declared.event.StartEnd.{StartEnd}
use Rattle.journal.specs.declared.event.StartEnd.TheVariants as end
use Rattle.journal.specs.World.{Eject, Site, eject_in, on_eject, on_traffic}
use Rattle.journal.specs.Ejects.{turned_away, fresh}
use Rattle.journal.specs.Deliveries.{misfit}
use Rattle.journal.specs.Settling.{first_request, is_working, to_settle, settled, unsynced}
use Rattle.journal.specs.Crashes.{crashed}

-- 1. What the bytes say

-- the type and the durable values with which an Eject starts from these bytes, if it does
abbrev pub start_of : List Edentype → List ℕ → Uid → Option (Edentype × List Datum)
start_of types bytes me = with_item (reading bytes) (λ rep. started_from types rep me) None

-- how an activation may end by what is kept
abbrev pub StartsSo : List Edentype → Uid → Option (List ℕ) → StartEnd → Type 0
StartsSo types u None end.Gone = Unit {0}
StartsSo types u None _ = ⊥
StartsSo types u (Some bytes) end.Ok = IsTrue (is_some (start_of types bytes u))
StartsSo types u (Some bytes) end.Damaged = start_of types bytes u ≡ None
StartsSo types u (Some bytes) end.Fault = Unit {0}
StartsSo types u (Some bytes) end.Stop = Unit {0}
StartsSo types u (Some bytes) end.Gone = ⊥

-- how an activation may end whose settling failed: in a fault or a stop
abbrev pub FailsSettling : StartEnd → Type 0
FailsSettling end.Fault = Unit {0}
FailsSettling end.Stop = Unit {0}
FailsSettling _ = ⊥

-- how an activation may end with this pick: there is a pick exactly where there was a doubt to settle (true) and its settling succeeded
abbrev pub StartsFrom : Site → Uid → Bool → StartEnd → Option Pick → Type 0
StartsFrom s u false how p = (p ≡ None) × IsSomeAnd (eject_in s u) (λ e. StartsSo s.types u e.kept how)
StartsFrom s u true how None = FailsSettling how
StartsFrom s u true how (Some p) = IsSomeAnd (eject_in (settled (Some p) s) u) (λ e. StartsSo s.types u e.kept how)

-- the store works on this Eject
abbrev pub is_worked_on : Site → Uid → Bool
is_worked_on s u = is_working s.node && with_item (first_request s.node) (λ r. same_uid r.uid u) false

-- the Eject e, whose uid is u, may be activated with this end and this pick
pub record AllowsActivate (s : Site) (u : Uid) (how : StartEnd) (p : Option Pick) (e : Eject) : Type 0 where
  -- it has no active part
  pub is_passive : e.active ≡ None
  -- a call is queued at it
  pub has_queued : IsTrue (is_some (first e.queued))
  -- the store does not work on it
  pub not_worked_on : is_worked_on s u ≡ false
  -- the end is one that what is kept of it allows, behind the settling where there is a doubt to settle
  pub starts : StartsFrom s u (to_settle s) how p

-- 2. What it changes

-- the queued calls that do not fit the type are answered, in order
abbrev pub misfits_answered : Edentype → List ℕ → Traffic → Traffic
misfits_answered t [] traffic = traffic
misfits_answered t (k ∷ ks) traffic = misfits_answered t ks
    (with_item (call_at traffic k) (λ c. with_item (misfit t c) (λ status. replied status [] k traffic) traffic) traffic)

-- whether the type has the operation of call k, and the call has the rights and the arguments for it
abbrev pub fits_at : Edentype → Traffic → ℕ → Bool
fits_at t traffic k = with_item (call_at traffic k) (λ c. not (is_some (misfit t c))) false

-- the Eject starts with this type and these durable values; queued calls that do not fit the type are answered and leave the queue
abbrev pub awake_as : Uid → Eject → Edentype × List Datum → Site → Site
awake_as u e start s = on_traffic (misfits_answered start.0 e.queued)
    (on_eject u (λ old. record old {
      active = Some (fresh start.0 (values_from start.0 start.1));
      queued = filter (fits_at start.0 s.traffic) e.queued;
    }) s)

-- the Eject starts from these bytes; where they start none, nothing changes
abbrev pub awake_from : Uid → Eject → List ℕ → Site → Site
awake_from u e bytes s = with_item (start_of s.types bytes u) (λ start. awake_as u e start s) s

-- the Eject starts from what is kept of it, if something is
abbrev pub awake : Uid → Site → Site
awake u s = with_item (eject_in s u) (λ e. with_item e.kept (λ bytes. awake_from u e bytes s) s) s

-- what an activation comes to by its end: the Eject is awake, its queued calls are turned away, or the node crashes
abbrev pub activated : Uid → StartEnd → Site → Site
activated u end.Ok s = awake u s
activated u end.Gone s = turned_away u status.Gone s
activated u end.Fault s = turned_away u status.StoreFault s
activated u end.Damaged s = turned_away u status.Damaged s
activated u end.Stop s = crashed s

-- where there is a doubt to settle, the settling begins anew, and what was picked, if anything was, settles it
abbrev pub start_settled : Option Pick → Site → Site
start_settled p s = cond (to_settle s) (settled p (unsynced s)) s

-- the site after an activation: the settling comes first, where there is a doubt to settle
abbrev pub activation_turn : Uid → StartEnd → Option Pick → Site → Site
activation_turn u how p s = activated u how (start_settled p s)
