-- What is kept of an Eject, and which change of it was cut short, by the entries and the requests that they
-- were about. The past is a list of steps, the newest first.
use Rattle.std.specs.Prelude.{ℕ, ◌==◌, Bool, false, cond, ◌&&◌, List, [], ◌∷◌, Option, None, Some, is_some}
use Rattle.capability.specs.declared.Uid.{Uid}
use Rattle.eden_model.specs.Map.{with_item, or_else, same_uid}
use Rattle.passive_store.specs.declared.store.Pick.{Pick}
use Rattle.passive_store.specs.declared.store.Pick.TheVariants as pick
use Rattle.journal.specs.EjectChange.{EjectChange, kept_of}
use Rattle.journal.specs.declared.event.Event.{Event}
use Rattle.journal.specs.declared.event.Event.TheVariants as event
use Rattle.journal.specs.declared.event.StartEnd.TheVariants as start_end
use Rattle.journal.specs.declared.event.RequestEnd.{RequestEnd}
use Rattle.journal.specs.declared.event.RequestEnd.TheVariants as request_end
use Rattle.journal.specs.World.{World, Site, StoreRequest, site_at}
use Rattle.journal.specs.Settling.{first_request}
use Rattle.journal.specs.Stores.{work_of, makes_own_call}
use Rattle.journal.specs.Run.{Step}

-- 1. What an entry says of a node and of an Eject

-- what a settling of this node picked in the event
abbrev pub picked : ℕ → Event → Option Pick
picked n (event.Boot m e how p began) = cond (m == n) p None
picked n (event.Activate u how p) = cond (u.node == n) p None
picked n (event.Store u clock how p) = cond (u.node == n) p None
picked n _ = None

-- the event crashes this node
abbrev pub crashes : ℕ → Event → Bool
crashes n (event.Crash m) = m == n
crashes n (event.Activate u start_end.Stop p) = u.node == n
crashes n (event.Store u clock request_end.Stop p) = u.node == n
crashes n _ = false

-- a device call of a put or a removal of u: the change, and how the call ended
abbrev pub own_call_of : Uid → Site → StoreRequest → RequestEnd → Option (EjectChange × RequestEnd)
own_call_of u s r how = cond (same_uid r.uid u && makes_own_call (work_of s r)) (Some (r.change, how)) None

-- the same of the node's first request, if it has one
abbrev pub own_call_at : Uid → Site → RequestEnd → Option (EjectChange × RequestEnd)
own_call_at u s how = with_item (first_request s.node) (λ r. own_call_of u s r how) None

-- the same by the event, in the world before it: only a turn of the store makes such a call
abbrev pub own_call : Uid → World → Event → Option (EjectChange × RequestEnd)
own_call u w (event.Store v clock how p) = with_item (site_at w v.node) (λ s. own_call_at u s how) None
own_call u w _ = None

-- 2. What was cut short

-- a change that has made a device call, and has not ended
abbrev pub under_way : EjectChange × RequestEnd → Option EjectChange
under_way (c, request_end.Part) = Some c
under_way (c, how) = None

-- the change of u whose last device call left more of them to make, unless its node crashed since
abbrev pub in_progress : Uid → List Step → Option EjectChange
in_progress u [] = None
in_progress u (s ∷ past) =
    cond (crashes u.node s.entry.event) None (with_item (own_call u s.world s.entry.event) under_way (in_progress u past))

-- the change, where a failure or a stop of this call cut it short
abbrev pub cut_by : EjectChange × RequestEnd → Option EjectChange
cut_by (c, request_end.Fault) = Some c
cut_by (c, request_end.Stop) = Some c
cut_by (c, how) = None

-- the last change of u that a failure, a stop or a crash ended, and that no pick has settled since
abbrev pub cut_short : Uid → List Step → Option EjectChange
cut_short u [] = None
cut_short u (s ∷ past) = cond (is_some (picked u.node s.entry.event)) None
    (with_item (own_call u s.world s.entry.event) cut_by
    (cond (crashes u.node s.entry.event) (or_else (in_progress u past) (cut_short u past)) (cut_short u past)))

-- 3. What is kept

-- the change, where this call ended it as done
abbrev pub acknowledged : EjectChange × RequestEnd → Option EjectChange
acknowledged (c, request_end.Done) = Some c
acknowledged (c, how) = None

-- the change that was cut short, where a settling found it done
abbrev pub with_pick : Option Pick → Option EjectChange → Option EjectChange
with_pick (Some pick.New) cut = cut
with_pick _ cut = None

-- the change that the entry made: one acknowledged, or one cut short that it found done
abbrev pub change_by : Uid → Step → List Step → Option EjectChange
change_by u s past = or_else (with_item (own_call u s.world s.entry.event) acknowledged None)
    (with_pick (picked u.node s.entry.event) (cut_short u past))

-- what was kept last: by the last change of u that was made, else what the opening image held
abbrev pub last_kept : Option (List ℕ) → Uid → List Step → Option (List ℕ)
last_kept held u [] = held
last_kept held u (s ∷ past) = with_item (change_by u s past) kept_of (last_kept held u past)

-- what a start in this entry starts from: what was cut short where the entry itself finds it done, else what was kept last
abbrev pub start_bytes : Option (List ℕ) → Uid → Option Pick → List Step → Option (List ℕ)
start_bytes held u p past = with_item (with_pick p (cut_short u past)) kept_of (last_kept held u past)
