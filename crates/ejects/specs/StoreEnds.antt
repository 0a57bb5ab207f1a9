-- What the end of a store's request leaves of an Eject and its calls.
use Rattle.std.specs.Prelude.{◌≡◌, ℕ, Bool, true, false, [], Option, None, Some, is_some, IsSomeAnd}
use Rattle.capability.specs.declared.Uid.{Uid}
use Rattle.eden_value.specs.declared.status.Status.{Status}
use Rattle.eden_value.specs.declared.status.Status.TheVariants as status
use Rattle.eden_model.specs.Lines.{Distinct}
use Rattle.eden_model.specs.Map.{same_uid}
use Rattle.eden_model.specs.Traffic.{Traffic, all_replied}
use Rattle.epl_syntax.specs.declared.effect.Answer.TheVariants.{Code}
use Rattle.passive_store.specs.declared.store.Pick.{Pick}
use Rattle.invocation.specs.Mail.{Mail}
use Rattle.invocation.specs.Carries.{Carries}
use Rattle.checkpoint.specs.declared.worker.StoreEnd.{StoreEnd}
use Rattle.checkpoint.specs.declared.worker.StoreEnd.TheVariants.{Done, Full, Fault, Stopped}
use Rattle.journal.specs.EjectChange.{EjectChange, body, removal}
use Rattle.journal.specs.declared.event.RequestEnd.{RequestEnd}
use Rattle.journal.specs.declared.event.RequestEnd.TheVariants as end
use Rattle.journal.specs.World.{Eject, StoreRequest, Site, eject_in}
use Rattle.journal.specs.Settling.{first_request, settled_eject}
use Rattle.active_part.specs.Body.{Body}
use Rattle.active_part.specs.Bodies.{told_body}
use Rattle.ejects.specs.Parts.{Parts, body_at, queue_at}
use Rattle.ejects.specs.Passive.{HoldsPassive, IsKeptIn}
use Rattle.ejects.specs.Replies.{AreOut, Slept}
use Rattle.ejects.specs.View.{with_body}

-- 1. How a request ended

-- the code that its process is told; a node that stopped tells none
abbrev pub code_of_end : StoreEnd → Option Status
code_of_end Done = Some status.Ok
code_of_end Full = Some status.Full
code_of_end Fault = Some status.StoreFault
code_of_end Stopped = None

-- how the event shows the end of a request that its node outlives
abbrev pub IsShownAs : StoreEnd → RequestEnd → Type 0
IsShownAs Done how = how ≡ end.Done
IsShownAs Full how = how ≡ end.Full
IsShownAs Fault how = how ≡ end.Fault
IsShownAs Stopped how = ⊥

-- a removal that is done takes the Eject with it
abbrev pub takes_eject : Bool → StoreEnd → Bool
takes_eject removes Done = removes
takes_eject removes Full = false
takes_eject removes Fault = false
takes_eject removes Stopped = false

-- 2. Which request it was

-- whether a change removes the Eject and gives it no new bytes
abbrev pub is_removal : EjectChange → Bool
is_removal (body bytes) = false
is_removal removal = true

-- where a request of this Eject answers no process, something is kept of the Eject, or may be: a request that outlives its process has
-- begun, and so its change is in doubt
abbrev pub KeepsUnasked : Option ℕ → Uid → Site → Type 0
KeepsUnasked None u s = IsKeptIn s u true
KeepsUnasked (Some p) u s = Unit {0}

-- the node's first request is of this Eject, of which something is kept, or may be, where the request answers no process
pub record IsFirstOf (u : Uid) (s : Site) : Type 0 where
  pub request : StoreRequest
  pub is_first : first_request s.node ≡ Some request
  pub uid : request.uid ≡ u
  pub kept : KeepsUnasked request.process u s

-- and answers this process, if any, and is a removal or none; where it answers none, something is kept of the Eject, or may be
pub record IsFirst (u : Uid) (process : Option ℕ) (removes : Bool) (s : Site) : Type 0 where
  pub request : StoreRequest
  pub is_first : first_request s.node ≡ Some request
  pub uid : request.uid ≡ u
  pub answers : request.process ≡ process
  pub asks : is_removal request.change ≡ removes
  pub kept : KeepsUnasked process u s

-- 3. What it leaves

-- the process that waited for it, if any, is told
abbrev pub Told : Uid → Option ℕ → Status → Parts → Parts → Type 0
Told u None why old new = new ≡ old
Told u (Some p) why old new = IsSomeAnd (body_at old u) (λ b. new ≡ with_body u (told_body p (Code why) b) old)

-- a passive Eject went: what was queued is answered
pub record Vanished (u : Uid) (old new : Parts) (m later : Mail) : Type 0 where
  pub parts : HoldsPassive u old new [] false
  pub calls : (t : Traffic) → Carries m t → AreOut t (queue_at old u) → Distinct (queue_at old u)
      → Carries later (all_replied status.Gone (queue_at old u) t)

-- an Eject went, which was active or passive
abbrev pub WentAs : Option Body → Uid → Parts → Parts → Mail → Mail → Type 0
WentAs None u old new m later = Vanished u old new m later
WentAs (Some b) u old new m later = Slept u false b old new m later

-- the Eject went, as an active or as a passive one, by how the old parts hold it
abbrev pub Went : Uid → Parts → Parts → Mail → Mail → Type 0
Went u old new m later = WentAs (body_at old u) u old new m later

-- the Eject went, or all stays
abbrev pub WentIf : Bool → Uid → Parts → Parts → Mail → Mail → Type 0
WentIf true u old new m later = Went u old new m later
WentIf false u old new m later = (new ≡ old) × (later ≡ m)

-- 4. A settling

-- of a node whose epoch is settled this Eject alone may be in doubt, and by this pick something is kept of it or nothing
pub record SettlesAt (u : Uid) (stays : Bool) (p : Pick) (s : Site) : Type 0 where
  pub epoch : s.node.epoch_doubt ≡ None
  pub only : (v : Uid) (e : Eject) → eject_in s v ≡ Some e → same_uid v u ≡ false → e.doubt ≡ None
  pub kept : (e : Eject) → eject_in s u ≡ Some e → is_some (settled_eject p e).kept ≡ stays
