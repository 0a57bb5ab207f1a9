-- Which capabilities were granted to whom, by the entries that hand some over, and which ones an entry uses.
use Rattle.std.specs.Prelude.{ℕ, Bool, true, false, cond, ◌&&◌, List, [], ◌∷◌, ◌++◌, Option, None, Some}
use Rattle.capability.specs.declared.Uid.{Uid}
use Rattle.capability.specs.declared.Cap.{Cap}
use Rattle.capability.specs.Capability.{full}
use Rattle.eden_value.specs.Datum.{Datum}
use Rattle.eden_value.specs.Caps.{caps_of}
use Rattle.eden_value.specs.declared.status.Status.{Status}
use Rattle.eden_value.specs.declared.status.Status.TheVariants as status
use Rattle.eden_codec.specs.Reading.{reading}
use Rattle.eden_model.specs.Map.{with_item, same_uid}
use Rattle.eden_model.specs.declared.Asker.{Asker}
use Rattle.eden_model.specs.declared.Asker.TheVariants.{Shell, Eject as Process}
use Rattle.eden_model.specs.Traffic.{Call, call_at}
use Rattle.epl_syntax.specs.declared.effect.Effect.{Effect}
use Rattle.epl_syntax.specs.declared.effect.Effect.TheVariants as effect
use Rattle.epl_syntax.specs.Edentype.{Edentype}
use Rattle.epl_syntax.specs.Meaning.{durable_of}
-- each capability of a list is below one of another
pub use Rattle.epl_syntax.specs.Authority.{IsBelowOne, AllBelow}
use Rattle.passive_store.specs.declared.store.Pick.{Pick}
use Rattle.journal.specs.declared.event.Event.{Event}
use Rattle.journal.specs.declared.event.Event.TheVariants as event
use Rattle.journal.specs.declared.event.Shown.TheVariants as shown
use Rattle.journal.specs.declared.event.StartEnd.TheVariants as start_end
use Rattle.journal.specs.World.{World, Active, Site, Meaning, capability, eject_at, is_active_at, site_at, eject_in}
use Rattle.journal.specs.Settling.{settled}
use Rattle.journal.specs.Processes.{turn_of}
use Rattle.journal.specs.References.{meaning_of}
use Rattle.journal.specs.Run.{Step}

-- 1. Who holds them

-- one who may be granted capabilities
pub data Holder : Type 0 where
  -- the shell, from which the script acts
  the_shell : Holder
  -- an Eject, with all its processes as one
  eject : Uid → Holder

-- the holder behind an asker: the shell, or the Eject whose process asks
abbrev pub holder_of : Asker → Holder
holder_of (Shell name) = the_shell
holder_of (Process u p) = eject u

-- both are the shell, or both are one Eject
abbrev pub same_holder : Holder → Holder → Bool
same_holder the_shell the_shell = true
same_holder (eject u) (eject v) = same_uid u v
same_holder _ _ = false

-- in this world the holder can have what it was granted: the shell can, an Eject where it has an active part
abbrev pub is_active : World → Holder → Bool
is_active w the_shell = true
is_active w (eject u) = is_active_at w u

-- 2. What an entry grants: to whom, and what

-- a holder with capabilities: those that it is granted, or those that it uses
abbrev pub Grant : Type 0
Grant = Holder × List Cap

-- of a creation: to the creator and to the new Eject, its capability with all rights
abbrev pub creation_grants : Holder → Uid → List Grant
creation_grants who u = (who, full u ∷ []) ∷ (eject u, full u ∷ []) ∷ []

-- the capability that a name of the script stands for, if it stands for one
abbrev pub cap_meant : Meaning → List Cap
cap_meant (capability c) = c ∷ []
cap_meant _ = []

-- the status is `ok`, and so no refusal
abbrev pub is_ok : Status → Bool
is_ok status.Ok = true
is_ok _ = false

-- the capabilities in kept bytes; none where they spell no representation
abbrev pub stored_caps : List ℕ → List Cap
stored_caps bytes = with_item (reading bytes) (λ rep. caps_of rep.values) []

-- what is kept of an Eject once this pick has settled its node
abbrev pub kept_settled : Uid → Option Pick → Site → Option (List ℕ)
kept_settled u p s = with_item (eject_in (settled p s) u) (λ e. e.kept) None

-- what is kept of this Eject behind the pick of an activation; none for other events
abbrev pub kept_after_pick : World → Uid → Event → Option (List ℕ)
kept_after_pick w u (event.Activate v how p) = with_item (site_at w u.node) (λ s. kept_settled u p s) None
kept_after_pick w u _ = None

-- what the event grants, and to whom: a creation to creator and created, `hold` to the shell, a start its arguments to the Eject,
-- an `ok` reply its results to the asker of an open call, an `ok` activation to the Eject itself, with what its bytes hold
abbrev pub grants : Step → Event → List Grant
grants s (event.Made name status (Some u)) = creation_grants the_shell u
grants s (event.Process u p (shown.Created v)) = creation_grants (eject u) v
grants s (event.Bound name true) = (the_shell, with_item (meaning_of s.later name) cap_meant []) ∷ []
grants s (event.Start k u p) = (eject u, with_item (call_at s.world.traffic k) (λ c. caps_of c.args) []) ∷ []
grants s (event.Reply k a b name status results) =
    with_item (call_at s.world.traffic k) (λ c. cond (is_ok status && c.open_) ((holder_of c.asker, caps_of results) ∷ []) []) []
grants s (event.Activate u start_end.Ok p) =
    (eject u, full u ∷ with_item (kept_after_pick s.world u (event.Activate u start_end.Ok p)) stored_caps []) ∷ []
grants s _ = []

-- all that these grants give to the holder
abbrev pub granted_to : Holder → List Grant → List Cap
granted_to h [] = []
granted_to h (g ∷ gs) = cond (same_holder h g.0) (g.1 ++ granted_to h gs) (granted_to h gs)

-- what a holder was granted in the past, the newest step first; an Eject without an active part has nothing
abbrev pub granted : Holder → List Step → List Cap
granted h [] = []
granted h (s ∷ past) = cond (is_active s.later h) (granted h past ++ granted_to h (grants s s.entry.event)) []

-- 3. What an entry uses

-- a call that is asked: its capability, and those in its arguments
abbrev pub call_uses : Call → Grant
call_uses c = (holder_of c.asker, c.target ∷ caps_of c.args)

-- by the effect of a turn of u: the results of a return, a call's capability and arguments, a checkpoint's durable values
abbrev pub effect_uses : Uid → Edentype → List Datum → Effect → List Grant
effect_uses u t vars (effect.Return results) = (eject u, caps_of results) ∷ []
effect_uses u t vars (effect.Invoke target operation args) = (eject u, target ∷ caps_of args) ∷ []
effect_uses u t vars effect.Checkpoint = (eject u, caps_of (durable_of t vars)) ∷ []
effect_uses u t vars _ = []

-- by the turn of process p of this active part; nothing where it has no task
abbrev pub active_uses : Uid → ℕ → Active → List Grant
active_uses u p it = with_item (turn_of u it p) (λ t. effect_uses u it.kind t.vars t.effect) []

-- what the turn of a process uses
abbrev pub turn_uses : World → Uid → ℕ → List Grant
turn_uses w u p = with_item (eject_at w u) (λ e. with_item e.active (λ it. active_uses u p it) []) []

-- what an entry uses: the capability and the arguments of a call as it is asked, the results of a return, a checkpoint's durable values
abbrev pub uses : Step → Event → List Grant
uses s (event.Asked k name at_once) = with_item (call_at s.later.traffic k) (λ c. call_uses c ∷ []) []
uses s (event.Process u p said) = turn_uses s.world u p
uses s _ = []

-- each capability that is used is below one that its user was granted in the past
abbrev pub AllGranted : List Grant → List Step → Type 0
AllGranted [] past = Unit {0}
AllGranted (g ∷ gs) past = AllBelow g.1 (granted g.0 past) × AllGranted gs past
