-- Whose turns an event may change: what decides them of an Eject, and which Ejects an event is about.
use Rattle.std.specs.Prelude.{◌≡◌, ℕ, Bool, false, ◌||◌, List, [], Option, None, Some}
use Rattle.std.specs.Option.{option_map}
use Rattle.capability.specs.declared.Uid.{Uid}
use Rattle.eden_model.specs.Crew.{Crew}
use Rattle.eden_model.specs.Map.{with_item}
use Rattle.eden_model.specs.declared.Asker.{Asker}
use Rattle.eden_model.specs.declared.Asker.TheVariants.{Shell, Eject as Process}
use Rattle.epl_syntax.specs.Edentype.{Edentype}
use Rattle.invocation.specs.Mail.{Mail}
use Rattle.invocation.specs.Numbers.{item_in}
use Rattle.journal.specs.declared.event.Event.{Event}
use Rattle.journal.specs.declared.event.Event.TheVariants as event
use Rattle.journal.specs.declared.event.Shown.{Shown}
use Rattle.journal.specs.declared.event.Shown.TheVariants as shown
use Rattle.journal.specs.World.{Active, Eject, Site, eject_in}
use Rattle.agenda.specs.Indexed.{is_it}

-- what decides the turns of an Eject: of its active part the type, the processes and who waits for whom; and its queue
abbrev pub part_of : Active → Edentype × Crew
part_of it = (it.kind, it.crew)

-- of an Eject: that of its active part, if it has one, and its queue; neither where there is no such Eject
abbrev pub deciding : Option Eject → Option (Edentype × Crew) × List ℕ
deciding None = (None, [])
deciding (Some e) = (option_map part_of e.active, e.queued)

-- it is the same at both sites, but for these Ejects
pub record SameBut (those : Uid → Bool) (s t : Site) : Type 0 where
  pub at : (v : Uid) → those v ≡ false → deciding (eject_in t v) ≡ deciding (eject_in s v)

-- the Eject that asked a call, if it was not the shell
abbrev pub eject_of : Asker → Option Uid
eject_of (Shell name) = None
eject_of (Process u p) = Some u

-- the Eject of a process, where its turn may have changed what the Eject may do: it has not where the process let others go on
abbrev pub turn_about : Uid → Shown → Option Uid
turn_about u shown.Yield = None
turn_about u _ = Some u

-- The Eject that an event is about, by the calls behind it: the target of a request, the asker of a reply, or the Eject that took its turn.
abbrev pub concerned : Mail → Event → Option Uid
concerned m (event.Request k a b refused) = option_map (λ c. c.target.uid) (item_in k m.calls)
concerned m (event.Reply k a b name status values) = with_item (item_in k m.calls) (λ c. eject_of c.asker) None
concerned m (event.Activate u how p) = Some u
concerned m (event.Start k u p) = Some u
concerned m (event.Process u p said) = turn_about u said
concerned m (event.Store u clock how p) = Some u
concerned m _ = None

-- the Eject that a process created in its turn
abbrev pub uid_shown : Shown → Option Uid
uid_shown (shown.Created u) = Some u
uid_shown _ = None

-- the Eject that was created in an event, where that is the turn of a process; none in any other
abbrev pub created_in : Event → Option Uid
created_in (event.Process u p said) = uid_shown said
created_in _ = None

-- it is one of two Ejects, where there are such
abbrev pub is_either : Option Uid → Option Uid → Uid → Bool
is_either a b v = is_it a v || is_it b v
