-- Messages are delivered: a request joins the queue of its Eject or is refused, and a reply closes its call.
use Rattle.std.specs.Prelude.{◌≡◌, ℕ, nat_lt, cond, not, List, [], ◌∷◌, ◌++◌, length, Option, None, Some, IsSomeAnd}
use Rattle.capability.specs.Rights.{is_within}
use Rattle.eden_value.specs.Datum.{Datum}
use Rattle.eden_value.specs.declared.status.Status.{Status}
use Rattle.eden_value.specs.declared.status.Status.TheVariants as status
use Rattle.eden_model.specs.Map.{with_item}
use Rattle.eden_model.specs.declared.Asker.{Asker}
use Rattle.eden_model.specs.declared.Asker.TheVariants.{Shell, Eject as Process}
use Rattle.eden_model.specs.Traffic.{Traffic, Call, asked, held, answered, call_at, changed_call, at_place, closed, taken, replied}
use Rattle.eden_model.specs.Traffic.{next_message, shell_name}
use Rattle.epl_syntax.specs.declared.effect.Answer.TheVariants.{Reply as Told}
use Rattle.epl_syntax.specs.Edentype.{Edentype}
use Rattle.epl_syntax.specs.Kinds.{have_shapes}
use Rattle.epl_syntax.specs.Meaning.{Operation, operation_of}
use Rattle.journal.specs.World.{Eject, Site, Meaning, nothing, results, eject_in, on_eject, on_traffic}
use Rattle.journal.specs.Ejects.{is_there, tells}

-- 1. Requests

-- what is wrong with a call of this operation, if anything: too few rights, or other arguments
abbrev pub misfit_of : Call → Operation → Option Status
misfit_of c o = cond (not (is_within (record { bits = o.needs }) c.target.rights)) (Some status.NoRight)
    (cond (not (have_shapes c.args o.params)) (Some status.BadArguments) None)

-- what is wrong with a call to an Eject of this type, if anything: there is no such operation, or the call does not fit it
abbrev pub misfit : Edentype → Call → Option Status
misfit t c = with_item (operation_of t c.operation) (misfit_of c) (Some status.NoOperation)

-- the status that refuses a call at this Eject, if one does, in the order of the tests
abbrev pub refusal : Call → Eject → Option Status
refusal c e = cond (not (is_there e)) (Some status.Gone)
    (cond (not (nat_lt (length e.queued) 64)) (Some status.Busy)
    (with_item e.active (λ it. misfit it.kind c) None))

-- the status that refuses a call at the site of its target, if one does; `gone` where the node never had that Eject
abbrev pub refusal_at : Site → Call → Option Status
refusal_at s c = with_item (eject_in s c.target.uid) (refusal c) (Some status.Gone)

-- the request of call k may be delivered, from a to b, and is refused with this status, or is not
pub record AllowsRequest (s : Site) (k a b : ℕ) (refused : Option Status) : Type 0 where
  -- of the messages from a to b, that of call k was sent first
  pub first_in_queue : next_message s.traffic a b ≡ Some k
  -- it is a request, and what is shown is the status that refuses it, if one does
  pub delivered : IsSomeAnd (call_at s.traffic k) (λ c. (c.place ≡ asked) × (refused ≡ refusal_at s c))

-- a request is refused, and the refusal travels back; or it joins the queue
abbrev pub requested : ℕ → Option Status → Site → Site
requested k (Some status) s = on_traffic (λ t. replied status [] k (taken k t)) s
requested k None s = with_item (call_at s.traffic k)
    (λ c. on_eject c.target.uid (λ e. record e { queued = e.queued ++ k ∷ [] })
    (on_traffic (λ t. changed_call k (at_place held) (taken k t)) s)) s

-- 2. Replies

-- the reply of call k may be delivered, from a to b, with this status and these values
pub record AllowsReply (t : Traffic) (k a b : ℕ) (name : Option (List ℕ)) (status : Status) (values : List Datum) : Type 0 where
  -- the message of call k is the next that goes from a to b
  pub first_in_queue : next_message t a b ≡ Some k
  -- it is a reply, with this status and these values; the name is that of the shell's call, none where a process asked
  pub delivered : IsSomeAnd (call_at t k) (λ c. (c.place ≡ answered status values) × (name ≡ shell_name c.asker))

-- a process that asked is told the reply; for the shell nothing changes at a site
abbrev pub tells_asker : Asker → Status → List Datum → Site → Site
tells_asker (Shell name) status values s = s
tells_asker (Process u p) status values s = tells u p (Told status values) s

-- the reply leaves its queue, and its call is closed
abbrev pub received : ℕ → Traffic → Traffic
received k t = changed_call k closed (taken k t)

-- a reply to a process: the call is closed, and where it was open until then, the process is told
abbrev pub heard : ℕ → Status → List Datum → Site → Site
heard k status values s = with_item (call_at s.traffic k)
    (λ c. cond c.open_ (tells_asker c.asker status values (on_traffic (received k) s)) (on_traffic (received k) s)) s

-- what the name of a call stands for once it is answered
abbrev pub meaning_of_reply : Status → List Datum → Meaning
meaning_of_reply status.Ok values = results values
meaning_of_reply _ values = nothing
