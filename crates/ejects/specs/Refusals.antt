-- Whether a call is refused, by what is known of its target.
use Rattle.std.specs.Prelude.{nat_lt, cond, not, length, Option, None, Some}
use Rattle.eden_value.specs.declared.status.Status.{Status}
use Rattle.eden_value.specs.declared.status.Status.TheVariants as status
use Rattle.eden_model.specs.Map.{with_item}
use Rattle.eden_model.specs.Traffic.{Call}
use Rattle.journal.specs.Deliveries.{misfit}
use Rattle.ejects.specs.Parts.{Known}

-- the status that refuses a call, if one does: `gone`, then `busy` from 64 queued calls on, then what does not fit an active target
abbrev pub refusal_of : Call → Known → Option Status
refusal_of c k = cond (not k.there) (Some status.Gone)
    (cond (not (nat_lt (length k.queued) 64)) (Some status.Busy) (with_item k.active (λ it. misfit it.kind c) None))
