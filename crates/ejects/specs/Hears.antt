-- Which messages a node's Ejects have a turn for.
use Rattle.std.specs.Prelude.{ℕ, Bool, true, false, List, None, is_some}
use Rattle.eden_model.specs.Map.{first, with_item}
use Rattle.eden_model.specs.Traffic.{waiting_process}
use Rattle.invocation.specs.declared.call.Call.{Call}
use Rattle.invocation.specs.declared.call.Message.{Message}
use Rattle.invocation.specs.declared.call.Message.TheVariants.{Request, Reply}
use Rattle.invocation.specs.Mail.{Mail, queue_at}
use Rattle.invocation.specs.Numbers.{item_in}

-- a request, or the reply to a call that a process asked
abbrev pub is_heard : List Call → Message → Bool
is_heard calls (Request k) = true
is_heard calls (Reply k s results) = is_some (with_item (item_in k calls) (λ c. waiting_process c.asker) None)

-- the first message from a to b, if there is one, is such
abbrev pub hears : ℕ → ℕ → Mail → Bool
hears a b m = with_item (first (queue_at a b m)) (is_heard m.calls) false
