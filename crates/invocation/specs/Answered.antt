-- Runs of the calls that change a mail, and which calls get their answer in them.
use Rattle.std.specs.Prelude.{ℕ, ◌+◌, cond, List, [], ◌∷◌, ◌++◌, length, Option, None, Some}
use Rattle.capability.specs.declared.Uid.{Uid}
use Rattle.capability.specs.declared.Cap.{Cap}
use Rattle.eden_value.specs.Datum.{Datum}
use Rattle.eden_value.specs.declared.status.Status.{Status}
use Rattle.eden_model.specs.declared.Asker.{Asker}
use Rattle.invocation.specs.declared.call.Message.{Message}
use Rattle.invocation.specs.declared.call.Message.TheVariants.{Request, Reply}
use Rattle.invocation.specs.Queues.{with_row}
use Rattle.invocation.specs.Numbers.{passes_at}
use Rattle.invocation.specs.Mail.{Mail, queue_at, is_open, received, with_reply, with_asked, crosses, enters, broken_where, orphaned}
use Rattle.invocation.specs.Mail.{cut_link, cut_node}

-- a call is asked, a reply is sent, a message is delivered, an Eject is lost, a link is cut, or a node crashes
pub data MailChange : Type 0 where
  asked : Asker → Cap → List ℕ → List Datum → Option Status → MailChange
  replied : ℕ → Status → List Datum → MailChange
  delivered : ℕ → ℕ → MailChange
  lost : Uid → MailChange
  cut : ℕ → ℕ → MailChange
  crashed : ℕ → MailChange

-- the first message leaves its queue and is received
abbrev pub with_delivery : ℕ → ℕ → List Message → Mail → Mail
with_delivery a b [] m = m
with_delivery a b (x ∷ xs) m = record { calls = received x m.calls; queues = with_row a b xs m.queues }

-- the mail after a change
abbrev pub changed : MailChange → Mail → Mail
changed (asked asker target operation args at_once) m = with_asked asker target operation args at_once m
changed (replied k s results) m = with_reply k s results m
changed (delivered a b) m = with_delivery a b (queue_at a b m) m
changed (lost u) m = orphaned u m
changed (cut a b) m = cut_link a b m
changed (crashed n) m = cut_node n m

-- a new call that is refused is answered at once
abbrev pub answered_at_once : Option Status → ℕ → List ℕ
answered_at_once None k = []
answered_at_once (Some s) k = k ∷ []

-- a reply answers its call where that is open
abbrev pub answered_by : List Message → Mail → List ℕ
answered_by [] m = []
answered_by (Request k ∷ xs) m = []
answered_by (Reply k s results ∷ xs) m = cond (passes_at is_open m.calls k) (k ∷ []) []

-- the calls that get their answer in this change
abbrev pub answered : MailChange → Mail → List ℕ
answered (asked asker target operation args at_once) m = answered_at_once at_once (length m.calls + 1)
answered (replied k s results) m = []
answered (delivered a b) m = answered_by (queue_at a b m) m
answered (lost u) m = []
answered (cut a b) m = broken_where (crosses a b) m
answered (crashed n) m = broken_where (enters n) m

-- the calls that get their answer in a run
abbrev pub all_answered : Mail → List MailChange → List ℕ
all_answered m [] = []
all_answered m (c ∷ cs) = answered c m ++ all_answered (changed c m) cs
