use Rattle.std.proofs.Common.{◌≡◌, length, map}
use Rattle.plain_calls.proofs.Lists.{changed_front}
use Rattle.plain_stores.specs.View.{freed, request_of}
use Rattle.plain_stores.proofs.requests.leave_process.Given as goal

-- those so far are freed, and there are as many as there were
abbrev pub invariant-loop-i : goal.invariant-loop-i
invariant-loop-i l = (map request_of l.requests.items ≡ changed_front l.i (freed l.uid) (map request_of l.initial.requests.items))
    × (length l.requests.items ≡ length l.initial.requests.items)
