use Rattle.std.proofs.Common.{◌≡◌, drop}
use Rattle.eden_model.specs.Traffic as traffic
use Rattle.plain_calls.specs.View.{traffic_of}
use Rattle.plain_calls.proofs.PlainCalls.reply_all.Given as goal

-- with replies to the calls that are left, all have theirs
abbrev pub invariant-loop-number : goal.invariant-loop-number
invariant-loop-number l = traffic.all_replied l.status (drop l.number-index l.numbers) (traffic_of l.self)
    ≡ traffic.all_replied l.status l.numbers (traffic_of l.initial.self)
