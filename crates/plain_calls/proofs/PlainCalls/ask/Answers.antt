use Rattle.std.proofs.Common.{◌≡◌, ◌+◌, ℕ, List, ◌∙◌, ap, arith, length}
use Rattle.eden_model.specs.Map.{put_at}
use Rattle.std.specs.Ordering.{nat_cmp}
use Rattle.eden_model.specs.Traffic as traffic
use Rattle.plain_calls.specs.declared.call.Call.{Call}
use Rattle.plain_calls.specs.View.{calls_of}
use Rattle.plain_calls.proofs.Changed.{both, calls-more, length-calls}
use Rattle.plain_calls.proofs.PlainCalls.ask.Goals as goal

number : (cs : List Call) (k : ℕ) → k ≡ length (calls_of cs) + 1 → length cs + 1 ≡ k
number cs k is = omega (arith, is, length-calls cs)

pub returns-clause-calls : goal.returns-clause-calls
returns-clause-calls c =
    let cs = c.args.self.now.calls.items in
    let new = traffic.new_call c.args.asker c.args.target c.args.operation c.args.args c.args.at_once in
    both _ _ _ _ (ap calls_of c.in_ok-push.ensures.items ∙ (calls-more cs c.new_call.result new c.new_call.ensures
    ∙ ap (λ n. put_at nat_cmp n new (calls_of cs)) (number cs c.next_number-number.result c.next_number-number.ensures)))
    c.in_ok-send_unless.ensures
