use Rattle.std.proofs.Common.{◌∙◌, ap}
use Rattle.std.specs.List.{filter}
use Rattle.eden_model.specs.Map.{first}
use Rattle.plain_calls.specs.Changes.{goes_number}
use Rattle.plain_calls.proofs.Changed.{queue-as}
use Rattle.plain_calls.proofs.PlainCalls.next_message.Goals as goal

pub returns : goal.returns
returns c =
    let cs = c.args.self.now.calls.items in
    let ts = c.args.self.now.transit.items in
    c.first_between.ensures ∙ (ap (λ l. first (filter (goes_number c.args.a c.args.b l) c.deref-2.result.now)) c.deref.ensures.value
    ∙ (ap (λ l. first (filter (goes_number c.args.a c.args.b cs) l)) c.deref-2.ensures.value ∙ ap first (queue-as c.args.a c.args.b cs ts)))
