use Rattle.std.proofs.Common.{◌∙◌, ap, sym}
use Rattle.std.specs.Option.{option_map}
use Rattle.plain_calls.specs.View.{call_of, at_number}
use Rattle.plain_calls.proofs.Changed.{find-call}
use Rattle.plain_calls.proofs.PlainCalls.call.Goals as goal

pub returns : goal.returns
returns c = ap (option_map call_of) (c.item_at.ensures ∙ ap (at_number c.args.number) c.deref.ensures.value)
    ∙ sym (find-call c.args.number c.args.self.now.calls.items)
