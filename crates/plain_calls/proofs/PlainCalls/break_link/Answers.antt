use Rattle.std.proofs.Common.{◌∙◌, ap, not}
use Rattle.std.specs.List.{filter}
use Rattle.plain_calls.specs.declared.closing.Cause.TheVariants.{Cut}
use Rattle.plain_calls.specs.Changes.{closed_by, hits_number}
use Rattle.plain_calls.proofs.Changed.{both, calls-each, kept-as}
use Rattle.plain_calls.proofs.PlainCalls.break_link.Goals as goal

pub returns : goal.returns
returns c =
    let cs = c.args.self.now.calls.items in
    let ts = c.args.self.now.transit.items in
    both _ _ _ _ (calls-each (closed_by (Cut c.args.a c.args.b)) cs c.close_each.new.calls.items c.close_each.ensures)
    (c.lose.ensures ∙ (ap (λ ds. filter (λ k. not (hits_number (Cut c.args.a c.args.b) ds k)) ts) c.deref.ensures.value
    ∙ kept-as (Cut c.args.a c.args.b) cs ts))
