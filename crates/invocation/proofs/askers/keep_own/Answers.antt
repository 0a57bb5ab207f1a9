use Rattle.std.proofs.Common.{rules}
use Rattle.std.proofs.lemmas.Fn.{filter_same}
use Rattle.invocation.specs.Numbers.{passes_at}
use Rattle.invocation.specs.Made.{is_own}
use Rattle.invocation.proofs.askers.keep_own.Goals as goal

pub returns : goal.returns
returns c =
    filter_same _ (passes_at (is_own c.args.uid) c.args.calls.now) _ (λ x b f' k. search rules) c.args.numbers.now.items
    c.retain.new.self.items c.retain.ensures.filtered
