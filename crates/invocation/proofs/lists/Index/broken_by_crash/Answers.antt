use Rattle.std.proofs.Common.{◌≡◌, ◌<◌, length, sym, ◌∙◌, ap, arith}
use Rattle.std.proofs.lemmas.Result.{IfOk-weaker}
use Rattle.std.specs.List.{filter}
use Rattle.invocation.specs.declared.closing.Cause.TheVariants.{Crash}
use Rattle.invocation.specs.Causes.{is_broken}
use Rattle.invocation.specs.Numbers.{passes_at}
use Rattle.invocation.specs.Listed.{numbers_at}
use Rattle.invocation.proofs.Index.{list-broken}
use Rattle.invocation.proofs.Listed.{numbers-there}
use Rattle.invocation.proofs.lists.Index.broken_by_crash.Goals as goal

pub returns : goal.returns
returns c =
    let nodes = c.args.self.now.nodes.items in
    let cs = c.args.calls.now in
    let cause = Crash c.args.node in
    let list = c.index.result.now in
    let within : c.args.node < length nodes = omega (arith, c.requires.node, c.requires.index.lists.nodes) in
    let at : c.deref.result.now ≡ numbers_at c.args.node nodes =
    c.deref.ensures.value ∙ sym (numbers-there nodes c.args.node list list within c.index.ensures) in
    IfOk-weaker c.broken_numbers.result _ _
    (λ v e. e ∙ ap (filter (passes_at (is_broken cause) cs)) at
    ∙ list-broken cause cs (numbers_at c.args.node nodes) (c.requires.index.crashes c.args.node c.requires.node))
    c.broken_numbers.ensures
