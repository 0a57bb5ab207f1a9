use Rattle.std.proofs.Common.{◌≡◌, ◌<◌, length, sym, ◌∙◌, ap, arith}
use Rattle.std.proofs.lemmas.Result.{IfOk-weaker}
use Rattle.std.specs.List.{filter}
use Rattle.invocation.specs.declared.closing.Cause.TheVariants.{Cut}
use Rattle.invocation.specs.Causes.{is_broken}
use Rattle.invocation.specs.Numbers.{passes_at}
use Rattle.invocation.specs.Listed.{numbers_at, link}
use Rattle.invocation.proofs.Index.{list-broken}
use Rattle.invocation.proofs.Listed.{numbers-there}
use Rattle.invocation.proofs.lists.Index.broken_by_cut.Goals as goal

pub returns : goal.returns
returns c =
    let links = c.args.self.now.links.items in
    let cs = c.args.calls.now in
    let cause = Cut c.args.a c.args.b in
    let list = c.index.result.now in
    let within : c.link.result < length links = omega (arith, c.link.ensures.within, c.requires.index.lists.links) in
    let at : c.deref.result.now ≡ numbers_at (link c.args.a c.args.b) links =
    c.deref.ensures.value ∙ sym (numbers-there links c.link.result list list within c.index.ensures)
    ∙ ap (λ p. numbers_at p links) c.link.ensures.place in
    IfOk-weaker c.broken_numbers.result _ _
    (λ v e. e ∙ ap (filter (passes_at (is_broken cause) cs)) at
    ∙ list-broken cause cs (numbers_at (link c.args.a c.args.b) links)
    (c.requires.index.cuts c.args.a c.args.b c.requires.from c.requires.to))
    c.broken_numbers.ensures
