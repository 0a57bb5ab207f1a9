use Rattle.std.proofs.Common.{◌≡◌, ◌+◌, ◌-◌, map, ap, ◌∙◌, Some, rules, arith}
use Rattle.std.specs.Prelude.{slice_get}
use Rattle.epl_syntax.specs.Rules.Scopes.{number_in}
use Rattle.epl_check.proofs.Named.{named_at, item_at}
use Rattle.epl_check.proofs.index.find.Goals as goal

pub returns : goal.returns
returns g c =
    let xs = c.args.listed.items.now in
    let n = c.in_ok-number.number in
    let numbered : number_in (map g.T.Named.named xs) c.args.text.now 0 ≡ Some n = search rules in
    let there = named_at g.T.Named.named xs c.args.text.now 0 n numbered in
    let place : c.saturating_sub.result ≡ n - (0 + 1) = omega (arith, c.saturating_sub.ensures) in
    item_at xs c.saturating_sub.result c.get.result c.get.ensures.lookup ∙ ap (slice_get xs) place ∙ there.1
