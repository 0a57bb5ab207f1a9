use Rattle.std.proofs.Common.{sym, map, not, arith}
use Rattle.epl_syntax.specs.declared.rule.Rule.TheVariants.{UnknownName}
use Rattle.epl_syntax.specs.Rules.Scopes.{is_among}
use Rattle.epl_check.proofs.Least.{past_one}
use Rattle.epl_check.proofs.names.check_among.Goals as goal

pub returns-then-is_past : goal.returns-then-is_past
returns-then-is_past g c =
    let name = c.args.name.now in
    past_one c.args.first.now name.place name.place UnknownName (not (is_among (map g.T.Named.named c.args.items.now) name.text))
    (sym c.if-is_past.ensures) (omega arith)
