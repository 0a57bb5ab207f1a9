use Rattle.std.proofs.Common.{◌≡◌, ap, ◌∙◌, subst, map}
use Rattle.std.specs.Prelude.{OnOk}
use Rattle.epl_syntax.specs.declared.tree.UpgradeDecl.{UpgradeDecl}
use Rattle.epl_syntax.specs.Rules.First.{least}
use Rattle.epl_syntax.specs.Rules.Scopes.{doubled_numbers}
use Rattle.epl_check.proofs.Items.{upgrades_numbered}
use Rattle.epl_check.proofs.checker.check_upgrade_numbers.Goals as goal

pub returns : goal.returns
returns c =
    let r = c.check_doubled_numbers in
    subst (λ ns. OnOk r.result (r.new.first ≡ least c.args.first.now (doubled_numbers ns)))
    (ap (map (λ (u : UpgradeDecl). u.from)) c.deref.ensures.value ∙ upgrades_numbered c.args.program.now.upgrades.items)
    r.ensures
