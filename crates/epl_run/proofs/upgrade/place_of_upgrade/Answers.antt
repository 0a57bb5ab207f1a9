use Rattle.std.proofs.Common.{◌≡◌, ◌<◌, length, ap, ◌∙◌, arith, get_or}
use Rattle.epl_syntax.specs.Tree.{type_tree}
use Rattle.epl_syntax.specs.Upgrades.{upgrade_for}
use Rattle.epl_run.proofs.UpgradeLaws.{taken_here, not_here}
use Rattle.epl_run.proofs.upgrade.place_of_upgrade.Goals as goal

pub returns-then-takes : goal.returns-then-takes
returns-then-takes c =
    let p = c.args.program.now in
    let within : c.loop-at.at < length p.upgrades.items =
    omega (arith, c.loop-at-test.true, ap length c.deref-upgrade-items.ensures.value) in
    let at : c.upgrade-item.result ≡ get_or p.upgrades.items c.loop-at.at c.upgrade-item.result =
    c.upgrade-item.is ∙ ap (λ us. get_or us c.loop-at.at c.upgrade-item.result) c.deref-upgrade-items.ensures.value in
    taken_here p.upgrades.items c.loop-at.at c.upgrade-item.result c.args.rep.now (upgrade_for (type_tree p) c.args.rep.now) within at
    c.if-takes.ensures c.loop-at.invariant

pub loop-at-preserved : goal.loop-at-preserved
loop-at-preserved c =
    let p = c.args.program.now in
    let within : c.loop-at.at < length p.upgrades.items =
    omega (arith, c.loop-at-test.true, ap length c.deref-upgrade-items.ensures.value) in
    let at : c.upgrade-item.result ≡ get_or p.upgrades.items c.loop-at.at c.upgrade-item.result =
    c.upgrade-item.is ∙ ap (λ us. get_or us c.loop-at.at c.upgrade-item.result) c.deref-upgrade-items.ensures.value in
    not_here p.upgrades.items c.loop-at.at c.upgrade-item.result c.args.rep.now (upgrade_for (type_tree p) c.args.rep.now) within at
    c.if-takes.ensures c.loop-at.invariant
