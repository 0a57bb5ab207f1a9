use Rattle.std.proofs.Common.{◌≡◌, Err, true, map, ap, sym, subst, ◌∙◌}
use Rattle.epl_syntax.specs.Tree.{type_tree, upgrade, change}
use Rattle.epl_syntax.specs.Upgrades.{assigned}
use Rattle.epl_values.specs.Comes.{Stops}
use Rattle.epl_values.specs.Variables.{memory, is_found}
use Rattle.epl_values.specs.declared.variables.Owner.TheVariants.{Upgrade}
use Rattle.epl_run.specs.Found.{each_change}
use Rattle.epl_run.proofs.Found.{changes_found}
use Rattle.epl_run.proofs.UpgradeLaws.{made, not_made}
use Rattle.epl_run.proofs.upgrade.made_by.Goals as goal

pub returns-in-Ok : goal.returns-in-Ok
returns-in-Ok c =
    let t = type_tree c.args.program.now in
    let u = upgrade c.args.upgrade.now in
    made t c.args.at u c.args.rep.now c.args.me (memory t c.in_ok-vars.vars) c.assign_each.new.vars c.keep_declared.new.vars
    c.requires.there
    c.requires.takes (c.in_ok-vars.ensures.seen u c.requires.there)
    (ap (λ cs. assigned (map change cs) (memory t c.in_ok-vars.vars)) (sym c.deref.ensures.value) ∙ c.in-Ok.ensures.made)
    c.keep_declared.ensures

pub returns-in-Err-Fault : goal.returns-in-Err-Fault
returns-in-Err-Fault c =
    let t = type_tree c.args.program.now in
    let u = upgrade c.args.upgrade.now in
    let faults : assigned (map change c.deref.result.now) (memory t c.in_ok-vars.vars) ≡ Err c.in-Err-Fault.field-0-0 =
    subst (λ w. Stops w (assigned (map change c.deref.result.now) (memory t c.in_ok-vars.vars))) c.in-Err-Fault.field-0-is
    c.in-Err-Fault.ensures.made in
    not_made t c.args.at u c.args.rep.now c.args.me (memory t c.in_ok-vars.vars) _ c.requires.there
    c.requires.takes (c.in_ok-vars.ensures.seen u c.requires.there)
    (ap (λ cs. assigned (map change cs) (memory t c.in_ok-vars.vars)) (sym c.deref.ensures.value) ∙ faults)

pub assign_each-requires : goal.assign_each-requires
assign_each-requires c =
    let p = c.args.program.now in
    let all = changes_found p c.args.at (upgrade c.args.upgrade.now) c.requires.resolved c.requires.there in
    subst (λ owner. each_change (is_found p owner) (map change c.deref.result.now) ≡ true) (sym c.in_ok-vars.ensures.owner)
    (subst (λ cs. each_change (is_found p (Upgrade c.args.at)) (map change cs) ≡ true) (sym c.deref.ensures.value) all)
