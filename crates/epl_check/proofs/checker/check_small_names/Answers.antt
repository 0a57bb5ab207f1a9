use Rattle.std.proofs.Common.{◌++◌, ap, ◌∙◌, map}
use Rattle.epl_syntax.specs.Tree.{variable}
use Rattle.epl_syntax.specs.Rules.First.{least}
use Rattle.epl_syntax.specs.Rules.Scopes.{doubled}
use Rattle.epl_check.proofs.Doubled.{three_told}
use Rattle.epl_check.proofs.Items.{vars_named}
use Rattle.epl_check.proofs.checker.check_small_names.Goals as goal

pub returns : goal.returns
returns c =
    let o = c.args.first.now in
    let p = c.args.program.now in
    let vs = c.as_slice-vars.result.now in
    let cs = c.as_slice-conditions.result.now in
    let ks = c.as_slice-classes.result.now in
    three_told o c.check_doubled.new.first c.check_doubled-2.new.first c.check_doubled-3.new.first (map (λ v. v.name) vs)
    (map (λ k. k.name) cs) (map (λ k. k.name) ks) c.check_doubled.ensures c.check_doubled-2.ensures c.check_doubled-3.ensures
    ∙ ap (λ l. least o (doubled (map (λ v. v.name) l ++ map (λ k. k.name) cs ++ map (λ k. k.name) ks))) c.as_slice-vars.ensures.value
    ∙ ap (λ l. least o (doubled (l ++ map (λ k. k.name) cs ++ map (λ k. k.name) ks))) (vars_named p.vars.items)
    ∙ ap (λ l. least o (doubled (map (λ v. v.name) (map variable p.vars.items) ++ map (λ k. k.name) l ++ map (λ k. k.name) ks)))
    c.as_slice-conditions.ensures.value
    ∙ ap (λ l. least o (doubled (map (λ v. v.name) (map variable p.vars.items) ++ map (λ k. k.name) p.conditions.items ++ map
    (λ k. k.name) l))) c.as_slice-classes.ensures.value
