use Rattle.std.proofs.Common.{rules, refl}
use Rattle.epl_syntax.specs.Tree.{parameter, local_of, variable}
use Rattle.epl_check.proofs.BindingTurns.{same_names}
use Rattle.epl_check.proofs.resolver.names_in.Goals as goal

pub returns : goal.returns
returns c =
    let p = same_names (λ p. p.name) parameter (λ p. p.name) c.args.params.now (λ p. refl) in
    let l = same_names (λ v. v.name) local_of (λ v. v.name) c.args.locals.now (λ v. refl) in
    let v = same_names (λ v. v.name) variable (λ v. v.name) c.args.program.now.vars.items (λ v. refl) in
    search (rules, p, l, v)
