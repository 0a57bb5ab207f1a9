use Rattle.std.proofs.Common.{◌≡◌, ap, sym, ◌∙◌, map}
use Rattle.eden_value.specs.Shape.{shape}
use Rattle.epl_syntax.specs.declared.tree.VarDecl.{VarDecl}
use Rattle.epl_syntax.specs.Tree.{Variable, type_tree, variable}
use Rattle.epl_values.specs.Variables.{kind_there, kind_at}
use Rattle.epl_values.proofs.Places.{var_kinds}
use Rattle.epl_values.proofs.variables.kind_at.Goals as goal

pub returns-in-Variable : goal.returns-in-Variable
returns-in-Variable c =
    let t = type_tree c.args.program.now in
    let v = c.args.vars.now in
    let kinds : map (λ (x : VarDecl). shape x.kind.kind) c.deref.result.now ≡ map (λ (x : Variable). x.kind.shape) t.vars =
    sym (var_kinds c.deref.result.now) ∙ ap (λ xs. map (λ (x : Variable). x.kind.shape) (map variable xs)) c.deref.ensures.value in
    c.kind_there-in-Variable.ensures
    ∙ ap (λ ks. kind_there ks v.vars c.from-in-Variable.result) kinds
    ∙ ap (kind_there (map (λ (x : Variable). x.kind.shape) t.vars) v.vars) c.from-in-Variable.ensures
    ∙ sym (ap (kind_at t v) c.in-Variable.is)
