use Rattle.std.proofs.Common.{◌∙◌, ap, sym, subst, ℕ, List}
use Rattle.epl_syntax.specs.Rules.InItems.{broken_program}
use Rattle.epl_syntax.specs.Tree as tree
use Rattle.epl_syntax.specs.declared.tree.Program.{Program}
use Rattle.epl_check.specs.Refusals.{Refuses}
use Rattle.eden_script.specs.Declarations.{Declares, types_in}
use Rattle.eden_script.proofs.TypeNames.{same_names}
use Rattle.mistakes.proofs.declared.declared.Goals as goal

pub returns-in-Err-clause-refused : goal.returns-in-Err-clause-refused
returns-in-Err-clause-refused c = c.refused_by_grammar.ensures (types_in c.args.types.now) c.args.text.now c.in-Err.ensures.answers

pub returns-in-Ok-resolve-clause-declares : goal.returns-in-Ok-resolve-clause-declares
returns-in-Ok-resolve-clause-declares c =
    subst (λ (p : Program). Declares (types_in c.args.types.now) c.args.text.now (tree.type_tree p)) (sym c.of.ensures)
    (subst (Declares (types_in c.args.types.now) c.args.text.now) (sym c.resolve.ensures.tree) (record {
      spelled = c.in-Ok.ensures.answers;
      keeps_rules =
          ap (λ (names : List (List ℕ)). broken_program names (tree.type_tree c.in-Ok.program)) (sym (same_names c.args.types.now))
          ∙ c.in_default.ensures.ok;
    }))

pub returns-in-Err-check-clause-refused : goal.returns-in-Err-check-clause-refused
returns-in-Err-check-clause-refused c =
    c.refused_type.ensures (types_in c.args.types.now) c.args.text.now (tree.type_tree c.in-Ok.program) c.in-Ok.ensures.answers
    (subst (λ (names : List (List ℕ)). Refuses (broken_program names (tree.type_tree c.in-Ok.program)) c.in-Err-check.refusal)
    (same_names c.args.types.now) c.in-Err-check.ensures.refused)
