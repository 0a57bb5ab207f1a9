use Rattle.std.proofs.Common.{map, ap, ◌∙◌}
use Rattle.epl_syntax.specs.Tree.{type_tree, parameter, local_of}
use Rattle.epl_syntax.specs.Bindings.{names_seen}
use Rattle.epl_check.proofs.BindingTurns.{body_noted}
use Rattle.epl_check.proofs.resolver.note_operation.Goals as goal

pub returns : goal.returns
returns c =
    let t = type_tree c.args.program.now in
    let o = c.args.o.now in
    body_noted c.note_block.result c.args.bindings.now c.note_block.new.bindings _ _ _ _
    (c.names_in-names.ensures ∙ ap (λ l. names_seen t (map parameter l) (map local_of c.deref-2.result.now)) c.deref.ensures.value
    ∙ ap (λ l. names_seen t (map parameter o.params.items) (map local_of l)) c.deref-2.ensures.value)
    c.deref-3.ensures.value c.note_block.ensures
