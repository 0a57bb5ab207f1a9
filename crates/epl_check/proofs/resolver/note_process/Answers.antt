use Rattle.std.proofs.Common.{map, ap, ◌∙◌, []}
use Rattle.epl_syntax.specs.Tree.{type_tree, local_of}
use Rattle.epl_syntax.specs.Bindings.{names_seen}
use Rattle.epl_check.proofs.BindingTurns.{body_noted}
use Rattle.epl_check.proofs.resolver.note_process.Goals as goal

pub returns : goal.returns
returns c =
    body_noted c.note_block.result c.args.bindings.now c.note_block.new.bindings _ _ _ _
    (c.names_in-names.ensures ∙ ap (λ l. names_seen (type_tree c.args.program.now) [] (map local_of l)) c.deref.ensures.value)
    c.deref-2.ensures.value c.note_block.ensures
