use Rattle.std.proofs.Common.{map, ap, ◌∙◌, []}
use Rattle.epl_syntax.specs.Tree.{type_tree, parameter}
use Rattle.epl_syntax.specs.Bindings.{names_seen}
use Rattle.epl_check.proofs.BindingTurns.{changes_noted}
use Rattle.epl_check.proofs.resolver.note_upgrade.Goals as goal

pub returns : goal.returns
returns c =
    changes_noted c.note_changes.result c.args.bindings.now c.note_changes.new.bindings _ _ _ _
    (c.names_in-names.ensures ∙ ap (λ l. names_seen (type_tree c.args.program.now) (map parameter l) []) c.deref.ensures.value)
    c.deref-2.ensures.value c.note_changes.ensures
