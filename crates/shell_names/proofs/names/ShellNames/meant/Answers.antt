use Rattle.std.proofs.Common.{ap, ◌∙◌}
use Rattle.std.specs.Map.{lookup}
use Rattle.std.specs.Option.{option_map}
use Rattle.shell_names.specs.Names.{meaning, meanings}
use Rattle.shell_names.proofs.Tables.{named, looked-up}
use Rattle.shell_names.proofs.names.ShellNames.meant.Goals as goal

pub returns : goal.returns
returns c =
    let es = c.self.inside.names.entries in
    let name = c.args.name.now in
    ap (option_map meaning) (c.get.ensures.value ∙ ap (λ t. lookup (named t) es) c.as_slice.ensures)
    ∙ looked-up meaning name es ∙ ap (λ ns. meanings ns name) c.self.view_is
