use Rattle.std.proofs.Common.{◌≡◌, cond, Some, ap, ◌∙◌}
use Rattle.eden_model.specs.Map.{same_text}
use Rattle.shell_names.specs.Names.{meaning, meanings, names_in}
use Rattle.shell_names.proofs.Tables.{inserted}
use Rattle.shell_names.proofs.Worlds.{bound-stands}
use Rattle.shell_names.proofs.names.ShellNames.bind.Goals as goal

pub returns-clause-means : goal.returns-clause-means
returns-clause-means c other =
    let es = c.self.inside.names.entries in
    let key = c.in_ok-key.key in
    let key_is : key.items ≡ c.args.name.now = c.in_ok-key.ensures.items ∙ c.as_slice.ensures in
    ap (λ fs. meanings (names_in fs) other) c.in_ok-insert.ensures.entries ∙ inserted meaning key c.args.meant es other
    ∙ (λ i. cond (same_text (key_is i) other) (Some (meaning c.args.meant)) (meanings (c.self.view_is i) other))

pub returns-clause-stands : goal.returns-clause-stands
returns-clause-stands c =
    bound-stands c.args.self.now (names_in c.insert.new.self.entries) c.args.name.now (meaning c.args.meant) (returns-clause-means c)
