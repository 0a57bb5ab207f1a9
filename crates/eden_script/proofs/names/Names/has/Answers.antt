use Rattle.std.proofs.Common.{◌∙◌, ap}
use Rattle.script_words.specs.Form.{is_among}
use Rattle.eden_script.proofs.InOrder.{found_name}
use Rattle.eden_script.proofs.names.Names.has.Goals as goal

pub returns : goal.returns
returns c =
    c.contains.ensures
    ∙ found_name c.args.name.now c.self.inside.in_order.keys
    ∙ ap (λ names. is_among names c.args.name.now) c.self.view_is
