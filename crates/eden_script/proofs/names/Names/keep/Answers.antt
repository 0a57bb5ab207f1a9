use Rattle.std.proofs.Common.{◌∙◌, ap, map}
use Rattle.eden_script.specs.Names.{with_name}
use Rattle.eden_script.proofs.InOrder.{bytes_of, name_kept}
use Rattle.eden_script.proofs.names.Names.keep.Goals as goal

pub returns : goal.returns
returns c =
    ap (λ keys. map bytes_of keys) c.in_ok-insert.ensures.keys
    ∙ name_kept c.self.inside.in_order.keys c.args.name
    ∙ ap (λ names. with_name names c.args.name.items) c.self.view_is
