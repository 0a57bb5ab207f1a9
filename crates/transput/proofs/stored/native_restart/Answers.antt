use Rattle.std.proofs.Common.{true, [], ◌∷◌, ◌++◌, sym, ap, ◌∙◌}
use Rattle.std.proofs.lemmas.List.{map_push}
use Rattle.eden_value.specs.Datum.{truth}
use Rattle.eden_value.specs.View.{datum, datums}
use Rattle.transput.proofs.Keeping.{restart_is}
use Rattle.transput.proofs.stored.native_restart.Goals as goal

pub returns : goal.returns
returns c kinds =
    ap datums c.in_ok-push.ensures.items ∙ map_push datum c.durable.inside.values.items _
    ∙ ap (λ ds. ds ++ truth true ∷ []) c.durable.view_is ∙ sym (restart_is c.args.stream c.args.durable kinds)
