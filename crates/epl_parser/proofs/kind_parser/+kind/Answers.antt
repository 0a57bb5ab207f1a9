use Rattle.std.proofs.Common.{◌∙◌, ap, sym, arith, rules, Ok}
use Rattle.eden_value.specs.Shape.{shape}
use Rattle.epl_parser.proofs.Steps.{list_kind_step}
use Rattle.epl_parser.proofs.kind_parser.+kind.Goals as goal

pub returns-in_ok-list_kind-in-List : goal.returns-in_ok-list_kind-in-List
returns-in_ok-list_kind-in-List t c =
    list_kind_step c.args.levels c.args.outer c.args.depth c.args.tokens.now c.in_ok-head.rest.now
    c.in_ok-rest-in-List.rest.now c.in_ok-of-in-List.rest.now c.in_ok-rest-in-List.field-0-0
    (shape c.in_ok-of-in-List.of) (omega (arith, c.in_ok-head.ensures.fits)) (search rules) (search rules) (search rules)
    ∙ ap (λ s. Ok (s, c.in_ok-of-in-List.rest.now)) (sym c.in_ok-list_kind-in-List.ensures)
