use Rattle.std.proofs.Common.{◌∙◌, ap, map, rules}
use Rattle.std.proofs.lemmas.Fn.{filter_same}
use Rattle.plain_stores.specs.declared.request.PlainRequest.{PlainRequest}
use Rattle.plain_stores.specs.View.{request_of, stays}
use Rattle.plain_stores.proofs.Nodes.{map-filter}
use Rattle.plain_stores.proofs.requests.drop_unmade.Goals as goal

pub returns : goal.returns
returns c = ap (map request_of) (filter_same _ (λ (r : PlainRequest). stays c.args.uid (request_of r)) _ (λ x b f' k. search rules) _ _
    c.retain.ensures.filtered) ∙ map-filter request_of (stays c.args.uid) c.args.requests.now.items
