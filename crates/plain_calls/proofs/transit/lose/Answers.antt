use Rattle.std.proofs.Common.{ℕ, not, rules}
use Rattle.std.proofs.lemmas.Fn.{filter_same}
use Rattle.plain_calls.specs.Changes.{hits_number}
use Rattle.plain_calls.proofs.transit.lose.Goals as goal

pub returns : goal.returns
returns c = filter_same _ (λ (k : ℕ). not (hits_number c.args.cause c.args.calls.now k)) _
    (λ x b f' k. search rules) _ _ c.retain.ensures.filtered
