use Rattle.std.proofs.Common.{ℕ, not, ◌==◌, rules}
use Rattle.std.proofs.lemmas.Fn.{filter_same}
use Rattle.plain_calls.proofs.transit.let_go.Goals as goal

pub returns : goal.returns
returns c = filter_same _ (λ (k : ℕ). not (k == c.args.number)) _ (λ x b f' k. search rules) _ _ c.retain.ensures.filtered
