use Rattle.grammar.proofs.Scale.{eight_bytes}
use Rattle.grammar.proofs.Within.{within_bounds}
use Rattle.grammar.proofs.number.number_of.Goals as goal

pub number_more-requires : goal.number_more-requires
number_more-requires c = eight_bytes c.args.width c.requires.width

pub returns-clause-within : goal.returns-clause-within
returns-clause-within c = within_bounds c.args.least c.args.most c.requires.bounds c.args.width c.requires.least c.args.bytes.now
    (λ x. x.0) (λ x. x.1.now) c.number_more.result c.number_more.ensures
