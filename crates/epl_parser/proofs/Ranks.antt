-- How a call of the parser comes before those that it makes.
use Rattle.std.proofs.Common.{ℕ}
use Rattle.epl_parser.specs.declared.head.Level.{Level}
use Rattle.epl_parser.specs.declared.head.Level.TheVariants as level

abbrev pub chain_rank : Level → ℕ
chain_rank level.Or = 17
chain_rank level.And = 14
chain_rank level.Sum = 9
chain_rank level.Term = 6
