use Rattle.epl_syntax.proofs.Leading.{front_within}
use Rattle.epl_syntax.proofs.lexer.front_token.Goals as goal

pub returns-clause-within : goal.returns-clause-within
returns-clause-within c = front_within _ _ c.token_at.ensures
