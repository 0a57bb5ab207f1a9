use Rattle.equal_answers.proofs.Steps.{alike_stores, blank_stores}
use Rattle.equal_answers.proofs.law.alike_stores_answer_alike.Goals as goal

pub returns-clause-from_any : goal.returns-clause-from_any
returns-clause-from_any c = alike_stores

pub returns-clause-from_blank : goal.returns-clause-from_blank
returns-clause-from_blank c = blank_stores
