use Rattle.epl_syntax.proofs.Authority as authority
use Rattle.epl_syntax.proofs.law.types_make_no_capabilities.Goals as goal

pub returns-clause-turn : goal.returns-clause-turn
returns-clause-turn c = authority.turn_keeps_caps

pub returns-clause-begin : goal.returns-clause-begin
returns-clause-begin c = authority.begin_keeps_caps

pub returns-clause-declared : goal.returns-clause-declared
returns-clause-declared c = authority.declared_have_none

pub returns-clause-first : goal.returns-clause-first
returns-clause-first c = authority.first_have_none

pub returns-clause-durable : goal.returns-clause-durable
returns-clause-durable c = authority.durable_keep_caps

pub returns-clause-start : goal.returns-clause-start
returns-clause-start c = authority.start_keeps_caps
