use Rattle.epl_syntax.proofs.Pipelines as pipelines
use Rattle.epl_syntax.proofs.law.filters_make_their_functions.Goals as goal

pub returns-clause-one_more : goal.returns-clause-one_more
returns-clause-one_more c = pipelines.filters_make_their_functions

pub returns-clause-end : goal.returns-clause-end
returns-clause-end c = pipelines.filters_end_as_their_functions

pub returns-clause-fronts : goal.returns-clause-fronts
returns-clause-fronts c = pipelines.pipelines_keep_fronts
