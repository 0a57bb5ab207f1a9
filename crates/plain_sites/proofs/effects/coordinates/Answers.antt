use Rattle.plain_sites.proofs.effects.coordinates.Goals as goal

pub returns-clause-changes : goal.returns-clause-changes
returns-clause-changes c ts t e it h may = c.act_on.ensures ts t e it h may
